-- Sessions: how one begins, goes on with one frame more, and ends; for an input and a connection
-- alike.
use Rattle.std.proofs.Common.{◌≡◌, ℕ, ◌+◌, ◌<◌, List, [], ◌∷◌, ◌++◌, length, refl}
use Rattle.std.specs.Prelude.{Option, Some, None, Result, Ok, Err, IfErr, unwrap_or}
use Rattle.std.specs.Io.KnownBytes.{Consumes}
use Rattle.std.specs.List.{flat_map}
use Rattle.std.proofs.KnownBytes.{Consumes-nil, Consumes-trans}
use Rattle.std.proofs.lemmas.Grind.{flat_map-append}
use Rattle.std.proofs.lemmas.List.{append-nil}
use Rattle.dsn_outcome.specs.Request.{Body}
use Rattle.dsn_frame.specs.bodies.BodyFault.{body_fault_code}
use Rattle.dsn_frame.specs.bodies.FrameBody.{frame}
use Rattle.dsn_frame.specs.bodies.Request.{first_body_fault}
use Rattle.dsn_frame.specs.declared.bodies.body_fault.BodyFault.{BodyFault}
use Rattle.dsn_frame.specs.declared.bodies.body_fault.BodyFault.TheVariants as faults
use Rattle.dsn_frame.specs.declared.bodies.spoken.Spoken.{Spoken}
use Rattle.dsn_frame.specs.declared.bodies.spoken.Spoken.TheVariants as spoken
use Rattle.dsn_frame.specs.Frame.{ReadsNext, ReadsNone}
use Rattle.dsn_frame.specs.FrameFault.{frame_fault_code}
use Rattle.dsn_frame.specs.Refusal.{refusal_code, refusal_end, IsFrameRefused}
use Rattle.dsn_frame.specs.Session.{Medium, Input, Takes, faulty, out_of_memory, out_of_turn, GoesOn, written, begun, taken, stopped, well, cut, too_many, no_memory_for_book, IsSession}
use Rattle.dsn_frame.specs.inner.Session.{IsOpenSession}
use Rattle.dsn_frame.specs.declared.frame_fault.FrameFault.{FrameFault}
use Rattle.dsn_frame.specs.declared.refusal.Refusal.{Refusal}
use Rattle.dsn_frame.specs.declared.refusal.Refusal.TheVariants as refusals

-- ---- the result of one frame

refused_by : (medium : Medium) (limit accepted place : ℕ) (bytes : List ℕ) (fault : BodyFault) (first : Option BodyFault) → first_body_fault bytes ≡ first → fault ≡ unwrap_or first faults.NoMemory
    → Takes medium limit accepted place bytes [] (spoken.Refused (body_fault_code fault) ∷ []) None
refused_by medium limit accepted place bytes fault None none is = rw is (out_of_memory none)
refused_by medium limit accepted place bytes fault (Some first) some is = rw is (faulty first some)

-- a refused frame is answered with its refusal, and asks nothing
pub refused_takes : (medium : Medium) (limit accepted place : ℕ) (bytes : List ℕ) (refusal : Refusal) → IsFrameRefused place bytes refusal
    → Takes medium limit accepted place bytes [] (spoken.Refused (refusal_code refusal) ∷ []) (refusal_end refusal)
refused_takes medium limit accepted place bytes (refusals.Body fault) is = refused_by medium limit accepted place bytes fault (first_body_fault bytes) refl is
refused_takes medium limit accepted place bytes refusals.OutOfTurn is = out_of_turn is.number is.body is.encoded is.apart

-- this holds for every result that is a refusal
pub refused_takes_any : {A : Type 0} (medium : Medium) (limit accepted place : ℕ) (bytes : List ℕ) (result : Result A Refusal) → IfErr result (λ refusal. IsFrameRefused place bytes refusal)
    → IfErr result (λ refusal. Takes medium limit accepted place bytes [] (spoken.Refused (refusal_code refusal) ∷ []) (refusal_end refusal))
refused_takes_any medium limit accepted place bytes (Ok body) is = tt
refused_takes_any medium limit accepted place bytes (Err refusal) is = refused_takes medium limit accepted place bytes refusal is

-- ---- a session that goes on

frames_more : (frames : List (List ℕ)) (bytes : List ℕ) → flat_map frame (frames ++ bytes ∷ []) ≡ flat_map frame frames ++ frame bytes
frames_more frames bytes = rw (flat_map-append frame frames (bytes ∷ []), append-nil (frame bytes)) refl

module _ (medium : Medium) (limit before : ℕ) (start : Option (List ℕ)) where
  -- before the first frame is read
  pub session_begun : IsOpenSession medium limit before start start [] [] []
  session_begun = record { takes = begun; read = Consumes-nil start }

  read_more : (left next : Option (List ℕ)) (frames : List (List ℕ)) (bytes : List ℕ) → Consumes start left (flat_map frame frames) → Consumes left next (frame bytes) → Consumes start next (flat_map frame (frames ++ bytes ∷ []))
  read_more left next frames bytes first more = rw (frames_more frames bytes) (Consumes-trans start left next (flat_map frame frames) (frame bytes) first more)

  module _ (left next : Option (List ℕ)) (frames : List (List ℕ)) (bodies : List Body) (answers : List Spoken) (bytes : List ℕ) (session : IsOpenSession medium limit before start left frames bodies answers) (few : length frames < limit) (reads : ReadsNext left next (Some bytes)) where
    -- one frame more was read and answered, and the session goes on
    pub session_more : (more : List Body) (said : List Spoken) → Takes medium limit (before + length bodies) (length frames) bytes more said None
        → IsOpenSession medium limit before start next (frames ++ bytes ∷ []) (bodies ++ more) (answers ++ said)
    session_more more said takes = record {
      takes = taken frames bodies more answers said bytes None None session.takes few reads.0 takes (written said None);
      read = read_more left next frames bytes session.read reads.1;
    }

    -- ---- the end at a frame

    -- the session ended at the frame
    pub session_stopped : (more : List Body) (said : List Spoken) (end : Option ℕ) (code : ℕ) → Takes medium limit (before + length bodies) (length frames) bytes more said end → GoesOn medium said end (Some code)
        → IsSession medium limit before start next (frames ++ bytes ∷ []) (bodies ++ more) (answers ++ said) (Some code)
    session_stopped more said end code takes goes = record {
      made = Some code;
      takes = taken frames bodies more answers said bytes end (Some code) session.takes few reads.0 takes goes;
      left = next;
      read = read_more left next frames bytes session.read reads.1;
      ends = stopped code refl refl;
    }

  -- ---- the end before a frame is read

  module _ (left now : Option (List ℕ)) (frames : List (List ℕ)) (bodies : List Body) (answers : List Spoken) (session : IsOpenSession medium limit before start left frames bodies answers) where
    -- there is no further frame
    pub session_well : ReadsNext left now None → IsSession medium limit before start now frames bodies answers None
    session_well reads = record { made = None; takes = session.takes; left = left; read = session.read; ends = well refl reads.0 reads.1 }

    -- the next frame can't be read
    pub session_cut : (fault : FrameFault) → ReadsNone left now fault → IsSession medium limit before start now frames bodies answers (Some (frame_fault_code fault))
    session_cut fault reads = record { made = None; takes = session.takes; left = left; read = session.read; ends = cut refl fault reads }

    -- there is a frame beyond the limit
    pub session_too_many : (bytes : List ℕ) → length frames ≡ limit → ReadsNext left now (Some bytes) → IsSession medium limit before start now frames bodies answers (Some 47)
    session_too_many bytes full reads = record { made = None; takes = session.takes; left = left; read = session.read; ends = too_many refl bytes full reads.0 reads.1 }

-- memory for the logs of an input is refused before anything is read
pub session_no_memory : (limit before : ℕ) (start : Option (List ℕ)) → IsSession Input limit before start start [] [] [] (Some 9)
session_no_memory limit before start = record { made = None; takes = begun; left = start; read = Consumes-nil start; ends = no_memory_for_book refl refl refl refl }
