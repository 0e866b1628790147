-- Some session: over all bytes there is a session that meets no event from outside, whatever its
-- replies are.
use Rattle.std.proofs.Common.{◌≡◌, ℕ, ◌+◌, ◌<◌, ◌≤◌, ◌⊎◌, inl, inr, Bool, true, false, cond, List, [], ◌∷◌, ◌++◌, length, take, drop, refl, sym, ap, subst, arith}
use Rattle.std.specs.Prelude.{◌≢◌, Option, Some, None, option_and_then}
use Rattle.std.specs.Int.{w32, to_be_bytes}
use Rattle.std.specs.List.{flat_map, AllByRecursion}
use Rattle.std.specs.Option.{option_map, option_map_or}
use Rattle.std.proofs.Math.Seq.{take-append_seam}
use Rattle.std.proofs.lemmas.Bool.{cases_lt}
use Rattle.std.proofs.lemmas.List.{append-nil, length-append, length-take, take-take, take-append-drop}
use Rattle.dsn_outcome.specs.Outcome.{Fields, outcome_checks, first_outcome_fault, first_failed}
use Rattle.dsn_outcome.specs.Request.{Body}
use Rattle.dsn_text.specs.Service.{service_of_byte}
use Rattle.dsn_outcome.specs.declared.answer.Replied.{Replied}
use Rattle.dsn_outcome.specs.declared.outcome_fault.OutcomeFault.{OutcomeFault}
use Rattle.dsn_text.specs.declared.service.Service.{Service}
use Rattle.dsn_frame.specs.bodies.BodyFault.{body_fault_code, outcome_refusal}
use Rattle.dsn_frame.specs.bodies.FrameBody.{frame, IsFrameBody}
use Rattle.dsn_frame.specs.bodies.Request.{Encodes, layout_checks, head_checks, flush_checks, usual_wishes, retry_checks, undated_fields, dated_fields, typed_fields, or_else, first_append_fault, first_own_fault, first_field_fault, first_body_fault}
use Rattle.dsn_frame.specs.bodies.Wire.{WireBody, AppendFields, DatedAppendFields, TypedAppendFields, FlushFieldsOf, CountedFlushFields, DiscardFields, ForgetFields, head_of, body_at}
use Rattle.dsn_frame.specs.declared.bodies.body_fault.BodyFault.{BodyFault}
use Rattle.dsn_frame.specs.declared.bodies.spoken.Spoken.{Spoken}
use Rattle.dsn_frame.specs.declared.bodies.spoken.Spoken.TheVariants as spoken
use Rattle.dsn_frame.proofs.bodies.Existence.{accepted_is_encoded}
use Rattle.dsn_frame.proofs.bodies.FieldLaws.{IsBytes, IsBytes-take, IsBytes-after}
use Rattle.dsn_frame.specs.Frame.{FramesEnd, ReadsNext}
use Rattle.dsn_frame.specs.Session.{Medium, faulty, out_of_turn, used_up, asked, written, IsSession}
use Rattle.dsn_frame.specs.inner.Session.{IsOpenSession}
use Rattle.dsn_frame.specs.SessionLaws.{is_from_outside, IsDecided, RepliesAre, SessionWith, HasSomeSession}
use Rattle.dsn_frame.specs.declared.frame_fault.FrameFault.{FrameFault}
use Rattle.dsn_frame.specs.declared.frame_fault.FrameFault.TheVariants.{NoMemory, TooLong, Empty, CutShort, Read}
use Rattle.dsn_frame.proofs.Existence.{frames_exist}
use Rattle.dsn_frame.proofs.SessionFrames.{all_both, frames_cons}
use Rattle.dsn_frame.proofs.SessionLemmas.{session_begun, session_more, session_stopped, session_well, session_cut, session_too_many}

-- ---- a body's first fault comes from its bytes

abbrev ComesFromBytes : Option BodyFault → Type 0
ComesFromBytes first = option_map_or (λ fault. is_from_outside (body_fault_code fault)) first false ≡ false

checked : (passes : Bool) (fault : BodyFault) (later : Option BodyFault) → is_from_outside (body_fault_code fault) ≡ false → ComesFromBytes later → ComesFromBytes (cond passes later (Some fault))
checked true fault later here after = after
checked false fault later here after = here

checks_from_bytes : (checks : List (Bool × BodyFault)) → AllByRecursion (λ check. is_from_outside (body_fault_code check.1) ≡ false) checks → ComesFromBytes (first_failed checks)
checks_from_bytes [] all = refl
checks_from_bytes (check ∷ rest) all = checked check.0 check.1 (first_failed rest) all.0 (checks_from_bytes rest all.1)

outcome_checked : (passes : Bool) (fault : OutcomeFault) (later : Option OutcomeFault) → ComesFromBytes (Some (outcome_refusal fault)) → ComesFromBytes (option_map outcome_refusal later)
    → ComesFromBytes (option_map outcome_refusal (cond passes later (Some fault)))
outcome_checked true fault later here after = after
outcome_checked false fault later here after = here

outcome_checks_from_bytes : (checks : List (Bool × OutcomeFault)) → AllByRecursion (λ check. ComesFromBytes (Some (outcome_refusal check.1))) checks → ComesFromBytes (option_map outcome_refusal (first_failed checks))
outcome_checks_from_bytes [] all = refl
outcome_checks_from_bytes (check ∷ rest) all = outcome_checked check.0 check.1 (first_failed rest) all.0 (outcome_checks_from_bytes rest all.1)

outcome_from_bytes : (service : Service) (fields : Fields) → ComesFromBytes (option_map outcome_refusal (first_outcome_fault service fields))
unfolding first_outcome_fault
outcome_from_bytes service fields =
    outcome_checks_from_bytes (outcome_checks service fields) (refl, (refl, (refl, (refl, (refl, (refl, (refl, (refl, (refl, (refl, (refl, (refl, (refl, tt)))))))))))))

append_from_bytes : (fields : Fields) (service : Option Service) → ComesFromBytes (option_and_then (λ service. option_map outcome_refusal (first_outcome_fault service fields)) service)
append_from_bytes fields None = refl
append_from_bytes fields (Some service) = outcome_from_bytes service fields

either : (first later : Option BodyFault) → ComesFromBytes first → ComesFromBytes later → ComesFromBytes (or_else first later)
either None later here after = after
either (Some fault) later here after = here

own_from_bytes : (wire : WireBody) → ComesFromBytes (first_own_fault wire)
unfolding first_own_fault
own_from_bytes (AppendFields head fields) = append_from_bytes (undated_fields fields) (service_of_byte head.service)
own_from_bytes (DatedAppendFields head fields dates) =
    either (first_failed (retry_checks dates)) (first_append_fault head (dated_fields fields dates)) (checks_from_bytes (retry_checks dates) (refl, tt))
    (append_from_bytes (dated_fields fields dates) (service_of_byte head.service))
own_from_bytes (TypedAppendFields head fields dates types) =
    either (first_failed (retry_checks dates)) (first_append_fault head (typed_fields fields dates types)) (checks_from_bytes (retry_checks dates) (refl, tt))
    (append_from_bytes (typed_fields fields dates types) (service_of_byte head.service))
own_from_bytes (FlushFieldsOf head fields) = checks_from_bytes (flush_checks fields usual_wishes) (refl, (refl, (refl, (refl, (refl, (refl, (refl, tt)))))))
own_from_bytes (CountedFlushFields head fields wishes) = checks_from_bytes (flush_checks fields wishes) (refl, (refl, (refl, (refl, (refl, (refl, (refl, tt)))))))
own_from_bytes (DiscardFields head) = refl
own_from_bytes (ForgetFields head) = refl

fields_from_bytes : (wire : WireBody) → ComesFromBytes (first_field_fault wire)
fields_from_bytes wire = either (first_failed (head_checks (head_of wire))) (first_own_fault wire) (checks_from_bytes (head_checks (head_of wire)) (refl, (refl, tt))) (own_from_bytes wire)

read_from_bytes : (read : Option (WireBody × List ℕ)) → ComesFromBytes (option_and_then (λ read. first_field_fault read.0) read)
read_from_bytes None = refl
read_from_bytes (Some read) = fields_from_bytes read.0

fault_from_bytes : (bytes : List ℕ) → ComesFromBytes (first_body_fault bytes)
unfolding first_body_fault
fault_from_bytes bytes =
    either (first_failed (layout_checks bytes)) _ (checks_from_bytes (layout_checks bytes) (refl, (refl, (refl, (refl, tt))))) (read_from_bytes (body_at bytes))

-- ---- one answer more

replied_more : (replies : ℕ → Replied) (place : ℕ) (answers : List Spoken) → RepliesAre replies place answers → RepliesAre replies place (answers ++ spoken.Reply (replies (place + length answers)) ∷ [])
replied_more replies place [] before = (ap replies (omega arith), tt)
replied_more replies place (spoken.Reply first ∷ rest) before =
    let same : place + 1 + length rest ≡ place + length (spoken.Reply first ∷ rest) = omega arith in
    (before.0, subst (λ (n : ℕ). RepliesAre replies (place + 1) (rest ++ spoken.Reply (replies n) ∷ [])) same (replied_more replies (place + 1) rest before.1))
replied_more replies place (spoken.Refused code ∷ rest) before =
    let same : place + 1 + length rest ≡ place + length (spoken.Refused code ∷ rest) = omega arith in
    subst (λ (n : ℕ). RepliesAre replies (place + 1) (rest ++ spoken.Reply (replies n) ∷ [])) same (replied_more replies (place + 1) rest before)

refused_more : (replies : ℕ → Replied) (place : ℕ) (answers : List Spoken) (code : ℕ) → RepliesAre replies place answers → RepliesAre replies place (answers ++ spoken.Refused code ∷ [])
refused_more replies place [] code before = tt
refused_more replies place (spoken.Reply first ∷ rest) code before = (before.0, refused_more replies (place + 1) rest code before.1)
refused_more replies place (spoken.Refused first ∷ rest) code before = refused_more replies (place + 1) rest code before

-- ---- one frame more

-- a session that took the frames before these
record SoFar (medium : Medium) (limit before : ℕ) (bytes rest : List ℕ) (replies : ℕ → Replied) (todo : List (List ℕ)) : Type 0 where
  frames : List (List ℕ)
  bodies : List Body
  answers : List Spoken
  session : IsOpenSession medium limit before (Some bytes) (Some (flat_map frame todo ++ rest)) frames bodies answers
  decided : AllByRecursion IsDecided answers
  replied : RepliesAre replies 0 answers
  within : before + length bodies ≤ limit
  few : length frames ≤ limit

module _ (medium : Medium) (limit before : ℕ) (bytes rest : List ℕ) (replies : ℕ → Replied) where
  abbrev Before : List (List ℕ) → Type 0
  Before todo = SoFar medium limit before bytes rest replies todo

  abbrev Found : Type 0
  Found = SessionWith medium limit before bytes replies

  -- it ended after these answers
  ended : (left : Option (List ℕ)) (frames : List (List ℕ)) (bodies : List Body) (answers : List Spoken) (end : Option ℕ) → IsSession medium limit before (Some bytes) left frames bodies answers end
      → AllByRecursion IsDecided answers → RepliesAre replies 0 answers → option_map_or is_from_outside end false ≡ false → Found
  ended left frames bodies answers end session decided replied from_bytes =
      record { left = left; frames = frames; bodies = bodies; answers = answers; end = end; session = session; alone = record { answered = decided; ended = from_bytes }; replied = replied }

  -- it ended before a frame was read
  at_end : (fault : Option FrameFault) → FramesEnd rest fault → Before [] → Found
  at_end None is so_far =
      ended (Some []) so_far.frames so_far.bodies so_far.answers None (session_well medium limit before (Some bytes) (Some rest) (Some []) so_far.frames so_far.bodies so_far.answers so_far.session (is, refl))
      so_far.decided so_far.replied refl
  at_end (Some TooLong) is so_far =
      let four : length (take 4 rest) ≡ 4 = omega (arith, length-take 4 rest, is.0) in
      ended (Some (drop 4 rest)) so_far.frames so_far.bodies so_far.answers (Some 11)
      (session_cut medium limit before (Some bytes) (Some rest) (Some (drop 4 rest)) so_far.frames so_far.bodies so_far.answers so_far.session TooLong
      (record { part = take 4 rest; consumed = sym (take-append-drop 4 rest); stops = (four, rw (take-take 4 4 rest (omega arith)) is.1); ends = λ cut. absurd cc }))
      so_far.decided so_far.replied refl
  at_end (Some Empty) is so_far =
      let four : length (take 4 rest) ≡ 4 = omega (arith, length-take 4 rest, is.0) in
      ended (Some (drop 4 rest)) so_far.frames so_far.bodies so_far.answers (Some 12)
      (session_cut medium limit before (Some bytes) (Some rest) (Some (drop 4 rest)) so_far.frames so_far.bodies so_far.answers so_far.session Empty
      (record { part = take 4 rest; consumed = sym (take-append-drop 4 rest); stops = (four, rw (take-take 4 4 rest (omega arith)) is.1); ends = λ cut. absurd cc }))
      so_far.decided so_far.replied refl
  at_end (Some CutShort) is so_far =
      ended (Some []) so_far.frames so_far.bodies so_far.answers (Some 13)
      (session_cut medium limit before (Some bytes) (Some rest) (Some []) so_far.frames so_far.bodies so_far.answers so_far.session CutShort
      (record { part = rest; consumed = sym (append-nil rest); stops = is; ends = λ cut. refl }))
      so_far.decided so_far.replied refl
  at_end (Some Read) is so_far = absurd is
  at_end (Some NoMemory) is so_far = absurd is

  module _ (body : List ℕ) (more : List (List ℕ)) (so_far : Before (body ∷ more)) (legal : IsFrameBody body) (fits : IsBytes body) where
    abbrev Here : Option (List ℕ)
    Here = Some (flat_map frame (body ∷ more) ++ rest)

    abbrev There : Option (List ℕ)
    There = Some (flat_map frame more ++ rest)

    reads : ReadsNext Here There (Some body)
    reads = (legal, frames_cons body more rest)

    -- the frame was answered, and the session goes on
    answered : (asks : List Body) (answer : Spoken) → IsOpenSession medium limit before (Some bytes) There (so_far.frames ++ body ∷ []) (so_far.bodies ++ asks) (so_far.answers ++ answer ∷ [])
        → IsDecided answer → RepliesAre replies 0 (so_far.answers ++ answer ∷ []) → before + (length so_far.bodies + length asks) ≤ limit → length so_far.frames < limit → Before more
    answered asks answer session decided replied within few = record {
      frames = so_far.frames ++ body ∷ [];
      bodies = so_far.bodies ++ asks;
      answers = so_far.answers ++ answer ∷ [];
      session = session;
      decided = all_both IsDecided so_far.answers (answer ∷ []) so_far.decided (decided, tt);
      replied = replied;
      within = rw length-append within;
      few = omega (arith, length-append so_far.frames (body ∷ []), few);
    }

    module _ (few : length so_far.frames < limit) where
      abbrev Next : Type 0
      Next = Before more ⊎ Found

      -- a request whose number is its place
      in_turn : (request : Body) → Encodes body (length so_far.frames) request → Before more
      in_turn request encoded =
          elim (cases_lt (before + length so_far.bodies) limit) [
            | inl room ↦
                let reply = replies (0 + length so_far.answers) in
                answered (request ∷ []) (spoken.Reply reply)
                (session_more medium limit before (Some bytes) Here There so_far.frames so_far.bodies so_far.answers body so_far.session few reads (request ∷ []) (spoken.Reply reply ∷ []) (asked request reply encoded room))
                tt (replied_more replies 0 so_far.answers so_far.replied) (omega (arith, room)) few
            | inr full ↦
                let all : before + length so_far.bodies ≡ limit = omega (arith, full, so_far.within) in
                answered [] (spoken.Refused 44)
                (session_more medium limit before (Some bytes) Here There so_far.frames so_far.bodies so_far.answers body so_far.session few reads [] (spoken.Refused 44 ∷ []) (used_up request encoded all))
                refl (refused_more replies 0 so_far.answers 44 so_far.replied) (omega (arith, so_far.within)) few
          ]

      -- a request with another number ends the session
      out : (number : ℕ) (request : Body) → Encodes body number request → number ≢ length so_far.frames → Found
      out number request encoded apart =
          ended There (so_far.frames ++ body ∷ []) (so_far.bodies ++ []) (so_far.answers ++ spoken.Refused 46 ∷ []) (Some 46)
          (session_stopped medium limit before (Some bytes) Here There so_far.frames so_far.bodies so_far.answers body so_far.session few reads [] (spoken.Refused 46 ∷ []) (Some 46) 46 (out_of_turn number request encoded apart) (written (spoken.Refused 46 ∷ []) (Some 46)))
          (all_both IsDecided so_far.answers (spoken.Refused 46 ∷ []) so_far.decided (refl, tt)) (refused_more replies 0 so_far.answers 46 so_far.replied) refl

      by_number : (number : ℕ) (request : Body) → Encodes body number request → Next
      by_number number request encoded =
          elim (cases_lt number (length so_far.frames)) [
            | inl below ↦ inr (out number request encoded (λ same. omega (arith, below, same)))
            | inr from ↦ elim (cases_lt (length so_far.frames) number) [
              | inl above ↦ inr (out number request encoded (λ same. omega (arith, above, same)))
              | inr to ↦ inl (in_turn request (subst (λ (n : ℕ). Encodes body n request) (omega (arith, from, to)) encoded))
            ]
          ]

      by_fault : (first : Option BodyFault) → first_body_fault body ≡ first → Next
      by_fault (Some fault) is =
          inl (answered [] (spoken.Refused (body_fault_code fault))
          (session_more medium limit before (Some bytes) Here There so_far.frames so_far.bodies so_far.answers body so_far.session few reads [] (spoken.Refused (body_fault_code fault) ∷ []) (faulty fault is))
          (subst ComesFromBytes is (fault_from_bytes body)) (refused_more replies 0 so_far.answers (body_fault_code fault) so_far.replied) (omega (arith, so_far.within)) few)
      by_fault None is =
          let request = accepted_is_encoded body fits is in
          by_number request.0 request.1 request.2

    one_more : Before more ⊎ Found
    one_more =
        elim (cases_lt (length so_far.frames) limit) [
          | inl few ↦ by_fault few (first_body_fault body) refl
          | inr full ↦
              let all : length so_far.frames ≡ limit = omega (arith, full, so_far.few) in
              inr (ended There so_far.frames so_far.bodies so_far.answers (Some 47)
              (session_too_many medium limit before (Some bytes) Here There so_far.frames so_far.bodies so_far.answers so_far.session body all reads)
              so_far.decided so_far.replied refl)
        ]

  -- all frames
  from : (fault : Option FrameFault) → FramesEnd rest fault → (todo : List (List ℕ)) → AllByRecursion IsFrameBody todo → IsBytes (flat_map frame todo ++ rest) → Before todo → Found
  from fault ends [] legal fits so_far = at_end fault ends so_far
  from fault ends (body ∷ more) legal fits so_far =
      let whole : IsBytes (frame body ++ (flat_map frame more ++ rest)) = subst IsBytes (frames_cons body more rest) fits in
      let front : IsBytes (frame body) = subst IsBytes (take-append_seam (frame body) (flat_map frame more ++ rest)) (IsBytes-take (length (frame body)) (frame body ++ (flat_map frame more ++ rest)) whole) in
      let after : IsBytes (flat_map frame more ++ rest) = IsBytes-after (frame body) (flat_map frame more ++ rest) whole in
      elim (one_more body more so_far legal.0 (IsBytes-after (to_be_bytes w32 (length body)) body front)) [
        | inl next ↦ from fault ends more legal.1 after next
        | inr found ↦ found
      ]

pub some_session : (medium : Medium) (limit before : ℕ) (bytes : List ℕ) → IsBytes bytes → HasSomeSession medium limit before bytes
some_session medium limit before bytes fits few replies =
    let input = frames_exist bytes fits in
    let of = input.2 in
    from medium limit before bytes of.rest replies input.1 of.ends input.0 of.begins.whole (subst IsBytes of.begins.front fits) (record {
      frames = [];
      bodies = [];
      answers = [];
      session = subst (λ (text : List ℕ). IsOpenSession medium limit before (Some bytes) (Some text) [] [] []) of.begins.front (session_begun medium limit before (Some bytes));
      decided = tt;
      replied = tt;
      within = omega (arith, few);
      few = omega arith;
    })
