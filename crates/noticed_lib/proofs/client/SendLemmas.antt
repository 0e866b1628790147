-- Sends: how one begins, goes on with one frame more, and ends.
use Rattle.std.proofs.Common.{◌≡◌, ℕ, suc, ◌+◌, ◌<◌, Bool, true, false, List, [], ◌∷◌, ◌++◌, length, refl, arith}
use Rattle.std.specs.Prelude.{Option, Some, Ok, Err}
use Rattle.std.specs.Io.KnownBytes.{Appends, Keeps}
use Rattle.std.specs.List.{flat_map}
use Rattle.std.proofs.KnownBytes.{Appends-nil, Appends-trans, Consumes-nil, Consumes-trans, Keeps-refl}
use Rattle.std.proofs.lemmas.Grind.{flat_map-append}
use Rattle.std.proofs.lemmas.List.{append-nil}
use Rattle.dsn_device.specs.Failures.{counted}
use Rattle.dsn_device.specs.Transfer.{AppendsPart}
use Rattle.dsn_device.specs.declared.drain.Drain.{Ghosts as Drain}
use Rattle.dsn_device.specs.declared.source.Source.{Ghosts as Source}
use Rattle.dsn_frame.specs.bodies.FrameBody.{frame, IsFrameBody}
use Rattle.dsn_frame.specs.bodies.Spoken.{FitsAnswer, answer_bytes, answer_frames_from}
use Rattle.dsn_frame.specs.declared.bodies.spoken.Spoken.{Spoken}
use Rattle.dsn_frame.proofs.AnswerLemmas.{answer_frames_from-more}
use Rattle.dsn_frame.specs.Frame.{ReadsNext, ReadsNone}
use Rattle.dsn_frame.specs.declared.frame_fault.FrameFault.{FrameFault}
use Rattle.dsn_frame.proofs.SessionFrames.{all_both}
use Rattle.dsn_frame.proofs.SentAnswersLemmas.{length-more}
use Rattle.dsn_notes.proofs.NotesLemmas.{answer_lines_from-more}
use Rattle.dsn_notes.specs.Notes.{answer_line, answer_lines_from}
use Rattle.noticed_lib.specs.client.Ask.{IsAsked}
use Rattle.dsn_device.proofs.CountsLemmas.{counts-none, counts-then}
use Rattle.dsn_device.specs.Counts.{Counts}
use Rattle.noticed_lib.specs.client.Send.{AreAllAnswered, EndsAtFrame, FitFrom, HandsOver, Known, SendEnds, known, most_frames}
use Rattle.noticed_lib.specs.client.SendFault.{is_input_failed, is_notes_failed, is_connection_failed}
use Rattle.noticed_lib.specs.declared.client.send_fault.SendFault.{SendFault}
use Rattle.noticed_lib.specs.declared.client.send_fault.SendFault.TheVariants.{Input, TooMany, NotSent, Unanswered, AnswerFrame, Answer, OutOfTurn, NotesLost}

-- ---- counts

module _ {D : Type 0} (failures flushes : D → ℕ) (steady : D → Type 0) where
  -- a count that a call gives
  pub counts-of : (failed : Bool) (x y : D) → failures y ≡ counted failed (failures x) → flushes y ≡ flushes x → (steady x → steady y × (failures y ≡ failures x)) → Counts failures flushes steady failed x y
  counts-of failed x y count no_flush stays = record { count = count; no_flush = no_flush; stays_steady = stays }

-- ---- frames that were answered

pub fit-more : (place : ℕ) (answers : List Spoken) (answer : Spoken) → FitFrom place answers → FitsAnswer (place + length answers) answer → FitFrom place (answers ++ answer ∷ [])
fit-more place [] answer all one =
    let at : place + 0 ≡ place = omega arith in
    (rw at at one, tt)
fit-more place (first ∷ rest) answer all one =
    let at : place + suc (length rest) ≡ suc place + length rest = omega arith in
    (all.0, fit-more (suc place) rest answer all.1 (rw at at one))

frames-more : (frames : List (List ℕ)) (bytes : List ℕ) → flat_map frame (frames ++ bytes ∷ []) ≡ flat_map frame frames ++ frame bytes
frames-more frames bytes = rw (flat_map-append frame frames (bytes ∷ []), append-nil (frame bytes)) refl

pub answered-none : (start : Known) → AreAllAnswered start start [] []
unfolding answer_frames_from answer_lines_from
answered-none start = record {
  each = refl;
  legal = tt;
  fit = tt;
  read = Consumes-nil start.input;
  sent = Appends-nil start.sent;
  got = Consumes-nil start.unread;
  noted = Appends-nil start.lines;
}

module _ (start left now : Known) (frames : List (List ℕ)) (answers : List Spoken) (count : ℕ) (bytes : List ℕ) (answer : Spoken) (so_far : AreAllAnswered start left frames answers) (counted_so : length frames ≡ count)
    (read : ReadsNext left.input now.input (Some bytes)) (asked : IsAsked count bytes left.sent now.sent left.unread now.unread (Ok answer)) (line : Appends left.lines now.lines (answer_line count answer)) where
  place-is : 0 + length answers ≡ count
  place-is = omega (arith, so_far.each, counted_so)

  -- one frame more was answered, and its answer noted
  pub answered-more : AreAllAnswered start now (frames ++ bytes ∷ []) (answers ++ answer ∷ [])
  answered-more = record {
    each = omega (arith, so_far.each, length-more answers answer (length answers) refl, length-more frames bytes (length frames) refl);
    legal = all_both IsFrameBody frames (bytes ∷ []) so_far.legal (read.0, tt);
    fit = fit-more 0 answers answer so_far.fit (rw place-is asked.1.fits);
    read = rw (frames-more frames bytes) (Consumes-trans start.input left.input now.input (flat_map frame frames) (frame bytes) so_far.read read.1);
    sent = rw (frames-more frames bytes) (Appends-trans start.sent left.sent now.sent (flat_map frame frames) (frame bytes) so_far.sent asked.0);
    got = rw (answer_frames_from-more 0 answers answer, place-is) (Consumes-trans start.unread left.unread now.unread (answer_frames_from 0 answers) (answer_bytes count answer) so_far.got asked.1.got);
    noted = rw (answer_lines_from-more 0 answers answer, place-is) (Appends-trans start.lines left.lines now.lines (answer_lines_from 0 answers) (answer_line count answer) so_far.noted line);
  }

-- ---- a frame that was not answered

ends-unanswered : (limit count : ℕ) (left now : Known) (fault : SendFault) → EndsAtFrame limit count left now (Err fault) → Keeps left.lines now.lines → SendEnds limit count left now (Some fault)
ends-unanswered limit count left now (Input fault) at_frame kept = absurd at_frame.asked
ends-unanswered limit count left now TooMany at_frame kept = absurd at_frame.asked
ends-unanswered limit count left now NotSent at_frame kept = record { at_frame = at_frame; nothing_noted = kept }
ends-unanswered limit count left now Unanswered at_frame kept = record { at_frame = at_frame; nothing_noted = kept }
ends-unanswered limit count left now (AnswerFrame fault) at_frame kept = record { at_frame = at_frame; nothing_noted = kept }
ends-unanswered limit count left now (Answer fault) at_frame kept = record { at_frame = at_frame; nothing_noted = kept }
ends-unanswered limit count left now OutOfTurn at_frame kept = record { at_frame = at_frame; nothing_noted = kept }
ends-unanswered limit count left now NotesLost at_frame kept = absurd at_frame.asked

-- neither the input nor the notes failed
others-good : (place : ℕ) (bytes : List ℕ) (sent later unread left : Option (List ℕ)) (fault : SendFault) → IsAsked place bytes sent later unread left (Err fault) → (is_input_failed (Some fault) ≡ false) × (is_notes_failed (Some fault) ≡ false)
others-good place bytes sent later unread left (Input fault) asked = absurd asked
others-good place bytes sent later unread left TooMany asked = absurd asked
others-good place bytes sent later unread left NotSent asked = (refl, refl)
others-good place bytes sent later unread left Unanswered asked = (refl, refl)
others-good place bytes sent later unread left (AnswerFrame fault) asked = (refl, refl)
others-good place bytes sent later unread left (Answer fault) asked = (refl, refl)
others-good place bytes sent later unread left OutOfTurn asked = (refl, refl)
others-good place bytes sent later unread left NotesLost asked = absurd asked

-- ---- a send over devices

module _ {R S N : Type 0} (input_device : Source R) (source : Source S) (drain : Drain S) (notes_device : Drain N) where
  -- `count` frames were answered, and nothing failed
  pub record SentSoFar (count : ℕ) (input now : R) (stream later : S) (notes last : N) : Type 0 where
    pub frames : List (List ℕ)
    pub answers : List Spoken
    pub answered : AreAllAnswered (known input_device source drain notes_device input stream notes) (known input_device source drain notes_device now later last) frames answers
    pub frames_counted : length frames ≡ count
    pub input_counts : Counts input_device.failures input_device.flushes input_device.steady false input now
    pub stream_counts : Counts source.failures source.flushes source.steady false stream later
    pub notes_counts : Counts notes_device.failures notes_device.flushes notes_device.steady false notes last

  pub sent-nothing : (input : R) (stream : S) (notes : N) → SentSoFar 0 input input stream stream notes notes
  sent-nothing input stream notes = record {
    frames = [];
    answers = [];
    answered = answered-none (known input_device source drain notes_device input stream notes);
    frames_counted = refl;
    input_counts = counts-none input_device.failures input_device.flushes input_device.steady input;
    stream_counts = counts-none source.failures source.flushes source.steady stream;
    notes_counts = counts-none notes_device.failures notes_device.flushes notes_device.steady notes;
  }

  module _ (count : ℕ) (input now after : R) (stream later then : S) (notes last at_last : N) (so_far : SentSoFar count input now stream later notes last) where
    -- one frame more
    pub sent-one : (bytes : List ℕ) (answer : Spoken) → ReadsNext (input_device.remaining now) (input_device.remaining after) (Some bytes)
        → IsAsked count bytes (drain.contents later) (drain.contents then) (source.remaining later) (source.remaining then) (Ok answer)
        → Appends (notes_device.contents last) (notes_device.contents at_last) (answer_line count answer)
        → Counts input_device.failures input_device.flushes input_device.steady false now after → Counts source.failures source.flushes source.steady false later then
        → Counts notes_device.failures notes_device.flushes notes_device.steady false last at_last
        → SentSoFar (count + 1) input after stream then notes at_last
    sent-one bytes answer read asked line of_input of_stream of_notes = record {
      frames = so_far.frames ++ bytes ∷ [];
      answers = so_far.answers ++ answer ∷ [];
      answered = answered-more (known input_device source drain notes_device input stream notes) (known input_device source drain notes_device now later last) (known input_device source drain notes_device after then at_last) so_far.frames so_far.answers count bytes answer so_far.answered so_far.frames_counted read asked line;
      frames_counted = length-more so_far.frames bytes count so_far.frames_counted;
      input_counts = counts-then input_device.failures input_device.flushes input_device.steady false input now after so_far.input_counts of_input;
      stream_counts = counts-then source.failures source.flushes source.steady false stream later then so_far.stream_counts of_stream;
      notes_counts = counts-then notes_device.failures notes_device.flushes notes_device.steady false notes last at_last so_far.notes_counts of_notes;
    }

    -- the end
    pub sent-end : (fault : Option SendFault) → SendEnds most_frames count (known input_device source drain notes_device now later last) (known input_device source drain notes_device after then at_last) fault
        → Counts input_device.failures input_device.flushes input_device.steady (is_input_failed fault) now after → Counts source.failures source.flushes source.steady (is_connection_failed fault) later then
        → Counts notes_device.failures notes_device.flushes notes_device.steady (is_notes_failed fault) last at_last
        → HandsOver input_device source drain notes_device input after stream then notes at_last fault
    sent-end fault ends of_input of_stream of_notes = record {
      frames = so_far.frames;
      answers = so_far.answers;
      sends = record { left = known input_device source drain notes_device now later last; answered = so_far.answered; ends = rw so_far.frames_counted ends };
      input_counts = counts-then input_device.failures input_device.flushes input_device.steady (is_input_failed fault) input now after so_far.input_counts of_input;
      stream_counts = counts-then source.failures source.flushes source.steady (is_connection_failed fault) stream later then so_far.stream_counts of_stream;
      notes_counts = counts-then notes_device.failures notes_device.flushes notes_device.steady (is_notes_failed fault) notes last at_last so_far.notes_counts of_notes;
    }

  module _ (count : ℕ) (input now after : R) (stream later : S) (notes last : N) (so_far : SentSoFar count input now stream later notes last) where
    -- the next frame can't be read
    pub sent-cut : (fault : FrameFault) → ReadsNone (input_device.remaining now) (input_device.remaining after) fault
        → Counts input_device.failures input_device.flushes input_device.steady (is_input_failed (Some (Input fault))) now after
        → HandsOver input_device source drain notes_device input after stream later notes last (Some (Input fault))
    sent-cut fault none of_input =
        sent-end count input now after stream later later notes last last so_far (Some (Input fault))
        (none, record { nothing_sent = Keeps-refl (drain.contents later); nothing_got = Keeps-refl (source.remaining later); nothing_noted = Keeps-refl (notes_device.contents last) })
        of_input (counts-none source.failures source.flushes source.steady later) (counts-none notes_device.failures notes_device.flushes notes_device.steady last)

    module _ (few : count < most_frames) (bytes : List ℕ) (read : ReadsNext (input_device.remaining now) (input_device.remaining after) (Some bytes)) (of_input : Counts input_device.failures input_device.flushes input_device.steady false now after) (then : S) where
      -- the next frame was not answered
      pub sent-refused : (fault : SendFault) → IsAsked count bytes (drain.contents later) (drain.contents then) (source.remaining later) (source.remaining then) (Err fault)
          → Counts source.failures source.flushes source.steady (is_connection_failed (Some fault)) later then
          → HandsOver input_device source drain notes_device input after stream then notes last (Some fault)
      sent-refused fault asked of_stream =
          let good = others-good count bytes (drain.contents later) (drain.contents then) (source.remaining later) (source.remaining then) fault asked in
          sent-end count input now after stream later then notes last last so_far (Some fault)
          (ends-unanswered most_frames count (known input_device source drain notes_device now later last) (known input_device source drain notes_device after then last) fault record { few = few; bytes = bytes; read = read; asked = asked } (Keeps-refl (notes_device.contents last)))
          (rw good.0 of_input) of_stream (rw good.1 (counts-none notes_device.failures notes_device.flushes notes_device.steady last))

      -- its answer's line was lost
      pub sent-untold : (at_last : N) (answer : Spoken) → IsAsked count bytes (drain.contents later) (drain.contents then) (source.remaining later) (source.remaining then) (Ok answer)
          → Counts source.failures source.flushes source.steady false later then
          → AppendsPart (notes_device.contents last) (notes_device.contents at_last) (answer_line count answer)
          → Counts notes_device.failures notes_device.flushes notes_device.steady true last at_last
          → HandsOver input_device source drain notes_device input after stream then notes at_last (Some NotesLost)
      sent-untold at_last answer asked of_stream part of_notes =
          sent-end count input now after stream later then notes last at_last so_far (Some NotesLost)
          record { answer = answer; at_frame = record { few = few; bytes = bytes; read = read; asked = asked }; part = part }
          of_input of_stream of_notes
