-- Asks: what is read after a frame was sent.
use Rattle.std.proofs.Common.{◌≡◌, ◌≢◌, ℕ, List, [], sym, subst, ◌∙◌}
use Rattle.std.specs.Prelude.{Option, Some, None, Ok, Err}
use Rattle.std.specs.Io.KnownBytes.{Appends, Consumes, IsAtEnd, Keeps}
use Rattle.std.proofs.KnownBytes.{Appends-kept, Consumes-kept, Consumes-nil, Consumes-trans}
use Rattle.dsn_device.specs.declared.drain.Drain.{Ghosts as Drain}
use Rattle.dsn_device.specs.declared.source.Source.{Ghosts as Source}
use Rattle.dsn_frame.specs.bodies.FrameBody.{frame}
use Rattle.dsn_frame.specs.bodies.Spoken.{FitsAnswer, answer_body, answer_bytes}
use Rattle.dsn_frame.specs.declared.bodies.spoken.Spoken.{Spoken}
use Rattle.dsn_frame.specs.Frame.{ReadsNext}
use Rattle.noticed_lib.specs.client.Ask.{IsAnswer, IsAsked}
use Rattle.noticed_lib.specs.declared.client.send_fault.SendFault.TheVariants as faults

-- bytes that stay as they were, by either name of them
keeps-as : {S : Type 0} (here there : S → Option (List ℕ)) → ((s : S) → here s ≡ there s) → (x y : S) → Keeps (here x) (here y) → Keeps (there x) (there y)
keeps-as here there same x y kept = rw (same x, same y) at kept

-- ---- what was kept, and then read

kept-consumed : (a b c : Option (List ℕ)) (bytes : List ℕ) → Keeps a b → Consumes b c bytes → Consumes a c bytes
kept-consumed a b c bytes kept more = Consumes-trans a b c [] bytes (Consumes-kept a a b [] (Consumes-nil a) kept) more

kept-end : (a b : Option (List ℕ)) → Keeps a b → IsAtEnd b → IsAtEnd a
kept-end None b kept ends = tt
kept-end (Some xs) None kept ends = absurd kept
kept-end (Some xs) (Some ys) kept ends = sym kept ∙ ends

kept-next : (a b c : Option (List ℕ)) (next : Option (List ℕ)) → Keeps a b → ReadsNext b c next → ReadsNext a c next
kept-next a b c None kept reads = (kept-end a b kept reads.0, reads.1)
kept-next a b c (Some body) kept reads = (reads.0, kept-consumed a b c (frame body) kept reads.1)

-- ---- a frame that was sent

module _ {S : Type 0} (source : Source S) (drain : Drain S) (held_is_written : (s : S) → source.holds s ≡ drain.contents s) (left_is_unread : (s : S) → drain.left s ≡ source.remaining s) (place : ℕ) (bytes text : List ℕ) (whole : text ≡ frame bytes) where
  module _ (old mid new : S) (written : Appends (drain.contents old) (drain.contents mid) text) (unread : Keeps (drain.left old) (drain.left mid)) (held : Keeps (source.holds mid) (source.holds new)) where
    sent : Appends (drain.contents old) (drain.contents new) (frame bytes)
    sent = Appends-kept (drain.contents old) (drain.contents mid) (drain.contents new) (frame bytes) (rw whole at written) (keeps-as source.holds drain.contents held_is_written mid new held)

    still : Keeps (source.remaining old) (source.remaining mid)
    still = keeps-as drain.left source.remaining left_is_unread old mid unread

    reads : (next : Option (List ℕ)) → ReadsNext (source.remaining mid) (source.remaining new) next → ReadsNext (source.remaining old) (source.remaining new) next
    reads next = kept-next (source.remaining old) (source.remaining mid) (source.remaining new) next still

    module _ (body : List ℕ) (next : ReadsNext (source.remaining mid) (source.remaining new) (Some body)) where
      came : (number : ℕ) (answer : Spoken) → body ≡ answer_body number answer → FitsAnswer number answer → IsAnswer number (source.remaining old) (source.remaining new) answer
      unfolding answer_bytes
      came number answer is fits = record { fits = fits; got = subst (λ (b : List ℕ). Consumes (source.remaining old) (source.remaining new) (frame b)) is (reads (Some body) next).1 }

      pub ask-answered : (number : ℕ) (answer : Spoken) → body ≡ answer_body number answer → FitsAnswer number answer → number ≡ place → IsAsked place bytes (drain.contents old) (drain.contents new) (source.remaining old) (source.remaining new) (Ok answer)
      ask-answered number answer is fits here = (sent, subst (λ (n : ℕ). IsAnswer n (source.remaining old) (source.remaining new) answer) here (came number answer is fits))

      pub ask-out-of-turn : (number : ℕ) (answer : Spoken) → body ≡ answer_body number answer → FitsAnswer number answer → number ≢ place → IsAsked place bytes (drain.contents old) (drain.contents new) (source.remaining old) (source.remaining new) (Err faults.OutOfTurn)
      ask-out-of-turn number answer is fits apart = (sent, record { number = number; answer = answer; is_answer = came number answer is fits; apart = apart })
