-- Submission of the letters that wait, one after another: what is asked of the server, and what becomes of each letter.
use Rattle.std.specs.Prelude.{◌≡◌, ℕ, Bool, true, false, List, Option, Some, None, Result, if◌then◌else◌}
use Rattle.dsn_device.specs.declared.drain.Drain
use Rattle.dsn_device.specs.declared.source.Source
use Rattle.dsn_smtp.specs.Session.{AsksOver, Ends, OpenSession}
use Rattle.dsn_smtp.specs.declared.hand_in_fault.HandInFault.{HandInFault}
use Rattle.dsn_submission.specs.Verdict.{reason_of, verdict_of}
use Rattle.dsn_submission.specs.Waiting.{Queue, due_place, is_given_up, put_off, serial_in_hand, server_away, settled, taken}
use Rattle.dsn_submission.specs.declared.verdict.Verdict.{Verdict}
use Rattle.dsn_submission.specs.declared.verdict.Verdict.TheVariants.{Accepted, RefusedForGood, PutOff, ServerAway}

-- The letters that wait, the session that is kept, the last reply, the client's name, after how many milliseconds a
-- letter is given up, and whether nothing is submitted any more.
pub record Submitter (T S : Type 0) : Type 0 where
  pub waiting : Queue T
  pub session : Option (OpenSession S)
  pub reply : List ℕ
  pub host : List ℕ
  pub give_up : ℕ
  pub stopped : Bool

-- the place of the letter to be submitted next, unless nothing is submitted any more
abbrev pub next_place : {T S : Type 0} → Submitter T S → ℕ → Option ℕ
next_place submitter now = if submitter.stopped then None else due_place submitter.waiting now

-- the submitter once that letter is in hand
abbrev pub with_next_taken : {T S : Type 0} → Submitter T S → Option ℕ → Submitter T S
with_next_taken submitter place = record submitter { waiting = taken submitter.waiting place }

-- the session that a transaction left goes on, or ends with QUIT; or it has ended
pub data LeavesSession {S : Type 0} (source : Source.Ghosts S) (drain : Drain.Ghosts S) : Option (OpenSession S) → Option (OpenSession S) → Type 0 where
  goes_on : (session : OpenSession S) → LeavesSession source drain (Some session) (Some session)
  quits : (session : OpenSession S) → Ends source drain session.stream None → LeavesSession source drain (Some session) None
  has_ended : LeavesSession source drain None None

-- one transaction was asked of the server, over the session that was kept or over a new one: its fault, and the session
-- that is kept now
pub record AsksOnce {S C : Type 0} (source : Source.Ghosts S) (drain : Drain.Ghosts S) (gives : C → C → Result S HandInFault → Type 0)
    (old new : C) (kept left : Option (OpenSession S)) (host path message before after : List ℕ) (fault : Option HandInFault) : Type 0 where
  pub handed : Option (OpenSession S)
  pub over : AsksOver source drain gives old new kept host path message before after handed fault
  pub leaves : LeavesSession source drain handed left

-- a letter that is put off once more is refused for good if it is given up
abbrev pub given_up_verdict : Bool → Verdict → Verdict
given_up_verdict gives_up Accepted = Accepted
given_up_verdict gives_up RefusedForGood = RefusedForGood
given_up_verdict gives_up PutOff = if gives_up then RefusedForGood else PutOff
given_up_verdict gives_up ServerAway = ServerAway

-- what an outcome says of the letter in hand
abbrev pub verdict_in : {T : Type 0} → Queue T → ℕ → ℕ → Option HandInFault → Verdict
verdict_in queue now limit fault = given_up_verdict (is_given_up queue now limit) (verdict_of fault)

-- a letter that is refused for good was kept with the reason, or else it is put off; no other letter is kept
pub data KeepsRefused {K : Type 0} (keeps : K → List ℕ → List ℕ → List ℕ → Bool → K → Type 0) (old new : K) (path message reason : List ℕ) : Verdict → Verdict → Type 0 where
  kept : keeps old path message reason true new → KeepsRefused keeps old new path message reason RefusedForGood RefusedForGood
  not_kept : keeps old path message reason false new → KeepsRefused keeps old new path message reason RefusedForGood PutOff
  not_refused : (verdict : Verdict) → (verdict ≡ RefusedForGood → ⊥) → new ≡ old → KeepsRefused keeps old new path message reason verdict verdict

-- the queue after a verdict on the letter in hand
abbrev pub concluded : {T : Type 0} → Queue T → ℕ → Verdict → Queue T
concluded queue now Accepted = settled queue
concluded queue now RefusedForGood = settled queue
concluded queue now PutOff = put_off queue now
concluded queue now ServerAway = server_away queue now

-- whether a verdict settles its letter
abbrev pub is_settled_by : Verdict → Bool
is_settled_by Accepted = true
is_settled_by RefusedForGood = true
is_settled_by PutOff = false
is_settled_by ServerAway = false

-- A letter with this serial that its verdict settles was kept as settled, or else nothing is submitted any more. Nothing
-- is kept of another letter.
pub data TellsSettled {M : Type 0} (settles : M → ℕ → Bool → M → Type 0) (old new : M) (serial : Option ℕ) : Verdict → Bool → Type 0 where
  same : (verdict : Verdict) → is_settled_by verdict ≡ false → new ≡ old → TellsSettled settles old new serial verdict false
  told : (verdict : Verdict) (it : ℕ) → is_settled_by verdict ≡ true → serial ≡ Some it → settles old it true new → TellsSettled settles old new serial verdict false
  lost : (verdict : Verdict) (it : ℕ) → is_settled_by verdict ≡ true → serial ≡ Some it → settles old it false new → TellsSettled settles old new serial verdict true

-- A letter was submitted: asked of the server once, kept if it is refused for good, and concluded as the verdict says;
-- it was kept as settled if the verdict settles it. `taken` is the submitter once the letter was in hand.
pub record Handles {T S C K M : Type 0} (source : Source.Ghosts S) (drain : Drain.Ghosts S) (gives : C → C → Result S HandInFault → Type 0)
    (keeps : K → List ℕ → List ℕ → List ℕ → Bool → K → Type 0) (settles : M → ℕ → Bool → M → Type 0)
    (taken new : Submitter T S) (server_old server_new : C) (refused_old refused_new : K) (marks_old marks_new : M)
    (path message : List ℕ) (now : ℕ) (fault : Option HandInFault) (verdict : Verdict) : Type 0 where
  pub asked : AsksOnce source drain gives server_old server_new taken.session new.session taken.host path message taken.reply new.reply fault
  pub refusal : KeepsRefused keeps refused_old refused_new path message (reason_of fault new.reply) (verdict_in taken.waiting now taken.give_up fault) verdict
  pub concluded_is : new.waiting ≡ concluded taken.waiting now verdict
  pub settled_is : TellsSettled settles marks_old marks_new (serial_in_hand taken.waiting) verdict new.stopped
  pub same_host : new.host ≡ taken.host
  pub same_limit : new.give_up ≡ taken.give_up
