-- What holds of letters that wait, after every list of events.
use Rattle.std.specs.Prelude.{◌≡◌, ◌≢◌, ℕ, ◌+◌, ◌<◌, Bool, true, false, List, [], ◌∷◌, ◌++◌, length, map, All, Option, Some, None, is_some, is_none, slice_get}
use Rattle.dsn_submission.specs.Waiting.{Queue, due_place, letter_in_hand, put_off, pushed, pushed_settled, server_away, settled, settled_front, taken}
use Rattle.dsn_submission.specs.declared.waiting.Waits.{Waits}

-- what happens to a queue: a letter comes, that is settled already or not, the first that is due is taken in hand, and the letter in hand is settled, is
-- put off, or goes back since the server doesn't answer; at a moment
pub data Event (T : Type 0) : Type 0 where
  Comes : T → ℕ → Event T
  ComesSettled : T → Event T
  IsTaken : ℕ → Event T
  Settles : Event T
  IsPutOff : ℕ → Event T
  FindsNoServer : ℕ → Event T

-- the queue after an event
abbrev pub after_event : {T : Type 0} → Queue T → Event T → Queue T
after_event queue (Comes item now) = pushed queue item now
after_event queue (ComesSettled item) = pushed_settled queue
after_event queue (IsTaken now) = taken queue (due_place queue now)
after_event queue Settles = settled queue
after_event queue (IsPutOff now) = put_off queue now
after_event queue (FindsNoServer now) = server_away queue now

-- the queue after events, in their order
abbrev pub after_events : {T : Type 0} → Queue T → List (Event T) → Queue T
after_events queue [] = queue
after_events queue (event ∷ events) = after_events (after_event queue event) events

-- the letters that came, in their order
abbrev pub come_by : {T : Type 0} → Event T → List T
come_by (Comes item now) = item ∷ []
come_by (ComesSettled item) = item ∷ []
come_by (IsTaken now) = []
come_by Settles = []
come_by (IsPutOff now) = []
come_by (FindsNoServer now) = []

abbrev pub come : {T : Type 0} → List (Event T) → List T
come [] = []
come (event ∷ events) = come_by event ++ come events

-- these letters are at these places, one at each, unless it is settled
abbrev pub AreAt : {T : Type 0} → List T → List (Option (Waits T)) → Type 0
AreAt [] [] = Unit {0}
AreAt [] (letter ∷ letters) = ⊥
AreAt (item ∷ items) [] = ⊥
AreAt (item ∷ items) (None ∷ letters) = AreAt items letters
AreAt (item ∷ items) (Some letter ∷ letters) = (letter.item ≡ item) × AreAt items letters

-- The letters that came are those below the mark, which began at `mark`, and behind them those in the list, in the
-- order in which they came: so each has exactly one place.
pub record HasEach {T : Type 0} (mark : ℕ) (queue : Queue T) (items : List T) : Type 0 where
  pub gone : List T
  pub held : List T
  pub split : items ≡ gone ++ held
  pub mark_is : queue.mark ≡ mark + length gone
  pub held_at : AreAt held queue.letters

-- a letter that was never put off is due
abbrev pub IsDueIfNew : {T : Type 0} → Option (Waits T) → Type 0
IsDueIfNew None = Unit {0}
IsDueIfNew (Some letter) = letter.tries ≡ 0 → letter.due ≡ 0

-- the mark is past all letters that are settled from the first on, and the letter in hand is one that waits
pub record IsOrderly {T : Type 0} (queue : Queue T) : Type 0 where
  pub first_waits : settled_front queue.letters ≡ 0
  pub hand_waits : is_some (letter_in_hand queue) ≡ is_some queue.in_hand
  pub new_due : All IsDueIfNew queue.letters

-- If the letter that is taken was never put off, each letter before it is settled or was put off: so letters that were
-- never put off are taken in the order in which they came.
abbrev pub TakesInOrder : {T : Type 0} → Queue T → Type 0
TakesInOrder queue =
    (now place earlier : ℕ) (letter before : Waits _) → due_place queue now ≡ Some place
    → slice_get queue.letters place ≡ Some (Some letter) → letter.tries ≡ 0
    → earlier < place → slice_get queue.letters earlier ≡ Some (Some before) → before.tries ≢ 0

-- which letters of the list are settled
abbrev pub settled_flags : {T : Type 0} → Queue T → List Bool
settled_flags queue = map is_none queue.letters

abbrev pub is_settling : {T : Type 0} → Event T → Bool
is_settling (Comes item now) = false
is_settling (ComesSettled item) = true
is_settling (IsTaken now) = false
is_settling Settles = true
is_settling (IsPutOff now) = false
is_settling (FindsNoServer now) = false

-- no other event settles a letter: only the one that settles that in hand, and one by which a letter comes that is settled
abbrev pub OnlySettlingSettles : {T : Type 0} → Queue T → Event T → Type 0
OnlySettlingSettles queue event =
    is_settling event ≡ false
    → ((after_event queue event).mark ≡ queue.mark)
    × (settled_flags (after_event queue event) ≡ settled_flags queue ++ map (λ _. false) (come_by event))
