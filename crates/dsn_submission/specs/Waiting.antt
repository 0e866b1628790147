-- Letters that wait for a mail server: their states, and what each call makes of them. Moments and waits are in
-- milliseconds, moments from the beginning of the run.
use Rattle.std.specs.Prelude.{◌≡◌, ◌⊎◌, ℕ, ◌+◌, ◌-◌, ◌*◌, ◌^◌, ◌<◌, ◌≤◌, min, Bool, true, false, ◌&&◌, ◌||◌, nat_lt, nat_le, List, [], ◌∷◌, ◌++◌, length, drop, Option, Some, None, is_some, is_none, option_and_then, option_map, slice_get, slice_set, if◌then◌else◌}
use Rattle.std.specs.List.{position, prefix_len}
use Rattle.dsn_device.specs.Failures.{counted}
use Rattle.dsn_submission.specs.declared.waiting.Waits.{Waits}

-- Letters with consecutive serials. `mark` is the serial of the first one in the list: those before it are settled. Of
-- a letter in the list that is settled nothing is held. `in_hand` is the place of the letter that is being submitted.
-- `failures` counts the attempts since the server last answered, and no letter is taken before `opens`.
pub record Queue (T : Type 0) : Type 0 where
  pub mark : ℕ
  pub letters : List (Option (Waits T))
  pub in_hand : Option ℕ
  pub failures : ℕ
  pub opens : ℕ

-- the longest time between two attempts at one letter, 30 minutes, and at a server that doesn't answer, 5 minutes
abbrev pub longest_letter_wait : ℕ
longest_letter_wait = 1800000

abbrev pub longest_server_wait : ℕ
longest_server_wait = 300000

-- the wait after a number of earlier failures: 1 second, then 2, 4, .. seconds, up to the longest
abbrev pub delay : ℕ → ℕ → ℕ
delay longest failures = min longest (1000 * 2 ^ failures)

-- the moment after a wait; the last moment that is counted is 2 ^ 64 - 1
abbrev pub later : ℕ → ℕ → ℕ
later now wait = min (now + wait) (2 ^ 64 - 1)

-- no letters, of which those before `mark` are settled
abbrev pub empty_queue : {T : Type 0} → ℕ → Queue T
empty_queue mark = record { mark = mark; letters = []; in_hand = None; failures = 0; opens = 0 }

-- a letter as it comes: it was never put off, and is due
abbrev pub new_letter : {T : Type 0} → T → ℕ → Waits T
new_letter item now = record { item = item; tries = 0; since = now; due = 0 }

-- a letter comes, last
abbrev pub pushed : {T : Type 0} → Queue T → T → ℕ → Queue T
pushed queue item now = record queue { letters = queue.letters ++ Some (new_letter item now) ∷ [] }

-- the serial of the letter that comes next
abbrev pub next_serial : {T : Type 0} → Queue T → ℕ
next_serial queue = queue.mark + length queue.letters

-- whether a letter waits that is due
abbrev pub is_due : {T : Type 0} → ℕ → Option (Waits T) → Bool
is_due now None = false
is_due now (Some letter) = nat_le letter.due now

-- the place of the letter to be submitted next: the first that is due, if none is in hand and the server may be asked
abbrev pub due_place : {T : Type 0} → Queue T → ℕ → Option ℕ
due_place queue now =
    if is_some queue.in_hand || nat_lt now queue.opens then None else position (is_due now) queue.letters

-- the letter at a place is taken, if there is one
abbrev pub taken : {T : Type 0} → Queue T → Option ℕ → Queue T
taken queue None = queue
taken queue (Some place) = record queue { in_hand = Some place }

-- the letter at a place, if one waits there
abbrev pub letter_at : {T : Type 0} → List (Option (Waits T)) → Option ℕ → Option (Waits T)
letter_at letters None = None
letter_at letters (Some place) = option_and_then (λ letter. letter) (slice_get letters place)

-- the letter in hand
abbrev pub letter_in_hand : {T : Type 0} → Queue T → Option (Waits T)
letter_in_hand queue = letter_at queue.letters queue.in_hand

-- the number of letters that are settled, from the first on
abbrev pub settled_front : {T : Type 0} → List (Option (Waits T)) → ℕ
settled_front letters = prefix_len is_none letters

-- the letter with this serial is settled: it is below the mark, or nothing is held of it
abbrev pub IsSettledIn : {T : Type 0} → Queue T → ℕ → Type 0
IsSettledIn queue serial =
    (serial < queue.mark) ⊎ ((queue.mark ≤ serial) × (slice_get queue.letters (serial - queue.mark) ≡ Some None))

-- the mark rises past the letters that are settled, from the first on
abbrev pub marked : {T : Type 0} → Queue T → Queue T
marked queue = record queue {
  mark = queue.mark + settled_front queue.letters;
  letters = drop (settled_front queue.letters) queue.letters;
}

-- a letter comes, last, that is settled already
abbrev pub pushed_settled : {T : Type 0} → Queue T → Queue T
pushed_settled queue = marked (record queue { letters = queue.letters ++ None ∷ [] })

-- the letter at this place is settled; the server answered
abbrev pub settled_at : {T : Type 0} → Queue T → Option ℕ → Queue T
settled_at queue None = queue
settled_at queue (Some place) =
    marked (record queue { letters = slice_set queue.letters place None; in_hand = None; failures = 0 })

-- the letter in hand is settled
abbrev pub settled : {T : Type 0} → Queue T → Queue T
settled queue = settled_at queue queue.in_hand

-- a letter after it was put off at a moment
abbrev pub put_off_letter : {T : Type 0} → ℕ → Waits T → Waits T
put_off_letter now letter = record letter {
  tries = counted true letter.tries;
  due = later now (delay longest_letter_wait letter.tries);
}

-- the letter at this place is put off at a moment; the server answered
abbrev pub put_off_at : {T : Type 0} → Queue T → ℕ → Option ℕ → Queue T
put_off_at queue now None = queue
put_off_at queue now (Some place) = record queue {
  letters = slice_set queue.letters place (option_map (put_off_letter now) (letter_at queue.letters (Some place)));
  in_hand = None;
  failures = 0;
}

-- the letter in hand is put off at a moment
abbrev pub put_off : {T : Type 0} → Queue T → ℕ → Queue T
put_off queue now = put_off_at queue now queue.in_hand

-- the server didn't answer at a moment: all letters wait, each as it was
abbrev pub server_away : {T : Type 0} → Queue T → ℕ → Queue T
server_away queue now = record queue {
  in_hand = None;
  failures = counted true queue.failures;
  opens = later now (delay longest_server_wait queue.failures);
}

-- the letter in hand goes back, as if it wasn't taken
abbrev pub given_back : {T : Type 0} → Queue T → Queue T
given_back queue = record queue { in_hand = None }

-- the serial of the letter in hand
abbrev pub serial_in_hand : {T : Type 0} → Queue T → Option ℕ
serial_in_hand queue = option_map (λ place. queue.mark + place) queue.in_hand

-- whether a moment is there, if there is one
abbrev pub is_reached : Option ℕ → ℕ → Bool
is_reached None now = false
is_reached (Some moment) now = nat_le moment now

-- whether a letter was put off, and is as old as the limit
abbrev pub is_too_old : {T : Type 0} → ℕ → ℕ → Option (Waits T) → Bool
is_too_old now limit None = false
is_too_old now limit (Some letter) = nat_lt 0 letter.tries && nat_le limit (now - letter.since)

-- whether the letter in hand is given up
abbrev pub is_given_up : {T : Type 0} → Queue T → ℕ → ℕ → Bool
is_given_up queue now limit = is_too_old now limit (letter_in_hand queue)

-- the item of a letter
abbrev pub item_of : {T : Type 0} → Waits T → T
item_of letter = letter.item

-- What holds of every queue: serials have a maximum of 2 ^ 64 - 1, the mark is past all letters that are settled from
-- the first on, and the letter in hand is one that waits.
pub record IsQueue {T : Type 0} (queue : Queue T) : Type 0 where
  pub numbered : queue.mark + length queue.letters < 2 ^ 64
  pub first_waits : settled_front queue.letters ≡ 0
  pub hand_waits : is_some (letter_in_hand queue) ≡ is_some queue.in_hand
