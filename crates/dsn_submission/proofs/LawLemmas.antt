-- The laws of letters that wait.
use Rattle.std.proofs.Common.{◌≡◌, ℕ, zero, suc, ◌+◌, Bool, true, false, List, [], ◌∷◌, ◌++◌, length, drop, map, All, Option, Some, None, is_none, slice_set, refl, sym, ap, subst, ◌∙◌, arith, append_assoc, length-append}
use Rattle.std.specs.Option.{option_map}
use Rattle.std.proofs.lemmas.Bool.Decides.{nat_tests}
use Rattle.std.proofs.lemmas.List.{append-nil, map-append}
use Rattle.std.proofs.lemmas.List.Elements.{All-append, All-drop, All-get_or, All-set}
use Rattle.std.proofs.lemmas.Option.{get_or_from_slice_get, slice_get_within}
use Rattle.dsn_device.specs.Failures.{counted}
use Rattle.dsn_submission.specs.Waiting.{Queue, due_place, empty_queue, is_due, letter_at, new_letter, put_off_at, put_off_letter, server_away, settled_at, settled_front, taken}
use Rattle.dsn_submission.specs.WaitingLaws.{AreAt, Event, Comes, ComesSettled, IsTaken, Settles, IsPutOff, FindsNoServer, HasEach, IsDueIfNew, IsOrderly, OnlySettlingSettles, TakesInOrder, after_event, after_events, come, come_by, settled_flags}
use Rattle.dsn_submission.specs.declared.waiting.Waits.{Waits}
use Rattle.dsn_submission.proofs.WaitingLemmas.{drop_one_more, due_is_first, due_place_position, due_place_waits, first_waits_dropped, first_waits_put_off, first_waits_pushed, hand_waits_come, hand_waits_pushed}

AreAt-append : {T : Type 0} (items : List T) (letters : List (Option (Waits T))) (item : T) (now : ℕ)
    → AreAt items letters → AreAt (items ++ item ∷ []) (letters ++ Some (new_letter item now) ∷ [])
AreAt-append [] [] item now at = (refl, tt)
AreAt-append [] (letter ∷ letters) item now at = absurd at
AreAt-append (first ∷ items) [] item now at = absurd at
AreAt-append (first ∷ items) (None ∷ letters) item now at = AreAt-append items letters item now at
AreAt-append (first ∷ items) (Some letter ∷ letters) item now at = (at.0, AreAt-append items letters item now at.1)

-- a letter that is settled already
AreAt-settled_last : {T : Type 0} (items : List T) (letters : List (Option (Waits T))) (item : T)
    → AreAt items letters → AreAt (items ++ item ∷ []) (letters ++ None ∷ [])
AreAt-settled_last [] [] item at = tt
AreAt-settled_last [] (letter ∷ letters) item at = absurd at
AreAt-settled_last (first ∷ items) [] item at = absurd at
AreAt-settled_last (first ∷ items) (None ∷ letters) item at = AreAt-settled_last items letters item at
AreAt-settled_last (first ∷ items) (Some letter ∷ letters) item at = (at.0, AreAt-settled_last items letters item at.1)

-- a letter that is put off is the same letter
AreAt-put_off : {T : Type 0} (items : List T) (letters : List (Option (Waits T))) (place now : ℕ)
    → AreAt items letters → AreAt items (slice_set letters place (option_map (put_off_letter now) (letter_at letters (Some place))))
AreAt-put_off [] [] place now at = tt
AreAt-put_off [] (letter ∷ letters) place now at = absurd at
AreAt-put_off (first ∷ items) [] place now at = absurd at
AreAt-put_off (first ∷ items) (None ∷ letters) zero now at = at
AreAt-put_off (first ∷ items) (Some letter ∷ letters) zero now at = at
AreAt-put_off (first ∷ items) (None ∷ letters) (suc place) now at = AreAt-put_off items letters place now at
AreAt-put_off (first ∷ items) (Some letter ∷ letters) (suc place) now at = (at.0, AreAt-put_off items letters place now at.1)

AreAt-settled : {T : Type 0} (items : List T) (letters : List (Option (Waits T))) (place : ℕ)
    → AreAt items letters → AreAt items (slice_set letters place None)
AreAt-settled [] [] place at = tt
AreAt-settled [] (letter ∷ letters) place at = absurd at
AreAt-settled (first ∷ items) [] place at = absurd at
AreAt-settled (first ∷ items) (None ∷ letters) zero at = at
AreAt-settled (first ∷ items) (Some letter ∷ letters) zero at = at.1
AreAt-settled (first ∷ items) (None ∷ letters) (suc place) at = AreAt-settled items letters place at
AreAt-settled (first ∷ items) (Some letter ∷ letters) (suc place) at = (at.0, AreAt-settled items letters place at.1)

-- the letters behind those that are settled, from the first on
AreAt-marked : {T : Type 0} (mark : ℕ) (before items : List T) (letters : List (Option (Waits T))) → AreAt items letters
    → (gone held : List T) × (before ++ items ≡ gone ++ held) × (mark + length before + settled_front letters ≡ mark + length gone)
    × AreAt held (drop (settled_front letters) letters)
AreAt-marked mark before [] [] at = (before, [], refl, omega arith, tt)
AreAt-marked mark before [] (letter ∷ letters) at = absurd at
AreAt-marked mark before (first ∷ items) [] at = absurd at
AreAt-marked mark before (first ∷ items) (None ∷ letters) at =
    let rest = AreAt-marked mark (before ++ first ∷ []) items letters at in
    let long = length-append before (first ∷ []) in
    let marks = rest.3 in (
      rest.0,
      rest.1,
      sym (append_assoc before (first ∷ []) items) ∙ rest.2,
      omega arith,
      subst (λ (left : List (Option (Waits _))). AreAt rest.1 left) (sym (drop_one_more (settled_front letters) None letters)) rest.4,
    )
AreAt-marked mark before (first ∷ items) (Some letter ∷ letters) at = (before, first ∷ items, refl, omega arith, at)

taken_same : {T : Type 0} (queue : Queue T) (place : Option ℕ) → ((taken queue place).letters ≡ queue.letters) × ((taken queue place).mark ≡ queue.mark)
taken_same queue None = (refl, refl)
taken_same queue (Some place) = (refl, refl)

HasEach-same : {T : Type 0} (mark : ℕ) (queue new : Queue T) (items : List T)
    → new.mark ≡ queue.mark → ((held : List T) → AreAt held queue.letters → AreAt held new.letters)
    → HasEach mark queue items → HasEach mark new (items ++ [])
HasEach-same mark queue new items same stay has = record {
  gone = has.gone;
  held = has.held;
  split = append-nil items ∙ has.split;
  mark_is = same ∙ has.mark_is;
  held_at = stay has.held has.held_at;
}

HasEach-settled : {T : Type 0} (mark : ℕ) (queue : Queue T) (items : List T) (hand : Option ℕ)
    → HasEach mark queue items → HasEach mark (settled_at queue hand) (items ++ [])
HasEach-settled mark queue items None has = HasEach-same mark queue queue items refl (λ held at. at) has
HasEach-settled mark queue items (Some place) has =
    let marks = AreAt-marked mark has.gone has.held (slice_set queue.letters place None) (AreAt-settled has.held queue.letters place has.held_at) in record {
      gone = marks.0;
      held = marks.1;
      split = append-nil items ∙ (has.split ∙ marks.2);
      mark_is = ap (λ (n : ℕ). n + settled_front (slice_set queue.letters place None)) has.mark_is ∙ marks.3;
      held_at = marks.4;
    }

HasEach-put_off : {T : Type 0} (mark : ℕ) (queue : Queue T) (items : List T) (now : ℕ) (hand : Option ℕ)
    → HasEach mark queue items → HasEach mark (put_off_at queue now hand) (items ++ [])
HasEach-put_off mark queue items now None has = HasEach-same mark queue queue items refl (λ held at. at) has
HasEach-put_off mark queue items now (Some place) has =
    HasEach-same mark queue (put_off_at queue now (Some place)) items refl (λ held at. AreAt-put_off held queue.letters place now at) has

HasEach-event : {T : Type 0} (mark : ℕ) (queue : Queue T) (items : List T) (event : Event T)
    → HasEach mark queue items → HasEach mark (after_event queue event) (items ++ come_by event)
HasEach-event mark queue items (Comes item now) has = record {
  gone = has.gone;
  held = has.held ++ item ∷ [];
  split = ap (λ (all : List _). all ++ item ∷ []) has.split ∙ append_assoc has.gone has.held (item ∷ []);
  mark_is = has.mark_is;
  held_at = AreAt-append has.held queue.letters item now has.held_at;
}
HasEach-event mark queue items (ComesSettled item) has =
    let letters = queue.letters ++ None ∷ [] in
    let marks = AreAt-marked mark has.gone (has.held ++ item ∷ []) letters (AreAt-settled_last has.held queue.letters item has.held_at) in record {
      gone = marks.0;
      held = marks.1;
      split = ap (λ (all : List _). all ++ item ∷ []) has.split ∙ (append_assoc has.gone has.held (item ∷ []) ∙ marks.2);
      mark_is = ap (λ (n : ℕ). n + settled_front letters) has.mark_is ∙ marks.3;
      held_at = marks.4;
    }
HasEach-event mark queue items (IsTaken now) has =
    let same = taken_same queue (due_place queue now) in
    HasEach-same mark queue (taken queue (due_place queue now)) items same.1
    (λ held at. subst (λ (letters : List (Option (Waits _))). AreAt held letters) (sym same.0) at) has
HasEach-event mark queue items Settles has = HasEach-settled mark queue items queue.in_hand has
HasEach-event mark queue items (IsPutOff now) has = HasEach-put_off mark queue items now queue.in_hand has
HasEach-event mark queue items (FindsNoServer now) has = HasEach-same mark queue (server_away queue now) items refl (λ held at. at) has

HasEach-events : {T : Type 0} (mark : ℕ) (queue : Queue T) (items : List T) (events : List (Event T))
    → HasEach mark queue items → HasEach mark (after_events queue events) (items ++ come events)
HasEach-events mark queue items [] has = subst (λ (all : List _). HasEach mark queue all) (sym (append-nil items)) has
HasEach-events mark queue items (event ∷ events) has =
    subst (λ (all : List _). HasEach mark (after_events (after_event queue event) events) all) (append_assoc items (come_by event) (come events))
    (HasEach-events mark (after_event queue event) (items ++ come_by event) events (HasEach-event mark queue items event has))

pub all_have_places : {T : Type 0} (mark : ℕ) (events : List (Event T)) → HasEach mark (after_events (empty_queue mark) events) (come events)
all_have_places mark events = HasEach-events mark (empty_queue mark) [] events (record { gone = []; held = []; split = refl; mark_is = omega arith; held_at = tt })

-- a letter that was put off isn't new
counted_some : (count : ℕ) → counted true count ≡ 0 → ⊥
counted_some count none = grind (arith, nat_tests)

put_off_is_old : {T : Type 0} (now : ℕ) (letter : Option (Waits T)) → IsDueIfNew (option_map (put_off_letter now) letter)
put_off_is_old now None = tt
put_off_is_old now (Some letter) = λ new. absurd (counted_some letter.tries new)

IsOrderly-taken : {T : Type 0} (queue : Queue T) (now : ℕ) (place : Option ℕ) → due_place queue now ≡ place → IsOrderly queue → IsOrderly (taken queue place)
IsOrderly-taken queue now None found is = is
IsOrderly-taken queue now (Some place) found is =
    record { first_waits = is.first_waits; hand_waits = due_place_waits queue now place found; new_due = is.new_due }

IsOrderly-settled : {T : Type 0} (queue : Queue T) (hand : Option ℕ) → IsOrderly queue → IsOrderly (settled_at queue hand)
IsOrderly-settled queue None is = is
IsOrderly-settled queue (Some place) is = record {
  first_waits = first_waits_dropped (slice_set queue.letters place None);
  hand_waits = refl;
  new_due = All-drop IsDueIfNew _ (slice_set queue.letters place None) (All-set IsDueIfNew queue.letters place None tt is.new_due);
}

IsOrderly-put_off : {T : Type 0} (queue : Queue T) (now : ℕ) (hand : Option ℕ) → IsOrderly queue → IsOrderly (put_off_at queue now hand)
IsOrderly-put_off queue now None is = is
IsOrderly-put_off queue now (Some place) is = record {
  first_waits = first_waits_put_off queue.letters place (put_off_letter now) is.first_waits;
  hand_waits = refl;
  new_due = All-set IsDueIfNew queue.letters place _ (put_off_is_old now (letter_at queue.letters (Some place))) is.new_due;
}

none_due : {T : Type 0} → All (IsDueIfNew {T = T}) (None ∷ [])
none_due zero d within = tt
none_due (suc k) d within = absurd (omega arith)

one_new_due : {T : Type 0} (item : T) (now : ℕ) → All IsDueIfNew (Some (new_letter item now) ∷ [])
one_new_due item now zero d within = λ new. refl
one_new_due item now (suc k) d within = absurd (omega arith)

IsOrderly-event : {T : Type 0} (queue : Queue T) (event : Event T) → IsOrderly queue → IsOrderly (after_event queue event)
IsOrderly-event queue (Comes item now) is = record {
  first_waits = first_waits_pushed queue.letters (new_letter item now) is.first_waits;
  hand_waits = hand_waits_pushed queue.letters _ queue.in_hand is.hand_waits;
  new_due = All-append IsDueIfNew queue.letters _ is.new_due (one_new_due item now);
}
IsOrderly-event queue (ComesSettled item) is = record {
  first_waits = first_waits_dropped (queue.letters ++ None ∷ []);
  hand_waits = hand_waits_come queue.letters queue.in_hand is.first_waits is.hand_waits;
  new_due = All-drop IsDueIfNew _ (queue.letters ++ None ∷ []) (All-append IsDueIfNew queue.letters _ is.new_due none_due);
}
IsOrderly-event queue (IsTaken now) is = IsOrderly-taken queue now (due_place queue now) refl is
IsOrderly-event queue Settles is = IsOrderly-settled queue queue.in_hand is
IsOrderly-event queue (IsPutOff now) is = IsOrderly-put_off queue now queue.in_hand is
IsOrderly-event queue (FindsNoServer now) is = record { first_waits = is.first_waits; hand_waits = refl; new_due = is.new_due }

IsOrderly-events : {T : Type 0} (queue : Queue T) (events : List (Event T)) → IsOrderly queue → IsOrderly (after_events queue events)
IsOrderly-events queue [] is = is
IsOrderly-events queue (event ∷ events) is = IsOrderly-events (after_event queue event) events (IsOrderly-event queue event is)

none_new_due : {T : Type 0} → All (IsDueIfNew {T = T}) []
none_new_due k d within = absurd (omega arith)

pub all_orderly : {T : Type 0} (mark : ℕ) (events : List (Event T)) → IsOrderly (after_events (empty_queue mark) events)
all_orderly mark events = IsOrderly-events (empty_queue mark) events (record { first_waits = refl; hand_waits = refl; new_due = none_new_due })

-- a letter that is new is due, so the first that is due isn't behind it
pub orderly_in_order : {T : Type 0} (queue : Queue T) → IsOrderly queue → TakesInOrder queue
orderly_in_order queue is now place earlier letter before found at new less earlier_at before_new =
    let here = due_is_first now queue.letters place earlier (due_place_position queue now place found) less in
    let within = slice_get_within queue.letters earlier (Some before) earlier_at in
    let same = get_or_from_slice_get queue.letters earlier (Some before) None earlier_at in
    let old : IsDueIfNew (Some before) = subst IsDueIfNew same (All-get_or IsDueIfNew queue.letters earlier None within is.new_due) in
    let not_due : is_due now (Some before) ≡ false = subst (λ (l : Option (Waits _)). is_due now l ≡ false) same here in
    let due = old before_new in grind (arith, nat_tests)

flags_put_off : {T : Type 0} (letters : List (Option (Waits T))) (place now : ℕ)
    → map is_none (slice_set letters place (option_map (put_off_letter now) (letter_at letters (Some place)))) ≡ map is_none letters
flags_put_off [] place now = refl
flags_put_off (None ∷ letters) zero now = refl
flags_put_off (Some letter ∷ letters) zero now = refl
flags_put_off (letter ∷ letters) (suc place) now = ap (λ (flags : List Bool). is_none letter ∷ flags) (flags_put_off letters place now)

put_off_flags : {T : Type 0} (queue : Queue T) (now : ℕ) (hand : Option ℕ)
    → ((put_off_at queue now hand).mark ≡ queue.mark) × (settled_flags (put_off_at queue now hand) ≡ settled_flags queue ++ [])
put_off_flags queue now None = (refl, sym (append-nil _))
put_off_flags queue now (Some place) = (refl, flags_put_off queue.letters place now ∙ sym (append-nil _))

pub only_settling : {T : Type 0} (queue : Queue T) (event : Event T) → OnlySettlingSettles queue event
only_settling queue (Comes item now) other = (refl, map-append is_none queue.letters (Some (new_letter item now) ∷ []))
only_settling queue (ComesSettled item) other = cc
only_settling queue (IsTaken now) other =
    let same = taken_same queue (due_place queue now) in (same.1, ap (map is_none) same.0 ∙ sym (append-nil _))
only_settling queue Settles other = cc
only_settling queue (IsPutOff now) other = put_off_flags queue now queue.in_hand
only_settling queue (FindsNoServer now) other = (refl, sym (append-nil _))
