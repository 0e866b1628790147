-- A queue file has one list of records, and each reading goes through it.
use Rattle.std.proofs.Common.{◌≡◌, ℕ, zero, suc, ◌<◌, ◌≤◌, List, [], ◌∷◌, length, Option, Some, None, refl, sym, ◌∙◌, ap, subst, arith}
use Rattle.dsn_postfix_files.specs.QueueListing.{BeginsListing, BrokenOff, HasOneListing, RecordsFrom, QueueEnding, WholeFile, ending_step}
use Rattle.dsn_postfix_files.specs.QueueRecord.{PlacedBytes}
use Rattle.dsn_postfix_files.specs.QueueWalk.{BrokenThere, EndThere, PointerTo, PointersLead, QueuePlace, RecordThere, StepsTo, WalkStep, after_pointers, first_place, pointed_at, pointed_from, step_at, steps_left}
use Rattle.dsn_postfix_files.proofs.QueueWalkLemmas.{GoesOn, step-goes_on}

-- ---- pointers, counted from the first one

-- the place after this number of further pointers, if there is a first one
abbrev after_next : ℕ → List ℕ → Option QueuePlace → Option QueuePlace
after_next count file None = None
after_next count file (Some next) = after_pointers count file next

after-none : (file : List ℕ) (next : Option QueuePlace) → next ≡ after_next 0 file next
after-none file None = refl
after-none file (Some next) = refl

after-more : (count : ℕ) (file : List ℕ) (next : Option QueuePlace) → pointed_from file (after_next count file next) ≡ after_next (suc count) file next
after-more count file None = refl
after-more count file (Some next) = refl

from-first : (count : ℕ) (file : List ℕ) (start : QueuePlace) → after_pointers (suc count) file start ≡ after_next count file (pointed_at (step_at file start))
from-first zero file start = after-none file (pointed_at (step_at file start))
from-first (suc count) file start = ap (pointed_from file) (from-first count file start) ∙ after-more count file (pointed_at (step_at file start))

-- pointers lead to only one place without a pointer
abbrev Stops : List ℕ → QueuePlace → Type 0
Stops file place = pointed_at (step_at file place) ≡ None

stops-there : (count : ℕ) (file : List ℕ) (start here : QueuePlace) → Stops file start → after_pointers count file start ≡ Some here → start ≡ here
stops-there zero file start here stops lead = grind (arith, lead)
stops-there (suc count) file start here stops lead =
    let none : None ≡ Some here = ap (after_next count file) (sym stops) ∙ sym (from-first count file start) ∙ lead in
    grind (arith, none)

one-place-next : (a b : ℕ) (file : List ℕ) (next : Option QueuePlace) (here there : QueuePlace)
    → ((place : QueuePlace) → after_pointers a file place ≡ Some here → after_pointers b file place ≡ Some there → here ≡ there)
    → after_next a file next ≡ Some here → after_next b file next ≡ Some there → here ≡ there
one-place-next a b file None here there later lead other = grind (arith, lead)
one-place-next a b file (Some next) here there later lead other = later next lead other

one-place : (a b : ℕ) (file : List ℕ) (start here there : QueuePlace) → after_pointers a file start ≡ Some here → after_pointers b file start ≡ Some there → Stops file here → Stops file there → here ≡ there
one-place zero b file start here there lead other stops stops_too =
    let same : start ≡ here = grind (arith, lead) in
    sym same ∙ stops-there b file start there (subst (Stops file) (sym same) stops) other
one-place (suc a) zero file start here there lead other stops stops_too =
    let same : start ≡ there = grind (arith, other) in
    sym (stops-there (suc a) file start here (subst (Stops file) (sym same) stops_too) lead) ∙ same
one-place (suc a) (suc b) file start here there lead other stops stops_too =
    one-place-next a b file (pointed_at (step_at file start)) here there
    (λ place l o. one-place a b file place here there l o stops stops_too)
    (sym (from-first a file start) ∙ lead) (sym (from-first b file start) ∙ other)

-- only one step that isn't a pointer is next
one-step : (file : List ℕ) (start : QueuePlace) (a b : WalkStep) → StepsTo file start a → StepsTo file start b → pointed_at a ≡ None → pointed_at b ≡ None → a ≡ b
one-step file start a b to_a to_b stops stops_too =
    let same = one-place to_a.pointers.count to_b.pointers.count file start to_a.here to_b.here to_a.pointers.lead to_b.pointers.lead (ap pointed_at to_a.is ∙ stops) (ap pointed_at to_b.is ∙ stops_too) in
    sym to_a.is ∙ ap (step_at file) same ∙ to_b.is

-- ---- a reading finds the front of the list

ends-alone : (ending : QueueEnding) → pointed_at (ending_step ending) ≡ None
ends-alone WholeFile = refl
ends-alone BrokenOff = refl

no-end-is-record : (ending : QueueEnding) (found : PlacedBytes) (next : QueuePlace) → RecordThere found next ≡ ending_step ending → ⊥
no-end-is-record WholeFile found next is = grind (arith, is)
no-end-is-record BrokenOff found next is = grind (arith, is)

same-ending : (a b : QueueEnding) → ending_step a ≡ ending_step b → a ≡ b
same-ending WholeFile WholeFile is = refl
same-ending WholeFile BrokenOff is = grind (arith, is)
same-ending BrokenOff WholeFile is = grind (arith, is)
same-ending BrokenOff BrokenOff is = refl

pub ends_listing : (file : List ℕ) (start : QueuePlace) (here : QueueEnding) (records : List PlacedBytes) (ending : QueueEnding) → StepsTo file start (ending_step here) → RecordsFrom file start records ending
    → (records ≡ []) × (ending ≡ here)
ends_listing file start here [] ending step lists =
    (refl, same-ending ending here (one-step file start (ending_step ending) (ending_step here) lists step (ends-alone ending) (ends-alone here)))
ends_listing file start here (found ∷ records) ending step lists =
    absurd (no-end-is-record here found lists.next (one-step file start (RecordThere found lists.next) (ending_step here) lists.comes step refl (ends-alone here)))

same-record : (found other : PlacedBytes) (next there : QueuePlace) → RecordThere found next ≡ RecordThere other there → (found ≡ other) × (next ≡ there)
same-record found other next there is = grind (arith, is)

pub begins_listing : (file : List ℕ) (start next : QueuePlace) (found : PlacedBytes) (records : List PlacedBytes) (ending : QueueEnding) → StepsTo file start (RecordThere found next) → RecordsFrom file start records ending
    → BeginsListing found records ending (record { file = file; place = next })
begins_listing file start next found [] ending step lists =
    absurd (no-end-is-record ending found next (one-step file start (RecordThere found next) (ending_step ending) step lists refl (ends-alone ending)))
begins_listing file start next found (other ∷ records) ending step lists =
    let same = same-record other found lists.next next (one-step file start (RecordThere other lists.next) (RecordThere found next) lists.comes step refl refl) in
    record {
      others = records;
      first = λ i. same.0 i ∷ records;
      lists = subst (λ (place : QueuePlace). RecordsFrom file place records ending) same.1 lists.later;
    }

-- ---- there is one list

no-pointer : (file : List ℕ) (place : QueuePlace) → PointersLead file place place
no-pointer file place = record { count = 0; lead = refl }

-- one more pointer in front
pointer-first : (file : List ℕ) (place next : QueuePlace) (step : WalkStep) → step_at file place ≡ PointerTo next → StepsTo file next step → StepsTo file place step
pointer-first file place next step is to =
    record {
      here = to.here;
      pointers = record { count = suc to.pointers.count; lead = from-first to.pointers.count file place ∙ ap (λ (there : WalkStep). after_next to.pointers.count file (pointed_at there)) is ∙ to.pointers.lead };
      is = to.is;
    }

lists-first : (file : List ℕ) (place next : QueuePlace) (records : List PlacedBytes) (ending : QueueEnding) → step_at file place ≡ PointerTo next → RecordsFrom file next records ending → RecordsFrom file place records ending
lists-first file place next [] ending is lists = pointer-first file place next (ending_step ending) is lists
lists-first file place next (found ∷ records) ending is lists =
    record { next = lists.next; comes = pointer-first file place next (RecordThere found lists.next) is lists.comes; later = lists.later }

-- the list from a place on
record Listing (file : List ℕ) (place : QueuePlace) : Type 0 where
  records : List PlacedBytes
  ending : QueueEnding
  lists : RecordsFrom file place records ending
  few : length records ≤ steps_left (length file) place

ended : (file : List ℕ) (place : QueuePlace) (ending : QueueEnding) → step_at file place ≡ ending_step ending → Listing file place
ended file place ending is = record {
  records = [];
  ending = ending;
  lists = record { here = place; pointers = no-pointer file place; is = is };
  few = omega arith;
}

listing-by : (fuel : ℕ) (file : List ℕ) (place : QueuePlace) (step : WalkStep)
    → ((next : QueuePlace) → steps_left (length file) next < fuel → length next.rest ≤ length file → Listing file next)
    → step_at file place ≡ step → GoesOn file place step → steps_left (length file) place < suc fuel → Listing file place
listing-by fuel file place (RecordThere found next) from is goes enough =
    let later = from next (omega (arith, goes.0, enough)) goes.1 in
    record {
      records = found ∷ later.records;
      ending = later.ending;
      lists = record { next = next; comes = record { here = place; pointers = no-pointer file place; is = is }; later = later.lists };
      few = omega (arith, later.few, goes.0);
    }
listing-by fuel file place (PointerTo next) from is goes enough =
    let later = from next (omega (arith, goes.0, enough)) goes.1 in
    record {
      records = later.records;
      ending = later.ending;
      lists = lists-first file place next later.records later.ending is later.lists;
      few = omega (arith, later.few, goes.0);
    }
listing-by fuel file place EndThere from is goes enough = ended file place WholeFile is
listing-by fuel file place BrokenThere from is goes enough = ended file place BrokenOff is

listing : (fuel : ℕ) (file : List ℕ) (place : QueuePlace) → steps_left (length file) place < fuel → length place.rest ≤ length file → Listing file place
listing zero file place enough within = absurd (omega (arith, enough))
listing (suc fuel) file place enough within =
    listing-by fuel file place (step_at file place) (λ next fewer inside. listing fuel file next fewer inside) refl (step-goes_on file place within) enough

-- it is the only one
one-listing : (file : List ℕ) (place : QueuePlace) (records others : List PlacedBytes) (ending other : QueueEnding) → RecordsFrom file place records ending → RecordsFrom file place others other → (others ≡ records) × (other ≡ ending)
one-listing file place [] others ending other lists too = ends_listing file place ending others other lists too
one-listing file place (found ∷ records) others ending other lists too =
    let begins = begins_listing file place lists.next found others other lists.comes too in
    let rest = one-listing file lists.next records begins.others ending other lists.later begins.lists in
    (begins.first ∙ ap (λ (l : List PlacedBytes). found ∷ l) rest.0, rest.1)

pub has_one_listing : (file : List ℕ) → HasOneListing file
has_one_listing file =
    let here = listing (suc (steps_left (length file) (first_place file))) file (first_place file) (omega arith) (omega arith) in
    record {
      records = here.records;
      ending = here.ending;
      lists = here.lists;
      few = here.few;
      only = λ others other too. one-listing file (first_place file) here.records others here.ending other here.lists too;
    }
