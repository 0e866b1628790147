-- The facts of a message in its queue file, read from one record after another.
use Rattle.std.proofs.Common.{◌≡◌, ℕ, List, [], ◌∷◌, Option, Some, None, refl, ◌∙◌, ap}
use Rattle.std.specs.List.{cons_option, filter_map, last_or}
use Rattle.dsn_postfix_files.specs.inner.QueueReading.{MessageLeft, said_with, with_record}
use Rattle.dsn_postfix_files.specs.MessageFacts.{SaidOfMessage, arrival_in, earliest, envelope_id_in, first_or, message_id_in, return_flags_in, sender_in}
use Rattle.dsn_postfix_files.specs.QueueListing.{QueueEnding, ending_step}
use Rattle.dsn_postfix_files.specs.QueueRecord.{PlacedBytes}
use Rattle.dsn_postfix_files.specs.QueueWalk.{QueuePlace, RecordThere, StepsTo}
use Rattle.dsn_postfix_files.proofs.QueueListingLemmas.{begins_listing, ends_listing}

first-step : {X : Type 0} (before here later : Option X) → first_or before (first_or here later) ≡ first_or (first_or before here) later
first-step (Some x) here later = refl
first-step None here later = refl

last-by : {X : Type 0} (before here : Option X) (more : List X) → last_or before (cons_option here more) ≡ last_or (first_or here before) more
last-by before None more = refl
last-by before (Some x) more = refl

-- the facts with those of a record before the others
step-said : (before : SaidOfMessage) (found : PlacedBytes) (records : List PlacedBytes) → said_with before (found ∷ records) ≡ said_with (with_record before found) records
unfolding with_record
step-said before found records = λ i. record {
  arrival = first-step before.arrival (arrival_in found) (earliest arrival_in records) i;
  sender = first-step before.sender (sender_in found) (earliest sender_in records) i;
  envelope_id = last-by before.envelope_id (envelope_id_in found) (filter_map envelope_id_in records) i;
  return_flags = last-by before.return_flags (return_flags_in found) (filter_map return_flags_in records) i;
  message_id = first-step before.message_id (message_id_in found) (earliest message_id_in records) i;
}

pub more_said : (file : List ℕ) (start next : QueuePlace) (before said : SaidOfMessage) (found : PlacedBytes) (ending : QueueEnding)
    → StepsTo file start (RecordThere found next) → MessageLeft (record { file = file; place = start }) before said ending
    → MessageLeft (record { file = file; place = next }) (with_record before found) said ending
more_said file start next before said found ending step left =
    let begins = begins_listing file start next found left.records ending step left.come in
    record {
      records = begins.others;
      come = begins.lists;
      are = left.are ∙ ap (said_with before) begins.first ∙ step-said before found begins.others;
    }

-- no more records
nothing-more : {X : Type 0} (before : Option X) → first_or before None ≡ before
nothing-more (Some x) = refl
nothing-more None = refl

all-said : (before : SaidOfMessage) → said_with before [] ≡ before
all-said before = λ i. record {
  arrival = nothing-more before.arrival i;
  sender = nothing-more before.sender i;
  envelope_id = before.envelope_id;
  return_flags = before.return_flags;
  message_id = nothing-more before.message_id i;
}

pub no_more_said : (file : List ℕ) (start : QueuePlace) (here : QueueEnding) (before said : SaidOfMessage) (ending : QueueEnding)
    → StepsTo file start (ending_step here) → MessageLeft (record { file = file; place = start }) before said ending → (ending ≡ here) × (said ≡ before)
no_more_said file start here before said ending step left =
    let ends = ends_listing file start here left.records ending step left.come in
    (ends.1, left.are ∙ ap (said_with before) ends.0 ∙ all-said before)
