-- The recipients of a queue file, read from one record after another.
use Rattle.std.proofs.Common.{◌≡◌, ℕ, List, [], Option, Some, None, refl, ◌∙◌, ap}
use Rattle.dsn_postfix_files.specs.QueueListing.{QueueEnding, ending_step}
use Rattle.dsn_postfix_files.specs.QueueRecipients.{BeginsRecipients, RecipientFacts, RecipientsLeft, SaidBefore, after_record, recipient_or_more, recipient_with, recipients_after, recipients_of, state_of_kind}
use Rattle.dsn_postfix_files.specs.QueueRecord.{PlacedBytes}
use Rattle.dsn_postfix_files.specs.QueueWalk.{QueuePlace, RecordThere, StepsTo}
use Rattle.dsn_postfix_files.specs.declared.recipient_state.RecipientState.{RecipientState}
use Rattle.dsn_postfix_files.proofs.QueueListingLemmas.{begins_listing, ends_listing}

abbrev by_state : SaidBefore → PlacedBytes → List PlacedBytes → Option RecipientState → List RecipientFacts
by_state before found others state =
    recipient_or_more state before found (recipients_of others) (recipients_after (after_record before found) others)

-- a record of a recipient
pub first_recipient : (file : List ℕ) (start next : QueuePlace) (before : SaidBefore) (found : PlacedBytes) (state : RecipientState) (recipients : List RecipientFacts) (ending : QueueEnding)
    → StepsTo file start (RecordThere found next) → state_of_kind found.kind ≡ Some state → RecipientsLeft (record { file = file; place = start }) before recipients ending
    → BeginsRecipients (recipient_with before found state) recipients ending (record { file = file; place = next })
first_recipient file start next before found state recipients ending step is left =
    let begins = begins_listing file start next found left.records ending step left.come in
    record {
      others = recipients_of begins.others;
      first = left.are ∙ ap (recipients_after before) begins.first ∙ ap (by_state before found begins.others) is;
      left = record { records = begins.others; come = begins.lists; are = refl };
    }

-- another record
pub more_recipients : (file : List ℕ) (start next : QueuePlace) (before : SaidBefore) (found : PlacedBytes) (recipients : List RecipientFacts) (ending : QueueEnding)
    → StepsTo file start (RecordThere found next) → state_of_kind found.kind ≡ None → RecipientsLeft (record { file = file; place = start }) before recipients ending
    → RecipientsLeft (record { file = file; place = next }) (after_record before found) recipients ending
more_recipients file start next before found recipients ending step is left =
    let begins = begins_listing file start next found left.records ending step left.come in
    record {
      records = begins.others;
      come = begins.lists;
      are = left.are ∙ ap (recipients_after before) begins.first ∙ ap (by_state before found begins.others) is;
    }

-- no more records
pub no_recipients : (file : List ℕ) (start : QueuePlace) (before : SaidBefore) (here : QueueEnding) (recipients : List RecipientFacts) (ending : QueueEnding)
    → StepsTo file start (ending_step here) → RecipientsLeft (record { file = file; place = start }) before recipients ending → (recipients ≡ []) × (ending ≡ here)
no_recipients file start before here recipients ending step left =
    let ends = ends_listing file start here left.records ending step left.come in
    (left.are ∙ ap (recipients_after before) ends.0, ends.1)
