-- The letters of a request, made one after another, and the recipients of a queue file, read one after another.
use Rattle.std.proofs.Common.{◌≡◌, ℕ, true, List, [], ◌∷◌, ◌++◌, Option, Some, None, Result, Ok, Err, refl, sym, ap, subst, ◌∙◌, append_assoc, append-nil}
use Rattle.std.specs.List.{list_any}
use Rattle.std.specs.Prelude.{IfOk, IfErr, MatchOption}
use Rattle.dsn_outcome.specs.Letter.{Letter}
use Rattle.dsn_postfix.specs.NoticePlan.{IsPlanFault}
use Rattle.dsn_postfix.specs.declared.cant_say.CantSay.{CantSay}
use Rattle.dsn_postfix.specs.declared.plan_fault.PlanFault.{PlanFault}
use Rattle.dsn_postfix.specs.declared.plan_fault.PlanFault.TheVariants.{NoMemory as NoPlanMemory, Unsaid}
use Rattle.dsn_postfix.specs.PlannedNotice.{NoticeFacts}
use Rattle.dsn_postfix_files.specs.QueueListing.{QueueEnding}
use Rattle.dsn_postfix_files.specs.QueueRecipients.{BeginsRecipients, RecipientFacts, RecipientsLeft, nothing_before}
use Rattle.dsn_postfix_files.specs.QueueWalk.{QueueReading}
use Rattle.dsn_postfix_notices.specs.declared.requests.untold.Untold.{Untold}
use Rattle.dsn_postfix_notices.specs.declared.requests.untold.Untold.TheVariants.{Failed, NoMemory, PassedOn}
use Rattle.dsn_postfix_notices.specs.letters.ReportedMessage.{MessageSaid}
use Rattle.dsn_postfix_notices.specs.requests.RequestLetters.{AreLettersOf, has_fault}
use Rattle.dsn_postfix_notices.specs.inner.RequestLetters.{IsReason, of_plan}

-- ---- results

pub ok_as : {T E : Type 0} → (result : Result T E) (P Q : T → Type 0) → IfOk result P → ((value : T) → P value → Q value) → IfOk result Q
ok_as (Ok value) P Q is follows = follows value is
ok_as (Err why) P Q is follows = is

pub err_as : {T E : Type 0} → (result : Result T E) (P Q : E → Type 0) → IfErr result P → ((why : E) → P why → Q why) → IfErr result Q
err_as (Ok value) P Q is follows = is
err_as (Err why) P Q is follows = follows why is

pub first_if_none : {X : Type 0} → (found : Option X) (P E : Type 0) (Q : X → Type 0) → MatchOption found (P × E) Q → MatchOption found P Q
first_if_none None P E Q is = is.0
first_if_none (Some x) P E Q is = is

-- ---- why a notice has no letter

pub reason_as : (P Q : Type 0) (why : Untold) → IsReason P why → (P → Q) → IsReason Q why
reason_as P Q (PassedOn why) is follows = follows is
reason_as P Q Failed is follows = absurd is
reason_as P Q NoMemory is follows = tt

pub plan_reason : {X P : Type 0} → (planned : Result X CantSay) (fault : PlanFault) → IsPlanFault planned fault → ((why : CantSay) → planned ≡ Err why → P) → IsReason P (of_plan fault)
plan_reason planned NoPlanMemory is follows = tt
plan_reason planned (Unsaid why) is follows = follows why is

-- ---- letters

-- the letters so far, and those of the notices that are left
pub record LettersSoFar (message : MessageSaid) (moment first serial : ℕ) (notices rest : List NoticeFacts) (letters : List Letter) : Type 0 where
  pub goes_on : (more : List Letter) → AreLettersOf message moment serial rest more → AreLettersOf message moment first notices (letters ++ more)
  pub unsaid : list_any (has_fault message) rest ≡ true → list_any (has_fault message) notices ≡ true

pub all_letters : (message : MessageSaid) (moment first serial : ℕ) (notices rest : List NoticeFacts) (letters : List Letter)
    → LettersSoFar message moment first serial notices rest letters → rest ≡ [] → AreLettersOf message moment first notices letters
all_letters message moment first serial notices rest letters so_far none =
    subst (λ (all : List Letter). AreLettersOf message moment first notices all) (append-nil letters)
    (so_far.goes_on [] (subst (λ (left : List NoticeFacts). AreLettersOf message moment serial left []) (sym none) refl))

-- ---- recipients

-- whatever the recipients are, they are those so far, and then those that are left
pub record RecipientsSoFar (start here : QueueReading) (queued : List RecipientFacts) : Type 0 where
  pub left : (recipients : List RecipientFacts) (ending : QueueEnding) → RecipientsLeft start nothing_before recipients ending
      → (rest : List RecipientFacts) × (recipients ≡ queued ++ rest) × RecipientsLeft here nothing_before rest ending

pub recipient_more : (start here next : QueueReading) (queued new : List RecipientFacts) (found : RecipientFacts)
    → RecipientsSoFar start here queued → new ≡ queued ++ found ∷ []
    → ((recipients : List RecipientFacts) (ending : QueueEnding) → RecipientsLeft here nothing_before recipients ending → BeginsRecipients found recipients ending next)
    → RecipientsSoFar start next new
recipient_more start here next queued new found so_far new_are begins = record {
  left = λ recipients ending from.
      let before = so_far.left recipients ending from in
      let more = begins before.0 ending before.2 in (
        more.others,
        before.1 ∙ ap (λ (rest : List RecipientFacts). queued ++ rest) more.first ∙ sym (append_assoc queued (found ∷ []) more.others) ∙ ap (λ (all : List RecipientFacts). all ++ more.others) (sym new_are),
        more.left,
      );
}

pub recipients_all : (start here : QueueReading) (queued recipients : List RecipientFacts) (ending : QueueEnding)
    → RecipientsSoFar start here queued → RecipientsLeft start nothing_before recipients ending
    → ((rest : List RecipientFacts) (ending : QueueEnding) → RecipientsLeft here nothing_before rest ending → rest ≡ [])
    → queued ≡ recipients
recipients_all start here queued recipients ending so_far from none =
    let before = so_far.left recipients ending from in
    sym (before.1 ∙ ap (λ (rest : List RecipientFacts). queued ++ rest) (none before.0 ending before.2) ∙ append-nil queued)
