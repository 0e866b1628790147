-- The letters of a request for notices, made of what was read for it, and which recipients are marked as done after
-- them.
use Rattle.std.specs.Prelude.{◌≡◌, ℕ, ◌+◌, List, [], ◌∷◌, ◌++◌}
use Rattle.dsn_outcome.specs.Letter.{Letter}
use Rattle.dsn_postfix.specs.PlannedNotice.{NoticeFacts}
use Rattle.dsn_postfix.specs.declared.plan_fault.PlanFault.TheVariants as plan
use Rattle.dsn_postfix.specs.declared.plan_fault.PlanFault.{PlanFault}
use Rattle.dsn_postfix_notices.specs.declared.letters.letter_fault.LetterFault.TheVariants as fault
use Rattle.dsn_postfix_notices.specs.declared.letters.letter_fault.LetterFault.{LetterFault}
use Rattle.dsn_postfix_notices.specs.declared.requests.pass_reason.PassReason.TheVariants.{NoPlan, NoLetter}
use Rattle.dsn_postfix_notices.specs.declared.requests.untold.Untold.TheVariants.{NoMemory, PassedOn, Failed}
use Rattle.dsn_postfix_notices.specs.declared.requests.untold.Untold.{Untold}
use Rattle.dsn_postfix_notices.specs.letters.ReportedMessage.{MessageSaid}
use Rattle.dsn_postfix_notices.specs.requests.RequestLetters.{IsSaidLetter}

-- the letter of a notice was added to some letters
pub record GainsLetter (message : MessageSaid) (moment serial : ℕ) (notice : NoticeFacts) (old new : List Letter) : Type 0 where
  pub letter : Letter
  pub is_said : IsSaidLetter message moment serial notice letter
  pub new_are : new ≡ old ++ letter ∷ []

-- why a sender isn't notified after a fault of the plan, or of a letter
abbrev pub of_plan : PlanFault → Untold
of_plan plan.NoMemory = NoMemory
of_plan (plan.Unsaid why) = PassedOn (NoPlan why)

abbrev pub of_letter : LetterFault → Untold
of_letter fault.NoMemory = NoMemory
of_letter why = PassedOn (NoLetter why)

-- why there are no letters: they can't be expressed, or memory was refused
abbrev pub IsReason : Type 0 → Untold → Type 0
IsReason Unsaid (PassedOn why) = Unsaid
IsReason Unsaid Failed = ⊥
IsReason Unsaid NoMemory = Unit {0}
