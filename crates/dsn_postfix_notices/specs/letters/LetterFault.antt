-- Why no letter is made: the first fault of what it would report, or lack of memory before that fault is known.
use Rattle.std.specs.Prelude.{◌≡◌, ◌⊎◌, Option, Some}
use Rattle.dsn_outcome.specs.declared.draft_fault.DraftFault.{DraftFault}
use Rattle.dsn_outcome.specs.declared.draft_fault.DraftFault.TheVariants as draft
use Rattle.dsn_outcome.specs.declared.outcome_fault.OutcomeFault.{OutcomeFault}
use Rattle.dsn_outcome.specs.declared.outcome_fault.OutcomeFault.TheVariants as outcome
use Rattle.dsn_postfix_notices.specs.declared.letters.letter_fault.LetterFault.{LetterFault}
use Rattle.dsn_postfix_notices.specs.declared.letters.letter_fault.LetterFault.TheVariants.{Draft, NoMemory, Outcome}

-- the fault of a letter whose draft, or one of whose outcomes, was refused
abbrev pub of_draft : DraftFault → LetterFault
of_draft draft.NoMemory = NoMemory
of_draft fault = Draft fault

abbrev pub of_outcome : OutcomeFault → LetterFault
of_outcome outcome.NoMemory = NoMemory
of_outcome fault = Outcome fault

abbrev pub IsLetterFault : Option LetterFault → LetterFault → Type 0
IsLetterFault first fault = (fault ≡ NoMemory) ⊎ (first ≡ Some fault)
