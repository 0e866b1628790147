-- Of private parts: how the collector's part of a run ended.
use Rattle.std.specs.Prelude.{◌≡◌, List, true, Result, Ok, Err}
use Rattle.dsn_book.specs.declared.keeper.Keeper.{Ghosts as Keeper}
use Rattle.dsn_book.specs.Step.{letters_in}
use Rattle.dsn_outcome.specs.History.{Exchange}
use Rattle.dsn_crew.specs.post.LetterSink.{LetterSink, TakesLetter}
use Rattle.dsn_crew.specs.desk.Desk.{Desk, IsDesk, IsRun, all_gone, letter_kept}
use Rattle.dsn_crew.specs.inner.Desk.{IsStopped}
use Rattle.dsn_crew.specs.declared.broken_off.BrokenOff.{BrokenOff}
use Rattle.dsn_crew.specs.declared.desk.desk_fault.DeskFault.{DeskFault}

-- the collector ran to its end, or failed, for this reason, with the letter that it held, and gave
-- back what carried its requests out
abbrev pub IsCollected :
    {B : Type 0} → Keeper B → List Exchange → Desk B → LetterSink → LetterSink
    → Result (Desk B) (BrokenOff B) → Type 0
IsCollected keeper before old sink after (Ok new) =
    IsRun keeper before TakesLetter old new sink after (Ok tt) × (all_gone new ≡ true)
    × IsDesk keeper new
IsCollected keeper before old sink after (Err broken) =
    (fault : DeskFault) × IsRun keeper before TakesLetter old broken.desk.value sink after (Err fault)
    × (letters_in broken.held ≡ letter_kept (Err fault)) × IsDesk keeper broken.desk.value
    × IsStopped keeper broken.desk.value broken.breach × (broken.book ≡ broken.desk.value.book)
