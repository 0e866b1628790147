-- A ledger that was opened without a base, and awaits nothing, has the history that its records say, as that of an earlier run.
use Rattle.std.proofs.Common.{rules, ◌≡◌, ℕ, [], sym, subst, true}
use Rattle.dsn_ledger.specs.EarlierRuns.{of_earlier_run}
use Rattle.dsn_ledger.specs.Header.{StandsForFile}
use Rattle.dsn_ledger.specs.InPlace.{IsLedgerInPlaceOf}
use Rattle.dsn_journal.specs.Journal.{IsSettled}
use Rattle.dsn_ledger.specs.OpenLedger.{AwaitsRequests, Ledger}
use Rattle.dsn_fakes.specs.contracts.memory_disk.MemoryDiskDisk.TheImpl as memory
use Rattle.dsn_ledger.proofs.Goodbyes.{kept_to_carry_out}
use Rattle.dsn_ledger.proofs.KeptBooks.{has_kept}
use Rattle.dsn_crew_tests.proofs.crew.keepers.run_over_disk.Goals as goal

pub run_keeper-requires-clause-begins : goal.run_keeper-requires-clause-begins
run_keeper-requires-clause-begins g c κs within =
    let ledger = c.new-keeper.result in
    let none : AwaitsRequests memory.ghosts ledger [] = search rules in
    let settled : ledger.settled ≡ true = search rules in
    let base : ledger.base ≡ 0 = search rules in
    let file : StandsForFile ledger.book 0 none.front = subst (λ (b : ℕ). StandsForFile ledger.book b none.front) base none.stands in
    let own : IsLedgerInPlaceOf ledger.book ledger.base none.front file.history =
    subst (λ (b : ℕ). IsLedgerInPlaceOf ledger.book b none.front file.history) (sym base) (c.ledgers_have_one_history.ensures.own_ledger ledger.book none.front file) in
    let earlier = c.ledgers_have_earlier_histories.ensures.earlier_ledger ledger.book ledger.base none.front file.history own in
    let durable : IsSettled memory.ghosts ledger.journal.disk ledger.journal.used =
    subst (λ (it : Ledger _). IsSettled memory.ghosts it.journal.disk it.journal.used) (sym c.new-keeper.ensures) (c.book.ensures.stands.settled (search rules)) in (
      of_earlier_run file.history,
      (kept_to_carry_out memory.ghosts ledger (of_earlier_run file.history) [] (has_kept memory.ghosts ledger (of_earlier_run file.history) [] (record { many = none.many; front = none.front; in_place = earlier; kept = none.kept; file = none.file }) settled durable), λ agent few. c.ledgers_have_earlier_histories.ensures.unanswered agent file.history few),
    )
