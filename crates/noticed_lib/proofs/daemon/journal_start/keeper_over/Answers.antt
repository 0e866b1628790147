use Rattle.std.proofs.Common.{◌≡◌, ◌∙◌, ℕ, ◌≤◌, [], ap, subst}
use Rattle.dsn_ledger.specs.KeptBook.{HasKept}
use Rattle.dsn_outcome.specs.History.{Limits}
use Rattle.noticed_lib.proofs.daemon.JournaledLemmas.{begins_anew, stands_for_all}
use Rattle.noticed_lib.proofs.daemon.journal_start.keeper_over.Goals as goal

pub returns-clause-begins : goal.returns-clause-begins
returns-clause-begins g c =
    let law = c.ledgers_have_earlier_histories.ensures in
    let limits_are : c.limits-limits.result ≡ c.args.ledger.book.book.limits = c.limits-limits.ensures ∙ ap (λ book. book.limits) c.book.ensures.book in
    let logs : 1 ≤ c.args.ledger.book.book.limits.logs = subst (λ (n : ℕ). 1 ≤ n) (c.logs-logs.ensures.value ∙ ap (λ (l : Limits). l.logs) limits_are) c.logs-logs.ensures.range.0 in
    let entries : 1 ≤ c.args.ledger.book.book.limits.entries = subst (λ (n : ℕ). 1 ≤ n) (c.entries-entries.ensures.value ∙ ap (λ (l : Limits). l.entries) limits_are) c.entries-entries.ensures.range.0 in
    begins_anew g.D.Disk c.args.ledger c.requires.settled c.requires.awaits c.args.releases (λ long kept. subst (λ l. HasKept g.D.Disk l long []) c.releasing.ensures.ledger (c.releasing.ensures.kept long kept)) (c.book.ensures.stands.settled c.requires.settled) (law.earlier_ledger _ _ _) law.unanswered
    (law.some_ledger _ _ _ logs entries (stands_for_all g.D.Disk c.args.ledger c.requires.settled c.requires.awaits))
