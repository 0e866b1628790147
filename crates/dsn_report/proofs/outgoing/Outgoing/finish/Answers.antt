use Rattle.std.proofs.Common.{sym, subst, ap}
use Rattle.dsn_report.specs.Outgoing.{Delivered}
use Rattle.dsn_report.proofs.OutgoingLemmas.{finished}
use Rattle.dsn_report.proofs.outgoing.Outgoing.finish.Goals as goal

pub returns-clause-outbox : goal.returns-clause-outbox
returns-clause-outbox g c = λ site start letters delivered.
    let before = subst (λ out. Delivered g.W.Drain site start out letters) (sym c.self.view_is) delivered in
    let ended = c.finish-outbox.ensures in
    finished _ site start _ _ letters before c.finish-outbox.result.outbox c.finish-outbox.result.whole ended.sent ended.front
    (λ failed. (ap (λ end. end.outbox) (ended.nothing failed), ap (λ end. end.whole) (ended.nothing failed)))
    ended.count ended.flushed ended.steady ended.marked ended.no_moment
