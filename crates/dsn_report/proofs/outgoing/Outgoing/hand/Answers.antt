use Rattle.std.proofs.Common.{sym, subst}
use Rattle.dsn_report.specs.Outgoing.{Delivered}
use Rattle.dsn_report.proofs.OutgoingLemmas.{hand-ok, hand-err}
use Rattle.dsn_report.proofs.outgoing.Outgoing.hand.Goals as goal

pub returns-in-Err-clause-delivered : goal.returns-in-Err-clause-delivered
returns-in-Err-clause-delivered g c = λ site start letters delivered.
    let before = subst (λ out. Delivered g.W.Drain site start out letters) (sym c.self.view_is) delivered in
    let made = c.in-Err.ensures in
    rw (c.push.ensures, c.into_letter.ensures)
    (hand-err _ site start _ _ _ letters c.args.letter before c.in-Err.fault made.fault made.front made.marked made.nothing made.failed made.site made.count made.steady)

pub returns-in_default-clause-delivered : goal.returns-in_default-clause-delivered
returns-in_default-clause-delivered g c = λ site start letters delivered.
    let before = subst (λ out. Delivered g.W.Drain site start out letters) (sym c.self.view_is) delivered in
    let made = c.in_default.ensures in
    hand-ok _ site start _ _ _ letters c.args.letter before made.sent made.nothing made.failed made.greeted made.site made.count made.marked made.steady
