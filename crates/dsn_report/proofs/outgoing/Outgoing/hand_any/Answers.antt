use Rattle.dsn_report.proofs.outgoing.Outgoing.hand_any.Goals as goal

pub returns-in-Some : goal.returns-in-Some
returns-in-Some g c = λ site start letters delivered. rw c.in-Some.is (c.hand.ensures.delivered site start letters delivered)
