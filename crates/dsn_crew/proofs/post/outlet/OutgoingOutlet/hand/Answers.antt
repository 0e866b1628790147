-- A letter that the outbox gets is delivered after those from before.
use Rattle.dsn_crew.proofs.post.outlet.OutgoingOutlet.hand.Goals as goal

pub returns-clause-posted : goal.returns-clause-posted
returns-clause-posted g c = λ start letters before. c.hand.ensures.delivered start.poster.site start.poster.outbox letters before
