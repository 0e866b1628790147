-- Queue ids have the order of the blocks that hold them.
use Rattle.std.proofs.Common.{refl, ◌∙◌}
use Rattle.dsn_text.proofs.BlockOrderLemmas.{block-order}
use Rattle.dsn_text.proofs.queue_id.QueueIdOrd.cmp.Goals as goal

pub returns : goal.returns
returns c =
    c.compare.ensures
    ∙ block-order c.self.inside.buffer c.other.inside.buffer c.self.inside.len c.other.inside.len c.self.invariant.0 c.self.invariant.1 c.other.invariant.0 c.other.invariant.1
    ∙ rw (c.self.view_is, c.other.view_is) refl
