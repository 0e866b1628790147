use Rattle.std.proofs.Common.{subst}
use Rattle.dsn_smtp.specs.HandIn.{TurnsOver, fault_said}
use Rattle.dsn_smtp.specs.Pipelining.{FollowsGroup}
use Rattle.dsn_smtp.proofs.PipeliningLemmas.{group_heard}
use Rattle.dsn_smtp.proofs.pipelining.follow_up.Goals as goal

pub returns : goal.returns
returns g c =
    group_heard g.S.Source g.S.Drain c.args.stream c.follow-outcome.new.stream c.new-ahead.result c.hear_group-replies.new.ahead c.hear_group-replies.result
    c.args.message.now c.args.buffer.now c.hear_group-replies.new.buffer c.follow-outcome.new.buffer (fault_said c.follow-outcome.result)
    c.new-ahead.ensures c.hear_group-replies.ensures.none c.hear_group-replies.ensures.replies
    (subst (λ stream. TurnsOver g.S.Source g.S.Drain stream c.follow-outcome.new.stream (FollowsGroup c.hear_group-replies.result.fault c.hear_group-replies.result.waits c.args.message.now)
    c.hear_group-replies.new.buffer c.follow-outcome.new.buffer (fault_said c.follow-outcome.result)) c.into_stream-stream.ensures c.follow-outcome.ensures)
