use Rattle.std.proofs.Common.{ap, subst, sym, ◌∙◌}
use Rattle.dsn_device.specs.Failures.{counted}
use Rattle.dsn_smtp.specs.Dialogue.{OnlyReads, is_of_device}
use Rattle.dsn_smtp.specs.inner.GroupReplies.{HearsNoMore}
use Rattle.dsn_smtp.proofs.GroupLemmas.{heard_none, same_failure}
use Rattle.dsn_smtp.proofs.group_replies.hear_one.Goals as goal

pub returns-in-Err-clause-missing : goal.returns-in-Err-clause-missing
returns-in-Err-clause-missing g c =
    let only : OnlyReads g.S.Source (is_of_device c.in-Err.why) c.args.ahead.now.stream c.read_next.new.source.stream = record {
      held = c.in-Err.ensures.held;
      no_flush = c.in-Err.ensures.no_flush;
      unflushed = c.in-Err.ensures.unflushed;
      count = c.in-Err.ensures.count ∙ ap (λ b. counted b (g.S.Source.failures c.args.ahead.now.stream)) (same_failure c.in-Err.why);
      stays_steady = c.in-Err.ensures.steady;
    } in
    subst (λ new. HearsNoMore g.S.Source c.args.ahead.now new c.in-Err.why) (sym c.clear.ensures)
    (heard_none g.S.Source c.args.ahead.now c.read_next.new.source c.in-Err.why c.in-Err.ensures.refused only)
