-- The result of an agent that finished is added at the end.
use Rattle.std.proofs.Common.{◌≡◌, ap, sym, ◌∙◌, false, length, length-append, arith}
use Rattle.std.proofs.Math.Bool.{or-false}
use Rattle.std.specs.Prelude.{Some, is_none, is_some}
use Rattle.std.specs.Result.{result_ok}
use Rattle.dsn_crew.specs.inner.Gathered.{has_port_lost}
use Rattle.dsn_crew.proofs.GatheredLemmas.{ended_more, found_more}
use Rattle.dsn_crew.proofs.gathered.gather.Goals as goal

pub loop-end-preserved : goal.loop-end-preserved
loop-end-preserved c =
    let long = ap length c.in-Some.ensures.steps.0 in
    let same = c.push_reserved.ensures.capacity in
    let one = ap length c.push_reserved.ensures.items ∙ length-append c.loop-end.lines.items _ in
    let same' = c.push_reserved-in-Ok.ensures.capacity in
    let one' = ap length c.push_reserved-in-Ok.ensures.items ∙ length-append c.loop-end.agents.items _ in
    let parts = c.into_parts-finished in
    let heard : c.in-Some-end.end.finished ≡ Some c.in-Ok.agent = sym parts.ensures.finished ∙ ap result_ok c.in-Ok.is in record {
      iterator = (tt, tt);
      lines = (let before = c.loop-end.invariant.lines in omega arith);
      agents = (let before = c.loop-end.invariant.agents in omega arith);
      missing = found_more is_none c.args.ends.items _ _ _ _ false _ c.in-Some.ensures.steps.0 (ap is_none c.in-Some-end.is) (sym (or-false c.loop-end.missing)) c.loop-end.invariant.missing;
      lost = found_more has_port_lost c.args.ends.items _ _ _ _ false _ c.in-Some.ensures.steps.0 (ap has_port_lost c.in-Some-end.is ∙ ap is_none heard) (sym (or-false (is_some c.loop-end.lost))) c.loop-end.invariant.lost;
      ended = λ lost missing. ended_more _ _ _ _ _ _ _ _ _ _ c.in-Some.ensures.steps.0 (c.in-Some-end.is ∙ λ i. Some (record { line = sym parts.ensures.line i; finished = heard i })) c.push_reserved.ensures.items c.push_reserved-in-Ok.ensures.items (c.loop-end.invariant.ended lost missing);
    }
