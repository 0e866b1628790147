use Rattle.std.proofs.Common.{refl, rules, sym, ap, map}
use Rattle.dsn_report.proofs.LineWriterLemmas.{Wrote-as, Wrote-none, Wrote-then}
use Rattle.dsn_report.specs.inner.NoticeLines.{line_shown}
use Rattle.dsn_report.proofs.notice_lines.write_returned_lines.Goals as goal

pub loop-line-init : goal.loop-line-init
loop-line-init g c = record {
  room = refl;
  rest = λ end later.
      Wrote-as (ap (map (line_shown c.args.returned.whole)) (rw (c.into_iter-line-iterator.ensures.into_iter_gives, c.lines-line-items.ensures.whole, c.lines-line-items.ensures.rest) refl)) later;
}

pub loop-line-preserved : goal.loop-line-preserved
loop-line-preserved g c = record {
  room = search rules;
  rest = λ end later.
      c.loop-line.invariant.rest end
      (Wrote-as (sym (ap (map (line_shown c.args.returned.whole)) c.in-Some.ensures.steps))
      (Wrote-then (c.dotted_line.ensures _ c.show_dotted_line.ensures) later));
}

pub returns : goal.returns
returns g c =
    c.loop-line.invariant.rest _
    (Wrote-as (sym (ap (map (line_shown c.args.returned.whole)) c.in-None.ensures.steps.0)) (Wrote-none c.loop-line.lines))
