use Rattle.std.proofs.Common.{refl, sym, ap}
use Rattle.std.specs.List.{flat_map}
use Rattle.dsn_report.proofs.LineWriterLemmas.{Wrote-as, Wrote-none, Wrote-then}
use Rattle.dsn_report.specs.Notice.{outcome_lines}
use Rattle.dsn_report.proofs.notice_lines.write_outcomes.Goals as goal

pub loop-outcome-preserved : goal.loop-outcome-preserved
loop-outcome-preserved g c = λ end later.
    c.loop-outcome.invariant end
    (Wrote-as (sym (ap (flat_map (outcome_lines c.args.letter.now.draft.wording c.args.explained)) c.in-Some.ensures.steps)) (Wrote-then (Wrote-as (rw (c.wording-wording.ensures, c.terms.ensures) refl) c.write_outcome.ensures) later))

pub returns : goal.returns
returns g c =
    c.loop-outcome.invariant _
    (Wrote-as (sym (ap (flat_map (outcome_lines c.args.letter.now.draft.wording c.args.explained)) c.in-None.ensures.steps.0)) (Wrote-none c.loop-outcome.lines))
