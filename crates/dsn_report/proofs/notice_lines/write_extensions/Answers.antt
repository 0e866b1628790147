use Rattle.std.proofs.Common.{◌≡◌, true, [], length, rules, tests, sym, ap, ◌∙◌}
use Rattle.std.specs.List.{list_all}
use Rattle.std.proofs.lemmas.Bool.{eqb-true}
use Rattle.std.proofs.lemmas.List.{nil_from_length}
use Rattle.dsn_text.specs.Extension.{lines_ended_by_lf, is_extension_line}
use Rattle.dsn_text.proofs.ExtensionLemmas.{lines_ended_by_lf-nil}
use Rattle.dsn_report.proofs.BlockLemmas.{block-line, block-none}
use Rattle.dsn_report.proofs.ExtensionLemmas.{extension_lines-pass, extension-no_dot}
use Rattle.dsn_report.proofs.LineWriterLemmas.{Wrote-as, Wrote-none, Wrote-then}
use Rattle.dsn_report.proofs.PlainLemmas.{and-parts}
use Rattle.dsn_report.specs.inner.NoticeLines.{extensions_left}
use Rattle.dsn_report.proofs.notice_lines.write_extensions.Goals as goal

pub returns-then-is_empty : goal.returns-then-is_empty
returns-then-is_empty g c =
    let yes : c.is_empty.result ≡ true = search (rules, tests) in
    let empty : c.args.extensions.now ≡ [] = nil_from_length c.args.extensions.now (eqb-true (length c.args.extensions.now) 0 (sym c.is_empty.ensures ∙ yes)) in
    Wrote-as (sym (ap lines_ended_by_lf empty ∙ lines_ended_by_lf-nil)) (Wrote-none c.args.lines.now)

pub loop-line-init : goal.loop-line-init
loop-line-init g c = record {
  fields = ap (λ lines. list_all is_extension_line (extensions_left lines)) c.into_iter-line-iterator.ensures.into_iter_gives
      ∙ extension_lines-pass c.args.extensions.now c.requires;
  rest = λ end later. Wrote-as (ap extensions_left c.into_iter-line-iterator.ensures.into_iter_gives) later;
}

pub loop-line-preserved : goal.loop-line-preserved
loop-line-preserved g c =
    let fields = sym (ap (list_all is_extension_line) c.in-Some.ensures.steps) ∙ c.loop-line.invariant.fields in
    let parts = and-parts (is_extension_line c.in-Some.line.now) _ fields in
    record {
      fields = parts.1;
      rest = λ end later.
          c.loop-line.invariant.rest end
          (Wrote-as (sym c.in-Some.ensures.steps)
          (Wrote-then (c.block.ensures _ (block-line c.in-Some.line.now [] (extension-no_dot c.in-Some.line.now parts.0) block-none)) later));
    }

pub returns : goal.returns
returns g c =
    c.loop-line.invariant.rest _
    (Wrote-as (sym c.in-None.ensures.steps.0) (Wrote-none c.loop-line.lines))
