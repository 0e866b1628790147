use Rattle.std.proofs.Common.{◌≡◌, ◌∙◌, ◌+◌, ◌∷◌, ap, length, subst, take, map, arith, rules}
use Rattle.std.proofs.lemmas.List.{length-take-le, take_more_set}
use Rattle.dsn_report.specs.inner.NoticeLines.{byte_shown}
use Rattle.dsn_report.proofs.HeaderLemmas.{shown-whole}
use Rattle.dsn_report.proofs.returned_lines.show_line.Goals as goal

pub loop-index-init : goal.loop-index-init
loop-index-init c = record {
  room = search rules;
  so_far = take_more_set c.args.shown.now 0 46 (omega arith);
}

pub returns-clause-line : goal.returns-clause-line
returns-clause-line c =
    let long : length (take c.min-len.result c.args.line.now) ≡ c.min-len.result = length-take-le c.min-len.result c.args.line.now (omega arith) in
    let done : c.loop-index.index ≡ c.min-len.result = omega arith in
    subst (λ n. take (n + 1) c.loop-index.shown ≡ 46 ∷ map (byte_shown c.args.whole) (take n (take c.min-len.result c.args.line.now))) done c.loop-index.invariant.so_far
    ∙ ap (λ shown. 46 ∷ shown) (shown-whole c.args.whole c.args.line.now c.min-len.result c.min-len.ensures)
