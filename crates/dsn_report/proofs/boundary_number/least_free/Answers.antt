use Rattle.std.proofs.Common.{◌≤◌, ◌∙◌, length, subst, sym, rules}
use Rattle.dsn_report.proofs.BoundaryLaw.{some-free}
use Rattle.dsn_report.proofs.BoundaryLemmas.{IsBoundaryNumber-first, all-ruled_out}
use Rattle.dsn_report.specs.inner.NoticeLines.{lines_shown}
use Rattle.dsn_report.proofs.boundary_number.least_free.Goals as goal

pub unreachable-requires : goal.unreachable-requires
unreachable-requires c =
    let letter = c.args.letter.now in
    let returned = lines_shown c.args.returned.whole c.args.returned.bytes.now in
    let short : length letter.draft.header ≤ 32768 = subst (λ header. length header ≤ 32768) c.header.ensures c.bytes.ensures.legal in
    some-free letter short
    (all-ruled_out letter returned c.numbers_ruled_out-ruled_out.result c.requires (search rules) c.numbers_ruled_out-ruled_out.ensures (sym c.first_free.ensures.first ∙ c.in-None.is))

pub returns : goal.returns
returns c =
    let letter = c.args.letter.now in
    let returned = lines_shown c.args.returned.whole c.args.returned.bytes.now in
    IsBoundaryNumber-first letter returned c.numbers_ruled_out-ruled_out.result _ c.requires (search rules) c.numbers_ruled_out-ruled_out.ensures (sym c.first_free.ensures.first ∙ c.in-Some.is)
