use Rattle.std.proofs.Common.{◌+◌, ◌<◌, length, rules}
use Rattle.std.specs.Prelude.{None, Some}
use Rattle.std.proofs.lemmas.Bool.Decides.{Decides-eqb}
use Rattle.std.proofs.lemmas.List.{take_rest}
use Rattle.std.proofs.lemmas.Slice.Eq.{strip_prefix_is}
use Rattle.bstr.specs.Find.{Nowhere, Passes, is_byte}
use Rattle.dsn_report.proofs.TemplateFileLemmas.{field-found, field-unended, field-unnamed}
use Rattle.dsn_report.proofs.template_parts.field_of.Goals as goal

pub returns-in_err-line-clause-none : goal.returns-in_err-line-clause-none
returns-in_err-line-clause-none c =
    rw c.from_residual.ensures
    (field-unnamed c.args.name.now c.args.text.now (strip_prefix_is Decides-eqb c.args.text.now c.args.name.now None c.in_err-line.ensures.cases))

pub returns-in_err-feed-clause-none : goal.returns-in_err-feed-clause-none
returns-in_err-feed-clause-none c =
    let line = c.in_ok-line.line in
    let begins = strip_prefix_is Decides-eqb c.args.text.now c.args.name.now (Some line) c.in_ok-line.ensures.cases in
    let nowhere : Nowhere (Passes (is_byte 10) line.now) 0 (length line.now) = search rules in
    rw c.from_residual-in_err-feed.ensures (field-unended c.args.name.now c.args.text.now line.now begins nowhere)

pub returns-clause-some : goal.returns-clause-some
returns-clause-some c =
    let line = c.in_ok-line.line in
    let feed = c.in_ok-feed.feed in
    let begins = strip_prefix_is Decides-eqb c.args.text.now c.args.name.now (Some line) c.in_ok-line.ensures.cases in
    let within : feed < length line.now = search rules in
    let before : Nowhere (Passes (is_byte 10) line.now) 0 feed = search rules in
    let here : Passes (is_byte 10) line.now feed = search rules in
    rw (take_rest line.now (feed + 1)) (field-found c.args.name.now c.args.text.now line.now feed begins within before here)
