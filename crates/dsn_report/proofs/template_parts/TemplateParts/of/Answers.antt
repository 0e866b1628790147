use Rattle.std.proofs.Common.{codes}
use Rattle.std.specs.Prelude.{None, Some}
use Rattle.std.proofs.lemmas.Bool.Decides.{Decides-eqb}
use Rattle.std.proofs.lemmas.Slice.Eq.{strip_prefix_is}
use Rattle.dsn_report.proofs.TemplateFileLemmas.{file-found, no-charset, no-empty-line, no-sender, no-subject}
use Rattle.dsn_report.proofs.template_parts.TemplateParts.of.Goals as goal

pub returns-in_err-charset-clause-none : goal.returns-in_err-charset-clause-none
returns-in_err-charset-clause-none c = rw c.from_residual.ensures (no-charset c.args.file.now c.in_err-charset.ensures.none)

pub returns-in_err-sender-clause-none : goal.returns-in_err-sender-clause-none
returns-in_err-sender-clause-none c =
    rw c.from_residual-in_err-sender.ensures
    (no-sender c.args.file.now c.in_ok-charset.charset.now c.in_ok-charset.rest.now c.in_ok-charset.ensures.some c.in_err-sender.ensures.none)

pub returns-in_err-subject-clause-none : goal.returns-in_err-subject-clause-none
returns-in_err-subject-clause-none c =
    rw c.from_residual-in_err-subject.ensures
    (no-subject c.args.file.now c.in_ok-charset.charset.now c.in_ok-charset.rest.now c.in_ok-sender.sender.now c.in_ok-sender.rest.now
    c.in_ok-charset.ensures.some c.in_ok-sender.ensures.some c.in_err-subject.ensures.none)

pub returns-in_err-text-clause-none : goal.returns-in_err-text-clause-none
returns-in_err-text-clause-none c =
    let rest = c.in_ok-subject.rest.now in
    rw c.from_residual-in_err-text.ensures
    (no-empty-line c.args.file.now c.in_ok-charset.charset.now c.in_ok-charset.rest.now c.in_ok-sender.sender.now c.in_ok-sender.rest.now c.in_ok-subject.subject.now rest
    c.in_ok-charset.ensures.some c.in_ok-sender.ensures.some c.in_ok-subject.ensures.some
    (strip_prefix_is Decides-eqb rest (codes "\n") None c.in_err-text.ensures.cases))

pub returns-clause-some : goal.returns-clause-some
returns-clause-some c =
    let rest = c.in_ok-subject.rest.now in
    file-found c.args.file.now c.in_ok-charset.charset.now c.in_ok-charset.rest.now c.in_ok-sender.sender.now c.in_ok-sender.rest.now c.in_ok-subject.subject.now rest c.in_ok-text.text.now
    c.in_ok-charset.ensures.some c.in_ok-sender.ensures.some c.in_ok-subject.ensures.some
    (strip_prefix_is Decides-eqb rest (codes "\n") (Some c.in_ok-text.text) c.in_ok-text.ensures.cases)
