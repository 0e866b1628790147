use Rattle.std.proofs.Common.{◌≡◌, Some, rules, subst, sym}
use Rattle.dsn_report.specs.Notice.{template_of, words_of}
use Rattle.dsn_report.specs.inner.NoticeLines.{words_in}
use Rattle.dsn_report.specs.inner.Preface.{IsPrefaceOf}
use Rattle.dsn_report.proofs.preface.Preface.of.Goals as goal

pub returns-in-Some : goal.returns-in-Some
returns-in-Some c =
    let template : template_of c.args.site.now.templates c.args.letter.now ≡ Some c.in-Some.template.now = search rules in
    let words : words_in c.of-words.result ≡ words_of c.args.letter.now = c.of-words.ensures in
    let host = c.args.site.now.host in
    let wording = c.args.letter.now.draft.wording in
    subst (λ template. IsPrefaceOf c.from_template.result host (words_of c.args.letter.now) wording template) (sym template)
    (subst (λ words. IsPrefaceOf c.from_template.result host words wording (Some c.in-Some.template.now)) words (c.from_template.ensures host wording))
