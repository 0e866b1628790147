use Rattle.std.proofs.Common.{◌≡◌, ◌∙◌, None, Some, ap, rules, sym}
use Rattle.std.specs.Option.{option_copied}
use Rattle.dsn_report.proofs.BlockLemmas.{consequence-plain, opening-plain}
use Rattle.dsn_report.proofs.LineWriterLemmas.{Wrote-as}
use Rattle.dsn_report.proofs.PrefaceLemmas.{own-text, template-text}
use Rattle.dsn_report.specs.Lines.{begins_with_dot}
use Rattle.dsn_report.specs.Notice.{preface_of, template_of, words_of}
use Rattle.dsn_report.proofs.notice_lines.write_preface.Goals as goal

pub returns-in-Some : goal.returns-in-Some
unfolding preface_of
returns-in-Some g c =
    let text : option_copied c.args.preface.text ≡ Some c.in-Some.text.now = search rules in
    Wrote-as (template-text c.args.site.now.host (words_of c.args.letter.now) c.args.letter.now.draft.wording (template_of c.args.site.now.templates c.args.letter.now) c.in-Some.text.now c.requires.legal (sym text ∙ c.requires.text_is)) c.write_returned_lines.ensures

pub write_own_text-requires : goal.write_own_text-requires
write_own_text-requires g c = record {
  opening = ap (λ words. begins_with_dot words.opening) c.requires.words_are ∙ opening-plain c.args.letter.now.draft.wording c.args.letter.now.key.service _;
  consequence = ap (λ words. begins_with_dot words.consequence) c.requires.words_are ∙ consequence-plain c.args.letter.now.draft.wording c.args.letter.now.key.service _;
}

pub returns-in-None : goal.returns-in-None
unfolding preface_of
returns-in-None g c =
    let text : option_copied c.args.preface.text ≡ None = search rules in
    Wrote-as (rw (c.wording.ensures, c.terms.ensures, ap (λ words. words.opening) c.requires.words_are, ap (λ words. words.consequence) c.requires.words_are) (own-text c.args.site.now.host (words_of c.args.letter.now) c.args.letter.now.draft.wording (template_of c.args.site.now.templates c.args.letter.now) (sym text ∙ c.requires.text_is))) c.write_own_text.ensures
