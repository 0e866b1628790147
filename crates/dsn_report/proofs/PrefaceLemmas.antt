-- The text before the recipients: a template's, or this project's own.
use Rattle.std.proofs.Common.{◌≡◌, ℕ, true, List, Option, Some, None, ap, refl, ◌∙◌}
use Rattle.std.specs.Prelude.{IfSome, option_map, unwrap_or, []}
use Rattle.std.specs.Str.Lines.{lines}
use Rattle.dsn_outcome.specs.declared.wording.Wording.{Wording}
use Rattle.dsn_report.proofs.HeaderLemmas.{lines-kept}
use Rattle.dsn_report.proofs.TemplateLemmas.{template-keeps}
use Rattle.dsn_report.specs.Notice.{Words, own_preface, preface_by}
use Rattle.dsn_report.specs.Template.{IsTemplate, Template}
use Rattle.dsn_report.specs.inner.NoticeLines.{lines_shown}

-- the lines of a template's text are shown unchanged
pub template-text : (host : List ℕ) (words : Words) (wording : Wording) (template : Option Template) (text : List ℕ) → IfSome template IsTemplate
    → Some text ≡ option_map (λ template. template.text) template → lines_shown true text ≡ (preface_by host words wording template).text
template-text host words wording None text legal is = absurd cc
template-text host words wording (Some template) text legal is =
    let same : text ≡ template.text = ap (λ it. unwrap_or it []) is in
    ap (lines_shown true) same ∙ lines-kept true (lines template.text) (template-keeps template legal).lines

-- without a template's text it is this project's own
pub own-text : (host : List ℕ) (words : Words) (wording : Wording) (template : Option Template)
    → None ≡ option_map (λ template. template.text) template → (own_preface host words wording).text ≡ (preface_by host words wording template).text
own-text host words wording None is = refl
own-text host words wording (Some template) is = absurd cc
