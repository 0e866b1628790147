-- How a notice begins, as the functions that write it pass it.
use Rattle.std.specs.Prelude.{◌≡◌, ℕ, List, ◌++◌, Option, IfSome, option_map}
use Rattle.std.specs.Option.{option_copied}
use Rattle.dsn_outcome.specs.Letter.{Letter}
use Rattle.dsn_outcome.specs.declared.wording.Wording.{Wording}
use Rattle.dsn_report.specs.Notice.{Words, preface_by, template_of, words_of}
use Rattle.dsn_report.specs.Site.{Site}
use Rattle.dsn_report.specs.Template.{IsTemplate, Template}
use Rattle.dsn_report.specs.declared.preface.Preface.{Preface}
use Rattle.dsn_report.specs.inner.NoticeLines.{words_in}

-- it is the preface of the template, which is legal, or this project's own in these words
pub record IsPrefaceOf (preface : Preface) (host : List ℕ) (words : Words) (wording : Wording)
    (template : Option Template) : Type 0 where
  pub legal : IfSome template IsTemplate
  pub words_are : words_in preface.words ≡ words
  pub sender_is : preface.sender.0.now ++ preface.sender.1.now ++ preface.sender.2.now
      ≡ (preface_by host words wording template).sender
  pub subject_is : preface.subject.now ≡ (preface_by host words wording template).subject
  pub charset_is : preface.charset.now ≡ (preface_by host words wording template).charset
  pub eight_bit_is : preface.eight_bit ≡ (preface_by host words wording template).eight_bit
  pub text_is : option_copied preface.text ≡ option_map (λ template. template.text) template
  pub explained_is : preface.explained ≡ (preface_by host words wording template).explained

-- it is that of a letter's notice
abbrev pub IsPreface : Preface → Site → Letter → Type 0
IsPreface preface site letter =
    IsPrefaceOf preface site.host (words_of letter) letter.draft.wording
    (template_of site.templates letter)
