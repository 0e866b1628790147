-- Legal templates: what each check gives, and the template of a notice.
use Rattle.std.proofs.Common.{◌≡◌, ℕ, Bool, true, false, ◌||◌, List, [], ◌∷◌, ◌++◌, None, drop, length, codes, refl, sym, ◌∙◌, arith}
use Rattle.std.specs.Prelude.{not, nat_le, ◌==◌, IfSome}
use Rattle.std.specs.List.{list_all, list_any}
use Rattle.std.proofs.lemmas.Bool.{false_from_ne_true, false≢true}
use Rattle.std.proofs.lemmas.Bool.Decides.{Decides-eqb, nat_tests}
use Rattle.std.proofs.lemmas.Slice.Eq.{starts_is}
use Rattle.dsn_outcome.specs.Letter.{Letter}
use Rattle.dsn_outcome.specs.Outcome.{first_failed}
use Rattle.dsn_outcome.specs.declared.wording.Wording.{Wording}
use Rattle.dsn_outcome.specs.declared.wording.Wording.TheVariants.{ByService, ByOutcome}
use Rattle.dsn_text.specs.Service.{service_letter}
use Rattle.dsn_text.specs.declared.service.Service.{Service}
use Rattle.dsn_text.specs.declared.service.Service.TheVariants.{Bounce, Defer, Trace}
use Rattle.dsn_report.proofs.PlainLemmas.{IsPlain, and-parts, text-plain}
use Rattle.dsn_report.specs.Boundary.{is_delimiter}
use Rattle.dsn_report.specs.LegalLines.{is_eight_bit_line}
use Rattle.dsn_report.specs.Notice.{template_by, template_of}
use Rattle.dsn_report.specs.Site.{AreTemplates, Templates}
use Rattle.dsn_report.specs.Template.{IsTemplate, Template, begins_as_delimiter, is_charset, is_charset_byte, is_field_value, is_like_delimiter, longest_template, template_checks, template_lines}
use Rattle.dsn_text.specs.Text.{is_printable}

-- ---- the checks

-- if no check fails, all hold
all-hold : {F : Type 0} (checks : List (Bool × F)) → first_failed checks ≡ None → list_all (λ check. check.0) checks ≡ true
all-hold [] none = refl
all-hold ((true, fault) ∷ rest) none = all-hold rest none
all-hold ((false, fault) ∷ rest) none = absurd cc

not-false : (test : Bool) → not test ≡ true → test ≡ false
not-false true is = sym is
not-false false is = refl

-- what a legal template keeps
pub record Keeps (template : Template) : Type 0 where
  pub charset : is_charset template.charset ≡ true
  pub sender : is_field_value template.sender ≡ true
  pub subject : is_field_value template.subject ≡ true
  pub lines : list_all is_eight_bit_line (template_lines template) ≡ true
  pub apart : list_any is_like_delimiter (template_lines template) ≡ false

pub template-keeps : (template : Template) → IsTemplate template → Keeps template
template-keeps template legal =
    let charset = and-parts (is_charset template.charset) _ (all-hold (template_checks template) legal) in
    let sender = and-parts (is_field_value template.sender) _ charset.1 in
    let subject = and-parts (is_field_value template.subject) _ sender.1 in
    let some = and-parts (not (length template.text == 0)) _ subject.1 in
    let short = and-parts (nat_le (length template.text) longest_template) _ some.1 in
    let lines = and-parts (list_all is_eight_bit_line (template_lines template)) _ short.1 in
    let apart = and-parts (not (list_any is_like_delimiter (template_lines template))) _ lines.1 in
    record {
      charset = charset.0;
      sender = sender.0;
      subject = subject.0;
      lines = lines.0;
      apart = not-false (list_any is_like_delimiter (template_lines template)) apart.0;
    }

-- ---- the template of a notice

template-by-legal : (templates : Templates) → AreTemplates templates → (wording : Wording) (service : Service) (arrived : Bool) → IfSome (template_by templates wording service arrived) IsTemplate
template-by-legal templates legal ByService Bounce arrived = legal.failure_legal
template-by-legal templates legal ByService Defer arrived = legal.delay_legal
template-by-legal templates legal ByService Trace arrived = legal.verify_legal
template-by-legal templates legal ByOutcome Bounce arrived = legal.failure_legal
template-by-legal templates legal ByOutcome Defer arrived = legal.delay_legal
template-by-legal templates legal ByOutcome Trace true = legal.success_legal
template-by-legal templates legal ByOutcome Trace false = legal.verify_legal

pub template-legal : (templates : Templates) → AreTemplates templates → (letter : Letter) → IfSome (template_of templates letter) IsTemplate
unfolding template_of
template-legal templates legal letter = template-by-legal templates legal letter.draft.wording letter.key.service _

-- ---- no line of a template is a delimiter

-- a line that doesn't begin as a service's delimiters do is not one of them
none-begins : (service : Service) (more line : List ℕ) → begins_as_delimiter service line ≡ false → is_delimiter (service_letter service ∷ 46 ∷ more) line ≡ false
none-begins service more line none =
    false_from_ne_true _ (λ is.
    let whole : List ℕ = codes "--" ++ (service_letter service ∷ 46 ∷ more) in
    let split : line ≡ whole ++ drop (length whole) line = (starts_is Decides-eqb line whole true (sym is)).0 refl in
    false≢true (sym none ∙ (starts_is Decides-eqb line (codes "--" ++ service_letter service ∷ codes ".") _ refl).1 (more ++ drop (length whole) line) split))

parts-of : (a b : Bool) → (a || b) ≡ false → (a ≡ false) × (b ≡ false)
parts-of true b none = absurd (false≢true (sym none))
parts-of false b none = (refl, none)

-- such a line is a delimiter of no service's letters
begins-apart : (service : Service) (line : List ℕ) → is_like_delimiter line ≡ false → begins_as_delimiter service line ≡ false
begins-apart service line apart = here service
  where
    bounce : (begins_as_delimiter Bounce line ≡ false) × ((begins_as_delimiter Defer line || begins_as_delimiter Trace line) ≡ false)
    bounce = parts-of (begins_as_delimiter Bounce line) _ apart

    others : (begins_as_delimiter Defer line ≡ false) × (begins_as_delimiter Trace line ≡ false)
    others = parts-of (begins_as_delimiter Defer line) _ bounce.1

    here : (service : Service) → begins_as_delimiter service line ≡ false
    here Bounce = bounce.0
    here Defer = others.0
    here Trace = others.1

pub none-like : (service : Service) (more : List ℕ) (ls : List (List ℕ)) → list_any is_like_delimiter ls ≡ false → list_any (is_delimiter (service_letter service ∷ 46 ∷ more)) ls ≡ false
none-like service more [] none = refl
none-like service more (line ∷ ls) none =
    let parts = parts-of (is_like_delimiter line) (list_any is_like_delimiter ls) none in
    rw (none-begins service more line (begins-apart service line parts.0), none-like service more ls parts.1) refl

-- ---- the values of a template are plain

charset-printable : (byte : ℕ) → is_charset_byte byte ≡ true → is_printable byte ≡ true
charset-printable byte is = grind (arith, nat_tests, is)

pub charset-plain : (text : List ℕ) → is_charset text ≡ true → IsPlain 40 text
charset-plain text is = text-plain is_charset_byte charset-printable 1 40 text is

pub value-plain : (text : List ℕ) → is_field_value text ≡ true → IsPlain 989 text
value-plain text is = text-plain is_printable (λ byte e. e) 1 989 text is
