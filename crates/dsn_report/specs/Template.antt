-- Templates: a site's own words for a notice, in place of this project's (bounce(5) of Postfix).
use Rattle.std.specs.Prelude.{◌≡◌, ℕ, ◌-◌, nat_le, Bool, not, ◌||◌, ◌&&◌, ◌==◌, List, [], ◌∷◌, ◌++◌, length, Option, Some, None, IsTrue, codes, nat_eq}
use Rattle.std.specs.List.{list_all, list_any, starts_with}
use Rattle.std.specs.Str.{str_eq_ignore_ascii_case}
use Rattle.std.specs.Str.Lines.{lines}
use Rattle.dsn_outcome.specs.Outcome.{first_failed}
use Rattle.dsn_text.specs.Service.{service_letter}
use Rattle.dsn_text.specs.Text.{is_between, is_letter_or_digit, is_printable, is_text}
use Rattle.dsn_text.specs.declared.service.Service.{Service}
use Rattle.dsn_text.specs.declared.service.Service.TheVariants.{Bounce, Defer, Trace}
use Rattle.dsn_report.specs.LegalLines.{has_high_byte, is_eight_bit_line}
use Rattle.dsn_report.specs.Lines.{longest_line}
use Rattle.dsn_report.specs.declared.template_fault.TemplateFault.{TemplateFault}
use Rattle.dsn_report.specs.declared.template_fault.TemplateFault.TheVariants as faults

-- the charset of the text, the values of From and Subject, and the text before the recipients; a
-- line of the text ends with LF, or with CR and LF
pub record Template : Type 0 where
  pub charset : List ℕ
  pub sender : List ℕ
  pub subject : List ℕ
  pub text : List ℕ

-- the lines of the text
abbrev pub template_lines : Template → List (List ℕ)
template_lines template = lines template.text

-- whether some line of the text has a byte above 127, so that the notice is an 8bit mail
abbrev pub has_eight_bit_text : Template → Bool
has_eight_bit_text template = list_any has_high_byte (template_lines template)

-- ---- which templates are legal

-- whether the name of a charset may have a byte: letters, digits and ! # $ % & ' + - ^ _ ` { } ~
-- (RFC 2978 section 2.3)
abbrev pub is_charset_byte : ℕ → Bool
is_charset_byte byte =
    is_letter_or_digit byte
    || ((byte == 33) || (is_between 35 39 byte || ((byte == 43) || ((byte == 45)
    || (is_between 94 96 byte || ((byte == 123) || is_between 125 126 byte))))))

-- the length limit of a charset's name, in bytes (RFC 2978 section 2.3)
abbrev pub longest_charset : ℕ
longest_charset = 40

abbrev pub is_charset : List ℕ → Bool
is_charset = is_text is_charset_byte 1 longest_charset

-- the length limit of the value of From or Subject, in bytes: it is on one line, after `Subject: `
abbrev pub longest_value : ℕ
longest_value = longest_line - 9

-- whether a text is printable ASCII that is on one line after the name of its field
abbrev pub is_field_value : List ℕ → Bool
is_field_value = is_text is_printable 1 longest_value

-- the length limit of a text, in bytes (this project's profile)
abbrev pub longest_template : ℕ
longest_template = 32768

-- whether a line could be a delimiter of some letter's parts: it begins as each boundary of a
-- service's letters does, after two dashes
abbrev pub begins_as_delimiter : Service → List ℕ → Bool
begins_as_delimiter service line =
    starts_with nat_eq line (codes "--" ++ service_letter service ∷ codes ".")

abbrev pub is_like_delimiter : List ℕ → Bool
is_like_delimiter line =
    begins_as_delimiter Bounce line
    || (begins_as_delimiter Defer line || begins_as_delimiter Trace line)

-- whether the charset is US-ASCII, whose texts have no byte above 127 (RFC 2046 section 4.1.2)
abbrev pub is_ascii_charset : List ℕ → Bool
is_ascii_charset charset = str_eq_ignore_ascii_case charset (codes "us-ascii")

-- the checks of a template and their faults, in the order in which they are made
abbrev pub template_checks : Template → List (Bool × TemplateFault)
template_checks template =
    (is_charset template.charset, faults.Charset)
    ∷ (is_field_value template.sender, faults.From)
    ∷ (is_field_value template.subject, faults.Subject)
    ∷ (not (length template.text == 0), faults.NoText)
    ∷ (nat_le (length template.text) longest_template, faults.LongText)
    ∷ (list_all is_eight_bit_line (template_lines template), faults.Line)
    ∷ (not (list_any is_like_delimiter (template_lines template)), faults.Delimiter)
    ∷ (not (is_ascii_charset template.charset && has_eight_bit_text template), faults.NotAscii)
    ∷ []

-- the first fault of a template, if it has one
abbrev pub first_template_fault : Template → Option TemplateFault
first_template_fault template = first_failed (template_checks template)

abbrev pub IsTemplate : Template → Type 0
IsTemplate template = first_template_fault template ≡ None

-- ---- the file of a template

-- the file of a template: its charset, From and Subject, each on a line, in the order in which
-- postconf(1) prints them; an empty line; and the text
abbrev pub template_file : Template → List ℕ
template_file template =
    codes "Charset: " ++ template.charset ++ codes "\nFrom: " ++ template.sender
    ++ codes "\nSubject: " ++ template.subject ++ codes "\n\n" ++ template.text

abbrev pub is_one_line : List ℕ → Bool
is_one_line value = list_all (λ byte. not (byte == 10)) value

-- a file is that of these values, legal or not; there is at most one such template
pub record IsFileOf (file : List ℕ) (template : Template) : Type 0 where
  pub written : file ≡ template_file template
  pub charset_line : IsTrue (is_one_line template.charset)
  pub sender_line : IsTrue (is_one_line template.sender)
  pub subject_line : IsTrue (is_one_line template.subject)

-- a file was read as this template, which is legal
pub record IsReadAs (file : List ℕ) (template : Template) : Type 0 where
  pub laid_out : IsFileOf file template
  pub legal : IsTemplate template

-- a file was refused: it is that of no values, or of values that have the fault, or memory was
-- refused for a legal template
pub data IsRefusedFile (file : List ℕ) (fault : TemplateFault) : Type 0 where
  unlike : fault ≡ faults.Layout → ((template : Template) → ¬ IsFileOf file template)
      → IsRefusedFile file fault
  faulty : (template : Template) → IsFileOf file template
      → first_template_fault template ≡ Some fault → IsRefusedFile file fault
  no_memory : (template : Template) → fault ≡ faults.NoMemory → IsReadAs file template
      → IsRefusedFile file fault
