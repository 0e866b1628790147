-- The values of a template, as the functions that read it pass them.
use Rattle.std.specs.Prelude.{◌≡◌, ℕ, List, ◌++◌, Option, IsTrue, codes, drop}
use Rattle.dsn_outcome.specs.Outcome.{first_failed}
use Rattle.dsn_report.specs.Template.{Template, is_one_line, template_checks}
use Rattle.dsn_report.specs.declared.template_fault.TemplateFault.{TemplateFault}
use Rattle.dsn_report.specs.declared.template_parts.TemplateParts.{TemplateParts}

-- the values that the references point to
abbrev pub template_in : TemplateParts → Template
template_in parts = record {
  charset = parts.charset.now;
  sender = parts.sender.now;
  subject = parts.subject.now;
  text = parts.text.now;
}

-- the first fault of a template's lines or of their charset: the last three checks
abbrev pub first_line_fault : Template → Option TemplateFault
first_line_fault template = first_failed (drop 5 (template_checks template))

-- a text begins with the line of a field, its name and its value, and has this rest after it
pub record IsField (name text value rest : List ℕ) : Type 0 where
  pub laid_out : text ≡ name ++ value ++ codes "\n" ++ rest
  pub one_line : IsTrue (is_one_line value)
