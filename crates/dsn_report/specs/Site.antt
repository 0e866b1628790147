-- Sites: the mail systems that notices come from, and the numbers of their faults.
use Rattle.std.specs.Prelude.{ℕ, Bool, ◌||◌, ◌==◌, List, Option, None, IsTrue, IfSome}
use Rattle.dsn_text.specs.FaultCode.{bad_host_code, no_memory_code}
use Rattle.dsn_text.specs.Text.{is_text, is_letter_or_digit}
use Rattle.dsn_report.specs.Template.{Template, IsTemplate}
use Rattle.dsn_report.specs.declared.site.SiteFault.{SiteFault}
use Rattle.dsn_report.specs.declared.site.SiteFault.TheVariants.{BadHost, NoMemory}

-- whether a host name may have a byte: ASCII letters and digits, `.` and `-` (RFC 5321 section
-- 2.3.5)
abbrev pub is_host_byte : ℕ → Bool
is_host_byte byte = is_letter_or_digit byte || ((byte == 46) || (byte == 45))

-- the length limit of a host name, in bytes (RFC 5321 section 4.5.3.1.2)
abbrev pub longest_host : ℕ
longest_host = 255

-- whether a text is a host name (this project's profile: its labels are not checked)
abbrev pub is_host : List ℕ → Bool
is_host = is_text is_host_byte 1 longest_host

abbrev pub IsHost : List ℕ → Type 0
IsHost host = IsTrue (is_host host)

-- the templates of a site: of failures, of delays, of reports that all recipients got the message,
-- and of other reports; each may be missing
pub record Templates : Type 0 where
  pub failure : Option Template
  pub delay : Option Template
  pub success : Option Template
  pub verify : Option Template

abbrev pub no_templates : Templates
no_templates = record { failure = None; delay = None; success = None; verify = None }

-- each template is legal
pub record AreTemplates (templates : Templates) : Type 0 where
  pub failure_legal : IfSome templates.failure IsTemplate
  pub delay_legal : IfSome templates.delay IsTemplate
  pub success_legal : IfSome templates.success IsTemplate
  pub verify_legal : IfSome templates.verify IsTemplate

-- the mail system that notices come from
pub record Site : Type 0 where
  pub host : List ℕ
  pub templates : Templates

-- a site without templates
abbrev pub plain_site : List ℕ → Site
plain_site host = record { host = host; templates = no_templates }

pub record IsSite (site : Site) : Type 0 where
  pub host_legal : IsHost site.host
  pub templates_legal : AreTemplates site.templates

abbrev pub site_fault_code : SiteFault → ℕ
site_fault_code BadHost = bad_host_code
site_fault_code NoMemory = no_memory_code
