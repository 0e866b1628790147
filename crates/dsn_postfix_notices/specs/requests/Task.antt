-- What the answer to a request depends on: the terms of a call, and a request for notices with them.
use Rattle.std.specs.Prelude.{ℕ, Bool, List}
use Rattle.dsn_text.specs.declared.service.Service.{Service}
use Rattle.dsn_postfix.specs.declared.postfix_request.NoticeRequest.{NoticeRequest}
use Rattle.dsn_postfix.specs.declared.postfix_request.PostfixRequest.{PostfixRequest}
use Rattle.dsn_postfix_notices.specs.declared.requests.postmaster_copies.PostmasterCopies.{PostmasterCopies}
use Rattle.dsn_report.specs.Site.{Site}

-- the settings of the mail system that notices depend on
pub record SettingsSaid : Type 0 where
  pub site : Site
  pub double_bounce : List ℕ
  pub lifetime : ℕ
  pub size_limit : ℕ
  pub copies : PostmasterCopies
  pub threaded : Bool

-- `serial` is that of the letter of a request without a log
pub record Terms : Type 0 where
  pub settings : SettingsSaid
  pub service : Service
  pub moment : ℕ
  pub serial : ℕ

-- `notice` is the part of the request that describes the message
pub record Task : Type 0 where
  pub terms : Terms
  pub request : PostfixRequest
  pub notice : NoticeRequest
