-- Of which notices bounce(8) sends the postmaster a copy (notify_classes of postconf(5)).
use Rattle.std.specs.Prelude.{Bool, false, not, ◌&&◌, ◌||◌, List, ℕ}
use Rattle.std.specs.Str.{str_eq_ignore_ascii_case}
use Rattle.dsn_postfix.specs.Wanted.{has_no_bytes}
use Rattle.dsn_postfix.specs.declared.postfix_request.PostfixRequest.{PostfixRequest}
use Rattle.dsn_postfix.specs.declared.postfix_request.PostfixRequest.TheVariants.{Append, Flush, Warn, Verp, One, Trace}
use Rattle.dsn_postfix_notices.specs.requests.Task.{SettingsSaid}

-- mail from the double-bounce address is dropped, so the postmaster's own notices aren't copied
abbrev pub is_from_postfix : SettingsSaid → List ℕ → Bool
is_from_postfix settings sender = str_eq_ignore_ascii_case sender settings.double_bounce

-- `bounce` copies each failure, and `2bounce` that of a message from the null sender
abbrev pub copies_failure : SettingsSaid → List ℕ → Bool
copies_failure settings sender =
    not (is_from_postfix settings sender)
    && (settings.copies.bounce || (settings.copies.double_bounce && has_no_bytes sender))

-- `delay` copies each delay, whoever the sender is
abbrev pub copies_delay : SettingsSaid → List ℕ → Bool
copies_delay settings sender = not (is_from_postfix settings sender) && settings.copies.delay

-- `2bounce` sends the postmaster the report of deliveries that a message from the null sender has
abbrev pub copies_report : SettingsSaid → List ℕ → Bool
copies_report settings sender =
    not (is_from_postfix settings sender) && (settings.copies.double_bounce && has_no_bytes sender)

-- an append has no notice
abbrev pub is_copied : SettingsSaid → PostfixRequest → Bool
is_copied settings (Append append) = false
is_copied settings (Flush notice) = copies_failure settings notice.sender
is_copied settings (Warn notice) = copies_delay settings notice.sender
is_copied settings (Verp notice delimiters) = copies_failure settings notice.sender
is_copied settings (One notice recipient report) = copies_failure settings notice.sender
is_copied settings (Trace notice) = copies_report settings notice.sender
