-- Which recipients a request's notices report, by what the sender wants (NOTIFY, RFC 3461 section 4.1).
use Rattle.std.specs.Prelude.{◌||◌, Bool, true, false, ℕ, List, [], ◌∷◌, ◌==◌}
use Rattle.std.specs.Str.{str_eq_ignore_ascii_case}
use Rattle.dsn_postfix.specs.RequestFlags.{has_flag}
use Rattle.dsn_postfix.specs.declared.postfix_request.PostfixRequest.{PostfixRequest}
use Rattle.dsn_postfix.specs.declared.postfix_request.PostfixRequest.TheVariants.{Append, Flush, Warn, Verp, One, Trace}

-- the sender asked for notices of this outcome (4 failure, 8 delay), or gave no NOTIFY
abbrev pub wants_flag : ℕ → ℕ → Bool
wants_flag flag flags = flags == 0 || has_flag flag flags

-- A notice of failure reports recipients whose sender wants failures, a warning those whose sender wants delays. A
-- notice of deliveries reports all recipients of its log.
abbrev pub wants : PostfixRequest → ℕ → Bool
wants (Append append) flags = false
wants (Flush notice) flags = wants_flag 4 flags
wants (Warn notice) flags = wants_flag 8 flags
wants (Verp notice delimiters) flags = wants_flag 4 flags
wants (One notice recipient report) flags = wants_flag 4 flags
wants (Trace notice) flags = true

-- ---- messages without a notice

-- a message from the null sender, or from the sender of notices about notices, has no notice: so no notice causes
-- another
abbrev pub has_no_bytes : List ℕ → Bool
has_no_bytes [] = true
has_no_bytes (byte ∷ text) = false

abbrev pub is_no_sender : List ℕ → List ℕ → Bool
is_no_sender double_bounce sender = has_no_bytes sender || str_eq_ignore_ascii_case sender double_bounce
