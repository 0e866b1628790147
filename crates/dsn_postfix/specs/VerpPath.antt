-- The address of a notice that contains its recipient (variable envelope return paths).
use Rattle.std.specs.Prelude.{ℕ, ◌-◌, List, [], ◌∷◌, ◌++◌, length, drop, Option, Some, None, ◌==◌, if◌then◌else◌}
use Rattle.std.specs.List.{suffix_len}
use Rattle.dsn_postfix_files.specs.LogRecord.{LoggedFields, full_text_or}
use Rattle.dsn_postfix.specs.PlannedNotice.{NoticeFacts}
use Rattle.dsn_postfix.specs.QuotedAddress.{is_no_at, local_part}

-- the part after the last `@` of an address, or empty if it has no `@`
abbrev pub domain_part : List ℕ → List ℕ
domain_part address =
    if suffix_len is_no_at address == length address then []
    else drop (length address - suffix_len is_no_at address) address

-- a text after a byte, unless it is empty
abbrev pub led_by : ℕ → List ℕ → List ℕ
led_by byte [] = []
led_by byte (first ∷ text) = byte ∷ (first ∷ text)

-- `list@example.com` is notified of `bob@example.org` at `list+bob=example.org@example.com`: `+` and `=` are the
-- delimiters
abbrev pub verp_path : List ℕ → List ℕ → List ℕ → List ℕ
verp_path sender [] recipient = sender
verp_path sender (before ∷ []) recipient = sender
verp_path sender (before ∷ (within ∷ more)) recipient =
    local_part sender
    ++ (before ∷ local_part recipient ++ (led_by within (domain_part recipient) ++ led_by 64 (domain_part sender)))

-- the recipient before it was rewritten, as the sender knows it
abbrev pub verp_recipient : LoggedFields → List ℕ
verp_recipient fields = full_text_or fields.recipient (Some fields.original_recipient)

abbrev pub address_with : List ℕ → Option (List ℕ) → List LoggedFields → List ℕ
address_with to None outcomes = to
address_with to (Some delimiters) [] = to
address_with to (Some delimiters) (fields ∷ later) = verp_path to delimiters (verp_recipient fields)

-- the address to which a notice goes
abbrev pub notice_address : NoticeFacts → List ℕ
notice_address notice = address_with notice.to notice.delimiters notice.outcomes
