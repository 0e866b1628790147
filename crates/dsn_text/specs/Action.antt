-- Actions: what a delivery agent did for a recipient (RFC 3464 section 2.3.3).
use Rattle.std.specs.Prelude.{ℕ, Bool, true, List, ◌==◌, ◌||◌, Option, Some, None, is_none, codes, if◌then◌else◌}
use Rattle.std.specs.Str.{bytes_eq}
use Rattle.dsn_text.specs.declared.action.Action.{Action}
use Rattle.dsn_text.specs.declared.action.Action.TheVariants.{Failed, Delayed, Delivered, Relayed, Expanded}

-- the byte that encodes an action in a request (this project's profile)
abbrev pub action_byte : Action → ℕ
action_byte Failed = 1
action_byte Delayed = 2
action_byte Delivered = 3
action_byte Relayed = 4
action_byte Expanded = 5

-- the word of an action in a notice (RFC 3464 section 2.3.3)
abbrev pub action_word : Action → List ℕ
action_word Failed = codes "failed"
action_word Delayed = codes "delayed"
action_word Delivered = codes "delivered"
action_word Relayed = codes "relayed"
action_word Expanded = codes "expanded"

-- the action with this word in a notice, if there is one
abbrev pub action_of_word : List ℕ → Option Action
action_of_word word =
    if bytes_eq word (codes "failed") then Some Failed
    else (if bytes_eq word (codes "delayed") then Some Delayed
    else (if bytes_eq word (codes "delivered") then Some Delivered
    else (if bytes_eq word (codes "relayed") then Some Relayed
    else (if bytes_eq word (codes "expanded") then Some Expanded else None))))

-- the action with this byte, if there is one
abbrev pub action_of_byte : ℕ → Option Action
action_of_byte byte =
    if byte == 1 then Some Failed
    else (if byte == 2 then Some Delayed
    else (if byte == 3 then Some Delivered
    else (if byte == 4 then Some Relayed
    else (if byte == 5 then Some Expanded else None))))

-- whether a status of this class, `2`, `4` or `5`, fits the action (this project's profile, after
-- RFC 3464 section 2.3.3 and RFC 3463 section 2)
abbrev pub fits_class : Action → ℕ → Bool
fits_class Failed class = (class == 52) || (class == 53)
fits_class Delayed class = class == 52
fits_class Delivered class = class == 50
fits_class Relayed class = class == 50
fits_class Expanded class = class == 50

-- whether an outcome of this action may have this value of retry-until; only a delayed recipient
-- may have a moment (RFC 3464 section 2.3.9)
abbrev pub fits_retry : Action → Option ℕ → Bool
fits_retry Failed retry_until = is_none retry_until
fits_retry Delayed retry_until = true
fits_retry Delivered retry_until = is_none retry_until
fits_retry Relayed retry_until = is_none retry_until
fits_retry Expanded retry_until = is_none retry_until
