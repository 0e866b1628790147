-- Letters: a sealed log with the draft of its notice.
use Rattle.std.specs.Prelude.{◌≡◌, ◌≢◌, ℕ, ◌-◌, ◌^◌, false, List, [], length, All, IsSome}
use Rattle.dsn_outcome.specs.Draft.{Draft, differs}
use Rattle.dsn_outcome.specs.Outcome.{Outcome}
use Rattle.dsn_text.specs.declared.key.Key.{Key}

-- a log's key, its draft, its outcomes from the oldest on, and how many letters of all keys were
-- sealed before it
pub record Letter : Type 0 where
  pub key : Key
  pub draft : Draft
  pub outcomes : List Outcome
  pub serial : ℕ

-- the largest count of letters, which has 64 bits; it means that number or more
abbrev pub most_counted : ℕ
most_counted = 2 ^ 64 - 1

-- a letter can be sent: it has a return path and at least one outcome (RFC 3464 section 2.1); all
-- outcomes are of its service, and as many as its flush expects
pub record IsLetter (letter : Letter) : Type 0 where
  pub reports : letter.outcomes ≢ []
  pub of_service : All (λ outcome. outcome.service ≡ letter.key.service) letter.outcomes
  pub returns : IsSome letter.draft.return_path
  pub counted : differs letter.draft.expected (length letter.outcomes) ≡ false
