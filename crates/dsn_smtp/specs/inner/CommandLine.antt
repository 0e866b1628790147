-- The commands of one mail transaction (RFC 5321 section 4.1.1), each a line.
use Rattle.std.specs.Prelude.{ℕ, ◌≡◌, ◌≤◌, List, [], ◌∷◌, ◌++◌, length}
use Rattle.dsn_smtp.specs.Reply.{IsReplyText}

-- the longest command line, in bytes, with its CRLF (RFC 5321 section 4.5.3.1.4)
abbrev pub longest_command_line : ℕ
longest_command_line = 512

-- bytes that are one line: no CR or LF precedes the CRLF at their end
pub record IsCommandLine (bytes : List ℕ) : Type 0 where
  pub text : List ℕ
  pub one_line : IsReplyText text
  pub is : bytes ≡ text ++ 13 ∷ 10 ∷ []
  pub short : length bytes ≤ longest_command_line
