-- The commands of one mail transaction (RFC 5321 section 4.1.1), each a line.
use Rattle.std.specs.Prelude.{ℕ, List, [], ◌∷◌, ◌++◌, codes}
use Rattle.dsn_smtp.specs.declared.body.Body.{Body}
use Rattle.dsn_smtp.specs.declared.body.Body.TheVariants.{SevenBit, EightBit}

-- EHLO, with the client's own name (RFC 5321 section 4.1.1.1)
abbrev pub hello_line : List ℕ → List ℕ
hello_line host = codes "EHLO " ++ (host ++ 13 ∷ 10 ∷ [])

-- MAIL, from the null sender (RFC 5321 sections 4.1.1.2 and 4.5.5), for a message of this kind (RFC 6152 section 2)
abbrev pub sender_line : Body → List ℕ
sender_line SevenBit = codes "MAIL FROM:<>" ++ 13 ∷ 10 ∷ []
sender_line EightBit = codes "MAIL FROM:<> BODY=8BITMIME" ++ 13 ∷ 10 ∷ []

-- RCPT, for one path (RFC 5321 section 4.1.1.3)
abbrev pub recipient_line : List ℕ → List ℕ
recipient_line path = codes "RCPT TO:<" ++ (path ++ 62 ∷ 13 ∷ 10 ∷ [])

-- DATA and QUIT (RFC 5321 sections 4.1.1.4 and 4.1.1.10)
abbrev pub data_line : List ℕ
data_line = codes "DATA" ++ 13 ∷ 10 ∷ []

abbrev pub quit_line : List ℕ
quit_line = codes "QUIT" ++ 13 ∷ 10 ∷ []
