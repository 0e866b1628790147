-- Worked examples of replies to EHLO: what they offer.
use Rattle.std.proofs.Common.{◌≡◌, ℕ, List, [], ◌∷◌, ◌++◌, Some, None, false, true, refl}
use Rattle.std.specs.Prelude.{codes}
use Rattle.dsn_text.specs.Extension.{lines_ended_by_lf}
use Rattle.dsn_smtp.specs.Extensions.{extensions_of, limit_said, offers}

abbrev line : List ℕ → List ℕ
line text = text ++ 13 ∷ 10 ∷ []

-- what Postfix answers
abbrev usual : List ℕ
usual = line (codes "250-mx.example.net") ++ line (codes "250-PIPELINING") ++ line (codes "250-SIZE 10240000")
    ++ line (codes "250 8bitmime")

all_offered : extensions_of usual ≡ record { eight_bit_mime = true; pipelining = true; size_limit = Some 10240000 }
unfolding lines_ended_by_lf
all_offered = refl

-- a reply of one line offers nothing, also if the server's name is a keyword
one_line : extensions_of (line (codes "250 pipelining")) ≡ record { eight_bit_mime = false; pipelining = false; size_limit = None }
unfolding lines_ended_by_lf
one_line = refl

-- a keyword is a whole word, and the first of its line
longer_word : offers (codes "PIPELINING") (line (codes "250-mx.example.net") ++ line (codes "250 PIPELINING2")) ≡ false
unfolding lines_ended_by_lf
longer_word = refl

second_word : offers (codes "PIPELINING") (line (codes "250-mx.example.net") ++ line (codes "250 XTEST PIPELINING")) ≡ false
unfolding lines_ended_by_lf
second_word = refl

with_parameter : offers (codes "PIPELINING") (line (codes "250-mx.example.net") ++ line (codes "250 Pipelining x")) ≡ true
unfolding lines_ended_by_lf
with_parameter = refl

-- SIZE without a number, with 0, with a sign, and with the least number that doesn't fit
no_number : limit_said [] ≡ None
no_number = refl

no_limit : limit_said (codes "0") ≡ None
no_limit = refl

signed : limit_said (codes "+5") ≡ None
signed = refl

largest : limit_said (codes "18446744073709551615") ≡ Some 18446744073709551615
largest = refl

too_large : limit_said (codes "18446744073709551616") ≡ None
too_large = refl
