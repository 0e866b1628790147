use Rattle.std.proofs.Common.{◌≡◌, ◌∙◌, Ok, arith, decimal}
use Rattle.std.proofs.lemmas.Fmt.{IsAscii-decimal, parse-decimal}
use Rattle.std.proofs.lemmas.Grind.{common_steps}
use Rattle.std.proofs.lemmas.Str.{IsUtf8-from_ascii}
use Rattle.dsn_postfix.proofs.number.parsed.Goals as goal

-- the text of a number is parsed as that number
pub returns-in-Ok-clause-known : goal.returns-in-Ok-clause-known
returns-in-Ok-clause-known c n low is =
    let digits : c.in-Ok.digits.now ≡ decimal n = c.in-Ok.ensures.cases.0 ∙ is in
    let read : c.parse.result ≡ Ok n = parse-decimal 64 n c.in-Ok.digits.now c.parse.result low low digits c.parse.ensures.value.0 in
    grind (arith, common_steps, read, c.ok.ensures.value)

-- the text of a number is ASCII
pub returns-in-Err-clause-known : goal.returns-in-Err-clause-known
returns-in-Err-clause-known c n low is =
    absurd (c.in-Err.ensures.cases.0 (rw is (IsUtf8-from_ascii (decimal n) (IsAscii-decimal n low))))
