use Rattle.std.proofs.Common.{◌≡◌, ℕ, List, true, sym, subst, arith}
use Rattle.std.specs.Str.{all_ascii_digits}
use Rattle.std.specs.Str.Parse.{ParsesUnsigned}
use Rattle.std.proofs.lemmas.Str.{IsUtf8-from_ascii}
use Rattle.std.proofs.lemmas.Str.Parse.{parse_digits, numerals_by_value, tells_all_ascii_digits}
use Rattle.dsn_smtp.proofs.ExtensionLemmas.{digits-ascii, no_digits}
use Rattle.dsn_smtp.proofs.extensions.limit_said.Goals as goal

pub unreachable-requires : goal.unreachable-requires
unreachable-requires c = c.in-Err.ensures.cases.0 (IsUtf8-from_ascii c.args.text.now (digits-ascii c.args.text.now (sym c.if-not-are_digits.ensures)))

pub returns-in_default-2 : goal.returns-in_default-2
returns-in_default-2 c =
    let text = c.args.text.now in
    let digits : all_ascii_digits text ≡ true = sym c.if-not-are_digits.ensures in
    let same : c.in-Ok.digits.now ≡ text = c.in-Ok.ensures.cases.0 in
    let parsed = parse_digits (numerals_by_value _ tells_all_ascii_digits) 64 text c.parse.result (subst (λ (l : List ℕ). ParsesUnsigned 64 10 l c.parse.result) same c.parse.ensures.value.0) digits in
    grind (arith, parsed, digits, no_digits text, c.in_default.is)
