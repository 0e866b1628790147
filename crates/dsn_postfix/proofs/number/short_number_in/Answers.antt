use Rattle.std.proofs.Common.{◌≡◌, Some, sym, ◌∙◌, arith}
use Rattle.dsn_postfix.specs.Attribute.{number_in, number_limit, offset_limit}
use Rattle.dsn_postfix.proofs.NumberLemmas.{number_known, number_takes, number_unknown, the_same}
use Rattle.dsn_postfix.proofs.number.short_number_in.Goals as goal

pub returns-in-Some : goal.returns-in-Some
returns-in-Some c =
    let read : number_in offset_limit c.args.text.now ≡ Some c.in-Some.number = sym c.number_in.ensures ∙ c.in-Some.is in
    let parts = number_takes offset_limit c.args.text.now c.in-Some.number read in
    sym (number_known number_limit c.args.text.now c.in-Some.number (omega (arith, c.if-number.true)) (omega arith) parts.0)

-- a number of 32 bits would have been read as one of 64
pub returns-in_default : goal.returns-in_default
returns-in_default c = sym (number_unknown number_limit c.args.text.now (λ n low is.
    let read : number_in offset_limit c.args.text.now ≡ Some n = number_known offset_limit c.args.text.now n (omega (arith, low)) (omega arith) is in
    let same : c.in-Some.number ≡ n = the_same (sym (sym c.number_in.ensures ∙ c.in-Some.is) ∙ read) in
    omega (arith, same, low, c.if-number.false)))

pub returns-in_default-2 : goal.returns-in_default-2
returns-in_default-2 c = sym (number_unknown number_limit c.args.text.now (λ n low is.
    let read : number_in offset_limit c.args.text.now ≡ Some n = number_known offset_limit c.args.text.now n (omega (arith, low)) (omega arith) is in
    let none = sym c.number_in.ensures ∙ c.in_default.is in
    cc))
