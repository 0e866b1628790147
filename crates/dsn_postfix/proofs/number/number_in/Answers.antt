use Rattle.std.proofs.Common.{◌≡◌, sym, arith, decimal}
use Rattle.dsn_postfix.specs.Attribute.{offset_limit}
use Rattle.dsn_postfix.proofs.NumberLemmas.{compared_same, number_known, number_unknown, same_bytes, the_same}
use Rattle.dsn_postfix.proofs.number.number_in.Goals as goal

-- the text is that of the number
pub returns-in-Some : goal.returns-in-Some
returns-in-Some c =
    let written = same_bytes (decimal c.in-Some.number) c.args.text.now (sym c.if-writes.ensures) in
    sym (number_known offset_limit c.args.text.now c.in-Some.number c.in-Some.ensures.bounded (omega arith) (sym written))

-- if the text was that of a number, it would be that of this number
pub returns-in_default : goal.returns-in_default
returns-in_default c = sym (number_unknown offset_limit c.args.text.now (λ n low is.
    let same : c.in-Some.number ≡ n = the_same (c.in-Some.ensures.known n low is) in
    let written = compared_same (decimal c.in-Some.number) c.args.text.now (rw same (sym is)) in
    cc))

pub returns-in_default-2 : goal.returns-in_default-2
returns-in_default-2 c = sym (number_unknown offset_limit c.args.text.now (λ n low is.
    let there = c.in_default.ensures.known n low is in
    cc))
