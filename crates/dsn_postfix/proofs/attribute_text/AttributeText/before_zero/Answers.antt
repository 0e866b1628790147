use Rattle.dsn_postfix.proofs.AttributeLemmas.{first_zero, free_before, no_zero}
use Rattle.dsn_postfix.proofs.attribute_text.AttributeText.before_zero.Goals as goal

-- the place is that of the first zero
pub invariant_of-result : goal.invariant_of-result
invariant_of-result c = free_before c.args.bytes.now c.in-Some.end c.in-Some.ensures

pub returns-in-Some-clause-text : goal.returns-in-Some-clause-text
returns-in-Some-clause-text c = first_zero c.args.bytes.now c.in-Some.end c.in-Some.ensures

pub returns-in-None-clause-text : goal.returns-in-None-clause-text
returns-in-None-clause-text c = no_zero c.args.bytes.now c.in-None.ensures
