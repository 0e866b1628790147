use Rattle.std.proofs.Common.{arith, length-take, sym, take_all}
use Rattle.dsn_postfix_files.specs.MessageHeader.{longest_field_name}
use Rattle.dsn_postfix_files.proofs.message_header.front_of_line.Goals as goal

pub slice_bounds-result-end : goal.slice_bounds-result-end
slice_bounds-result-end c = omega (arith, length-take longest_field_name c.args.line.now, c.if-line-le-LONGEST_FIELD_NAME.false)

pub returns-then-line-le-LONGEST_FIELD_NAME : goal.returns-then-line-le-LONGEST_FIELD_NAME
returns-then-line-le-LONGEST_FIELD_NAME c = sym (take_all longest_field_name c.args.line.now c.if-line-le-LONGEST_FIELD_NAME.true)
