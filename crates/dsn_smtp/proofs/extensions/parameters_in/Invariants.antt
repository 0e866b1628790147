-- No line so far begins with the keyword.
use Rattle.std.proofs.Common.{◌≡◌, length}
use Rattle.dsn_text.specs.Extension.{lines_ended_by_lf}
use Rattle.dsn_smtp.specs.Extensions.{parameters_in}
use Rattle.dsn_smtp.proofs.extensions.parameters_in.Given as goal

abbrev pub invariant-loop-line : goal.invariant-loop-line
invariant-loop-line l =
    parameters_in l.fn.keyword (lines_ended_by_lf l.rest) ≡ parameters_in l.fn.keyword (lines_ended_by_lf l.fn.lines)

abbrev pub decreases-loop-line : goal.decreases-loop-line
decreases-loop-line l = length l.rest
