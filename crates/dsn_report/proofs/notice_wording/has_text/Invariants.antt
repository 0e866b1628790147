use Rattle.std.proofs.Common.{◌≡◌, length}
use Rattle.dsn_report.specs.Notice.{has_text}
use Rattle.dsn_report.proofs.notice_wording.has_text.Given as goal

-- the text has the part if the rest of it does
abbrev pub invariant-loop-rest : goal.invariant-loop-rest
invariant-loop-rest l = has_text l.part l.rest ≡ has_text l.part l.text

abbrev pub decreases-loop-rest : goal.decreases-loop-rest
decreases-loop-rest l = length l.rest
