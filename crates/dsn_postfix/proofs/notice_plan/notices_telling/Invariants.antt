-- The notices so far, and those of the recipients that are left.
use Rattle.std.proofs.Common.{◌≡◌, ◌++◌, length, map}
use Rattle.dsn_postfix_files.specs.LogRecord.{logged_fields_in}
use Rattle.dsn_postfix.specs.NoticePlan.{most_told, notice_about, portions}
use Rattle.dsn_postfix.proofs.notice_plan.notices_telling.Given as goal

abbrev pub invariant-loop-rest : goal.invariant-loop-rest
invariant-loop-rest l = l.notices.items ++ map (notice_about l.request l.notice) (portions (most_told l.request) (map logged_fields_in l.rest)) ≡ map (notice_about l.request l.notice) (portions (most_told l.request) (map logged_fields_in l.told))

abbrev pub decreases-loop-rest : goal.decreases-loop-rest
decreases-loop-rest l = length l.rest
