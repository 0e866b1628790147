-- The appends so far.
use Rattle.std.proofs.Common.{◌≡◌, ◌≤◌, length}
use Rattle.noticed_dsn.specs.Log.{Logs}
use Rattle.noticed_dsn.proofs.one_log.read_letter.Given as goal

abbrev pub invariant-loop-place : goal.invariant-loop-place
invariant-loop-place l = record {
  logs : Logs l.frames l.place l.key l.log l.source.rest.now;
  counted : length l.log ≡ l.place;
  few : l.place ≤ 1000;
}
