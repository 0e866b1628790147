-- The bytes so far end no list, and leave reading at the state.
use Rattle.std.proofs.Common.{◌≡◌, ◌≤◌, ◌-◌, length}
use Rattle.dsn_postfix.specs.inner.ListState.{further, step_over}
use Rattle.dsn_postfix.proofs.list_state.ListState.step_over.Given as goal

abbrev pub invariant-loop-rest : goal.invariant-loop-rest
invariant-loop-rest l = record {
  within : length l.rest ≤ length l.piece;
  step : step_over l.fn.self l.piece ≡ further (length l.piece - length l.rest) (step_over l.state l.rest);
}

abbrev pub decreases-loop-rest : goal.decreases-loop-rest
decreases-loop-rest l = length l.rest
