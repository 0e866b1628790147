-- The turns so far succeeded, and the commands that are left go on from them.
use Rattle.std.proofs.Common.{◌≡◌, List, ◌++◌, Option, drop}
use Rattle.dsn_smtp.specs.Dialogue.{TakesTurns, Turn}
use Rattle.dsn_smtp.specs.HandIn.{AsksAll, last_heard_after}
use Rattle.dsn_smtp.specs.declared.hand_in_fault.HandInFault.{HandInFault}
use Rattle.dsn_smtp.proofs.transaction.ask_all.Given as goal

abbrev pub invariant-loop-command : goal.invariant-loop-command
invariant-loop-command g l = record {
  turns : List Turn;
  taken : TakesTurns g.S.Source g.S.Drain l.fn.stream l.stream turns;
  goes_on : (after : List Turn) (outcome : Option HandInFault) → AsksAll (drop l.command-index l.commands) after outcome → AsksAll l.commands (turns ++ after) outcome;
  last : last_heard_after l.fn.buffer turns ≡ l.buffer;
}
