use Rattle.std.proofs.Common.{◌≡◌, drop}
use Rattle.dsn_submission.proofs.waiting.drop_settled.Given as goal

-- as many letters as the counter says were removed
abbrev pub invariant-loop : goal.invariant-loop
invariant-loop g l = l.letters.items ≡ drop l.counter l.fn.letters.items
