-- A step of a mail transaction after the greeting.
use Rattle.std.specs.Prelude.{ℕ, List}
use Rattle.dsn_smtp.specs.declared.hand_in_step.HandInStep.{HandInStep}

-- the text that is sent at a step, before a reply is received
pub record Command : Type 0 where
  pub step : HandInStep
  pub text : List ℕ
