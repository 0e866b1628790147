-- Why there is no text.
use Rattle.std.proofs.Common.{arith, IfErr, refl}
use Rattle.std.proofs.lemmas.Grind.{common_steps}
use Rattle.noticed_dsn.specs.Calls.{bad_host, no_letter, no_memory}
use Rattle.noticed_dsn.specs.Log.{IsRefused}
use Rattle.noticed_dsn.proofs.LogLemmas.{if_err}
use Rattle.noticed_dsn.proofs.texts.text_for.Goals as goal

pub returns-in-Err-BadHost-clause-refused : goal.returns-in-Err-BadHost-clause-refused
returns-in-Err-BadHost-clause-refused c = bad_host (c.in-Err-BadHost.ensures.bad.0 (rw c.in-Err-BadHost.field-0-is refl))

pub returns-in-Err-NoMemory-clause-refused : goal.returns-in-Err-NoMemory-clause-refused
returns-in-Err-NoMemory-clause-refused c = no_memory

pub returns-in_err-letter-clause-refused : goal.returns-in_err-letter-clause-refused
returns-in_err-letter-clause-refused c =
    let refused : IfErr c.from_residual.result (λ code. IsRefused c.args.frames.now code) = grind (arith, common_steps) in
    if_err _ _ _ (λ code why. no_letter code (c.in-Ok.ensures.legal refl) why) refused

pub returns-clause-refused : goal.returns-clause-refused
returns-clause-refused c = no_memory
