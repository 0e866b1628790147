use Rattle.dsn_text.proofs.StatusLemmas.{IsStatusCode-test, is_status_code-passes, length-IsStatusCode}
use Rattle.dsn_text.proofs.status.Status.is_valid.Goals as goal

pub returns-clause-code : goal.returns-clause-code
returns-clause-code c = rw c.is_status_code.ensures (IsStatusCode-test c.args.text.now, is_status_code-passes c.args.text.now)

pub returns-clause-short : goal.returns-clause-short
returns-clause-short c = rw c.is_status_code.ensures (λ passes. length-IsStatusCode c.args.text.now (IsStatusCode-test c.args.text.now passes))
