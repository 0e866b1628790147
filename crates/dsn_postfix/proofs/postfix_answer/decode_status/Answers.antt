use Rattle.std.proofs.Common.{◌≡◌, ℕ, List, Result, Ok, Err, sym, ◌∙◌}
use Rattle.std.specs.Prelude.{IfOk, IfErr}
use Rattle.dsn_postfix.specs.PostfixAnswer.{status_at, status_bytes}
use Rattle.dsn_postfix.specs.declared.request_fault.RequestFault.{RequestFault}
use Rattle.dsn_postfix.proofs.StatusLaws.{status_again, status_takes}
use Rattle.dsn_postfix.proofs.postfix_answer.decode_status.Goals as goal

read_as : (bytes : List ℕ) (r : Result ℕ RequestFault) → IfOk r (λ status. status_at bytes ≡ Ok status) → IfOk r (λ status. bytes ≡ status_bytes status)
read_as bytes (Ok status) is = status_takes bytes status is
read_as bytes (Err fault) is = is

result_is : (bytes : List ℕ) (r : Result ℕ RequestFault) (status : ℕ) → IfOk r (λ x. status_at bytes ≡ Ok x) → IfErr r (λ fault. status_at bytes ≡ Err fault) → status_at bytes ≡ Ok status → r ≡ Ok status
result_is bytes (Ok x) status read refused is = sym read ∙ is
result_is bytes (Err fault) status read refused is = sym refused ∙ is

-- a status that was read has these bytes
pub returns-clause-read : goal.returns-clause-read
returns-clause-read c = read_as c.args.bytes.now c.read_status.result c.read_status.ensures.read

-- a status that has these bytes is read
pub returns-clause-only : goal.returns-clause-only
returns-clause-only c status low is = result_is c.args.bytes.now c.read_status.result status c.read_status.ensures.read c.read_status.ensures.refused (status_again c.args.bytes.now status low is)
