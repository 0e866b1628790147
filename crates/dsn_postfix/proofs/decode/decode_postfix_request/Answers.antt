use Rattle.std.proofs.Common.{◌≡◌, ℕ, List, Result, Ok, Err, sym, ◌∙◌}
use Rattle.std.specs.Prelude.{IfOk, IfErr}
use Rattle.dsn_postfix.specs.PostfixRequest.{IsRequestIn}
use Rattle.dsn_postfix.specs.RequestReading.{postfix_request_at}
use Rattle.dsn_postfix.specs.declared.postfix_request.PostfixRequest.{PostfixRequest}
use Rattle.dsn_postfix.specs.declared.request_fault.RequestFault.{RequestFault}
use Rattle.dsn_postfix.proofs.RequestLaws.{request_is_read, request_takes}
use Rattle.dsn_postfix.proofs.decode.decode_postfix_request.Goals as goal

read_as : (bytes : List ℕ) (r : Result PostfixRequest RequestFault) → IfOk r (λ request. postfix_request_at bytes ≡ Ok request) → IfOk r (λ request. IsRequestIn bytes request)
read_as bytes (Ok request) is = request_takes bytes request is
read_as bytes (Err fault) is = is

result_is : (bytes : List ℕ) (r : Result PostfixRequest RequestFault) (request : PostfixRequest) → IfOk r (λ x. postfix_request_at bytes ≡ Ok x) → IfErr r (λ fault. postfix_request_at bytes ≡ Err fault) → postfix_request_at bytes ≡ Ok request → r ≡ Ok request
result_is bytes (Ok x) request read refused is = sym read ∙ is
result_is bytes (Err fault) request read refused is = sym refused ∙ is

-- a request that was read has these bytes
pub returns-clause-read : goal.returns-clause-read
returns-clause-read c = read_as c.args.bytes.now c.read_request.result c.read_request.ensures.read

-- a request that has these bytes is read
pub returns-clause-only : goal.returns-clause-only
returns-clause-only c request is = result_is c.args.bytes.now c.read_request.result request c.read_request.ensures.read c.read_request.ensures.refused (request_is_read c.args.bytes.now request is)
