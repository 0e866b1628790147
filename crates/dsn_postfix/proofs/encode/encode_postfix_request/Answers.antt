use Rattle.std.proofs.Common.{append_assoc}
use Rattle.dsn_postfix.specs.PostfixRequest.{postfix_request_bytes}
use Rattle.dsn_postfix.proofs.encode.encode_postfix_request.Goals as goal

-- the number of the kind of request, what follows it, and the end
pub returns : goal.returns
unfolding postfix_request_bytes
returns c = record {
  bytes_are = rw (c.in_ok-push_end.ensures, c.in_ok-push_own.ensures.added, c.in_ok-push_number.ensures.added, c.new-out.ensures.items, c.command_of.ensures) (simp append_assoc);
  fits = c.in_ok-push_own.ensures.legal;
}
