use Rattle.std.proofs.Common.{append_assoc}
use Rattle.std.proofs.lemmas.List.{append-nil}
use Rattle.dsn_postfix.proofs.Writing.{where_ok}
use Rattle.dsn_postfix.proofs.encode.push_recipient.Goals as goal

-- each attribute follows those before it
pub returns-clause-added : goal.returns-clause-added
returns-clause-added c =
    where_ok c.push_number-2.result c.push_number-2.ensures.added (λ end.
    rw (end, c.in_ok-push_text-3.ensures, c.in_ok-push_number.ensures.added, c.in_ok-push_text-2.ensures, c.in_ok-push_text.ensures, c.bytes.ensures.same, c.bytes-2.ensures.same, c.bytes-3.ensures.same) (simp (append_assoc, append-nil)))
