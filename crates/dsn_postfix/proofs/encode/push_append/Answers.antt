use Rattle.std.proofs.Common.{append_assoc}
use Rattle.std.proofs.lemmas.List.{append-nil}
use Rattle.dsn_postfix.proofs.Writing.{where_ok}
use Rattle.dsn_postfix.proofs.encode.push_append.Goals as goal

-- the flags and the queue id, and then the recipient and its report
pub returns-clause-added : goal.returns-clause-added
returns-clause-added c =
    where_ok c.push_report.result c.push_report.ensures.added (λ end.
    rw (end, c.in_ok-push_recipient.ensures.added, c.in_ok-push_text.ensures, c.in_ok-push_number.ensures.added, c.bytes.ensures.same) (simp (append_assoc, append-nil)))
