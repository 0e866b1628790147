use Rattle.std.proofs.Common.{append_assoc}
use Rattle.std.proofs.lemmas.List.{append-nil}
use Rattle.dsn_postfix.proofs.Writing.{where_ok}
use Rattle.dsn_postfix.proofs.encode.push_own.Goals as goal

pub returns-in-Append-clause-added : goal.returns-in-Append-clause-added
returns-in-Append-clause-added c = rw c.in-Append.is c.push_append.ensures.added

-- the notice's attributes, and then the delimiters
pub returns-in_ok-push_notice-in-Verp-clause-added : goal.returns-in_ok-push_notice-in-Verp-clause-added
returns-in_ok-push_notice-in-Verp-clause-added c =
    rw c.in-Verp.is (where_ok c.push_text.result c.push_text.ensures (λ end.
    rw (end, c.in_ok-push_notice-in-Verp.ensures.added, c.bytes.ensures.same) (simp (append_assoc, append-nil))))

-- the notice's attributes, and then the recipient and its report
pub returns-in_ok-push_recipient-in-One-clause-added : goal.returns-in_ok-push_recipient-in-One-clause-added
returns-in_ok-push_recipient-in-One-clause-added c =
    rw c.in-One.is (where_ok c.push_report.result c.push_report.ensures.added (λ end.
    rw (end, c.in_ok-push_recipient-in-One.ensures.added, c.in_ok-push_notice-in-One.ensures.added) (simp (append_assoc, append-nil))))
