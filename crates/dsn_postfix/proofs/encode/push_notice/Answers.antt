use Rattle.std.proofs.Common.{append_assoc}
use Rattle.std.proofs.lemmas.List.{append-nil}
use Rattle.dsn_postfix.proofs.Writing.{where_ok}
use Rattle.dsn_postfix.proofs.encode.push_notice.Goals as goal

-- each attribute follows those before it
pub returns-clause-added : goal.returns-clause-added
returns-clause-added c =
    where_ok c.push_number-3.result c.push_number-3.ensures.added (λ end.
    rw (end, c.in_ok-push_text-5.ensures, c.in_ok-push_text-4.ensures, c.in_ok-push_number-2.ensures.added, c.in_ok-push_text-3.ensures, c.in_ok-push_text-2.ensures, c.in_ok-push_text.ensures, c.in_ok-push_number.ensures.added, c.bytes.ensures.same, c.bytes-2.ensures.same, c.bytes-3.ensures.same, c.bytes-4.ensures.same, c.bytes-5.ensures.same, c.send_options_name.ensures) (simp (append_assoc, append-nil)))
