use Rattle.std.proofs.Common.{append_assoc}
use Rattle.dsn_postfix.specs.PostfixAnswer.{announcement_bytes}
use Rattle.dsn_postfix.proofs.postfix_answer.encode_announcement.Goals as goal

-- the one attribute, and the end
pub returns : goal.returns
unfolding announcement_bytes
returns c = rw (c.in_ok-push_end.ensures, c.in_ok-push_text.ensures, c.new-out.ensures.items) (simp append_assoc)
