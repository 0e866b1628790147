use Rattle.std.proofs.Common.{◌≡◌, true, false, subst, sym}
use Rattle.dsn_smtp.specs.declared.reply_fault.ReplyFault.TheVariants.{Trailing}
use Rattle.dsn_smtp.specs.inner.GroupReplies.{HearsNoMore}
use Rattle.dsn_smtp.proofs.GroupLemmas.{heard_trailing}
use Rattle.dsn_smtp.proofs.group_replies.hear_last.Goals as goal

pub returns-in-Ok-2-clause-missing : goal.returns-in-Ok-2-clause-missing
returns-in-Ok-2-clause-missing g c =
    subst (λ new. HearsNoMore g.S.Source c.args.ahead.now new Trailing) (sym c.clear.ensures)
    (heard_trailing g.S.Source c.args.ahead.now c.hear_one.new.ahead c.in-Ok-2.field-0 c.hear_one.new.buffer c.in-Ok-2.ensures.heard (λ none.
    let is : c.is_empty.result ≡ true = c.is_empty.ensures.1 none in
    let not_so : c.is_empty.result ≡ false = c.if-is_empty.false in
    cc))
