use Rattle.std.proofs.Common.{◌∙◌, [], ◌∷◌, ap, map, refl, sym}
use Rattle.dsn_postfix_files.specs.QueueRecipients.{recipient_facts_in}
use Rattle.dsn_postfix_notices.proofs.DeedLemmas.{map_append}
use Rattle.dsn_postfix_notices.proofs.RequestLetterLemmas.{recipient_more, recipients_all}
use Rattle.dsn_postfix_notices.proofs.requests.request_letters.queued_recipients.Goals as goal

pub loop-recipient-preserved : goal.loop-recipient-preserved
loop-recipient-preserved c =
    recipient_more _ _ _ _ _ (recipient_facts_in c.in-Some.recipient) c.loop-recipient.invariant
    (ap (map recipient_facts_in) c.in_ok-push.ensures.items ∙ sym (map_append recipient_facts_in c.loop-recipient.queued.items (c.in-Some.recipient ∷ [])))
    (λ recipients ending from. c.in-Some.ensures.listed recipients ending from)

pub returns : goal.returns
returns c records ending come =
    recipients_all _ _ _ _ ending c.loop-recipient.invariant (record { records = records; come = come; are = refl })
    (λ rest ending from. c.in_default.ensures.listed rest ending from)
