use Rattle.std.proofs.Common.{subst, sym}
use Rattle.dsn_postfix_files.specs.QueueRecipients.{RecipientsLeft, nothing_before}
use Rattle.dsn_postfix_files.specs.QueueWalk.{QueueReading}
use Rattle.dsn_postfix_files.proofs.queue_reader.QueueReader.next_recipient.Goals as goal

pub returns-in-End-clause-listed : goal.returns-in-End-clause-listed
returns-in-End-clause-listed c recipients ending left =
    c.in-End.ensures.listed recipients ending (subst (λ (r : QueueReading). RecipientsLeft r nothing_before recipients ending) (sym c.self.view_is) left)

pub returns-in-Broken-clause-listed : goal.returns-in-Broken-clause-listed
returns-in-Broken-clause-listed c recipients ending left =
    c.in-Broken.ensures.listed recipients ending (subst (λ (r : QueueReading). RecipientsLeft r nothing_before recipients ending) (sym c.self.view_is) left)
