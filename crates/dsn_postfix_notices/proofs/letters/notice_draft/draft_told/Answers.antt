use Rattle.std.proofs.Common.{◌∙◌, Some, ap, rules}
use Rattle.std.specs.Option.{unwrap_or}
use Rattle.dsn_outcome.specs.Draft.{DraftFields, first_draft_fault}
use Rattle.dsn_outcome.specs.declared.draft_fault.DraftFault.TheVariants as draft
use Rattle.dsn_postfix_notices.specs.letters.NoticeDraft.{draft_fields_told}
use Rattle.dsn_postfix_notices.specs.letters.ReportedMessage.{message_said_in}
use Rattle.dsn_postfix_notices.proofs.LetterLemmas.{draft_fault_told_is, fields_are}
use Rattle.dsn_postfix_notices.proofs.letters.notice_draft.draft_told.Goals as goal

pub returns-clause-refused : goal.returns-clause-refused
returns-clause-refused c =
    let message = message_said_in c.args.message.now in
    let notice = c.args.notice.now in
    let told = draft_fields_told message notice in
    let same =
    fields_are c.deref-3.result.now told.return_path told.envelope_id c.deref-4.result.now told.header c.deref-5.result.now told.extensions
    (Some c.returned_as.result) told.returned told.wording told.wording
    (search rules) (search rules) (search rules) (search rules) (search rules) in
    draft_fault_told_is message notice c.in-Err.fault c.from.result (search rules)
    (c.in-Err.ensures.refused ∙ ap (λ (fields : DraftFields). unwrap_or (first_draft_fault fields) draft.NoMemory) same)
    c.from.ensures
