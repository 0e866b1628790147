use Rattle.std.proofs.Common.{◌≡◌, [], ◌∷◌, codes, rules, refl}
use Rattle.dsn_text.specs.Action.{action_word}
use Rattle.dsn_report.proofs.BlockLemmas.{block-line, block-none, told-alone, told-expanded}
use Rattle.dsn_report.proofs.LineWriterLemmas.{Wrote-as}
use Rattle.dsn_report.specs.Notice.{recipient_told}
use Rattle.dsn_report.proofs.notice_lines.write_action.Goals as goal

pub returns-in-Some : goal.returns-in-Some
unfolding recipient_told
returns-in-Some g c =
    let recipient : c.recipient-recipient.result.now ≡ c.args.outcome.now.recipient = search rules in
    let action : c.action_word-action.result.now ≡ action_word c.args.outcome.now.action = search rules in
    let status : c.bytes-status.result.now ≡ c.args.outcome.now.status = search rules in
    Wrote-as (rw (c.in-Some.is, recipient, action, status) (told-expanded c.args.outcome.now.recipient c.in-Some.origin.now (action_word c.args.outcome.now.action) c.args.outcome.now.status))
    (c.block.ensures _
    (block-line (codes "<") (c.recipient-recipient.result.now ∷ codes "> (expanded from <" ∷ c.in-Some.origin.now ∷ codes ">): " ∷ c.action_word-action.result.now ∷ codes " (" ∷ c.bytes-status.result.now ∷ codes ")" ∷ []) refl
    block-none))

pub returns-in-None : goal.returns-in-None
unfolding recipient_told
returns-in-None g c =
    let recipient : c.recipient-recipient.result.now ≡ c.args.outcome.now.recipient = search rules in
    let action : c.action_word-action.result.now ≡ action_word c.args.outcome.now.action = search rules in
    let status : c.bytes-status.result.now ≡ c.args.outcome.now.status = search rules in
    Wrote-as (rw (c.in-None.is, recipient, action, status) (told-alone c.args.outcome.now.recipient (action_word c.args.outcome.now.action) c.args.outcome.now.status))
    (c.block-in-None.ensures _
    (block-line (codes "<") (c.recipient-recipient.result.now ∷ codes ">: " ∷ c.action_word-action.result.now ∷ codes " (" ∷ c.bytes-status.result.now ∷ codes ")" ∷ []) refl
    block-none))
