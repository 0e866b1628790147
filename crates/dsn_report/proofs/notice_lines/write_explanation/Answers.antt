use Rattle.std.proofs.Common.{◌≡◌, ◌∙◌, [], ◌∷◌, codes, rules, refl}
use Rattle.std.specs.Option.{option_copied}
use Rattle.std.specs.Prelude.{option_map}
use Rattle.dsn_text.specs.Stamp.{date_text}
use Rattle.dsn_report.proofs.BlockLemmas.{block-line, block-none}
use Rattle.dsn_report.proofs.LineWriterLemmas.{Wrote-as, Wrote-same, Wrote-then}
use Rattle.dsn_report.specs.DeliveryStatus.{line_if_any}
use Rattle.dsn_report.specs.Notice.{explanation, reply_beside}
use Rattle.dsn_report.specs.PlainWords.{meaning_of}
use Rattle.dsn_report.proofs.notice_lines.write_explanation.Goals as goal

pub returns : goal.returns
unfolding explanation
returns g c =
    let meaning : c.meaning_of.result.now ≡ meaning_of c.args.outcome.now.action c.args.outcome.now.status = c.meaning_of.ensures in
    let reason : option_copied c.reason-reason.result ≡ c.args.outcome.now.reason = c.reason-reason.ensures.same in
    let mta : option_copied c.mta.result ≡ c.args.outcome.now.mta = c.mta.ensures.same in
    let diagnostic : option_copied c.diagnostic.result ≡ c.args.outcome.now.diagnostic = c.diagnostic.ensures.same in
    let reply : option_copied c.reply_beside.result ≡ reply_beside c.args.outcome.now.reason c.args.outcome.now.diagnostic =
    c.reply_beside.ensures ∙ rw (reason, diagnostic) refl in
    let until = Wrote-same (λ moment. line_if_any (codes "    It will be tried again until ") (option_map date_text moment)) c.args.outcome.now.retry_until (search rules) c.write_date_if_any.ensures in
    let block = c.block.ensures _ (block-line (codes "    ") (c.meaning_of.result.now ∷ []) refl block-none) in
    Wrote-as (rw (meaning, reason, mta, reply) refl)
    (Wrote-then (Wrote-then (Wrote-then block c.write_if_any.ensures) c.write_reply.ensures) until)
