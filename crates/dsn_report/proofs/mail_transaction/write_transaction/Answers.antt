use Rattle.std.proofs.Common.{◌≡◌, ◌∙◌, [], ◌∷◌, ◌++◌, ap, codes, map, refl, sym}
use Rattle.dsn_report.proofs.LineWriterLemmas.{Took-as, Took-then, Wrote-as, Wrote-then, text_of_lines-append}
use Rattle.dsn_report.specs.Lines.{dot_stuffed, text_of_lines}
use Rattle.dsn_report.specs.Notice.{is_eight_bit, notice_lines, preface_of, return_path_of}
use Rattle.dsn_report.specs.Outbox.{mail_parameter, mail_transaction, transaction_lines}
use Rattle.dsn_report.proofs.mail_transaction.write_transaction.Goals as goal

pub returns : goal.returns
unfolding mail_transaction transaction_lines dot_stuffed text_of_lines preface_of
returns g c =
    let front =
    (codes "MAIL FROM:<>" ++ mail_parameter (is_eight_bit c.args.site.now c.args.letter.now)) ∷ (codes "RCPT TO:<" ++ return_path_of c.args.letter.now ++ codes ">") ∷ codes "DATA"
    ∷ map dot_stuffed (notice_lines c.args.site.now c.args.letter.now) in
    let eight_bit : c.is_eight_bit.result ≡ is_eight_bit c.args.site.now c.args.letter.now =
    c.is_eight_bit.ensures ∙ rw (c.of-preface.ensures.eight_bit_is, c.of-returned.ensures.eight_bit) refl in
    let parameter : c.mail_parameter-parameter.result.now ≡ mail_parameter (is_eight_bit c.args.site.now c.args.letter.now) = c.mail_parameter-parameter.ensures ∙ ap mail_parameter eight_bit in
    let commands =
    (codes "MAIL FROM:<>" ++ mail_parameter (is_eight_bit c.args.site.now c.args.letter.now)) ∷ (codes "RCPT TO:<" ++ return_path_of c.args.letter.now ++ codes ">") ∷ codes "DATA" ∷ [] in
    let envelope = Wrote-as {b = commands} (rw parameter refl) c.write_envelope.ensures in
    let lines = Wrote-then envelope c.write_notice.ensures in
    Took-as (rw c.requires (sym (text_of_lines-append front (codes "." ∷ [])))) (Took-then lines.took c.piece.ensures)
