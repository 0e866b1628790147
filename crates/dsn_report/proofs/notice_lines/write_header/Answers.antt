use Rattle.std.proofs.Common.{refl, rules, [], ◌∷◌, ◌≡◌, ◌∙◌, codes, sym, ap}
use Rattle.std.specs.Prelude.{decimal, unwrap_or}
use Rattle.dsn_text.specs.Stamp.{date_text}
use Rattle.dsn_report.proofs.BlockLemmas.{block-line, block-none, line-of-three}
use Rattle.dsn_report.proofs.LineWriterLemmas.{Wrote-as, Wrote-same, Wrote-then}
use Rattle.dsn_report.specs.Boundary.{boundary_front}
use Rattle.dsn_report.specs.Notice.{encoding_lines, is_eight_bit, notice_header, preface_of, return_path_of}
use Rattle.dsn_report.proofs.notice_lines.write_header.Goals as goal

pub returns : goal.returns
unfolding notice_header preface_of
returns g c =
    let preface = c.requires.preface in
    let sender = line-of-three (codes "From: ") c.args.preface.sender.0.now c.args.preface.sender.1.now c.args.preface.sender.2.now (preface_of c.args.site.now c.args.letter.now).sender preface.sender_is in
    let host : c.host.result.now ≡ c.args.site.now.host = c.host.ensures.same in
    let path : c.bytes.result.now ≡ return_path_of c.args.letter.now =
    c.bytes.ensures.same ∙ sym (ap (λ path. unwrap_or path []) c.return_path.ensures) in
    let date : c.date.result ≡ date_text c.args.letter.now.draft.moment = search rules in
    let front : c.args.front.now ≡ boundary_front c.args.letter.now = c.requires.front in
    let serial : c.bytes-2.result.now ≡ decimal c.args.letter.now.serial = search rules in
    let encoding = Wrote-same encoding_lines (is_eight_bit c.args.site.now c.args.letter.now) c.requires.eight_bit c.write_encoding.ensures in
    let fields = c.block.ensures _
    (block-line (codes "From: ") (c.args.preface.sender.0.now ∷ c.args.preface.sender.1.now ∷ c.args.preface.sender.2.now ∷ []) refl
    (block-line (codes "To: <") (c.bytes.result.now ∷ codes ">" ∷ []) refl
    (block-line (codes "Subject: ") (c.args.preface.subject.now ∷ []) refl
    (block-line (codes "Date: ") (c.date.result ∷ []) refl
    (block-line (codes "Message-ID: <") (c.args.front.now ∷ c.bytes-2.result.now ∷ codes "@" ∷ c.host.result.now ∷ codes ">" ∷ []) refl
    (block-line (codes "Auto-Submitted: auto-replied") [] refl
    (block-line (codes "MIME-Version: 1.0") [] refl
    (block-line (codes "Content-Type: multipart/report; report-type=delivery-status;") [] refl
    (block-line (codes " boundary=\"") (c.args.boundary.now ∷ codes "\"" ∷ []) refl block-none))))))))) in
    Wrote-as (rw (sender, host, path, preface.subject_is, date, front, serial) refl) (Wrote-then fields encoding)
