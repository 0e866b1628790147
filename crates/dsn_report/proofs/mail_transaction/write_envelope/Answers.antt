use Rattle.std.proofs.Common.{◌≡◌, ◌∙◌, [], ◌∷◌, codes, refl, sym, ap}
use Rattle.std.specs.Prelude.{unwrap_or}
use Rattle.dsn_report.proofs.BlockLemmas.{block-line, block-none}
use Rattle.dsn_report.proofs.LineWriterLemmas.{Wrote-as}
use Rattle.dsn_report.specs.Notice.{return_path_of}
use Rattle.dsn_report.proofs.mail_transaction.write_envelope.Goals as goal

pub returns : goal.returns
returns g c =
    let path : c.bytes.result.now ≡ return_path_of c.args.letter.now =
    c.bytes.ensures.same ∙ sym (ap (λ path. unwrap_or path []) c.return_path.ensures) in
    Wrote-as (rw path refl)
    (c.block.ensures _
    (block-line (codes "MAIL FROM:<>") (c.args.parameter.now ∷ []) refl
    (block-line (codes "RCPT TO:<") (c.bytes.result.now ∷ codes ">" ∷ []) refl
    (block-line (codes "DATA") [] refl block-none))))
