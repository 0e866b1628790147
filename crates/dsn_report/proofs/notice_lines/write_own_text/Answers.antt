use Rattle.std.proofs.Common.{◌≡◌, [], ◌∷◌, codes, refl}
use Rattle.dsn_report.proofs.BlockLemmas.{block-empty, block-line, block-none}
use Rattle.dsn_report.proofs.LineWriterLemmas.{Wrote-as, Wrote-then}
use Rattle.dsn_report.proofs.notice_lines.write_own_text.Goals as goal

pub write_guidance-requires : goal.write_guidance-requires
write_guidance-requires g c = c.requires.consequence

pub returns : goal.returns
returns g c =
    let host : c.host.result.now ≡ c.args.site.now.host = c.host.ensures.same in
    let text = c.block.ensures _
    (block-line (codes "This is the mail system at host ") (c.host.result.now ∷ codes "." ∷ []) refl
    (block-empty
    (block-line c.args.opening.now [] c.requires.opening block-none))) in
    Wrote-as (rw host refl) (Wrote-then text c.write_guidance.ensures)
