use Rattle.std.proofs.Common.{◌≡◌, [], ◌∷◌, codes, refl}
use Rattle.dsn_report.proofs.BlockLemmas.{block-line, block-none}
use Rattle.dsn_report.proofs.LineWriterLemmas.{Wrote-as, Wrote-none}
use Rattle.dsn_report.specs.Notice.{guidance}
use Rattle.dsn_report.proofs.notice_lines.write_guidance.Goals as goal

pub returns-in-ByService : goal.returns-in-ByService
unfolding guidance
returns-in-ByService g c = Wrote-as (rw c.in-ByService.is refl) (Wrote-none c.args.lines.now)

pub returns-in-ByOutcome : goal.returns-in-ByOutcome
unfolding guidance
returns-in-ByOutcome g c =
    let host : c.host.result.now ≡ c.args.site.now.host = c.host.ensures.same in
    Wrote-as (rw (c.in-ByOutcome.is, host) refl)
    (c.block.ensures _
    (block-line c.args.consequence.now [] c.requires
    (block-line (codes "For help, write to <postmaster@") (c.host.result.now ∷ codes "> and include this notice." ∷ []) refl block-none)))
