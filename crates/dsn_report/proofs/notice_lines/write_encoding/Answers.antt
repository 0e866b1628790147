use Rattle.std.proofs.Common.{◌≡◌, [], true, false, codes, ap, sym, refl, rules, tests}
use Rattle.dsn_report.proofs.BlockLemmas.{block-line, block-none}
use Rattle.dsn_report.proofs.LineWriterLemmas.{Wrote-as, Wrote-none}
use Rattle.dsn_report.specs.Notice.{encoding_lines}
use Rattle.dsn_report.proofs.notice_lines.write_encoding.Goals as goal

pub returns-then-eight_bit : goal.returns-then-eight_bit
returns-then-eight_bit g c =
    let yes : c.args.eight_bit ≡ true = search (rules, tests) in
    Wrote-as (sym (ap encoding_lines yes)) (c.block.ensures _ (block-line (codes "Content-Transfer-Encoding: 8bit") [] refl block-none))

pub returns-else-eight_bit : goal.returns-else-eight_bit
returns-else-eight_bit g c =
    let no : c.args.eight_bit ≡ false = search (rules, tests) in
    Wrote-as (sym (ap encoding_lines no)) (Wrote-none c.args.lines.now)
