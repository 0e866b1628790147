use Rattle.std.proofs.Common.{◌≡◌, [], ◌∷◌, ◌∙◌, true, false, rules, sym, ap, length, append_assoc}
use Rattle.std.specs.Prelude.{◌==◌}
use Rattle.dsn_report.proofs.BlockLemmas.{block-empty, block-none}
use Rattle.dsn_report.proofs.HeaderLemmas.{returned_part-none, returned_part-some}
use Rattle.dsn_report.proofs.LineWriterLemmas.{Wrote-as, Wrote-then}
use Rattle.dsn_report.specs.Notice.{part_header, part_of, returned_description, returned_type}
use Rattle.dsn_report.specs.inner.NoticeLines.{words_in}
use Rattle.dsn_report.specs.inner.NoticeLines.{lines_shown}
use Rattle.dsn_report.proofs.notice_lines.write_returned_part.Goals as goal

pub returns-then-is_empty : goal.returns-then-is_empty
returns-then-is_empty g c =
    let returned = lines_shown c.args.returned.whole c.args.returned.bytes.now in
    let empty : (length returned == 0) ≡ true = search rules in
    Wrote-as (sym (ap (λ part. [] ∷ part) (returned_part-none c.args.boundary.now _ _ c.args.returned.eight_bit returned empty)))
    (c.block.ensures _ (block-empty block-none))

pub returns : goal.returns
unfolding part_of
returns g c =
    let returned = lines_shown c.args.returned.whole c.args.returned.bytes.now in
    let some : (length returned == 0) ≡ false = search rules in
    let description : c.description-description.result.now ≡ returned_description (words_in c.args.words) c.args.returned.whole = search rules in
    let content_type : c.returned_type-content_type.result.now ≡ returned_type c.args.returned.whole = search rules in
    let ended = c.block-2.ensures _ (block-empty block-none) in
    Wrote-as
    (rw (description, content_type)
    (sym (ap (λ part. [] ∷ part) (returned_part-some c.args.boundary.now _ _ c.args.returned.eight_bit returned some
    ∙ append_assoc (part_header c.args.boundary.now (returned_description (words_in c.args.words) c.args.returned.whole) (returned_type c.args.returned.whole) c.args.returned.eight_bit)
    returned ([] ∷ [])))))
    (Wrote-then c.write_part_header.ensures (Wrote-then c.write_returned_lines.ensures ended))
