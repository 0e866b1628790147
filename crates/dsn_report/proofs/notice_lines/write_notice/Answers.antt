use Rattle.std.proofs.Common.{◌≡◌, ◌∙◌, [], ◌∷◌, codes, rules, refl, ap, length, arith, length-append}
use Rattle.dsn_report.proofs.BlockLemmas.{block-line, block-none, boundary-front, parts-after}
use Rattle.dsn_report.proofs.LineWriterLemmas.{Wrote-as, Wrote-then}
use Rattle.dsn_report.specs.Boundary.{boundary_front, boundary_of, boundary_text, four_digits}
use Rattle.dsn_report.specs.Notice.{lines_with_boundary, notice_lines, part_of, preface_of}
use Rattle.dsn_report.proofs.notice_lines.write_notice.Goals as goal

pub slice_bounds-front-count : goal.slice_bounds-front-count
unfolding boundary_text
slice_bounds-front-count g c =
    let boundary : c.bytes-boundary.result.now ≡ boundary_text c.args.letter.now c.boundary_beside.result = search rules in
    omega (arith, ap length boundary, length-append (boundary_front c.args.letter.now) (four_digits c.boundary_beside.result))

pub write_header-requires : goal.write_header-requires
unfolding boundary_text preface_of
write_header-requires g c =
    let boundary : c.bytes-boundary.result.now ≡ boundary_text c.args.letter.now c.boundary_beside.result = search rules in record {
      eight_bit = c.is_eight_bit-eight_bit.ensures ∙ rw (c.requires.preface.eight_bit_is, c.requires.eight_bit) refl;
      preface = c.requires.preface;
      front = rw boundary (boundary-front (boundary_front c.args.letter.now) (four_digits c.boundary_beside.result) refl);
    }

pub returns : goal.returns
unfolding notice_lines lines_with_boundary part_of
returns g c =
    let boundary : c.bytes-boundary.result.now ≡ boundary_of c.args.letter.now = search rules in
    let ended = c.block.ensures _ (block-line (codes "--") (c.bytes-boundary.result.now ∷ codes "--" ∷ []) refl block-none) in
    Wrote-as (rw (boundary, c.requires.preface.words_are, c.requires.returned, c.requires.whole, c.requires.eight_bit) (parts-after _ _ _ _ _))
    (Wrote-then c.write_header.ensures (Wrote-then c.write_notification.ensures
    (Wrote-then c.write_delivery_status.ensures (Wrote-then c.write_returned_part.ensures ended))))
