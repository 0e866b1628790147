use Rattle.std.proofs.Common.{ℕ, List, Bor, arith, ap, ◌∙◌, take_all}
use Rattle.std.specs.List.{flat_map}
use Rattle.dsn_device.proofs.FlatMapLemmas.{flat_map-take-more}
use Rattle.dsn_report.proofs.LineWriterLemmas.{Took-as, Took-then, block_text}
use Rattle.dsn_report.proofs.line_writer.LineWriter.block.Goals as goal

pub loop-piece-preserved : goal.loop-piece-preserved
loop-piece-preserved g c =
    Took-as (flat_map-take-more (λ piece. piece.now) c.args.pieces.now c.loop-piece.piece-index _ c.loop-piece-test.true)
    (Took-then c.loop-piece.invariant c.piece.ensures)

pub returns : goal.returns
returns g c = λ lines block.
    let whole = take_all c.loop-piece.piece-index c.args.pieces.now (omega arith) in
    record {
      took = Took-as (ap (λ (pieces : List (Bor (List ℕ))). flat_map (λ piece. piece.now) pieces) whole ∙ block_text c.args.self.now.dots lines _ block) c.loop-piece.invariant;
    }
