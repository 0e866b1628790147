-- The pieces so far are written.
use Rattle.std.proofs.Common.{take}
use Rattle.std.specs.List.{flat_map}
use Rattle.dsn_report.specs.inner.LineWriter.{Took}
use Rattle.dsn_report.proofs.line_writer.LineWriter.block.Given as goal

abbrev pub invariant-loop-piece : goal.invariant-loop-piece
invariant-loop-piece g l = Took g.W.Drain l.initial.self l.self (flat_map (λ piece. piece.now) (take l.piece-index l.pieces))
