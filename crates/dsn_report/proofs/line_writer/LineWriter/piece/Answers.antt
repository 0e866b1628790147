use Rattle.std.proofs.Common.{◌≡◌, ℕ, List, rules, subst}
use Rattle.dsn_report.specs.inner.LineWriter.{Took}
use Rattle.dsn_report.proofs.line_writer.LineWriter.piece.Goals as goal

pub returns-then-not-push : goal.returns-then-not-push
returns-then-not-push g c =
    let same : c.push.new.self ≡ c.args.self.now.pending = search rules in
    let from = λ (pending : List ℕ). Took g.W.Drain (record { writer = c.args.self.now.writer; dots = c.args.self.now.dots; pending = pending }) c.write_through.new.self c.args.text.now in
    subst from same c.write_through.ensures
