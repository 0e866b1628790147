use Rattle.std.proofs.Common.{◌≡◌, ℕ, List, drop, length, take, sym, ap, ◌∙◌, length-take-le, arith}
use Rattle.std.specs.Prelude.{slice_range}
use Rattle.dsn_smtp.proofs.ReadAheadLemmas.{given}
use Rattle.dsn_smtp.proofs.read_ahead.ReadAhead.give.Goals as goal

pub returns-clause-bytes : goal.returns-clause-bytes
returns-clause-bytes g c =
    let part : List ℕ = slice_range c.self.inside.bytes c.self.inside.start c.self.inside.end in
    let count = c.min-count.result in
    let new : c.copy_from_slice.new.self ≡ take count part = c.copy_from_slice.ensures.after in
    let long : length c.copy_from_slice.new.self ≡ count = ap length new ∙ length-take-le count part (omega arith) in
    ap (λ a. a.ahead) (sym c.self.view_is)
    ∙ given c.self.inside.bytes (drop count c.args.buffer.now) c.copy_from_slice.new.self c.self.inside.start c.self.inside.end count new long
