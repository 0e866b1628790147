use Rattle.std.proofs.Common.{refl, append_assoc, ◌∙◌, [], ◌∷◌}
use Rattle.dsn_device.proofs.UntilFailureLemmas.{writes-none, writes-then}
use Rattle.dsn_device.proofs.FlatMapLemmas.{flat_map-more}
use Rattle.dsn_notes.specs.Notes.{unsent_lines}
use Rattle.dsn_notes.proofs.last_lines.write_unsent.Goals as goal

pub loop-letter-init : goal.loop-letter-init
unfolding unsent_lines
loop-letter-init g c = (rw c.new-kept.ensures refl, rw c.new-kept.ensures (writes-none _ _))

pub loop-letter-preserved : goal.loop-letter-preserved
unfolding unsent_lines
loop-letter-preserved g c =
    let order = rw c.in-Some.ensures.first at c.loop-letter.invariant.0 in (
      rw c.push.ensures (append_assoc c.loop-letter.kept (c.in-Some.letter ∷ []) c.pop.new.self ∙ order),
      rw (c.push.ensures, flat_map-more, ← c.unsent_line.ensures, ← c.bytes.ensures.same)
          (writes-then c.loop-letter.invariant.1 c.write.ensures),
    )
