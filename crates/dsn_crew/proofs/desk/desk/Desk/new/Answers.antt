-- A collector that has taken nothing models whatever its book models.
use Rattle.std.proofs.Common.{sym, ap, subst}
use Rattle.std.specs.Prelude.{None}
use Rattle.dsn_crew.proofs.OpenLemmas.{new_desk}
use Rattle.dsn_crew.specs.desk.Desk.{IsDesk}
use Rattle.dsn_crew.specs.inner.Desk.{desk_seen}
use Rattle.dsn_crew.specs.desk.Intake.{goodbyes}
use Rattle.dsn_crew.proofs.desk.desk.Desk.new.Goals as goal

pub invariant_of-result : goal.invariant_of-result
invariant_of-result g c = (
  subst (λ start. IsDesk g.B.Keeper (desk_seen start c.args.book None c.args.intake c.args.lines.items 0)) (sym c.of.ensures)
      (new_desk g.B.Keeper _ c.args.intake _ g.met.B.Keeper.leaves_kept c.requires.begins c.requires.few c.requires.requests.0 c.requires.requests.1 c.requires.requests.2 c.requires.requests.3 c.requires.lines.0 c.requires.lines.1),
  ap goodbyes (sym c.requires.requests.2),
  c.requires.room,
  tt,
)

pub returns-clause-kept : goal.returns-clause-kept
returns-clause-kept g c =
    subst (λ start. IsDesk g.B.Keeper (desk_seen start c.args.book None c.args.intake c.args.lines.items 0)) (sym c.of.ensures)
    (new_desk g.B.Keeper _ c.args.intake _ g.met.B.Keeper.leaves_kept c.requires.begins c.requires.few c.requires.requests.0 c.requires.requests.1 c.requires.requests.2 c.requires.requests.3 c.requires.lines.0 c.requires.lines.1)
