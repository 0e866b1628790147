-- If nothing was behind, requests are first taken together.
use Rattle.std.proofs.Common.{◌≡◌, [], length, ap, sym, ◌∙◌, subst}
use Rattle.std.proofs.lemmas.Bool.{eqb-true}
use Rattle.std.proofs.lemmas.List.{nil_from_length}
use Rattle.dsn_crew.specs.KeeperHistory.{BeginsWith}
use Rattle.dsn_crew.specs.desk.Desk.{Desk, IsRequestTaken}
use Rattle.dsn_crew.specs.inner.Desk.{with_kept}
use Rattle.dsn_crew.proofs.desk.TakeLemmas.{taken_after}
use Rattle.dsn_crew.proofs.desk.desk.Desk.take_one.Goals.{then-is_empty+in-Ok, else-is_empty}
use Rattle.dsn_crew.proofs.desk.desk.Desk.take_one.Goals as goal

pub returns-clause-taken : goal.returns-clause-taken
returns-clause-taken g c =
    elim c.if-is_empty.branch [
      | then-is_empty+in-Ok w ↦
          λ before begins.
          let none : c.args.self.now.behind ≡ [] = ap (λ (desk : Desk _). desk.behind) (sym c.self.view_is) ∙ nil_from_length c.self.inside.intake.behind (eqb-true (length c.self.inside.intake.behind) 0 (sym c.is_empty.ensures ∙ w.if-is_empty.true)) in
          let is : c.if-is_empty.self ≡ with_kept c.args.self.now w.keep_more.new.self.behind w.keep_more.new.self.book = w.self-is ∙ w.in-Ok.ensures.more.1 in
          taken_after g.B.Keeper before c.args.self.now _ _ _ _ none c.answer_next.ensures.lost
          (subst (λ (desk : Desk _). IsRequestTaken g.B.Keeper before desk c.answer_next.new.self c.answer_next.result) is (c.answer_next.ensures.taken before (subst (λ (desk : Desk _). BeginsWith g.B.Keeper desk.start before) (sym is) begins)))
      | else-is_empty w ↦
          λ before begins.
          subst (λ (desk : Desk _). IsRequestTaken g.B.Keeper before desk c.answer_next.new.self c.answer_next.result) w.self-is
          (c.answer_next.ensures.taken before (subst (λ (desk : Desk _). BeginsWith g.B.Keeper desk.start before) (sym w.self-is) begins))
    ]
