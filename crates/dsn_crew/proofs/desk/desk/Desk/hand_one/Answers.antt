-- One request is a run of one.
use Rattle.std.proofs.Common.{rules, ◌≡◌, false, refl, ap, ◌∙◌, subst, sym, true}
use Rattle.std.specs.Prelude.{Ok, None, Option, is_some}
use Rattle.dsn_outcome.specs.Letter.{Letter}
use Rattle.dsn_crew.proofs.desk.RunLemmas.{took_fault, took_handed, took_lost, took_none}
use Rattle.dsn_crew.proofs.desk.TakeLemmas.{failed_desk}
use Rattle.dsn_crew.proofs.desk.DeskLemmas.{seen_going}
use Rattle.dsn_crew.specs.KeeperHistory.{BeginsWith}
use Rattle.dsn_crew.specs.desk.Desk.{Desk, IsDesk, IsRequestTaken, with_failed}
use Rattle.dsn_crew.specs.inner.Desk.{desk_seen}
use Rattle.dsn_crew.proofs.desk.desk.Desk.hand_one.Goals as goal

pub returns-in-Err-clause-run : goal.returns-in-Err-clause-run
returns-in-Err-clause-run g c =
    λ before begins. took_fault g.B.Keeper before g.K.Sink.takes _ _ _ c.in-Err.fault (c.requires.kept.stands before begins) c.requires.some_left (c.in-Err.ensures.taken before begins) c.in-Err.ensures.start c.in-Err.ensures.places

pub returns-in-None-clause-run : goal.returns-in-None-clause-run
returns-in-None-clause-run g c =
    λ before begins. took_none g.B.Keeper before g.K.Sink.takes _ _ _ c.requires.some_left (subst (λ (letter : Option Letter). IsRequestTaken g.B.Keeper before c.args.self.now c.take_one.new.self (Ok letter)) c.in-None.is (c.in-Ok.ensures.taken before begins)) c.in-Ok.ensures.start c.in-Ok.ensures.places

pub returns-in-Ok-offer-clause-run : goal.returns-in-Ok-offer-clause-run
returns-in-Ok-offer-clause-run g c =
    λ before begins. took_handed g.B.Keeper before g.K.Sink.takes _ _ _ _ c.in-Some.letter c.requires.some_left (subst (λ (letter : Option Letter). IsRequestTaken g.B.Keeper before c.args.self.now c.take_one.new.self (Ok letter)) c.in-Some.is (c.in-Ok.ensures.taken before begins)) c.in-Ok.ensures.start c.in-Ok.ensures.places c.in-Ok-offer.ensures.ok

pub returns-in-Err-offer-clause-run : goal.returns-in-Err-offer-clause-run
returns-in-Err-offer-clause-run g c =
    let start = c.in-Ok.ensures.start in
    let going : is_some c.self.inside.stop ≡ false = ap (λ (desk : Desk _). desk.failed) c.self.view_is ∙ c.in-Ok.ensures.failed in
    λ before begins. took_lost g.B.Keeper before g.K.Sink.takes _ _ _ _ _ c.in-Some.letter _
    (c.in-Ok.ensures.kept.stands before (subst (λ s. BeginsWith g.B.Keeper s before) (sym start) begins)) c.requires.some_left (subst (λ (letter : Option Letter). IsRequestTaken g.B.Keeper before c.args.self.now c.take_one.new.self (Ok letter)) c.in-Some.is (c.in-Ok.ensures.taken before begins)) start c.in-Ok.ensures.places
    (ap (λ desk. with_failed desk true) (sym (seen_going _ _ _ _ _ _ going) ∙ c.self.view_is)) (search rules) (search rules)

pub invariant_of-self : goal.invariant_of-self
invariant_of-self g c =
    let going : is_some c.self.inside.stop ≡ false = ap (λ (desk : Desk _). desk.failed) c.self.view_is ∙ c.in-Ok.ensures.failed in
    let kept : IsDesk g.B.Keeper (desk_seen c.self.inside.start.value c.self.inside.book None c.self.inside.intake c.self.inside.lines.items c.self.inside.missed) = subst (IsDesk g.B.Keeper) (seen_going _ _ _ _ _ _ going) c.self.invariant.0 in
    (failed_desk g.B.Keeper _ kept, c.self.invariant.1, c.self.invariant.2, refl)

pub returns-in-Err-offer-clause-kept : goal.returns-in-Err-offer-clause-kept
returns-in-Err-offer-clause-kept g c =
    let going : is_some c.self.inside.stop ≡ false = ap (λ (desk : Desk _). desk.failed) c.self.view_is ∙ c.in-Ok.ensures.failed in
    let kept : IsDesk g.B.Keeper (desk_seen c.self.inside.start.value c.self.inside.book None c.self.inside.intake c.self.inside.lines.items c.self.inside.missed) = subst (IsDesk g.B.Keeper) (seen_going _ _ _ _ _ _ going) c.self.invariant.0 in
    failed_desk g.B.Keeper _ kept
