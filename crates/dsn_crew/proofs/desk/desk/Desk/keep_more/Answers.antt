-- What was taken together is behind, kept or refused.
use Rattle.std.proofs.Common.{rules, ◌≡◌, ℕ, ◌+◌, ◌<◌, [], ◌++◌, false, true, length, take, refl, ap, sym, ◌∙◌, subst, true≢false}
use Rattle.std.specs.Prelude.{None, Some, is_some}
use Rattle.dsn_crew.specs.lane.Halves.{Out}
use Rattle.dsn_crew.proofs.desk.DeskLemmas.{none_stopped, seen_going}
use Rattle.dsn_crew.proofs.desk.TakeLemmas.{has_idle, kept_tied, left_of, refused_tied, taken_desk, unmoved_tied}
use Rattle.dsn_crew.specs.desk.Desk.{AreLeft, Desk, IsDesk}
use Rattle.dsn_crew.specs.inner.Desk.{desk_seen}
use Rattle.dsn_crew.specs.inner.Desk.{Intake}
use Rattle.dsn_crew.specs.desk.Intake.{goodbyes}
use Rattle.dsn_crew.specs.declared.breach.Breach.TheVariants.{Unkept}
use Rattle.dsn_crew.proofs.desk.desk.Desk.keep_more.Goals as goal

pub invariant_of-self : goal.invariant_of-self
invariant_of-self g c =
    let going : is_some c.self.inside.stop ≡ false = ap (λ (desk : Desk _). desk.failed) c.self.view_is ∙ c.requires.going in
    let kept : IsDesk g.B.Keeper (desk_seen c.self.inside.start.value c.self.inside.book None c.self.inside.intake c.self.inside.lines.items c.self.inside.missed) = subst (IsDesk g.B.Keeper) (seen_going _ _ _ _ _ _ going) c.self.invariant.0 in
    let idle : c.self.inside.intake.behind ≡ [] = ap (λ (desk : Desk _). desk.behind) c.self.view_is ∙ c.requires.idle in
    let in_time : (n : ℕ) → n < length c.fill.new.self.behind → AreLeft (desk_seen c.self.inside.start.value c.self.inside.book None c.self.inside.intake c.self.inside.lines.items c.self.inside.missed) (c.self.inside.intake.requests.taken ++ take n c.fill.new.self.behind) =
    λ n few. left_of (desk_seen c.self.inside.start.value c.self.inside.book None c.self.inside.intake c.self.inside.lines.items c.self.inside.missed) c.self.inside.gone (c.from.result + c.from-2.result) c.len.result (take n c.fill.new.self.behind) c.self.invariant.1 (search rules) (search rules) (c.fill.ensures.in_time n few) in
    let counted = c.self.invariant.1 ∙ ap (λ (o : Out _). goodbyes o.taken) (sym c.fill.ensures.handed_on) in
    (taken_desk g.B.Keeper _ kept refl idle c.self.inside.book c.fill.new.self.requests c.fill.new.self.behind true None c.fill.ensures.handed_on c.fill.ensures.together c.fill.ensures.agents c.fill.ensures.numbered in_time (unmoved_tied g.B.Keeper c.self.inside.book c.self.inside.book c.fill.new.self.behind g.met.B.Keeper.leaves_kept (search rules)) refl refl (λ _. refl), counted, c.self.invariant.2, refl)

pub returns-in-Err-clause-kept : goal.returns-in-Err-clause-kept
returns-in-Err-clause-kept g c =
    let going : is_some c.self.inside.stop ≡ false = ap (λ (desk : Desk _). desk.failed) c.self.view_is ∙ c.requires.going in
    let kept : IsDesk g.B.Keeper (desk_seen c.self.inside.start.value c.self.inside.book None c.self.inside.intake c.self.inside.lines.items c.self.inside.missed) = subst (IsDesk g.B.Keeper) (seen_going _ _ _ _ _ _ going) c.self.invariant.0 in
    let idle : c.self.inside.intake.behind ≡ [] = ap (λ (desk : Desk _). desk.behind) c.self.view_is ∙ c.requires.idle in
    let in_time : (n : ℕ) → n < length c.fill.new.self.behind → AreLeft (desk_seen c.self.inside.start.value c.self.inside.book None c.self.inside.intake c.self.inside.lines.items c.self.inside.missed) (c.self.inside.intake.requests.taken ++ take n c.fill.new.self.behind) =
    λ n few. left_of (desk_seen c.self.inside.start.value c.self.inside.book None c.self.inside.intake c.self.inside.lines.items c.self.inside.missed) c.self.inside.gone (c.from.result + c.from-2.result) c.len.result (take n c.fill.new.self.behind) c.self.invariant.1 (search rules) (search rules) (c.fill.ensures.in_time n few) in
    taken_desk g.B.Keeper _ kept refl idle c.self.inside.book c.fill.new.self.requests c.fill.new.self.behind true None c.fill.ensures.handed_on c.fill.ensures.together c.fill.ensures.agents c.fill.ensures.numbered in_time (unmoved_tied g.B.Keeper c.self.inside.book c.self.inside.book c.fill.new.self.behind g.met.B.Keeper.leaves_kept (search rules)) refl refl (λ _. refl)

pub keep_by-requires : goal.keep_by-requires
keep_by-requires g c =
    let going : is_some c.self.inside.stop ≡ false = ap (λ (desk : Desk _). desk.failed) c.self.view_is ∙ c.requires.going in
    let kept : IsDesk g.B.Keeper (desk_seen c.self.inside.start.value c.self.inside.book None c.self.inside.intake c.self.inside.lines.items c.self.inside.missed) = subst (IsDesk g.B.Keeper) (seen_going _ _ _ _ _ _ going) c.self.invariant.0 in
    let idle : c.self.inside.intake.behind ≡ [] = ap (λ (desk : Desk _). desk.behind) c.self.view_is ∙ c.requires.idle in
    record { has = has_idle g.B.Keeper _ kept refl idle }

pub invariant_of-self-in-Err-keep_by : goal.invariant_of-self-in-Err-keep_by
invariant_of-self-in-Err-keep_by g c =
    let going : is_some c.self.inside.stop ≡ false = ap (λ (desk : Desk _). desk.failed) c.self.view_is ∙ c.requires.going in
    let kept : IsDesk g.B.Keeper (desk_seen c.self.inside.start.value c.self.inside.book None c.self.inside.intake c.self.inside.lines.items c.self.inside.missed) = subst (IsDesk g.B.Keeper) (seen_going _ _ _ _ _ _ going) c.self.invariant.0 in
    let idle : c.self.inside.intake.behind ≡ [] = ap (λ (desk : Desk _). desk.behind) c.self.view_is ∙ c.requires.idle in
    let in_time : (n : ℕ) → n < length c.fill.new.self.behind → AreLeft (desk_seen c.self.inside.start.value c.self.inside.book None c.self.inside.intake c.self.inside.lines.items c.self.inside.missed) (c.self.inside.intake.requests.taken ++ take n c.fill.new.self.behind) =
    λ n few. left_of (desk_seen c.self.inside.start.value c.self.inside.book None c.self.inside.intake c.self.inside.lines.items c.self.inside.missed) c.self.inside.gone (c.from.result + c.from-2.result) c.len.result (take n c.fill.new.self.behind) c.self.invariant.1 (search rules) (search rules) (c.fill.ensures.in_time n few) in
    let counted = c.self.invariant.1 ∙ ap (λ (o : Out _). goodbyes o.taken) (sym c.fill.ensures.handed_on) in (
      subst (λ (intake : Intake). IsDesk g.B.Keeper (desk_seen c.self.inside.start.value c.keep_by.new.keeper (Some (Unkept c.in-Err-keep_by.why)) intake c.self.inside.lines.items c.self.inside.missed)) (sym c.keep_by.ensures.same)
          (taken_desk g.B.Keeper _ kept refl idle c.keep_by.new.keeper c.fill.new.self.requests c.fill.new.self.behind true (Some c.in-Err-keep_by.why) c.fill.ensures.handed_on c.fill.ensures.together c.fill.ensures.agents c.fill.ensures.numbered in_time (refused_tied g.B.Keeper c.self.inside.book c.keep_by.new.keeper c.fill.new.self.behind c.in-Err-keep_by.why (search rules) (search rules) c.keep_by.ensures.any_moment) c.keep_by.ensures.rules c.keep_by.ensures.sealed (λ never. absurd (true≢false never))),
      counted ∙ ap (λ (intake : Intake). goodbyes intake.requests.taken) (sym c.keep_by.ensures.same),
      c.self.invariant.2,
      record { unkept = refl; was = c.self.inside.book; refuses = search rules; some = search rules },
    )

pub returns-in-Err-keep_by-clause-kept : goal.returns-in-Err-keep_by-clause-kept
returns-in-Err-keep_by-clause-kept g c =
    let going : is_some c.self.inside.stop ≡ false = ap (λ (desk : Desk _). desk.failed) c.self.view_is ∙ c.requires.going in
    let kept : IsDesk g.B.Keeper (desk_seen c.self.inside.start.value c.self.inside.book None c.self.inside.intake c.self.inside.lines.items c.self.inside.missed) = subst (IsDesk g.B.Keeper) (seen_going _ _ _ _ _ _ going) c.self.invariant.0 in
    let idle : c.self.inside.intake.behind ≡ [] = ap (λ (desk : Desk _). desk.behind) c.self.view_is ∙ c.requires.idle in
    let in_time : (n : ℕ) → n < length c.fill.new.self.behind → AreLeft (desk_seen c.self.inside.start.value c.self.inside.book None c.self.inside.intake c.self.inside.lines.items c.self.inside.missed) (c.self.inside.intake.requests.taken ++ take n c.fill.new.self.behind) =
    λ n few. left_of (desk_seen c.self.inside.start.value c.self.inside.book None c.self.inside.intake c.self.inside.lines.items c.self.inside.missed) c.self.inside.gone (c.from.result + c.from-2.result) c.len.result (take n c.fill.new.self.behind) c.self.invariant.1 (search rules) (search rules) (c.fill.ensures.in_time n few) in
    subst (λ (intake : Intake). IsDesk g.B.Keeper (desk_seen c.self.inside.start.value c.keep_by.new.keeper (Some (Unkept c.in-Err-keep_by.why)) intake c.self.inside.lines.items c.self.inside.missed)) (sym c.keep_by.ensures.same)
    (taken_desk g.B.Keeper _ kept refl idle c.keep_by.new.keeper c.fill.new.self.requests c.fill.new.self.behind true (Some c.in-Err-keep_by.why) c.fill.ensures.handed_on c.fill.ensures.together c.fill.ensures.agents c.fill.ensures.numbered in_time (refused_tied g.B.Keeper c.self.inside.book c.keep_by.new.keeper c.fill.new.self.behind c.in-Err-keep_by.why (search rules) (search rules) c.keep_by.ensures.any_moment) c.keep_by.ensures.rules c.keep_by.ensures.sealed (λ never. absurd (true≢false never)))

pub invariant_of-self-in_default-keep_by : goal.invariant_of-self-in_default-keep_by
invariant_of-self-in_default-keep_by g c =
    let going : is_some c.self.inside.stop ≡ false = ap (λ (desk : Desk _). desk.failed) c.self.view_is ∙ c.requires.going in
    let kept : IsDesk g.B.Keeper (desk_seen c.self.inside.start.value c.self.inside.book None c.self.inside.intake c.self.inside.lines.items c.self.inside.missed) = subst (IsDesk g.B.Keeper) (seen_going _ _ _ _ _ _ going) c.self.invariant.0 in
    let idle : c.self.inside.intake.behind ≡ [] = ap (λ (desk : Desk _). desk.behind) c.self.view_is ∙ c.requires.idle in
    let in_time : (n : ℕ) → n < length c.fill.new.self.behind → AreLeft (desk_seen c.self.inside.start.value c.self.inside.book None c.self.inside.intake c.self.inside.lines.items c.self.inside.missed) (c.self.inside.intake.requests.taken ++ take n c.fill.new.self.behind) =
    λ n few. left_of (desk_seen c.self.inside.start.value c.self.inside.book None c.self.inside.intake c.self.inside.lines.items c.self.inside.missed) c.self.inside.gone (c.from.result + c.from-2.result) c.len.result (take n c.fill.new.self.behind) c.self.invariant.1 (search rules) (search rules) (c.fill.ensures.in_time n few) in
    let counted = c.self.invariant.1 ∙ ap (λ (o : Out _). goodbyes o.taken) (sym c.fill.ensures.handed_on) in (
      subst (λ (intake : Intake). IsDesk g.B.Keeper (desk_seen c.self.inside.start.value c.keep_by.new.keeper c.self.inside.stop intake c.self.inside.lines.items c.self.inside.missed)) (sym c.keep_by.ensures.same)
          (subst (IsDesk g.B.Keeper) (sym (seen_going _ _ _ _ _ _ going)) (taken_desk g.B.Keeper _ kept refl idle c.keep_by.new.keeper c.fill.new.self.requests c.fill.new.self.behind false None c.fill.ensures.handed_on c.fill.ensures.together c.fill.ensures.agents c.fill.ensures.numbered in_time (kept_tied g.B.Keeper c.self.inside.book c.keep_by.new.keeper c.fill.new.self.behind (search rules) c.keep_by.ensures.any_moment) c.keep_by.ensures.rules c.keep_by.ensures.sealed (λ _. refl))),
      counted ∙ ap (λ (intake : Intake). goodbyes intake.requests.taken) (sym c.keep_by.ensures.same),
      c.self.invariant.2,
      none_stopped _ c.self.inside.stop going,
    )

pub returns-clause-kept : goal.returns-clause-kept
returns-clause-kept g c =
    let going : is_some c.self.inside.stop ≡ false = ap (λ (desk : Desk _). desk.failed) c.self.view_is ∙ c.requires.going in
    let kept : IsDesk g.B.Keeper (desk_seen c.self.inside.start.value c.self.inside.book None c.self.inside.intake c.self.inside.lines.items c.self.inside.missed) = subst (IsDesk g.B.Keeper) (seen_going _ _ _ _ _ _ going) c.self.invariant.0 in
    let idle : c.self.inside.intake.behind ≡ [] = ap (λ (desk : Desk _). desk.behind) c.self.view_is ∙ c.requires.idle in
    let in_time : (n : ℕ) → n < length c.fill.new.self.behind → AreLeft (desk_seen c.self.inside.start.value c.self.inside.book None c.self.inside.intake c.self.inside.lines.items c.self.inside.missed) (c.self.inside.intake.requests.taken ++ take n c.fill.new.self.behind) =
    λ n few. left_of (desk_seen c.self.inside.start.value c.self.inside.book None c.self.inside.intake c.self.inside.lines.items c.self.inside.missed) c.self.inside.gone (c.from.result + c.from-2.result) c.len.result (take n c.fill.new.self.behind) c.self.invariant.1 (search rules) (search rules) (c.fill.ensures.in_time n few) in
    subst (λ (intake : Intake). IsDesk g.B.Keeper (desk_seen c.self.inside.start.value c.keep_by.new.keeper c.self.inside.stop intake c.self.inside.lines.items c.self.inside.missed)) (sym c.keep_by.ensures.same)
    (subst (IsDesk g.B.Keeper) (sym (seen_going _ _ _ _ _ _ going)) (taken_desk g.B.Keeper _ kept refl idle c.keep_by.new.keeper c.fill.new.self.requests c.fill.new.self.behind false None c.fill.ensures.handed_on c.fill.ensures.together c.fill.ensures.agents c.fill.ensures.numbered in_time (kept_tied g.B.Keeper c.self.inside.book c.keep_by.new.keeper c.fill.new.self.behind (search rules) c.keep_by.ensures.any_moment) c.keep_by.ensures.rules c.keep_by.ensures.sealed (λ _. refl)))
