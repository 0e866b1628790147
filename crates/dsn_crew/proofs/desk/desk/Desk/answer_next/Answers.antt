-- An answer that is sent is the one that the history defines, and the collector models one request more.
use Rattle.std.proofs.Common.{rules, ◌≡◌, Bool, false, true, inl, length, refl, ap, sym, ◌∙◌, subst, true≢false, arith}
use Rattle.std.specs.Prelude.{None, is_ok, is_some}
use Rattle.dsn_crew.specs.lane.Halves.{Half, Out}
use Rattle.dsn_outcome.specs.declared.answer.Answer.{Answer}
use Rattle.dsn_outcome.specs.History.{letter_of}
use Rattle.dsn_crew.proofs.desk.DeskLemmas.{IsAsked, first_half, keeps, line_agent, line_number, none_stopped, seen_going, sent_none, sent_places, sent_room, small, within}
use Rattle.dsn_crew.proofs.desk.IntakeLemmas.{goodbyes_fit, goodbyes_more}
use Rattle.dsn_crew.proofs.desk.TakeLemmas.{answer_says, has_says, has_some, letter_says, may_be_sent}
use Rattle.dsn_crew.specs.desk.Desk.{Desk, IsAnswerSent, IsDesk, history_before, next_exchange, agent_lanes_of}
use Rattle.dsn_crew.specs.inner.Desk.{desk_seen}
use Rattle.dsn_crew.specs.desk.Intake.{taken_request}
use Rattle.dsn_crew.proofs.desk.desk.Desk.answer_next.Goals as goal

pub overflow_add-self : goal.overflow_add-self
overflow_add-self g c =
    let long = ap (λ (desk : Desk _). length desk.requests.taken) c.self.view_is in
    let few = c.requires.few in
    record { fits = goodbyes_fit c.self.inside.gone c.from.result 4294967296 c.is_bye.result c.self.inside.intake.requests.taken c.self.invariant.1 (search rules) (omega (arith, long, few)) }

pub apply-letter-requires : goal.apply-letter-requires
apply-letter-requires g c =
    let going : is_some c.self.inside.stop ≡ false = ap (λ (desk : Desk _). desk.failed) c.self.view_is ∙ c.requires.going in
    let kept : IsDesk g.B.Keeper (desk_seen c.self.inside.start.value c.self.inside.book None c.self.inside.intake c.self.inside.lines.items c.self.inside.missed) = subst (IsDesk g.B.Keeper) (seen_going _ _ _ _ _ _ going) c.self.invariant.0 in
    let few = kept.sealed in
    let start = kept.room in
    let long = ap (λ (desk : Desk _). length desk.requests.taken) c.self.view_is in
    let bound = c.requires.few in
    record { has = has_some g.B.Keeper _ kept refl c.next-request.result c.next-request.new.self.behind c.next-request.ensures.next; room = omega (arith, few, start, long, bound) }

pub send_answer-requires-clause-kept : goal.send_answer-requires-clause-kept
send_answer-requires-clause-kept g c =
    let going : is_some c.self.inside.stop ≡ false = ap (λ (desk : Desk _). desk.failed) c.self.view_is ∙ c.requires.going in
    let kept : IsDesk g.B.Keeper (desk_seen c.self.inside.start.value c.self.inside.book None c.self.inside.intake c.self.inside.lines.items c.self.inside.missed) = subst (IsDesk g.B.Keeper) (seen_going _ _ _ _ _ _ going) c.self.invariant.0 in
    let says = answer_says g.B.Keeper _ kept refl c.next-request.result c.next-request.new.self.behind c.next-request.ensures.next c.apply-letter.result.answer c.apply-letter.ensures.answer in
    let stands = has_says g.B.Keeper _ kept refl c.next-request.result c.next-request.new.self.behind c.next-request.ensures.next c.apply-letter.new.self c.apply-letter.ensures.has in
    may_be_sent g.B.Keeper _ kept refl c.next-request.result c.next-request.new.self.behind c.next-request.ensures.next c.apply-letter.new.self c.apply-letter.ensures.has c.apply-letter.result.answer says c.next-request.new.self c.next-request.ensures.handed_on refl

pub send_answer-requires-clause-within : goal.send_answer-requires-clause-within
send_answer-requires-clause-within g c =
    let going : is_some c.self.inside.stop ≡ false = ap (λ (desk : Desk _). desk.failed) c.self.view_is ∙ c.requires.going in
    let kept : IsDesk g.B.Keeper (desk_seen c.self.inside.start.value c.self.inside.book None c.self.inside.intake c.self.inside.lines.items c.self.inside.missed) = subst (IsDesk g.B.Keeper) (seen_going _ _ _ _ _ _ going) c.self.invariant.0 in
    let is_asked : IsAsked g.B.Keeper (desk_seen c.self.inside.start.value c.self.inside.book None c.self.inside.intake c.self.inside.lines.items c.self.inside.missed) c.next-request.result c.next-request.new.self.behind c.apply-letter.result.answer =
    record { kept = kept; going = refl; behind = c.next-request.ensures.next; agent_is = c.apply-letter.ensures.asked.0; number_is = c.apply-letter.ensures.asked.1 } in
    within _ _ _ _ _ is_asked

pub send_answer-requires-clause-agent : goal.send_answer-requires-clause-agent
send_answer-requires-clause-agent g c =
    let going : is_some c.self.inside.stop ≡ false = ap (λ (desk : Desk _). desk.failed) c.self.view_is ∙ c.requires.going in
    let kept : IsDesk g.B.Keeper (desk_seen c.self.inside.start.value c.self.inside.book None c.self.inside.intake c.self.inside.lines.items c.self.inside.missed) = subst (IsDesk g.B.Keeper) (seen_going _ _ _ _ _ _ going) c.self.invariant.0 in
    let is_asked : IsAsked g.B.Keeper (desk_seen c.self.inside.start.value c.self.inside.book None c.self.inside.intake c.self.inside.lines.items c.self.inside.missed) c.next-request.result c.next-request.new.self.behind c.apply-letter.result.answer =
    record { kept = kept; going = refl; behind = c.next-request.ensures.next; agent_is = c.apply-letter.ensures.asked.0; number_is = c.apply-letter.ensures.asked.1 } in
    line_agent _ _ _ _ _ is_asked

pub send_answer-requires-clause-number : goal.send_answer-requires-clause-number
send_answer-requires-clause-number g c =
    let going : is_some c.self.inside.stop ≡ false = ap (λ (desk : Desk _). desk.failed) c.self.view_is ∙ c.requires.going in
    let kept : IsDesk g.B.Keeper (desk_seen c.self.inside.start.value c.self.inside.book None c.self.inside.intake c.self.inside.lines.items c.self.inside.missed) = subst (IsDesk g.B.Keeper) (seen_going _ _ _ _ _ _ going) c.self.invariant.0 in
    let is_asked : IsAsked g.B.Keeper (desk_seen c.self.inside.start.value c.self.inside.book None c.self.inside.intake c.self.inside.lines.items c.self.inside.missed) c.next-request.result c.next-request.new.self.behind c.apply-letter.result.answer =
    record { kept = kept; going = refl; behind = c.next-request.ensures.next; agent_is = c.apply-letter.ensures.asked.0; number_is = c.apply-letter.ensures.asked.1 } in
    line_number _ _ _ _ _ is_asked

pub send_answer-requires-clause-room : goal.send_answer-requires-clause-room
send_answer-requires-clause-room g c =
    let going : is_some c.self.inside.stop ≡ false = ap (λ (desk : Desk _). desk.failed) c.self.view_is ∙ c.requires.going in
    let kept : IsDesk g.B.Keeper (desk_seen c.self.inside.start.value c.self.inside.book None c.self.inside.intake c.self.inside.lines.items c.self.inside.missed) = subst (IsDesk g.B.Keeper) (seen_going _ _ _ _ _ _ going) c.self.invariant.0 in
    let is_asked : IsAsked g.B.Keeper (desk_seen c.self.inside.start.value c.self.inside.book None c.self.inside.intake c.self.inside.lines.items c.self.inside.missed) c.next-request.result c.next-request.new.self.behind c.apply-letter.result.answer =
    record { kept = kept; going = refl; behind = c.next-request.ensures.next; agent_is = c.apply-letter.ensures.asked.0; number_is = c.apply-letter.ensures.asked.1 } in
    let long = ap (λ (desk : Desk _). length desk.requests.taken) c.self.view_is in
    let bound = c.requires.few in
    small _ _ _ _ _ is_asked 4294967295 (omega (arith, long, bound))

pub invariant_of-self : goal.invariant_of-self
invariant_of-self g c =
    let going : is_some c.self.inside.stop ≡ false = ap (λ (desk : Desk _). desk.failed) c.self.view_is ∙ c.requires.going in
    let kept : IsDesk g.B.Keeper (desk_seen c.self.inside.start.value c.self.inside.book None c.self.inside.intake c.self.inside.lines.items c.self.inside.missed) = subst (IsDesk g.B.Keeper) (seen_going _ _ _ _ _ _ going) c.self.invariant.0 in
    let is_asked : IsAsked g.B.Keeper (desk_seen c.self.inside.start.value c.self.inside.book None c.self.inside.intake c.self.inside.lines.items c.self.inside.missed) c.next-request.result c.next-request.new.self.behind c.apply-letter.result.answer =
    record { kept = kept; going = refl; behind = c.next-request.ensures.next; agent_is = c.apply-letter.ensures.asked.0; number_is = c.apply-letter.ensures.asked.1 } in
    let says = answer_says g.B.Keeper _ kept refl c.next-request.result c.next-request.new.self.behind c.next-request.ensures.next c.apply-letter.result.answer c.apply-letter.ensures.answer in
    let stands = has_says g.B.Keeper _ kept refl c.next-request.result c.next-request.new.self.behind c.next-request.ensures.next c.apply-letter.new.self c.apply-letter.ensures.has in
    let d : Half Answer = first_half _ _ (within _ _ _ _ _ is_asked) in
    let sent : is_ok c.send_answer.result ≡ true = search rules in
    let is_sent : IsAnswerSent true c.self.inside.lines.items c.apply-letter.result.answer c.send_answer.new.lines.items = subst (λ (it : Bool). IsAnswerSent it c.self.inside.lines.items c.apply-letter.result.answer c.send_answer.new.lines.items) sent c.send_answer.ensures in
    let bye = goodbyes_more c.self.inside.gone c.from.result c.is_bye.result c.self.inside.intake.requests.taken c.next-request.new.self.requests.taken c.next-request.result c.self.invariant.1 (ap (λ (o : Out _). o.taken) c.next-request.ensures.handed_on) (search rules) (search rules) in (
      subst (IsDesk g.B.Keeper) (sym (seen_going _ _ _ _ _ _ going)) (keeps g.B.Keeper _ _ _ _ is_asked c.apply-letter.new.self c.next-request.new.self.requests c.send_answer.new.lines.items false c.next-request.ensures.handed_on true d is_sent (λ _. refl) c.apply-letter.ensures.rules c.apply-letter.ensures.sealed c.apply-letter.ensures.no_moment (λ before begins. (says before begins, stands before begins))),
      bye,
      (search rules, sent_room true _ _ c.apply-letter.result.answer _ d is_sent c.self.invariant.2.1),
      none_stopped _ c.self.inside.stop going,
    )

pub returns-in-Ok-clause-kept : goal.returns-in-Ok-clause-kept
returns-in-Ok-clause-kept g c =
    let going : is_some c.self.inside.stop ≡ false = ap (λ (desk : Desk _). desk.failed) c.self.view_is ∙ c.requires.going in
    let kept : IsDesk g.B.Keeper (desk_seen c.self.inside.start.value c.self.inside.book None c.self.inside.intake c.self.inside.lines.items c.self.inside.missed) = subst (IsDesk g.B.Keeper) (seen_going _ _ _ _ _ _ going) c.self.invariant.0 in
    let is_asked : IsAsked g.B.Keeper (desk_seen c.self.inside.start.value c.self.inside.book None c.self.inside.intake c.self.inside.lines.items c.self.inside.missed) c.next-request.result c.next-request.new.self.behind c.apply-letter.result.answer =
    record { kept = kept; going = refl; behind = c.next-request.ensures.next; agent_is = c.apply-letter.ensures.asked.0; number_is = c.apply-letter.ensures.asked.1 } in
    let says = answer_says g.B.Keeper _ kept refl c.next-request.result c.next-request.new.self.behind c.next-request.ensures.next c.apply-letter.result.answer c.apply-letter.ensures.answer in
    let stands = has_says g.B.Keeper _ kept refl c.next-request.result c.next-request.new.self.behind c.next-request.ensures.next c.apply-letter.new.self c.apply-letter.ensures.has in
    let d : Half Answer = first_half _ _ (within _ _ _ _ _ is_asked) in
    let sent : is_ok c.send_answer.result ≡ true = search rules in
    let is_sent : IsAnswerSent true c.self.inside.lines.items c.apply-letter.result.answer c.send_answer.new.lines.items = subst (λ (it : Bool). IsAnswerSent it c.self.inside.lines.items c.apply-letter.result.answer c.send_answer.new.lines.items) sent c.send_answer.ensures in
    subst (IsDesk g.B.Keeper) (sym (seen_going _ _ _ _ _ _ going)) (keeps g.B.Keeper _ _ _ _ is_asked c.apply-letter.new.self c.next-request.new.self.requests c.send_answer.new.lines.items false c.next-request.ensures.handed_on true d is_sent (λ _. refl) c.apply-letter.ensures.rules c.apply-letter.ensures.sealed c.apply-letter.ensures.no_moment (λ before begins. (says before begins, stands before begins)))

pub invariant_of-self-in-Err : goal.invariant_of-self-in-Err
invariant_of-self-in-Err g c =
    let going : is_some c.self.inside.stop ≡ false = ap (λ (desk : Desk _). desk.failed) c.self.view_is ∙ c.requires.going in
    let kept : IsDesk g.B.Keeper (desk_seen c.self.inside.start.value c.self.inside.book None c.self.inside.intake c.self.inside.lines.items c.self.inside.missed) = subst (IsDesk g.B.Keeper) (seen_going _ _ _ _ _ _ going) c.self.invariant.0 in
    let is_asked : IsAsked g.B.Keeper (desk_seen c.self.inside.start.value c.self.inside.book None c.self.inside.intake c.self.inside.lines.items c.self.inside.missed) c.next-request.result c.next-request.new.self.behind c.apply-letter.result.answer =
    record { kept = kept; going = refl; behind = c.next-request.ensures.next; agent_is = c.apply-letter.ensures.asked.0; number_is = c.apply-letter.ensures.asked.1 } in
    let says = answer_says g.B.Keeper _ kept refl c.next-request.result c.next-request.new.self.behind c.next-request.ensures.next c.apply-letter.result.answer c.apply-letter.ensures.answer in
    let stands = has_says g.B.Keeper _ kept refl c.next-request.result c.next-request.new.self.behind c.next-request.ensures.next c.apply-letter.new.self c.apply-letter.ensures.has in
    let d : Half Answer = first_half _ _ (within _ _ _ _ _ is_asked) in
    let sent : is_ok c.send_answer.result ≡ false = search rules in
    let is_sent : IsAnswerSent false c.self.inside.lines.items c.apply-letter.result.answer c.send_answer.new.lines.items = subst (λ (it : Bool). IsAnswerSent it c.self.inside.lines.items c.apply-letter.result.answer c.send_answer.new.lines.items) sent c.send_answer.ensures in
    let bye = goodbyes_more c.self.inside.gone c.from.result c.is_bye.result c.self.inside.intake.requests.taken c.next-request.new.self.requests.taken c.next-request.result c.self.invariant.1 (ap (λ (o : Out _). o.taken) c.next-request.ensures.handed_on) (search rules) (search rules) in (
      keeps g.B.Keeper _ _ _ _ is_asked c.apply-letter.new.self c.next-request.new.self.requests c.send_answer.new.lines.items true c.next-request.ensures.handed_on false d is_sent (λ never. absurd (true≢false never)) c.apply-letter.ensures.rules c.apply-letter.ensures.sealed c.apply-letter.ensures.no_moment (λ before begins. (says before begins, stands before begins)),
      bye,
      (search rules, sent_room false _ _ c.apply-letter.result.answer _ d is_sent c.self.invariant.2.1),
      refl,
    )

pub returns-in-Err-clause-kept : goal.returns-in-Err-clause-kept
returns-in-Err-clause-kept g c =
    let going : is_some c.self.inside.stop ≡ false = ap (λ (desk : Desk _). desk.failed) c.self.view_is ∙ c.requires.going in
    let kept : IsDesk g.B.Keeper (desk_seen c.self.inside.start.value c.self.inside.book None c.self.inside.intake c.self.inside.lines.items c.self.inside.missed) = subst (IsDesk g.B.Keeper) (seen_going _ _ _ _ _ _ going) c.self.invariant.0 in
    let is_asked : IsAsked g.B.Keeper (desk_seen c.self.inside.start.value c.self.inside.book None c.self.inside.intake c.self.inside.lines.items c.self.inside.missed) c.next-request.result c.next-request.new.self.behind c.apply-letter.result.answer =
    record { kept = kept; going = refl; behind = c.next-request.ensures.next; agent_is = c.apply-letter.ensures.asked.0; number_is = c.apply-letter.ensures.asked.1 } in
    let says = answer_says g.B.Keeper _ kept refl c.next-request.result c.next-request.new.self.behind c.next-request.ensures.next c.apply-letter.result.answer c.apply-letter.ensures.answer in
    let stands = has_says g.B.Keeper _ kept refl c.next-request.result c.next-request.new.self.behind c.next-request.ensures.next c.apply-letter.new.self c.apply-letter.ensures.has in
    let d : Half Answer = first_half _ _ (within _ _ _ _ _ is_asked) in
    let sent : is_ok c.send_answer.result ≡ false = search rules in
    let is_sent : IsAnswerSent false c.self.inside.lines.items c.apply-letter.result.answer c.send_answer.new.lines.items = subst (λ (it : Bool). IsAnswerSent it c.self.inside.lines.items c.apply-letter.result.answer c.send_answer.new.lines.items) sent c.send_answer.ensures in
    keeps g.B.Keeper _ _ _ _ is_asked c.apply-letter.new.self c.next-request.new.self.requests c.send_answer.new.lines.items true c.next-request.ensures.handed_on false d is_sent (λ never. absurd (true≢false never)) c.apply-letter.ensures.rules c.apply-letter.ensures.sealed c.apply-letter.ensures.no_moment (λ before begins. (says before begins, stands before begins))

pub returns-in-Ok-clause-places : goal.returns-in-Ok-clause-places
returns-in-Ok-clause-places g c =
    let going : is_some c.self.inside.stop ≡ false = ap (λ (desk : Desk _). desk.failed) c.self.view_is ∙ c.requires.going in
    let kept : IsDesk g.B.Keeper (desk_seen c.self.inside.start.value c.self.inside.book None c.self.inside.intake c.self.inside.lines.items c.self.inside.missed) = subst (IsDesk g.B.Keeper) (seen_going _ _ _ _ _ _ going) c.self.invariant.0 in
    let is_asked : IsAsked g.B.Keeper (desk_seen c.self.inside.start.value c.self.inside.book None c.self.inside.intake c.self.inside.lines.items c.self.inside.missed) c.next-request.result c.next-request.new.self.behind c.apply-letter.result.answer =
    record { kept = kept; going = refl; behind = c.next-request.ensures.next; agent_is = c.apply-letter.ensures.asked.0; number_is = c.apply-letter.ensures.asked.1 } in
    let d : Half Answer = first_half _ _ (within _ _ _ _ _ is_asked) in
    let lane = ap (λ (o : Out _). o.lane) c.next-request.ensures.handed_on in
    sent_places c.next-request.new.self.requests (desk_seen c.self.inside.start.value c.self.inside.book None c.self.inside.intake c.self.inside.lines.items c.self.inside.missed) c.send_answer.new.lines.items (is_ok c.send_answer.result) c.apply-letter.result.answer d (search rules) lane
    ∙ ap agent_lanes_of (sym (seen_going _ _ _ _ _ _ going) ∙ c.self.view_is)

pub returns-in-Err-clause-places : goal.returns-in-Err-clause-places
returns-in-Err-clause-places g c =
    let going : is_some c.self.inside.stop ≡ false = ap (λ (desk : Desk _). desk.failed) c.self.view_is ∙ c.requires.going in
    let kept : IsDesk g.B.Keeper (desk_seen c.self.inside.start.value c.self.inside.book None c.self.inside.intake c.self.inside.lines.items c.self.inside.missed) = subst (IsDesk g.B.Keeper) (seen_going _ _ _ _ _ _ going) c.self.invariant.0 in
    let is_asked : IsAsked g.B.Keeper (desk_seen c.self.inside.start.value c.self.inside.book None c.self.inside.intake c.self.inside.lines.items c.self.inside.missed) c.next-request.result c.next-request.new.self.behind c.apply-letter.result.answer =
    record { kept = kept; going = refl; behind = c.next-request.ensures.next; agent_is = c.apply-letter.ensures.asked.0; number_is = c.apply-letter.ensures.asked.1 } in
    let d : Half Answer = first_half _ _ (within _ _ _ _ _ is_asked) in
    let lane = ap (λ (o : Out _). o.lane) c.next-request.ensures.handed_on in
    sent_places c.next-request.new.self.requests (desk_seen c.self.inside.start.value c.self.inside.book None c.self.inside.intake c.self.inside.lines.items c.self.inside.missed) c.send_answer.new.lines.items (is_ok c.send_answer.result) c.apply-letter.result.answer d (search rules) lane
    ∙ ap agent_lanes_of (sym (seen_going _ _ _ _ _ _ going) ∙ c.self.view_is)

pub returns-in-Err-clause-taken : goal.returns-in-Err-clause-taken
returns-in-Err-clause-taken g c =
    let going : is_some c.self.inside.stop ≡ false = ap (λ (desk : Desk _). desk.failed) c.self.view_is ∙ c.requires.going in
    let kept : IsDesk g.B.Keeper (desk_seen c.self.inside.start.value c.self.inside.book None c.self.inside.intake c.self.inside.lines.items c.self.inside.missed) = subst (IsDesk g.B.Keeper) (seen_going _ _ _ _ _ _ going) c.self.invariant.0 in
    let is_asked : IsAsked g.B.Keeper (desk_seen c.self.inside.start.value c.self.inside.book None c.self.inside.intake c.self.inside.lines.items c.self.inside.missed) c.next-request.result c.next-request.new.self.behind c.apply-letter.result.answer =
    record { kept = kept; going = refl; behind = c.next-request.ensures.next; agent_is = c.apply-letter.ensures.asked.0; number_is = c.apply-letter.ensures.asked.1 } in
    let d : Half Answer = first_half _ _ (within _ _ _ _ _ is_asked) in
    let sent : is_ok c.send_answer.result ≡ false = search rules in
    let is_sent : IsAnswerSent false c.self.inside.lines.items c.apply-letter.result.answer c.send_answer.new.lines.items = subst (λ (it : Bool). IsAnswerSent it c.self.inside.lines.items c.apply-letter.result.answer c.send_answer.new.lines.items) sent c.send_answer.ensures in
    let is = sym (seen_going _ _ _ _ _ _ going) ∙ c.self.view_is in
    λ before begins. (
      c.next-request.result,
      c.requires.going,
      refl,
      c.next-request.ensures.handed_on ∙ ap (λ (desk : Desk _). taken_request desk.requests c.next-request.result) is,
      search rules,
      sent_none _ _ c.apply-letter.result.answer d is_sent ∙ ap (λ (desk : Desk _). desk.answers) is,
      ap (λ (desk : Desk _). desk.missed) is,
      letter_says g.B.Keeper _ kept refl c.next-request.result c.next-request.new.self.behind c.next-request.ensures.next _ c.apply-letter.ensures.letter before (search rules)
          ∙ ap (λ (desk : Desk _). letter_of (history_before g.B.Keeper before desk c.next-request.result) (next_exchange g.B.Keeper before desk c.next-request.result)) is,
      inl (sym (ap (λ (desk : Desk _). desk.behind) is) ∙ c.next-request.ensures.next),
    )
