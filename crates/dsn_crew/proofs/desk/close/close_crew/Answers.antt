-- Agent by agent, the close gives what each was answered; the close of the request lane gives what was taken of each.
use Rattle.std.proofs.Common.{rules, ap, sym, subst, ◌∙◌, ◌≡◌, List, [], ◌∷◌, ◌++◌, length, length-append, map, All, arith}
use Rattle.std.proofs.lemmas.List.{length-map}
use Rattle.std.proofs.lemmas.List.Elements.{All-head, All-tail}
use mathlib.Core.List.{IsPrefix}
use Rattle.std.specs.Vec.Iter.{into_iter_items}
use Rattle.dsn_crew.specs.lane.Halves.{Half, Out}
use Rattle.dsn_outcome.specs.Agents.{from_agent}
use Rattle.dsn_outcome.specs.History.{answers_to}
use Rattle.dsn_outcome.specs.declared.answer.Answer.{Answer}
use Rattle.dsn_outcome.specs.Request.{Request}
use Rattle.dsn_crew.specs.agents.Agent.{LaneHalves, IsFinished}
use Rattle.dsn_crew.specs.agents.AgentLanes.{AgentLanes, lanes_at, lanes_of}
use Rattle.dsn_crew.specs.desk.Desk.{Desk, IsDesk, history}
use Rattle.dsn_crew.proofs.desk.TakeLemmas.{has_here, none_behind}
use Rattle.dsn_crew.proofs.desk.CloseLemmas.{IsAnswered, all_heard, all_of_crew, as_many, closed_more, going_on, kept_all, kept_more, lines_answered, none_left, paired, room_of_one_lane}
use Rattle.dsn_crew.proofs.desk.close.close_crew.Goals as goal

pub loop-finished-init : goal.loop-finished-init
loop-finished-init g c =
    let gives = c.into_iter-finished-iterator.ensures.into_iter_gives.0 in
    let lines = c.into_iter-lines.ensures.rest ∙ ap (λ (desk : Desk _). desk.answers) c.desk.view_is in
    let count = as_many _ c.args.crew.items c.args.desk.answers c.requires.crew in
    record {
      iterator = (tt, tt);
      crew = ap (map lanes_of) gives ∙ (c.requires.crew ∙ ap (map (lanes_at c.args.desk.requests.lane)) (sym lines));
      len = c.into_iter-lines.ensures.len ∙ (c.desk.inside.lines.ok.0 ∙ sym (ap length c.into_iter-lines.ensures.rest));
      answered = λ before begins.
          let kept = subst (IsDesk g.B.Keeper) c.desk.view_is c.desk.invariant.0 in
          subst (All (λ (half : Half Answer). half.sent ≡ answers_to half.agent (history g.B.Keeper before c.args.desk))) (sym lines) (lines_answered g.B.Keeper before c.args.desk kept (kept.stands before begins) c.requires.gone);
      asked = ap (λ (room : List (Half Request)). room ++ map (λ (halves : LaneHalves). halves.requests) (into_iter_items c.into_iter-finished-iterator.result)) c.desk.invariant.2.0 ∙ ap (map (λ (halves : LaneHalves). halves.requests)) gives;
      room = (let none = ap length c.desk.invariant.2.0 in let room = c.desk.invariant.2.1 in let same = ap length (ap (λ (desk : Desk _). desk.answers) c.desk.view_is) in let long = ap length gives in omega arith);
      finished = λ all. subst (All IsFinished) gives all;
      closed = λ before begins all. subst (All (IsAnswered (history g.B.Keeper before c.args.desk))) gives all;
    }

pub loop-finished-preserved : goal.loop-finished-preserved
loop-finished-preserved g c =
    let pair = paired _ _ _ _ _ c.in-Some.finished c.in-Some-next.line c.loop-finished.invariant.crew c.in-Some.ensures.steps.0 c.in-Some-next.ensures.items in
    record {
      iterator = (tt, tt);
      crew = pair.1;
      len = (let before = c.loop-finished.invariant.len in let one = c.in-Some-next.ensures.len in let long = ap length c.in-Some-next.ensures.items in omega arith);
      answered = λ before begins. All-tail (λ (half : Half Answer). half.sent ≡ answers_to half.agent (history g.B.Keeper before c.args.desk)) c.in-Some-next.line _ (subst (All (λ (half : Half Answer). half.sent ≡ answers_to half.agent (history g.B.Keeper before c.args.desk))) c.in-Some-next.ensures.items (c.loop-finished.invariant.answered before begins));
      asked = kept_more _ _ _ _ _ _ c.in-Some.finished c.in-Some.ensures.steps.0 c.close_answers.ensures.half c.push_reserved.ensures.items c.loop-finished.invariant.asked;
      room = (let before = c.loop-finished.invariant.room in let long = ap length c.in-Some.ensures.steps.0 in let one = ap length c.push_reserved.ensures.items ∙ length-append c.loop-finished.room.items (c.close_answers.result ∷ []) in let same = c.push_reserved.ensures.capacity in omega arith);
      finished = closed_more IsFinished _ _ _ c.in-Some.finished c.in-Some.ensures.steps.0 c.close_answers.ensures.finished c.loop-finished.invariant.finished;
      closed = λ before begins.
          let lines = subst (All (λ (half : Half Answer). half.sent ≡ answers_to half.agent (history g.B.Keeper before c.args.desk))) c.in-Some-next.ensures.items (c.loop-finished.invariant.answered before begins) in
          let sent = All-head (λ (half : Half Answer). half.sent ≡ answers_to half.agent (history g.B.Keeper before c.args.desk)) c.in-Some-next.line _ lines in
          let answers : c.in-Some-next.line.sent ≡ answers_to c.in-Some.finished.requests.agent (history g.B.Keeper before c.args.desk) = sent ∙ ap (λ (place : AgentLanes). answers_to place.agent (history g.B.Keeper before c.args.desk)) (sym pair.0) in
          closed_more (IsAnswered (history g.B.Keeper before c.args.desk)) _ _ _ c.in-Some.finished c.in-Some.ensures.steps.0 (record { finished = c.close_answers.ensures.finished; got = subst (IsPrefix c.in-Some.finished.answers.taken) answers c.close_answers.ensures.got }) (c.loop-finished.invariant.closed before begins);
    }

-- the collector has not failed, so it carried out all that its lane has taken
pub into_lane-requires : goal.into_lane-requires
into_lane-requires g c = ap (λ (desk : Desk _). desk.behind) c.desk.view_is ∙ none_behind g.B.Keeper c.args.desk (subst (IsDesk g.B.Keeper) c.desk.view_is c.desk.invariant.0) c.requires.gone

pub close_lane-requires-clause-lane : goal.close_lane-requires-clause-lane
close_lane-requires-clause-lane g c =
    let out = c.into_lane.ensures ∙ ap (λ (desk : Desk _). desk.requests) c.desk.view_is in
    let same = subst (λ (o : Out _). map lanes_of c.args.crew.items ≡ map (lanes_at o.lane) c.args.desk.answers) (sym out) c.requires.crew in
    room_of_one_lane _ _ _ _ same (kept_all _ _ _ (search rules) c.loop-finished.invariant.asked)

pub close_lane-requires-clause-all : goal.close_lane-requires-clause-all
close_lane-requires-clause-all g c =
    let out = c.into_lane.ensures ∙ ap (λ (desk : Desk _). desk.requests) c.desk.view_is in
    let kept = subst (IsDesk g.B.Keeper) c.desk.view_is c.desk.invariant.0 in
    let first = ap (λ (o : Out _). o.first) out in
    let past = ap (λ (o : Out _). o.past) out in
    let room = ap length (kept_all _ _ _ (search rules) c.loop-finished.invariant.asked) in
    let halves = length-map c.args.crew.items (λ (halves : LaneHalves). halves.requests) in
    let count = as_many _ c.args.crew.items c.args.desk.answers c.requires.crew in
    omega (arith, kept.first, kept.past)

pub returns-clause-heard : goal.returns-clause-heard
returns-clause-heard g c = λ before begins.
    let room = kept_all _ _ _ (search rules) c.loop-finished.invariant.asked in
    let out = c.into_lane.ensures ∙ ap (λ (desk : Desk _). desk.requests) c.desk.view_is in
    let taken = subst (λ (o : Out _). All (λ (half : Half Request). IsPrefix (from_agent (λ (request : Request). request.agent) half.agent o.taken) half.sent) c.loop-finished.room.items) out c.close_lane.ensures.prefix in
    all_heard g.B.Keeper before c.args.desk _ _ begins.1 (subst (IsDesk g.B.Keeper) c.desk.view_is c.desk.invariant.0) c.requires.crew (c.loop-finished.invariant.closed before begins (none_left (IsAnswered (history g.B.Keeper before c.args.desk)) _ (search rules))) room taken

pub returns-clause-only : goal.returns-clause-only
returns-clause-only g c = all_of_crew g.B.Keeper c.args.desk c.args.crew.items (subst (IsDesk g.B.Keeper) c.desk.view_is c.desk.invariant.0) c.requires.crew

pub returns-clause-has : goal.returns-clause-has
returns-clause-has g c = λ before begins.
    let kept = subst (IsDesk g.B.Keeper) c.desk.view_is c.desk.invariant.0 in
    let has = has_here g.B.Keeper c.args.desk kept (going_on c.args.desk c.requires.gone) before begins in
    subst (λ book. g.B.Keeper.has book (history g.B.Keeper before c.args.desk) []) (sym (ap (λ shut. shut.book) c.new.ensures))
    (subst (λ book. g.B.Keeper.has book (history g.B.Keeper before c.args.desk) []) (sym (ap (λ (desk : Desk _). desk.book) c.desk.view_is))
    (subst (g.B.Keeper.has c.args.desk.book (history g.B.Keeper before c.args.desk)) (none_behind g.B.Keeper c.args.desk kept c.requires.gone) has))

pub returns-clause-finished : goal.returns-clause-finished
returns-clause-finished g c = c.loop-finished.invariant.finished (none_left IsFinished _ (search rules))
