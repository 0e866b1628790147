use Rattle.std.proofs.Common.{◌≡◌, ◌∙◌, refl, sym, arith, ◌<◌}
use Rattle.dsn_frame.proofs.SessionLemmas.{session_well, session_cut, session_too_many}
use Rattle.dsn_frame.proofs.SessionRunLemmas.{run_begun, run_ended, run_more, run_stopped}
use Rattle.dsn_frame.proofs.session.run_session.Goals as goal

pub loop-place-init : goal.loop-place-init
loop-place-init g c = record { ready = c.requires.ready; limit = c.requires.limit; so_far = λ begun. run_begun _ _ _ _ _ _ begun }

pub returns-in-Err : goal.returns-in-Err
returns-in-Err g c = λ begun.
    let so_far = c.loop-place.invariant.so_far begun in
    run_ended _ _ _ _ _ _ _ _ _ _ so_far (session_cut _ _ _ _ _ _ _ _ _ so_far.session c.in-Err.fault c.in-Err.ensures.refused)
    (c.in-Err.ensures.after _ _ _ _ so_far.left) tt

pub returns-in_default-frame : goal.returns-in_default-frame
returns-in_default-frame g c = λ begun.
    let so_far = c.loop-place.invariant.so_far begun in
    run_ended _ _ _ _ _ _ _ _ _ _ so_far (session_well _ _ _ _ _ _ _ _ _ so_far.session (rw (← c.in_default-frame.ensures) at c.in_default.ensures.next))
    (c.in_default.ensures.after _ _ _ _ so_far.left) refl

pub returns-in-Err-turn : goal.returns-in-Err-turn
returns-in-Err-turn g c = λ begun.
    let so_far = c.loop-place.invariant.so_far begun in
    let read = rw (← c.in-Some.ensures) at c.in_default.ensures.next in
    let few : c.loop-place.place < g.P.Responder.limit c.args.responder.now = rw c.requires.limit c.loop-place-test.true in
    run_stopped _ _ _ _ _ _ _ _ _ _ _ _ so_far few (rw c.body.ensures.same read)
    (c.in_default.ensures.after _ _ _ _ so_far.left) (c.in_default.ensures.limit ∙ c.loop-place.invariant.limit ∙ sym c.requires.limit) c.in_default.ensures.accepted
    c.in-Err-turn.ensures.turn c.in-Err-turn.fault refl

pub loop-place-preserved : goal.loop-place-preserved
loop-place-preserved g c = record {
  ready = c.in_default-turn.ensures.ready;
  limit = c.turn.ensures.turn.limited ∙ c.in_default.ensures.limit ∙ c.loop-place.invariant.limit;
  so_far = λ begun.
      let so_far = c.loop-place.invariant.so_far begun in
      let read = rw (← c.in-Some.ensures) at c.in_default.ensures.next in
      let few : c.loop-place.place < g.P.Responder.limit c.args.responder.now = rw c.requires.limit c.loop-place-test.true in
      run_more _ _ _ _ _ _ _ _ _ _ _ _ so_far few (rw c.body.ensures.same read)
      (c.in_default.ensures.after _ _ _ _ so_far.left) (c.in_default.ensures.limit ∙ c.loop-place.invariant.limit ∙ sym c.requires.limit) c.in_default.ensures.accepted
      c.in_default-turn.ensures.turn refl;
}

pub returns-in-Err-next : goal.returns-in-Err-next
returns-in-Err-next g c = λ begun.
    let so_far = c.loop-place.invariant.so_far begun in
    run_ended _ _ _ _ _ _ _ _ _ _ so_far (session_cut _ _ _ _ _ _ _ _ _ so_far.session c.in-Err-next.fault c.in-Err-next.ensures.refused)
    (c.in-Err-next.ensures.after _ _ _ _ so_far.left) tt

pub returns-in-Some-frame : goal.returns-in-Some-frame
returns-in-Some-frame g c = λ begun.
    let so_far = c.loop-place.invariant.so_far begun in
    let all : c.loop-place.place ≡ g.P.Responder.limit c.args.responder.now = omega (arith, c.requires.limit) in
    run_ended _ _ _ _ _ _ _ _ _ _ so_far (session_too_many _ _ _ _ _ _ _ _ _ so_far.session _ (so_far.frames_counted ∙ all) (rw (← c.in-Some-frame.ensures) at c.in_default-next.ensures.next))
    (g.met.P.Responder.beyond _ _ _ _ _ (c.in_default-next.ensures.after _ _ _ _ so_far.left)) tt

pub returns : goal.returns
returns g c = λ begun.
    let so_far = c.loop-place.invariant.so_far begun in
    let all : c.args.limit ≡ c.loop-place.place = omega arith in
    run_ended _ _ _ _ _ _ _ _ _ _ so_far (session_well _ _ _ _ _ _ _ _ _ so_far.session (rw (← c.in-None.ensures) at c.in_default-next.ensures.next))
    (c.in_default-next.ensures.after _ _ _ _ so_far.left) all
