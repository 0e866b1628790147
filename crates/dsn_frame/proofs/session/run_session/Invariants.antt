use Rattle.std.proofs.Common.{◌≡◌, [], None}
use Rattle.dsn_frame.proofs.SessionRunLemmas.{IsRunSoFar}
use Rattle.dsn_frame.proofs.session.run_session.Given as goal

abbrev pub invariant-loop-place : goal.invariant-loop-place
invariant-loop-place g l = record {
  ready : g.P.Responder.ready l.responder l.place;
  limit : g.P.Responder.limit l.responder ≡ l.limit;
  so_far : g.P.Responder.after l.initial.responder l.initial.responder [] [] [] None
      → IsRunSoFar g.P.Responder.medium g.P.Responder.remaining g.P.Responder.limit g.P.Responder.accepted g.P.Responder.after l.initial.responder l.responder l.place;
}
