use Rattle.noticed_lib.proofs.client.SendLemmas.{SentSoFar}
use Rattle.noticed_lib.proofs.client.send_frames.hand_over.Given as goal

abbrev pub invariant-loop-position : goal.invariant-loop-position
invariant-loop-position g l =
    SentSoFar g.R.Source g.S.Source g.S.Drain g.N.Drain l.position l.initial.input l.input l.initial.stream l.stream l.initial.notes l.notes
