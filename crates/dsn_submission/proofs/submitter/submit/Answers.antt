use Rattle.dsn_submission.proofs.submitter.submit.Goals as goal

pub returns : goal.returns
returns g c = rw (← c.path.ensures) (record {
  handed = c.hand_in_over-session.result.session;
  over = c.hand_in_over-session.ensures.over;
  leaves = c.going_on.ensures;
})
