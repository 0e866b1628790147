use Rattle.dsn_hand_in.proofs.CourseLemmas.{goes_on}
use Rattle.dsn_hand_in.proofs.mail_outlet.MailOutletOutlet.finish.Goals as goal

pub returns-clause-ended : goal.returns-clause-ended
returns-clause-ended g c start letters passed = record {
  last = c.end.new.self;
  passed =
      goes_on g.S.Source g.S.Drain g.C.Connect.gives g.K.RefusedLetters.keeps g.M.Marks
      start c.args.self c.end.new.self letters passed c.end.ensures.passed;
  parts = c.into_parts.ensures;
  closed = c.end.ensures.closed;
  whole = c.is_whole.ensures;
  sent = c.new.ensures;
}
