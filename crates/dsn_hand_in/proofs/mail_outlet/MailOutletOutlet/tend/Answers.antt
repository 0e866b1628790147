use Rattle.dsn_hand_in.proofs.CourseLemmas.{goes_on, left_still}
use Rattle.dsn_hand_in.proofs.mail_outlet.MailOutletOutlet.tend.Goals as goal

-- a letter was submitted

pub returns-in-Ok-true-clause-posted : goal.returns-in-Ok-true-clause-posted
returns-in-Ok-true-clause-posted g c start letters passed =
    goes_on g.S.Source g.S.Drain g.C.Connect.gives g.K.RefusedLetters.keeps g.M.Marks
    start c.args.self.now c.submit_due.new.self letters passed c.submit_due.ensures

pub returns-in-Ok-true-clause-untouched : goal.returns-in-Ok-true-clause-untouched
returns-in-Ok-true-clause-untouched g c left is =
    left_still g.S.Source g.S.Drain g.C.Connect.gives g.K.RefusedLetters.keeps g.M.Marks
    c.args.self.now c.submit_due.new.self left c.submit_due.ensures is

-- none was due

pub returns-in-Ok-false-clause-posted : goal.returns-in-Ok-false-clause-posted
returns-in-Ok-false-clause-posted g c start letters passed =
    goes_on g.S.Source g.S.Drain g.C.Connect.gives g.K.RefusedLetters.keeps g.M.Marks
    start c.submit_due.new.self c.pause.new.self letters
    (goes_on g.S.Source g.S.Drain g.C.Connect.gives g.K.RefusedLetters.keeps g.M.Marks
    start c.args.self.now c.submit_due.new.self letters passed c.submit_due.ensures)
    c.pause.ensures

pub returns-in-Ok-false-clause-untouched : goal.returns-in-Ok-false-clause-untouched
returns-in-Ok-false-clause-untouched g c left is =
    left_still g.S.Source g.S.Drain g.C.Connect.gives g.K.RefusedLetters.keeps g.M.Marks
    c.args.self.now c.submit_due.new.self left c.submit_due.ensures
    (left_still g.S.Source g.S.Drain g.C.Connect.gives g.K.RefusedLetters.keeps g.M.Marks
    c.submit_due.new.self c.pause.new.self left c.pause.ensures is)

-- memory was refused

pub returns-in-Err-clause-posted : goal.returns-in-Err-clause-posted
returns-in-Err-clause-posted g c start letters passed =
    goes_on g.S.Source g.S.Drain g.C.Connect.gives g.K.RefusedLetters.keeps g.M.Marks
    start c.args.self.now c.submit_due.new.self letters passed c.submit_due.ensures

pub returns-in-Err-clause-untouched : goal.returns-in-Err-clause-untouched
returns-in-Err-clause-untouched g c left is =
    left_still g.S.Source g.S.Drain g.C.Connect.gives g.K.RefusedLetters.keeps g.M.Marks
    c.args.self.now c.submit_due.new.self left c.submit_due.ensures is
