use Rattle.std.proofs.Common.{refl, sym, ◌∙◌}
use Rattle.dsn_smtp.specs.Session.{anew, over_kept}
use Rattle.dsn_smtp.proofs.kept_or_new.hand_in_over.Goals as goal

-- no session was kept
pub returns-in_default-clause-over : goal.returns-in_default-clause-over
returns-in_default-clause-over g c = rw c.in_default.is (anew c.args.buffer.now refl c.hand_in_anew.ensures)

-- the kept session failed at MAIL
pub returns-in-Some-fault-clause-over : goal.returns-in-Some-fault-clause-over
returns-in-Some-fault-clause-over g c =
    rw c.in-Some.is (anew c.new.result (
      record {
        why = c.in-Some-fault.fault;
        at_sender = sym c.is_at_sender.ensures ∙ c.if-is_at_sender.true;
        held = c.hand_in-session.new.buffer;
        left = c.hand_in-session.result.session;
        fails = rw c.in-Some-fault.is at c.hand_in-session.ensures.over;
      },
      c.new.ensures,
    )
    c.hand_in_anew-in-Some-fault.ensures)

-- it failed after MAIL, or nothing was sent
pub returns-in-Some-2-clause-over : goal.returns-in-Some-2-clause-over
returns-in-Some-2-clause-over g c =
    over_kept c.in-Some.session c.in-Some.is refl (rw c.in-Some-fault.is at c.hand_in-session.ensures.over) (sym c.is_at_sender.ensures ∙ c.if-is_at_sender.false)

-- the submission over the kept session succeeded
pub returns-in-None-clause-over : goal.returns-in-None-clause-over
returns-in-None-clause-over g c = over_kept c.in-Some.session c.in-Some.is refl (rw c.in-None.is at c.hand_in-session.ensures.over) tt
