use Rattle.std.proofs.Common.{◌∙◌, sym, arith}
use Rattle.std.proofs.lemmas.Grind.{common_steps}
use Rattle.std.proofs.lemmas.Result.{err_from_is_err_and}
use Rattle.dsn_frame.proofs.FrameRoom.{room_of_part}
use Rattle.dsn_frame.proofs.SentAnswersLemmas.{OnOk-is_err}
use Rattle.dsn_frame.proofs.frame_buffer.read_into.Goals as goal

pub returns-in_err-fill_front-clause-room_at_fault : goal.returns-in_err-fill_front-clause-room_at_fault
returns-in_err-fill_front-clause-room_at_fault g c =
    let fine = sym c.is_err.ensures.value ∙ c.if-is_err.false in
    let room = OnOk-is_err c.make_room.result _ fine c.make_room.ensures.room in
    let head = rw c.in-Some.is at c.in_ok-size.ensures.next in
    let exit = err_from_is_err_and c.from_residual-in_err-fill_front.result c.from_residual-in_err-fill_front.ensures.1 in
    rw (exit.1, exit.2) (room_of_part _ _ _ c.in-Some.size _ _ _ _ head c.in_err-fill_front.ensures.no_growth c.in_err-fill_front.ensures.refused room (grind (arith, common_steps)))
