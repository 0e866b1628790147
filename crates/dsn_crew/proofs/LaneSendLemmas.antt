-- The halves of lanes of requests and of answers may go to another thread. A search finds it for answers, not for requests, whose
-- bodies hold so much; so each is an explicit term. So is the closure that takes them there.
use Rattle.std.proofs.Common.{List, [], ◌∷◌}
use mir.Syntax.{Sym}
use denote.RattleType.{RattleType}
use denote.Param.Send.{IsSend, AllSend, sendable}
use denote.Param.SendFields.{FieldsHave, as_row_send, declared_send}
use denote.Struct.Field.{row_field}
use denote.Struct.Tuple.{TupleAt, type_at, parts}
use Rattle.dsn_crew.proofs.lane.lane_in.LaneIn.TheSendSync as lane_in
use Rattle.dsn_crew.proofs.lane.lane_out.LaneOut.TheSendSync as lane_out
use Rattle.dsn_crew.specs.contracts.lane.lane_in.LaneIn as LaneIn
use Rattle.dsn_crew.specs.contracts.lane.lane_out.LaneOut as LaneOut
use Rattle.dsn_outcome.proofs.SendLemmas.{request_send}
use Rattle.dsn_outcome.specs.contracts.answer.Answer as Answer
use Rattle.dsn_outcome.specs.contracts.answer.AnswerCarried.TheImpl as AnswerCarried
use Rattle.dsn_outcome.specs.contracts.request.Request as Request
use Rattle.dsn_outcome.specs.contracts.request.RequestCarried.TheImpl as RequestCarried

abbrev pub requests_in : RattleType
requests_in = LaneIn.the_row Request.the_row RequestCarried.ghosts

abbrev pub answers_out : RattleType
answers_out = LaneOut.the_row Answer.the_row AnswerCarried.ghosts

pub requests_in_send : IsSend requests_in
requests_in_send = lane_in.the_send Request.the_row RequestCarried.ghosts request_send

answer_send : IsSend Answer.the_row
answer_send = search sendable depth 20

pub answers_out_send : IsSend answers_out
answers_out_send = lane_out.the_send Answer.the_row AnswerCarried.ghosts answer_send

-- a closure, a tuple of what it captures, may go where each of them may
parts_send : (Ts : List RattleType) → AllSend Ts → FieldsHave IsSend (parts Ts)
parts_send [] s = tt
parts_send (T ∷ Ts) s = (as_row_send (row_field T) s.0, parts_send Ts s.1)

pub closure_send : (ν : Sym) (Ts : List RattleType) → AllSend Ts → IsSend (TupleAt ν Ts)
closure_send ν Ts s = declared_send (type_at ν Ts) (parts_send Ts s)
