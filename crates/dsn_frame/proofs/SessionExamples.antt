-- Worked examples of sessions, made by the definitions.
use Rattle.std.proofs.Common.{◌≡◌, ℕ, true, false, List, [], ◌∷◌, ◌++◌, map, refl, lit<, lit≤}
use Rattle.std.specs.Prelude.{◌≢◌, Some, None}
use Rattle.dsn_outcome.specs.History.{plain}
use Rattle.dsn_outcome.specs.declared.answer.Reply.TheVariants.{Closed, Logged, Sealed}
use Rattle.dsn_outcome.specs.declared.answer.Replied.{Replied}
use Rattle.dsn_frame.specs.bodies.FrameBody.{frame}
use Rattle.dsn_frame.specs.bodies.Request.{first_body_fault}
use Rattle.dsn_frame.specs.declared.bodies.body_fault.BodyFault.TheVariants.{Version}
use Rattle.dsn_frame.specs.declared.bodies.spoken.Spoken.TheVariants.{Reply, Refused}
use Rattle.dsn_frame.proofs.bodies.Examples.{append_body, flush_body, append_asked, flush_asked, append_is_encoded, flush_is_encoded}
use Rattle.dsn_frame.proofs.bodies.RequestLaws.{encoded_is_accepted}
use Rattle.dsn_frame.specs.Session.{Input, Connection, faulty, out_of_memory, out_of_turn, used_up, asked, given_up_after, written, unwritten, begun, taken, stopped, well, too_many, IsSession}
use Rattle.dsn_frame.specs.SessionLaws.{IsOfBytesAlone, AreSame, AreFirstFrames, RepliesAre, is_from_outside, is_end_of_frames}
use Rattle.dsn_frame.proofs.Examples.{agent_input, two_frames}
use Rattle.dsn_frame.proofs.OneSession.{one_session}
use Rattle.dsn_frame.proofs.SessionFrames.{takes_its_frames}
use Rattle.dsn_frame.proofs.WholeInputLemmas.{taken_whole}
use Rattle.dsn_frame.specs.WholeInput.{IsWholeInput, TakesAll}

-- the answers to one append and one flush: an outcome was logged, and the first notice was made
abbrev logged_first : Replied
logged_first = plain (Logged 0)

abbrev sealed_first : Replied
sealed_first = record { reply = Sealed 1; serial = Some 0 }

-- a frame of one byte, which is refused
garbage : List ℕ
garbage = 0 ∷ []

-- one append and one flush on a connection, without requests before it
one_append_one_flush :
    IsSession Connection 2 0 (Some (frame append_body ++ frame flush_body)) (Some []) (append_body ∷ flush_body ∷ [])
    (append_asked ∷ flush_asked ∷ []) (Reply logged_first ∷ Reply sealed_first ∷ []) None
one_append_one_flush =
    let first = taken [] [] (append_asked ∷ []) [] (Reply logged_first ∷ []) append_body None None begun (lit< tt) (lit≤ tt, lit≤ tt)
    (asked append_asked logged_first append_is_encoded (lit< tt)) (written _ None) in
    let second = taken (append_body ∷ []) (append_asked ∷ []) (flush_asked ∷ []) (Reply logged_first ∷ []) (Reply sealed_first ∷ []) flush_body None None first (lit< tt) (lit≤ tt, lit≤ tt)
    (asked flush_asked sealed_first flush_is_encoded (lit< tt)) (written _ None) in
    record { made = None; takes = second; left = Some []; read = refl; ends = well refl refl refl }

-- the same frames after the one request within the limit: the append is refused, and the flush is
-- read and neither decoded nor answered
used_up_before :
    IsSession Connection 1 1 (Some (frame append_body ++ frame flush_body)) (Some []) (append_body ∷ []) [] (Refused 44 ∷ []) (Some 47)
used_up_before =
    let first = taken [] [] [] [] (Refused 44 ∷ []) append_body None None begun (lit< tt) (lit≤ tt, lit≤ tt) (used_up append_asked append_is_encoded refl) (written _ None) in
    record { made = None; takes = first; left = Some (frame flush_body); read = refl; ends = too_many refl flush_body refl (lit≤ tt, lit≤ tt) refl }

zero_is_not_one : ◌≢◌ {A = ℕ} 0 1
zero_is_not_one same = cc

-- A refused body leaves the session as it was. The append after it has the number of its request,
-- not of its frame, and ends it.
number_out_of_turn :
    IsSession Input 9 0 (Some (frame garbage ++ (frame append_body ++ frame flush_body))) (Some (frame flush_body)) (garbage ∷ append_body ∷ []) [] (Refused 21 ∷ Refused 46 ∷ []) (Some 46)
unfolding garbage first_body_fault
number_out_of_turn =
    let first = taken [] [] [] [] (Refused 21 ∷ []) garbage None None begun (lit< tt) (lit≤ tt, lit≤ tt) (faulty Version refl) (written _ None) in
    let second = taken (garbage ∷ []) [] [] (Refused 21 ∷ []) (Refused 46 ∷ []) append_body (Some 46) (Some 46) first (lit< tt) (lit≤ tt, lit≤ tt)
    (out_of_turn 0 append_asked append_is_encoded zero_is_not_one) (written _ (Some 46)) in
    record { made = Some 46; takes = second; left = Some (frame flush_body); read = refl; ends = stopped 46 refl refl }

-- an unwritten answer is one of the answers, and ends the session
answer_unwritten :
    IsSession Connection 9 3 (Some (frame append_body ++ frame flush_body)) (Some (frame flush_body)) (append_body ∷ []) (append_asked ∷ []) (Reply logged_first ∷ []) (Some 35)
answer_unwritten =
    let first = taken [] [] (append_asked ∷ []) [] (Reply logged_first ∷ []) append_body None (Some 35) begun (lit< tt) (lit≤ tt, lit≤ tt)
    (asked append_asked logged_first append_is_encoded (lit< tt)) (unwritten _ None) in
    record { made = Some 35; takes = first; left = Some (frame flush_body); read = refl; ends = stopped 35 refl refl }

-- the daemon gave up after the append was asked: it has no answer
given_up_at_append :
    IsSession Connection 9 0 (Some (frame append_body)) (Some []) (append_body ∷ []) (append_asked ∷ []) [] (Some 41)
given_up_at_append =
    let first = taken [] [] (append_asked ∷ []) [] [] append_body (Some 41) (Some 41) begun (lit< tt) (lit≤ tt, lit≤ tt)
    (given_up_after append_asked append_is_encoded (lit< tt) refl) (written _ (Some 41)) in
    record { made = Some 41; takes = first; left = Some []; read = refl; ends = stopped 41 refl refl }

-- ---- sessions over the same bytes

-- both frames are asked, and get these replies
both_asked : (first second : Replied) → IsSession Connection 2 0 (Some agent_input) (Some []) (append_body ∷ flush_body ∷ []) (append_asked ∷ flush_asked ∷ []) (Reply first ∷ Reply second ∷ []) None
unfolding agent_input
both_asked first second =
    let one = taken [] [] (append_asked ∷ []) [] (Reply first ∷ []) append_body None None begun (lit< tt) (lit≤ tt, lit≤ tt)
    (asked append_asked first append_is_encoded (lit< tt)) (written _ None) in
    let two = taken (append_body ∷ []) (append_asked ∷ []) (flush_asked ∷ []) (Reply first ∷ []) (Reply second ∷ []) flush_body None None one (lit< tt) (lit≤ tt, lit≤ tt)
    (asked flush_asked second flush_is_encoded (lit< tt)) (written _ None) in
    record { made = None; takes = two; left = Some []; read = refl; ends = well refl refl refl }

-- the session met no event from outside the bytes
of_bytes_alone : (first second : Replied) → IsOfBytesAlone (Reply first ∷ Reply second ∷ []) None
of_bytes_alone first second = record { answered = (tt, (tt, tt)); ended = refl }

-- a refusal keeps its place among the replies
by_places : (replies : ℕ → Replied) → RepliesAre replies 0 (Reply (replies 0) ∷ Refused 21 ∷ Reply (replies 2) ∷ [])
by_places replies = (refl, (refl, tt))

-- so it is one session, whatever its replies are
one_but_for_replies :
    AreSame (append_body ∷ flush_body ∷ []) (append_body ∷ flush_body ∷ []) (append_asked ∷ flush_asked ∷ []) (append_asked ∷ flush_asked ∷ [])
    (Reply logged_first ∷ Reply sealed_first ∷ []) (Reply (plain Closed) ∷ Reply (plain Closed) ∷ []) None None
one_but_for_replies =
    one_session Connection 2 0 agent_input (Some []) (Some []) _ _ _ _ _ _ None None (both_asked logged_first sealed_first) (of_bytes_alone logged_first sealed_first) (both_asked (plain Closed) (plain Closed)) (of_bytes_alone (plain Closed) (plain Closed))

-- and its frames are those of the bytes
takes_both : AreFirstFrames (append_body ∷ flush_body ∷ []) (append_body ∷ flush_body ∷ []) None None
takes_both = takes_its_frames agent_input Connection 2 0 (Some []) _ _ _ _ None None (both_asked logged_first sealed_first) two_frames

-- these bytes are requests in turn, and the session took all of them
whole_input : IsWholeInput 2 0 (Some agent_input) (append_body ∷ flush_body ∷ []) (append_asked ∷ flush_asked ∷ [])
unfolding agent_input
whole_input = record { bytes = refl; legal = ((lit≤ tt, lit≤ tt), ((lit≤ tt, lit≤ tt), tt)); few = lit≤ tt; in_turn = (append_is_encoded, (flush_is_encoded, tt)) }

takes_whole : TakesAll Connection (append_body ∷ flush_body ∷ []) (append_asked ∷ flush_asked ∷ []) (append_body ∷ flush_body ∷ []) (append_asked ∷ flush_asked ∷ []) (Reply logged_first ∷ Reply sealed_first ∷ []) None
takes_whole = taken_whole agent_input Connection 2 0 (Some []) _ _ _ _ _ None whole_input (both_asked logged_first sealed_first)

-- another session over these bytes met want of memory at the append: the bytes alone don't decide
-- its answers
no_memory_at_append : IsSession Connection 2 0 (Some agent_input) (Some []) (append_body ∷ flush_body ∷ []) (flush_asked ∷ []) (Refused 9 ∷ Reply sealed_first ∷ []) None
unfolding agent_input
no_memory_at_append =
    let one = taken [] [] [] [] (Refused 9 ∷ []) append_body None None begun (lit< tt) (lit≤ tt, lit≤ tt)
    (out_of_memory (encoded_is_accepted append_body 0 append_asked append_is_encoded)) (written _ None) in
    let two = taken (append_body ∷ []) [] (flush_asked ∷ []) (Refused 9 ∷ []) (Reply sealed_first ∷ []) flush_body None None one (lit< tt) (lit≤ tt, lit≤ tt)
    (asked flush_asked sealed_first flush_is_encoded (lit< tt)) (written _ None) in
    record { made = None; takes = two; left = Some []; read = refl; ends = well refl refl refl }

-- the events from outside the bytes: want of memory, a failed read or write, a daemon that gave up
from_outside : map is_from_outside (9 ∷ 14 ∷ 33 ∷ 35 ∷ 41 ∷ []) ≡ true ∷ true ∷ true ∷ true ∷ true ∷ []
from_outside = refl

-- the bytes decide every other refusal and end
from_bytes : map is_from_outside (1 ∷ 8 ∷ 10 ∷ 11 ∷ 13 ∷ 21 ∷ 30 ∷ 44 ∷ 46 ∷ 47 ∷ []) ≡ false ∷ false ∷ false ∷ false ∷ false ∷ false ∷ false ∷ false ∷ false ∷ false ∷ []
from_bytes = refl

-- the ends that frames make: without a fault, at an invalid length, and at a frame that is cut
-- short
ends_of_frames : map is_end_of_frames (None ∷ Some 11 ∷ Some 12 ∷ Some 13 ∷ Some 14 ∷ Some 46 ∷ Some 47 ∷ []) ≡ true ∷ true ∷ true ∷ true ∷ false ∷ false ∷ false ∷ []
ends_of_frames = refl
