-- One session: two sessions over the same bytes that met no event from outside are the same except
-- for their replies.
use Rattle.std.proofs.Common.{◌≡◌, ◌==◌, ℕ, ◌+◌, ◌<◌, Bool, true, false, if◌then◌else◌, List, [], ◌∷◌, ◌++◌, length, drop, refl, sym, ap, subst, ◌∙◌, append_assoc, arith}
use Rattle.std.specs.Prelude.{◌≢◌, Option, Some, None}
use Rattle.std.specs.Int.{w32, to_be_bytes}
use Rattle.std.specs.List.{flat_map, AllByRecursion}
use Rattle.std.specs.Option.{option_map, option_map_or}
use Rattle.std.proofs.lemmas.List.{append-nil, append_cancel_left, length-append, same_from_push}
use Rattle.std.proofs.lemmas.List.Prefix.{front_rest}
use Rattle.dsn_outcome.specs.Request.{Body}
use Rattle.dsn_outcome.specs.declared.answer.Replied.{Replied}
use Rattle.dsn_frame.specs.bodies.BodyFault.{body_fault_code}
use Rattle.dsn_frame.specs.bodies.FrameBody.{frame, IsFrameBody}
use Rattle.dsn_frame.specs.bodies.Request.{Encodes, first_body_fault}
use Rattle.dsn_frame.specs.declared.bodies.body_fault.BodyFault.{BodyFault}
use Rattle.dsn_frame.specs.declared.bodies.spoken.Spoken.{Spoken}
use Rattle.dsn_frame.specs.declared.bodies.spoken.Spoken.TheVariants as spoken
use Rattle.dsn_frame.proofs.bodies.FieldLaws.{some_is}
use Rattle.dsn_frame.proofs.bodies.RequestLaws.{encodes_one, encoded_is_accepted}
use Rattle.dsn_frame.specs.Frame.{declared_length, ReadsNone}
use Rattle.dsn_frame.specs.FrameFault.{frame_fault_code}
use Rattle.dsn_frame.specs.Session.{Medium, Input, Connection, Takes, faulty, out_of_memory, out_of_turn, used_up, asked, given_up, given_up_after, GoesOn, written, unwritten, SessionSoFar, begun, taken, SessionEnds, stopped, well, cut, too_many, no_memory_for_book, IsSession}
use Rattle.dsn_frame.specs.SessionLaws.{is_from_outside, IsDecided, IsOfBytesAlone, AnswerAlike, AreSame, HasOneSession, LeavesOneRest}
use Rattle.dsn_frame.specs.declared.frame_fault.FrameFault.{FrameFault}
use Rattle.dsn_frame.specs.declared.frame_fault.FrameFault.TheVariants.{NoMemory, TooLong, Empty, CutShort, Read}
use Rattle.dsn_frame.proofs.InputLaws.{ends_with_no_frame, front_declares, same_end}
use Rattle.dsn_frame.proofs.SessionFrames.{all_parts, opposite, frames_cons, Compared, first, beyond, compare, session_legal, EndsAt, at_frame, no_frame, one_more, from_outside, ends_at, known_left, Reading, session_reads}

abbrev is_outside_end : Option ℕ → Bool
is_outside_end end = option_map_or is_from_outside end false

-- ---- one frame

-- the result of one frame if no event comes from outside the bytes
data Comes (limit accepted place : ℕ) (bytes : List ℕ) : List Body → List Spoken → Option ℕ → Type 0 where
  is_faulty : (fault : BodyFault) → first_body_fault bytes ≡ Some fault → Comes limit accepted place bytes [] (spoken.Refused (body_fault_code fault) ∷ []) None
  is_out_of_turn : (number : ℕ) (body : Body) → Encodes bytes number body → number ≢ place → Comes limit accepted place bytes [] (spoken.Refused 46 ∷ []) (Some 46)
  is_used_up : (body : Body) → Encodes bytes place body → accepted ≡ limit → Comes limit accepted place bytes [] (spoken.Refused 44 ∷ []) None
  is_asked : (body : Body) (reply : Replied) → Encodes bytes place body → accepted < limit → Comes limit accepted place bytes (body ∷ []) (spoken.Reply reply ∷ []) None

comes : (medium : Medium) (limit accepted place : ℕ) (bytes : List ℕ) (more : List Body) (said : List Spoken) (end : Option ℕ) → Takes medium limit accepted place bytes more said end
    → AllByRecursion IsDecided said → is_outside_end end ≡ false → Comes limit accepted place bytes more said end
comes medium limit accepted place bytes _ _ _ (faulty fault is) decided ended = is_faulty fault is
comes medium limit accepted place bytes _ _ _ (out_of_memory is) decided ended = absurd (opposite true refl decided.0)
comes medium limit accepted place bytes _ _ _ (out_of_turn number body encoded apart) decided ended = is_out_of_turn number body encoded apart
comes medium limit accepted place bytes _ _ _ (used_up body encoded full) decided ended = is_used_up body encoded full
comes medium limit accepted place bytes _ _ _ (asked body reply encoded room) decided ended = is_asked body reply encoded room
comes medium limit accepted place bytes _ _ _ (given_up body encoded connected) decided ended = absurd (opposite true refl ended)
comes medium limit accepted place bytes _ _ _ (given_up_after body encoded room connected) decided ended = absurd (opposite true refl ended)

-- two turns that are the same except for their replies
record SameTurn (more other_more : List Body) (said other_said : List Spoken) (end other_end : Option ℕ) : Type 0 where
  bodies : more ≡ other_more
  answers : AnswerAlike said other_said
  ends : end ≡ other_end

not_encoded : (bytes : List ℕ) (fault : BodyFault) (number : ℕ) (body : Body) → first_body_fault bytes ≡ Some fault → Encodes bytes number body → ⊥
not_encoded bytes fault number body is encoded =
    let never : Some fault ≡ None = sym is ∙ encoded_is_accepted bytes number body encoded in cc

not_apart : (bytes : List ℕ) (number place : ℕ) (body other : Body) → Encodes bytes number body → number ≢ place → Encodes bytes place other → ⊥
not_apart bytes number place body other encoded apart here = apart (encodes_one bytes number place body other encoded here).0

same_turn : (limit accepted place : ℕ) (bytes : List ℕ) (more other_more : List Body) (said other_said : List Spoken) (end other_end : Option ℕ) → Comes limit accepted place bytes more said end
    → Comes limit accepted place bytes other_more other_said other_end → SameTurn more other_more said other_said end other_end
same_turn limit accepted place bytes _ _ _ _ _ _ (is_faulty fault is) (is_faulty other so) =
    record { bodies = refl; answers = (ap body_fault_code (some_is fault other (sym is ∙ so)), tt); ends = refl }
same_turn limit accepted place bytes _ _ _ _ _ _ (is_faulty fault is) (is_out_of_turn number body encoded apart) = absurd (not_encoded bytes fault number body is encoded)
same_turn limit accepted place bytes _ _ _ _ _ _ (is_faulty fault is) (is_used_up body encoded full) = absurd (not_encoded bytes fault place body is encoded)
same_turn limit accepted place bytes _ _ _ _ _ _ (is_faulty fault is) (is_asked body reply encoded room) = absurd (not_encoded bytes fault place body is encoded)
same_turn limit accepted place bytes _ _ _ _ _ _ (is_out_of_turn number body encoded apart) (is_faulty fault is) = absurd (not_encoded bytes fault number body is encoded)
same_turn limit accepted place bytes _ _ _ _ _ _ (is_out_of_turn number body encoded apart) (is_out_of_turn other elsewise so aside) = record { bodies = refl; answers = (refl, tt); ends = refl }
same_turn limit accepted place bytes _ _ _ _ _ _ (is_out_of_turn number body encoded apart) (is_used_up other so full) = absurd (not_apart bytes number place body other encoded apart so)
same_turn limit accepted place bytes _ _ _ _ _ _ (is_out_of_turn number body encoded apart) (is_asked other reply so room) = absurd (not_apart bytes number place body other encoded apart so)
same_turn limit accepted place bytes _ _ _ _ _ _ (is_used_up body encoded full) (is_faulty fault is) = absurd (not_encoded bytes fault place body is encoded)
same_turn limit accepted place bytes _ _ _ _ _ _ (is_used_up body encoded full) (is_out_of_turn number other so apart) = absurd (not_apart bytes number place other body so apart encoded)
same_turn limit accepted place bytes _ _ _ _ _ _ (is_used_up body encoded full) (is_used_up other so filled) = record { bodies = refl; answers = (refl, tt); ends = refl }
same_turn limit accepted place bytes _ _ _ _ _ _ (is_used_up body encoded full) (is_asked other reply so room) = absurd (omega (arith, full, room))
same_turn limit accepted place bytes _ _ _ _ _ _ (is_asked body reply encoded room) (is_faulty fault is) = absurd (not_encoded bytes fault place body is encoded)
same_turn limit accepted place bytes _ _ _ _ _ _ (is_asked body reply encoded room) (is_out_of_turn number other so apart) = absurd (not_apart bytes number place other body so apart encoded)
same_turn limit accepted place bytes _ _ _ _ _ _ (is_asked body reply encoded room) (is_used_up other so full) = absurd (omega (arith, full, room))
same_turn limit accepted place bytes _ _ _ _ _ _ (is_asked body reply encoded room) (is_asked other answer so space) =
    record { bodies = ap (λ (b : Body). b ∷ []) (encodes_one bytes place place body other encoded so).1; answers = (tt, tt); ends = refl }

-- an unwritten answer comes from outside
goes_on_so : (medium : Medium) (said : List Spoken) (end last : Option ℕ) → GoesOn medium said end last → is_outside_end last ≡ false → end ≡ last
goes_on_so medium _ _ _ (written said end) ended = refl
goes_on_so Input _ _ _ (unwritten answer end) ended = absurd (opposite true refl ended)
goes_on_so Connection _ _ _ (unwritten answer end) ended = absurd (opposite true refl ended)

-- ---- all frames

alike_both : (answers others more other_more : List Spoken) → AnswerAlike answers others → AnswerAlike more other_more → AnswerAlike (answers ++ more) (others ++ other_more)
alike_both [] [] more other_more before after = after
alike_both [] (other ∷ others) more other_more before after = absurd before
alike_both (answer ∷ answers) [] more other_more before after = absurd before
alike_both (answer ∷ answers) (other ∷ others) more other_more before after = (before.0, alike_both answers others more other_more before.1 after)

not_empty : (frames : List (List ℕ)) (bytes : List ℕ) → [] ≡ frames ++ bytes ∷ [] → ⊥
not_empty frames bytes is = omega (arith, ap length is, length-append frames (bytes ∷ []))

-- sessions that took the same frames
same_so_far : (medium : Medium) (limit before : ℕ) (frames others : List (List ℕ)) (bodies other_bodies : List Body) (answers other_answers : List Spoken) (made other_made : Option ℕ)
    → SessionSoFar medium limit before frames bodies answers made → SessionSoFar medium limit before others other_bodies other_answers other_made
    → frames ≡ others → AllByRecursion IsDecided answers → AllByRecursion IsDecided other_answers → is_outside_end made ≡ false → is_outside_end other_made ≡ false
    → SameTurn bodies other_bodies answers other_answers made other_made
same_so_far medium limit before _ _ _ _ _ _ _ _ begun begun same decided other_decided ended other_ended = record { bodies = refl; answers = tt; ends = refl }
same_so_far medium limit before _ _ _ _ _ _ _ _ begun (taken frames bodies more answers said bytes end last session few legal takes goes) same decided other_decided ended other_ended =
    absurd (not_empty frames bytes same)
same_so_far medium limit before _ _ _ _ _ _ _ _ (taken frames bodies more answers said bytes end last session few legal takes goes) begun same decided other_decided ended other_ended =
    absurd (not_empty frames bytes (sym same))
same_so_far medium limit before _ _ _ _ _ _ _ _ (taken frames bodies more answers said bytes end last session few legal takes goes) (taken others bodies' more' answers' said' bytes' end' last' session' few' legal' takes' goes') same decided other_decided ended other_ended =
    let fronts = same_from_push frames others bytes bytes' same in
    let parts = all_parts IsDecided answers said decided in
    let parts' = all_parts IsDecided answers' said' other_decided in
    let inner = same_so_far medium limit before frames others bodies bodies' answers answers' None None session session' fronts.0 parts.0 parts'.0 refl refl in
    let on = goes_on_so medium said end last goes ended in
    let on' = goes_on_so medium said' end' last' goes' other_ended in
    let one = comes medium limit (before + length bodies) (length frames) bytes more said end takes parts.1 (rw on ended) in
    let other = comes medium limit (before + length bodies') (length others) bytes' more' said' end' takes' parts'.1 (rw on' other_ended) in
    let there : Comes limit (before + length bodies) (length frames) bytes more' said' end' = rw (fronts.0, fronts.1, inner.bodies) other in
    let turn = same_turn limit (before + length bodies) (length frames) bytes more more' said said' end end' one there in
    record {
      bodies = ap (λ (bs : List Body). bs ++ more) inner.bodies ∙ ap (λ (bs : List Body). bodies' ++ bs) turn.bodies;
      answers = alike_both answers answers' said said' inner.answers turn.answers;
      ends = sym on ∙ turn.ends ∙ on';
    }

-- ---- a session that went on

-- the session that took the first of these frames, and went on
record Earlier (medium : Medium) (limit before : ℕ) (frames : List (List ℕ)) (all_answers : List Spoken) : Type 0 where
  bodies : List Body
  answers : List Spoken
  session : SessionSoFar medium limit before frames bodies answers None
  few : length frames < limit
  later : List Spoken
  parts : all_answers ≡ answers ++ later

-- the last frame of some, and those before it
record Last (bytes : List ℕ) (more : List (List ℕ)) : Type 0 where
  init : List (List ℕ)
  last : List ℕ
  parts : bytes ∷ more ≡ init ++ last ∷ []

last_of : (bytes : List ℕ) (more : List (List ℕ)) → Last bytes more
last_of bytes [] = record { init = []; last = bytes; parts = refl }
last_of bytes (next ∷ more) =
    let rest = last_of next more in
    record { init = bytes ∷ rest.init; last = rest.last; parts = ap (λ (fs : List (List ℕ)). bytes ∷ fs) rest.parts }

earlier : (medium : Medium) (limit before : ℕ) (frames : List (List ℕ)) (bodies : List Body) (answers : List Spoken) (made : Option ℕ) → SessionSoFar medium limit before frames bodies answers made
    → (some : List (List ℕ)) (bytes : List ℕ) (more : List (List ℕ)) → frames ≡ some ++ bytes ∷ more → Earlier medium limit before some answers
earlier medium limit before _ _ _ _ begun some bytes more is = absurd (omega (arith, ap length is, length-append some (bytes ∷ more)))
earlier medium limit before _ _ _ _ (taken frames bodies asks answers said one end last session few legal takes goes) some bytes [] is =
    let fronts = same_from_push frames some one bytes is in
    record {
      bodies = bodies;
      answers = answers;
      session = subst (λ (fs : List (List ℕ)). SessionSoFar medium limit before fs bodies answers None) fronts.0 session;
      few = subst (λ (fs : List (List ℕ)). length fs < limit) fronts.0 few;
      later = said;
      parts = refl;
    }
earlier medium limit before _ _ _ _ (taken frames bodies asks answers said one end last session few legal takes goes) some bytes (next ∷ more) is =
    let final = last_of next more in
    let pushed : frames ++ one ∷ [] ≡ (some ++ bytes ∷ final.init) ++ final.last ∷ [] =
    is ∙ ap (λ (fs : List (List ℕ)). some ++ bytes ∷ fs) final.parts ∙ sym (append_assoc some (bytes ∷ final.init) (final.last ∷ [])) in
    let fronts = same_from_push frames (some ++ bytes ∷ final.init) one final.last pushed in
    let inner = earlier medium limit before frames bodies answers None session some bytes final.init fronts.0 in
    record {
      bodies = inner.bodies;
      answers = inner.answers;
      session = inner.session;
      few = inner.few;
      later = inner.later ++ said;
      parts = ap (λ (said_before : List Spoken). said_before ++ said) inner.parts ∙ append_assoc inner.answers inner.later said;
    }

-- ---- the ends

-- an end that the bytes decide isn't caused by an event from outside at a frame
made_decided : (limit count : ℕ) (made : Option ℕ) (rest : List ℕ) (end : Option ℕ) → EndsAt limit count made rest end → is_outside_end end ≡ false → is_outside_end made ≡ false
made_decided limit count made rest end (at_frame code is end_is) ended = rw (is ∙ sym end_is) ended
made_decided limit count made rest end (no_frame on fault ends end_is) ended = rw on refl
made_decided limit count made rest end (one_more on full bytes more legal is end_is) ended = rw on refl
made_decided limit count made rest end (from_outside on code outside apart here end_is) ended = rw on refl

none_is_none : (made : Option ℕ) (code : ℕ) → made ≡ Some code → made ≡ None → ⊥
none_is_none made code some none = let never : Some code ≡ None = sym some ∙ none in cc

not_outside : (end : Option ℕ) (code : ℕ) → is_from_outside code ≡ true → end ≡ Some code → is_outside_end end ≡ false → ⊥
not_outside end code outside is ended = opposite (is_from_outside code) outside (rw is at ended)

same_ends : (limit count : ℕ) (made other_made : Option ℕ) (rest : List ℕ) (end other_end : Option ℕ) → made ≡ other_made → EndsAt limit count made rest end → EndsAt limit count other_made rest other_end
    → is_outside_end end ≡ false → is_outside_end other_end ≡ false → end ≡ other_end
same_ends limit count made other rest end end' same (at_frame code is end_is) (at_frame code' is' end_is') ended ended' = end_is ∙ sym is ∙ same ∙ is' ∙ sym end_is'
same_ends limit count made other rest end end' same (at_frame code is end_is) (no_frame on fault ends end_is') ended ended' = absurd (none_is_none made code is (same ∙ on))
same_ends limit count made other rest end end' same (at_frame code is end_is) (one_more on full bytes more legal left end_is') ended ended' = absurd (none_is_none made code is (same ∙ on))
same_ends limit count made other rest end end' same (no_frame on fault ends end_is) (at_frame code is end_is') ended ended' = absurd (none_is_none other code is (sym same ∙ on))
same_ends limit count made other rest end end' same (one_more on full bytes more legal left end_is) (at_frame code is end_is') ended ended' = absurd (none_is_none other code is (sym same ∙ on))
same_ends limit count made other rest end end' same (no_frame on fault ends end_is) (no_frame on' fault' ends' end_is') ended ended' =
    end_is ∙ ap (λ (f : Option FrameFault). option_map frame_fault_code f) (same_end rest fault fault' ends ends') ∙ sym end_is'
same_ends limit count made other rest end end' same (no_frame on fault ends end_is) (one_more on' full bytes more legal left end_is') ended ended' = absurd (ends_with_no_frame rest bytes more fault ends legal left)
same_ends limit count made other rest end end' same (one_more on full bytes more legal left end_is) (no_frame on' fault ends end_is') ended ended' = absurd (ends_with_no_frame rest bytes more fault ends legal left)
same_ends limit count made other rest end end' same (one_more on full bytes more legal left end_is) (one_more on' full' bytes' more' legal' left' end_is') ended ended' = end_is ∙ sym end_is'
same_ends limit count made other rest end end' same (from_outside on code outside apart here end_is) others ended ended' = absurd (not_outside end code outside end_is ended)
same_ends limit count made other rest end end' same (at_frame code is end_is) (from_outside on code' outside apart here end_is') ended ended' = absurd (not_outside end' code' outside end_is' ended')
same_ends limit count made other rest end end' same (no_frame on fault ends end_is) (from_outside on' code outside apart here end_is') ended ended' = absurd (not_outside end' code outside end_is' ended')
same_ends limit count made other rest end end' same (one_more on full bytes more legal left end_is) (from_outside on' code outside apart here end_is') ended ended' = absurd (not_outside end' code outside end_is' ended')

-- no session ends before a further frame that may still be taken
ends_there : (limit count : ℕ) (made : Option ℕ) (rest bytes after : List ℕ) (end : Option ℕ) → EndsAt limit count made rest end → is_outside_end end ≡ false → made ≡ None → count < limit → IsFrameBody bytes → rest ≡ frame bytes ++ after → ⊥
ends_there limit count made rest bytes after end (at_frame code is end_is) ended on few legal left = none_is_none made code is on
ends_there limit count made rest bytes after end (no_frame on' fault ends end_is) ended on few legal left = ends_with_no_frame rest bytes after fault ends legal left
ends_there limit count made rest bytes after end (one_more on' full one more legal_one left_one end_is) ended on few legal left = omega (arith, full, few)
ends_there limit count made rest bytes after end (from_outside on' code outside apart here end_is) ended on few legal left = not_outside end code outside end_is ended

-- ---- one session

module _ (medium : Medium) (limit before : ℕ) (bytes : List ℕ) (frames others : List (List ℕ)) (bodies other_bodies : List Body) (answers other_answers : List Spoken) (end other_end : Option ℕ) (reading : Reading medium limit before bytes frames bodies answers end) (alone : IsOfBytesAlone answers end) (other : Reading medium limit before bytes others other_bodies other_answers other_end) (other_alone : IsOfBytesAlone other_answers other_end) where
  -- the first can't have taken fewer frames
  pub not_fewer : (one : List ℕ) (more : List (List ℕ)) → others ≡ frames ++ one ∷ more → reading.rest ≡ frame one ++ (flat_map frame more ++ other.rest) → ⊥
  not_fewer one more parts left =
      let went_on = earlier medium limit before others other_bodies other_answers other.made other.takes frames one more parts in
      let decided = all_parts IsDecided went_on.answers went_on.later (subst (λ (said : List Spoken). AllByRecursion IsDecided said) went_on.parts other_alone.answered) in
      let made = made_decided limit (length frames) reading.made reading.rest end reading.ends alone.ended in
      let same = same_so_far medium limit before frames frames bodies went_on.bodies answers went_on.answers reading.made None reading.takes went_on.session refl alone.answered decided.0 made refl in
      let all = session_legal medium limit before others other_bodies other_answers other.made other.takes in
      let legal = all_parts IsFrameBody frames (one ∷ more) (subst (λ (fs : List (List ℕ)). AllByRecursion IsFrameBody fs) parts all) in
      ends_there limit (length frames) reading.made reading.rest one (flat_map frame more ++ other.rest) end reading.ends alone.ended same.ends went_on.few legal.1.0 left

  -- they took the same frames
  pub same_sessions : frames ≡ others → reading.rest ≡ other.rest → AreSame frames others bodies other_bodies answers other_answers end other_end
  same_sessions same left =
      let made = made_decided limit (length frames) reading.made reading.rest end reading.ends alone.ended in
      let other_made = made_decided limit (length others) other.made other.rest other_end other.ends other_alone.ended in
      let turns = same_so_far medium limit before frames others bodies other_bodies answers other_answers reading.made other.made reading.takes other.takes same alone.answered other_alone.answered made other_made in
      let there : EndsAt limit (length frames) other.made reading.rest other_end = rw (same, left) other.ends in
      record {
        frames_same = same;
        bodies_same = turns.bodies;
        answers_alike = turns.answers;
        end_same = same_ends limit (length frames) reading.made other.made reading.rest end other_end turns.ends reading.ends there alone.ended other_alone.ended;
      }

compared : (medium : Medium) (limit before : ℕ) (bytes : List ℕ) (frames others : List (List ℕ)) (bodies other_bodies : List Body) (answers other_answers : List Spoken) (end other_end : Option ℕ)
    → (reading : Reading medium limit before bytes frames bodies answers end) → IsOfBytesAlone answers end → (other : Reading medium limit before bytes others other_bodies other_answers other_end) → IsOfBytesAlone other_answers other_end
    → Compared frames others reading.rest other.rest → AreSame frames others bodies other_bodies answers other_answers end other_end
compared medium limit before bytes frames others bodies other_bodies answers other_answers end other_end reading alone other other_alone (first [] parts left) =
    same_sessions medium limit before bytes frames others bodies other_bodies answers other_answers end other_end reading alone other other_alone (sym (parts ∙ append-nil frames)) left
compared medium limit before bytes frames others bodies other_bodies answers other_answers end other_end reading alone other other_alone (first (one ∷ more) parts left) =
    absurd (not_fewer medium limit before bytes frames others bodies other_bodies answers other_answers end other_end reading alone other other_alone one more parts (left ∙ frames_cons one more other.rest))
compared medium limit before bytes frames others bodies other_bodies answers other_answers end other_end reading alone other other_alone (beyond one more parts left) =
    absurd (not_fewer medium limit before bytes others frames other_bodies bodies other_answers answers other_end end other other_alone reading alone one more parts left)

-- sessions over the same bytes that met no event from outside are the same except for their replies
pub one_session : (medium : Medium) (limit before : ℕ) (bytes : List ℕ) → HasOneSession medium limit before bytes
one_session medium limit before bytes left other_left frames others bodies other_bodies answers other_answers end other_end session alone other_session other_alone =
    let reading = session_reads medium limit before bytes left frames bodies answers end session in
    let other = session_reads medium limit before bytes other_left others other_bodies other_answers other_end other_session in
    let legal = session_legal medium limit before frames bodies answers reading.made reading.takes in
    let other_legal = session_legal medium limit before others other_bodies other_answers other.made other.takes in
    compared medium limit before bytes frames others bodies other_bodies answers other_answers end other_end reading alone other other_alone
    (compare frames others reading.rest other.rest legal other_legal (sym reading.split ∙ other.split))

-- ---- what is left of the bytes

-- the bytes that are left by an end that they decide, if no frame made it
left_after : Option ℕ → List ℕ → List ℕ
left_after None rest = []
left_after (Some code) rest = if code == 47 then drop (4 + declared_length rest) rest else if code == 13 then [] else drop 4 rest

data LeftAt (made : Option ℕ) (rest : List ℕ) (end : Option ℕ) (now : List ℕ) : Type 0 where
  left_at_frame : (code : ℕ) → made ≡ Some code → now ≡ rest → LeftAt made rest end now
  left_at_rest : made ≡ None → now ≡ left_after end rest → LeftAt made rest end now
  left_from_outside : (code : ℕ) → is_from_outside code ≡ true → end ≡ Some code → LeftAt made rest end now

left_at_cut : (made : Option ℕ) (rest now : List ℕ) (fault : FrameFault) → made ≡ None → ReadsNone (Some rest) (Some now) fault → LeftAt made rest (Some (frame_fault_code fault)) now
unfolding left_after
left_at_cut made rest now NoMemory on reads = left_from_outside 9 refl refl
left_at_cut made rest now Read on reads = left_from_outside 14 refl refl
left_at_cut made rest now CutShort on reads = left_at_rest on (reads.ends refl)
left_at_cut made rest now TooLong on reads = left_at_rest on (sym (front_rest rest reads.part now reads.consumed) ∙ ap (λ (n : ℕ). drop n rest) reads.stops.0)
left_at_cut made rest now Empty on reads = left_at_rest on (sym (front_rest rest reads.part now reads.consumed) ∙ ap (λ (n : ℕ). drop n rest) reads.stops.0)

left_at_more : (made : Option ℕ) (rest now bytes : List ℕ) → made ≡ None → IsFrameBody bytes → rest ≡ frame bytes ++ now → LeftAt made rest (Some 47) now
unfolding left_after
left_at_more made rest now bytes on legal is =
    let declares : declared_length rest ≡ length bytes = ap declared_length is ∙ front_declares bytes now legal in
    let size : length (frame bytes) ≡ 4 + declared_length rest = omega (arith, declares, length-append (to_be_bytes w32 (length bytes)) bytes) in
    left_at_rest on (sym (front_rest rest (frame bytes) now is) ∙ ap (λ (n : ℕ). drop n rest) size)

left_at : (medium : Medium) (limit count : ℕ) (made : Option ℕ) (rest now : List ℕ) (end : Option ℕ) → SessionEnds medium limit count made (Some rest) (Some now) end → LeftAt made rest end now
unfolding left_after
left_at medium limit count made rest now _ (stopped code is same) = left_at_frame code is (sym (some_is rest now same))
left_at medium limit count made rest now _ (well on before after) = left_at_rest on after
left_at medium limit count made rest now _ (cut on fault reads) = left_at_cut made rest now fault on reads
left_at medium limit count made rest now _ (too_many on bytes full legal read) = left_at_more made rest now bytes on legal read
left_at medium limit count made rest now _ (no_memory_for_book alone on nothing same) = left_from_outside 9 refl refl

left_same : (made other_made : Option ℕ) (rest other_rest : List ℕ) (end other_end : Option ℕ) (now other_now : List ℕ) → made ≡ other_made → rest ≡ other_rest → end ≡ other_end
    → is_outside_end end ≡ false → is_outside_end other_end ≡ false → LeftAt made rest end now → LeftAt other_made other_rest other_end other_now → now ≡ other_now
left_same made other rest rest' end end' now now' same left ends ended ended' (left_at_frame code is here) (left_at_frame code' is' here') = here ∙ left ∙ sym here'
left_same made other rest rest' end end' now now' same left ends ended ended' (left_at_frame code is here) (left_at_rest on here') = absurd (none_is_none made code is (same ∙ on))
left_same made other rest rest' end end' now now' same left ends ended ended' (left_at_rest on here) (left_at_frame code is here') = absurd (none_is_none other code is (sym same ∙ on))
left_same made other rest rest' end end' now now' same left ends ended ended' (left_at_rest on here) (left_at_rest on' here') =
    here ∙ ap (λ (e : Option ℕ). left_after e rest) ends ∙ ap (left_after end') left ∙ sym here'
left_same made other rest rest' end end' now now' same left ends ended ended' (left_from_outside code outside is) others = absurd (not_outside end code outside is ended)
left_same made other rest rest' end end' now now' same left ends ended ended' (left_at_frame code is here) (left_from_outside code' outside is') = absurd (not_outside end' code' outside is' ended')
left_same made other rest rest' end end' now now' same left ends ended ended' (left_at_rest on here) (left_from_outside code outside is) = absurd (not_outside end' code outside is ended')

record Leaving (medium : Medium) (limit before : ℕ) (bytes : List ℕ) (frames : List (List ℕ)) (bodies : List Body) (answers : List Spoken) (end : Option ℕ) (now : List ℕ) : Type 0 where
  reading : Reading medium limit before bytes frames bodies answers end
  leaves : LeftAt reading.made reading.rest end now

leaving : (medium : Medium) (limit before : ℕ) (bytes now : List ℕ) (frames : List (List ℕ)) (bodies : List Body) (answers : List Spoken) (end : Option ℕ) → IsSession medium limit before (Some bytes) (Some now) frames bodies answers end → Leaving medium limit before bytes frames bodies answers end now
leaving medium limit before bytes now frames bodies answers end session =
    let known = known_left bytes session.left (flat_map frame frames) session.read in
    let ends : SessionEnds medium limit (length frames) session.made (Some known.0) (Some now) end = subst (λ (left : Option (List ℕ)). SessionEnds medium limit (length frames) session.made left (Some now) end) known.1 session.ends in
    record {
      reading = record { made = session.made; takes = session.takes; rest = known.0; split = known.2; ends = ends_at medium limit (length frames) session.made known.0 (Some now) end ends };
      leaves = left_at medium limit (length frames) session.made known.0 now end ends;
    }

-- sessions over the same bytes that met no event from outside leave the same bytes
pub one_rest : (medium : Medium) (limit before : ℕ) (bytes : List ℕ) → LeavesOneRest medium limit before bytes
one_rest medium limit before bytes now other_now frames others bodies other_bodies answers other_answers end other_end session alone other_session other_alone =
    let same = one_session medium limit before bytes (Some now) (Some other_now) frames others bodies other_bodies answers other_answers end other_end session alone other_session other_alone in
    let one = leaving medium limit before bytes now frames bodies answers end session in
    let other = leaving medium limit before bytes other_now others other_bodies other_answers other_end other_session in
    let left : one.reading.rest ≡ other.reading.rest =
    append_cancel_left (flat_map frame others) one.reading.rest other.reading.rest (ap (λ (fs : List (List ℕ)). flat_map frame fs ++ one.reading.rest) (sym same.frames_same) ∙ sym one.reading.split ∙ other.reading.split) in
    let made = made_decided limit (length frames) one.reading.made one.reading.rest end one.reading.ends alone.ended in
    let other_made = made_decided limit (length others) other.reading.made other.reading.rest other_end other.reading.ends other_alone.ended in
    let turns = same_so_far medium limit before frames others bodies other_bodies answers other_answers one.reading.made other.reading.made one.reading.takes other.reading.takes same.frames_same alone.answered other_alone.answered made other_made in
    left_same one.reading.made other.reading.made one.reading.rest other.reading.rest end other_end now other_now turns.ends left same.end_same alone.ended other_alone.ended one.leaves other.leaves
