-- Whole inputs: a session over frames that are requests in turn answers them, and has no fault of
-- its bytes.
use Rattle.std.proofs.Common.{◌≡◌, ℕ, suc, ◌+◌, ◌<◌, ◌≤◌, true, List, [], ◌∷◌, ◌++◌, length, take, refl, ap, sym, subst, ◌∙◌, arith}
use Rattle.std.specs.Prelude.{◌≢◌, Option, Some, None}
use Rattle.std.specs.List.{flat_map, AllByRecursion}
use Rattle.std.specs.Option.{option_map}
use Rattle.std.proofs.lemmas.Grind.{flat_map-append}
use Rattle.std.proofs.lemmas.List.{append-nil, append_cancel_left, length-append}
use Rattle.dsn_outcome.specs.Request.{Body}
use Rattle.dsn_frame.specs.bodies.FrameBody.{frame}
use Rattle.dsn_frame.specs.bodies.Request.{Encodes}
use Rattle.dsn_frame.specs.declared.bodies.spoken.Spoken.{Spoken}
use Rattle.dsn_frame.proofs.bodies.FieldLaws.{some_is}
use Rattle.dsn_frame.proofs.bodies.RequestLaws.{encodes_one, encoded_is_accepted}
use Rattle.dsn_frame.specs.Frame.{AreFramesOf, FramesEnd}
use Rattle.dsn_frame.specs.FrameFault.{frame_fault_code}
use Rattle.dsn_frame.specs.Session.{Medium, Takes, faulty, out_of_memory, out_of_turn, used_up, asked, given_up, given_up_after, GoesOn, written, unwritten, SessionSoFar, begun, taken}
use Rattle.dsn_frame.specs.SessionLaws.{is_end_of_frames}
use Rattle.dsn_frame.specs.WholeInput.{EncodeInTurn, IsWholeInput, IsReply, IsReplyOrNoMemory, IsOutside, TakesAll, IsTakenWhole}
use Rattle.dsn_frame.specs.WholeInput as end
use Rattle.dsn_frame.specs.declared.frame_fault.FrameFault.{FrameFault}
use Rattle.dsn_frame.specs.declared.frame_fault.FrameFault.TheVariants.{NoMemory, TooLong, Empty, CutShort, Read}
use Rattle.dsn_frame.proofs.InputLaws.{front_length}
use Rattle.dsn_frame.proofs.SessionFrames.{all_both, all_parts, EndsAt, at_frame, no_frame, one_more, from_outside, session_reads, takes_its_frames}

-- ---- bodies in turn

place : (number count : ℕ) → (number + 1) + count ≡ number + suc count
place number count = omega arith

-- the first frames encode the first bodies in turn
turn_first : (number : ℕ) (frames more : List (List ℕ)) (bodies : List Body) → EncodeInTurn number (frames ++ more) bodies → EncodeInTurn number frames (take (length frames) bodies)
turn_first number [] more bodies turn = tt
turn_first number (first ∷ rest) more [] turn = absurd turn
turn_first number (first ∷ rest) more (body ∷ later) turn = (turn.0, turn_first (number + 1) rest more later turn.1)

-- the bodies before the last one, and the last one
record Turned (number : ℕ) (frames : List (List ℕ)) (bytes : List ℕ) (bodies : List Body) : Type 0 where
  before : List Body
  last : Body
  parts : bodies ≡ before ++ last ∷ []
  turn : EncodeInTurn number frames before
  here : Encodes bytes (number + length frames) last

turned : (number : ℕ) (frames : List (List ℕ)) (bytes : List ℕ) (bodies : List Body) → EncodeInTurn number (frames ++ bytes ∷ []) bodies → Turned number frames bytes bodies
turned number [] bytes [] turn = absurd turn
turned number [] bytes (body ∷ []) turn =
    let same : number + 0 ≡ number = omega arith in
    record { before = []; last = body; parts = refl; turn = tt; here = rw same turn.0 }
turned number [] bytes (body ∷ other ∷ later) turn = absurd turn.1
turned number (first ∷ rest) bytes [] turn = absurd turn
turned number (first ∷ rest) bytes (body ∷ later) turn =
    let others = turned (number + 1) rest bytes later turn.1 in
    record {
      before = body ∷ others.before;
      last = others.last;
      parts = ap (λ (bs : List Body). body ∷ bs) others.parts;
      turn = (turn.0, others.turn);
      here = subst (λ (n : ℕ). Encodes bytes n others.last) (place number (length rest)) others.here;
    }

-- ---- the session

-- the result of a frame that encodes a body with its place as number
record TakesInTurn (medium : Medium) (body : Body) (more : List Body) (said : List Spoken) (end : Option ℕ) : Type 0 where
  outside : IsOutside medium end
  good : AllByRecursion IsReplyOrNoMemory said
  asks : end ≢ Some 41 → AllByRecursion IsReply said → more ≡ body ∷ []
  few : length more ≤ 1

takes_in_turn : (medium : Medium) (limit accepted position : ℕ) (bytes : List ℕ) (body : Body) → Encodes bytes position body → accepted < limit → (more : List Body) (said : List Spoken) (end : Option ℕ) → Takes medium limit accepted position bytes more said end → TakesInTurn medium body more said end
takes_in_turn medium limit accepted position bytes body encodes few more said fault (faulty found is) = absurd (let never : Some found ≡ None = sym is ∙ encoded_is_accepted bytes position body encodes in cc)
takes_in_turn medium limit accepted position bytes body encodes few more said fault (out_of_memory is) = record { outside = end.none; good = (refl, tt); asks = λ on never. absurd never.0; few = omega arith }
takes_in_turn medium limit accepted position bytes body encodes few more said fault (out_of_turn number other encoded apart) = absurd (apart (encodes_one bytes number position other body encoded encodes).0)
takes_in_turn medium limit accepted position bytes body encodes few more said fault (used_up other encoded full) = absurd (omega (arith, few, full))
takes_in_turn medium limit accepted position bytes body encodes few more said fault (asked other reply encoded room) =
    let same : other ≡ body = (encodes_one bytes position position other body encoded encodes).1 in
    record { outside = end.none; good = (tt, tt); asks = λ on replies. ap (λ (b : Body). b ∷ []) same; few = omega arith }
takes_in_turn medium limit accepted position bytes body encodes few more said fault (given_up other encoded connected) =
    record { outside = end.given_up connected; good = tt; asks = λ on. absurd (on refl); few = omega arith }
takes_in_turn medium limit accepted position bytes body encodes few more said fault (given_up_after other encoded room connected) =
    record { outside = end.given_up connected; good = tt; asks = λ on. absurd (on refl); few = omega arith }

-- an unwritten answer is the session's end, whatever the result of the frame
goes_outside : (medium : Medium) (said : List Spoken) (made last : Option ℕ) → IsOutside medium made → GoesOn medium said made last → IsOutside medium last
goes_outside medium _ _ _ outside (written said made) = outside
goes_outside medium _ _ _ outside (unwritten answer made) = end.unwritten

-- a session that gave up keeps that end, unless an answer could not be written: then its body was
-- asked
goes_asks : (medium : Medium) (body : Body) (more : List Body) (said : List Spoken) (made last : Option ℕ) → (made ≢ Some 41 → AllByRecursion IsReply said → more ≡ body ∷ []) → GoesOn medium said made last → (made ≡ Some 41 → said ≡ [])
    → last ≢ Some 41 → AllByRecursion IsReply said → more ≡ body ∷ []
goes_asks medium body more _ _ _ asks (written said made) silent on replies = asks on replies
goes_asks medium body more _ _ _ asks (unwritten answer made) silent on replies = asks (λ gone. absurd (let never : answer ∷ [] ≡ [] = silent gone in cc)) replies

not_46 : ◌≡◌ {A = Option ℕ} (Some 46) (Some 41) → ⊥
not_46 same = cc

takes_silent : (medium : Medium) (limit accepted position : ℕ) (bytes : List ℕ) (more : List Body) (said : List Spoken) (made : Option ℕ) → Takes medium limit accepted position bytes more said made → made ≡ Some 41 → said ≡ []
takes_silent medium limit accepted position bytes _ _ _ (faulty found is) never = absurd (let none : ◌≡◌ {A = Option ℕ} None (Some 41) = never in cc)
takes_silent medium limit accepted position bytes _ _ _ (out_of_memory is) never = absurd (let none : ◌≡◌ {A = Option ℕ} None (Some 41) = never in cc)
takes_silent medium limit accepted position bytes _ _ _ (out_of_turn number body encoded apart) never = absurd (not_46 never)
takes_silent medium limit accepted position bytes _ _ _ (used_up body encoded full) never = absurd (let none : ◌≡◌ {A = Option ℕ} None (Some 41) = never in cc)
takes_silent medium limit accepted position bytes _ _ _ (asked body reply encoded room) never = absurd (let none : ◌≡◌ {A = Option ℕ} None (Some 41) = never in cc)
takes_silent medium limit accepted position bytes _ _ _ (given_up body encoded connected) is = refl
takes_silent medium limit accepted position bytes _ _ _ (given_up_after body encoded room connected) is = refl

-- a session over frames that encode bodies in turn
record IsSessionInTurn (medium : Medium) (wanted : List Body) (frames : List (List ℕ)) (bodies : List Body) (answers : List Spoken) (made : Option ℕ) : Type 0 where
  outside : IsOutside medium made
  good : AllByRecursion IsReplyOrNoMemory answers
  asks : made ≢ Some 41 → AllByRecursion IsReply answers → bodies ≡ wanted
  few : length bodies ≤ length frames

none_given_up : ◌≢◌ {A = Option ℕ} None (Some 41)
none_given_up same = let never : ◌≡◌ {A = Option ℕ} None (Some 41) = same in cc

session_in_turn : (medium : Medium) (limit before : ℕ) (wanted : List Body) (frames : List (List ℕ)) (bodies : List Body) (answers : List Spoken) (made : Option ℕ) → SessionSoFar medium limit before frames bodies answers made
    → before + length frames ≤ limit → EncodeInTurn 0 frames wanted → IsSessionInTurn medium wanted frames bodies answers made
session_in_turn medium limit before [] _ _ _ _ begun room turn = record { outside = end.none; good = tt; asks = λ on replies. refl; few = omega arith }
session_in_turn medium limit before (body ∷ later) _ _ _ _ begun room turn = absurd turn
session_in_turn medium limit before wanted _ _ _ _ (taken frames bodies more answers said bytes made last session few legal takes goes) room turn =
    let parts = turned 0 frames bytes wanted turn in
    let fewer : before + length frames < limit = omega (arith, room, length-append frames (bytes ∷ [])) in
    let inner = session_in_turn medium limit before parts.before frames bodies answers None session (omega (arith, fewer)) parts.turn in
    let same : 0 + length frames ≡ length frames = omega arith in
    let here = subst (λ (n : ℕ). Encodes bytes n parts.last) same parts.here in
    let space : before + length bodies < limit = omega (arith, inner.few, fewer) in
    let one = takes_in_turn medium limit (before + length bodies) (length frames) bytes parts.last here space more said made takes in
    let silent = takes_silent medium limit (before + length bodies) (length frames) bytes more said made takes in
    record {
      outside = goes_outside medium said made last one.outside goes;
      good = all_both IsReplyOrNoMemory answers said inner.good one.good;
      asks = λ on replies.
          let both = all_parts IsReply answers said replies in
          ap (λ (bs : List Body). bs ++ more) (inner.asks none_given_up both.0)
          ∙ ap (λ (bs : List Body). parts.before ++ bs) (goes_asks medium parts.last more said made last one.asks goes silent on both.1)
          ∙ sym parts.parts;
      few = omega (arith, inner.few, one.few, length-append bodies more, length-append frames (bytes ∷ []));
    }

-- ---- all of it

-- an end that no frame makes is one that frames make
frames_end_so : (rest : List ℕ) (found : Option FrameFault) (fault : Option ℕ) → FramesEnd rest found → fault ≡ option_map frame_fault_code found → is_end_of_frames fault ≡ true
frames_end_so rest None fault ends is = rw is refl
frames_end_so rest (Some TooLong) fault ends is = rw is refl
frames_end_so rest (Some Empty) fault ends is = rw is refl
frames_end_so rest (Some CutShort) fault ends is = rw is refl
frames_end_so rest (Some Read) fault ends is = absurd ends
frames_end_so rest (Some NoMemory) fault ends is = absurd ends

none_ended : (made : Option ℕ) → made ≡ None → made ≢ Some 41
none_ended made none some = let never : ◌≡◌ {A = Option ℕ} None (Some 41) = sym none ∙ some in cc

-- if a body is asked unless the last frame made the end 41, it is asked unless the session ended
-- with 41
made_asks : (medium : Medium) (limit count : ℕ) (made : Option ℕ) (rest : List ℕ) (fault : Option ℕ) (more wanted : List Body) (P : Type 0) → (made ≢ Some 41 → P → more ≡ wanted) → EndsAt limit count made rest fault → fault ≢ Some 41 → P → more ≡ wanted
made_asks medium limit count made rest fault more wanted P asks (at_frame code is fault_is) on here = asks (λ gone. on (fault_is ∙ sym is ∙ gone)) here
made_asks medium limit count made rest fault more wanted P asks (no_frame none found ends fault_is) on here = asks (none_ended made none) here
made_asks medium limit count made rest fault more wanted P asks (one_more none full bytes after legal is fault_is) on here = asks (none_ended made none) here
made_asks medium limit count made rest fault more wanted P asks (from_outside none code so apart outside fault_is) on here = asks (none_ended made none) here

-- the frames of a whole input are those of its bytes
whole_frames : (limit before : ℕ) (bytes : List ℕ) (frames : List (List ℕ)) (bodies : List Body) → IsWholeInput limit before (Some bytes) frames bodies → AreFramesOf bytes frames None
whole_frames limit before bytes frames bodies whole = record {
  rest = [];
  begins = record { front = some_is bytes (flat_map frame frames) whole.bytes ∙ sym (append-nil (flat_map frame frames)); whole = whole.legal };
  ends = refl;
}

-- the frames that are left don't exceed the limit
not_one_more : (limit before : ℕ) (frames taken_frames more : List (List ℕ)) (rest bytes after : List ℕ) → before + length frames ≤ limit → frames ≡ taken_frames ++ more → rest ≡ flat_map frame more → length taken_frames ≡ limit → rest ≡ frame bytes ++ after → ⊥
not_one_more limit before frames taken_frames [] rest bytes after few parts left full is = omega (arith, front_length bytes after, ap length (sym left ∙ is))
not_one_more limit before frames taken_frames (one ∷ more) rest bytes after few parts left full is = omega (arith, few, full, ap length parts, length-append taken_frames (one ∷ more))

-- the end of a session over a whole input has no fault of the bytes
ends_outside : (medium : Medium) (limit before : ℕ) (frames taken_frames more : List (List ℕ)) (made : Option ℕ) (rest : List ℕ) (fault : Option ℕ) → IsOutside medium made → before + length frames ≤ limit → frames ≡ taken_frames ++ more → rest ≡ flat_map frame more
    → (is_end_of_frames fault ≡ true → fault ≡ None) → EndsAt limit (length taken_frames) made rest fault → IsOutside medium fault
ends_outside medium limit before frames taken_frames more made rest fault outside few parts left none (at_frame code is fault_is) = subst (λ (e : Option ℕ). IsOutside medium e) (is ∙ sym fault_is) outside
ends_outside medium limit before frames taken_frames more made rest fault outside few parts left none (no_frame on found ends fault_is) =
    subst (λ (e : Option ℕ). IsOutside medium e) (sym (none (frames_end_so rest found fault ends fault_is))) end.none
ends_outside medium limit before frames taken_frames more made rest fault outside few parts left none (one_more on full bytes after legal is fault_is) =
    absurd (not_one_more limit before frames taken_frames more rest bytes after few parts left full is)
ends_outside medium limit before frames taken_frames more made rest fault outside few parts left none (from_outside on code so apart here fault_is) = subst (λ (e : Option ℕ). IsOutside medium e) (sym fault_is) (here medium)

-- the bytes left after the first frames of a whole input are its other frames
other_frames : (bytes rest : List ℕ) (frames taken_frames more : List (List ℕ)) → bytes ≡ flat_map frame frames → bytes ≡ flat_map frame taken_frames ++ rest → frames ≡ taken_frames ++ more → rest ≡ flat_map frame more
other_frames bytes rest frames taken_frames more whole split parts =
    append_cancel_left (flat_map frame taken_frames) rest (flat_map frame more)
    (sym split ∙ whole ∙ ap (λ (fs : List (List ℕ)). flat_map frame fs) parts ∙ flat_map-append frame taken_frames more)

-- a session takes all of a whole input
pub taken_whole : (bytes : List ℕ) → IsTakenWhole bytes
taken_whole bytes medium limit before left frames taken_frames bodies more answers fault whole session =
    let reading = session_reads medium limit before bytes left taken_frames more answers fault session in
    let firsts = takes_its_frames bytes medium limit before left taken_frames frames more answers fault None session (whole_frames limit before bytes frames bodies whole) in
    let others = firsts.first.0 in
    let parts = firsts.first.1 in
    let few : before + length taken_frames ≤ limit = omega (arith, whole.few, ap length parts, length-append taken_frames others) in
    let turn = turn_first 0 taken_frames others bodies (subst (λ (fs : List (List ℕ)). EncodeInTurn 0 fs bodies) parts whole.in_turn) in
    let good = session_in_turn medium limit before (take (length taken_frames) bodies) taken_frames more answers reading.made reading.takes few turn in
    let rest = other_frames bytes reading.rest frames taken_frames others (some_is bytes (flat_map frame frames) whole.bytes) reading.split parts in
    record {
      outside = ends_outside medium limit before frames taken_frames others reading.made reading.rest fault good.outside whole.few parts rest firsts.end_is reading.ends;
      replies = good.good;
      first = (others, parts);
      all_taken = λ well. firsts.all (rw well refl);
      all_asked = λ on replies. made_asks medium limit (length taken_frames) reading.made reading.rest fault more (take (length taken_frames) bodies) (AllByRecursion IsReply answers) good.asks reading.ends on replies;
    }
