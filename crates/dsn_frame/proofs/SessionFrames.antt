-- The frames of a session: they are the first frames of the bytes that it read, and its end says
-- what follows them.
use Rattle.std.proofs.Common.{◌≡◌, ℕ, ◌+◌, Bool, true, false, List, [], ◌∷◌, ◌++◌, length, refl, sym, ap, subst, ◌∙◌, append_assoc}
use Rattle.std.specs.Prelude.{Option, Some, None, unwrap_or}
use Rattle.std.specs.Io.KnownBytes.{Consumes}
use Rattle.std.specs.List.{flat_map, AllByRecursion}
use Rattle.std.specs.Option.{option_map}
use Rattle.std.proofs.lemmas.List.{append-nil}
use Rattle.std.proofs.lemmas.List.Concat.{flat_map-cons}
use Rattle.dsn_outcome.specs.Request.{Body}
use Rattle.dsn_frame.specs.bodies.FrameBody.{frame, IsFrameBody}
use Rattle.dsn_frame.specs.declared.bodies.spoken.Spoken.{Spoken}
use Rattle.dsn_frame.specs.Frame.{FramesEnd, AreFramesOf, ReadsNone}
use Rattle.dsn_frame.specs.FrameFault.{frame_fault_code}
use Rattle.dsn_frame.specs.Session.{Medium, Input, Connection, Takes, faulty, out_of_memory, out_of_turn, used_up, asked, given_up, given_up_after, GoesOn, written, unwritten, SessionSoFar, begun, taken, SessionEnds, stopped, well, cut, too_many, no_memory_for_book, IsSession}
use Rattle.dsn_frame.specs.SessionLaws.{is_from_outside, is_end_of_frames, AreFirstFrames, TakesItsFrames}
use Rattle.dsn_frame.specs.WholeInput.{IsOutside, no_memory, read_failed}
use Rattle.dsn_frame.specs.declared.frame_fault.FrameFault.{FrameFault}
use Rattle.dsn_frame.specs.declared.frame_fault.FrameFault.TheVariants.{NoMemory, TooLong, Empty, CutShort, Read}
use Rattle.dsn_frame.proofs.InputLaws.{ends_with_no_frame, none_ends, same_end, same_front}

-- ---- what holds of each element

pub all_both : {X : Type 0} (P : X → Type 0) (xs ys : List X) → AllByRecursion P xs → AllByRecursion P ys → AllByRecursion P (xs ++ ys)
all_both P [] ys first second = second
all_both P (x ∷ xs) ys first second = (first.0, all_both P xs ys first.1 second)

pub all_parts : {X : Type 0} (P : X → Type 0) (xs ys : List X) → AllByRecursion P (xs ++ ys) → AllByRecursion P xs × AllByRecursion P ys
all_parts P [] ys all = (tt, all)
all_parts P (x ∷ xs) ys all =
    let rest = all_parts P xs ys all.1 in
    ((all.0, rest.0), rest.1)

-- ---- frames at the beginning of bytes

pub frames_cons : (bytes : List ℕ) (frames : List (List ℕ)) (rest : List ℕ) → flat_map frame (bytes ∷ frames) ++ rest ≡ frame bytes ++ (flat_map frame frames ++ rest)
frames_cons bytes frames rest = ap (λ (text : List ℕ). text ++ rest) (flat_map-cons frame bytes frames) ∙ append_assoc (frame bytes) (flat_map frame frames) rest

-- if the same bytes begin with two lists of frames, one list begins with the other
pub data Compared (some others : List (List ℕ)) (x y : List ℕ) : Type 0 where
  first : (more : List (List ℕ)) → others ≡ some ++ more → x ≡ flat_map frame more ++ y → Compared some others x y
  beyond : (bytes : List ℕ) (more : List (List ℕ)) → some ≡ others ++ bytes ∷ more → y ≡ frame bytes ++ (flat_map frame more ++ x) → Compared some others x y

compared_push : (a b : List ℕ) (some others : List (List ℕ)) (x y : List ℕ) → a ≡ b → Compared some others x y → Compared (a ∷ some) (b ∷ others) x y
compared_push a b some others x y same (first more parts left) =
    first more (ap (λ (z : List ℕ). z ∷ others) (sym same) ∙ ap (λ (zs : List (List ℕ)). a ∷ zs) parts) left
compared_push a b some others x y same (beyond bytes more parts left) =
    beyond bytes more (ap (λ (z : List ℕ). z ∷ some) same ∙ ap (λ (zs : List (List ℕ)). b ∷ zs) parts) left

pub compare : (some others : List (List ℕ)) (x y : List ℕ) → AllByRecursion IsFrameBody some → AllByRecursion IsFrameBody others → flat_map frame some ++ x ≡ flat_map frame others ++ y → Compared some others x y
compare [] others x y legal legal_others is = first others refl is
compare (a ∷ some) [] x y legal legal_others is = beyond a some refl (sym is ∙ frames_cons a some x)
compare (a ∷ some) (b ∷ others) x y legal legal_others is =
    let fronts = sym (frames_cons a some x) ∙ is ∙ frames_cons b others y in
    let same = same_front a b (flat_map frame some ++ x) (flat_map frame others ++ y) legal.0 legal_others.0 fronts in
    compared_push a b some others x y same.0 (compare some others x y legal.1 legal_others.1 same.1)

-- a source with known bytes leaves known bytes
pub known_left : (bytes : List ℕ) (left : Option (List ℕ)) (text : List ℕ) → Consumes (Some bytes) left text → (rest : List ℕ) × (left ≡ Some rest) × (bytes ≡ text ++ rest)
known_left bytes None text read = absurd read
known_left bytes (Some rest) text read = (rest, refl, read)

-- ---- the frames of a session

-- a session takes the bodies of frames alone
pub session_legal : (medium : Medium) (limit before : ℕ) (frames : List (List ℕ)) (bodies : List Body) (answers : List Spoken) (made : Option ℕ) → SessionSoFar medium limit before frames bodies answers made → AllByRecursion IsFrameBody frames
session_legal medium limit before _ _ _ _ begun = tt
session_legal medium limit before _ _ _ _ (taken frames bodies more answers said bytes end last session few legal takes goes) =
    all_both IsFrameBody frames (bytes ∷ []) (session_legal medium limit before frames bodies answers None session) (legal, tt)

number_of : (a b : ℕ) → Some a ≡ Some b → a ≡ b
number_of a b same = ap (λ (known : Option ℕ). unwrap_or known 0) same

no_end_so : (number code : ℕ) → is_end_of_frames (Some number) ≡ false → Some number ≡ Some code → is_end_of_frames (Some code) ≡ false
no_end_so number code apart same = subst (λ (n : ℕ). is_end_of_frames (Some n) ≡ false) (number_of number code same) apart

-- an end at a frame isn't one that a rest without a whole frame makes
takes_no_end : (medium : Medium) (limit accepted place : ℕ) (bytes : List ℕ) (asks : List Body) (said : List Spoken) (end : Option ℕ) → Takes medium limit accepted place bytes asks said end → (code : ℕ) → end ≡ Some code → is_end_of_frames (Some code) ≡ false
takes_no_end medium limit accepted place bytes _ _ _ (faulty fault is) code never = absurd cc
takes_no_end medium limit accepted place bytes _ _ _ (out_of_memory is) code never = absurd cc
takes_no_end medium limit accepted place bytes _ _ _ (out_of_turn number body encoded apart) code is = no_end_so 46 code refl is
takes_no_end medium limit accepted place bytes _ _ _ (used_up body encoded full) code never = absurd cc
takes_no_end medium limit accepted place bytes _ _ _ (asked body reply encoded room) code never = absurd cc
takes_no_end medium limit accepted place bytes _ _ _ (given_up body encoded connected) code is = no_end_so 41 code refl is
takes_no_end medium limit accepted place bytes _ _ _ (given_up_after body encoded room connected) code is = no_end_so 41 code refl is

goes_no_end : (medium : Medium) (said : List Spoken) (end last : Option ℕ) → ((code : ℕ) → end ≡ Some code → is_end_of_frames (Some code) ≡ false) → GoesOn medium said end last → (code : ℕ) → last ≡ Some code → is_end_of_frames (Some code) ≡ false
goes_no_end medium _ _ _ none (written said end) code is = none code is
goes_no_end Input _ _ _ none (unwritten answer end) code is = no_end_so 33 code refl is
goes_no_end Connection _ _ _ none (unwritten answer end) code is = no_end_so 35 code refl is

session_no_end : (medium : Medium) (limit before : ℕ) (frames : List (List ℕ)) (bodies : List Body) (answers : List Spoken) (made : Option ℕ) → SessionSoFar medium limit before frames bodies answers made → (code : ℕ) → made ≡ Some code → is_end_of_frames (Some code) ≡ false
session_no_end medium limit before _ _ _ _ begun code never = absurd cc
session_no_end medium limit before _ _ _ _ (taken frames bodies more answers said bytes end last session few legal takes goes) code is =
    goes_no_end medium said end last (takes_no_end medium limit (before + length bodies) (length frames) bytes more said end takes) goes code is

-- ---- the end of a session

-- the cause of the end, given the bytes that were left: a frame, no further frame, a whole frame
-- beyond the limit, or an event from outside the bytes
pub data EndsAt (limit count : ℕ) (made : Option ℕ) (rest : List ℕ) (end : Option ℕ) : Type 0 where
  at_frame : (code : ℕ) → made ≡ Some code → end ≡ Some code → EndsAt limit count made rest end
  no_frame : made ≡ None → (fault : Option FrameFault) → FramesEnd rest fault → end ≡ option_map frame_fault_code fault → EndsAt limit count made rest end
  one_more : made ≡ None → count ≡ limit → (bytes more : List ℕ) → IsFrameBody bytes → rest ≡ frame bytes ++ more → end ≡ Some 47 → EndsAt limit count made rest end
  from_outside : made ≡ None → (code : ℕ) → is_from_outside code ≡ true → is_end_of_frames (Some code) ≡ false → ((medium : Medium) → IsOutside medium (Some code)) → end ≡ Some code → EndsAt limit count made rest end

cut_at : (limit count : ℕ) (made : Option ℕ) (rest : List ℕ) (now : Option (List ℕ)) (fault : FrameFault) → made ≡ None → ReadsNone (Some rest) now fault → EndsAt limit count made rest (Some (frame_fault_code fault))
cut_at limit count made rest now NoMemory on reads = from_outside on 9 refl refl (λ medium. no_memory) refl
cut_at limit count made rest now TooLong on reads = no_frame on (Some TooLong) (none_ends rest now TooLong reads (λ e. cc) (λ e. cc)) refl
cut_at limit count made rest now Empty on reads = no_frame on (Some Empty) (none_ends rest now Empty reads (λ e. cc) (λ e. cc)) refl
cut_at limit count made rest now CutShort on reads = no_frame on (Some CutShort) (none_ends rest now CutShort reads (λ e. cc) (λ e. cc)) refl
cut_at limit count made rest now Read on reads = from_outside on 14 refl refl (λ medium. read_failed) refl

more_at : (limit count : ℕ) (made : Option ℕ) (rest bytes : List ℕ) (now : Option (List ℕ)) → made ≡ None → count ≡ limit → IsFrameBody bytes → Consumes (Some rest) now (frame bytes) → EndsAt limit count made rest (Some 47)
more_at limit count made rest bytes None on full legal read = absurd read
more_at limit count made rest bytes (Some more) on full legal read = one_more on full bytes more legal read refl

pub ends_at : (medium : Medium) (limit count : ℕ) (made : Option ℕ) (rest : List ℕ) (now : Option (List ℕ)) (end : Option ℕ) → SessionEnds medium limit count made (Some rest) now end → EndsAt limit count made rest end
ends_at medium limit count made rest now _ (stopped code is same) = at_frame code is refl
ends_at medium limit count made rest now _ (well on before after) = no_frame on None before refl
ends_at medium limit count made rest now _ (cut on fault reads) = cut_at limit count made rest now fault on reads
ends_at medium limit count made rest now _ (too_many on bytes full legal read) = more_at limit count made rest bytes now on full legal read
ends_at medium limit count made rest now _ (no_memory_for_book alone on nothing same) = from_outside on 9 refl refl (λ medium. no_memory) refl

-- a session over known bytes: what is left of them after its frames, and its end
pub record Reading (medium : Medium) (limit before : ℕ) (bytes : List ℕ) (frames : List (List ℕ)) (bodies : List Body) (answers : List Spoken) (end : Option ℕ) : Type 0 where
  pub made : Option ℕ
  pub takes : SessionSoFar medium limit before frames bodies answers made
  pub rest : List ℕ
  pub split : bytes ≡ flat_map frame frames ++ rest
  pub ends : EndsAt limit (length frames) made rest end

pub session_reads : (medium : Medium) (limit before : ℕ) (bytes : List ℕ) (now : Option (List ℕ)) (frames : List (List ℕ)) (bodies : List Body) (answers : List Spoken) (end : Option ℕ) → IsSession medium limit before (Some bytes) now frames bodies answers end → Reading medium limit before bytes frames bodies answers end
session_reads medium limit before bytes now frames bodies answers end session =
    let known = known_left bytes session.left (flat_map frame frames) session.read in
    record {
      made = session.made;
      takes = session.takes;
      rest = known.0;
      split = known.2;
      ends = ends_at medium limit (length frames) session.made known.0 now end (subst (λ (left : Option (List ℕ)). SessionEnds medium limit (length frames) session.made left now end) known.1 session.ends);
    }

-- ---- they are those of the bytes

pub opposite : (b : Bool) → b ≡ true → b ≡ false → ⊥
opposite true is isnt = let never : true ≡ false = isnt in cc
opposite false is isnt = let never : false ≡ true = is in cc

pub no_frame_left : (rest : List ℕ) (more : List (List ℕ)) (after : List ℕ) (fault : Option FrameFault) → FramesEnd rest fault → AllByRecursion IsFrameBody more → rest ≡ flat_map frame more ++ after → more ≡ []
no_frame_left rest [] after fault ends legal is = refl
no_frame_left rest (bytes ∷ more) after fault ends legal is =
    absurd (ends_with_no_frame rest bytes (flat_map frame more ++ after) fault ends legal.0 (is ∙ frames_cons bytes more after))

record AllTaken (frames whole : List (List ℕ)) (end : Option ℕ) (fault : Option FrameFault) : Type 0 where
  all : frames ≡ whole
  end_is : end ≡ option_map frame_fault_code fault

all_taken : (limit count : ℕ) (made : Option ℕ) (rest after : List ℕ) (frames whole more : List (List ℕ)) (end : Option ℕ) (fault : Option FrameFault)
    → ((code : ℕ) → made ≡ Some code → is_end_of_frames (Some code) ≡ false) → AllByRecursion IsFrameBody more → FramesEnd after fault
    → whole ≡ frames ++ more → rest ≡ flat_map frame more ++ after → EndsAt limit count made rest end → is_end_of_frames end ≡ true → AllTaken frames whole end fault
all_taken limit count made rest after frames whole more end fault no_end legal ends_so parts left (at_frame code is end_is) here =
    absurd (opposite (is_end_of_frames (Some code)) (rw end_is at here) (no_end code is))
all_taken limit count made rest after frames whole more end fault no_end legal ends_so parts left (no_frame on found ends end_is) here =
    let nothing : more ≡ [] = no_frame_left rest more after found ends legal left in
    let same : rest ≡ after = left ∙ ap (λ (fs : List (List ℕ)). flat_map frame fs ++ after) nothing in
    record {
      all = sym (parts ∙ ap (λ (fs : List (List ℕ)). frames ++ fs) nothing ∙ append-nil frames);
      end_is = end_is ∙ ap (λ (f : Option FrameFault). option_map frame_fault_code f) (same_end after found fault (subst (λ (text : List ℕ). FramesEnd text found) same ends) ends_so);
    }
all_taken limit count made rest after frames whole more end fault no_end legal ends_so parts left (one_more on full bytes beyond_it legal_one is end_is) here =
    absurd (opposite (is_end_of_frames (Some 47)) (rw end_is at here) refl)
all_taken limit count made rest after frames whole more end fault no_end legal ends_so parts left (from_outside on code outside apart here_too end_is) here =
    absurd (opposite (is_end_of_frames (Some code)) (rw end_is at here) apart)

first_frames : (medium : Medium) (limit before : ℕ) (bytes : List ℕ) (frames whole : List (List ℕ)) (bodies : List Body) (answers : List Spoken) (end : Option ℕ) (fault : Option FrameFault)
    → (reading : Reading medium limit before bytes frames bodies answers end) → (of : AreFramesOf bytes whole fault) → Compared frames whole reading.rest of.rest → AreFirstFrames frames whole end fault
first_frames medium limit before bytes frames whole bodies answers end fault reading of (first more parts left) =
    let legal = all_parts IsFrameBody frames more (subst (λ (fs : List (List ℕ)). AllByRecursion IsFrameBody fs) parts of.begins.whole) in
    let made = session_no_end medium limit before frames bodies answers reading.made reading.takes in
    let all : is_end_of_frames end ≡ true → AllTaken frames whole end fault = all_taken limit (length frames) reading.made reading.rest of.rest frames whole more end fault made legal.1 of.ends parts left reading.ends in
    record { first = (more, parts); all = λ here. (all here).all; end_is = λ here. (all here).end_is }
first_frames medium limit before bytes frames whole bodies answers end fault reading of (beyond one more parts left) =
    let all = session_legal medium limit before frames bodies answers reading.made reading.takes in
    let legal = all_parts IsFrameBody whole (one ∷ more) (subst (λ (fs : List (List ℕ)). AllByRecursion IsFrameBody fs) parts all) in
    absurd (ends_with_no_frame of.rest one (flat_map frame more ++ reading.rest) fault of.ends legal.1.0 left)

-- the frames of a session are the first ones of the bytes, and all of them if the session ended as
-- frames do
pub takes_its_frames : (bytes : List ℕ) → TakesItsFrames bytes
takes_its_frames bytes medium limit before left frames whole bodies answers end fault session of =
    let reading = session_reads medium limit before bytes left frames bodies answers end session in
    first_frames medium limit before bytes frames whole bodies answers end fault reading of
    (compare frames whole reading.rest of.rest (session_legal medium limit before frames bodies answers reading.made reading.takes) of.begins.whole (sym reading.split ∙ of.begins.front))
