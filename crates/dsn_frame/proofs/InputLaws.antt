-- The frames of an input: reading them one by one finds them, and an input has one list of frames
-- and one end.
use Rattle.std.proofs.Common.{◌≡◌, ℕ, ◌+◌, ◌<◌, ◌≤◌, List, [], ◌∷◌, ◌++◌, length, take, drop, Option, Some, None, refl, sym, ap, subst, ◌∙◌, append_assoc, arith}
use Rattle.std.specs.Int.{w32, from_be_bytes, to_be_bytes}
use Rattle.std.specs.List.{flat_map, AllByRecursion}
use Rattle.std.proofs.lemmas.List.{append-nil, length-append, take_at, drop_at, take-append-le}
use Rattle.std.proofs.lemmas.List.Concat.{flat_map-cons}
use Rattle.dsn_frame.specs.bodies.FrameBody.{frame, longest_body, IsFrameBody}
use Rattle.dsn_frame.specs.Frame.{declared_length, FramesEnd, AreFramesOf, ReadsNone}
use Rattle.dsn_frame.specs.declared.frame_fault.FrameFault.{FrameFault}
use Rattle.dsn_frame.specs.declared.frame_fault.FrameFault.TheVariants.{NoMemory, TooLong, Empty, CutShort, Read}
use Rattle.dsn_frame.proofs.FrameLaws.{declared}

-- ---- reads from a source with known bytes

-- what follows the first four bytes doesn't change the length that they declare
same_length : (part rest : List ℕ) → 4 ≤ length part → declared_length (part ++ rest) ≡ declared_length part
same_length part rest long = ap (from_be_bytes w32) (take-append-le 4 part rest long)

-- a source without a whole frame ends so, if neither memory nor the device failed
pub none_ends : (input : List ℕ) (new : Option (List ℕ)) (fault : FrameFault) → ReadsNone (Some input) new fault → (fault ≡ Read → ⊥) → (fault ≡ NoMemory → ⊥) → FramesEnd input (Some fault)
none_ends input None fault none not_read not_memory = absurd none.consumed
none_ends input (Some rest) NoMemory none not_read not_memory = absurd (not_memory refl)
none_ends input (Some rest) Read none not_read not_memory = absurd (not_read refl)
none_ends input (Some rest) TooLong none not_read not_memory =
    let stops : (length none.part ≡ 4) × (longest_body < declared_length none.part) = none.stops in
    let declares : declared_length (none.part ++ rest) ≡ declared_length none.part = same_length none.part rest (omega arith) in
    subst (λ (text : List ℕ). (4 ≤ length text) × (longest_body < declared_length text)) (sym none.consumed)
    (omega (arith, length-append none.part rest), subst (λ (n : ℕ). longest_body < n) (sym declares) stops.1)
none_ends input (Some rest) Empty none not_read not_memory =
    let stops : (length none.part ≡ 4) × (declared_length none.part ≡ 0) = none.stops in
    let declares : declared_length (none.part ++ rest) ≡ declared_length none.part = same_length none.part rest (omega arith) in
    subst (λ (text : List ℕ). (4 ≤ length text) × (declared_length text ≡ 0)) (sym none.consumed)
    (omega (arith, length-append none.part rest), declares ∙ stops.1)
none_ends input (Some rest) CutShort none not_read not_memory =
    let whole : input ≡ none.part = none.consumed ∙ ap (λ (text : List ℕ). none.part ++ text) (none.ends refl) ∙ append-nil none.part in
    rw whole none.stops

-- ---- one list of frames

pub front_declares : (body rest : List ℕ) → IsFrameBody body → declared_length (frame body ++ rest) ≡ length body
front_declares body rest legal = declared (length body) (body ++ rest) (omega arith)

pub front_length : (body rest : List ℕ) → length (frame body ++ rest) ≡ 4 + (length body + length rest)
front_length body rest = omega (arith, length-append (frame body) rest, length-append (to_be_bytes w32 (length body)) body)

-- no frame begins at the end of the frames
pub ends_with_no_frame : (rest body more : List ℕ) (end : Option FrameFault) → FramesEnd rest end → IsFrameBody body → rest ≡ frame body ++ more → ⊥
ends_with_no_frame rest body more None ends legal is =
    let long : length rest ≡ 4 + (length body + length more) = ap length is ∙ front_length body more in
    omega (arith, ap length ends)
ends_with_no_frame rest body more (Some TooLong) ends legal is =
    let declares : declared_length rest ≡ length body = ap declared_length is ∙ front_declares body more legal in
    omega (arith, declares, ends.1)
ends_with_no_frame rest body more (Some Empty) ends legal is =
    let declares : declared_length rest ≡ length body = ap declared_length is ∙ front_declares body more legal in
    omega (arith, declares, ends.1)
ends_with_no_frame rest body more (Some CutShort) ends legal is =
    let declares : declared_length rest ≡ length body = ap declared_length is ∙ front_declares body more legal in
    let long : length rest ≡ 4 + (length body + length more) = ap length is ∙ front_length body more in
    omega (arith, declares, (ends.1 (omega arith)).1)
ends_with_no_frame rest body more (Some Read) ends legal is = absurd ends
ends_with_no_frame rest body more (Some NoMemory) ends legal is = absurd ends

-- two frames at the front of one input are the same
pub same_front : (a b x y : List ℕ) → IsFrameBody a → IsFrameBody b → frame a ++ x ≡ frame b ++ y → (a ≡ b) × (x ≡ y)
same_front a b x y legal_a legal_b is =
    let same : length a ≡ length b = sym (front_declares a x legal_a) ∙ ap declared_length is ∙ front_declares b y legal_b in
    let after : a ++ x ≡ b ++ y = ap (drop 4) is in (
      sym (take_at a x (length a) refl) ∙ ap (take (length a)) after ∙ take_at b y (length a) (sym same),
      sym (drop_at a x (length a) refl) ∙ ap (drop (length a)) after ∙ drop_at b y (length a) (sym same),
    )

same_frames : (bodies others : List (List ℕ)) (x y : List ℕ) (end ending : Option FrameFault)
    → AllByRecursion IsFrameBody bodies → AllByRecursion IsFrameBody others → FramesEnd x end → FramesEnd y ending
    → flat_map frame bodies ++ x ≡ flat_map frame others ++ y → (bodies ≡ others) × (x ≡ y)
same_frames [] [] x y end ending all all_others ends ending_so is = (refl, is)
same_frames [] (body ∷ others) x y end ending all all_others ends ending_so is =
    let front : x ≡ frame body ++ (flat_map frame others ++ y) = is ∙ ap (λ (text : List ℕ). text ++ y) (flat_map-cons frame body others) ∙ append_assoc (frame body) (flat_map frame others) y in
    absurd (ends_with_no_frame x body (flat_map frame others ++ y) end ends all_others.0 front)
same_frames (body ∷ bodies) [] x y end ending all all_others ends ending_so is =
    let front : y ≡ frame body ++ (flat_map frame bodies ++ x) = sym is ∙ ap (λ (text : List ℕ). text ++ x) (flat_map-cons frame body bodies) ∙ append_assoc (frame body) (flat_map frame bodies) x in
    absurd (ends_with_no_frame y body (flat_map frame bodies ++ x) ending ending_so all.0 front)
same_frames (a ∷ bodies) (b ∷ others) x y end ending all all_others ends ending_so is =
    let left : flat_map frame (a ∷ bodies) ++ x ≡ frame a ++ (flat_map frame bodies ++ x) = ap (λ (text : List ℕ). text ++ x) (flat_map-cons frame a bodies) ∙ append_assoc (frame a) (flat_map frame bodies) x in
    let right : flat_map frame (b ∷ others) ++ y ≡ frame b ++ (flat_map frame others ++ y) = ap (λ (text : List ℕ). text ++ y) (flat_map-cons frame b others) ∙ append_assoc (frame b) (flat_map frame others) y in
    let heads = same_front a b (flat_map frame bodies ++ x) (flat_map frame others ++ y) all.0 all_others.0 (sym left ∙ is ∙ right) in
    let tails = same_frames bodies others x y end ending all.1 all_others.1 ends ending_so heads.1 in
    (ap (λ (body : List ℕ). body ∷ bodies) heads.0 ∙ ap (λ (rest : List (List ℕ)). b ∷ rest) tails.0, tails.1)

-- a rest ends an input in one way
pub same_end : (rest : List ℕ) (a b : Option FrameFault) → FramesEnd rest a → FramesEnd rest b → a ≡ b
same_end rest None None p q = refl
same_end rest None (Some TooLong) p q = absurd (omega (arith, ap length p))
same_end rest None (Some Empty) p q = absurd (omega (arith, ap length p))
same_end rest None (Some CutShort) p q = absurd (omega (arith, ap length p))
same_end rest None (Some Read) p q = absurd q
same_end rest None (Some NoMemory) p q = absurd q
same_end rest (Some TooLong) None p q = absurd (omega (arith, ap length q))
same_end rest (Some TooLong) (Some TooLong) p q = refl
same_end rest (Some TooLong) (Some Empty) p q = absurd (omega (arith, p.1, q.1))
same_end rest (Some TooLong) (Some CutShort) p q = let legal = (q.1 p.0).0 in absurd (omega (arith, legal, p.1))
same_end rest (Some TooLong) (Some Read) p q = absurd q
same_end rest (Some TooLong) (Some NoMemory) p q = absurd q
same_end rest (Some Empty) None p q = absurd (omega (arith, ap length q))
same_end rest (Some Empty) (Some TooLong) p q = absurd (omega (arith, p.1, q.1))
same_end rest (Some Empty) (Some Empty) p q = refl
same_end rest (Some Empty) (Some CutShort) p q = let legal = (q.1 p.0).0 in absurd (omega (arith, legal, p.1))
same_end rest (Some Empty) (Some Read) p q = absurd q
same_end rest (Some Empty) (Some NoMemory) p q = absurd q
same_end rest (Some CutShort) None p q = absurd (omega (arith, ap length q))
same_end rest (Some CutShort) (Some TooLong) p q = let legal = (p.1 q.0).0 in absurd (omega (arith, legal, q.1))
same_end rest (Some CutShort) (Some Empty) p q = let legal = (p.1 q.0).0 in absurd (omega (arith, legal, q.1))
same_end rest (Some CutShort) (Some CutShort) p q = refl
same_end rest (Some CutShort) (Some Read) p q = absurd q
same_end rest (Some CutShort) (Some NoMemory) p q = absurd q
same_end rest (Some Read) b p q = absurd p
same_end rest (Some NoMemory) b p q = absurd p

-- an input has one list of frames, and one end
pub one_reading : (input : List ℕ) (bodies others : List (List ℕ)) (end ending : Option FrameFault) → AreFramesOf input bodies end → AreFramesOf input others ending → (bodies ≡ others) × (end ≡ ending)
one_reading input bodies others end ending p q =
    let same = same_frames bodies others p.rest q.rest end ending p.begins.whole q.begins.whole p.ends q.ends (sym p.begins.front ∙ q.begins.front) in
    (same.0, same_end q.rest end ending (subst (λ (rest : List ℕ). FramesEnd rest end) same.1 p.ends) q.ends)
