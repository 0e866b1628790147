-- Each input has frames and an end.
use Rattle.std.proofs.Common.{◌≡◌, ℕ, zero, suc, ◌+◌, ◌-◌, ◌<◌, ◌≤◌, List, [], ◌∷◌, ◌++◌, length, take, drop, Option, Some, None, inl, inr, refl, sym, ap, subst, ◌∙◌, append_assoc, arith}
use Rattle.std.proofs.lemmas.Bool.{cases_lt}
use Rattle.std.proofs.lemmas.List.{nil_from_length, length-take, length-drop, take-append-drop}
use Rattle.std.proofs.lemmas.List.Concat.{flat_map-cons}
use Rattle.std.proofs.lemmas.Nat.{be_bytes_4}
use Rattle.std.specs.Int.{w32, to_be_bytes}
use Rattle.std.specs.List.{flat_map}
use Rattle.dsn_frame.specs.bodies.FrameBody.{frame, longest_body, IsFrameLength, IsFrameBody}
use Rattle.dsn_frame.proofs.bodies.FieldLaws.{IsBytes, IsBytes-take, IsBytes-after}
use Rattle.dsn_frame.specs.Frame.{declared_length, FramesEnd, AreFramesOf}
use Rattle.dsn_frame.specs.declared.frame_fault.FrameFault.{FrameFault}
use Rattle.dsn_frame.specs.declared.frame_fault.FrameFault.TheVariants.{TooLong, Empty, CutShort}

-- a front of this length is a frame of the body after its length
frame_at : (input : List ℕ) → IsBytes input → 4 + declared_length input ≤ length input → IsFrameLength (declared_length input)
    → (body : List ℕ) × (rest : List ℕ) × IsFrameBody body × (input ≡ frame body ++ rest) × (length rest < length input)
frame_at input fits long legal =
    let size = declared_length input in
    let head = take 4 input in
    let after = drop 4 input in
    let body = take size after in
    let rest = drop size after in
    let four : length head ≡ 4 = omega (arith, length-take 4 input) in
    let after_length : length after ≡ length input - 4 = length-drop 4 input in
    let body_length : length body ≡ size = omega (arith, length-take size after) in
    let rest_length : length rest ≡ length after - size = length-drop size after in
    let written : to_be_bytes w32 size ≡ head = be_bytes_4 head _ four (IsBytes-take 4 input fits) refl in
    let legal_body : IsFrameBody body = rw body_length legal in
    let framed : frame body ≡ head ++ body = ap (λ (n : ℕ). to_be_bytes w32 n ++ body) body_length ∙ ap (λ (text : List ℕ). text ++ body) written in
    let whole : input ≡ frame body ++ rest = sym (take-append-drop 4 input) ∙ ap (λ (text : List ℕ). head ++ text) (sym (take-append-drop size after)) ∙ sym (append_assoc head body rest) ∙ ap (λ (text : List ℕ). text ++ rest) (sym framed) in
    (body, rest, legal_body, whole, omega arith)

Frames : List ℕ → Type 0
Frames input = (bodies : List (List ℕ)) × (end : Option FrameFault) × AreFramesOf input bodies end

ends_here : (input : List ℕ) (end : Option FrameFault) → FramesEnd input end → Frames input
unfolding Frames
ends_here input end ends = ([], end, record { rest = input; begins = record { front = refl; whole = tt }; ends = ends })

goes_on : (input body rest : List ℕ) → IsFrameBody body → input ≡ frame body ++ rest → Frames rest → Frames input
unfolding Frames
goes_on input body rest legal is frames =
    let more = frames.2 in (
      body ∷ frames.0,
      frames.1,
      record {
        rest = more.rest;
        begins = record {
          front = is ∙ ap (λ (text : List ℕ). frame body ++ text) more.begins.front ∙ sym (append_assoc (frame body) (flat_map frame frames.0) more.rest)
              ∙ ap (λ (text : List ℕ). text ++ more.rest) (sym (flat_map-cons frame body frames.0));
          whole = (legal, more.begins.whole);
        };
        ends = more.ends;
      },
    )

frames_within : (fuel : ℕ) (input : List ℕ) → length input ≤ fuel → IsBytes input → Frames input
frames_within zero input short fits = ends_here input None (nil_from_length input (omega arith))
frames_within (suc fuel) input short fits =
    elim (cases_lt 0 (length input)) [
      | inr none ↦ ends_here input None (nil_from_length input (omega arith))
      | inl some ↦ elim (cases_lt (length input) 4) [
        | inl cut ↦ ends_here input (Some CutShort) (some, λ h. absurd (omega arith))
        | inr four ↦ elim (cases_lt longest_body (declared_length input)) [
          | inl long ↦ ends_here input (Some TooLong) (four, long)
          | inr bounded ↦ elim (cases_lt 0 (declared_length input)) [
            | inr empty ↦ ends_here input (Some Empty) (four, omega arith)
            | inl filled ↦ elim (cases_lt (length input) (4 + declared_length input)) [
              | inl cut ↦ ends_here input (Some CutShort) (some, λ h. ((omega arith, bounded), cut))
              | inr whole ↦
                  let found = frame_at input fits whole (omega arith, bounded) in
                  let left : IsBytes found.1 = IsBytes-after (frame found.0) found.1 (subst IsBytes found.3 fits) in
                  goes_on input found.0 found.1 found.2 found.3 (frames_within fuel found.1 (omega (arith, found.4)) left)
            ]
          ]
        ]
      ]
    ]

-- each input has a list of frames and an end
pub frames_exist : (input : List ℕ) → IsBytes input → (bodies : List (List ℕ)) × (end : Option FrameFault) × AreFramesOf input bodies end
unfolding Frames
frames_exist input fits = frames_within (length input) input (omega arith) fits
