-- Posting: what a lane of letters said at its end.
use Rattle.std.proofs.Common.{◌≡◌, ◌↔◌, ℕ, ◌+◌, ◌≤◌, Bool, true, List, [], ◌∷◌, ◌++◌, length, refl, ap, sym, ◌∙◌, true≢false, length-append, arith}
use Rattle.std.specs.Prelude.{Option, Some, None, is_none}
use Rattle.std.proofs.lemmas.Option.{none-some}
use mathlib.Core.List.{IsPrefix}
use Rattle.dsn_outcome.specs.Letter.{Letter}
use Rattle.dsn_crew.specs.declared.lane.lane_gone.LaneGone.{LaneGone}

-- no more letters are left than came, if none was left before
pub left_within : (end letters : List Letter) (unsent before : ℕ) → length end ≤ unsent → before ≡ 0 → unsent ≤ before + length letters → length end ≤ length letters
left_within end letters unsent before is none few = omega arith

-- a prefix of an empty list is empty
pub none_first : (letters sent : List Letter) → IsPrefix letters sent → sent ≡ [] → letters ≡ []
none_first [] sent is none = refl
none_first (letter ∷ rest) sent is none =
    let long = ap length (is.1 ∙ none) in
    let split = length-append (letter ∷ rest) is.0 in absurd (omega arith)

-- no lane was lost exactly if the end mark came, and so all letters
pub whole_unlost : (lost : Option LaneGone) (marked : Bool) (letters sent : List Letter) → marked ≡ is_none lost → (marked ≡ true → letters ≡ sent) → (lost ≡ None) ↔ ((marked ≡ true) × (letters ≡ sent))
whole_unlost None marked letters sent is came = (λ none. (is, came is), λ whole. refl)
whole_unlost (Some gone) marked letters sent is came =
    (λ none. absurd (none-some gone (sym none)), λ whole. absurd (true≢false (sym whole.0 ∙ is)))
