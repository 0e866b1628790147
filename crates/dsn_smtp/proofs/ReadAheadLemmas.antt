-- Bytes that were read ahead of a stream, and those that are given of them.
use Rattle.std.proofs.Common.{◌≡◌, ℕ, ◌+◌, List, ◌++◌, length, take, drop, sym, ap, ◌∙◌}
use Rattle.std.specs.Prelude.{slice_range}
use Rattle.std.proofs.lemmas.List.{drop-drop, take-append-drop, take_at}
use Rattle.std.proofs.lemmas.Slice.{between_is}

-- what is left of a part
left_of_part : (bytes : List ℕ) (start end count : ℕ) → slice_range bytes (start + count) end ≡ drop count (slice_range bytes start end)
left_of_part bytes start end count =
    between_is bytes (start + count) end ∙ sym (drop-drop count start (take end bytes)) ∙ ap (λ (l : List ℕ). drop count l) (sym (between_is bytes start end))

-- a part is what was given of it and what is left
pub given : (bytes more new : List ℕ) (start end count : ℕ) → new ≡ take count (slice_range bytes start end) → length new ≡ count
    → slice_range bytes start end ≡ take count (new ++ more) ++ slice_range bytes (start + count) end
given bytes more new start end count is long =
    sym (take-append-drop count (slice_range bytes start end))
    ∙ ap (λ (l : List ℕ). l ++ drop count (slice_range bytes start end)) (sym (take_at new more count long ∙ is))
    ∙ ap (λ (l : List ℕ). take count (new ++ more) ++ l) (sym (left_of_part bytes start end count))
