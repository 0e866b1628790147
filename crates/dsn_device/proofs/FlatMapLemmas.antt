-- The texts of a list's items, one behind another, with one item more.
use Rattle.std.proofs.Common.{◌≡◌, ℕ, ◌+◌, ◌<◌, List, ◌++◌, length, take, get_or, refl, append-nil, add-one, [], ◌∷◌, append_assoc}
use Rattle.std.proofs.Math.Seq.{take-suc}
use Rattle.std.proofs.lemmas.Grind.{flat_map-append}
use Rattle.std.specs.List.{flat_map}

-- the pieces of a line, and one more of them
pub flat_map-take-more : {X : Type 0} (f : X → List ℕ) (xs : List X) (i : ℕ) (d : X) → i < length xs
    → flat_map f (take i xs) ++ f (get_or xs i d) ≡ flat_map f (take (i + 1) xs)
flat_map-take-more f xs i d within =
    rw (add-one, take-suc xs i d within, flat_map-append) (simp append-nil refl)

pub flat_map-more : {A : Type 0} (f : A → List ℕ) (xs : List A) (x : A) → flat_map f (xs ++ x ∷ []) ≡ flat_map f xs ++ f x
flat_map-more f [] x = append-nil (f x)
flat_map-more f (first ∷ rest) x =
    let more = flat_map-more f rest x in
    rw more (simp append_assoc)
