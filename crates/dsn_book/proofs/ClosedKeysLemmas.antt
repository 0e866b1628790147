-- Closings: the keys that are closed, after a push, a release and a pass that drops the others.
use Rattle.std.proofs.Common.{◌≡◌, ℕ, zero, suc, ◌<◌, true, false, not, Bool, List, [], ◌∷◌, ◌++◌, filter, length, set, refl, ap, sym, ◌∙◌, arith}
use Rattle.std.specs.Prelude.{Option, Some, None, is_some}
use Rattle.std.specs.List.{AllByRecursion, HoldsAt, IsDistinct}
use Rattle.std.proofs.lemmas.List.Elements.{filter_map-append}
use Rattle.dsn_outcome.specs.History.{let_go}
use Rattle.dsn_text.proofs.KeyLemmas.{same_key_sym}
use Rattle.dsn_text.specs.Key.{same_key}
use Rattle.dsn_text.specs.declared.key.Key.{Key}
use Rattle.dsn_book.proofs.ClosingLemmas.{let_go-first}
use Rattle.dsn_book.specs.Closing.{keys_closed}
use Rattle.dsn_book.specs.inner.Closing.{has_key}

-- a new closing's key is last
pub keys_closed-push : (closings : List (Option Key)) (key : Key) → keys_closed (closings ++ Some key ∷ []) ≡ keys_closed closings ++ key ∷ []
keys_closed-push closings key = filter_map-append (λ closing. closing) closings (Some key ∷ [])

-- without those that were released the keys stay
pub keys_closed-held : (closings : List (Option Key)) → keys_closed (filter is_some closings) ≡ keys_closed closings
keys_closed-held [] = refl
keys_closed-held (None ∷ rest) = keys_closed-held rest
keys_closed-held (Some key ∷ rest) = ap (λ (keys : List Key). key ∷ keys) (keys_closed-held rest)

-- then there are as many closings as keys
pub length-held : (closings : List (Option Key)) → length (filter is_some closings) ≡ length (keys_closed closings)
length-held [] = refl
length-held (None ∷ rest) = length-held rest
length-held (Some key ∷ rest) = ap suc (length-held rest)

-- ---- a release

kept_step : (key own : Key) (rest : List (Option Key)) (same : Bool) → same_key key own ≡ same
    → keys_closed (filter (λ closing. not (has_key key closing)) rest) ≡ let_go key (keys_closed rest)
    → keys_closed (filter (λ closing. not (has_key key closing)) (Some own ∷ rest)) ≡ let_go key (own ∷ keys_closed rest)
kept_step key own rest true is after = rw (is, after) refl
kept_step key own rest false is after = rw (is, after) refl

-- without the closings of a key, the other keys are left
pub keys_closed-without : (key : Key) (closings : List (Option Key)) → keys_closed (filter (λ closing. not (has_key key closing)) closings) ≡ let_go key (keys_closed closings)
keys_closed-without key [] = refl
keys_closed-without key (None ∷ rest) = keys_closed-without key rest
keys_closed-without key (Some own ∷ rest) = kept_step key own rest (same_key key own) refl (keys_closed-without key rest)

-- a key behind one that differs from all behind it
apart-at : (own key : Key) (closings : List (Option Key)) (at : ℕ) → at < length closings → HoldsAt (λ closing. closing ≡ Some key) closings at → AllByRecursion (λ y. same_key own y ≡ false) (keys_closed closings) → same_key own key ≡ false
apart-at own key [] at inside here apart = absurd (omega (arith, inside))
apart-at own key (None ∷ rest) zero inside here apart = absurd (cc (here None))
apart-at own key (Some k ∷ rest) zero inside here apart = let same : Some k ≡ Some key = here None in cc (same, apart.0)
apart-at own key (None ∷ rest) (suc at) inside here apart = apart-at own key rest at (omega (arith, inside)) here apart
apart-at own key (Some k ∷ rest) (suc at) inside here apart = apart-at own key rest at (omega (arith, inside)) here apart.1

-- a key that is released where its closing is leaves the other keys
pub keys_closed-set : (key : Key) (closings : List (Option Key)) (at : ℕ) → at < length closings → HoldsAt (λ closing. closing ≡ Some key) closings at → IsDistinct same_key (keys_closed closings) → keys_closed (set closings at None) ≡ let_go key (keys_closed closings)
unfolding IsDistinct
keys_closed-set key [] at inside here apart = absurd (omega (arith, inside))
keys_closed-set key (None ∷ rest) zero inside here apart = absurd (cc (here None))
keys_closed-set key (Some own ∷ rest) zero inside here apart =
    let same : Some own ≡ Some key = here None in
    let is : own ≡ key = cc same in
    sym (rw is (let_go-first key (keys_closed rest) (rw (← is) apart)))
keys_closed-set key (None ∷ rest) (suc at) inside here apart = keys_closed-set key rest at (omega (arith, inside)) here apart
keys_closed-set key (Some own ∷ rest) (suc at) inside here apart =
    let other : same_key key own ≡ false = same_key_sym key own ∙ apart-at own key rest at (omega (arith, inside)) here apart.0 in
    rw other (ap (λ (keys : List Key). own ∷ keys) (keys_closed-set key rest at (omega (arith, inside)) here apart.1))
