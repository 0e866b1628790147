-- Agents: the items of one agent in a list that grows at its back, and places in such a list.
use Rattle.std.proofs.Common.{◌≡◌, ◌≢◌, ◌⊎◌, ℕ, zero, suc, ◌==◌, List, [], ◌∷◌, ◌++◌, length, refl, ap, sym, ◌∙◌, inl, inr, eq-eqb, ne_eqb}
use Rattle.std.specs.Prelude.{Some}
use Rattle.std.specs.List.{slice_get}
use Rattle.std.proofs.lemmas.List.{append-nil}
use Rattle.std.proofs.lemmas.List.Elements.{filter-append}
use Rattle.dsn_outcome.specs.Agents.{from_agent}
use Rattle.dsn_crew.specs.lane.Lane.{IsNumbered}

-- the item after `front` is at the place `length front`
pub get_seam : {T : Type 0} (front : List T) (item : T) (rest : List T) → slice_get (front ++ item ∷ rest) (length front) ≡ Some item
get_seam [] item rest = refl
get_seam (first ∷ front) item rest = get_seam front item rest

-- an item of a list with one more is an item of the list, or the last one
pub get_snoc : {T : Type 0} (front : List T) (last : T) (place : ℕ) (item : T) → slice_get (front ++ last ∷ []) place ≡ Some item → (slice_get front place ≡ Some item) ⊎ ((place ≡ length front) × (last ≡ item))
get_snoc [] last zero item at = inr (refl, cc)
get_snoc [] last (suc place) item at = absurd cc
get_snoc (first ∷ front) last zero item at = inl at
get_snoc (first ∷ front) last (suc place) item at =
    elim (get_snoc front last place item at) [ inl here ↦ inl here | inr half ↦ inr (ap suc half.0, half.1) ]

module _ {T : Type 0} (agent : T → ℕ) where
  pub mine : (a : ℕ) (item : T) → agent item ≡ a → from_agent agent a (item ∷ []) ≡ item ∷ []
  mine a item is = rw (eq-eqb (agent item) a is) refl

  pub not_mine : (a : ℕ) (item : T) → agent item ≢ a → from_agent agent a (item ∷ []) ≡ []
  not_mine a item is_not = rw (ne_eqb (agent item) a is_not) refl

  pub more : (a : ℕ) (items : List T) (item : T) → from_agent agent a (items ++ item ∷ []) ≡ from_agent agent a items ++ from_agent agent a (item ∷ [])
  more a items item = filter-append (λ it. agent it == a) items (item ∷ [])

  pub more_mine : (a : ℕ) (items : List T) (item : T) → agent item ≡ a → from_agent agent a (items ++ item ∷ []) ≡ from_agent agent a items ++ item ∷ []
  more_mine a items item is = more a items item ∙ ap (λ (last : List T). from_agent agent a items ++ last) (mine a item is)

  pub more_not_mine : (a : ℕ) (items : List T) (item : T) → agent item ≢ a → from_agent agent a (items ++ item ∷ []) ≡ from_agent agent a items
  more_not_mine a items item is_not =
      more a items item ∙ (ap (λ (last : List T). from_agent agent a items ++ last) (not_mine a item is_not) ∙ append-nil (from_agent agent a items))

-- one more item keeps the numbering where its number is the next
pub numbered_more : {T : Type 0} (number : T → ℕ) (items : List T) (item : T) → IsNumbered number items → number item ≡ length items → IsNumbered number (items ++ item ∷ [])
numbered_more number items item before next place it at =
    elim (get_snoc items item place it at) [ inl here ↦ before place it here | inr half ↦ sym (ap number half.1) ∙ (next ∙ sym half.0) ]

pub numbered_none : {T : Type 0} (number : T → ℕ) → IsNumbered number []
numbered_none number place item at = absurd cc

module _ {T : Type 0} (agent : T → ℕ) where
  -- the items of an agent in a list that is split at one of them
  pub seam_mine : (a : ℕ) (front : List T) (item : T) (rest : List T) → agent item ≡ a → from_agent agent a (front ++ item ∷ rest) ≡ from_agent agent a front ++ item ∷ from_agent agent a rest
  seam_mine a front item rest is =
      filter-append (λ it. agent it == a) front (item ∷ rest)
      ∙ ap (λ (last : List T). from_agent agent a front ++ last) (rw (eq-eqb (agent item) a is) refl)
