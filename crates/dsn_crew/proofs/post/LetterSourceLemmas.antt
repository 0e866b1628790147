-- Letter sources: what they took are the parcels of their letters, one more at each.
use Rattle.std.proofs.Common.{◌≡◌, ℕ, Bool, true, false, List, [], ◌∷◌, ◌++◌, length, ap, sym, ◌∙◌}
use Rattle.std.specs.Prelude.{Some, None}
use Rattle.dsn_crew.specs.lane.Halves.{Identity, Out}
use Rattle.dsn_outcome.specs.Agents.{from_agent}
use Rattle.dsn_outcome.specs.Letter.{Letter}
use Rattle.dsn_crew.specs.post.LetterSource.{LetterSource}
use Rattle.dsn_crew.specs.inner.LetterSource.{taken_parcels}
use Rattle.dsn_crew.specs.post.Parcel.{Parcel}
use Rattle.dsn_crew.specs.inner.LetterSource.{letters_of, parcels_of}
use Rattle.dsn_crew.proofs.post.ParcelLemmas.{all_of_one, length-parcels, letter_more, letters_back, mark_last, parcel}

abbrev pub out : Identity Parcel → ℕ → ℕ → List Parcel → Out Parcel
out lane first past taken = record { lane = lane; first = first; past = past; taken = taken }

abbrev pub source : Identity Parcel → List Letter → Bool → LetterSource
source lane letters marked = record { lane = lane; letters = letters; marked = marked }

-- a receiving half that took one parcel more
module _ (old new : Out Parcel) (item : Parcel) (letters : List Letter) (kept : old ≡ taken_parcels (source old.lane letters false)) (lane : new.lane ≡ old.lane) (first : new.first ≡ old.first) (past : new.past ≡ old.past) (taken : new.taken ≡ old.taken ++ item ∷ []) (number : item.number ≡ length (from_agent (λ (it : Parcel). 0) 0 old.taken)) where
  old_taken : old.taken ≡ parcels_of letters false
  old_taken = ap (λ (o : Out Parcel). o.taken) kept

  -- its number is that of the letters before it
  pub number_is : item.number ≡ length letters
  number_is = number ∙ (ap length (all_of_one old.taken ∙ old_taken) ∙ length-parcels 0 letters)

  at : (taken' : List Parcel) → new.taken ≡ taken' → new ≡ out new.lane 0 1 taken'
  at taken' is = λ i. record {
    lane = new.lane;
    first = (first ∙ ap (λ (o : Out Parcel). o.first) kept) i;
    past = (past ∙ ap (λ (o : Out Parcel). o.past) kept) i;
    taken = is i;
  }

  -- which was a letter
  module _ (letter : Letter) (some : item.letter ≡ Some letter) where
    some_taken : new.taken ≡ parcels_of (letters ++ letter ∷ []) false
    some_taken = taken ∙ ((λ i. old_taken i ++ parcel (number_is i) (some i) ∷ []) ∙ sym (letter_more letters letter))

    pub some_letters : letters_of new.taken ≡ letters ++ letter ∷ []
    some_letters = ap letters_of some_taken ∙ letters_back 0 (letters ++ letter ∷ []) false

    pub some_kept : new ≡ taken_parcels (source new.lane (letters_of new.taken) false)
    some_kept = at _ some_taken ∙ ap (λ (ls : List Letter). out new.lane 0 1 (parcels_of ls false)) (sym some_letters)

  -- or the end mark
  module _ (none : item.letter ≡ None) where
    none_taken : new.taken ≡ parcels_of letters true
    none_taken = taken ∙ ((λ i. old_taken i ++ parcel (number_is i) (none i) ∷ []) ∙ sym (mark_last letters))

    pub none_letters : letters_of new.taken ≡ letters
    none_letters = ap letters_of none_taken ∙ letters_back 0 letters true

    pub none_kept : new ≡ taken_parcels (source new.lane (letters_of new.taken) true)
    none_kept = at _ none_taken ∙ ap (λ (ls : List Letter). out new.lane 0 1 (parcels_of ls true)) (sym none_letters)

-- what the tactics use where a parcel is taken
pub ruleset parcels = (none_kept, none_letters, some_kept, some_letters)
