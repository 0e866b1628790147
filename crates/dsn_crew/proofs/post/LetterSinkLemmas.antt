-- Letter sinks: what they have sent are the parcels of their letters, one more at each, and what the close finds taken.
use Rattle.std.proofs.Common.{◌≡◌, ℕ, ◌+◌, ◌<◌, ◌≤◌, ◌↔◌, Bool, true, false, All, List, [], ◌∷◌, ◌++◌, length, ap, sym, ◌∙◌, subst, append_assoc, length-append, arith}
use Rattle.std.specs.Prelude.{IfErr, OnOk, Result, Ok, Err, Some, None, is_ok}
use Rattle.std.proofs.Math.Dec.{eqb}
use Rattle.std.proofs.lemmas.Bool.{eq-eqb, eqb-true}
use Rattle.std.proofs.lemmas.List.{append-nil}
use Rattle.std.proofs.lemmas.List.Elements.{All-head}
use Rattle.std.proofs.lemmas.List.Sums.{sum_by-cons}
use Rattle.std.specs.List.{sum_by}
use mathlib.Core.List.{IsPrefix}
use Rattle.dsn_crew.specs.lane.Halves.{Half, Identity}
use Rattle.dsn_outcome.specs.Agents.{from_agent}
use Rattle.dsn_outcome.specs.Letter.{Letter}
use Rattle.dsn_crew.specs.post.LetterSink.{LetterSink, TakesLetter}
use Rattle.dsn_crew.specs.post.Sink.{Handed}
use Rattle.dsn_crew.specs.post.Parcel.{Parcel}
use Rattle.dsn_crew.specs.inner.LetterSource.{letters_of, parcels_of}
use Rattle.dsn_crew.proofs.post.ParcelLemmas.{all_letters, all_of_one, few_letters, first_letters, length-parcels, letter_more, letters_of-append, mark_last, marked_all, parcel}

-- a sink that took letters one after another has sent them, after those from before
pub handed_letters : (old new : LetterSink) (letters : List Letter) → Handed TakesLetter old letters new → (new.letters ≡ old.letters ++ letters) × (new.lane ≡ old.lane)
handed_letters old new [] same =
    (ap (λ (sink : LetterSink). sink.letters) same ∙ sym (append-nil old.letters), ap (λ (sink : LetterSink). sink.lane) same)
handed_letters old new (letter ∷ rest) handed =
    let later = handed_letters handed.0 new rest handed.2 in (
      later.0 ∙ (ap (λ (sink : LetterSink). sink.letters ++ rest) handed.1 ∙ append_assoc old.letters (letter ∷ []) rest),
      later.1 ∙ ap (λ (sink : LetterSink). sink.lane) handed.1,
    )

pub takes_letter : (old : LetterSink) (lane : Identity Parcel) (before letters : List Letter) (letter : Letter) → lane ≡ old.lane → before ≡ old.letters → letters ≡ before ++ letter ∷ [] → TakesLetter old letter (record { lane = lane; letters = letters })
takes_letter old lane before letters letter lane_is before_is more =
    let letters_are = more ∙ ap (λ (ls : List Letter). ls ++ letter ∷ []) before_is in λ i. record { lane = lane_is i; letters = letters_are i }

-- what was sent are the parcels of letters, and no end mark
abbrev pub IsSent : List Parcel → Bool → Type 0
IsSent sent marked = sent ≡ parcels_of (letters_of sent) marked

module _ (sent new : List Parcel) (number : ℕ) (kept : IsSent sent false) (count : number ≡ length sent) where
  number_is : number ≡ length (letters_of sent)
  number_is = count ∙ (ap length kept ∙ length-parcels 0 (letters_of sent))

  pub sent_more : (letter : Letter) → new ≡ sent ++ parcel number (Some letter) ∷ [] → (letters_of new ≡ letters_of sent ++ letter ∷ []) × IsSent new false
  sent_more letter is =
      let letters : letters_of new ≡ letters_of sent ++ letter ∷ [] = ap letters_of is ∙ letters_of-append sent (parcel number (Some letter) ∷ []) in (
        letters,
        is
            ∙ ((λ i. kept i ++ parcel (number_is i) (Some letter) ∷ [])
            ∙ (sym (letter_more (letters_of sent) letter) ∙ ap (λ (ls : List Letter). parcels_of ls false) (sym letters))),
      )

  sent_mark : new ≡ sent ++ parcel number None ∷ [] → (letters_of new ≡ letters_of sent) × IsSent new true
  sent_mark is =
      let letters : letters_of new ≡ letters_of sent =
      ap letters_of is ∙ (letters_of-append sent (parcel number None ∷ []) ∙ append-nil (letters_of sent)) in (
        letters,
        is
            ∙ ((λ i. kept i ++ parcel (number_is i) None ∷ [])
            ∙ (sym (mark_last (letters_of sent)) ∙ ap (λ (ls : List Letter). parcels_of ls true) (sym letters))),
      )

  -- the letter was sent, or the lane is lost
  pub after_hand : {E : Type 0} (Q : E → Type 0) (letter : Letter) (result : Result (Unit {0}) E) → number < 4294967294 → OnOk result (new ≡ sent ++ parcel number (Some letter) ∷ []) → IfErr result (λ e. Q e × (new ≡ sent)) → IsSent new false × (length new < 4294967295)
  after_hand Q letter (Ok done) few ok lost =
      let long = ap length ok ∙ length-append sent (parcel number (Some letter) ∷ []) in
      ((sent_more letter ok).1, omega (arith, count))
  after_hand Q letter (Err e) few ok lost =
      let long = ap length lost.1 in
      (subst (λ (it : List Parcel). IsSent it false) (sym lost.1) kept, omega (arith, count))

  -- the end mark was sent, or the lane is lost
  pub after_mark : {E : Type 0} (Q : E → Type 0) (result : Result (Unit {0}) E) → OnOk result (new ≡ sent ++ parcel number None ∷ []) → IfErr result (λ e. Q e × (new ≡ sent)) → (letters_of new ≡ letters_of sent) × IsSent new (is_ok result)
  after_mark Q (Ok done) ok lost = sent_mark ok
  after_mark Q (Err e) ok lost = (ap letters_of lost.1, subst (λ (it : List Parcel). IsSent it false) (sym lost.1) kept)

-- what was taken is the first of what the one sending half of the lane sent
pub first_sent : (halves : List (Half Parcel)) (half : Half Parcel) (taken : List Parcel) → halves ≡ half ∷ [] → half.agent ≡ 0 → All (λ (it : Half Parcel). IsPrefix (from_agent (λ (p : Parcel). 0) it.agent taken) it.sent) halves → IsPrefix taken half.sent
first_sent halves half taken one agent all =
    let here = All-head (λ (it : Half Parcel). IsPrefix (from_agent (λ (p : Parcel). 0) it.agent taken) it.sent) half [] (subst (All (λ (it : Half Parcel). IsPrefix (from_agent (λ (p : Parcel). 0) it.agent taken) it.sent)) one all) in
    subst (λ (items : List Parcel). IsPrefix items half.sent) (ap (λ (a : ℕ). from_agent (λ (p : Parcel). 0) a taken) agent ∙ all_of_one taken) here

-- ---- the close

module _ (halves : List (Half Parcel)) (half : Half Parcel) (taken : List Parcel) (came sent : List Letter) (came_marked sent_marked : Bool) (one : halves ≡ half ∷ []) (agent : half.agent ≡ 0) (taken_is : taken ≡ parcels_of came came_marked) (sent_is : half.sent ≡ parcels_of sent sent_marked) (all : All (λ (it : Half Parcel). IsPrefix (from_agent (λ (p : Parcel). 0) it.agent taken) it.sent) halves) where
  closed : IsPrefix (parcels_of came came_marked) (parcels_of sent sent_marked)
  closed = subst (IsPrefix (parcels_of came came_marked)) sent_is (subst (λ (items : List Parcel). IsPrefix items half.sent) taken_is (first_sent halves half taken one agent all))

  -- the letters that came are the first of those that were sent
  pub closed_first : IsPrefix came sent
  closed_first = first_letters came sent came_marked sent_marked closed

  -- and all of them where the end mark came
  pub closed_marked : came_marked ≡ true → came ≡ sent
  closed_marked marked = marked_all came sent sent_marked (subst (λ (it : Bool). IsPrefix (parcels_of came it) (parcels_of sent sent_marked)) marked closed)

  module _ (count waiting : ℕ) (counted : count ≡ length taken) (split : count + waiting ≡ sum_by (λ (it : Half Parcel). length it.sent) halves) where
    total : length (parcels_of came came_marked) + waiting ≡ length (parcels_of sent sent_marked)
    total =
        let took = counted ∙ ap length taken_is in
        let last = split ∙ (ap (sum_by (λ (it : Half Parcel). length it.sent)) one ∙ sum_by-cons (λ (it : Half Parcel). length it.sent) half []) in
        let long = ap length sent_is in omega arith

    -- all of them came but as many as wait
    pub closed_few : length sent ≤ length came + waiting
    closed_few = few_letters came sent came_marked sent_marked waiting closed total

    -- nothing waits exactly where all of them came, and the end mark after them if it was sent
    pub closed_all : (eqb waiting 0 ≡ true) ↔ ((came ≡ sent) × (came_marked ≡ sent_marked))
    closed_all = (
      λ none. all_letters came sent came_marked sent_marked closed (let zero = eqb-true waiting 0 none in omega (arith, total)),
      λ same. eq-eqb waiting 0 (
          let long : length (parcels_of came came_marked) ≡ length (parcels_of sent sent_marked) = λ i. length (parcels_of (same.0 i) (same.1 i)) in
          omega (arith, total)
          ),
    )
