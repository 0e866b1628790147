-- A letter's number says how many came before it.
use Rattle.std.proofs.Common.{◌≡◌, ap, sym, ◌∙◌, ◌∷◌, [], ◌++◌, Bool, length, refl, subst, length-append, arith}
use Rattle.std.specs.Option.{option_to_list}
use Rattle.std.specs.Prelude.{IfSome, IsSome, Option}
use Rattle.dsn_outcome.specs.Agents.{from_agent}
use Rattle.dsn_crew.specs.inner.LetterSource.{taken_parcels}
use Rattle.dsn_crew.specs.post.Parcel.{Parcel}
use Rattle.dsn_crew.specs.inner.LetterSource.{letters_of}
use Rattle.dsn_crew.proofs.post.LetterSourceLemmas.{number_is, some_letters, source}
use Rattle.dsn_crew.proofs.post.letter_source.LetterSource.take_waiting.Goals as goal

pub returns-in-Some-clause-few : goal.returns-in-Some-clause-few
returns-in-Some-clause-few g c = λ _.
    let kept = c.self.invariant ∙ ap (λ (marked : Bool). taken_parcels (source c.self.inside.parcels.lane (letters_of c.self.inside.parcels.taken) marked)) c.if-self.false in
    let letter = ap (λ (parcel : Parcel). parcel.letter) (sym c.parcel.view_is) ∙ c.in-Some.is in
    let same = c.in-Ok-Some.ensures.same in
    let taken = c.in-Ok-Some.ensures.taken ∙ ap (λ (it : Option Parcel). c.self.inside.parcels.taken ++ option_to_list it) c.in-Ok-Some.field-0-is in
    let counted = subst (λ (it : Option Parcel). IfSome it (λ item. item.number ≡ length (from_agent (λ (p : Parcel). 0) 0 c.self.inside.parcels.taken))) c.in-Ok-Some.field-0-is c.in-Ok-Some.ensures.number in
    let letters = some_letters _ _ _ _ kept same.0 same.1 same.2 taken counted c.in-Some.letter letter in
    let one_more = ap length letters ∙ length-append (letters_of c.self.inside.parcels.taken) (c.in-Some.letter ∷ []) in
    let number = number_is _ _ _ _ kept same.0 same.1 same.2 taken counted in
    let number_of = ap (λ (parcel : Parcel). parcel.number) c.parcel.view_is in
    let few = c.parcel.invariant (subst IsSome (sym c.in-Some.is) refl) in omega arith
