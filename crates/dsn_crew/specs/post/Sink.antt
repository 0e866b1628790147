-- Sinks: what they went through.
use Rattle.std.specs.Prelude.{◌≡◌, List, [], ◌∷◌}
use Rattle.dsn_outcome.specs.Letter.{Letter}

-- a sink that took these letters, in order, each once
abbrev pub Handed : {S : Type 0} → (S → Letter → S → Type 0) → S → List Letter → S → Type 0
Handed takes old [] new = new ≡ old
Handed {S} takes old (letter ∷ rest) new =
    (next : S) × takes old letter next × Handed takes next rest new
