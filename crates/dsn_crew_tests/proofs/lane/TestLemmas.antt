-- Tests: the halves of a lane, taken from the last agent's to the first's.
use Rattle.std.proofs.Common.{◌≡◌, ℕ, ◌+◌, ◌-◌, ◌<◌, List, [], ◌∷◌, ◌++◌, ap, ◌∙◌, arith}
use Rattle.dsn_crew.proofs.LaneHalfLemmas.{last_half}
use Rattle.dsn_crew.specs.lane.Halves.{Identity, Half, fresh_halves}

-- the last of the halves that are left
pub left_taken : {T : Type 0} (lane : Identity T) (left : ℕ) (all rest : List (Half T)) (last : Half T) → 0 < left → all ≡ fresh_halves lane 0 left → all ≡ rest ++ last ∷ [] → (rest ≡ fresh_halves lane 0 (left - 1)) × (last.lane ≡ lane) × (last.agent ≡ left - 1)
left_taken {T} lane left all rest last some fresh split =
    let more : ℕ = left - 1 in
    let is : left ≡ more + 1 = omega arith in
    let it = last_half lane 0 more all rest last (fresh ∙ ap (fresh_halves lane 0) is) split in
    let agent : last.agent ≡ 0 + more = ap (λ (e : Half T). e.agent) it.1 in
    (it.0, ap (λ (e : Half T). e.lane) it.1, omega arith)
