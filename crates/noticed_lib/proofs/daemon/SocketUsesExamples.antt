-- Uses: worked examples of what a port over a socket may give, and may not.
use Rattle.std.proofs.Common.{◌≡◌, ℕ, ◌⊎◌, inl, inr, [], ◌∷◌, refl, lit≤, arith}
use Rattle.dsn_crew.specs.agents.Port.{connection, done, failed}
use Rattle.noticed_lib.specs.daemon.SocketUses.{IsWithin}

-- two uses are two connections, and then it is done; or a connection and a failure
two_connections : IsWithin ⊥ 2 (connection ∷ connection ∷ done ∷ [])
two_connections = record { few = lit≤ tt; used_up = λ _. inl refl }

a_failure : IsWithin ⊥ 2 (connection ∷ failed ∷ [])
a_failure = record { few = lit≤ tt; used_up = λ is. inl refl }

-- if a watch may end the run, the port may be done before
ended : IsWithin (Unit {0}) 2 (connection ∷ done ∷ [])
ended = record { few = lit≤ tt; used_up = λ _. inr tt }

-- else it may not
neither : (◌≡◌ {A = ℕ} 1 2) ⊎ ⊥ → ⊥
neither (inl is) = let never : ⊥ = omega (arith, is) in never
neither (inr is) = is

not_done_early : IsWithin ⊥ 2 (connection ∷ done ∷ []) → ⊥
not_done_early is = neither (is.used_up refl)

-- and it never gives a third
no_third : IsWithin ⊥ 2 (connection ∷ connection ∷ connection ∷ []) → ⊥
no_third is = let never : ⊥ = omega (arith, is.few) in never
