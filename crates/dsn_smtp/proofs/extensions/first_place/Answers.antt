use Rattle.std.proofs.Common.{◌≡◌, ℕ, ◌≤◌, cond, Some, None, ltb, length, arith, rules, tests}
use Rattle.std.specs.Prelude.{Bool, ◌==◌}
use Rattle.std.specs.List.{position_or_len}
use Rattle.std.specs.Option.{unwrap_or}
use Rattle.std.proofs.lemmas.Iterator.{YieldsList-from_slice}
use Rattle.std.proofs.lemmas.Iterator.Search.{position_from_yields_List}
use Rattle.std.proofs.lemmas.List.Sums.{prefix_len-le-length}
use Rattle.dsn_smtp.proofs.extensions.first_place.Goals as goal

-- the place if it is within the list, or else the list's length
place-within : (place size : ℕ) → place ≤ size → unwrap_or (cond (ltb place size) (Some place) None) size ≡ place
place-within place size within = grind arith

pub returns-clause-place : goal.returns-clause-place
returns-clause-place c =
    let text = c.args.text.now in
    let test : ℕ → Bool = λ byte. byte == c.args.sought in
    let found : c.position.result ≡ cond (ltb (position_or_len test text) (length text)) (Some (position_or_len test text)) None =
    position_from_yields_List test _ _ c.position.result c.position.ensures.ran (YieldsList-from_slice text cc) (λ x b q k. search (rules, tests)) in
    rw (c.unwrap_or.ensures, found) (place-within _ _ (prefix_len-le-length _ text))
