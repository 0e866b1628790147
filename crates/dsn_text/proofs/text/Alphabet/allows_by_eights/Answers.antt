-- All of a text is checked if its full groups and its last eight bytes are.
use Rattle.std.specs.Prelude.{◌≡◌, ℕ, ◌-◌, ◌*◌, ◌/◌, ◌≤◌, Bool, ◌&&◌, List, length, take, drop}
use Rattle.std.specs.List.{list_all}
use Rattle.std.proofs.Common.{arith}
use Rattle.std.proofs.Math.Seq.{take-add}
use Rattle.std.proofs.lemmas.Grind.{common_steps}
use Rattle.std.proofs.lemmas.List.{take_rest, take-append-drop}
use Rattle.std.proofs.lemmas.List.Folds.{list_all-append}
use Rattle.dsn_text.specs.inner.Kept.{allows}
use Rattle.dsn_text.proofs.text.Alphabet.allows_by_eights.Goals as goal

-- all elements pass if those before one place and those from an earlier place on do
all_by_overlap : {X : Type 0} (p : X → Bool) (xs : List X) (from to : ℕ) → from ≤ to → (list_all p (take to xs) && list_all p (drop from xs)) ≡ list_all p xs
all_by_overlap p xs from to order =
    grind (
      arith,
      common_steps,
      take-add from (to - from) xs,
      list_all-append p (take from xs) (take (to - from) (drop from xs)),
      list_all-append p (take from xs) (drop from xs),
      take-append-drop from xs,
      list_all-append p (take (to - from) (drop from xs)) (drop (to - from) (drop from xs)),
      take-append-drop (to - from) (drop from xs),
    )

pub returns : goal.returns
returns c = rw c.allows_all-2.ensures (rw c.allows_all-3.ensures (rw (take_rest c.args.text.now (length c.args.text.now - 8))
    (all_by_overlap (allows c.args.self) c.args.text.now (length c.args.text.now - 8) (length c.args.text.now / 8 * 8) (grind arith))))
