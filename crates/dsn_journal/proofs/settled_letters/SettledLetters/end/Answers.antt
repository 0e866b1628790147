use Rattle.std.proofs.Common.{◌≡◌, ◌-◌, ◌≤◌, List, ℕ, arith, get_or, length, rules, subst, sym}
use Rattle.std.proofs.lemmas.List.{get_or_read}
use Rattle.dsn_journal.specs.SettledLetters.{first_edge, last_edge}
use Rattle.dsn_journal.proofs.EdgeBytes.{first_le_last}
use Rattle.dsn_journal.proofs.settled_letters.SettledLetters.end.Goals as goal

pub returns-clause-above : goal.returns-clause-above
returns-clause-above c =
    let edges = c.self.inside.edges.items in
    let above : first_edge edges ≤ last_edge edges = first_le_last edges c.self.invariant.rise c.self.invariant.odd in
    let at : c.index.result.now ≡ get_or edges (length edges - 1) c.index.result.now = search rules in
    let is : c.index.result.now ≡ last_edge edges = get_or_read edges (length edges - 1) c.index.result.now (omega (arith, c.self.invariant.odd)) at 0 in
    subst (λ (es : List ℕ). first_edge es ≤ c.index.result.now) c.self.view_is (subst (λ (n : ℕ). first_edge edges ≤ n) (sym is) above)
