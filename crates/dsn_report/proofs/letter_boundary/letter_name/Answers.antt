use Rattle.std.proofs.Common.{◌≡◌, ◌<◌, ◌^◌, true, List, ℕ, rules, arith, subst, sym}
use Rattle.std.specs.List.{list_all}
use Rattle.dsn_text.specs.Text.{IsQueueId}
use Rattle.dsn_text.specs.declared.key.Key.{Key}
use Rattle.dsn_report.specs.Boundary.{letter_name}
use Rattle.dsn_report.specs.inner.Boundary.{is_delimiter_byte}
use Rattle.dsn_report.proofs.BoundaryLemmas.{plain-name}
use Rattle.dsn_report.proofs.letter_boundary.letter_name.Goals as goal

pub returns-clause-plain : goal.returns-clause-plain
returns-clause-plain c =
    let letter = c.args.letter.now in
    let is : c.push_number.new.self ≡ letter_name letter = search rules in
    let legal : IsQueueId letter.key.id = subst (λ (key : Key). IsQueueId key.id) c.key-key.ensures.same c.bytes.ensures.legal in
    let few : letter.draft.moment < 2 ^ 64 = omega (arith, c.moment.ensures, c.seconds.ensures.value, c.seconds.ensures.bound) in
    subst (λ (text : List ℕ). list_all is_delimiter_byte text ≡ true) (sym is) (plain-name letter legal few)
