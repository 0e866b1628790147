use Rattle.std.proofs.Common.{◌≡◌, [], rules, append_assoc}
use Rattle.dsn_outcome.proofs.OutcomeLemmas.{text-between}
use Rattle.dsn_outcome.proofs.outcome_texts.OutcomeTexts.new.Goals as goal

pub returns-clause-original : goal.returns-clause-original
returns-clause-original c =
    let none : c.in_ok-bytes.bytes.items ≡ [] = search rules in
    rw (
      c.append_cleaned-2.ensures.items,
      c.append_cleaned.ensures.items,
      c.append-7.ensures.items,
      c.append-6.ensures.items,
      c.append-5.ensures.items,
      c.append-4.ensures.items,
      c.append-3.ensures.items,
      c.append-2.ensures.items,
      c.append.ensures.items,
      none,
    )
    (simp append_assoc (text-between c.args.recipient.now c.args.original.now _))
