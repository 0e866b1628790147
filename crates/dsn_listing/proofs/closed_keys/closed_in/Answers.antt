use Rattle.std.proofs.Common.{◌∙◌, [], ◌∷◌, ◌++◌, List, ap, sym}
use Rattle.dsn_text.specs.declared.key.Key.{Key}
use Rattle.dsn_listing.proofs.ClosedKeysLemmas.{none_closed, one_closed}
use Rattle.dsn_listing.proofs.closed_keys.closed_in.Goals.{in-Some+in_ok-push, in_default}
use Rattle.dsn_listing.proofs.closed_keys.closed_in.Goals as goal

pub loop-entry-preserved : goal.loop-entry-preserved
loop-entry-preserved c =
    elim c.match-closed_key.branch [
      | in-Some+in_ok-push w ↦
          ap (λ v. v.items) w.keys-is ∙ w.in_ok-push.ensures.items
          ∙ ap (λ (l : List Key). l ++ w.in-Some.key ∷ []) c.loop-entry.invariant
          ∙ sym (one_closed c.args.entries.now c.loop-entry.entry-index c.entry-item.result w.in-Some.key c.loop-entry-test.true c.entry-item.is (sym w.in-Some.is ∙ c.closed_key.ensures))
      | in_default w ↦
          ap (λ v. v.items) w.keys-is ∙ c.loop-entry.invariant
          ∙ sym (none_closed c.args.entries.now c.loop-entry.entry-index c.entry-item.result c.loop-entry-test.true c.entry-item.is (sym w.in_default.is ∙ c.closed_key.ensures))
    ]
