use Rattle.std.proofs.Common.{List, ◌∙◌, ap, subst, sym}
use Rattle.std.specs.Prelude.{IsPermutation}
use Rattle.std.proofs.lemmas.List.Sorted.{IsPermutation-trans}
use Rattle.dsn_ledger.specs.Forgetting.{closed_among}
use Rattle.dsn_text.specs.Key.{key_cmp}
use Rattle.dsn_text.specs.declared.key.Key.{Key}
use Rattle.dsn_listing.proofs.ClosedKeysLemmas.{closed_keys-represented, sorted-as, when-good}
use Rattle.dsn_listing.proofs.closed_keys.closed_keys_of.Goals as goal

pub returns : goal.returns
returns c = λ history stands. (
  IsPermutation-trans _ _ _ (closed_keys-represented c.args.book.now history stands)
      (subst (λ (keys : List Key). IsPermutation keys c.sort.new.self.items) (c.in-Ok.ensures ∙ ap closed_among c.entries.ensures.all) c.sort.ensures.permutation),
  sorted-as _ key_cmp _ c.keys_are_ordered.ensures (when-good c.sort.result _ (sym c.is_err.ensures.value ∙ c.if-is_err.false) c.sort.ensures.sorted),
)
