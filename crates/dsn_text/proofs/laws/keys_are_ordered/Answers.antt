use Rattle.dsn_text.proofs.KeyOrderLemmas.{key_ord-key_cmp}
use Rattle.dsn_text.proofs.laws.keys_are_ordered.Goals as goal

pub returns : goal.returns
returns c first second = key_ord-key_cmp first second
