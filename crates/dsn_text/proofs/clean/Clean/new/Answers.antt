use Rattle.std.proofs.Common.{rules}
use Rattle.dsn_text.proofs.TextLemmas.{IsClean-clean_text}
use Rattle.dsn_text.proofs.clean.Clean.new.Goals as goal

pub invariant_of-result : goal.invariant_of-result
invariant_of-result c = rw c.in_ok-bytes.ensures.kept (IsClean-clean_text c.args.text.now (search rules))
