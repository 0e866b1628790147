-- The words of a fault.
use Rattle.std.proofs.Common.{◌∙◌}
use Rattle.noticed_dsn.specs.Calls.{gives}
use Rattle.noticed_dsn.proofs.noticed_dsn_fault.Goals as goal

pub returns : goal.returns
returns c = rw c.give.ensures.length (gives c.as_bytes.result.now (c.as_bytes.ensures.value ∙ c.library_words.ensures) c.give.ensures.written)
