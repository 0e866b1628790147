use Rattle.std.proofs.Common.{rules}
use Rattle.std.proofs.lemmas.List.Edits.{map_over_more}
use Rattle.dsn_text.specs.Text.{clean_byte}
use Rattle.dsn_text.proofs.clean.replace_unprintable.Goals as goal

pub loop-byte-preserved : goal.loop-byte-preserved
loop-byte-preserved c = search (rules, map_over_more clean_byte)
