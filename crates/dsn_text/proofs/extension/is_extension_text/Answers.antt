use Rattle.dsn_text.proofs.ExtensionLemmas.{extension_text_read}
use Rattle.dsn_text.proofs.extension.is_extension_text.Goals as goal

pub returns-clause-fields : goal.returns-clause-fields
returns-clause-fields c = rw c.is_empty_or_lines.ensures (extension_text_read c.args.text.now)
