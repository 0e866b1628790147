use Rattle.std.proofs.Common.{◌≡◌, rules}
use Rattle.dsn_report.proofs.HeaderLemmas.{shown-returned}
use Rattle.dsn_report.specs.Boundary.{returns_message}
use Rattle.dsn_report.proofs.returned_text.ReturnedText.of.Goals as goal

pub returns-clause-lines : goal.returns-clause-lines
returns-clause-lines c =
    let bytes : c.bytes-bytes.result.now ≡ c.args.letter.now.draft.header = search rules in
    let whole : c.carriage_of-carriage.result.whole ≡ returns_message c.args.letter.now.draft = search rules in
    rw (bytes, whole) (shown-returned c.args.letter.now.draft)
