use Rattle.std.proofs.lemmas.Str.{IsUtf8-from_ascii}
use Rattle.dsn_text.proofs.StatusLemmas.{IsAscii-IsStatusCode}
use Rattle.dsn_text.proofs.status.Status.as_str.Goals as goal

pub unreachable-requires : goal.unreachable-requires
unreachable-requires c =
    let text = IsUtf8-from_ascii c.args.self.now (IsAscii-IsStatusCode c.args.self.now c.bytes.ensures.legal) in
    c.in-Err.ensures.cases.0 (rw c.bytes.ensures.same text)
