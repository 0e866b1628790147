-- A key is put last or removed, as the reply says.
use Rattle.std.proofs.Common.{◌≡◌, true, false, rules}
use Rattle.dsn_outcome.specs.History.{closes_log, is_forgotten}
use Rattle.dsn_book.proofs.ClosingLemmas.{let_go-none}
use Rattle.dsn_book.specs.Closing.{keys_closed}
use Rattle.dsn_book.proofs.releasing_book.note_reply.Goals as goal

pub returns-then-is_forgotten-clause-closed : goal.returns-then-is_forgotten-clause-closed
returns-then-is_forgotten-clause-closed c =
    let forgotten : is_forgotten c.args.reply ≡ true = search rules in
    λ apart may. rw forgotten (c.release.ensures.keys apart)

pub returns-then-closes_log-clause-closed : goal.returns-then-closes_log-clause-closed
returns-then-closes_log-clause-closed c =
    let kept : is_forgotten c.args.reply ≡ false = search rules in
    let closes : closes_log c.args.reply ≡ true = search rules in
    λ apart may.
    let room = may closes in
    rw (kept, closes, let_go-none c.args.key (keys_closed c.args.closed.now.items) room.0) (c.push.ensures.keys room.1)
