use Rattle.std.proofs.Common.{◌≡◌, ◌≢◌, ◌<◌, ℕ, get_or, length, rules}
use Rattle.std.specs.List.{insert, remove}
use Rattle.dsn_journal.specs.SettledLetters.{Rise}
use Rattle.dsn_journal.specs.inner.SettledLetters.{place_of}
use Rattle.dsn_journal.proofs.SettledEdges.{inserted, removed}
use Rattle.dsn_journal.proofs.settled_letters.change_at.Goals as goal

pub returns-in-Ok-clause-rise : goal.returns-in-Ok-clause-rise
returns-in-Ok-clause-rise c =
    (removed c.args.edges.now.items c.remove.new.self.items c.args.edge c.in-Ok.place c.requires (search rules) (search rules) (search rules) (search rules)).0

pub returns-in-Ok-clause-changed : goal.returns-in-Ok-clause-changed
returns-in-Ok-clause-changed c =
    (removed c.args.edges.now.items c.remove.new.self.items c.args.edge c.in-Ok.place c.requires (search rules) (search rules) (search rules) (search rules)).1

pub returns-in_ok-insert-in-Err-clause-rise : goal.returns-in_ok-insert-in-Err-clause-rise
returns-in_ok-insert-in-Err-clause-rise c =
    (inserted c.args.edges.now.items c.insert.new.self.items c.args.edge c.in-Err.place c.requires (search rules) (search rules) (search rules)).0

pub returns-in_ok-insert-in-Err-clause-changed : goal.returns-in_ok-insert-in-Err-clause-changed
returns-in_ok-insert-in-Err-clause-changed c =
    (inserted c.args.edges.now.items c.insert.new.self.items c.args.edge c.in-Err.place c.requires (search rules) (search rules) (search rules)).1
