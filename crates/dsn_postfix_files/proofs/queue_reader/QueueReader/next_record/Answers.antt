use Rattle.std.proofs.Common.{subst, sym}
use Rattle.dsn_postfix_files.specs.QueueListing.{BrokenOff, RecordsFrom, WholeFile}
use Rattle.dsn_postfix_files.specs.QueueRecord.{placed_bytes_in}
use Rattle.dsn_postfix_files.specs.QueueWalk.{QueuePlace, QueueReading}
use Rattle.dsn_postfix_files.proofs.QueueListingLemmas.{begins_listing, ends_listing}
use Rattle.dsn_postfix_files.proofs.queue_reader.QueueReader.next_record.Goals as goal

pub returns-in-Record-clause-listed : goal.returns-in-Record-clause-listed
returns-in-Record-clause-listed c records ending lists =
    let start : QueuePlace = record { rest = c.self.inside.rest.now; jumps = c.self.inside.jumps } in
    let next : QueuePlace = record { rest = c.in-Record.after.now; jumps = c.in-Record.jumps } in
    begins_listing c.self.inside.file.now start next (placed_bytes_in c.in-Record.found) records ending c.in-Record.ensures.steps
    (subst (λ (r : QueueReading). RecordsFrom r.file r.place records ending) (sym c.self.view_is) lists)

pub returns-in-End-clause-listed : goal.returns-in-End-clause-listed
returns-in-End-clause-listed c records ending lists =
    let start : QueuePlace = record { rest = c.self.inside.rest.now; jumps = c.self.inside.jumps } in
    ends_listing c.self.inside.file.now start WholeFile records ending c.in-End.ensures.steps
    (subst (λ (r : QueueReading). RecordsFrom r.file r.place records ending) (sym c.self.view_is) lists)

pub returns-in-Broken-clause-listed : goal.returns-in-Broken-clause-listed
returns-in-Broken-clause-listed c records ending lists =
    let start : QueuePlace = record { rest = c.self.inside.rest.now; jumps = c.self.inside.jumps } in
    ends_listing c.self.inside.file.now start BrokenOff records ending c.in-Broken.ensures.steps
    (subst (λ (r : QueueReading). RecordsFrom r.file r.place records ending) (sym c.self.view_is) lists)
