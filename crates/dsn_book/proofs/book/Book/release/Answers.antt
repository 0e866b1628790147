-- A key is released as by the collector's own request.
use Rattle.dsn_book.proofs.RoomLemmas.{release-represented}
use Rattle.dsn_book.proofs.book.Book.release.Goals as goal

pub returns-clause-stands : goal.returns-clause-stands
returns-clause-stands c = λ t stands.
    release-represented c.args.self.now c.forget.new.self t c.args.key stands c.forget.ensures.entries c.forget.ensures.sealed
