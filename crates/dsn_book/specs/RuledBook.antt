-- Books with rules: whether closed keys make room, and such a book as a keeper.
use Rattle.std.specs.Prelude.{List}
use Rattle.dsn_book.specs.Book.{Book, Represents, RepresentsInOrder}
use Rattle.dsn_book.specs.Release.{Rules, releasing, releasing_none}
use Rattle.dsn_book.specs.declared.keeper.Keeper.{Ghosts as Keeper}
use Rattle.dsn_book.specs.declared.ruled_book.RuledBook.{RuledBook}
use Rattle.dsn_book.specs.declared.ruled_book.RuledBook.TheVariants.{Holding, Releasing}
use Rattle.dsn_outcome.specs.History.{Exchange}

abbrev pub book_of : RuledBook → Book
book_of (Holding book) = book
book_of (Releasing book) = book.book

-- the rules by which it carries out requests
abbrev pub book_rules : RuledBook → Rules
book_rules (Holding book) = releasing_none book.limits
book_rules (Releasing book) = releasing book.book.limits

-- it represents the history; if closed keys make room, they are in the history's order
abbrev pub has_by_rules : RuledBook → List Exchange → Type 0
has_by_rules (Holding book) history = Represents book history
has_by_rules (Releasing book) history = RepresentsInOrder book history

-- as a keeper: it models the histories that it represents, carries out any request by its rules,
-- refuses none, and a crash leaves nothing
abbrev pub ruled_keeper : Keeper RuledBook
ruled_keeper = record {
  rules = book_rules;
  has = λ book history _. has_by_rules book history;
  sealed = λ book. (book_of book).sealed;
  refuses = λ _ _ _ _. ⊥;
  moment = λ _. 0;
  left_since = λ _ _ _. ⊥;
  reopens = λ _ _ _. ⊥;
}
