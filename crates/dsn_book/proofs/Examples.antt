-- Worked examples of the order of keys, and of an index over entries in the order of first use.
use Rattle.std.proofs.Common.{◌≡◌, ℕ, List, [], ◌∷◌, refl}
use Rattle.std.specs.Prelude.{codes}
use Rattle.std.specs.declared.cmp.Ordering.TheVariants.{Less, Greater}
use Rattle.dsn_text.specs.declared.key.Key.{Key}
use Rattle.dsn_text.specs.declared.service.Service.TheVariants.{Bounce, Defer, Trace}
use Rattle.dsn_book.specs.Entry.{entry_with}
use Rattle.dsn_book.specs.inner.Index.{open_lines_by}
use Rattle.dsn_text.specs.Key.{key_cmp}
use Rattle.dsn_book.specs.OpenLine.{line_of, open_lines_in}
use Rattle.dsn_book.specs.Held.{Entry, Open, Closed}
use Rattle.dsn_book.specs.declared.index.Slot.{Slot}
use Rattle.dsn_book.specs.declared.open_line.OpenLine.{OpenLine}

abbrev bounce_key : List ℕ → Key
bounce_key id = record { service = Bounce; id = id }

-- ordered by the bytes of the queue id: a front of a text precedes the text, and capitals precede small letters
shorter_first : key_cmp (bounce_key (codes "K1")) (bounce_key (codes "K10")) ≡ Less
shorter_first = refl

bytes_first : key_cmp (bounce_key (codes "K10")) (bounce_key (codes "K2")) ≡ Less
bytes_first = refl

capitals_first : key_cmp (bounce_key (codes "b")) (bounce_key (codes "K1")) ≡ Greater
capitals_first = refl

-- the service decides before the queue id
service_first : key_cmp (bounce_key (codes "b")) (record { service = Defer; id = codes "A" }) ≡ Less
service_first = refl

services_last : key_cmp (record { service = Trace; id = codes "A" }) (record { service = Defer; id = codes "A" }) ≡ Greater
services_last = refl

-- logs of K2, K10 and K1, and a closed log of K0, first used in this order
abbrev four_entries : List Entry
four_entries =
    entry_with (bounce_key (codes "K2")) (Open []) ∷ entry_with (bounce_key (codes "K10")) (Open [])
    ∷ entry_with (bounce_key (codes "K1")) (Open []) ∷ entry_with (bounce_key (codes "K0")) Closed ∷ []

abbrev slot : ℕ → Slot
slot place = record { place = place }

abbrev line : List ℕ → OpenLine
line id = record { key = bounce_key id; count = 0 }

lines_by_first_use : open_lines_in four_entries ≡ line (codes "K2") ∷ line (codes "K10") ∷ line (codes "K1") ∷ []
unfolding open_lines_in line_of
lines_by_first_use = refl

lines_by_key : open_lines_by four_entries (slot 3 ∷ slot 2 ∷ slot 1 ∷ slot 0 ∷ []) ≡ line (codes "K1") ∷ line (codes "K10") ∷ line (codes "K2") ∷ []
unfolding open_lines_by line_of
lines_by_key = refl
