-- Outlets: an outbox as an outlet of a crew's letters.
use Rattle.std.specs.Prelude.{◌≡◌, ℕ, length}
use Rattle.dsn_device.specs.declared.drain.Drain.{Ghosts as Drain}
use Rattle.dsn_report.specs.Outgoing.{Delivered, IsOutbox, Outgoing}
use Rattle.dsn_crew.specs.declared.post.outlet.Outlet.{Ghosts as Outlet}

-- how many letters wait for an outbox at most
abbrev pub letters_waiting : ℕ
letters_waiting = 16

-- an outbox as an outlet: its notices are from the site of its start, and are written to the outbox
-- of its start
abbrev pub outbox_outlet : {W : Type 0} → Drain W → Outlet (Outgoing W) W
outbox_outlet drain = record {
  posted = λ start letters now. Delivered drain start.poster.site start.poster.outbox now letters;
  ended = λ start letters end.
      IsOutbox drain start.poster.site start.poster.outbox end.outbox end.whole end.unsent letters;
  untouched = λ outgoing outbox. outbox ≡ outgoing.poster.outbox;
  room = λ _. letters_waiting;
  unsent = λ outgoing. length outgoing.unsent;
}
