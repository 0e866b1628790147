-- Copies of disks.
use Rattle.std.specs.Prelude.{ℕ, List}
use Rattle.dsn_listing.specs.declared.copied_disk.CopiedDisk.{CopiedDisk}

-- the bytes that a read of a copy returns
abbrev pub copied_seen : CopiedDisk → List ℕ
copied_seen copy = copy.bytes.items
