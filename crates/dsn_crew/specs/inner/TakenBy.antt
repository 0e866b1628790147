-- Of private parts: what a collector had taken whose run was broken off.
use Rattle.std.specs.Prelude.{List, [], Option, Some, None}
use Rattle.std.specs.declared.snapshot.Snapshot.{Snapshot}
use Rattle.dsn_outcome.specs.Request.{Request}
use Rattle.dsn_crew.specs.desk.Desk.{Desk}

-- the requests that a collector had taken, if there was one
abbrev pub taken_by : {B : Type 0} → Option (Snapshot (Desk B)) → List Request
taken_by None = []
taken_by (Some desk) = desk.value.requests.taken

-- and those behind, which it had not carried out
abbrev pub behind_of : {B : Type 0} → Option (Snapshot (Desk B)) → List Request
behind_of None = []
behind_of (Some desk) = desk.value.behind
