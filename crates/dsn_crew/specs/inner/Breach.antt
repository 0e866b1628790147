-- Of private parts: the cause that is named for what ended a run, and what shows it.
use Rattle.std.specs.Prelude.{Option, Some, None}
use Rattle.std.specs.declared.snapshot.Snapshot.{Snapshot}
use Rattle.dsn_book.specs.declared.keeper.Keeper.{Ghosts as Keeper}
use Rattle.dsn_crew.specs.desk.Desk.{Desk}
use Rattle.dsn_crew.specs.inner.Desk.{IsStopped}
use Rattle.dsn_crew.specs.declared.breach.Breach.{Breach}
use Rattle.dsn_crew.specs.declared.breach.Breach.TheVariants.{CollectorGone, Unheard, Unkept, Refused, PortCount}
use Rattle.dsn_crew.specs.declared.crew_cause.CrewCause.{CrewCause}
use Rattle.dsn_crew.specs.declared.crew_cause.CrewCause.TheVariants as causes

-- 41 is named only with what shows that a lane was lost, or else why the run was broken off, and 45
-- only if the collector's keeper refused a request
abbrev pub cause_of : Breach → CrewCause
cause_of (Unkept why) = causes.Unkept why
cause_of Refused = causes.Refused
cause_of PortCount = causes.PortCount
cause_of breach = causes.Lost

-- a run that had a collector, which has failed for this reason
abbrev pub HasFailedBy : {B : Type 0} → Keeper B → Option (Snapshot (Desk B)) → Breach → Type 0
HasFailedBy keeper None breach = ⊥
HasFailedBy keeper (Some desk) breach = IsStopped keeper desk.value breach

-- what a breach shows of a run with this collector, if it had one. If the collector is named as
-- full, it took all that it may. If a request was not kept, the collector's keeper refused it
abbrev pub IsShown : {B : Type 0} → Keeper B → Option (Snapshot (Desk B)) → Breach → Type 0
IsShown keeper desk (CollectorGone gone) = Unit {0}
IsShown keeper desk (Unheard unheard) = Unit {0}
IsShown keeper desk Refused = Unit {0}
IsShown keeper desk PortCount = Unit {0}
IsShown keeper desk breach = HasFailedBy keeper desk breach
