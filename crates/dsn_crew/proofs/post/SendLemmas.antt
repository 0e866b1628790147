-- The poster's closure may go to a thread of its own, and what it gives back may come from there.
use Rattle.std.proofs.Common.{List, [], ◌∷◌}
use mir.Syntax.{Sym}
use denote.Param.{param}
use denote.Param.Send.{IsSend, IsSync, sendable}
use denote.Param.SendFields.{as_row_send, declared_send}
use denote.RattleType.{RattleType}
use denote.Ref.{NamedLft, ShrRef}
use denote.Hole.{as_row}
use denote.Struct.Field.{row_field, u32-field}
use denote.Struct.Tuple.{TupleAt}
use Rattle.std.proofs.option.Option.TheSendSync as option
use Rattle.dsn_crew.proofs.LaneSendLemmas.{closure_send}
use Rattle.dsn_crew.proofs.lane.lane_out.LaneOut.TheSendSync as lane_out
use Rattle.dsn_crew.specs.contracts.lane.lane_out.LaneOut as LaneOut
use Rattle.dsn_outcome.proofs.SendLemmas.{letter_send}
use Rattle.dsn_crew.specs.contracts.post.letter_source.LetterSource as LetterSource
use Rattle.dsn_crew.specs.contracts.post.parcel.Parcel as Parcel
use Rattle.dsn_crew.specs.contracts.post.parcel.ParcelCarried.TheImpl as ParcelCarried
use Rattle.dsn_crew.specs.contracts.post.posting.Posting as Posting

parcel_send : IsSend Parcel.the_row
parcel_send = search (letter_send, option.the_field_send, sendable) depth 20

parcels_out_send : IsSend (LaneOut.the_row Parcel.the_row ParcelCarried.ghosts)
parcels_out_send = lane_out.the_send Parcel.the_row ParcelCarried.ghosts parcel_send

count_send : IsSend (as_row u32-field)
count_send = search sendable depth 20

source_send : IsSend LetterSource.the_row
source_send = search (parcels_out_send, sendable) depth 20

-- what the closure holds: the runtime, the outlet, and the half by which the letters come
abbrev pub captured : NamedLft → RattleType → RattleType → List RattleType
captured r R O = ShrRef r.mir r.lft (param 1 R) ∷ param 2 O ∷ LetterSource.the_row ∷ []

runtime_send : (r : NamedLft) (R : RattleType) → IsSync (param 1 R) → IsSend (ShrRef r.mir r.lft (param 1 R))
runtime_send r R sync = search (sync, sendable) depth 20

pub posts_send : (ν : Sym) (r : NamedLft) (R O : RattleType) → IsSync (param 1 R) → IsSend (param 2 O) → IsSend (TupleAt ν (captured r R O))
posts_send ν r R O sync send = closure_send ν (captured r R O) (runtime_send r R sync, (send, (source_send, tt)))

pub posting_send : (O : RattleType) → IsSend (param 2 O) → IsSend (Posting.the_row (param 2 O))
posting_send O send =
    declared_send (Posting.the_type (param 2 O))
    (as_row_send (row_field (param 2 O)) send, (count_send, (as_row_send (row_field LetterSource.the_row) source_send, (search (option.the_field_send, sendable) depth 20, tt))))
