-- Steps: what each step on a lane does to what the halves know.
use Rattle.std.specs.Prelude.{[]}
use Rattle.dsn_crew.specs.declared.lane.lane_knowledge.LaneKnowledge.{LaneKnowledge}
use Rattle.dsn_crew.specs.declared.lane.lane_knowledge.LaneKnowledge.TheVariants.{Takes}

module _ {T : Type 0} where
  -- making the lane: it has room for nothing, no agent has a half, and nothing was sent or taken
  abbrev pub opened : LaneKnowledge T
  opened = Takes 0 (record { made = 0; taken = []; back = [] })
