-- Halves: what contracts see of a lane's halves, and what a lane has accepted.
use Rattle.std.specs.Prelude.{ℕ, [], length, zero, suc, List, ◌∷◌, ◌≡◌, ◌<◌, ◌≤◌, ◌%◌, ◌^◌}
use Rattle.atomic_table.specs.declared.badge.Badge.{Badge}
use Rattle.crossbeam_channel.specs.Claims.{Pass, view}
use Rattle.crossbeam_channel.specs.Ends.{ruled_capacity}
use Rattle.crossbeam_channel.specs.declared.flavors.array.Doing.{Doing}
use Rattle.crossbeam_channel.specs.declared.flavors.array.Key.{Key}
use Rattle.crossbeam_channel.specs.declared.flavors.array.Rows.{Rows}
use Rattle.dsn_crew.specs.declared.lane.lane_knowledge.LaneKnowledge.TheVariants.{Sends, Takes, Spent}
use Rattle.dsn_crew.specs.declared.lane.lane_knowledge.LaneKnowledge.{LaneKnowledge}
use Rattle.dsn_crew.specs.declared.lane.lane_knowledge.Sending.{Sending}
use Rattle.dsn_crew.specs.declared.lane.lane_knowledge.Taking.{Taking}
use Rattle.dsn_crew.specs.lane.Halves.{Identity, Half, Out}
use Rattle.dsn_crew.specs.lane.Lane.{IsNumbered, most_agents}
use Rattle.dsn_outcome.specs.Agents.{from_agent}

module _ {T : Type 0} where
  -- the knowledge of a pass, and how many items its lane holds at most
  abbrev pub capacity_of : LaneKnowledge T → ℕ
  capacity_of (Sends capacity half) = capacity
  capacity_of (Takes capacity known) = capacity
  capacity_of Spent = 0

  abbrev pub sending : LaneKnowledge T → Sending T
  sending (Sends capacity half) = half
  sending (Takes capacity known) = record { agent = 0; sent = [] }
  sending Spent = record { agent = 0; sent = [] }

  abbrev pub taking : LaneKnowledge T → Taking T
  taking (Takes capacity known) = known
  taking (Sends capacity half) = record { made = 0; taken = []; back = [] }
  taking Spent = record { made = 0; taken = []; back = [] }

  -- what contracts see of a half, by its pass; a channel's own passes are of its lane
  abbrev pub lane_of : Pass T (LaneKnowledge T) → Identity T
  lane_of
      pass = record {
        table = pass.table_id;
        items = pass.me.0.of;
        capacity = capacity_of (view pass);
      }

  abbrev pub lane_at : {M Q L A : Type 0}
      → Rows (Badge (Key T)) (Doing T (LaneKnowledge T)) Q M (Key T) L A → Identity T
  lane_at
      channel = record {
        table = channel.stamps.shared.table_id;
        items = channel.stamps.shared.key;
        capacity = ruled_capacity channel;
      }

  abbrev pub half_of : Pass T (LaneKnowledge T) → Half T
  half_of pass = record {
    lane = lane_of pass;
    agent = (sending (view pass)).agent;
    sent = (sending (view pass)).sent;
  }

  abbrev pub out_of : Pass T (LaneKnowledge T) → Out T
  out_of pass =
      record {
        lane = lane_of pass;
        first = length (taking (view pass)).back;
        past = (taking (view pass)).made;
        taken = (taking (view pass)).taken;
      }

  -- what a sending half knows, by what contracts see of it
  abbrev pub sending_of : Half T → Sending T
  sending_of half = record { agent = half.agent; sent = half.sent }

  -- the given number of agents, from `first` on, which have sent nothing
  abbrev pub fresh : ℕ → ℕ → List (Sending T)
  fresh first zero = []
  fresh first (suc more) = record { agent = first; sent = [] } ∷ fresh (suc first) more

  -- the knowledge of the receiving half of a lane of this capacity that has passed over `n` agents
  abbrev pub passed_over : ℕ → ℕ → LaneKnowledge T
  passed_over capacity n = Takes capacity (record { made = n; taken = []; back = fresh 0 n })

  -- what a sending half keeps: its count, and that its items are its agent's, numbered from 0
  pub record IsSending (agent number : T → ℕ) (half : Sending T) (count : ℕ) : Type 0 where
    pub counted : count ≡ length half.sent
    pub mine : from_agent agent half.agent half.sent ≡ half.sent
    pub numbered : IsNumbered number half.sent

  -- what the receiving half keeps while the lane is open. It has up to `most_agents` agents. The
  -- halves that came back are those of the agents below the first, unused. Its count wraps. What it
  -- took of each agent is numbered from 0
  pub record IsReceiving (agent number : T → ℕ) (known : Taking T) (count : ℕ) : Type 0 where
    pub agents : (length known.back < known.made) × (known.made ≤ most_agents)
    pub passed : known.back ≡ fresh 0 (length known.back)
    pub counted : count ≡ length known.taken % 2 ^ 64
    pub numbered : (a : ℕ) → IsNumbered number (from_agent agent a known.taken)
