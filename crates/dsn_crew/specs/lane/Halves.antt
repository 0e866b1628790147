-- Halves: what contracts see of a lane's halves, and what a lane has accepted.
use Rattle.std.specs.Prelude.{◌≡◌, ℕ, zero, suc, List, [], ◌∷◌, All}
use Rattle.atomic_table.specs.Seated.{TableId}
use Rattle.atomic_table.specs.declared.badge.Badge.{Badge}
use Rattle.crossbeam_channel.specs.declared.flavors.array.Key.{Key}
use Rattle.dsn_outcome.specs.Agents.{from_agent}
use Rattle.dsn_crew.specs.lane.Lane.{IsNumbered}

-- which lane it is, which no two lanes share, and how many items it holds at most. The capacity is
-- a part, so a half that stays of its lane keeps its capacity. The kit's channel is built on
-- `atomic_table`, whose table and badges these are
pub record Identity (T : Type 0) : Type 0 where
  pub table : TableId
  pub items : Badge (Key T)
  pub capacity : ℕ

-- a sending half: its lane, its agent, and what it has sent
pub record Half (T : Type 0) : Type 0 where
  pub lane : Identity T
  pub agent : ℕ
  pub sent : List T

-- the receiving half: its lane, whose agents are those from `first` on that are below `past`, and
-- what it has taken
pub record Out (T : Type 0) : Type 0 where
  pub lane : Identity T
  pub first : ℕ
  pub past : ℕ
  pub taken : List T

-- what was sent over a lane and taken: its halves as they were at its close
pub record Lists (T : Type 0) : Type 0 where
  pub halves : List (Half T)
  pub out : Out T

module _ {T : Type 0} where
  -- the halves of the given number of agents, from `first` on, in order, which have sent nothing
  abbrev pub fresh_halves : Identity T → ℕ → ℕ → List (Half T)
  fresh_halves lane first zero = []
  fresh_halves lane first (suc more) = record { lane = lane; agent = first; sent = [] }
      ∷ fresh_halves lane (suc first) more

  -- what a lane with these halves has accepted. For each half's agent, it is what that half has
  -- sent; for any other agent, it is nothing. The items of each agent are numbered from 0
  pub record IsAccepted (agent number : T → ℕ) (halves : List (Half T)) (items : List T) : Type 0 where
    pub each : All (λ (half : Half T). from_agent agent half.agent items ≡ half.sent) halves
    pub others : (a : ℕ) → from_agent (λ (half : Half T). half.agent) a halves ≡ []
        → from_agent agent a items ≡ []
    pub numbered : (a : ℕ) → IsNumbered number (from_agent agent a items)
