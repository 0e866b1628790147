-- Releases: how a closed key makes room for a new key if the table is full. Source: this project's
-- profile.
use Rattle.std.specs.Prelude.{ℕ, Bool, true, false, List, [], ◌∷◌, ◌++◌, map, take, if◌then◌else◌}
use Rattle.std.specs.Option.{option_map_or}
use Rattle.dsn_outcome.specs.History.{Limits, Exchange, closes_log, exchange_of, history_after, is_forgotten, let_go, needs_room_for}
use Rattle.dsn_outcome.specs.Request.{Request, Body, Forget, key_of}
use Rattle.dsn_outcome.specs.declared.answer.Reply.{Reply}
use Rattle.dsn_text.specs.declared.key.Key.{Key}

-- the closed keys after a reply about a key: a reply that closes the key's log puts it last
abbrev pub closed_with : Reply → List Key → Key → List Key
closed_with reply closed key =
    if is_forgotten reply then let_go key closed
    else (if closes_log reply then let_go key closed ++ key ∷ [] else closed)

-- the closed keys after one more exchange
abbrev pub closed_next : List Key → Exchange → List Key
closed_next closed exchange =
    option_map_or (closed_with exchange.reply closed) (key_of exchange.request.body) closed

unfoldable pub closed_after : List Key → List Exchange → List Key
closed_after closed [] = closed
closed_after closed (exchange ∷ rest) = closed_after (closed_next closed exchange) rest

-- the keys whose logs are closed, in the order in which they were closed
abbrev pub closed_keys : List Exchange → List Key
closed_keys history = closed_after [] history

-- whether a body needs a new key in a full table
abbrev pub needs_room : Limits → List Exchange → Body → Bool
needs_room limits history body =
    option_map_or (needs_room_for limits history body) (key_of body) false

-- the key that is released before a body is carried out: if the body needs room, the key that was
-- closed longest ago, if some key is closed; otherwise none
abbrev pub released_for : Limits → List Exchange → Body → List Key
released_for limits history body =
    if needs_room limits history body then take 1 (closed_keys history) else []

-- the agent of the collector's own requests; a crew's agents have smaller numbers
abbrev pub collector : ℕ
collector = 16

-- the collector's own request that releases a key
abbrev pub release_of : Key → Request
release_of key = record { agent = collector; number = 0; body = Forget key }

-- the rules by which requests are carried out: the limits, and whether closed keys make room
pub record Rules : Type 0 where
  pub limits : Limits
  pub releases : Bool

-- the rules by which no key is released
abbrev pub releasing_none : Limits → Rules
releasing_none limits = record { limits = limits; releases = false }

-- the rules by which closed keys make room
abbrev pub releasing : Limits → Rules
releasing limits = record { limits = limits; releases = true }

-- the history before a body is carried out, with the collector's request if it releases a key
abbrev pub room_made : Bool → Limits → List Exchange → Body → List Exchange
room_made false limits history body = history
room_made true limits history body =
    history_after limits history (map release_of (released_for limits history body))

-- the history in which a request is carried out by these rules
abbrev pub before_request : Rules → List Exchange → Request → List Exchange
before_request rules history request =
    room_made rules.releases rules.limits history request.body

-- a request with its reply, by these rules
abbrev pub exchange_under : Rules → List Exchange → Request → Exchange
exchange_under rules history request =
    exchange_of rules.limits (before_request rules history request) request

-- the history after a request is carried out by these rules
abbrev pub history_next : Rules → List Exchange → Request → List Exchange
history_next rules history request =
    before_request rules history request ++ exchange_under rules history request ∷ []

-- a history continued with these requests, for which closed keys make room
unfoldable pub history_releasing : Limits → List Exchange → List Request → List Exchange
history_releasing limits history [] = history
history_releasing limits history (request ∷ rest) =
    history_releasing limits (history_next (releasing limits) history request) rest

abbrev pub history_by : Bool → Limits → List Exchange → List Request → List Exchange
history_by false limits history requests = history_after limits history requests
history_by true limits history requests = history_releasing limits history requests

-- a history continued with these requests, by these rules
abbrev pub history_under : Rules → List Exchange → List Request → List Exchange
history_under rules history requests = history_by rules.releases rules.limits history requests
