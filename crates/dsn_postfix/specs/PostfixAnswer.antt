-- What bounce(8) sends: an announcement before a request, and a status after it.
use Rattle.std.specs.Prelude.{ℕ, List, [], ◌∷◌, codes, Result, Ok}
use Rattle.dsn_postfix.specs.Attribute.{list_bytes, number_attribute, number_limit, text_attribute}
use Rattle.dsn_postfix.specs.RequestReading.{◌>>>◌, end_at, value_number_at}
use Rattle.dsn_postfix.specs.declared.request_fault.RequestFault.{RequestFault}

-- the list that the service sends first
unfoldable pub announcement_bytes : List ℕ
announcement_bytes = list_bytes (text_attribute (codes "protocol") (codes "delivery_status_protocol") ∷ [])

-- the list that answers a request
unfoldable pub status_bytes : ℕ → List ℕ
status_bytes status = list_bytes (number_attribute (codes "status") status ∷ [])

-- the status that takes up these bytes, or the first fault
unfoldable pub status_at : List ℕ → Result ℕ RequestFault
status_at bytes =
    value_number_at number_limit (codes "status") bytes >>> λ status.
    end_at status.1 >>> λ ended.
    Ok status.0
