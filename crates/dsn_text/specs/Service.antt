-- Services: the three kinds of log, with their bytes and letters, and which actions each takes.
use Rattle.std.specs.Prelude.{ℕ, Bool, true, false, ◌==◌, Option, Some, None, if◌then◌else◌}
use Rattle.dsn_text.specs.declared.action.Action.{Action}
use Rattle.dsn_text.specs.declared.action.Action.TheVariants.{Failed, Delayed, Delivered, Relayed, Expanded}
use Rattle.dsn_text.specs.declared.service.Service.{Service}
use Rattle.dsn_text.specs.declared.service.Service.TheVariants.{Bounce, Defer, Trace}

-- the byte that encodes a service in a request (this project's profile)
abbrev pub service_byte : Service → ℕ
service_byte Bounce = 1
service_byte Defer = 2
service_byte Trace = 3

-- the letter of a service: B, D or T
abbrev pub service_letter : Service → ℕ
service_letter Bounce = 66
service_letter Defer = 68
service_letter Trace = 84

-- the service with this byte, if there is one
abbrev pub service_of_byte : ℕ → Option Service
service_of_byte byte =
    if byte == 1 then Some Bounce
    else (if byte == 2 then Some Defer else (if byte == 3 then Some Trace else None))

-- whether two services are the same
abbrev pub same_service : Service → Service → Bool
same_service a b = service_byte a == service_byte b

-- which actions a service's log takes (this project's profile)
abbrev pub takes : Service → Action → Bool
takes Bounce Failed = true
takes Bounce Delayed = false
takes Bounce Delivered = false
takes Bounce Relayed = false
takes Bounce Expanded = false
takes Defer Failed = false
takes Defer Delayed = true
takes Defer Delivered = false
takes Defer Relayed = false
takes Defer Expanded = false
takes Trace action = true
