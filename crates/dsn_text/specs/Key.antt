-- Keys: a service and a message's queue id, which identify a log.
use Rattle.std.specs.Prelude.{Bool, ◌&&◌}
use Rattle.std.specs.Cmp.Lexicographic.{slice_cmp}
use Rattle.std.specs.Ordering.{nat_cmp, ordering_then}
use Rattle.std.specs.Str.{bytes_eq}
use Rattle.std.specs.declared.cmp.Ordering.{Ordering}
use Rattle.dsn_text.specs.Service.{same_service, service_byte}
use Rattle.dsn_text.specs.declared.key.Key.{Key}

-- whether two keys are the same: they have the same service, and queue ids of the same bytes
abbrev pub same_key : Key → Key → Bool
same_key a b = same_service a.service b.service && bytes_eq a.id b.id

-- the order of keys: by the byte of the service, then by the bytes of the queue id; a front of a
-- text precedes the text
abbrev pub key_cmp : Key → Key → Ordering
key_cmp a b =
    ordering_then (nat_cmp (service_byte a.service) (service_byte b.service))
    (slice_cmp nat_cmp a.id b.id)
