-- Worked examples of the paths of a service's logs and of its socket.
use Rattle.std.proofs.Common.{◌≡◌, refl}
use Rattle.std.specs.Prelude.{codes}
use Rattle.dsn_text.specs.declared.service.Service.TheVariants.{Defer, Trace}
use Rattle.dsn_postfix_queue.specs.inner.ServicePaths.{own_socket_path, service_name}

name_of_trace : service_name Trace ≡ codes "trace"
name_of_trace = refl

socket_of_defer : own_socket_path (codes "/var/spool/postfix") Defer ≡ codes "/var/spool/postfix/private/defer"
socket_of_defer = refl
