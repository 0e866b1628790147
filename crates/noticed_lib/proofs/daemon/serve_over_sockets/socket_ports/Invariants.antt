-- So many ports are made, and there is room for all.
use Rattle.std.proofs.Common.{All, ◌≡◌, ◌≤◌, length, vec_capacity}
use Rattle.noticed_lib.proofs.daemon.serve_over_sockets.socket_ports.Given as goal

abbrev pub invariant-loop : goal.invariant-loop
invariant-loop g l = record {
  count : length l.ports.items ≡ l.counter;
  uses : All (λ port. (port.left ≡ l.fn.max_use) × (port.watch.now ≡ l.fn.watch)) l.ports.items;
  room : l.agents ≤ vec_capacity l.ports;
}
