use Rattle.std.proofs.Common.{◌≡◌, ◌-◌}
use Rattle.dsn_text.specs.Extension.{are_extension_lines, most_extensions}
use Rattle.dsn_text.proofs.extension.are_extension_lines.Given as goal

abbrev pub invariant-loop : goal.invariant-loop
invariant-loop l = are_extension_lines most_extensions l.fn.text ≡ are_extension_lines (most_extensions - l.counter) l.rest
