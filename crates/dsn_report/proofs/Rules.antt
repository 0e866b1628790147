-- The lemmas that the tactics use, grouped by their purpose.
use Rattle.std.proofs.lemmas.List.{take_rest}
use Rattle.dsn_report.proofs.HeaderLemmas.{lines-at, lines-none, lines-some, lines-last, header_lines-first, header_lines-last}

-- lemmas on the lines of a header
pub ruleset header = (take_rest, lines-at, lines-none, lines-some, lines-last, header_lines-first, header_lines-last)
