use Rattle.std.proofs.Common.{◌≡◌, length, map}
use Rattle.dsn_text.specs.FaultWords.{words_of_code}
use Rattle.dsn_text.proofs.fault_table.words_of_code.Given as goal

-- the rest of the table has the same words for the number
abbrev pub invariant-loop-rest : goal.invariant-loop-rest
invariant-loop-rest l =
    words_of_code (map (λ entry. (entry.0, entry.1.now)) l.rest) l.code ≡ words_of_code (map (λ entry. (entry.0, entry.1.now)) l.table) l.code

abbrev pub decreases-loop-rest : goal.decreases-loop-rest
decreases-loop-rest l = length l.rest
