use Rattle.std.proofs.Common.{◌≡◌, length, map}
use Rattle.dsn_report.specs.PlainWords.{words_for}
use Rattle.dsn_report.proofs.plain_words.words_for.Given as goal

-- the rest of the table has the same sentence for the code
abbrev pub invariant-loop-rest : goal.invariant-loop-rest
invariant-loop-rest l =
    words_for (map (λ entry. (entry.0.now, entry.1.now)) l.rest) l.code ≡ words_for (map (λ entry. (entry.0.now, entry.1.now)) l.table) l.code

abbrev pub decreases-loop-rest : goal.decreases-loop-rest
decreases-loop-rest l = length l.rest
