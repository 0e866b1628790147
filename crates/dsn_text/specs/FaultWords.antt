-- The words of the faults' numbers.
use Rattle.std.specs.Prelude.{◌==◌, ℕ, List, [], ◌∷◌, map, if◌then◌else◌}
use Rattle.dsn_text.specs.declared.fault_table.TheConstants.{FAULT_WORDS}

-- the maximal number of bytes of a fault's words
abbrev pub longest_fault_words : ℕ
longest_fault_words = 90

-- the words of the first entry for this number; none if the table has no entry for it
abbrev pub words_of_code : List (ℕ × List ℕ) → ℕ → List ℕ
words_of_code [] code = []
words_of_code ((number, words) ∷ rest) code = if number == code then words else words_of_code rest code

-- the words of this number in the table of all faults
unfoldable pub fault_words : ℕ → List ℕ
fault_words code = words_of_code (map (λ entry. (entry.0, entry.1.now)) FAULT_WORDS) code
