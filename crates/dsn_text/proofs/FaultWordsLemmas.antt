-- The longest words of a fault.
use Rattle.std.proofs.Common.{◌≡◌, ◌≤◌, ◌&&◌, ℕ, Bool, true, List, [], ◌∷◌, length, map, nat_le, refl, arith}
use Rattle.dsn_text.specs.declared.fault_table.TheConstants.{FAULT_WORDS}
use Rattle.dsn_text.specs.FaultWords.{fault_words, words_of_code, longest_fault_words}

-- whether no words of a table are longer than the longest words
abbrev are_short : List (ℕ × List ℕ) → Bool
are_short [] = true
are_short ((number, words) ∷ rest) = nat_le (length words) longest_fault_words && are_short rest

words_of_code-short : (table : List (ℕ × List ℕ)) (code : ℕ) → are_short table ≡ true → length (words_of_code table code) ≤ longest_fault_words
words_of_code-short [] code short = omega arith
words_of_code-short ((number, words) ∷ rest) code short =
    let tail = words_of_code-short rest code in grind arith

-- no words of a fault are longer than the longest words
pub fault_words-short : (code : ℕ) → length (fault_words code) ≤ longest_fault_words
unfolding fault_words
fault_words-short code = words_of_code-short (map (λ entry. (entry.0, entry.1.now)) FAULT_WORDS) code refl
