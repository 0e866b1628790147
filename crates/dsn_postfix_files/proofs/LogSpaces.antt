-- A text without the spaces at one end equals the text if it has the same length.
use Rattle.std.proofs.Common.{◌≡◌, ℕ, ◌-◌, List, length, arith, length-drop, length-take}
use Rattle.std.specs.Prelude.{◌==◌}
use Rattle.std.specs.List.{prefix_len, suffix_len}
use Rattle.std.proofs.lemmas.List.Sums.{prefix_len-le-length, suffix_len-le-length}
use Rattle.dsn_postfix_files.specs.LogLine.{is_space, without_leading_spaces, without_trailing_spaces}

pub leading_test : (text : List ℕ) → (length (without_leading_spaces text) == length text) ≡ (prefix_len is_space text == 0)
leading_test text = grind (arith, length-drop (prefix_len is_space text) text, prefix_len-le-length is_space text)

pub trailing_test : (text : List ℕ) → (length (without_trailing_spaces text) == length text) ≡ (suffix_len is_space text == 0)
trailing_test text = grind (arith, length-take (length text - suffix_len is_space text) text, suffix_len-le-length is_space text)
