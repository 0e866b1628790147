-- Properties of the texts that requests carry.
use Rattle.std.specs.Prelude.{◌≡◌, ℕ, ◌≤◌, Bool, true, false, List, [], ◌∷◌, ◌++◌, length, drop, replicate, refl, if◌then◌else◌}
use Rattle.std.specs.List.{list_all}
use Rattle.std.proofs.Common.{arith, sym, ap}
use Rattle.std.proofs.lemmas.Grind.{common_steps}
use Rattle.std.proofs.lemmas.List.{length-map, drop-replicate}
use Rattle.std.proofs.Math.Seq.{take-append_seam}
use Rattle.dsn_text.specs.Text.{is_printable, clean_byte, clean_text, is_remark, longest_clean, IsClean}
use Rattle.dsn_text.specs.inner.Kept.{IsPadded}

-- `?` is printable
is_printable-if : (byte : ℕ) (test : Bool) → is_printable byte ≡ test → is_printable (if test then byte else 63) ≡ true
is_printable-if byte true printable = printable
is_printable-if byte false _ = refl

-- each byte of a cleaned text is printable
list_all-clean_text : (text : List ℕ) → list_all is_printable (clean_text text) ≡ true
list_all-clean_text [] = refl
list_all-clean_text (byte ∷ text) = grind (arith, is_printable-if byte (is_printable byte) refl, list_all-clean_text text)

-- cleaning doesn't change a text's length
pub IsClean-clean_text : (text : List ℕ) → length text ≤ longest_clean → IsClean (clean_text text)
IsClean-clean_text text short = grind (arith, common_steps, list_all-clean_text text, length-map text clean_byte)

-- a cleaned text that isn't empty is a remark
pub is_remark-clean_text : (text : List ℕ) → 1 ≤ length text → length text ≤ longest_clean → is_remark (clean_text text) ≡ true
is_remark-clean_text text some short = grind (arith, common_steps, list_all-clean_text text, length-map text clean_byte)

-- a text written over zeros is padded with zeros
pub IsPadded-written : (room : ℕ) (text : List ℕ) → IsPadded room (text ++ drop (length text) (replicate room 0)) (length text)
IsPadded-written room text = record {
  counted = rw (take-append_seam text (drop (length text) (replicate room 0))) refl;
  padded = rw (take-append_seam text (drop (length text) (replicate room 0)))
      (ap (λ (rest : List ℕ). text ++ rest) (sym (drop-replicate (length text) room 0)));
}
