-- Words: numbers whose digits are bytes, with the first as the most significant, have the order of the bytes.
use Rattle.std.proofs.Common.{◌≡◌, ℕ, true, false, zero, suc, ◌+◌, ◌-◌, ◌*◌, ◌<◌, ◌≤◌, List, [], ◌∷◌, ◌++◌, length, get_or, take, drop, refl, ap, sym, ◌∙◌, arith}
use Rattle.std.specs.Prelude.{replicate}
use Rattle.std.specs.List.{AllByRecursion, list_all}
use Rattle.std.specs.Cmp.{nat_cmp_is}
use Rattle.std.specs.Cmp.Lexicographic.{slice_cmp}
use Rattle.std.specs.Ordering.{nat_cmp, ordering_then, is_eq, is_ne, MatchOrdering}
use Rattle.std.specs.Slice.Scan.{big_endian}
use Rattle.std.specs.Str.{bytes_eq}
use Rattle.std.specs.declared.cmp.Ordering.{Ordering}
use Rattle.std.specs.declared.cmp.Ordering.TheVariants.{Less, Equal, Greater}
use Rattle.std.proofs.lemmas.Cmp.{ranked}
use Rattle.std.proofs.lemmas.Map.Text.{is_eq-slice_cmp}
use Rattle.std.proofs.lemmas.List.{get_or-drop, drop-drop, length-drop}
use Rattle.dsn_text.specs.Text.{is_letter_or_digit, longest_queue_id, IsQueueId}
use Rattle.dsn_text.specs.inner.Kept.{IsPadded}

abbrev pub AreBytes : List ℕ → Type 0
AreBytes xs = (k : ℕ) → get_or xs k 0 < 256

AreBytes-drop : (n : ℕ) (xs : List ℕ) → AreBytes xs → AreBytes (drop n xs)
AreBytes-drop n xs small = λ k. rw (get_or-drop n xs k 0) (small (n + k))

-- with one more byte, unequal numbers keep their order, and equal ones are ordered by the byte
more_by : (p q u v : ℕ) (r s : Ordering) → u < 256 → v < 256 → MatchOrdering r (p < q) (p ≡ q) (q < p) → MatchOrdering s (u < v) (u ≡ v) (v < u) → ordering_then r s ≡ nat_cmp (p * 256 + u) (q * 256 + v)
more_by p q u v Less s low high first second = nat_cmp_is (p * 256 + u) (q * 256 + v) Less (let is : p < q = first in omega arith)
more_by p q u v Greater s low high first second = nat_cmp_is (p * 256 + u) (q * 256 + v) Greater (let is : q < p = first in omega arith)
more_by p q u v Equal Less low high first second = nat_cmp_is (p * 256 + u) (q * 256 + v) Less (let is : p ≡ q = first in let then : u < v = second in omega arith)
more_by p q u v Equal Equal low high first second = nat_cmp_is (p * 256 + u) (q * 256 + v) Equal (let is : p ≡ q = first in let then : u ≡ v = second in omega arith)
more_by p q u v Equal Greater low high first second = nat_cmp_is (p * 256 + u) (q * 256 + v) Greater (let is : p ≡ q = first in let then : v < u = second in omega arith)

more : (p q u v : ℕ) → u < 256 → v < 256 → ordering_then (nat_cmp p q) (nat_cmp u v) ≡ nat_cmp (p * 256 + u) (q * 256 + v)
more p q u v low high = more_by p q u v (nat_cmp p q) (nat_cmp u v) low high (ranked p q (nat_cmp p q) refl) (ranked u v (nat_cmp u v) refl)

then-then : (a b c : Ordering) → ordering_then a (ordering_then b c) ≡ ordering_then (ordering_then a b) c
then-then Less b c = refl
then-then Equal b c = refl
then-then Greater b c = refl

-- numbers that are extended by n bytes each are ordered by the numbers, and then by the bytes
spelt : (n p q : ℕ) (xs ys : List ℕ) → n ≤ length xs → n ≤ length ys → AreBytes xs → AreBytes ys → ordering_then (nat_cmp p q) (slice_cmp nat_cmp xs ys) ≡ ordering_then (nat_cmp (big_endian p (take n xs)) (big_endian q (take n ys))) (slice_cmp nat_cmp (drop n xs) (drop n ys))
spelt zero p q xs ys long other low high = refl
spelt (suc n) p q [] ys long other low high = absurd (omega arith)
spelt (suc n) p q (x ∷ xs) [] long other low high = absurd (omega arith)
spelt (suc n) p q (x ∷ xs) (y ∷ ys) long other low high =
    then-then (nat_cmp p q) (nat_cmp x y) (slice_cmp nat_cmp xs ys)
    ∙ ap (λ (order : Ordering). ordering_then order (slice_cmp nat_cmp xs ys)) (more p q x y (low 0) (high 0))
    ∙ spelt n (p * 256 + x) (q * 256 + y) xs ys (omega arith) (omega arith) (λ k. low (suc k)) (λ k. high (suc k))

-- the bytes from a place on are ordered by their first word, and then by the bytes after it
word-first : (at : ℕ) (xs ys : List ℕ) → at + 8 ≤ length xs → at + 8 ≤ length ys → AreBytes xs → AreBytes ys → slice_cmp nat_cmp (drop at xs) (drop at ys) ≡ ordering_then (nat_cmp (big_endian 0 (take 8 (drop at xs))) (big_endian 0 (take 8 (drop at ys)))) (slice_cmp nat_cmp (drop (at + 8) xs) (drop (at + 8) ys))
word-first at xs ys long other low high =
    spelt 8 0 0 (drop at xs) (drop at ys) (omega (arith, length-drop at xs)) (omega (arith, length-drop at ys)) (AreBytes-drop at xs low) (AreBytes-drop at ys high)
    ∙ rw (drop-drop 8 at xs, drop-drop 8 at ys) refl

decided : (a b : Ordering) → is_ne a ≡ true → ordering_then a b ≡ a
decided Less b apart = refl
decided Equal b apart = absurd (cc apart)
decided Greater b apart = refl

left-open : (a b : Ordering) → is_ne a ≡ false → ordering_then a b ≡ b
left-open Less b alike = absurd (cc alike)
left-open Equal b alike = refl
left-open Greater b alike = absurd (cc alike)

-- unequal words decide the order, and after equal words the bytes after them do
pub word-decides : (at : ℕ) (xs ys : List ℕ) (order : Ordering) → at + 8 ≤ length xs → at + 8 ≤ length ys → AreBytes xs → AreBytes ys → order ≡ nat_cmp (big_endian 0 (take 8 (drop at xs))) (big_endian 0 (take 8 (drop at ys))) → is_ne order ≡ true → slice_cmp nat_cmp (drop at xs) (drop at ys) ≡ order
word-decides at xs ys order long other low high is apart = word-first at xs ys long other low high ∙ rw (← is) (decided order _ apart)

pub word-passes : (at : ℕ) (xs ys : List ℕ) (order : Ordering) → at + 8 ≤ length xs → at + 8 ≤ length ys → AreBytes xs → AreBytes ys → order ≡ nat_cmp (big_endian 0 (take 8 (drop at xs))) (big_endian 0 (take 8 (drop at ys))) → is_ne order ≡ false → slice_cmp nat_cmp (drop at xs) (drop at ys) ≡ slice_cmp nat_cmp (drop (at + 8) xs) (drop (at + 8) ys)
word-passes at xs ys order long other low high is alike = word-first at xs ys long other low high ∙ rw (← is) (left-open order _ alike)

-- words that are read at equal places have the order of the words at that place
pub words_at : (at first second u v : ℕ) (xs ys : List ℕ) (order : Ordering) → order ≡ nat_cmp u v → u ≡ big_endian 0 (take 8 (drop first xs)) → v ≡ big_endian 0 (take 8 (drop second ys))
    → first ≡ at → second ≡ at → order ≡ nat_cmp (big_endian 0 (take 8 (drop at xs))) (big_endian 0 (take 8 (drop at ys)))
words_at at first second u v xs ys order is left right here also = is ∙ rw (left, right, here, also) refl

zeros : (m n : ℕ) → m ≡ n → slice_cmp nat_cmp (replicate m 0) (replicate n 0) ≡ Equal
zeros zero zero same = refl
zeros zero (suc n) same = absurd (omega arith)
zeros (suc m) zero same = absurd (omega arith)
zeros (suc m) (suc n) same = zeros m n (omega arith)

abbrev pub AreAboveZero : List ℕ → Type 0
AreAboveZero xs = AllByRecursion (λ x. 0 < x) xs

-- texts of bytes above zero have the order of the blocks that consist of a text and zeros
pub padded-order : (xs ys : List ℕ) (m n : ℕ) → length xs + m ≡ length ys + n → AreAboveZero xs → AreAboveZero ys → slice_cmp nat_cmp (xs ++ replicate m 0) (ys ++ replicate n 0) ≡ slice_cmp nat_cmp xs ys
padded-order [] [] m n same low high = zeros m n (omega arith)
padded-order [] (y ∷ ys) zero n same low high = absurd (omega arith)
padded-order [] (y ∷ ys) (suc m) n same low high =
    ap (λ (order : Ordering). ordering_then order (slice_cmp nat_cmp (replicate m 0) (ys ++ replicate n 0))) (sym (nat_cmp_is 0 y Less high.0))
padded-order (x ∷ xs) [] m zero same low high = absurd (omega arith)
padded-order (x ∷ xs) [] m (suc n) same low high =
    ap (λ (order : Ordering). ordering_then order (slice_cmp nat_cmp (xs ++ replicate m 0) (replicate n 0))) (sym (nat_cmp_is x 0 Greater low.0))
padded-order (x ∷ xs) (y ∷ ys) m n same low high =
    ap (λ (order : Ordering). ordering_then (nat_cmp x y) order) (padded-order xs ys m n (omega arith) low.1 high.1)

letters-above_zero : (text : List ℕ) → list_all is_letter_or_digit text ≡ true → AreAboveZero text
letters-above_zero [] legal = tt
letters-above_zero (byte ∷ text) legal = (grind (arith, legal), letters-above_zero text (grind (arith, legal)))

-- queue ids have the order of the blocks that hold them
pub block-order : (left right : List ℕ) (m n : ℕ) → IsQueueId (take m left) → IsPadded longest_queue_id left m → IsQueueId (take n right) → IsPadded longest_queue_id right n → slice_cmp nat_cmp left right ≡ slice_cmp nat_cmp (take m left) (take n right)
block-order left right m n first low second high =
    let long : length (take m left) ≤ longest_queue_id = grind (arith, first) in
    let other : length (take n right) ≤ longest_queue_id = grind (arith, second) in
    ap (λ (block : List ℕ). slice_cmp nat_cmp block right) (sym low.padded)
    ∙ ap (λ (block : List ℕ). slice_cmp nat_cmp (take m left ++ replicate (longest_queue_id - m) 0) block) (sym high.padded)
    ∙ padded-order (take m left) (take n right) (longest_queue_id - m) (longest_queue_id - n) (omega (arith, low.counted, high.counted, long, other)) (letters-above_zero (take m left) (grind (arith, first))) (letters-above_zero (take n right) (grind (arith, second)))

-- texts tie if and only if they are equal
pub tied_where_equal : (xs ys : List ℕ) → is_eq (slice_cmp nat_cmp xs ys) ≡ bytes_eq xs ys
tied_where_equal = is_eq-slice_cmp
