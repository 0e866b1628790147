-- The bytes after the last occurrence of a byte, and the queue id at the end of a text.
use Rattle.std.proofs.Common.{◌≡◌, ℕ, zero, suc, ◌+◌, ◌-◌, ◌<◌, ◌≤◌, Bool, true, false, ◌&&◌, not, List, [], ◌∷◌, ◌++◌, length, take, drop, get_or, refl, sym, ap, subst, ◌∙◌, arith, append_assoc, length-append, length-drop, take-append-drop, eq-eqb, eqb, Option, Some, None, ◌↔◌}
use Rattle.std.specs.Prelude.{codes, ◌==◌, nat_le, IfSome, IsSome}
use Rattle.std.specs.List.{after_last, ends_with, list_all, suffix_len}
use Rattle.std.proofs.lemmas.Bool.Decides.{Decides-eqb, nat_tests}
use Rattle.std.proofs.lemmas.List.{append_cancel_right, take_rest, get_or-append-add}
use Rattle.std.proofs.lemmas.Slice.Eq.{ends_is}
use Rattle.std.proofs.Math.Seq.{drop-append-add}
use Rattle.std.proofs.lemmas.List.Sums.{suffix_len_is}
use Rattle.dsn_text.specs.Text.{IsQueueId, is_letter_or_digit}
use Rattle.dsn_smtp.specs.QueueIdIn.{TellsQueueId}

-- the place of the last occurrence fixes the bytes after it
after_at : (bytes : List ℕ) (byte start : ℕ) → start ≤ length bytes → ((k : ℕ) → start ≤ k → k < length bytes → not (get_or bytes k 0 == byte) ≡ true)
    → (0 < start → not (get_or bytes (start - 1) 0 == byte) ≡ false) → after_last (λ b. b == byte) bytes ≡ drop start bytes
after_at bytes byte start within passed stops =
    let long : length bytes - suffix_len (λ b. not (b == byte)) bytes ≡ start = rw (suffix_len_is (λ b. not (b == byte)) bytes start 0 within passed stops) (omega (arith, within)) in
    ap (λ (n : ℕ). drop n bytes) long

pub after_is : (bytes : List ℕ) (byte start : ℕ) → start ≤ length bytes → ((k : ℕ) → start ≤ k → k < length bytes → not (get_or bytes k 0 == byte) ≡ true)
    → (0 < start → get_or bytes (start - 1) 0 ≡ byte) → take (length bytes - start) (drop start bytes) ≡ after_last (λ b. b == byte) bytes
after_is bytes byte start within passed stops =
    take_rest bytes start ∙ sym (after_at bytes byte start within passed (λ some. ap not (eq-eqb (get_or bytes (start - 1) 0) byte (stops some))))

and_second : (a b : Bool) → (a && b) ≡ true → b ≡ true
and_second true b h = h
and_second false b h = absurd cc

and_first : (a b : Bool) → (a && b) ≡ true → a ≡ true
and_first true b h = refl
and_first false b h = absurd cc

all_at : (p : ℕ → Bool) (xs : List ℕ) (j : ℕ) → list_all p xs ≡ true → j < length xs → p (get_or xs j 0) ≡ true
all_at p [] j all within = absurd (omega (arith, within))
all_at p (x ∷ xs) zero all within = and_first (p x) (list_all p xs) all
all_at p (x ∷ xs) (suc j) all within = all_at p xs j (and_second (p x) (list_all p xs) all) (omega (arith, within))

no_space : (byte : ℕ) → is_letter_or_digit byte ≡ true → not (byte == 32) ≡ true
no_space byte h = grind (nat_tests, arith, h)

abbrev queued_as : List ℕ
queued_as = codes "queued as "

-- the id is the text after the last space
after_space_in : (id front : List ℕ) → list_all is_letter_or_digit id ≡ true → after_last (λ b. b == 32) (front ++ (queued_as ++ id)) ≡ id
after_space_in id front legal =
    let text : List ℕ = front ++ (queued_as ++ id) in
    let long : length text ≡ length front + (10 + length id) = length-append front (queued_as ++ id) ∙ ap (λ (n : ℕ). length front + n) (length-append queued_as id) in
    let within : length front + 10 ≤ length text = omega (arith, long) in
    let at : (j : ℕ) → get_or text (length front + (10 + j)) 0 ≡ get_or id j 0 = λ j. get_or-append-add front (queued_as ++ id) (10 + j) 0 ∙ get_or-append-add queued_as id j 0 in
    let passed : (k : ℕ) → length front + 10 ≤ k → k < length text → not (get_or text k 0 == 32) ≡ true =
    λ k from to.
    let place : length front + (10 + (k - (length front + 10))) ≡ k = omega (arith, from) in
    let inside : k - (length front + 10) < length id = omega (arith, from, to, long) in
    subst (λ (n : ℕ). not (get_or text n 0 == 32) ≡ true) place
    (rw (at (k - (length front + 10))) (no_space (get_or id (k - (length front + 10)) 0) (all_at is_letter_or_digit id (k - (length front + 10)) legal inside))) in
    let last : length front + 10 - 1 ≡ length front + 9 = omega arith in
    let space : get_or text (length front + 9) 0 ≡ 32 = get_or-append-add front (queued_as ++ id) 9 0 in
    after_at text 32 (length front + 10) within passed (λ some. rw (last, space) refl) ∙ drop-append-add front (queued_as ++ id) 10

pub after_space : (text id : List ℕ) → TellsQueueId text id → after_last (λ b. b == 32) text ≡ id
after_space text id tells = ap (after_last (λ b. b == 32)) tells.is ∙ after_space_in id tells.front (and_second (nat_le 1 (length id) && nat_le (length id) 32) (list_all is_letter_or_digit id) tells.legal)

-- a text is the part before some place and the part after it
split_at : (text : List ℕ) (m : ℕ) → m ≤ length text → take (length text - length (drop m text)) text ++ drop m text ≡ text
split_at text m within =
    let place : length text - length (drop m text) ≡ m = rw (length-drop m text) (omega (arith, within)) in
    ap (λ (n : ℕ). take n text ++ drop m text) place ∙ take-append-drop m text

pub split_last : (text : List ℕ) → take (length text - length (after_last (λ b. b == 32) text)) text ++ after_last (λ b. b == 32) text ≡ text
split_last text = split_at text (length text - suffix_len (λ b. not (b == 32)) text) (omega arith)

-- the text before a queue id ends as Postfix writes it
pub ends_before : (text id last before : List ℕ) → TellsQueueId text id → last ≡ after_last (λ b. b == 32) text → before ≡ take (length text - length last) text → ends_with eqb before queued_as ≡ true
ends_before text id last before tells is before_is =
    let whole : before ++ id ≡ text = rw (before_is, is, after_space text id tells) (let s = split_last text in rw (after_space text id tells) at s) in
    (ends_is Decides-eqb before queued_as (ends_with eqb before queued_as) refl).1 tells.front
    (append_cancel_right before (tells.front ++ queued_as) id (whole ∙ tells.is ∙ sym (append_assoc tells.front queued_as id)))

pub tells : (text last before : List ℕ) → IsQueueId last → last ≡ after_last (λ b. b == 32) text → before ≡ take (length text - length last) text → ends_with eqb before queued_as ≡ true → TellsQueueId text last
tells text last before legal is before_is ends =
    let split = (ends_is Decides-eqb before queued_as (ends_with eqb before queued_as) refl).0 ends in
    let whole : before ++ last ≡ text = rw (before_is, is) (split_last text) in
    record {
      front = take (length before - length queued_as) before;
      legal = legal;
      is = sym whole ∙ ap (λ (b : List ℕ). b ++ last) split ∙ append_assoc (take (length before - length queued_as) before) queued_as last;
    }

-- ---- the result of making an id of a text

pub found_in : (r : Option (List ℕ)) (last : List ℕ) (P : List ℕ → Type 0) → (IsSome r ↔ IsQueueId last) → IfSome r (λ id. id ≡ last) → (IsQueueId last → P last) → IfSome r P
found_in None last P some kept holds = kept
found_in (Some id) last P some kept holds = subst P (sym kept) (holds (some.0 refl))

pub is_some_of : (r : Option (List ℕ)) (last : List ℕ) → (IsSome r ↔ IsQueueId last) → IfSome r (λ id. id ≡ last) → IsQueueId last → r ≡ Some last
is_some_of None last some kept legal =
    let never : false ≡ true = some.1 legal in absurd cc
is_some_of (Some id) last some kept legal = ap Some kept
