-- Several texts that are sent or read one after another have the effect of the joined text.
use Rattle.std.proofs.Common.{◌≡◌, ℕ, ◌+◌, ◌-◌, ◌≤◌, List, [], ◌++◌, Option, length, take, drop, refl, sym, ap, subst, ◌∙◌, arith, append_assoc, append-nil, take-append-drop, length-take-le, length-append}
use Rattle.std.proofs.lemmas.List.{take_rest, take-take}
use Rattle.std.proofs.Math.Seq.{take-append-add}
use borrow.Rule.Slice.PartMut.{put_mid}
use Rattle.std.proofs.lemmas.Slice.{take-put_mid}
use Rattle.std.specs.Io.KnownBytes.{Appends, Consumes, Keeps}
use Rattle.std.proofs.KnownBytes.{Appends-nil, Appends-trans, Appends-kept, Consumes-trans}
use Rattle.dsn_device.specs.Transfer.{AppendsFront, AppendsPart}

-- ---- the bytes that a drain took

-- a whole text is a front of itself
pub AppendsFront-all : (a b : Option (List ℕ)) (text : List ℕ) → Appends a b text → AppendsFront a b text
AppendsFront-all a b text p = record { front = text; unsent = []; split = sym (append-nil text); appended = p }

-- a part of a text is a part of each longer text
pub AppendsPart-longer : (a b : Option (List ℕ)) (text more : List ℕ) → AppendsPart a b text → AppendsPart a b (text ++ more)
AppendsPart-longer a b text more p = record {
  front = p.front;
  unsent = p.unsent ++ more;
  some = rw length-append (omega (arith, p.some));
  split = ap (λ l. l ++ more) p.split ∙ append_assoc p.front p.unsent more;
  appended = p.appended;
}

-- a text and then a part of another are a part of both
pub Appends-part : (a b c : Option (List ℕ)) (text more : List ℕ) → Appends a b text → AppendsPart b c more → AppendsPart a c (text ++ more)
Appends-part a b c text more p q = record {
  front = text ++ q.front;
  unsent = q.unsent;
  some = q.some;
  split = ap (λ l. text ++ l) q.split ∙ sym (append_assoc text q.front q.unsent);
  appended = Appends-trans a b c text q.front p q.appended;
}

-- a call that keeps the bytes of a drain keeps what it took
pub AppendsPart-kept : (a b c : Option (List ℕ)) (text : List ℕ) → AppendsPart a b text → Keeps b c → AppendsPart a c text
AppendsPart-kept a b c text p q = record {
  front = p.front;
  unsent = p.unsent;
  some = p.some;
  split = p.split;
  appended = Appends-kept a b c p.front p.appended q;
}

-- a front of the unsent text is moved to the sent text
pub split-moved : (all done rest : List ℕ) (n : ℕ) → all ≡ done ++ rest → all ≡ (done ++ take n rest) ++ take (length rest - n) (drop n rest)
split-moved all done rest n e =
    e ∙ ap (λ l. done ++ l) (sym (take-append-drop n rest)) ∙ sym (append_assoc done (take n rest) (drop n rest)) ∙ ap (λ l. (done ++ take n rest) ++ l) (sym (take_rest rest n))

-- ---- the bytes that a source returned

-- a read into the rest of a buffer puts its bytes after the front
take-put_mid_more : (a n : ℕ) (xs ys : List ℕ) → a ≤ length xs → length ys ≡ length xs - a → n ≤ length ys
    → take (a + n) (put_mid a (length xs - a) xs ys) ≡ take a xs ++ take n ys
take-put_mid_more a n xs ys within whole fits =
    let k = length xs - a in
    let all : take (a + length ys) (put_mid a k xs ys) ≡ take a xs ++ ys = take-put_mid a k xs ys (a + length ys) refl within in
    let long : length (take a xs) ≡ a = length-take-le a xs within in
    sym (take-take (a + n) (a + length ys) (put_mid a k xs ys) (omega arith))
    ∙ ap (take (a + n)) all
    ∙ ap (λ m. take (m + n) (take a xs ++ ys)) (sym long)
    ∙ take-append-add (take a xs) ys n

-- the front of the buffer was consumed after one more read, if it was before
pub Consumes-more : (a b c : Option (List ℕ)) (filled n more : ℕ) (xs ys : List ℕ) → filled ≤ length xs → length ys ≡ length xs - filled → n ≤ length ys
    → more ≡ filled + n → Consumes a b (take filled xs) → Consumes b c (take n ys) → Consumes a c (take more (put_mid filled (length xs - filled) xs ys))
Consumes-more a b c filled n more xs ys within whole fits is before read =
    rw is (subst (Consumes a c) (sym (take-put_mid_more filled n xs ys within whole fits)) (Consumes-trans a b c (take filled xs) (take n ys) before read))
