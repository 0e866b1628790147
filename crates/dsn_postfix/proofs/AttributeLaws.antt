-- An attribute that was read is the one that was written, and one that was written is read again, whatever follows it.
use Rattle.std.proofs.Common.{◌≡◌, ℕ, zero, suc, ◌<◌, ◌≤◌, ◌^◌, ◌==◌, Bool, true, false, cond, List, [], ◌∷◌, ◌++◌, length, decimal, Option, Some, None, Result, Ok, Err, refl, sym, ap, subst, ◌∙◌, append_assoc, arith}
use Rattle.std.specs.Cmp.Lexicographic.{pointwise}
use Rattle.std.specs.Option.{option_map}
use Rattle.std.proofs.Math.Dec.{eqb-suc-zero}
use Rattle.dsn_postfix.specs.Attribute.{attribute_bytes, number_attribute, number_in, text_attribute, zero_ended_at}
use Rattle.dsn_postfix_files.specs.ZeroFree.{IsZeroFree}
use Rattle.dsn_postfix.specs.RequestReading.{◌>>>◌, named, or_fault, tested, tested_at, attribute_at, value_number_at}
use Rattle.dsn_postfix.specs.declared.request_fault.RequestFault.{RequestFault}
use Rattle.dsn_postfix.specs.declared.request_fault.RequestFault.TheVariants.{Unended, Name, Number}
use Rattle.dsn_postfix.proofs.NumberLemmas.{compared_same, decimal_free, number_again, number_takes, same_bytes}

-- ---- readings without a fault

pub bind_ok : {A B : Type 0} (r : Result A RequestFault) (f : A → Result B RequestFault) (y : B) → (r >>> f) ≡ Ok y → (x : A) × (r ≡ Ok x) × (f x ≡ Ok y)
bind_ok (Ok x) f y e = (x, refl, e)
bind_ok (Err d) f y e = absurd cc

abbrev done : {A : Type 0} → A → Result A RequestFault
done x = Ok x

pub ok_is : {A : Type 0} (x y : A) → done x ≡ done y → x ≡ y
ok_is x y e = cc

abbrev there : {A : Type 0} → A → Option A
there x = Some x

some_is : {A : Type 0} (x y : A) → there x ≡ there y → x ≡ y
some_is x y e = cc

there_ok : {A : Type 0} (fault : RequestFault) (o : Option A) (x : A) → or_fault fault o ≡ Ok x → o ≡ Some x
there_ok fault (Some y) x e = ap there (ok_is y x e)
there_ok fault None x e = absurd cc

-- ---- texts that a zero ends

abbrev Split : Type 0
Split = List ℕ × List ℕ

tail_there : (byte : ℕ) (o : Option Split) (text rest : List ℕ) → option_map {U = Split} (λ (read : Split). (suc byte ∷ read.0, read.1)) o ≡ Some (text, rest) → (tail : List ℕ) × (o ≡ Some (tail, rest)) × (text ≡ suc byte ∷ tail)
tail_there byte (Some x) text rest e =
    let same = some_is (suc byte ∷ x.0, x.1) (text, rest) e in
    (x.0, ap (λ (r : List ℕ). there (x.0, r)) (ap (λ (p : Split). p.1) same), sym (ap (λ (p : Split). p.0) same))
tail_there byte None text rest e = absurd cc

pub text_takes : (bytes text rest : List ℕ) → zero_ended_at bytes ≡ Some (text, rest) → (bytes ≡ text ++ 0 ∷ rest) × IsZeroFree text
text_takes [] text rest e = absurd cc
text_takes (zero ∷ bytes) text rest e =
    subst (λ (p : Split). (0 ∷ bytes ≡ p.0 ++ 0 ∷ p.1) × IsZeroFree p.0) (some_is ([], bytes) (text, rest) e) (refl, refl)
text_takes (suc byte ∷ bytes) text rest e =
    let t = tail_there byte (zero_ended_at bytes) text rest e in
    let again = text_takes bytes t.0 rest t.1 in
    rw t.2 (ap (λ (w : List ℕ). suc byte ∷ w) again.0, rw (eqb-suc-zero byte) again.1)

pub text_again : (text rest : List ℕ) → IsZeroFree text → zero_ended_at (text ++ 0 ∷ rest) ≡ Some (text, rest)
text_again [] rest free = refl
text_again (zero ∷ text) rest free = absurd cc
text_again (suc byte ∷ text) rest free = rw (text_again text rest (rw (eqb-suc-zero byte) at free)) refl

-- ---- one attribute

named_is : (name found : List ℕ) (x : Bool) → named name found ≡ Ok x → found ≡ name
named_is name [] x e = absurd cc
named_is name (byte ∷ text) x e = tested_name (pointwise ◌==◌ (byte ∷ text) name) refl e
  where
    tested_name : (same : Bool) → pointwise ◌==◌ (byte ∷ text) name ≡ same → cond same (Ok true) (Err Name) ≡ Ok x → byte ∷ text ≡ name
    tested_name true is f = same_bytes (byte ∷ text) name is
    tested_name false is f = absurd cc

pub value_takes : (name bytes value rest : List ℕ) → attribute_at name bytes ≡ Ok (value, rest) → (bytes ≡ attribute_bytes (text_attribute name value) ++ rest) × IsZeroFree value
unfolding attribute_at attribute_bytes
value_takes name bytes value rest e =
    let found = bind_ok (or_fault Unended (zero_ended_at bytes)) _ (value, rest) e in
    let same = bind_ok (named name found.0.0) _ (value, rest) found.2 in
    let first = text_takes bytes found.0.0 found.0.1 (there_ok Unended (zero_ended_at bytes) found.0 found.1) in
    let second = text_takes found.0.1 value rest (there_ok Unended (zero_ended_at found.0.1) (value, rest) same.2) in
    let name_is : found.0.0 ≡ name = named_is name found.0.0 same.0 same.1 in
    (first.0 ∙ ap (λ (w : List ℕ). w ++ 0 ∷ found.0.1) name_is ∙ ap (λ (w : List ℕ). name ++ 0 ∷ w) second.0 ∙ regrouped, second.1)
  where
    regrouped : name ++ 0 ∷ (value ++ 0 ∷ rest) ≡ ((name ++ 0 ∷ []) ++ (value ++ 0 ∷ [])) ++ rest
    regrouped = simp append_assoc

named_again : (name : List ℕ) → 0 < length name → named name name ≡ Ok true
named_again [] some = absurd (omega (arith, some))
named_again (byte ∷ name) some = rw (compared_same (byte ∷ name) (byte ∷ name) refl) refl

-- the name of a layout's attribute
pub record IsName (name : List ℕ) : Type 0 where
  pub some : 0 < length name
  pub free : IsZeroFree name

pub value_again : (name value rest : List ℕ) → IsName name → IsZeroFree value → attribute_at name (attribute_bytes (text_attribute name value) ++ rest) ≡ Ok (value, rest)
unfolding attribute_at attribute_bytes
value_again name value rest is free =
    rw (regrouped, text_again name (value ++ 0 ∷ rest) is.free, named_again name is.some, text_again value rest free) refl
  where
    regrouped : ((name ++ 0 ∷ []) ++ (value ++ 0 ∷ [])) ++ rest ≡ name ++ 0 ∷ (value ++ 0 ∷ rest)
    regrouped = simp append_assoc

-- ---- a number

pub number_takes_attribute : (limit : ℕ) (name bytes : List ℕ) (n : ℕ) (rest : List ℕ) → value_number_at limit name bytes ≡ Ok (n, rest) → (bytes ≡ attribute_bytes (number_attribute name n) ++ rest) × (n < limit)
unfolding value_number_at
number_takes_attribute limit name bytes n rest e =
    let value = bind_ok (attribute_at name bytes) _ (n, rest) e in
    let number = bind_ok (or_fault Number (number_in limit value.0.0)) _ (n, rest) value.2 in
    let text = number_takes limit value.0.0 number.0 (there_ok Number (number_in limit value.0.0) number.0 number.1) in
    let parts = (value_takes name bytes value.0.0 value.0.1 value.1).0 in
    subst (λ (p : ℕ × List ℕ). (bytes ≡ attribute_bytes (number_attribute name p.0) ++ p.1) × (p.0 < limit)) (ok_is (number.0, value.0.1) (n, rest) number.2)
    (parts ∙ ap (λ (w : List ℕ). attribute_bytes (text_attribute name w) ++ value.0.1) text.0, text.1)

pub number_again_attribute : (limit : ℕ) (name : List ℕ) (n : ℕ) (rest : List ℕ) → IsName name → n < limit → limit ≤ 2 ^ 64 → value_number_at limit name (attribute_bytes (number_attribute name n) ++ rest) ≡ Ok (n, rest)
unfolding value_number_at
number_again_attribute limit name n rest is low few =
    rw (value_again name (decimal n) rest is (decimal_free n (omega (arith, low, few))), number_again limit n low few) refl

-- ---- a text that passes a test

tested_is : (test : List ℕ → Bool) (fault : RequestFault) (value text : List ℕ) → tested test fault value ≡ Ok text → (value ≡ text) × (test value ≡ true)
tested_is test fault value text e = passed (test value) refl e
  where
    passed : (b : Bool) → test value ≡ b → cond b (Ok value) (Err fault) ≡ Ok text → (value ≡ text) × (test value ≡ true)
    passed true is f = (ok_is value text f, is)
    passed false is f = absurd cc

pub tested_takes : (test : List ℕ → Bool) (fault : RequestFault) (name bytes text rest : List ℕ) → tested_at test fault name bytes ≡ Ok (text, rest) → (bytes ≡ attribute_bytes (text_attribute name text) ++ rest) × (test text ≡ true)
unfolding tested_at
tested_takes test fault name bytes text rest e =
    let value = bind_ok (attribute_at name bytes) _ (text, rest) e in
    let passes = bind_ok (tested test fault value.0.0) _ (text, rest) value.2 in
    let is = tested_is test fault value.0.0 passes.0 passes.1 in
    let parts = (value_takes name bytes value.0.0 value.0.1 value.1).0 in
    subst (λ (p : Split). (bytes ≡ attribute_bytes (text_attribute name p.0) ++ p.1) × (test p.0 ≡ true)) (ok_is (passes.0, value.0.1) (text, rest) passes.2)
    (parts ∙ ap (λ (w : List ℕ). attribute_bytes (text_attribute name w) ++ value.0.1) is.0, ap test (sym is.0) ∙ is.1)

pub tested_again : (test : List ℕ → Bool) (fault : RequestFault) (name text rest : List ℕ) → IsName name → IsZeroFree text → test text ≡ true → tested_at test fault name (attribute_bytes (text_attribute name text) ++ rest) ≡ Ok (text, rest)
unfolding tested_at
tested_again test fault name text rest is free passes = rw (value_again name text rest is free, passes) refl
