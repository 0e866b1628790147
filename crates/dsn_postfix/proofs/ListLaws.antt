-- Lists of attributes: what was written is read, and what is read was written.
use Rattle.std.proofs.Common.{◌≡◌, ℕ, zero, suc, ◌<◌, List, [], ◌∷◌, ◌++◌, length, Option, Some, None, refl, ap, subst, ◌∙◌, append_assoc, arith}
use Rattle.std.specs.List.{AllByRecursion, flat_map}
use Rattle.std.specs.Option.{option_map}
use Rattle.std.proofs.Math.Dec.{eqb-suc-zero}
use Rattle.std.proofs.lemmas.List.{append-nil, length-append}
use Rattle.dsn_postfix.specs.Attribute.{Attribute, BeginsWithList, IsAttribute, attribute_bytes, attributes_after, attributes_at, text_attribute}
use Rattle.dsn_postfix_files.specs.ZeroFree.{IsZeroFree}

abbrev Read : Type 0
Read = Option (List Attribute × List ℕ)

-- the result of reading after an attribute was read
abbrev with_attribute : List ℕ → List ℕ → Read → Read
with_attribute name value read = option_map {U = List Attribute × List ℕ} (λ (x : List Attribute × List ℕ). (text_attribute name value ∷ x.0, x.1)) read

-- ---- what was written is read

value_read : (value front name rest : List ℕ) → IsZeroFree value → attributes_after (value ++ 0 ∷ rest) (Some name) front ≡ with_attribute name (front ++ value) (attributes_after rest None [])
value_read [] front name rest free = rw append-nil refl
value_read (zero ∷ value) front name rest free = absurd cc
value_read (suc byte ∷ value) front name rest free =
    value_read value (front ++ suc byte ∷ []) name rest (rw (eqb-suc-zero byte) at free)
    ∙ ap (λ (w : List ℕ). with_attribute name w (attributes_after rest None [])) (append_assoc front (suc byte ∷ []) value)

name_read : (name front rest : List ℕ) → 0 < length front → IsZeroFree name → attributes_after (name ++ 0 ∷ rest) None front ≡ attributes_after rest (Some (front ++ name)) []
name_read [] [] rest some free = absurd (omega (arith, some))
name_read [] (byte ∷ front) rest some free = rw append-nil refl
name_read (zero ∷ name) front rest some free = absurd cc
name_read (suc byte ∷ name) front rest some free =
    name_read name (front ++ suc byte ∷ []) rest (omega (arith, length-append front (suc byte ∷ []))) (rw (eqb-suc-zero byte) at free)
    ∙ ap (λ (w : List ℕ). attributes_after rest (Some w) []) (append_assoc front (suc byte ∷ []) name)

whole_name_read : (name rest : List ℕ) → 0 < length name → IsZeroFree name → attributes_after (name ++ 0 ∷ rest) None [] ≡ attributes_after rest (Some name) []
whole_name_read [] rest some free = absurd (omega (arith, some))
whole_name_read (zero ∷ name) rest some free = absurd cc
whole_name_read (suc byte ∷ name) rest some free = name_read name (suc byte ∷ []) rest (omega arith) (rw (eqb-suc-zero byte) at free)

attribute_read : (a : Attribute) (rest : List ℕ) → IsAttribute a → attributes_after (attribute_bytes a ++ rest) None [] ≡ with_attribute a.name a.value (attributes_after rest None [])
unfolding attribute_bytes
attribute_read a rest is =
    ap (λ (w : List ℕ). attributes_after w None []) regrouped ∙ whole_name_read a.name (a.value ++ 0 ∷ rest) is.named is.name_ends ∙ value_read a.value [] a.name rest is.value_ends
  where
    regrouped : ((a.name ++ 0 ∷ []) ++ (a.value ++ 0 ∷ [])) ++ rest ≡ a.name ++ 0 ∷ (a.value ++ 0 ∷ rest)
    regrouped = simp append_assoc

list_read : (attributes : List Attribute) (rest : List ℕ) → AllByRecursion IsAttribute attributes → attributes_after (flat_map attribute_bytes attributes ++ 0 ∷ rest) None [] ≡ Some (attributes, rest)
list_read [] rest each = refl
list_read (a ∷ attributes) rest each =
    ap (λ (w : List ℕ). attributes_after w None []) (append_assoc (attribute_bytes a) (flat_map attribute_bytes attributes) (0 ∷ rest))
    ∙ attribute_read a (flat_map attribute_bytes attributes ++ 0 ∷ rest) each.0
    ∙ ap (with_attribute a.name a.value) (list_read attributes rest each.1)

pub written_is_read : (bytes : List ℕ) (attributes : List Attribute) (rest : List ℕ) → BeginsWithList bytes attributes rest → attributes_at bytes ≡ Some (attributes, rest)
written_is_read bytes attributes rest begins =
    ap attributes_at (begins.parts ∙ append_assoc (flat_map attribute_bytes attributes) (0 ∷ []) rest) ∙ list_read attributes rest begins.each

-- ---- what is read was written

-- the bytes that were read before
abbrev before : Option (List ℕ) → List ℕ → List ℕ
before None front = front
before (Some name) front = name ++ 0 ∷ front

-- a name that was read is not empty, and no byte of it is 0
abbrev IsReadName : Option (List ℕ) → Type 0
IsReadName None = Unit {0}
IsReadName (Some name) = (0 < length name) × IsZeroFree name

free_after : (front : List ℕ) (byte : ℕ) → IsZeroFree front → IsZeroFree (front ++ suc byte ∷ [])
free_after [] byte free = rw (eqb-suc-zero byte) refl
free_after (zero ∷ front) byte free = absurd cc
free_after (suc other ∷ front) byte free = rw (eqb-suc-zero other) (free_after front byte (rw (eqb-suc-zero other) at free))

before_more : (within : Option (List ℕ)) (front : List ℕ) (byte : ℕ) (rest : List ℕ) → before within (front ++ byte ∷ []) ++ rest ≡ before within front ++ byte ∷ rest
before_more None front byte rest = append_assoc front (byte ∷ []) rest
before_more (Some name) front byte rest = simp append_assoc

abbrev Found : Type 0
Found = List Attribute × List ℕ

abbrev there : Found → Read
there x = Some x

found_is : (x y : Found) → there x ≡ there y → x ≡ y
found_is x y e = cc

found_with : (name value : List ℕ) (read : Read) (attributes : List Attribute) (rest : List ℕ) → with_attribute name value read ≡ Some (attributes, rest) → (others : List Attribute) × (read ≡ Some (others, rest)) × (text_attribute name value ∷ others ≡ attributes)
found_with name value (Some x) attributes rest e =
    let same = found_is (text_attribute name value ∷ x.0, x.1) (attributes, rest) e in
    (x.0, ap (λ (r : List ℕ). there (x.0, r)) (ap (λ (p : Found). p.1) same), ap (λ (p : Found). p.0) same)
found_with name value None attributes rest e = absurd cc

begun : (front bytes : List ℕ) (a : Attribute) (others : List Attribute) (rest : List ℕ) → IsAttribute a → front ≡ attribute_bytes a ++ bytes → BeginsWithList bytes others rest → BeginsWithList front (a ∷ others) rest
begun front bytes a others rest is e begins = record {
  parts = e ∙ ap (λ (w : List ℕ). attribute_bytes a ++ w) begins.parts ∙ regrouped;
  each = (is, begins.each);
}
  where
    regrouped : attribute_bytes a ++ ((flat_map attribute_bytes others ++ 0 ∷ []) ++ rest) ≡ ((attribute_bytes a ++ flat_map attribute_bytes others) ++ 0 ∷ []) ++ rest
    regrouped = simp append_assoc

ended_attribute : (name front rest : List ℕ) → (name ++ 0 ∷ front) ++ 0 ∷ rest ≡ attribute_bytes (text_attribute name front) ++ rest
unfolding attribute_bytes
ended_attribute name front rest = simp append_assoc

moved : (bytes other : List ℕ) (attributes : List Attribute) (rest : List ℕ) → bytes ≡ other → BeginsWithList bytes attributes rest → BeginsWithList other attributes rest
moved bytes other attributes rest same begins = subst (λ (w : List ℕ). BeginsWithList w attributes rest) same begins

read_from : (bytes : List ℕ) (within : Option (List ℕ)) (front : List ℕ) (attributes : List Attribute) (rest : List ℕ) → IsReadName within → IsZeroFree front → attributes_after bytes within front ≡ Some (attributes, rest) → BeginsWithList (before within front ++ bytes) attributes rest
read_from [] within front attributes rest name free e = absurd cc
read_from (zero ∷ bytes) None [] attributes rest name free e =
    subst (λ (x : Found). BeginsWithList (0 ∷ bytes) x.0 x.1) (found_is ([], bytes) (attributes, rest) e) (record { parts = refl; each = tt })
read_from (zero ∷ bytes) None (byte ∷ front) attributes rest name free e =
    moved (((byte ∷ front) ++ 0 ∷ []) ++ bytes) ((byte ∷ front) ++ 0 ∷ bytes) attributes rest (append_assoc (byte ∷ front) (0 ∷ []) bytes)
    (read_from bytes (Some (byte ∷ front)) [] attributes rest (omega arith, free) refl e)
read_from (zero ∷ bytes) (Some name) front attributes rest is free e =
    let found = found_with name front (attributes_after bytes None []) attributes rest e in
    let others : BeginsWithList bytes found.0 rest = read_from bytes None [] found.0 rest tt refl found.1 in
    let a : IsAttribute (text_attribute name front) = record { named = is.0; name_ends = is.1; value_ends = free } in
    subst (λ (xs : List Attribute). BeginsWithList ((name ++ 0 ∷ front) ++ 0 ∷ bytes) xs rest) found.2
    (begun ((name ++ 0 ∷ front) ++ 0 ∷ bytes) bytes (text_attribute name front) found.0 rest a (ended_attribute name front bytes) others)
read_from (suc byte ∷ bytes) within front attributes rest name free e =
    moved (before within (front ++ suc byte ∷ []) ++ bytes) (before within front ++ suc byte ∷ bytes) attributes rest (before_more within front (suc byte) bytes)
    (read_from bytes within (front ++ suc byte ∷ []) attributes rest name (free_after front byte free) e)

pub read_was_written : (bytes : List ℕ) (attributes : List Attribute) (rest : List ℕ) → attributes_at bytes ≡ Some (attributes, rest) → BeginsWithList bytes attributes rest
read_was_written bytes attributes rest e = read_from bytes None [] attributes rest tt refl e
