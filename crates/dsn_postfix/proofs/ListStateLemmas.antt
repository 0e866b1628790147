-- Bytes end a list exactly if reading them as a list ends.
use Rattle.std.proofs.Common.{◌≡◌, ℕ, zero, suc, ◌<◌, List, [], ◌∷◌, ◌++◌, length, drop, Option, Some, None, refl, sym, ap, subst, ◌∙◌, arith}
use Rattle.std.specs.Option.{option_map}
use Rattle.std.proofs.lemmas.List.{drop_all, length-drop}
use Rattle.dsn_postfix.specs.Attribute.{Attribute, BeginsWithList, attributes_after, text_attribute}
use Rattle.dsn_postfix.specs.ListBuffer.{HasMore, HasNoList, IsList}
use Rattle.dsn_postfix.specs.inner.ListState.{further, step_over}
use Rattle.dsn_postfix.specs.declared.list_state.ListState.{ListState}
use Rattle.dsn_postfix.specs.declared.list_state.ListState.TheVariants.{Front, Name, Value}
use Rattle.dsn_postfix.specs.declared.list_state.ListStep.{ListStep}
use Rattle.dsn_postfix.specs.declared.list_state.ListStep.TheVariants.{Ended, Within}
use Rattle.dsn_postfix.proofs.ListLaws.{read_was_written}

-- ---- bytes after others

further_once_more : (n : ℕ) (s : ListStep) → further 1 (further n s) ≡ further (suc n) s
further_once_more n (Ended size) = ap Ended (omega arith)
further_once_more n (Within place) = refl

further_within : (n : ℕ) (s : ListStep) (place : ListState) → further n s ≡ Within place → s ≡ Within place
further_within n (Ended size) place e = absurd cc
further_within n (Within other) place e = e

-- the result of bytes that end no list, and of more bytes, is that of the latter from the place that the former leave
pub step_over-append : (place next : ListState) (xs ys : List ℕ) → step_over place xs ≡ Within next
    → step_over place (xs ++ ys) ≡ further (length xs) (step_over next ys)
step_over-append place next [] ys e = moved place next ys e
  where
    nothing_before : (s : ListStep) → s ≡ further 0 s
    nothing_before (Ended size) = ap Ended (omega arith)
    nothing_before (Within place) = refl

    place_in : ListStep → ListState
    place_in (Ended size) = Front
    place_in (Within p) = p

    moved : (p q : ListState) (ys : List ℕ) → Within p ≡ Within q → step_over p ys ≡ further 0 (step_over q ys)
    moved p q ys e = ap (λ (x : ListState). step_over x ys) (ap place_in e) ∙ nothing_before (step_over q ys)
step_over-append Front next (zero ∷ xs) ys e = absurd cc
step_over-append Front next (suc byte ∷ xs) ys e =
    ap (further 1) (step_over-append Name next xs ys (further_within 1 (step_over Name xs) next e)) ∙ further_once_more (length xs) (step_over next ys)
step_over-append Name next (zero ∷ xs) ys e =
    ap (further 1) (step_over-append Value next xs ys (further_within 1 (step_over Value xs) next e)) ∙ further_once_more (length xs) (step_over next ys)
step_over-append Name next (suc byte ∷ xs) ys e =
    ap (further 1) (step_over-append Name next xs ys (further_within 1 (step_over Name xs) next e)) ∙ further_once_more (length xs) (step_over next ys)
step_over-append Value next (zero ∷ xs) ys e =
    ap (further 1) (step_over-append Front next xs ys (further_within 1 (step_over Front xs) next e)) ∙ further_once_more (length xs) (step_over next ys)
step_over-append Value next (suc byte ∷ xs) ys e =
    ap (further 1) (step_over-append Value next xs ys (further_within 1 (step_over Value xs) next e)) ∙ further_once_more (length xs) (step_over next ys)

-- ---- reading that is within an attribute

-- the place of reading after a name, if it was read, and the front of a text
abbrev place_of : Option (List ℕ) → List ℕ → ListState
place_of None [] = Front
place_of None (byte ∷ front) = Name
place_of (Some name) front = Value

place_of-more : (within : Option (List ℕ)) (front : List ℕ) (byte : ℕ) (bytes : List ℕ) → step_over (place_of within front) (suc byte ∷ bytes) ≡ further 1 (step_over (place_of within (front ++ suc byte ∷ [])) bytes)
place_of-more None [] byte bytes = refl
place_of-more None (other ∷ front) byte bytes = refl
place_of-more (Some name) front byte bytes = refl

abbrev Read : Type 0
Read = Option (List Attribute × List ℕ)

none_more : (name value : List ℕ) (read : Read) → read ≡ None → option_map {U = List Attribute × List ℕ} (λ (x : List Attribute × List ℕ). (text_attribute name value ∷ x.0, x.1)) read ≡ None
none_more name value read e = ap (option_map {U = List Attribute × List ℕ} (λ (x : List Attribute × List ℕ). (text_attribute name value ∷ x.0, x.1))) e

none_from : (bytes : List ℕ) (within : Option (List ℕ)) (front : List ℕ) (place : ListState) → step_over (place_of within front) bytes ≡ Within place → attributes_after bytes within front ≡ None
none_from [] within front place e = refl
none_from (zero ∷ bytes) None [] place e = absurd cc
none_from (zero ∷ bytes) None (byte ∷ front) place e =
    none_from bytes (Some (byte ∷ front)) [] place (further_within 1 (step_over Value bytes) place e)
none_from (zero ∷ bytes) (Some name) front place e =
    none_more name front (attributes_after bytes None []) (none_from bytes None [] place (further_within 1 (step_over Front bytes) place e))
none_from (suc byte ∷ bytes) within front place e =
    none_from bytes within (front ++ suc byte ∷ []) place
    (further_within 1 (step_over (place_of within (front ++ suc byte ∷ [])) bytes) place (sym (place_of-more within front byte bytes) ∙ e))

-- bytes that end no list contain no list
pub no_list : (bytes : List ℕ) (place : ListState) → step_over Front bytes ≡ Within place → HasNoList bytes
no_list bytes place e = none_from bytes None [] place e

-- a list was read, and the bytes after the first `size` are left
record Ends (bytes : List ℕ) (size : ℕ) (read : Read) : Type 0 where
  attributes : List Attribute
  is : read ≡ Some (attributes, drop size bytes)

abbrev size_in : ListStep → ℕ
size_in (Ended size) = size
size_in (Within place) = 0

further_ended : (s : ListStep) (size : ℕ) → further 1 s ≡ Ended size → (rest : ℕ) × (s ≡ Ended rest) × (size ≡ suc rest)
further_ended (Ended rest) size e = (rest, refl, omega (arith, ap size_in e))
further_ended (Within place) size e = absurd cc

with_one : (name value bytes : List ℕ) (size : ℕ) (read : Read) → Ends bytes size read → Ends bytes size (option_map {U = List Attribute × List ℕ} (λ (x : List Attribute × List ℕ). (text_attribute name value ∷ x.0, x.1)) read)
with_one name value bytes size read ends = record {
  attributes = text_attribute name value ∷ ends.attributes;
  is = ap (option_map {U = List Attribute × List ℕ} (λ (x : List Attribute × List ℕ). (text_attribute name value ∷ x.0, x.1))) ends.is;
}

one_later : (byte : ℕ) (bytes : List ℕ) (size rest : ℕ) (read : Read) → size ≡ suc rest → Ends bytes rest read → Ends (byte ∷ bytes) size read
one_later byte bytes size rest read e ends = record {
  attributes = ends.attributes;
  is = ends.is ∙ ap (λ (n : ℕ). some_of ends.attributes (drop n (byte ∷ bytes))) (sym e);
}
  where
    some_of : List Attribute → List ℕ → Read
    some_of attributes rest = Some (attributes, rest)

ends_from : (bytes : List ℕ) (within : Option (List ℕ)) (front : List ℕ) (size : ℕ) → step_over (place_of within front) bytes ≡ Ended size → Ends bytes size (attributes_after bytes within front)
ends_from [] None [] size e = absurd cc
ends_from [] None (byte ∷ front) size e = absurd cc
ends_from [] (Some name) front size e = absurd cc
ends_from (zero ∷ bytes) None [] size e =
    record { attributes = []; is = ap (λ (n : ℕ). some_of (drop n (0 ∷ bytes))) (ap size_in e) }
  where
    some_of : List ℕ → Read
    some_of rest = Some ([], rest)
ends_from (zero ∷ bytes) None (byte ∷ front) size e =
    let found = further_ended (step_over Value bytes) size e in
    one_later 0 bytes size found.0 (attributes_after bytes (Some (byte ∷ front)) []) found.2 (ends_from bytes (Some (byte ∷ front)) [] found.0 found.1)
ends_from (zero ∷ bytes) (Some name) front size e =
    let found = further_ended (step_over Front bytes) size e in
    with_one name front (0 ∷ bytes) size (attributes_after bytes None [])
    (one_later 0 bytes size found.0 (attributes_after bytes None []) found.2 (ends_from bytes None [] found.0 found.1))
ends_from (suc byte ∷ bytes) within front size e =
    let found = further_ended (step_over (place_of within (front ++ suc byte ∷ [])) bytes) size (sym (place_of-more within front byte bytes) ∙ e) in
    one_later (suc byte) bytes size found.0 (attributes_after bytes within (front ++ suc byte ∷ [])) found.2
    (ends_from bytes within (front ++ suc byte ∷ []) found.0 found.1)

-- bytes that end a list with the last of them are one list
pub whole_list : (bytes : List ℕ) (size : ℕ) → step_over Front bytes ≡ Ended size → size ≡ length bytes → IsList bytes
whole_list bytes size e long =
    let ends = ends_from bytes None [] size e in
    let none_left : drop size bytes ≡ [] = drop_all size bytes (omega (arith, long)) in
    record {
      attributes = ends.attributes;
      whole = subst (λ (rest : List ℕ). BeginsWithList bytes ends.attributes rest) none_left (read_was_written bytes ends.attributes (drop size bytes) ends.is);
    }

-- bytes that end a list before the last of them are a list and more bytes
pub list_and_more : (bytes : List ℕ) (size : ℕ) → step_over Front bytes ≡ Ended size → size < length bytes → HasMore bytes
list_and_more bytes size e short =
    let ends = ends_from bytes None [] size e in
    record {
      attributes = ends.attributes;
      rest = drop size bytes;
      begins = read_was_written bytes ends.attributes (drop size bytes) ends.is;
      some = rw length-drop (omega (arith, short));
    }
