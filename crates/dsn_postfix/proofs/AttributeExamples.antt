-- Worked examples of attributes: the announcement and an answer of Postfix's bounce(8), and bytes that are not a valid
-- list.
use Rattle.std.proofs.Common.{◌≡◌, ℕ, List, [], ◌∷◌, ◌++◌, Some, None, refl}
use Rattle.std.specs.Prelude.{codes}
use Rattle.std.specs.Fmt.{digits}
use Rattle.dsn_postfix.specs.Attribute.{Attribute, attribute_bytes, attributes_at, number_in, text_attribute}
use Rattle.dsn_postfix.specs.PostfixAnswer.{announcement_bytes, status_bytes}

abbrev announcement : List ℕ
announcement = codes "protocol" ++ (0 ∷ codes "delivery_status_protocol") ++ (0 ∷ 0 ∷ [])

abbrev answer : List ℕ
answer = codes "status" ++ (0 ∷ codes "4294967295") ++ (0 ∷ 0 ∷ [])

abbrev announced : Attribute
announced = text_attribute (codes "protocol") (codes "delivery_status_protocol")

announcement_is_written : announcement_bytes ≡ announcement
unfolding announcement_bytes attribute_bytes
announcement_is_written = refl

answer_is_written : status_bytes 4294967295 ≡ answer
unfolding status_bytes attribute_bytes digits
answer_is_written = refl

-- two lists, one after the other
both_are_read : attributes_at (announcement ++ answer) ≡ Some (announced ∷ [], answer)
both_are_read = refl

-- an empty value, and an empty list
empty_value : attributes_at (codes "encoding" ++ (0 ∷ 0 ∷ 0 ∷ [])) ≡ Some (text_attribute (codes "encoding") [] ∷ [], [])
empty_value = refl

empty_list : attributes_at (0 ∷ 7 ∷ []) ≡ Some ([], 7 ∷ [])
empty_list = refl

-- no list: it ends in a name, in a value, or after an attribute
no_bytes : attributes_at [] ≡ None
no_bytes = refl

cut_in_a_name : attributes_at (codes "status") ≡ None
cut_in_a_name = refl

cut_in_a_value : attributes_at (codes "status" ++ (0 ∷ codes "0")) ≡ None
cut_in_a_value = refl

cut_before_the_end : attributes_at (codes "status" ++ (0 ∷ codes "0") ++ (0 ∷ [])) ≡ None
cut_before_the_end = refl

-- numbers
zero_is_one : number_in 10 (codes "0") ≡ Some 0
unfolding number_in digits
zero_is_one = refl

below_the_limit : number_in 256 (codes "255") ≡ Some 255
unfolding number_in digits
below_the_limit = refl

not_below_it : number_in 256 (codes "256") ≡ None
unfolding number_in digits
not_below_it = refl

no_digits : number_in 256 [] ≡ None
unfolding number_in digits
no_digits = refl

zero_in_front : number_in 256 (codes "07") ≡ None
unfolding number_in digits
zero_in_front = refl

sign_in_front : number_in 256 (codes "+7") ≡ None
unfolding number_in digits
sign_in_front = refl

space_in_front : number_in 256 (codes " 7") ≡ None
unfolding number_in digits
space_in_front = refl

letter_behind : number_in 256 (codes "7a") ≡ None
unfolding number_in digits
letter_behind = refl
