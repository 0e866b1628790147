-- Attributes: lists of names and values, as Postfix's programs send them to one another.
use Rattle.std.specs.Prelude.{◌≡◌, ℕ, zero, suc, ◌<◌, ◌^◌, ◌==◌, ◌&&◌, nat_lt, List, [], ◌∷◌, ◌++◌, length, decimal, Option, Some, None, if◌then◌else◌}
use Rattle.std.specs.Option.{option_map}
use Rattle.std.specs.List.{AllByRecursion, flat_map}
use Rattle.std.specs.Cmp.Lexicographic.{pointwise}
use Rattle.std.specs.Str.Parse.{digits_value}
use Rattle.dsn_postfix_files.specs.ZeroFree.{IsZeroFree}

-- a name and its value
pub record Attribute : Type 0 where
  pub name : List ℕ
  pub value : List ℕ

-- a valid attribute: it has a name, since an empty name ends a list
pub record IsAttribute (attribute : Attribute) : Type 0 where
  pub named : 0 < length attribute.name
  pub name_ends : IsZeroFree attribute.name
  pub value_ends : IsZeroFree attribute.value

-- ---- how a list is written

-- a text and the zero that ends it
abbrev pub zero_ended : List ℕ → List ℕ
zero_ended text = text ++ 0 ∷ []

unfoldable pub attribute_bytes : Attribute → List ℕ
attribute_bytes attribute = zero_ended attribute.name ++ zero_ended attribute.value

-- a list is its attributes, one after another, and an empty name
abbrev pub list_bytes : List Attribute → List ℕ
list_bytes attributes = flat_map attribute_bytes attributes ++ 0 ∷ []

-- attributes whose values are a text and a number; a number is written in decimal, without leading zeros
abbrev pub text_attribute : List ℕ → List ℕ → Attribute
text_attribute name value = record { name = name; value = value }

abbrev pub number_attribute : List ℕ → ℕ → Attribute
number_attribute name number = record { name = name; value = decimal number }

-- ---- how a list is read

-- the text before the first 0, and the bytes after it
abbrev pub zero_ended_at : List ℕ → Option (List ℕ × List ℕ)
zero_ended_at [] = None
zero_ended_at (zero ∷ rest) = Some ([], rest)
zero_ended_at (suc byte ∷ rest) = option_map (λ read. (suc byte ∷ read.0, read.1)) (zero_ended_at rest)

-- a number has 32 bits, and an offset 64
abbrev pub number_limit : ℕ
number_limit = 2 ^ 32

abbrev pub offset_limit : ℕ
offset_limit = 2 ^ 64

-- the number below a limit that a text writes
unfoldable pub number_in : ℕ → List ℕ → Option ℕ
number_in limit text =
    if nat_lt (digits_value 10 text) limit && pointwise ◌==◌ (decimal (digits_value 10 text)) text
    then Some (digits_value 10 text)
    else None

-- The list at the front of some bytes, and the bytes after it. Before these bytes, the name `within` was read if its
-- value is being read, and `front`, the front of a text.
abbrev pub attributes_after : List ℕ → Option (List ℕ) → List ℕ → Option (List Attribute × List ℕ)
attributes_after [] within front = None
attributes_after (zero ∷ rest) None [] = Some ([], rest)
attributes_after (zero ∷ rest) None (byte ∷ front) = attributes_after rest (Some (byte ∷ front)) []
attributes_after (zero ∷ rest) (Some name) front =
    option_map (λ read. (text_attribute name front ∷ read.0, read.1)) (attributes_after rest None [])
attributes_after (suc byte ∷ rest) within front = attributes_after rest within (front ++ suc byte ∷ [])

abbrev pub attributes_at : List ℕ → Option (List Attribute × List ℕ)
attributes_at bytes = attributes_after bytes None []

-- bytes that begin with a list, and the bytes after it
pub record BeginsWithList (bytes : List ℕ) (attributes : List Attribute) (rest : List ℕ) : Type 0 where
  pub parts : bytes ≡ list_bytes attributes ++ rest
  pub each : AllByRecursion IsAttribute attributes
