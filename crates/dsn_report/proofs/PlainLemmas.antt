-- Legal texts are printable and short.
use Rattle.std.proofs.Common.{◌≡◌, ℕ, ◌≤◌, Bool, true, false, ◌&&◌, ◌||◌, ◌⊎◌, List, [], ◌∷◌, ◌++◌, length, codes, refl, sym, ap, ◌∙◌, arith, inl, inr}
use Rattle.std.specs.Prelude.{nat_le, nat_eq, ◌==◌}
use Rattle.std.specs.List.{list_all, starts_with}
use Rattle.std.proofs.lemmas.Bool.{false≢true, leb-true}
use Rattle.std.proofs.lemmas.Bool.Decides.{eqb_tells}
use Rattle.dsn_text.proofs.StatusLemmas.{IsStatusCode-test, length-IsStatusCode}
use Rattle.dsn_text.specs.Extension.{is_extension_name, is_extension_value}
use Rattle.dsn_text.specs.Status.{is_status_code, is_class}
use Rattle.dsn_text.specs.Text.{is_printable, is_visible, is_address_byte, is_letter_or_digit, is_digit, is_text, is_address, is_atom_byte, is_type_name, is_mta_name, is_envelope_id, is_remark, is_queue_id}
use Rattle.dsn_report.proofs.DateText.{printable-between, shown-append}
use Rattle.dsn_report.specs.Site.{is_host, is_host_byte}

pub and-parts : (a b : Bool) → (a && b) ≡ true → (a ≡ true) × (b ≡ true)
and-parts true b e = (refl, e)
and-parts false b e = absurd (false≢true e)

pub or-parts : (a b : Bool) → (a || b) ≡ true → (a ≡ true) ⊎ (b ≡ true)
or-parts true b e = inl refl
or-parts false b e = inr e

-- a byte between two printable bytes is printable
between-printable : (low high byte : ℕ) → 32 ≤ low → high ≤ 126 → (nat_le low byte && nat_le byte high) ≡ true → is_printable byte ≡ true
between-printable low high byte least most e =
    let parts = and-parts (nat_le low byte) (nat_le byte high) e in
    let above = leb-true low byte parts.0 in
    let below = leb-true byte high parts.1 in
    printable-between byte (omega (arith, above)) (omega (arith, below))

visible-printable : (byte : ℕ) → is_visible byte ≡ true → is_printable byte ≡ true
visible-printable byte e = between-printable 33 126 byte (omega arith) (omega arith) e

address-printable : (byte : ℕ) → is_address_byte byte ≡ true → is_printable byte ≡ true
address-printable byte e = visible-printable byte (and-parts (is_visible byte) _ e).0

digit-printable : (byte : ℕ) → is_digit byte ≡ true → is_printable byte ≡ true
digit-printable byte e = between-printable 48 57 byte (omega arith) (omega arith) e

id-printable : (byte : ℕ) → is_letter_or_digit byte ≡ true → is_printable byte ≡ true
id-printable byte e = elim (or-parts (is_digit byte) _ e) [
  | inl digit ↦ digit-printable byte digit
  | inr letter ↦ elim (or-parts (nat_le 65 byte && nat_le byte 90) _ letter) [
    | inl upper ↦ between-printable 65 90 byte (omega arith) (omega arith) upper
    | inr lower ↦ between-printable 97 122 byte (omega arith) (omega arith) lower
  ]
]

equal-printable : (least byte : ℕ) → 32 ≤ least → least ≤ 126 → (byte == least) ≡ true → is_printable byte ≡ true
equal-printable least byte low high e = elim (eqb_tells byte least) [
  | inl same ↦ printable-between byte (omega (arith, same.1)) (omega (arith, same.1))
  | inr other ↦ absurd (false≢true (sym other.0 ∙ e))
]

host-printable : (byte : ℕ) → is_host_byte byte ≡ true → is_printable byte ≡ true
host-printable byte e = elim (or-parts (is_letter_or_digit byte) _ e) [
  | inl plain ↦ id-printable byte plain
  | inr mark ↦ elim (or-parts (byte == 46) _ mark) [
    | inl dot ↦ equal-printable 46 byte (omega arith) (omega arith) dot
    | inr dash ↦ equal-printable 45 byte (omega arith) (omega arith) dash
  ]
]

class-printable : (byte : ℕ) → is_class byte ≡ true → is_printable byte ≡ true
class-printable byte e = elim (or-parts (byte == 50) _ e) [
  | inl two ↦ equal-printable 50 byte (omega arith) (omega arith) two
  | inr more ↦ elim (or-parts (byte == 52) _ more) [
    | inl four ↦ equal-printable 52 byte (omega arith) (omega arith) four
    | inr five ↦ equal-printable 53 byte (omega arith) (omega arith) five
  ]
]

-- a text whose bytes pass a stricter test is printable
all-printable : (test : ℕ → Bool) → ((byte : ℕ) → test byte ≡ true → is_printable byte ≡ true) → (text : List ℕ) → list_all test text ≡ true → list_all is_printable text ≡ true
all-printable test stricter [] e = refl
all-printable test stricter (byte ∷ text) e =
    let parts = and-parts (test byte) (list_all test text) e in
    rw (stricter byte parts.0, all-printable test stricter text parts.1) refl

-- a text is printable and has at most the given number of bytes
pub record IsPlain (most : ℕ) (text : List ℕ) : Type 0 where
  pub printable : list_all is_printable text ≡ true
  pub short : length text ≤ most

pub text-plain : (test : ℕ → Bool) → ((byte : ℕ) → test byte ≡ true → is_printable byte ≡ true) → (least most : ℕ) (text : List ℕ) → is_text test least most text ≡ true → IsPlain most text
text-plain test stricter least most text e =
    let parts = and-parts (nat_le least (length text) && nat_le (length text) most) (list_all test text) e in
    record {
      printable = all-printable test stricter text parts.1;
      short = leb-true (length text) most (and-parts (nat_le least (length text)) _ parts.0).1;
    }

pub address-plain : (text : List ℕ) → is_address text ≡ true → IsPlain 256 text
address-plain text e = text-plain is_address_byte address-printable 1 256 text e

atom-printable : (byte : ℕ) → is_atom_byte byte ≡ true → is_printable byte ≡ true
atom-printable byte e = visible-printable byte (and-parts (is_visible byte) _ e).0

pub type_name-plain : (text : List ℕ) → is_type_name text ≡ true → IsPlain 32 text
type_name-plain text e = text-plain is_atom_byte atom-printable 1 32 text e

pub extension_name-plain : (text : List ℕ) → is_extension_name text ≡ true → IsPlain 64 text
extension_name-plain text e = text-plain is_atom_byte atom-printable 3 64 text (and-parts (starts_with nat_eq text (codes "X-")) _ e).1

pub extension_value-plain : (text : List ℕ) → is_extension_value text ≡ true → IsPlain 255 text
extension_value-plain text e = text-plain is_printable (λ byte e. e) 1 255 text e

pub mta-plain : (text : List ℕ) → is_mta_name text ≡ true → IsPlain 255 text
mta-plain text e = text-plain is_visible visible-printable 1 255 text e

pub envelope_id-plain : (text : List ℕ) → is_envelope_id text ≡ true → IsPlain 100 text
envelope_id-plain text e = text-plain is_printable (λ byte e. e) 1 100 text e

pub remark-plain : (text : List ℕ) → is_remark text ≡ true → IsPlain 800 text
remark-plain text e = text-plain is_printable (λ byte e. e) 1 800 text e

pub id-plain : (text : List ℕ) → is_queue_id text ≡ true → IsPlain 32 text
id-plain text e = text-plain is_letter_or_digit id-printable 1 32 text e

pub host-plain : (text : List ℕ) → is_host text ≡ true → IsPlain 255 text
host-plain text e = text-plain is_host_byte host-printable 1 255 text e

pub status-plain : (text : List ℕ) → is_status_code text ≡ true → IsPlain 9 text
status-plain text e =
    let code = IsStatusCode-test text e in
    let subject = text-plain is_digit digit-printable 1 3 code.subject code.subject_number.digits in
    let detail = text-plain is_digit digit-printable 1 3 code.detail code.detail_number.digits in
    record {
      printable =
          ap (list_all is_printable) code.shape
          ∙ shown-append (code.class ∷ codes ".") (code.subject ++ (codes "." ++ code.detail)) (rw (class-printable code.class code.class_known) refl)
          (shown-append code.subject (codes "." ++ code.detail) subject.printable detail.printable);
      short = length-IsStatusCode text code;
    }
