-- Each command is one line.
use Rattle.std.proofs.Common.{◌≡◌, ℕ, ◌+◌, ◌≤◌, Bool, true, false, ◌&&◌, not, ◌==◌, List, [], ◌∷◌, ◌++◌, length, refl, sym, ap, subst, arith, append_assoc, length-append}
use Rattle.std.specs.Prelude.{codes, nat_le}
use Rattle.std.specs.List.{list_all}
use Rattle.std.proofs.lemmas.Bool.Decides.{nat_tests}
use Rattle.dsn_text.specs.Text.{IsAddress, IsMtaName, is_address_byte, is_visible}
use Rattle.dsn_smtp.specs.inner.CommandLine.{IsCommandLine}
use Rattle.dsn_smtp.specs.CommandLine.{hello_line, recipient_line}
use Rattle.dsn_smtp.specs.Reply.{is_text_byte}

all-append : (p : ℕ → Bool) (xs ys : List ℕ) → list_all p xs ≡ true → list_all p ys ≡ true → list_all p (xs ++ ys) ≡ true
all-append p [] ys hx hy = hy
all-append p (x ∷ xs) ys hx hy = both (p x) (list_all p xs) (list_all p (xs ++ ys)) hx (λ rest. all-append p xs ys rest hy)
  where
    both : (a b c : Bool) → (a && b) ≡ true → (b ≡ true → c ≡ true) → (a && c) ≡ true
    both true b c h then_c = then_c h
    both false b c h then_c = absurd cc

implied : (p q : ℕ → Bool) (xs : List ℕ) → ((x : ℕ) → p x ≡ true → q x ≡ true) → list_all p xs ≡ true → list_all q xs ≡ true
implied p q [] each h = refl
implied p q (x ∷ xs) each h = both (p x) (q x) (list_all p xs) (list_all q xs) (each x) (implied p q xs each) h
  where
    both : (a b c d : Bool) → (a ≡ true → b ≡ true) → (c ≡ true → d ≡ true) → (a && c) ≡ true → (b && d) ≡ true
    both true b c d first second h = rw (first refl) (second h)
    both false b c d first second h = absurd cc

visible_is_text : (byte : ℕ) → is_visible byte ≡ true → is_text_byte byte ≡ true
visible_is_text byte h = grind (nat_tests, arith, h)

and_first : (a b : Bool) → (a && b) ≡ true → a ≡ true
and_first true b h = refl
and_first false b h = absurd cc

and_second : (a b : Bool) → (a && b) ≡ true → b ≡ true
and_second true b h = h
and_second false b h = absurd cc

address_is_visible : (byte : ℕ) → is_address_byte byte ≡ true → is_visible byte ≡ true
address_is_visible byte h = and_first (is_visible byte) (not (byte == 60) && not (byte == 62)) h

-- a text with a known front and a known end, and a name between them
one_line : (front name : List ℕ) → list_all is_text_byte front ≡ true → list_all is_text_byte name ≡ true → length front + length name ≤ 500 → IsCommandLine (front ++ (name ++ 13 ∷ 10 ∷ []))
one_line front name hf hn short = record {
  text = front ++ name;
  one_line = all-append is_text_byte front name hf hn;
  is = sym (append_assoc front name (13 ∷ 10 ∷ []));
  short = rw (length-append, length-append) (omega (arith, short));
}

pub hello_is_line : (host : List ℕ) → IsMtaName host → IsCommandLine (hello_line host)
hello_is_line host legal =
    let size = and_first (nat_le 1 (length host) && nat_le (length host) 255) (list_all is_visible host) legal in
    let short : length host ≤ 255 = grind (nat_tests, arith, and_second (nat_le 1 (length host)) (nat_le (length host) 255) size) in
    one_line (codes "EHLO ") host refl
    (implied is_visible is_text_byte host visible_is_text (and_second (nat_le 1 (length host) && nat_le (length host) 255) (list_all is_visible host) legal))
    (omega (arith, short))

pub recipient_is_line : (path : List ℕ) → IsAddress path → IsCommandLine (recipient_line path)
recipient_is_line path legal =
    let size = and_first (nat_le 1 (length path) && nat_le (length path) 256) (list_all is_address_byte path) legal in
    let short : length path ≤ 256 = grind (nat_tests, arith, and_second (nat_le 1 (length path)) (nat_le (length path) 256) size) in
    let all : list_all is_text_byte path ≡ true =
    implied is_address_byte is_text_byte path (λ byte h. visible_is_text byte (address_is_visible byte h))
    (and_second (nat_le 1 (length path) && nat_le (length path) 256) (list_all is_address_byte path) legal) in
    let line = one_line (codes "RCPT TO:<") (path ++ 62 ∷ []) refl (all-append is_text_byte path (62 ∷ []) all refl) (rw length-append (omega (arith, short))) in
    subst IsCommandLine (ap (λ (l : List ℕ). codes "RCPT TO:<" ++ l) (append_assoc path (62 ∷ []) (13 ∷ 10 ∷ []))) line
