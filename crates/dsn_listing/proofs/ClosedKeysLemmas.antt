-- The closed keys of a book that models a history.
use Rattle.std.proofs.Common.{◌≡◌, ℕ, Bool, true, false, cond, ◌<◌, ◌+◌, List, [], ◌∷◌, ◌++◌, get_or, map, filter, take, length, refl, ap, sym, ◌∙◌}
use Rattle.std.specs.Prelude.{None, Ok, Err, OnOk, Option, Result, Some, IsPermutation, is_err}
use Rattle.std.specs.List.{cons_option}
use Rattle.std.specs.List.Sorted.{IsSorted}
use Rattle.std.specs.Ordering.{is_lt}
use Rattle.std.specs.declared.cmp.Ordering.{Ordering}
use Rattle.std.proofs.lemmas.List.{append-nil, take_more}
use Rattle.std.proofs.lemmas.List.Elements.{filter_map-append}
use Rattle.dsn_book.proofs.ListLemmas.{filter_map-IsPermutation}
use Rattle.dsn_book.specs.Book.{Book, Represents, entry_after}
use Rattle.dsn_book.specs.Held.{Entry}
use Rattle.dsn_ledger.specs.Forgetting.{closed_key, closed_among}
use Rattle.dsn_outcome.specs.History.{Exchange, held_keys, is_closed}
use Rattle.dsn_text.specs.declared.key.Key.{Key}
use Rattle.dsn_listing.specs.Listing.{closed_held}

-- ---- one more of the entries

one_more : (entries : List Entry) (i : ℕ) (entry : Entry) → i < length entries → entry ≡ get_or entries i entry
    → closed_among (take (i + 1) entries) ≡ closed_among (take i entries) ++ cons_option (closed_key entry) []
one_more entries i entry below is =
    let more : take (i + 1) entries ≡ take i entries ++ entry ∷ [] = take_more entries i entry below ∙ ap (λ e. take i entries ++ e ∷ []) (sym is) in
    ap closed_among more ∙ filter_map-append closed_key (take i entries) (entry ∷ [])

pub one_closed : (entries : List Entry) (i : ℕ) (entry : Entry) (key : Key) → i < length entries → entry ≡ get_or entries i entry
    → Some key ≡ closed_key entry → closed_among (take (i + 1) entries) ≡ closed_among (take i entries) ++ key ∷ []
one_closed entries i entry key below is closed =
    one_more entries i entry below is ∙ ap (λ (k : Option Key). closed_among (take i entries) ++ cons_option k []) (sym closed)

pub none_closed : (entries : List Entry) (i : ℕ) (entry : Entry) → i < length entries → entry ≡ get_or entries i entry
    → None ≡ closed_key entry → closed_among (take (i + 1) entries) ≡ closed_among (take i entries)
none_closed entries i entry below is none =
    one_more entries i entry below is
    ∙ ap (λ (k : Option Key). closed_among (take i entries) ++ cons_option k []) (sym none)
    ∙ append-nil (closed_among (take i entries))

-- ---- the keys of a book

closed_key-after : (history : List Exchange) (key : Key) (closed : Bool) → is_closed key history ≡ closed
    → closed_key (entry_after history key) ≡ cond (is_closed key history) (Some key) None
closed_key-after history key true is = rw is refl
closed_key-after history key false is = rw is refl

kept_step : (history : List Exchange) (key : Key) (rest : List Key) (closed : Bool) → is_closed key history ≡ closed
    → cons_option (cond (is_closed key history) (Some key) None) (filter (λ k. is_closed k history) rest) ≡ filter (λ k. is_closed k history) (key ∷ rest)
kept_step history key rest true is = rw is refl
kept_step history key rest false is = rw is refl

closed_keys-map : (history : List Exchange) (keys : List Key) → closed_among (map (entry_after history) keys) ≡ filter (λ key. is_closed key history) keys
closed_keys-map history [] = refl
closed_keys-map history (key ∷ rest) =
    ap (λ (k : Option Key). cons_option k (closed_among (map (entry_after history) rest))) (closed_key-after history key (is_closed key history) refl)
    ∙ ap (cons_option (cond (is_closed key history) (Some key) None)) (closed_keys-map history rest)
    ∙ kept_step history key rest (is_closed key history) refl

-- a book's closed keys are those of the history that it models, in some order
pub closed_keys-represented : (book : Book) (history : List Exchange) → Represents book history → IsPermutation (closed_held history) (closed_among book.entries)
closed_keys-represented book history stands =
    rw (← (closed_keys-map history (held_keys history)))
    (filter_map-IsPermutation closed_key (map (entry_after history) (held_keys history)) book.entries stands.entries)

-- a list sorted by one comparison is sorted by an equal one
pub sorted-as : {X : Type 0} (one other : X → X → Ordering) (xs : List X) → ((a b : X) → one a b ≡ other a b) → IsSorted one xs → IsSorted other xs
sorted-as one other xs same sorted = λ k d low high. ap is_lt (sym (same _ _)) ∙ sorted k d low high

-- a statement about a successful call holds of a call without an error
pub when-good : {E : Type 0} (result : Result (Unit {0}) E) (P : Type 0) → is_err result ≡ false → OnOk result P → P
when-good (Ok done) P good is = is
when-good (Err e) P good is = absurd (let no : true ≡ false = good in cc)
