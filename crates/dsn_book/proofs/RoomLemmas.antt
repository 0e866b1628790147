-- Room: when a body needs a new key in a full table, and the book after a key was released.
use Rattle.std.proofs.Common.{◌≡◌, ℕ, ◌+◌, ◌<◌, ◌==◌, Bool, true, false, cond, not, List, [], ◌∷◌, length, get_or, refl, ap, sym, ◌∙◌, arith}
use Rattle.std.specs.Prelude.{All, IfErr, IfOk, Option, Some, None, Result, Ok, Err, is_err}
use Rattle.std.specs.Option.{option_map_or}
use Rattle.std.specs.List.Sorted.{IsPermutation}
use Rattle.std.proofs.lemmas.List.{get_or_default}
use Rattle.std.proofs.lemmas.List.Sorted.{IsPermutation-trans}
use Rattle.std.proofs.lemmas.Bool.{eq-eqb, ne_eqb, false≢true}
use Rattle.dsn_outcome.proofs.HistoryLemmas.{and_false}
use Rattle.dsn_outcome.specs.History.{Limits, Exchange, exchange_of, held_keys, history_after, holds_none, is_held, letter_of, letter_sealed, needs_room_for}
use Rattle.dsn_outcome.specs.Request.{Body, Forget, key_of}
use Rattle.dsn_text.specs.declared.key.Key.{Key}
use Rattle.dsn_book.proofs.BookLemmas.{entries-represented, held_count, held_log, sealed-represented}
use Rattle.dsn_book.proofs.EntryLemmas.{log_in-none, log_in-place}
use Rattle.dsn_book.specs.Book.{Book, Represents, log_after}
use Rattle.dsn_book.specs.Entry.{entry_with}
use Rattle.dsn_book.specs.Held.{Entry, Closed}
use Rattle.dsn_book.specs.Release.{needs_room, release_of}
use Rattle.dsn_book.specs.inner.Entry.{IsOther, IsPlaceOf}
use Rattle.dsn_book.specs.inner.Step.{entries_next}

no_key : (limits : Limits) (history : List Exchange) (body : Body) → key_of body ≡ None → needs_room limits history body ≡ false
no_key limits history body is = ap (λ own. option_map_or (needs_room_for limits history body) own false) is

few-of : (limits : Limits) (history : List Exchange) (body : Body) (own : Option Key) → (length (held_keys history) == limits.logs) ≡ false → key_of body ≡ own → needs_room limits history body ≡ false
few-of limits history body None few is = no_key limits history body is
few-of limits history body (Some key) few is =
    rw (is, few, and_false (not (is_held key history)), and_false (not (holds_none body))) refl

-- nothing needs room if fewer keys are held than the limits allow
pub few-no_room : (book : Book) (history : List Exchange) (body : Body) → Represents book history → length book.entries < book.limits.logs → needs_room book.limits history body ≡ false
few-no_room book history body stands few =
    let count = held_count book history stands in
    few-of book.limits history body (key_of body) (ne_eqb (length (held_keys history)) book.limits.logs (λ same. absurd (omega (arith, count, few, same)))) refl

some≢none : {X : Type 0} (x : X) (b : Bool) → cond b (Some x) None ≡ None → b ≡ false
some≢none x true is = absurd (false≢true (ap (λ o. option_map_or (λ _. false) o true) is))
some≢none x false is = refl

held-from_some : {X : Type 0} (x y : X) (b : Bool) → cond b (Some x) None ≡ Some y → b ≡ true
held-from_some x y true is = refl
held-from_some x y false is = absurd (false≢true (sym (ap (λ o. option_map_or (λ _. false) o true) is)))

-- a held key needs no room
held-no_room : (book : Book) (history : List Exchange) (body : Body) (key : Key) (place : ℕ) → Represents book history → key_of body ≡ Some key → IsPlaceOf key book.entries place → needs_room book.limits history body ≡ false
held-no_room book history body key place stands is found =
    let d : Entry = entry_with key Closed in
    let entry : Entry = get_or book.entries place d in
    let here : entry ≡ get_or book.entries place entry = get_or_default book.entries place d entry found.inside in
    let held : is_held key history ≡ true = held-from_some (log_after history key) entry.log (is_held key history) (sym (held_log book history key stands) ∙ log_in-place key book.entries place entry found here) in
    rw (is, held, and_false (not (holds_none body))) refl

-- a key that isn't held needs room if the table is full
unheld-room : (book : Book) (history : List Exchange) (body : Body) (key : Key) → Represents book history → holds_none body ≡ false → key_of body ≡ Some key → All (IsOther key) book.entries → length book.entries ≡ book.limits.logs → needs_room book.limits history body ≡ true
unheld-room book history body key stands holds is others full =
    let unheld : is_held key history ≡ false = some≢none (log_after history key) (is_held key history) (sym (held_log book history key stands) ∙ log_in-none key book.entries others) in
    rw (is, holds, unheld) (eq-eqb (length (held_keys history)) book.limits.logs (held_count book history stands ∙ full))

-- what a search for the key of a body finds in a full table
pub room-search : (book : Book) (history : List Exchange) (body : Body) (key : Key) (found : Result ℕ ℕ) → Represents book history → holds_none body ≡ false → key_of body ≡ Some key → length book.entries ≡ book.limits.logs → IfOk found (IsPlaceOf key book.entries) → IfErr found (λ _. All (IsOther key) book.entries) → is_err found ≡ needs_room book.limits history body
room-search book history body key (Ok place) stands holds is full held other = sym (held-no_room book history body key place stands is held)
room-search book history body key (Err gap) stands holds is full held other = sym (unheld-room book history body key stands holds is other full)

-- ---- a release

seals-none : (history : List Exchange) (limits : Limits) (key : Key) → letter_of history (exchange_of limits history (release_of key)) ≡ []
unfolding letter_sealed exchange_of
seals-none history limits key = refl

-- the book after a key was released, by its entries and its count of letters
pub release-represented : (old new : Book) (history : List Exchange) (key : Key) → Represents old history → IsPermutation (entries_next old (Forget key)) new.entries → new.sealed ≡ old.sealed → Represents new (history_after old.limits history (release_of key ∷ []))
unfolding history_after
release-represented old new history key stands moved sealed = record {
  entries = IsPermutation-trans _ _ _ (entries-represented old history (release_of key) stands) moved;
  sealed = sealed-represented old history (exchange_of old.limits history (release_of key)) new.sealed [] stands (sym (seals-none history old.limits key)) (sealed ∙ (let same : old.sealed ≡ old.sealed + 0 = omega arith in same));
}
