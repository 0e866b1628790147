-- Closed keys: they are those whose logs are closed, each once, and no more than the held keys.
use Rattle.std.proofs.Common.{◌≡◌, ◌≤◌, Bool, true, false, ◌&&◌, ◌||◌, cond, not, List, [], ◌∷◌, ◌++◌, filter, length, refl, ap, sym, ◌∙◌}
use Rattle.std.specs.Prelude.{Option, Some, None}
use Rattle.std.specs.Option.{option_map_or}
use Rattle.std.specs.List.{list_any, AllByRecursion, IsDistinct}
use Rattle.std.proofs.lemmas.Bool.{false≢true}
use Rattle.std.proofs.lemmas.List.Folds.{list_any-append}
use Rattle.std.proofs.lemmas.Map.Keys.{IsDistinct-push}
use Rattle.std.proofs.lemmas.Map.Made.{length-le_from_is_member}
use Rattle.std.proofs.lemmas.Map.Views.{any-filter_same}
use Rattle.dsn_outcome.proofs.HistoryLemmas.{contradiction, or_false, same_key-IsEquivalence, unheld-not_closed}
use Rattle.dsn_outcome.specs.History.{Exchange, closes_log, forgets, held_keys, is_about, is_closed, is_forgotten, is_held, let_go, since_after, since_next}
use Rattle.dsn_outcome.specs.Request.{key_of}
use Rattle.dsn_outcome.specs.declared.answer.Reply.{Reply}
use Rattle.dsn_text.proofs.KeyLemmas.{same_key-equal, same_key_refl, same_key_sym}
use Rattle.dsn_text.specs.Key.{same_key}
use Rattle.dsn_text.specs.declared.key.Key.{Key}
use Rattle.dsn_book.specs.Release.{closed_after, closed_keys, closed_next, closed_with}

-- ---- one more exchange

closed_after-more : (closed : List Key) (history : List Exchange) (exchange : Exchange) → closed_after closed (history ++ exchange ∷ []) ≡ closed_next (closed_after closed history) exchange
unfolding closed_after
closed_after-more closed [] exchange = refl
closed_after-more closed (first ∷ rest) exchange = closed_after-more (closed_next closed first) rest exchange

pub closed_keys-more : (history : List Exchange) (exchange : Exchange) → closed_keys (history ++ exchange ∷ []) ≡ closed_next (closed_keys history) exchange
closed_keys-more history exchange = closed_after-more [] history exchange

-- ---- whether a key is among the closed keys

not_own : (key own : Key) (same : Bool) → same_key key own ≡ same → (k : Key) → same_key key k ≡ true → not (same_key own k) ≡ not same
not_own key own same is k like =
    ap not (ap (same_key own) (sym (same_key-equal key k like)) ∙ same_key_sym own key ∙ is)

pub any-let_go : (key own : Key) (closed : List Key) (same : Bool) → same_key key own ≡ same → list_any (same_key key) (let_go own closed) ≡ (not same && list_any (same_key key) closed)
any-let_go key own closed same is =
    any-filter_same (same_key key) (λ other. not (same_key own other)) (not same) (not_own key own same is) closed

or_true : (b : Bool) → (b || true) ≡ true
or_true true = refl
or_true false = refl

any-closed_with : (key own : Key) (closed : List Key) (same gone closes : Bool) → same_key key own ≡ same → list_any (same_key key) (cond gone (let_go own closed) (cond closes (let_go own closed ++ own ∷ []) closed)) ≡ cond (same && gone) false (list_any (same_key key) closed || (same && closes))
any-closed_with key own closed true true closes is = any-let_go key own closed true is
any-closed_with key own closed false true closes is = any-let_go key own closed false is ∙ sym (or_false (list_any (same_key key) closed))
any-closed_with key own closed true false true is =
    list_any-append (same_key key) (let_go own closed) (own ∷ [])
    ∙ ap (λ (b : Bool). list_any (same_key key) (let_go own closed) || (b || false)) is
    ∙ or_true (list_any (same_key key) (let_go own closed)) ∙ sym (or_true (list_any (same_key key) closed))
any-closed_with key own closed false false true is =
    list_any-append (same_key key) (let_go own closed) (own ∷ [])
    ∙ ap (λ (b : Bool). list_any (same_key key) (let_go own closed) || (b || false)) is
    ∙ ap (λ (b : Bool). b || false) (any-let_go key own closed false is)
any-closed_with key own closed true false false is = sym (or_false (list_any (same_key key) closed))
any-closed_with key own closed false false false is = sym (or_false (list_any (same_key key) closed))

any-closed_next : (key : Key) (closed : List Key) (reply : Reply) (own : Option Key) → list_any (same_key key) (option_map_or (closed_with reply closed) own closed) ≡ cond (option_map_or (same_key key) own false && is_forgotten reply) false (list_any (same_key key) closed || (option_map_or (same_key key) own false && closes_log reply))
any-closed_next key closed reply None = sym (or_false (list_any (same_key key) closed))
any-closed_next key closed reply (Some own) = any-closed_with key own closed (same_key key own) (is_forgotten reply) (closes_log reply) refl

-- whether an exchange closes the key
abbrev closes : Key → Exchange → Bool
closes key exchange = is_about key exchange && closes_log exchange.reply

any-since_next : (key : Key) (since : List Exchange) (exchange : Exchange) (gone : Bool) → list_any (closes key) (cond gone [] (since ++ exchange ∷ [])) ≡ cond gone false (list_any (closes key) since || closes key exchange)
any-since_next key since exchange true = refl
any-since_next key since exchange false =
    list_any-append (closes key) since (exchange ∷ []) ∙ ap (λ (b : Bool). list_any (closes key) since || b) (or_false (closes key exchange))

closed-after : (key : Key) (closed : List Key) (since history : List Exchange) → list_any (same_key key) closed ≡ list_any (closes key) since → list_any (same_key key) (closed_after closed history) ≡ list_any (closes key) (since_after key since history)
unfolding closed_after since_after
closed-after key closed since [] same = same
closed-after key closed since (exchange ∷ rest) same =
    closed-after key (closed_next closed exchange) (since_next key since exchange) rest
    (any-closed_next key closed exchange.reply (key_of exchange.request.body)
    ∙ ap (λ (b : Bool). cond (forgets key exchange) false (b || closes key exchange)) same
    ∙ sym (any-since_next key since exchange (forgets key exchange)))

-- a key is among the closed keys exactly if it is closed
pub closed-is : (key : Key) (history : List Exchange) → list_any (same_key key) (closed_keys history) ≡ is_closed key history
closed-is key history = closed-after key [] [] history refl

-- ---- the closed keys differ

apart-filter_step : (P : Key → Type 0) (p : Key → Bool) (d : Key) (rest : List Key) (kept : Bool) → p d ≡ kept → P d → AllByRecursion P (filter p rest) → AllByRecursion P (filter p (d ∷ rest))
apart-filter_step P p d rest true is here after = rw is (here, after)
apart-filter_step P p d rest false is here after = rw is after

apart-filter : (P : Key → Type 0) (p : Key → Bool) (list : List Key) → AllByRecursion P list → AllByRecursion P (filter p list)
apart-filter P p [] all = tt
apart-filter P p (d ∷ rest) all = apart-filter_step P p d rest (p d) refl all.0 (apart-filter P p rest all.1)

distinct-filter_step : (p : Key → Bool) (d : Key) (rest : List Key) (kept : Bool) → p d ≡ kept → AllByRecursion (λ y. same_key d y ≡ false) rest → IsDistinct same_key (filter p rest) → IsDistinct same_key (filter p (d ∷ rest))
unfolding IsDistinct
distinct-filter_step p d rest true is apart after = rw is (apart-filter (λ y. same_key d y ≡ false) p rest apart, after)
distinct-filter_step p d rest false is apart after = rw is after

pub distinct-filter : (p : Key → Bool) (list : List Key) → IsDistinct same_key list → IsDistinct same_key (filter p list)
unfolding IsDistinct
distinct-filter p [] all = tt
distinct-filter p (d ∷ rest) all = distinct-filter_step p d rest (p d) refl all.0 (distinct-filter p rest all.1)

distinct-let_go : (key : Key) (closed : List Key) → IsDistinct same_key closed → IsDistinct same_key (let_go key closed)
distinct-let_go key closed apart = distinct-filter (λ other. not (same_key key other)) closed apart

distinct-closed_with : (key : Key) (closed : List Key) (gone closes : Bool) → IsDistinct same_key closed → IsDistinct same_key (cond gone (let_go key closed) (cond closes (let_go key closed ++ key ∷ []) closed))
distinct-closed_with key closed true closes apart = distinct-let_go key closed apart
distinct-closed_with key closed false true apart =
    IsDistinct-push same_key-IsEquivalence (let_go key closed) key (distinct-let_go key closed apart) (any-let_go key key closed true (same_key_refl key))
distinct-closed_with key closed false false apart = apart

distinct-closed_next : (closed : List Key) (reply : Reply) (own : Option Key) → IsDistinct same_key closed → IsDistinct same_key (option_map_or (closed_with reply closed) own closed)
distinct-closed_next closed reply None apart = apart
distinct-closed_next closed reply (Some key) apart = distinct-closed_with key closed (is_forgotten reply) (closes_log reply) apart

distinct-closed_after : (closed : List Key) (history : List Exchange) → IsDistinct same_key closed → IsDistinct same_key (closed_after closed history)
unfolding closed_after
distinct-closed_after closed [] apart = apart
distinct-closed_after closed (exchange ∷ rest) apart =
    distinct-closed_after (closed_next closed exchange) rest (distinct-closed_next closed exchange.reply (key_of exchange.request.body) apart)

pub closed_keys-IsDistinct : (history : List Exchange) → IsDistinct same_key (closed_keys history)
unfolding IsDistinct
closed_keys-IsDistinct history = distinct-closed_after [] history tt

-- ---- the closed keys are held

closed-held : (key : Key) (history : List Exchange) (held : Bool) → is_held key history ≡ held → is_closed key history ≡ true → held ≡ true
closed-held key history true is closed = refl
closed-held key history false is closed = contradiction (is_closed key history) closed (unheld-not_closed key history is)

-- there are at most as many as held keys
pub closed-few : (history : List Exchange) → length (closed_keys history) ≤ length (held_keys history)
closed-few history =
    length-le_from_is_member same_key-IsEquivalence (closed_keys history) (held_keys history) (closed_keys-IsDistinct history)
    (λ key among. closed-held key history (is_held key history) refl (sym (closed-is key history) ∙ among))

-- ---- lists

unlike-let_go : (key : Key) (keys : List Key) → AllByRecursion (λ y. same_key key y ≡ false) keys → let_go key keys ≡ keys
unlike-let_go key [] unlike = refl
unlike-let_go key (other ∷ rest) unlike = rw unlike.0 (ap (λ (ks : List Key). other ∷ ks) (unlike-let_go key rest unlike.1))

unlike-any_step : (key other : Key) (rest : List Key) (b : Bool) → same_key key other ≡ b → (b || list_any (same_key key) rest) ≡ false → (list_any (same_key key) rest ≡ false → AllByRecursion (λ y. same_key key y ≡ false) rest) → AllByRecursion (λ y. same_key key y ≡ false) (other ∷ rest)
unlike-any_step key other rest true is none later = absurd (false≢true (sym none))
unlike-any_step key other rest false is none later = (is, later none)

unlike-any : (key : Key) (keys : List Key) → list_any (same_key key) keys ≡ false → AllByRecursion (λ y. same_key key y ≡ false) keys
unlike-any key [] none = tt
unlike-any key (other ∷ rest) none = unlike-any_step key other rest (same_key key other) refl none (unlike-any key rest)

-- a key that isn't among the keys leaves them
pub let_go-none : (key : Key) (keys : List Key) → list_any (same_key key) keys ≡ false → let_go key keys ≡ keys
let_go-none key keys none = unlike-let_go key keys (unlike-any key keys none)

-- the first of distinct keys leaves the others
pub let_go-first : (key : Key) (rest : List Key) → IsDistinct same_key (key ∷ rest) → let_go key (key ∷ rest) ≡ rest
unfolding IsDistinct
let_go-first key rest apart = rw (same_key_refl key) (unlike-let_go key rest apart.0)
