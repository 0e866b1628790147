-- Order: the closed keys after one more request, and after a release.
use Rattle.std.proofs.Common.{◌≡◌, ℕ, ◌+◌, ◌&&◌, not, ◌<◌, ◌≤◌, ◌==◌, Bool, true, false, ◌||◌, cond, List, [], ◌∷◌, ◌++◌, length, map, take, refl, ap, sym, subst, ◌∙◌, length-append, arith}
use Rattle.std.specs.Prelude.{Option, Some, None, is_none}
use Rattle.std.specs.Option.{option_map_or}
use Rattle.std.specs.List.{list_any, IsDistinct}
use Rattle.std.proofs.lemmas.Bool.{false≢true, eqb-true}
use Rattle.dsn_outcome.specs.History.{Limits, Exchange, answer_of, closes_log, exchange_of, held_keys, held_with, history_after, holds_key, holds_none, is_closed, is_empty, is_forget, is_forgotten, is_held, let_go, log_of, needs_room_for, reply_about, reply_to, reply_when_open}
use Rattle.dsn_outcome.specs.Draft.{differs}
use Rattle.dsn_outcome.specs.Outcome.{Outcome}
use Rattle.dsn_outcome.specs.Request.{Append, Body, Bye, Discard, Flush, Forget, Request, expected_by, key_of}
use Rattle.dsn_outcome.specs.declared.answer.Answer.{Answer}
use Rattle.dsn_outcome.specs.declared.answer.Reply.{Reply}
use Rattle.dsn_outcome.specs.declared.answer.Reply.TheVariants.{Logged, Closed, TableFull, LogFull, Nothing, NoReturn, Sealed, Discarded, Gone, Forgotten, NotClosed, Differs}
use Rattle.dsn_outcome.proofs.HistoryLemmas.{and_false, contradiction, held_keys-more, unheld-not_closed}
use Rattle.dsn_text.proofs.KeyLemmas.{same_key_refl}
use Rattle.dsn_text.specs.Key.{same_key}
use Rattle.dsn_text.specs.declared.key.Key.{Key}
use Rattle.dsn_book.proofs.BookLemmas.{held_count}
use Rattle.dsn_book.proofs.ClosingLemmas.{closed-few, closed-is, closed_keys-IsDistinct, closed_keys-more, let_go-first, let_go-none}
use Rattle.dsn_book.specs.Book.{Book, Represents}
use Rattle.dsn_book.specs.Release.{closed_after, closed_keys, closed_with, needs_room, release_of, room_made}

pub closed-none : closed_keys [] ≡ []
unfolding closed_after
closed-none = refl

-- ---- one more request

-- the reply in an answer is that of the history
pub replied : (limits : Limits) (history : List Exchange) (request : Request) (answer : Answer) → answer ≡ answer_of history (exchange_of limits history request) → answer.reply ≡ reply_to limits history request
unfolding answer_of exchange_of
replied limits history request answer is = ap (λ (a : Answer). a.reply) is

pub next-closed : (limits : Limits) (history : List Exchange) (request : Request) (key : Key) (reply : Reply) → key_of request.body ≡ Some key → reply ≡ reply_to limits history request → closed_keys (history ++ exchange_of limits history request ∷ []) ≡ closed_with reply (closed_keys history) key
unfolding exchange_of
next-closed limits history request key reply own is =
    closed_keys-more history (exchange_of limits history request)
    ∙ ap (λ o. option_map_or (closed_with (reply_to limits history request) (closed_keys history)) o (closed_keys history)) own
    ∙ ap (λ r. closed_with r (closed_keys history) key) (sym is)

-- a request without a key closes none
pub next-none : (limits : Limits) (history : List Exchange) (request : Request) → key_of request.body ≡ None → closed_keys (history ++ exchange_of limits history request ∷ []) ≡ closed_keys history
unfolding exchange_of
next-none limits history request own =
    closed_keys-more history (exchange_of limits history request)
    ∙ ap (λ o. option_map_or (closed_with (reply_to limits history request) (closed_keys history)) o (closed_keys history)) own

closes-keeps : (reply : Reply) → closes_log reply ≡ true → is_forgotten reply ≡ false
unfolding closes_log is_forgotten
closes-keeps (Logged place) closes = absurd (false≢true closes)
closes-keeps Closed closes = absurd (false≢true closes)
closes-keeps TableFull closes = absurd (false≢true closes)
closes-keeps LogFull closes = absurd (false≢true closes)
closes-keeps Nothing closes = refl
closes-keeps (NoReturn count) closes = refl
closes-keeps (Sealed count) closes = refl
closes-keeps (Discarded count) closes = refl
closes-keeps Gone closes = absurd (false≢true closes)
closes-keeps Forgotten closes = absurd (false≢true closes)
closes-keeps NotClosed closes = absurd (false≢true closes)
closes-keeps (Differs count) closes = absurd (false≢true closes)

forgets-none : (closed : Bool) → closes_log (cond closed Forgotten NotClosed) ≡ false
unfolding closes_log
forgets-none true = refl
forgets-none false = refl

closes-none : (limits : Limits) (history : List Exchange) (body : Body) (key : Key) (forget closed : Bool) → is_forget body ≡ forget → is_closed key history ≡ closed → closes_log (reply_about limits history body key) ≡ true → closed ≡ false
unfolding reply_about closes_log
closes-none limits history body key true closed is is_closed_is closes =
    absurd (false≢true (sym (forgets-none (is_closed key history)) ∙ (rw is at closes)))
closes-none limits history body key false true is is_closed_is closes = absurd (false≢true (rw (is, is_closed_is) at closes))
closes-none limits history body key false false is is_closed_is closes = refl

-- a key whose log is closed by a request wasn't closed before
pub closes-fresh : (limits : Limits) (history : List Exchange) (request : Request) (key : Key) (reply : Reply) → key_of request.body ≡ Some key → reply ≡ reply_to limits history request → closes_log reply ≡ true → list_any (same_key key) (closed_keys history) ≡ false
unfolding reply_to
closes-fresh limits history request key reply own is closes =
    closed-is key history
    ∙ closes-none limits history request.body key (is_forget request.body) (is_closed key history) refl refl
    (ap closes_log (sym (is ∙ ap (λ o. option_map_or (reply_about limits history request.body) o Gone) own)) ∙ closes)

-- and there is room for it
pub closes-room : (new : Book) (limits : Limits) (history : List Exchange) (request : Request) (key : Key) (reply : Reply) → Represents new (history ++ exchange_of limits history request ∷ []) → length new.entries ≤ new.limits.logs → key_of request.body ≡ Some key → reply ≡ reply_to limits history request → closes_log reply ≡ true → length (closed_keys history) < new.limits.logs
closes-room new limits history request key reply stands few own is closes =
    let after : List Exchange = history ++ exchange_of limits history request ∷ [] in
    let last : closed_keys after ≡ closed_keys history ++ key ∷ [] =
    next-closed limits history request key reply own is
    ∙ ap (λ gone. cond gone (let_go key (closed_keys history)) (cond (closes_log reply) (let_go key (closed_keys history) ++ key ∷ []) (closed_keys history))) (closes-keeps reply closes)
    ∙ ap (λ shut. cond shut (let_go key (closed_keys history) ++ key ∷ []) (closed_keys history)) closes
    ∙ ap (λ ks. ks ++ key ∷ []) (let_go-none key (closed_keys history) (closes-fresh limits history request key reply own is closes)) in
    let longer : length (closed_keys after) ≡ length (closed_keys history) + 1 = ap length last ∙ length-append (closed_keys history) (key ∷ []) in
    let held = closed-few after in
    let count = held_count new after stands in
    omega (arith, longer, held, count, few)

-- ---- a release

is-first : (key : Key) (rest : List Key) (history : List Exchange) → closed_keys history ≡ key ∷ rest → is_closed key history ≡ true
is-first key rest history is =
    sym (closed-is key history) ∙ ap (list_any (same_key key)) is ∙ ap (λ b. b || list_any (same_key key) rest) (same_key_refl key)

let_go-forgotten : (key : Key) (closed : List Key) → closed_with Forgotten closed key ≡ let_go key closed
unfolding is_forgotten
let_go-forgotten key closed = refl

-- the release of the first closed key leaves the others
pub release-closed : (limits : Limits) (history : List Exchange) (key : Key) (rest : List Key) → closed_keys history ≡ key ∷ rest → closed_keys (history_after limits history (release_of key ∷ [])) ≡ rest
unfolding history_after reply_to reply_about
release-closed limits history key rest is =
    next-closed limits history (release_of key) key Forgotten refl (sym (ap (λ b. cond b Forgotten NotClosed) (is-first key rest history is)))
    ∙ let_go-forgotten key (closed_keys history) ∙ ap (let_go key) is ∙ let_go-first key rest (subst (IsDistinct same_key) is (closed_keys-IsDistinct history))

-- ---- the room that is made

pub none-made : (limits : Limits) (history : List Exchange) (body : Body) → needs_room limits history body ≡ false → room_made true limits history body ≡ history
unfolding history_after
none-made limits history body none = ap (λ b. history_after limits history (map release_of (cond b (take 1 (closed_keys history)) []))) none

pub some-made : (limits : Limits) (history : List Exchange) (body : Body) → needs_room limits history body ≡ true → history_after limits history (map release_of (take 1 (closed_keys history))) ≡ room_made true limits history body
some-made limits history body some = ap (λ b. history_after limits history (map release_of (cond b (take 1 (closed_keys history)) []))) (sym some)

-- ---- a full table

-- whether a reply is that of a full table
abbrev is_full_reply : Reply → Bool
is_full_reply (Logged place) = false
is_full_reply Closed = false
is_full_reply TableFull = true
is_full_reply LogFull = false
is_full_reply Nothing = false
is_full_reply (NoReturn count) = false
is_full_reply (Sealed count) = false
is_full_reply (Discarded count) = false
is_full_reply Gone = false
is_full_reply Forgotten = false
is_full_reply NotClosed = false
is_full_reply (Differs count) = false

append-some : (full : Bool) (count : ℕ) → cond full LogFull (Logged count) ≡ TableFull → ⊥
append-some true count is = absurd (false≢true (ap is_full_reply is))
append-some false count is = absurd (false≢true (ap is_full_reply is))

flush-some : (differs empty null : Bool) (count : ℕ) → cond differs (Differs count) (cond empty Nothing (cond null (NoReturn count) (Sealed count))) ≡ TableFull → ⊥
flush-some true empty null count is = absurd (false≢true (ap is_full_reply is))
flush-some false true null count is = absurd (false≢true (ap is_full_reply is))
flush-some false false true count is = absurd (false≢true (ap is_full_reply is))
flush-some false false false count is = absurd (false≢true (ap is_full_reply is))

open-some : (limits : Limits) (log : List Outcome) (body : Body) → reply_when_open limits log body ≡ TableFull → ⊥
unfolding reply_when_open
open-some limits log (Append id outcome) is = append-some (length log == limits.entries) (length log) is
open-some limits log (Flush key draft) is = flush-some (differs draft.expected (length log)) (is_empty log) (is_none draft.return_path) (length log) is
open-some limits log (Discard key) is = absurd (false≢true (ap is_full_reply is))
open-some limits log (Forget key) is = absurd (false≢true (ap is_full_reply is))
open-some limits log Bye is = absurd (false≢true (ap is_full_reply is))

full-of : (limits : Limits) (history : List Exchange) (body : Body) (key : Key) (forget closed held expects full : Bool) → is_forget body ≡ forget → is_closed key history ≡ closed → is_held key history ≡ held → differs (expected_by body) 0 ≡ expects → (length (held_keys history) == limits.logs) ≡ full → reply_about limits history body key ≡ TableFull → needs_room_for limits history body key ≡ true
unfolding reply_about
full-of limits history body key true true held expects full f c h e l is = absurd (false≢true (ap is_full_reply (rw (f, c) at is)))
full-of limits history body key true false held expects full f c h e l is = absurd (false≢true (ap is_full_reply (rw (f, c) at is)))
full-of limits history body key false true held expects full f c h e l is = absurd (false≢true (ap is_full_reply (rw (f, c) at is)))
full-of limits history body key false false false false true f c h e l is = rw (f, h, e) l
full-of limits history body key false false true expects full f c h e l is =
    absurd (open-some limits (log_of key history) body (rw (f, c, h, and_false (not (differs (expected_by body) 0))) at is))
full-of limits history body key false false false true full f c h e l is = absurd (open-some limits (log_of key history) body (rw (f, c, e) at is))
full-of limits history body key false false false false false f c h e l is = absurd (open-some limits (log_of key history) body (rw (f, c, h, e, l) at is))

full-by : (limits : Limits) (history : List Exchange) (body : Body) (own : Option Key) → key_of body ≡ own → option_map_or (reply_about limits history body) own Gone ≡ TableFull → needs_room limits history body ≡ true
full-by limits history body None own is = absurd (false≢true (ap is_full_reply is))
full-by limits history body (Some key) own is =
    rw own (full-of limits history body key (is_forget body) (is_closed key history) (is_held key history) (differs (expected_by body) 0) (length (held_keys history) == limits.logs) refl refl refl refl refl is)

-- only a request that needs room is answered that the table is full
pub full-needs_room : (limits : Limits) (history : List Exchange) (request : Request) → reply_to limits history request ≡ TableFull → needs_room limits history request.body ≡ true
unfolding reply_to
full-needs_room limits history request is = full-by limits history request.body (key_of request.body) refl is

fewer_step : (key other : Key) (rest : List Key) (same : Bool) → same_key key other ≡ same → length (let_go key rest) ≤ length rest → (list_any (same_key key) rest ≡ true → length (let_go key rest) < length rest) → (same || list_any (same_key key) rest) ≡ true → length (let_go key (other ∷ rest)) < length (other ∷ rest)
fewer_step key other rest true is most later among = rw is (omega (arith, most))
fewer_step key other rest false is most later among = rw is (let few = later among in omega (arith, few))

most_step : (key other : Key) (rest : List Key) (same : Bool) → same_key key other ≡ same → length (let_go key rest) ≤ length rest → length (let_go key (other ∷ rest)) ≤ length (other ∷ rest)
most_step key other rest true is most = rw is (omega (arith, most))
most_step key other rest false is most = rw is (omega (arith, most))

most : (key : Key) (keys : List Key) → length (let_go key keys) ≤ length keys
most key [] = omega arith
most key (other ∷ rest) = most_step key other rest (same_key key other) refl (most key rest)

-- a key that is released leaves fewer
fewer : (key : Key) (keys : List Key) → list_any (same_key key) keys ≡ true → length (let_go key keys) < length keys
fewer key [] among = absurd (false≢true among)
fewer key (other ∷ rest) among = fewer_step key other rest (same_key key other) refl (most key rest) (fewer key rest) among

held-then : (key : Key) (history : List Exchange) (held : Bool) → is_held key history ≡ held → is_closed key history ≡ true → held ≡ true
held-then key history true is closed = refl
held-then key history false is closed = contradiction (is_closed key history) closed (unheld-not_closed key history is)

-- the held keys after a release
release-held : (limits : Limits) (history : List Exchange) (key : Key) → is_closed key history ≡ true → held_keys (history_after limits history (release_of key ∷ [])) ≡ let_go key (held_keys history)
unfolding history_after exchange_of reply_to reply_about is_forgotten holds_key
release-held limits history key closed =
    held_keys-more history (exchange_of limits history (release_of key))
    ∙ ap (λ b. held_with (cond b Forgotten NotClosed) (held_keys history) key) closed

count-of : (a b : Bool) (n m : ℕ) → (a && (b && (n == m))) ≡ true → n ≡ m
count-of true true n m is = eqb-true n m is
count-of true false n m is = absurd (false≢true is)
count-of false b n m is = absurd (false≢true is)

room-count : (limits : Limits) (history : List Exchange) (body : Body) (own : Option Key) → key_of body ≡ own → needs_room limits history body ≡ true → length (held_keys history) ≡ limits.logs
room-count limits history body None own some = absurd (false≢true (rw own at some))
room-count limits history body (Some key) own some =
    count-of (not (holds_none body)) (not (is_held key history)) (length (held_keys history)) limits.logs (rw own at some)

still-full : (limits : Limits) (history : List Exchange) (request : Request) (key : Key) (rest : List Key) (some : Bool) → length (held_keys history) ≤ limits.logs → closed_keys history ≡ key ∷ rest → needs_room limits history request.body ≡ some → reply_to limits (room_made true limits history request.body) request ≡ TableFull → ⊥
still-full limits history request key rest false few is none full =
    let here : reply_to limits history request ≡ TableFull = ap (λ h. reply_to limits h request) (sym (none-made limits history request.body none)) ∙ full in
    contradiction (needs_room limits history request.body) (full-needs_room limits history request here) none
still-full limits history request key rest true few is some full =
    let closed = is-first key rest history is in
    let after : List Exchange = history_after limits history (release_of key ∷ []) in
    let made : room_made true limits history request.body ≡ after =
    sym (some-made limits history request.body some) ∙ ap (λ keys. history_after limits history (map release_of (take 1 keys))) is in
    let again = room-count limits after request.body (key_of request.body) refl (full-needs_room limits after request (ap (λ h. reply_to limits h request) (sym made) ∙ full)) in
    let held : length (held_keys after) ≡ length (let_go key (held_keys history)) = ap length (release-held limits history key closed) in
    let less = fewer key (held_keys history) (held-then key history (is_held key history) refl closed) in
    absurd (omega (arith, few, again, held, less))

full-by_keys : (limits : Limits) (history : List Exchange) (request : Request) (closed : List Key) → length (held_keys history) ≤ limits.logs → closed_keys history ≡ closed → reply_to limits (room_made true limits history request.body) request ≡ TableFull → closed ≡ []
full-by_keys limits history request [] few is full = refl
full-by_keys limits history request (key ∷ rest) few is full =
    absurd (still-full limits history request key rest (needs_room limits history request.body) few is refl full)

-- with room made for a request, the table is full only if no key is closed
pub full-then_none : (limits : Limits) (history : List Exchange) (request : Request) → length (held_keys history) ≤ limits.logs → reply_to limits (room_made true limits history request.body) request ≡ TableFull → closed_keys history ≡ []
full-then_none limits history request few full = full-by_keys limits history request (closed_keys history) few refl full
