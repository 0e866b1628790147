-- Runs: one request more, and one frame more.
use Rattle.std.proofs.Common.{◌≡◌, ℕ, suc, ◌+◌, ◌<◌, Bool, true, false, List, [], ◌∷◌, ◌++◌, length, refl, ap, sym, ◌∙◌, arith}
use Rattle.std.specs.Prelude.{Option, ◌==◌, map, is_some}
use Rattle.std.specs.List.{flat_map}
use Rattle.dsn_device.specs.declared.drain.Drain.{Ghosts as Drain}
use Rattle.dsn_frame.specs.bodies.Request.{Encodes}
use Rattle.dsn_frame.specs.bodies.Spoken.{reply_of}
use Rattle.dsn_frame.specs.Refusal.{refusal_end}
use Rattle.dsn_frame.specs.declared.refusal.Refusal.{Refusal}
use Rattle.dsn_frame.specs.declared.refusal.Refusal.TheVariants as refusals
use Rattle.std.specs.Option.{option_to_list}
use Rattle.std.proofs.lemmas.Grind.{flat_map-append}
use Rattle.std.proofs.lemmas.List.{append-nil, length-append, map-append}
use Rattle.dsn_book.specs.Book.{Book, Represents}
use Rattle.dsn_book.specs.Step.{letters_in}
use Rattle.dsn_outcome.specs.History.{Limits, Exchange, exchange_of, history_of, history_after, letters_after, answer_of, answers_after, answers_to, letter_of, replied_in, sealed_letters}
use Rattle.dsn_outcome.specs.Letter.{Letter}
use Rattle.dsn_outcome.specs.Request.{Request, Body}
use Rattle.dsn_outcome.specs.declared.answer.Answer.{Answer}
use Rattle.dsn_outcome.specs.declared.answer.Replied.{Replied}
use Rattle.dsn_outcome.proofs.HistoryLaws.{history_more, letters_more, answers_mine}
use Rattle.dsn_frame.specs.declared.bodies.spoken.Spoken.{Spoken}
use Rattle.dsn_frame.specs.Session.{Input, Takes, asked}
use Rattle.noticed_lib.specs.batch_run.Requests.{batch_requests_from, requests_of, AreReplies}
use Rattle.noticed_lib.specs.inner.Run.{next_request, replied_next, Stands, Asks, Answered}
use Rattle.dsn_report.specs.Outgoing.{Delivered, Outgoing}
use Rattle.dsn_report.specs.Site.{Site}
use Rattle.dsn_frame.specs.inner.Session.{end_after}
use Rattle.dsn_frame.specs.declared.session.Turn.{Turn}
use Rattle.noticed_lib.specs.declared.batch_run.run.Run.{Run}
use Rattle.dsn_frame.specs.declared.bodies.spoken.Spoken.TheVariants as spoken

mine : (limits : Limits) (history : List Exchange) (before : List Request) (body : Body) → ((exchange_of limits history (next_request before body)).request.agent == 0) ≡ true
unfolding exchange_of
mine limits history before body = refl

-- ---- the requests of bodies

-- the requests of more bodies follow on
requests-append : (number : ℕ) (bodies more : List Body) → batch_requests_from number (bodies ++ more) ≡ batch_requests_from number bodies ++ batch_requests_from (number + length bodies) more
unfolding batch_requests_from
requests-append number [] more =
    let same : number + 0 ≡ number = omega arith in
    rw same refl
requests-append number (first ∷ rest) more =
    let same : (number + 1) + length rest ≡ number + suc (length rest) = omega arith in
    rw (requests-append (number + 1) rest more, same) refl

pub requests-length : (number : ℕ) (bodies : List Body) → length (batch_requests_from number bodies) ≡ length bodies
unfolding batch_requests_from
requests-length number [] = refl
requests-length number (first ∷ rest) = ap (λ (n : ℕ). suc n) (requests-length (number + 1) rest)

pub requests-more : (bodies more : List Body) → requests_of (bodies ++ more) ≡ requests_of bodies ++ batch_requests_from (length (requests_of bodies)) more
requests-more bodies more =
    let same : 0 + length bodies ≡ length (requests_of bodies) = omega (arith, requests-length 0 bodies) in
    rw (← same) (requests-append 0 bodies more)

pub requests-one : (before : List Request) (body : Body) → before ++ batch_requests_from (length before) (body ∷ []) ≡ before ++ next_request before body ∷ []
unfolding batch_requests_from
requests-one before body = refl

-- ---- the replies

pub replies-none : (limits : Limits) → AreReplies limits [] (requests_of [])
unfolding history_after batch_requests_from answers_after answers_to
replies-none limits = record { replies = refl }

-- a refusal is no reply
pub replies-refused : (limits : Limits) (answers : List Spoken) (before : List Request) (number : ℕ) → AreReplies limits answers before → AreReplies limits (answers ++ spoken.Refused number ∷ []) before
replies-refused limits answers before number are = record {
  replies = flat_map-append reply_of answers (spoken.Refused number ∷ []) ∙ append-nil (flat_map reply_of answers) ∙ are.replies;
}

-- one more reply is that of one more request
pub replies-asked : (limits : Limits) (answers : List Spoken) (before : List Request) (body : Body) → AreReplies limits answers before
    → AreReplies limits (answers ++ spoken.Reply (replied_next limits before body) ∷ []) (before ++ next_request before body ∷ [])
replies-asked limits answers before body are =
    let history = history_of limits before in
    let request = next_request before body in
    let exchange = exchange_of limits history request in
    let replied = replied_next limits before body in
    let noted = flat_map-append reply_of answers (spoken.Reply replied ∷ []) in
    let all : map replied_in (answers_to 0 (history_of limits (before ++ request ∷ []))) ≡ map replied_in (answers_to 0 history) ++ replied ∷ [] =
    ap (λ (h : List Exchange). map replied_in (answers_to 0 h)) (history_more limits before request)
    ∙ ap (map replied_in) (answers_mine 0 history exchange (mine limits history before body))
    ∙ map-append replied_in (answers_to 0 history) (answer_of history exchange ∷ []) in
    record { replies = noted ∙ ap (λ (rs : List Replied). rs ++ replied ∷ []) are.replies ∙ sym all }

-- ---- one frame's answer

-- a refusal ends the session where it says so
pub end-after-refusal : (refusal : Refusal) (over : Bool) → over ≡ is_some (refusal_end refusal) → end_after over ≡ refusal_end refusal
end-after-refusal (refusals.Body fault) over is = ap end_after is
end-after-refusal refusals.OutOfTurn over is = ap end_after is

-- no requests have no history and no letters
pub history-none : (limits : Limits) → history_of limits [] ≡ []
unfolding history_after
history-none limits = refl

pub letters-none : (limits : Limits) → sealed_letters (history_of limits []) ≡ []
unfolding history_after letters_after
letters-none limits = refl

module _ {W : Type 0} (outbox_device : Drain W) (limits : Limits) (site : Site) (start : W) where
  -- the next request was applied, and the letter that it sealed was passed on
  pub asked-next : (book next : Book) (outgoing later : Outgoing W) (accepted : ℕ) (requests : List Request) (body : Body) (applied : Request) (answer : Answer) (letter : Option Letter) (handed : List Letter)
      → Stands outbox_device limits site start (record { book = book; outgoing = outgoing; accepted = accepted }) requests
      → next.limits ≡ book.limits
      → ((t : List Exchange) → Represents book t → answer ≡ answer_of t (exchange_of book.limits t applied))
      → ((t : List Exchange) → Represents book t → letters_in letter ≡ letter_of t (exchange_of book.limits t applied))
      → ((t : List Exchange) → Represents book t → Represents next (t ++ exchange_of book.limits t applied ∷ []))
      → applied.agent ≡ 0 → applied.number ≡ accepted → applied.body ≡ body
      → ((letters : List Letter) → Delivered outbox_device site start outgoing letters → Delivered outbox_device site start later (letters ++ handed))
      → handed ≡ option_to_list letter
      → Asks outbox_device limits site start (record { book = next; outgoing = later; accepted = accepted + 1 }) requests body (replied_in answer)
  asked-next book next outgoing later accepted requests body applied answer letter handed stands same answer_is letter_is stands_is agent_is number_is body_is delivers handed_is =
      let history = history_of limits requests in
      let request = next_request requests body in
      let kept : book.limits ≡ limits = stands.limits_kept in
      let count : accepted ≡ length requests = stands.count in
      let next_is : applied ≡ request = λ i. record { agent = agent_is i; number = (number_is ∙ count) i; body = body_is i } in
      let replied = rw (kept, next_is) at (answer_is history stands.book) in
      let sealed = rw (kept, next_is) at (letter_is history stands.book) in
      let represents = rw (kept, next_is) at (stands_is history stands.book) in
      let delivered = rw (handed_is, sealed) at (delivers (sealed_letters history) stands.letters) in record {
        reply_is = ap replied_in replied;
        stands = record {
          limits_kept = same ∙ kept;
          book = rw (history_more limits requests request) represents;
          count = omega (arith, count, length-append requests (request ∷ []));
          letters = rw (history_more limits requests request, letters_more history (exchange_of limits history request)) delivered;
        };
      }

  -- a book with no key, and no letters on their way, model no requests
  pub stands-nothing : (book : Book) (outgoing : Outgoing W) → book.limits ≡ limits → Represents book [] → Delivered outbox_device site start outgoing []
      → Stands outbox_device limits site start (record { book = book; outgoing = outgoing; accepted = 0 }) (requests_of [])
  unfolding batch_requests_from
  stands-nothing book outgoing kept represents delivered = record {
    limits_kept = kept;
    book = rw (history-none limits) represents;
    count = refl;
    letters = rw (letters-none limits) delivered;
  }

module _ {W : Type 0} (outbox_device : Drain W) where
  -- a request's answer is that of its frame
  pub answered-asked : (old new : Run W) (body : Body) (reply : Replied) (position : ℕ) (bytes : List ℕ)
      → Encodes bytes position body → old.accepted < old.book.limits.requests → new.accepted ≡ old.accepted + 1 → new.book.limits ≡ old.book.limits
      → ((limits : Limits) (site : Site) (start : W) (requests : List Request) → Stands outbox_device limits site start old requests → Asks outbox_device limits site start new requests body reply)
      → Answered outbox_device old new position bytes (record { answer = spoken.Reply reply; over = false })
  answered-asked old new body reply position bytes encoded few counted kept asks = record {
    asked = body ∷ [];
    takes = asked body reply encoded few;
    counted = counted;
    limited = kept;
    then = λ limits site start bodies answers so_far.
        let ask = asks limits site start (requests_of bodies) so_far.stands in
        let same : requests_of (bodies ++ body ∷ []) ≡ requests_of bodies ++ next_request (requests_of bodies) body ∷ [] = requests-more bodies (body ∷ []) ∙ requests-one (requests_of bodies) body in
        record { replies = rw (same, ask.reply_is) (replies-asked limits answers (requests_of bodies) body so_far.replies); stands = rw same ask.stands };
  }

  -- a frame that asks nothing leaves the run as it was
  pub answered-refused : (run : Run W) (number position : ℕ) (bytes : List ℕ) (turn : Turn) (end : Option ℕ)
      → turn.answer ≡ spoken.Refused number → end_after turn.over ≡ end → Takes Input run.book.limits.requests run.accepted position bytes [] (spoken.Refused number ∷ []) end
      → Answered outbox_device run run position bytes turn
  answered-refused run number position bytes turn end answer_is over_is takes = record {
    asked = [];
    takes = rw (answer_is, over_is) takes;
    counted = omega arith;
    limited = refl;
    then = λ limits site start bodies answers so_far.
        rw (append-nil bodies, answer_is) (record { replies = replies-refused limits answers (requests_of bodies) number so_far.replies; stands = so_far.stands });
  }
