-- Laws of sends: answers that follow one another in bytes are read as they were written.
use Rattle.std.proofs.Common.{◌≡◌, ℕ, suc, ◌+◌, ◌^◌, ◌<◌, ◌≤◌, List, [], ◌∷◌, ◌++◌, length, take, drop, refl, sym, ap, subst, ◌∙◌, append_assoc, arith}
use Rattle.std.specs.Prelude.{◌==◌, Option, Some, None, Err, IfSome, if◌then◌else◌}
use Rattle.std.specs.Int.{w32, w64, from_be_bytes, to_be_bytes}
use Rattle.std.specs.Io.KnownBytes.{Appends, Consumes, Keeps}
use Rattle.std.specs.List.{flat_map}
use Rattle.std.proofs.lemmas.List.{append-nil, append_cancel_left, length-append}
use Rattle.std.proofs.lemmas.Nat.{from_be_bytes-to_be_bytes_4, from_be_bytes-to_be_bytes_8}
use Rattle.dsn_outcome.specs.Request.{Body}
use Rattle.dsn_outcome.specs.declared.answer.Reply.{Reply}
use Rattle.dsn_outcome.specs.declared.answer.Reply.TheVariants.{Logged, Closed, TableFull, LogFull, Nothing, NoReturn, Sealed, Discarded, Gone, Forgotten, NotClosed, Differs}
use Rattle.dsn_frame.specs.bodies.FrameBody.{frame, IsFrameBody}
use Rattle.dsn_frame.specs.bodies.Spoken.{FitsAnswer, answer_body, answer_bytes, answer_frames_from, first_answer_fault, reply_kind, reply_value, sealed_kind, serial_bytes, spoken_kind, spoken_serial, spoken_value, told_each}
use Rattle.dsn_frame.specs.declared.bodies.spoken.Spoken.{Spoken}
use Rattle.dsn_frame.specs.declared.bodies.spoken.Spoken.TheVariants as spoken
use Rattle.dsn_frame.specs.Frame.{AreFramesOf, ReadsNone}
use Rattle.dsn_frame.specs.Session.{Medium, Takes, faulty, out_of_memory, out_of_turn, used_up, asked, given_up, given_up_after, Connection, SessionSoFar, begun, taken}
use Rattle.dsn_frame.specs.declared.frame_fault.FrameFault.{FrameFault}
use Rattle.dsn_frame.specs.declared.frame_fault.FrameFault.TheVariants as cuts
use Rattle.dsn_frame.proofs.InputLaws.{ends_with_no_frame, front_length, none_ends, same_front}
use Rattle.dsn_frame.proofs.SessionFrames.{takes_its_frames}
use Rattle.noticed_lib.specs.client.Ask.{IsAsked}
use Rattle.noticed_lib.specs.client.Send.{FitFrom, Known, SendEnds}
use Rattle.noticed_lib.specs.client.SendLaws.{IsBlameless, SeesAnswers, SeesSession}
use Rattle.noticed_lib.specs.declared.client.send_fault.SendFault.{SendFault}
use Rattle.noticed_lib.specs.declared.client.send_fault.SendFault.TheVariants.{Input, TooMany, NotSent, Unanswered, AnswerFrame, Answer, OutOfTurn, NotesLost}

-- ---- one answer

-- what is replied by this byte, this value and this serial; and what is said by them
replied_as : Reply → Option ℕ → Spoken
replied_as reply serial = spoken.Reply (record { reply = reply; serial = serial })

said_of : ℕ → ℕ → Option ℕ → Spoken
said_of kind value serial =
    if kind == 1 then replied_as (Logged value) serial
    else (if kind == 2 then replied_as Closed serial
    else (if kind == 3 then replied_as TableFull serial
    else (if kind == 4 then replied_as LogFull serial
    else (if kind == 5 then replied_as Nothing serial
    else (if kind == 6 then replied_as (NoReturn value) serial
    else (if kind == 7 then replied_as (Sealed value) serial
    else (if kind == 8 then replied_as (Discarded value) serial
    else (if kind == 9 then replied_as Gone serial
    else (if kind == 11 then replied_as Forgotten serial
    else (if kind == 12 then replied_as NotClosed serial
    else (if kind == 13 then replied_as (Differs value) serial else spoken.Refused value)))))))))))

replied-back : (reply : Reply) (serial : Option ℕ) → said_of (reply_kind reply) (reply_value reply) serial ≡ replied_as reply serial
unfolding said_of replied_as
replied-back (Logged place) serial = refl
replied-back Closed serial = refl
replied-back TableFull serial = refl
replied-back LogFull serial = refl
replied-back Nothing serial = refl
replied-back (NoReturn count) serial = refl
replied-back (Sealed count) serial = refl
replied-back (Discarded count) serial = refl
replied-back Gone serial = refl
replied-back Forgotten serial = refl
replied-back NotClosed serial = refl
replied-back (Differs count) serial = refl

said-back : (said : Spoken) → said_of (spoken_kind said) (spoken_value said) (spoken_serial said) ≡ said
unfolding said_of replied_as
said-back (spoken.Reply replied) = replied-back replied.reply replied.serial
said-back (spoken.Refused code) = refl

second : List ℕ → ℕ
second [] = 0
second (a ∷ []) = 0
second (a ∷ b ∷ rest) = b

written-back : (a b : ℕ) → a < 2 ^ 32 → b < 2 ^ 32 → to_be_bytes w32 a ≡ to_be_bytes w32 b → a ≡ b
written-back a b fits_a fits_b is = sym (from_be_bytes-to_be_bytes_4 a fits_a) ∙ ap (from_be_bytes w32) is ∙ from_be_bytes-to_be_bytes_4 b fits_b

abbrev FitsSerial : ℕ → Option ℕ → Type 0
FitsSerial kind serial = IfSome serial (λ n. (kind ≡ sealed_kind) × (n < 2 ^ 64))

serial-back : (k l : ℕ) (a b : Option ℕ) → FitsSerial k a → FitsSerial l b → serial_bytes a ≡ serial_bytes b → a ≡ b
serial-back k l None None fits_a fits_b is = refl
serial-back k l None (Some b) fits_a fits_b is = absurd (let long : 0 ≡ 8 = ap length is in omega (arith, long))
serial-back k l (Some a) None fits_a fits_b is = absurd (let long : 8 ≡ 0 = ap length is in omega (arith, long))
serial-back k l (Some a) (Some b) fits_a fits_b is =
    let same : a ≡ b = sym (from_be_bytes-to_be_bytes_8 a fits_a.1) ∙ ap (from_be_bytes w64) is ∙ from_be_bytes-to_be_bytes_8 b fits_b.1 in
    ap (λ (n : ℕ). Some n) same

-- a body is one answer to one place
one-answer : (n m : ℕ) (x y : Spoken) → FitsAnswer n x → FitsAnswer m y → answer_body n x ≡ answer_body m y → (n ≡ m) × (x ≡ y)
unfolding answer_body second
one-answer n m x y fits_x fits_y is =
    let kinds : spoken_kind x ≡ spoken_kind y = ap second is in
    let numbers : n ≡ m = written-back n m fits_x.number_fits fits_y.number_fits (ap (λ (b : List ℕ). take 4 (drop 2 b)) is) in
    let values : spoken_value x ≡ spoken_value y = written-back (spoken_value x) (spoken_value y) fits_x.value_fits fits_y.value_fits (ap (λ (b : List ℕ). take 4 (drop 6 b)) is) in
    let serials : spoken_serial x ≡ spoken_serial y = serial-back (spoken_kind x) (spoken_kind y) (spoken_serial x) (spoken_serial y) fits_x.serial_fits fits_y.serial_fits (ap (λ (b : List ℕ). drop 10 b) is) in
    (numbers, sym (said-back x) ∙ (λ i. said_of (kinds i) (values i) (serials i)) ∙ said-back y)

serial-few : (serial : Option ℕ) → length (serial_bytes serial) ≤ 8
serial-few None = omega arith
serial-few (Some serial) = omega arith

legal : (n : ℕ) (x : Spoken) → IsFrameBody (answer_body n x)
unfolding answer_body
legal n x = let few = serial-few (spoken_serial x) in (omega arith, omega arith)

replied-no-fault : (n : ℕ) (reply : Reply) (serial : Option ℕ) → FitsSerial (reply_kind reply) serial → first_answer_fault (answer_body n (replied_as reply serial)) ≡ None
unfolding first_answer_fault answer_body replied_as
replied-no-fault n (Logged place) None fits = refl
replied-no-fault n (Logged place) (Some serial) fits = absurd (omega (arith, fits.0))
replied-no-fault n Closed None fits = refl
replied-no-fault n Closed (Some serial) fits = absurd (omega (arith, fits.0))
replied-no-fault n TableFull None fits = refl
replied-no-fault n TableFull (Some serial) fits = absurd (omega (arith, fits.0))
replied-no-fault n LogFull None fits = refl
replied-no-fault n LogFull (Some serial) fits = absurd (omega (arith, fits.0))
replied-no-fault n Nothing None fits = refl
replied-no-fault n Nothing (Some serial) fits = absurd (omega (arith, fits.0))
replied-no-fault n (NoReturn count) None fits = refl
replied-no-fault n (NoReturn count) (Some serial) fits = absurd (omega (arith, fits.0))
replied-no-fault n (Sealed count) None fits = refl
replied-no-fault n (Sealed count) (Some serial) fits = refl
replied-no-fault n (Discarded count) None fits = refl
replied-no-fault n (Discarded count) (Some serial) fits = absurd (omega (arith, fits.0))
replied-no-fault n Gone None fits = refl
replied-no-fault n Gone (Some serial) fits = absurd (omega (arith, fits.0))
replied-no-fault n Forgotten None fits = refl
replied-no-fault n Forgotten (Some serial) fits = absurd (omega (arith, fits.0))
replied-no-fault n NotClosed None fits = refl
replied-no-fault n NotClosed (Some serial) fits = absurd (omega (arith, fits.0))
replied-no-fault n (Differs count) None fits = refl
replied-no-fault n (Differs count) (Some serial) fits = absurd (omega (arith, fits.0))

no-fault : (n : ℕ) (x : Spoken) → FitsAnswer n x → first_answer_fault (answer_body n x) ≡ None
unfolding first_answer_fault answer_body replied_as
no-fault n (spoken.Reply replied) fits = replied-no-fault n replied.reply replied.serial fits.serial_fits
no-fault n (spoken.Refused code) fits = refl

-- ---- answers in a row

no-frame-left : (body rest : List ℕ) → [] ≡ frame body ++ rest → ⊥
no-frame-left body rest is = let long : 0 ≡ length (frame body ++ rest) = ap length is in omega (arith, long, front_length body rest)

-- of answers, the first ones and the rest of their bytes
record Rests (place : ℕ) (xs ys : List Spoken) (rest : List ℕ) : Type 0 where
  more : List Spoken
  split : ys ≡ xs ++ more
  left : rest ≡ answer_frames_from (place + length xs) more
  fits : FitFrom (place + length xs) more

rests : (place : ℕ) (xs ys : List Spoken) (rest : List ℕ) → FitFrom place xs → FitFrom place ys → answer_frames_from place ys ≡ answer_frames_from place xs ++ rest → Rests place xs ys rest
unfolding answer_frames_from answer_bytes
rests place [] ys rest fit_x fit_y is =
    let at : place ≡ place + 0 = omega arith in
    record { more = ys; split = refl; left = subst (λ (n : ℕ). rest ≡ answer_frames_from n ys) at (sym is); fits = subst (λ (n : ℕ). FitFrom n ys) at fit_y }
rests place (x ∷ xs) [] rest fit_x fit_y is =
    absurd (no-frame-left (answer_body place x) (answer_frames_from (suc place) xs ++ rest) (is ∙ append_assoc (frame (answer_body place x)) (answer_frames_from (suc place) xs) rest))
rests place (x ∷ xs) (y ∷ ys) rest fit_x fit_y is =
    let heads = same_front (answer_body place y) (answer_body place x) (answer_frames_from (suc place) ys) (answer_frames_from (suc place) xs ++ rest) (legal place y) (legal place x) (is ∙ append_assoc (frame (answer_body place x)) (answer_frames_from (suc place) xs) rest) in
    let one = one-answer place place y x fit_y.0 fit_x.0 heads.0 in
    let tails = rests (suc place) xs ys rest fit_x.1 fit_y.1 heads.1 in
    let at : suc place + length xs ≡ place + length (x ∷ xs) = omega arith in
    record {
      more = tails.more;
      split = ap (λ (z : Spoken). z ∷ ys) one.1 ∙ ap (λ (zs : List Spoken). x ∷ zs) tails.split;
      left = subst (λ (n : ℕ). rest ≡ answer_frames_from n tails.more) at tails.left;
      fits = subst (λ (n : ℕ). FitFrom n tails.more) at tails.fits;
    }

-- no answer has no bytes
none-left : (place : ℕ) (more : List Spoken) → answer_frames_from place more ≡ [] → more ≡ []
unfolding answer_frames_from answer_bytes
none-left place [] is = refl
none-left place (x ∷ xs) is = absurd (no-frame-left (answer_body place x) (answer_frames_from (suc place) xs) (sym is))

-- the next frame of them is the next answer's
record IsNext (place : ℕ) (body : List ℕ) : Type 0 where
  answer : Spoken
  fits : FitsAnswer place answer
  body_is : body ≡ answer_body place answer

next : (place : ℕ) (more : List Spoken) (now : Option (List ℕ)) (body : List ℕ) → FitFrom place more → IsFrameBody body → Consumes (Some (answer_frames_from place more)) now (frame body) → IsNext place body
unfolding answer_frames_from answer_bytes
next place more None body fits legal_body consumed = absurd consumed
next place [] (Some rest) body fits legal_body consumed = absurd (no-frame-left body rest consumed)
next place (x ∷ xs) (Some rest) body fits legal_body consumed =
    let heads = same_front (answer_body place x) body (answer_frames_from (suc place) xs) rest (legal place x) legal_body consumed in
    record { answer = x; fits = fits.0; body_is = sym heads.0 }

-- a frame of them can be read, unless memory is refused or a read fails
readable : (place : ℕ) (more : List Spoken) (now : Option (List ℕ)) (fault : FrameFault) → ReadsNone (Some (answer_frames_from place more)) now fault → IsBlameless (Some (AnswerFrame fault))
unfolding answer_frames_from answer_bytes
readable place more now cuts.NoMemory none = tt
readable place more now cuts.Read none = tt
readable place [] now cuts.TooLong none = absurd (let ends = none_ends [] now cuts.TooLong none (λ is. cc) (λ is. cc) in omega (arith, ends.0))
readable place [] now cuts.Empty none = absurd (let ends = none_ends [] now cuts.Empty none (λ is. cc) (λ is. cc) in omega (arith, ends.0))
readable place [] now cuts.CutShort none = absurd (let ends = none_ends [] now cuts.CutShort none (λ is. cc) (λ is. cc) in omega (arith, ends.0))
readable place (x ∷ xs) now cuts.TooLong none =
    absurd (ends_with_no_frame (answer_frames_from place (x ∷ xs)) (answer_body place x) (answer_frames_from (suc place) xs) (Some cuts.TooLong) (none_ends (answer_frames_from place (x ∷ xs)) now cuts.TooLong none (λ is. cc) (λ is. cc)) (legal place x) refl)
readable place (x ∷ xs) now cuts.Empty none =
    absurd (ends_with_no_frame (answer_frames_from place (x ∷ xs)) (answer_body place x) (answer_frames_from (suc place) xs) (Some cuts.Empty) (none_ends (answer_frames_from place (x ∷ xs)) now cuts.Empty none (λ is. cc) (λ is. cc)) (legal place x) refl)
readable place (x ∷ xs) now cuts.CutShort none =
    absurd (ends_with_no_frame (answer_frames_from place (x ∷ xs)) (answer_body place x) (answer_frames_from (suc place) xs) (Some cuts.CutShort) (none_ends (answer_frames_from place (x ∷ xs)) now cuts.CutShort none (λ is. cc) (λ is. cc)) (legal place x) refl)

-- ---- what a client sees of them

module _ (place : ℕ) (more : List Spoken) (fits : FitFrom place more) where
  blameless : (bytes : List ℕ) (sent later left : Option (List ℕ)) (fault : SendFault) → IsAsked place bytes sent later (Some (answer_frames_from place more)) left (Err fault) → IsBlameless (Some fault) × (Some fault ≡ Some Unanswered → more ≡ [])
  unfolding answer_bytes
  blameless bytes sent later left (Input fault) ask = absurd ask
  blameless bytes sent later left TooMany ask = absurd ask
  blameless bytes sent later left NotesLost ask = absurd ask
  blameless bytes sent later left NotSent ask = (tt, λ is. absurd (let never : Some NotSent ≡ Some Unanswered = is in cc))
  blameless bytes sent later left Unanswered ask = (tt, λ is. none-left place more ask.1.0)
  blameless bytes sent later left (AnswerFrame fault) ask = (readable place more left fault ask.1, λ is. absurd (let never : Some (AnswerFrame fault) ≡ Some Unanswered = is in cc))
  blameless bytes sent later left (Answer fault) ask =
      let came = next place more left ask.1.body fits ask.1.got.0 ask.1.got.1 in
      let good : first_answer_fault ask.1.body ≡ None = ap first_answer_fault came.body_is ∙ no-fault place came.answer came.fits in
      absurd (let never : Some fault ≡ None = sym ask.1.first ∙ good in cc)
  blameless bytes sent later left OutOfTurn ask =
      let turn = ask.1 in
      let came = next place more left (answer_body turn.number turn.answer) fits (legal turn.number turn.answer) turn.is_answer.got in
      absurd (turn.apart (one-answer turn.number place turn.answer came.answer turn.is_answer.fits came.fits came.body_is).0)

  at_end : (limit : ℕ) (left now : Known) → left.unread ≡ Some (answer_frames_from place more) → (fault : Option SendFault) → SendEnds limit place left now fault → IsBlameless fault × (fault ≡ Some Unanswered → more ≡ [])
  at_end limit left now unread None ends = (tt, λ is. absurd (let never : None ≡ Some Unanswered = is in cc))
  at_end limit left now unread (Some (Input fault)) ends = (tt, λ is. absurd (let never : Some (Input fault) ≡ Some Unanswered = is in cc))
  at_end limit left now unread (Some TooMany) ends = (tt, λ is. absurd (let never : Some TooMany ≡ Some Unanswered = is in cc))
  at_end limit left now unread (Some NotesLost) ends = (tt, λ is. absurd (let never : Some NotesLost ≡ Some Unanswered = is in cc))
  at_end limit left now unread (Some NotSent) ends = blameless ends.at_frame.bytes left.sent now.sent now.unread NotSent (rw unread at ends.at_frame.asked)
  at_end limit left now unread (Some Unanswered) ends = blameless ends.at_frame.bytes left.sent now.sent now.unread Unanswered (rw unread at ends.at_frame.asked)
  at_end limit left now unread (Some (AnswerFrame fault)) ends = blameless ends.at_frame.bytes left.sent now.sent now.unread (AnswerFrame fault) (rw unread at ends.at_frame.asked)
  at_end limit left now unread (Some (Answer fault)) ends = blameless ends.at_frame.bytes left.sent now.sent now.unread (Answer fault) (rw unread at ends.at_frame.asked)
  at_end limit left now unread (Some OutOfTurn) ends = blameless ends.at_frame.bytes left.sent now.sent now.unread OutOfTurn (rw unread at ends.at_frame.asked)

-- known bytes that lose some are known after that
record KnownRest (text bytes : List ℕ) (now : Option (List ℕ)) : Type 0 where
  rest : List ℕ
  now_is : now ≡ Some rest
  split : text ≡ bytes ++ rest

known-rest : (old now : Option (List ℕ)) (text bytes : List ℕ) → old ≡ Some text → Consumes old now bytes → KnownRest text bytes now
known-rest old None text bytes is consumed = let never = rw is at consumed in absurd never
known-rest old (Some rest) text bytes is consumed = record { rest = rest; now_is = refl; split = rw is at consumed }

pub sees-answers : (given : List Spoken) → SeesAnswers given
sees-answers given most start now frames noted fault unread fit sends =
    let known = known-rest start.unread sends.left.unread (answer_frames_from 0 given) (answer_frames_from 0 noted) unread sends.answered.got in
    let after = rests 0 noted given known.rest sends.answered.fit fit known.split in
    let place : 0 + length noted ≡ length frames = omega (arith, sends.answered.each) in
    let left_is : sends.left.unread ≡ Some (answer_frames_from (length frames) after.more) = known.now_is ∙ ap (λ (bytes : List ℕ). Some bytes) after.left ∙ ap (λ (n : ℕ). Some (answer_frames_from n after.more)) place in
    let end = at_end (length frames) after.more (subst (λ (n : ℕ). FitFrom n after.more) place after.fits) most sends.left now left_is fault sends.ends in
    record {
      first = (after.more, after.split);
      blameless = end.0;
      none_left = λ is. sym (after.split ∙ ap (λ (xs : List Spoken). noted ++ xs) (end.1 is) ∙ append-nil noted);
    }

-- ---- a session's answers

takes-few : (medium : Medium) (limit accepted place : ℕ) (bytes : List ℕ) (more : List Body) (noted : List Spoken) (end : Option ℕ) → Takes medium limit accepted place bytes more noted end → length noted ≤ 1
takes-few medium limit accepted place bytes _ _ _ (faulty fault is) = omega arith
takes-few medium limit accepted place bytes _ _ _ (out_of_memory is) = omega arith
takes-few medium limit accepted place bytes _ _ _ (out_of_turn number body encoded apart) = omega arith
takes-few medium limit accepted place bytes _ _ _ (used_up body encoded full) = omega arith
takes-few medium limit accepted place bytes _ _ _ (asked body reply encoded room) = omega arith
takes-few medium limit accepted place bytes _ _ _ (given_up body encoded connected) = omega arith
takes-few medium limit accepted place bytes _ _ _ (given_up_after body encoded room connected) = omega arith

-- a session has no more answers than frames
few-answers : (medium : Medium) (limit before : ℕ) (frames : List (List ℕ)) (bodies : List Body) (answers : List Spoken) (made : Option ℕ) → SessionSoFar medium limit before frames bodies answers made → length answers ≤ length frames
few-answers medium limit before _ _ _ _ begun = omega arith
few-answers medium limit before _ _ _ _ (taken frames bodies more answers noted bytes end last so_far few legal_bytes takes goes) =
    omega (arith, length-append frames (bytes ∷ []), length-append answers noted, few-answers medium limit before frames bodies answers None so_far, takes-few medium limit (before + length bodies) (length frames) bytes more noted end takes)

wrote-is : (a b c : Option (List ℕ)) (earlier wrote text : List ℕ) → a ≡ Some earlier → c ≡ Some (earlier ++ wrote) → Appends a b text → Keeps b c → wrote ≡ text
wrote-is a None c earlier wrote text a_is c_is appended kept = let never = rw a_is at appended in absurd never
wrote-is a (Some xs) c earlier wrote text a_is c_is appended kept =
    let first : xs ≡ earlier ++ text = rw a_is at appended in
    let same : earlier ++ wrote ≡ xs = rw c_is at kept in
    append_cancel_left earlier wrote text (same ∙ first)

told-few : (frames : List (List ℕ)) (answers : List Spoken) → length (told_each frames answers) ≤ length answers
told-few [] answers = omega arith
told-few (bytes ∷ frames) [] = omega arith
told-few (bytes ∷ frames) (answer ∷ answers) = omega (arith, told-few frames answers)

nothing-more : (xs : List Spoken) → length xs ≡ 0 → xs ≡ []
nothing-more [] is = refl
nothing-more (x ∷ xs) is = absurd (omega (arith, is))

pub sees-session : (given : List Spoken) → SeesSession given
sees-session given limit before most start now earlier wrote left frames others bodies noted end unread fit start_is now_is session sends =
    let seen = sees-answers (told_each others given) most start now frames noted None unread fit sends in
    let wrote_is : wrote ≡ flat_map frame frames = wrote-is start.sent sends.left.sent now.sent earlier wrote (flat_map frame frames) start_is now_is sends.answered.sent sends.ends.1.nothing_sent in
    let of : AreFramesOf wrote frames None = record { rest = []; begins = record { front = wrote_is ∙ sym (append-nil (flat_map frame frames)); whole = sends.answered.legal }; ends = refl } in
    let firsts = takes_its_frames wrote Connection limit before left others frames bodies given end None session of in
    let few = few-answers Connection limit before others bodies given session.made session.takes in
    let told_few = told-few others given in
    let all : length seen.first.0 ≡ 0 = omega (arith, few, told_few, sends.answered.each, ap length firsts.first.1, length-append others firsts.first.0, ap length seen.first.1, length-append noted seen.first.0) in
    sym (seen.first.1 ∙ ap (λ (xs : List Spoken). noted ++ xs) (nothing-more seen.first.0 all) ∙ append-nil noted)
