-- Which bytes are a reply: exactly those that reading accepts as one.
use Rattle.std.proofs.Common.{◌≡◌, ◌≢◌, ℕ, ◌<◌, Bool, true, false, ◌&&◌, ◌==◌, not, List, [], ◌∷◌, ◌++◌, length, Option, Some, None, refl, sym, ap, subst, ◌∙◌, arith, eq-eqb, zero-lt-suc}
use Rattle.std.specs.Prelude.{IsTrue, slice_index, if◌then◌else◌}
use Rattle.std.specs.List.{list_all}
use Rattle.std.proofs.lemmas.Bool.Decides.{nat_tests}
use Rattle.std.proofs.lemmas.List.{append_cancel_left}
use Rattle.dsn_text.specs.Text.{is_between}
use Rattle.dsn_smtp.specs.Reply.{AreReplyTexts, HasFurtherBytes, HasNoReply, IsLastText, IsNoFrontOfReply, IsServerReply, IsReplyText, after_code, is_text_byte}
use Rattle.dsn_smtp.specs.ReplyCode.{IsReplyCode, is_reply_code}
use Rattle.dsn_smtp.specs.ReplyReading.{IsUnended}
use Rattle.dsn_smtp.specs.inner.ReplyState.{are_none, reply_state_after, scan, scan_on, step_if}
use Rattle.dsn_smtp.specs.declared.reply_state.ReplyState.{ReplyState}
use Rattle.dsn_smtp.specs.declared.reply_state.ReplyState.TheVariants.{Front, Second, Third, Mark, Text, LastText, LineFeed, LastLineFeed, FrontAgain, SecondAgain, ThirdAgain}
use Rattle.dsn_smtp.specs.declared.reply_state.ReplyStep.{ReplyStep}
use Rattle.dsn_smtp.specs.declared.reply_state.ReplyStep.TheVariants.{Within, Ended, Misplaced}
use Rattle.dsn_smtp.specs.declared.reply_state.ReplyScan.{ReplyScan}
use Rattle.dsn_smtp.specs.declared.reply_state.ReplyScan.TheVariants.{Open, Whole, Behind, Wrong}

-- ---- what reading takes for a reply is one

-- the bytes after a place complete a reply
abbrev GoesOn : ReplyState → (bytes code : List ℕ) → Type 0
GoesOn Front bytes code = IsServerReply code bytes
GoesOn (Second first) bytes code = IsServerReply code (first ∷ bytes)
GoesOn (Third first second) bytes code = IsServerReply code (first ∷ second ∷ bytes)
GoesOn (Mark c) bytes code = (code ≡ c) × IsServerReply c (c ++ bytes)
GoesOn (Text c) bytes code = (code ≡ c) × IsServerReply c (c ++ 45 ∷ bytes)
GoesOn (LastText c) bytes code = (code ≡ c) × IsServerReply c (c ++ 32 ∷ bytes)
GoesOn (LineFeed c) bytes code = (code ≡ c) × IsServerReply c (c ++ 45 ∷ 13 ∷ bytes)
GoesOn (LastLineFeed c) bytes code = (code ≡ c) × IsServerReply c (c ++ 13 ∷ bytes)
GoesOn (FrontAgain c) bytes code = (code ≡ c) × IsServerReply c bytes
GoesOn (SecondAgain c) bytes code = (code ≡ c) × IsServerReply c (slice_index c 0 ∷ bytes)
GoesOn (ThirdAgain c) bytes code = (code ≡ c) × IsServerReply c (slice_index c 0 ∷ slice_index c 1 ∷ bytes)

-- the digits that a place has are those of a code
abbrev IsPlace : ReplyState → Type 0
IsPlace Front = Unit {0}
IsPlace (Second first) = IsTrue (is_between 50 53 first)
IsPlace (Third first second) = IsTrue (is_between 50 53 first) × IsTrue (is_between 48 53 second)
IsPlace (Mark c) = IsReplyCode c
IsPlace (Text c) = IsReplyCode c
IsPlace (LastText c) = IsReplyCode c
IsPlace (LineFeed c) = IsReplyCode c
IsPlace (LastLineFeed c) = IsReplyCode c
IsPlace (FrontAgain c) = IsReplyCode c
IsPlace (SecondAgain c) = IsReplyCode c
IsPlace (ThirdAgain c) = IsReplyCode c

-- a code has three digits
three : (c : List ℕ) → IsReplyCode c → c ≡ slice_index c 0 ∷ slice_index c 1 ∷ slice_index c 2 ∷ []
three [] legal = absurd cc
three (a ∷ []) legal = absurd cc
three (a ∷ b ∷ []) legal = absurd cc
three (a ∷ b ∷ d ∷ []) legal = refl
three (a ∷ b ∷ d ∷ e ∷ rest) legal = absurd cc

-- a reply of one line, without text
shortest : (c : List ℕ) → IsReplyCode c → IsServerReply c (c ++ 13 ∷ 10 ∷ [])
shortest c legal = record { earlier = []; last = None; legal = legal; texts = tt; last_text = tt; is = refl }

-- a reply with one more line before it
one_line_more : (c bytes : List ℕ) → IsServerReply c bytes → IsServerReply c (c ++ 45 ∷ 13 ∷ 10 ∷ bytes)
one_line_more c bytes reply = record {
  earlier = [] ∷ reply.earlier;
  last = reply.last;
  legal = reply.legal;
  texts = (refl, reply.texts);
  last_text = reply.last_text;
  is = ap (λ (l : List ℕ). c ++ 45 ∷ 13 ∷ 10 ∷ l) reply.is;
}

and_true : (a b : Bool) → a ≡ true → b ≡ true → (a && b) ≡ true
and_true a b ha hb = rw (ha, hb) refl

abbrev head_of : List ℕ → ℕ
head_of [] = 0
head_of (x ∷ xs) = x

other_head : (a b : ℕ) (xs ys : List ℕ) → a ≢ b → a ∷ xs ≡ b ∷ ys → ⊥
other_head a b xs ys differ e = differ (ap head_of e)

abbrev tail_of : List ℕ → List ℕ
tail_of [] = []
tail_of (x ∷ xs) = xs

-- the text of a line that isn't the last may have one more byte
longer_from : (c rest : List ℕ) (byte : ℕ) (earlier : List (List ℕ)) (last : Option (List ℕ)) → is_text_byte byte ≡ true → IsReplyCode c → AreReplyTexts earlier → IsLastText last
    → 45 ∷ rest ≡ after_code c earlier last → IsServerReply c (c ++ 45 ∷ byte ∷ rest)
longer_from c rest byte [] None legal code texts last_text e = absurd (other_head 45 13 rest (10 ∷ []) (omega arith) e)
longer_from c rest byte [] (Some text) legal code texts last_text e = absurd (other_head 45 32 rest (text ++ 13 ∷ 10 ∷ []) (omega arith) e)
longer_from c rest byte (text ∷ texts) last legal code are last_text e = record {
  earlier = (byte ∷ text) ∷ texts;
  last = last;
  legal = code;
  texts = (and_true (is_text_byte byte) (list_all is_text_byte text) legal are.0, are.1);
  last_text = last_text;
  is = ap (λ (l : List ℕ). c ++ 45 ∷ byte ∷ l) rest_is;
}
  where
    rest_is : rest ≡ text ++ 13 ∷ 10 ∷ (c ++ after_code c texts last)
    rest_is = ap tail_of e

longer_text : (c rest : List ℕ) (byte : ℕ) → is_text_byte byte ≡ true → IsServerReply c (c ++ 45 ∷ rest) → IsServerReply c (c ++ 45 ∷ byte ∷ rest)
longer_text c rest byte legal reply =
    longer_from c rest byte reply.earlier reply.last legal reply.legal reply.texts reply.last_text (append_cancel_left c (45 ∷ rest) (after_code c reply.earlier reply.last) reply.is)

-- the text of the last line may have one more byte
longer_last_from : (c rest : List ℕ) (byte : ℕ) (earlier : List (List ℕ)) (last : Option (List ℕ)) → is_text_byte byte ≡ true → IsReplyCode c → AreReplyTexts earlier → IsLastText last
    → 32 ∷ rest ≡ after_code c earlier last → IsServerReply c (c ++ 32 ∷ byte ∷ rest)
longer_last_from c rest byte [] None legal code texts last_text e = absurd (other_head 32 13 rest (10 ∷ []) (omega arith) e)
longer_last_from c rest byte [] (Some text) legal code texts last_text e = record {
  earlier = [];
  last = Some (byte ∷ text);
  legal = code;
  texts = tt;
  last_text = and_true (is_text_byte byte) (list_all is_text_byte text) legal last_text;
  is = ap (λ (l : List ℕ). c ++ 32 ∷ byte ∷ l) rest_is;
}
  where
    rest_is : rest ≡ text ++ 13 ∷ 10 ∷ []
    rest_is = ap tail_of e
longer_last_from c rest byte (text ∷ texts) last legal code are last_text e = absurd (other_head 32 45 rest (text ++ 13 ∷ 10 ∷ (c ++ after_code c texts last)) (omega arith) e)

longer_last : (c rest : List ℕ) (byte : ℕ) → is_text_byte byte ≡ true → IsServerReply c (c ++ 32 ∷ rest) → IsServerReply c (c ++ 32 ∷ byte ∷ rest)
longer_last c rest byte legal reply =
    longer_last_from c rest byte reply.earlier reply.last legal reply.legal reply.texts reply.last_text (append_cancel_left c (32 ∷ rest) (after_code c reply.earlier reply.last) reply.is)

-- a last line that ends after its code may end after a space
spaced_from : (c rest : List ℕ) (earlier : List (List ℕ)) (last : Option (List ℕ)) → IsReplyCode c → 13 ∷ rest ≡ after_code c earlier last → IsServerReply c (c ++ 32 ∷ 13 ∷ rest)
spaced_from c rest [] None code e = record {
  earlier = [];
  last = Some [];
  legal = code;
  texts = tt;
  last_text = refl;
  is = ap (λ (l : List ℕ). c ++ 32 ∷ l) e;
}
spaced_from c rest [] (Some text) code e = absurd (other_head 13 32 rest (text ++ 13 ∷ 10 ∷ []) (omega arith) e)
spaced_from c rest (text ∷ texts) last code e = absurd (other_head 13 45 rest (text ++ 13 ∷ 10 ∷ (c ++ after_code c texts last)) (omega arith) e)

spaced : (c rest : List ℕ) → IsServerReply c (c ++ 13 ∷ rest) → IsServerReply c (c ++ 32 ∷ 13 ∷ rest)
spaced c rest reply = spaced_from c rest reply.earlier reply.last reply.legal (append_cancel_left c (13 ∷ rest) (after_code c reply.earlier reply.last) reply.is)

-- ---- one byte

abbrev place_in : ReplyStep → ReplyState
place_in (Within p) = p
place_in (Ended c) = Front
place_in Misplaced = Front

abbrev code_in : ReplyStep → List ℕ
code_in (Within p) = []
code_in (Ended c) = c
code_in Misplaced = []

same_place : (p q : ReplyState) → Within p ≡ Within q → p ≡ q
same_place p q e = ap place_in e

same_code : (c d : List ℕ) → Ended c ≡ Ended d → c ≡ d
same_code c d e = ap code_in e

-- a byte leads from a place to the next
record Leads (place : ReplyState) (byte : ℕ) (next : ReplyState) : Type 0 where
  fine : IsPlace next
  on : (rest code : List ℕ) → GoesOn next rest code → GoesOn place (byte ∷ rest) code

made : {P : Type 0} → (b : Bool) (p q : ReplyState) → step_if b (Within p) ≡ Within q → (b ≡ true → p ≡ q → P) → P
made true p q e follows = follows refl (same_place p q e)
made false p q e follows = absurd cc

never_ended : (b : Bool) (p : ReplyState) (c : List ℕ) → step_if b (Within p) ≡ Ended c → ⊥
never_ended true p c e = cc
never_ended false p c e = cc

mark_leads : (c : List ℕ) (next : ReplyState) (byte : ℕ) (hyphen space return : Bool) → (hyphen ≡ true → byte ≡ 45) → (space ≡ true → byte ≡ 32) → (return ≡ true → byte ≡ 13) → IsReplyCode c
    → (if hyphen then Within (Text c) else (if space then Within (LastText c) else step_if return (Within (LastLineFeed c)))) ≡ Within next → Leads (Mark c) byte next
mark_leads c next byte true space return is_45 is_32 is_13 legal e =
    subst (Leads (Mark c) byte) (same_place (Text c) next e) (record { fine = legal; on = λ rest code g. rw (is_45 refl) g })
mark_leads c next byte false true return is_45 is_32 is_13 legal e =
    subst (Leads (Mark c) byte) (same_place (LastText c) next e) (record { fine = legal; on = λ rest code g. rw (is_32 refl) g })
mark_leads c next byte false false true is_45 is_32 is_13 legal e =
    subst (Leads (Mark c) byte) (same_place (LastLineFeed c) next e) (record { fine = legal; on = λ rest code g. rw (is_13 refl) g })
mark_leads c next byte false false false is_45 is_32 is_13 legal e = absurd cc

text_leads : (c : List ℕ) (next : ReplyState) (byte : ℕ) (return feed : Bool) → byte == 13 ≡ return → byte == 10 ≡ feed → (return ≡ true → byte ≡ 13) → IsReplyCode c
    → (if return then Within (LineFeed c) else (if feed then Misplaced else Within (Text c))) ≡ Within next → Leads (Text c) byte next
text_leads c next byte true feed not_13 not_10 is_13 legal e =
    subst (Leads (Text c) byte) (same_place (LineFeed c) next e) (record { fine = legal; on = λ rest code g. rw (is_13 refl) g })
text_leads c next byte false true not_13 not_10 is_13 legal e = absurd cc
text_leads c next byte false false not_13 not_10 is_13 legal e =
    subst (Leads (Text c) byte) (same_place (Text c) next e) (record { fine = legal; on = λ rest code g. (g.0, longer_text c rest byte (rw (not_13, not_10) refl) g.1) })

last_leads : (c : List ℕ) (next : ReplyState) (byte : ℕ) (return feed : Bool) → byte == 13 ≡ return → byte == 10 ≡ feed → (return ≡ true → byte ≡ 13) → IsReplyCode c
    → (if return then Within (LastLineFeed c) else (if feed then Misplaced else Within (LastText c))) ≡ Within next → Leads (LastText c) byte next
last_leads c next byte true feed not_13 not_10 is_13 legal e =
    subst (Leads (LastText c) byte) (same_place (LastLineFeed c) next e) (record { fine = legal; on = λ rest code g. rw (is_13 refl) (g.0, spaced c rest g.1) })
last_leads c next byte false true not_13 not_10 is_13 legal e = absurd cc
last_leads c next byte false false not_13 not_10 is_13 legal e =
    subst (Leads (LastText c) byte) (same_place (LastText c) next e) (record { fine = legal; on = λ rest code g. (g.0, longer_last c rest byte (rw (not_13, not_10) refl) g.1) })

is_number : (a b : ℕ) → a == b ≡ true → a ≡ b
is_number a b e = grind (nat_tests, arith, e)

leads : (place next : ReplyState) (byte : ℕ) → IsPlace place → reply_state_after place byte ≡ Within next → Leads place byte next
leads Front next byte good e = made (is_between 50 53 byte) (Second byte) next e (λ yes is. subst (Leads Front byte) is (record { fine = yes; on = λ rest code g. g }))
leads (Second first) next byte good e = made (is_between 48 53 byte) (Third first byte) next e (λ yes is. subst (Leads (Second first) byte) is (record { fine = (good, yes); on = λ rest code g. g }))
leads (Third first second) next byte good e =
    made (is_reply_code (first ∷ second ∷ byte ∷ [])) (Mark (first ∷ second ∷ byte ∷ [])) next e
    (λ yes is. subst (Leads (Third first second) byte) is (record { fine = yes; on = λ rest code g. rw g.0 g.1 }))
leads (Mark c) next byte good e = mark_leads c next byte (byte == 45) (byte == 32) (byte == 13) (is_number byte 45) (is_number byte 32) (is_number byte 13) good e
leads (Text c) next byte good e = text_leads c next byte (byte == 13) (byte == 10) refl refl (is_number byte 13) good e
leads (LastText c) next byte good e = last_leads c next byte (byte == 13) (byte == 10) refl refl (is_number byte 13) good e
leads (LineFeed c) next byte good e =
    made (byte == 10) (FrontAgain c) next e (λ yes is. subst (Leads (LineFeed c) byte) is (record { fine = good; on = λ rest code g. rw (is_number byte 10 yes) (g.0, one_line_more c rest g.1) }))
leads (LastLineFeed c) next byte good e = absurd (never (byte == 10) c next e)
  where
    never : (b : Bool) (c : List ℕ) (p : ReplyState) → step_if b (Ended c) ≡ Within p → ⊥
    never true c p e = cc
    never false c p e = cc
leads (FrontAgain c) next byte good e =
    made (byte == slice_index c 0) (SecondAgain c) next e (λ yes is. subst (Leads (FrontAgain c) byte) is (record { fine = good; on = λ rest code g. rw (is_number byte (slice_index c 0) yes) g }))
leads (SecondAgain c) next byte good e =
    made (byte == slice_index c 1) (ThirdAgain c) next e (λ yes is. subst (Leads (SecondAgain c) byte) is (record { fine = good; on = λ rest code g. rw (is_number byte (slice_index c 1) yes) g }))
leads (ThirdAgain c) next byte good e =
    made (byte == slice_index c 2) (Mark c) next e
    (λ yes is. subst (Leads (ThirdAgain c) byte) is (record { fine = good; on = λ rest code g. rw (is_number byte (slice_index c 2) yes) (g.0, subst (IsServerReply c) (ap (λ (l : List ℕ). l ++ rest) (three c good)) g.1) }))

-- the byte that ends a reply
ended : (place : ReplyState) (byte : ℕ) (c : List ℕ) → IsPlace place → reply_state_after place byte ≡ Ended c → GoesOn place (byte ∷ []) c
ended Front byte c good e = absurd (never_ended _ _ c e)
ended (Second first) byte c good e = absurd (never_ended _ _ c e)
ended (Third first second) byte c good e = absurd (never_ended _ _ c e)
ended (Mark d) byte c good e = absurd (never (byte == 45) (byte == 32) (byte == 13) e)
  where
    never : (a b r : Bool) → (if a then Within (Text d) else (if b then Within (LastText d) else step_if r (Within (LastLineFeed d)))) ≡ Ended c → ⊥
    never true b r e = cc
    never false true r e = cc
    never false false true e = cc
    never false false false e = cc
ended (Text d) byte c good e = absurd (never (byte == 13) (byte == 10) e)
  where
    never : (a b : Bool) → (if a then Within (LineFeed d) else (if b then Misplaced else Within (Text d))) ≡ Ended c → ⊥
    never true b e = cc
    never false true e = cc
    never false false e = cc
ended (LastText d) byte c good e = absurd (never (byte == 13) (byte == 10) e)
  where
    never : (a b : Bool) → (if a then Within (LastLineFeed d) else (if b then Misplaced else Within (LastText d))) ≡ Ended c → ⊥
    never true b e = cc
    never false true e = cc
    never false false e = cc
ended (LineFeed d) byte c good e = absurd (never_ended _ _ c e)
ended (LastLineFeed d) byte c good e = at_last (byte == 10) (is_number byte 10) e
  where
    at_last : (b : Bool) → (b ≡ true → byte ≡ 10) → step_if b (Ended d) ≡ Ended c → (c ≡ d) × IsServerReply d (d ++ 13 ∷ byte ∷ [])
    at_last true is_10 e = (sym (same_code d c e), rw (is_10 refl) (shortest d good))
    at_last false is_10 e = absurd cc
ended (FrontAgain d) byte c good e = absurd (never_ended _ _ c e)
ended (SecondAgain d) byte c good e = absurd (never_ended _ _ c e)
ended (ThirdAgain d) byte c good e = absurd (never_ended _ _ c e)

-- ---- whole bytes

-- bytes that begin with a reply, and more
record Found (place : ReplyState) (bytes : List ℕ) : Type 0 where
  front : List ℕ
  rest : List ℕ
  code : List ℕ
  split : bytes ≡ front ++ rest
  some : 0 < length rest
  on : GoesOn place front code

-- what is known of bytes with this result
abbrev Known : ReplyState → List ℕ → ReplyScan → Type 0
Known place bytes Open = (rest code : List ℕ) × GoesOn place (bytes ++ rest) code
Known place bytes (Whole code) = GoesOn place bytes code
Known place bytes Behind = Found place bytes
Known place bytes Wrong = Unit {0}

-- a reply can be completed from each place
completed : (place : ReplyState) → IsPlace place → Known place [] Open
completed Front good = (50 ∷ 48 ∷ 48 ∷ 13 ∷ 10 ∷ [], 50 ∷ 48 ∷ 48 ∷ [], shortest (50 ∷ 48 ∷ 48 ∷ []) refl)
completed (Second a) good = (48 ∷ 48 ∷ 13 ∷ 10 ∷ [], a ∷ 48 ∷ 48 ∷ [], shortest (a ∷ 48 ∷ 48 ∷ []) (rw good refl))
completed (Third a b) good = (48 ∷ 13 ∷ 10 ∷ [], a ∷ b ∷ 48 ∷ [], shortest (a ∷ b ∷ 48 ∷ []) (rw (good.0, good.1) refl))
completed (Mark c) good = (13 ∷ 10 ∷ [], c, (refl, shortest c good))
completed (Text c) good = (13 ∷ 10 ∷ (c ++ 13 ∷ 10 ∷ []), c, (refl, one_line_more c (c ++ 13 ∷ 10 ∷ []) (shortest c good)))
completed (LastText c) good = (13 ∷ 10 ∷ [], c, (refl, spaced c (10 ∷ []) (shortest c good)))
completed (LineFeed c) good = (10 ∷ (c ++ 13 ∷ 10 ∷ []), c, (refl, one_line_more c (c ++ 13 ∷ 10 ∷ []) (shortest c good)))
completed (LastLineFeed c) good = (10 ∷ [], c, (refl, shortest c good))
completed (FrontAgain c) good = (c ++ 13 ∷ 10 ∷ [], c, (refl, shortest c good))
completed (SecondAgain c) good =
    (slice_index c 1 ∷ slice_index c 2 ∷ 13 ∷ 10 ∷ [], c, (refl, subst (IsServerReply c) (ap (λ (l : List ℕ). l ++ 13 ∷ 10 ∷ []) (three c good)) (shortest c good)))
completed (ThirdAgain c) good =
    (slice_index c 2 ∷ 13 ∷ 10 ∷ [], c, (refl, subst (IsServerReply c) (ap (λ (l : List ℕ). l ++ 13 ∷ 10 ∷ []) (three c good)) (shortest c good)))

later : (place next : ReplyState) (byte : ℕ) (bytes : List ℕ) → Leads place byte next → (s : ReplyScan) → Known next bytes s → Known place (byte ∷ bytes) s
later place next byte bytes l Open k = (k.0, k.1, l.on (bytes ++ k.0) k.1 k.2)
later place next byte bytes l (Whole code) k = l.on bytes code k
later place next byte bytes l Behind k = record {
  front = byte ∷ k.front;
  rest = k.rest;
  code = k.code;
  split = ap (λ (x : List ℕ). byte ∷ x) k.split;
  some = k.some;
  on = l.on k.front k.code k.on;
}
later place next byte bytes l Wrong k = tt

known_on : (place : ReplyState) (byte : ℕ) (bytes : List ℕ) → IsPlace place → ((next : ReplyState) → IsPlace next → Known next bytes (scan next bytes)) → (s : ReplyStep) → reply_state_after place byte ≡ s
    → Known place (byte ∷ bytes) (scan_on (λ next. scan next bytes) (are_none bytes) s)
known_on place byte bytes good each (Within next) e = later place next byte bytes (leads place next byte good e) (scan next bytes) (each next (leads place next byte good e).fine)
known_on place byte [] good each (Ended c) e = ended place byte c good e
known_on place byte (other ∷ bytes) good each (Ended c) e = record {
  front = byte ∷ [];
  rest = other ∷ bytes;
  code = c;
  split = refl;
  some = zero-lt-suc (length bytes);
  on = ended place byte c good e;
}
known_on place byte bytes good each Misplaced e = tt

known : (bytes : List ℕ) (place : ReplyState) → IsPlace place → Known place bytes (scan place bytes)
known [] place good = completed place good
known (byte ∷ bytes) place good = known_on place byte bytes good (λ next fine. known bytes next fine) (reply_state_after place byte) refl

-- ---- a reply is taken for one

both : (a b : Bool) → (a && b) ≡ true → (a ≡ true) × (b ≡ true)
both true b e = (refl, e)
both false b e = absurd cc

neither : (a b : Bool) → (not a && not b) ≡ true → (a ≡ false) × (b ≡ false)
neither true b e = absurd cc
neither false true e = absurd cc
neither false false e = (refl, refl)

read_code : (c rest : List ℕ) → IsReplyCode c → scan Front (c ++ rest) ≡ scan (Mark c) rest
read_code [] rest legal = absurd cc
read_code (a ∷ []) rest legal = absurd cc
read_code (a ∷ b ∷ []) rest legal = absurd cc
read_code (a ∷ b ∷ d ∷ []) rest legal =
    let first = both (is_between 50 53 a) (is_between 48 53 b && is_between 48 57 d) legal in
    let second = both (is_between 48 53 b) (is_between 48 57 d) first.1 in
    rw (first.0, second.0, legal) refl
read_code (a ∷ b ∷ d ∷ e ∷ more) rest legal = absurd cc

read_again : (c rest : List ℕ) → IsReplyCode c → scan (FrontAgain c) (c ++ rest) ≡ scan (Mark c) rest
read_again [] rest legal = absurd cc
read_again (a ∷ []) rest legal = absurd cc
read_again (a ∷ b ∷ []) rest legal = absurd cc
read_again (a ∷ b ∷ d ∷ []) rest legal = rw (eq-eqb a a refl, eq-eqb b b refl, eq-eqb d d refl) refl
read_again (a ∷ b ∷ d ∷ e ∷ more) rest legal = absurd cc

read_text : (c text rest : List ℕ) → IsReplyText text → scan (Text c) (text ++ 13 ∷ 10 ∷ rest) ≡ scan (FrontAgain c) rest
read_text c [] rest legal = refl
read_text c (byte ∷ text) rest legal =
    let parts = both (is_text_byte byte) (list_all is_text_byte text) legal in
    let neither_end = neither (byte == 13) (byte == 10) parts.0 in
    rw (neither_end.0, neither_end.1) (read_text c text rest parts.1)

read_last : (c text : List ℕ) → IsReplyText text → scan (LastText c) (text ++ 13 ∷ 10 ∷ []) ≡ Whole c
read_last c [] legal = refl
read_last c (byte ∷ text) legal =
    let parts = both (is_text_byte byte) (list_all is_text_byte text) legal in
    let neither_end = neither (byte == 13) (byte == 10) parts.0 in
    rw (neither_end.0, neither_end.1) (read_last c text parts.1)

read_rest : (c : List ℕ) (earlier : List (List ℕ)) (last : Option (List ℕ)) → IsReplyCode c → AreReplyTexts earlier → IsLastText last → scan (Mark c) (after_code c earlier last) ≡ Whole c
read_rest c [] None legal texts last_text = refl
read_rest c [] (Some text) legal texts last_text = read_last c text last_text
read_rest c (text ∷ earlier) last legal texts last_text =
    read_text c text (c ++ after_code c earlier last) texts.0 ∙ read_again c (after_code c earlier last) legal ∙ read_rest c earlier last legal texts.1 last_text

reply_is_read : (code bytes : List ℕ) → IsServerReply code bytes → scan Front bytes ≡ Whole code
reply_is_read code bytes reply =
    ap (scan Front) reply.is ∙ read_code code (after_code code reply.earlier reply.last) reply.legal ∙ read_rest code reply.earlier reply.last reply.legal reply.texts reply.last_text

-- ---- bytes after others

-- a reply ended in the bytes
abbrev HasEnded : ReplyScan → Type 0
HasEnded Open = ⊥
HasEnded (Whole code) = Unit {0}
HasEnded Behind = Unit {0}
HasEnded Wrong = ⊥

ended_after : (f g : ReplyState → ReplyScan) (a b : Bool) (s : ReplyStep) → ((next : ReplyState) → HasEnded (f next) → HasEnded (g next)) → HasEnded (scan_on f a s) → HasEnded (scan_on g b s)
ended_after f g a b (Within next) each h = each next h
ended_after f g a true (Ended c) each h = tt
ended_after f g a false (Ended c) each h = tt
ended_after f g a b Misplaced each h = h

stays_ended : (bytes more : List ℕ) (place : ReplyState) → HasEnded (scan place bytes) → HasEnded (scan place (bytes ++ more))
stays_ended [] more place h = absurd h
stays_ended (byte ∷ bytes) more place h =
    ended_after (λ next. scan next bytes) (λ next. scan next (bytes ++ more)) (are_none bytes) (are_none (bytes ++ more)) (reply_state_after place byte) (λ next h. stays_ended bytes more next h) h

abbrev IsWrong : ReplyScan → Type 0
IsWrong Open = ⊥
IsWrong (Whole code) = ⊥
IsWrong Behind = ⊥
IsWrong Wrong = Unit {0}

wrong_after : (f g : ReplyState → ReplyScan) (a b : Bool) (s : ReplyStep) → ((next : ReplyState) → IsWrong (f next) → IsWrong (g next)) → IsWrong (scan_on f a s) → IsWrong (scan_on g b s)
wrong_after f g a b (Within next) each h = each next h
wrong_after f g true b (Ended c) each h = absurd h
wrong_after f g false b (Ended c) each h = absurd h
wrong_after f g a b Misplaced each h = tt

stays_wrong : (bytes more : List ℕ) (place : ReplyState) → IsWrong (scan place bytes) → IsWrong (scan place (bytes ++ more))
stays_wrong [] more place h = absurd h
stays_wrong (byte ∷ bytes) more place h =
    wrong_after (λ next. scan next bytes) (λ next. scan next (bytes ++ more)) (are_none bytes) (are_none (bytes ++ more)) (reply_state_after place byte) (λ next h. stays_wrong bytes more next h) h

-- ---- the result of reading

no_reply_in : (bytes : List ℕ) (s : ReplyScan) → scan Front bytes ≡ s → (HasEnded s → ⊥) → HasNoReply bytes
no_reply_in bytes s e never front rest code split reply =
    never (subst HasEnded (ap (scan Front) (sym split) ∙ e) (stays_ended front rest Front (subst HasEnded (sym (reply_is_read code front reply)) tt)))

known_as : (bytes : List ℕ) (s : ReplyScan) → scan Front bytes ≡ s → Known Front bytes s
known_as bytes s e = subst (Known Front bytes) e (known bytes Front tt)

pub whole_reply : (bytes code : List ℕ) → scan Front bytes ≡ Whole code → IsServerReply code bytes
whole_reply bytes code e = known_as bytes (Whole code) e

pub reply_and_more : (bytes : List ℕ) → scan Front bytes ≡ Behind → HasFurtherBytes bytes
reply_and_more bytes e =
    let k = known_as bytes Behind e in
    record { front = k.front; rest = k.rest; code = k.code; split = k.split; some = k.some; whole = k.on }

pub unended : (bytes : List ℕ) → scan Front bytes ≡ Open → IsUnended bytes
unended bytes e =
    let k = known_as bytes Open e in
    record { front = record { rest = k.0; code = k.1; whole = k.2 }; none = no_reply_in bytes Open e (λ h. h) }

pub no_front : (bytes : List ℕ) → scan Front bytes ≡ Wrong → IsNoFrontOfReply bytes
no_front bytes e rest code reply =
    subst IsWrong (reply_is_read code (bytes ++ rest) reply) (stays_wrong bytes rest Front (subst IsWrong (sym e) tt))

pub no_reply : (bytes : List ℕ) → scan Front bytes ≡ Wrong → HasNoReply bytes
no_reply bytes e = no_reply_in bytes Wrong e (λ h. h)
