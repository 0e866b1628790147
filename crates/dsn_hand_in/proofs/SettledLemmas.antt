-- After every course of a mail outlet, each letter that is settled was settled before it, or once by a deed of its own.
use Rattle.std.proofs.Common.{◌≡◌, ◌≢◌, ◌⊎◌, inl, inr, ◌-◌, ℕ, zero, suc, ◌+◌, ◌<◌, ◌≤◌, Bool, true, false, List, [], ◌∷◌, ◌++◌, length, drop, Option, Some, None, slice_get, slice_set, refl, sym, ap, subst, ◌∙◌, arith, append_assoc, length-append}
use Rattle.std.specs.List.{AllByRecursion}
use Rattle.std.specs.Option.{option_map}
use Rattle.std.specs.Prelude.{Result}
use Rattle.std.proofs.lemmas.List.{append-nil}
use Rattle.dsn_device.specs.declared.drain.Drain
use Rattle.dsn_device.specs.declared.source.Source
use Rattle.dsn_outcome.specs.Letter.{Letter}
use Rattle.dsn_smtp.specs.declared.hand_in_fault.HandInFault.{HandInFault}
use Rattle.dsn_submission.specs.Submitter.{TellsSettled, concluded, is_settled_by, lost, next_place, same as same_marks, told}
use Rattle.dsn_submission.specs.Waiting.{IsSettledIn, Queue, letter_at, new_letter, next_serial, put_off_letter, serial_in_hand, settled_front, taken}
use Rattle.dsn_submission.specs.declared.deeds.Marks.{Ghosts as MarkPlace}
use Rattle.dsn_submission.specs.declared.verdict.Verdict.{Verdict}
use Rattle.dsn_submission.specs.declared.verdict.Verdict.TheVariants.{Accepted, RefusedForGood, PutOff, ServerAway}
use Rattle.dsn_submission.specs.declared.waiting.Waits.{Waits}
use Rattle.dsn_hand_in.specs.MailLaws.{AreSettledOnce, AreUnsettled, IsSettledOnce, BeginsEmpty, NoneSettles, NoneSubmits}
use Rattle.dsn_hand_in.specs.MailOutlet.{MailDeed, MailOutlet, Course, begins, comes, comes_settled, is_dropped, is_submitted, ends_session}
use Rattle.dsn_hand_in.specs.SitedLetter.{SitedLetter}

-- ---- lists

all_snoc : {X : Type 0} (P : X → Type 0) (xs : List X) (x : X) → AllByRecursion P xs → P x → AllByRecursion P (xs ++ x ∷ [])
all_snoc P [] x all here = (here, tt)
all_snoc P (first ∷ xs) x all here = (all.0, all_snoc P xs x all.1 here)

all_weaker : {X : Type 0} (P Q : X → Type 0) → ((x : X) → P x → Q x) → (xs : List X) → AllByRecursion P xs → AllByRecursion Q xs
all_weaker P Q so [] all = tt
all_weaker P Q so (x ∷ xs) all = (so x all.0, all_weaker P Q so xs all.1)

drop_one_more : {X : Type 0} (n : ℕ) (x : X) (xs : List X) → drop (1 + n) (x ∷ xs) ≡ drop n xs
drop_one_more n x xs = let more : 1 + n ≡ suc n = omega arith in ap (λ (k : ℕ). drop k (x ∷ xs)) more

set_same : {T : Type 0} (states : List (Option (Waits T))) (place : ℕ) (letter : Waits T) → letter_at states (Some place) ≡ Some letter → slice_set states place (Some letter) ≡ states
set_same [] place letter at = cc
set_same (None ∷ states) zero letter at = cc
set_same (Some first ∷ states) zero letter at = ap (λ (l : Option (Waits _)). l ∷ states) (sym at)
set_same (None ∷ states) (suc place) letter at = ap (λ (all : List (Option (Waits _))). None ∷ all) (set_same states place letter at)
set_same (Some first ∷ states) (suc place) letter at = ap (λ (all : List (Option (Waits _))). Some first ∷ all) (set_same states place letter at)

slice_get_behind : {X : Type 0} (front back : List X) (place behind : ℕ) (x : X) → place ≡ length front + behind → slice_get (front ++ back) place ≡ Some x → slice_get back behind ≡ Some x
slice_get_behind [] back place behind x is at = let same : place ≡ behind = omega arith in subst (λ (n : ℕ). slice_get back n ≡ Some x) same at
slice_get_behind (first ∷ front) back zero behind x is at = absurd (omega arith)
slice_get_behind (first ∷ front) back (suc place) behind x is at = let next : place ≡ length front + behind = omega arith in slice_get_behind front back place behind x next at

module _ {S C K M : Type 0} (source : Source.Ghosts S) (drain : Drain.Ghosts S)
    (gives : C → C → Result S HandInFault → Type 0) (keeps : K → List ℕ → List ℕ → List ℕ → Bool → K → Type 0)
    (marks : MarkPlace M) (known : ℕ → Bool) where
  abbrev Deeds : Type 0
  Deeds = List (MailDeed source drain gives keeps marks)

  abbrev Once : Deeds → ℕ → Letter → Type 0
  Once = IsSettledOnce source drain gives keeps marks

  abbrev Unsettled : ℕ → Deeds → Type 0
  Unsettled = NoneSettles source drain gives keeps marks

  -- a letter is settled: it was before, or by a deed
  abbrev Settled : Deeds → ℕ → Letter → Type 0
  Settled deeds serial letter = (known serial ≡ true) ⊎ Once deeds serial letter

  -- ---- one more deed

  once_more : (deeds : Deeds) (deed : MailDeed source drain gives keeps marks) (serial : ℕ) (letter : Letter) → deed.serial ≢ serial → Once deeds serial letter → Once (deeds ++ deed ∷ []) serial letter
  once_more deeds deed serial letter other once = record {
    before = once.before;
    deed = once.deed;
    after = once.after ++ deed ∷ [];
    split = ap (λ (all : Deeds). all ++ deed ∷ []) once.split ∙ append_assoc once.before (once.deed ∷ once.after) (deed ∷ []);
    its_serial = once.its_serial;
    its_letter = once.its_letter;
    settles = once.settles;
    not_earlier = once.not_earlier;
    not_again = all_snoc (λ later. later.serial ≢ serial) once.after deed once.not_again other;
  }

  settled_more : (deeds : Deeds) (deed : MailDeed source drain gives keeps marks) (serial : ℕ) (letter : Letter) → deed.serial ≢ serial → Settled deeds serial letter → Settled (deeds ++ deed ∷ []) serial letter
  settled_more deeds deed serial letter other settled = elim settled [ inl before ↦ inl before | inr once ↦ inr (once_more deeds deed serial letter other once) ]

  unsettled_more : (deeds : Deeds) (deed : MailDeed source drain gives keeps marks) (serial : ℕ) → (deed.serial ≡ serial → is_settled_by deed.verdict ≡ false) → Unsettled serial deeds → Unsettled serial (deeds ++ deed ∷ [])
  unsettled_more deeds deed serial not all = all_snoc (λ one. one.serial ≡ serial → is_settled_by one.verdict ≡ false) deeds deed all not

  -- ---- the letters below the mark

  abbrev AllSettled : Deeds → ℕ → List Letter → Type 0
  AllSettled deeds serial [] = Unit {0}
  AllSettled deeds serial (letter ∷ letters) = Settled deeds serial letter × AllSettled deeds (suc serial) letters

  all_settled_more : (deeds : Deeds) (deed : MailDeed source drain gives keeps marks) (serial : ℕ) (letters : List Letter) → serial + length letters ≤ deed.serial
      → AllSettled deeds serial letters → AllSettled (deeds ++ deed ∷ []) serial letters
  all_settled_more deeds deed serial [] past all = tt
  all_settled_more deeds deed serial (letter ∷ letters) past all =
      let other : deed.serial ≢ serial = λ same. absurd (omega arith) in
      let rest : suc serial + length letters ≤ deed.serial = omega arith in
      (settled_more deeds deed serial letter other all.0, all_settled_more deeds deed (suc serial) letters rest all.1)

  all_settled_snoc : (deeds : Deeds) (serial last : ℕ) (letters : List Letter) (letter : Letter) → last ≡ serial + length letters → AllSettled deeds serial letters → Settled deeds last letter
      → AllSettled deeds serial (letters ++ letter ∷ [])
  all_settled_snoc deeds serial last [] letter is all one =
      let here : last ≡ serial = omega arith in
      (subst (λ (n : ℕ). Settled deeds n letter) here one, tt)
  all_settled_snoc deeds serial last (first ∷ letters) letter is all one =
      let next : last ≡ suc serial + length letters = omega arith in
      (all.0, all_settled_snoc deeds (suc serial) last letters letter next all.1 one)

  pub settled_at_place : (deeds : Deeds) (serial place : ℕ) (letters more : List Letter) (letter : Letter) → AllSettled deeds serial letters
      → slice_get (letters ++ more) place ≡ Some letter → place < length letters → Settled deeds (serial + place) letter
  settled_at_place deeds serial place [] more letter all at within = absurd (omega arith)
  settled_at_place deeds serial zero (first ∷ letters) more letter all at within =
      let here : serial + 0 ≡ serial = omega arith in
      let same : first ≡ letter = cc in
      subst (λ (n : ℕ). Settled deeds n letter) (sym here) (subst (λ (l : Letter). Settled deeds serial l) same all.0)
  settled_at_place deeds serial (suc place) (first ∷ letters) more letter all at within =
      let here : serial + suc place ≡ suc serial + place = omega arith in
      let fits : place < length letters = omega arith in
      subst (λ (n : ℕ). Settled deeds n letter) (sym here) (settled_at_place deeds (suc serial) place letters more letter all.1 at fits)

  -- ---- the letters from the mark on

  -- the states of these letters, whose serials begin with this one: one that is settled was settled before, or by a deed
  -- of its own, and one that waits neither
  abbrev AreStates : Deeds → ℕ → List Letter → List (Option (Waits SitedLetter)) → Type 0
  AreStates deeds serial [] [] = Unit {0}
  AreStates deeds serial [] (state ∷ states) = ⊥
  AreStates deeds serial (letter ∷ letters) [] = ⊥
  AreStates deeds serial (letter ∷ letters) (None ∷ states) = Settled deeds serial letter × AreStates deeds (suc serial) letters states
  AreStates deeds serial (letter ∷ letters) (Some waits ∷ states) =
      ((waits.item.letter ≡ letter) × Unsettled serial deeds × (known serial ≡ false)) × AreStates deeds (suc serial) letters states

  states_push : (deeds : Deeds) (serial last now : ℕ) (letters : List Letter) (states : List (Option (Waits SitedLetter))) (item : SitedLetter)
      → last ≡ serial + length letters → Unsettled last deeds → known last ≡ false → AreStates deeds serial letters states
      → AreStates deeds serial (letters ++ item.letter ∷ []) (states ++ Some (new_letter item now) ∷ [])
  states_push deeds serial last now [] [] item is none new all =
      let here : last ≡ serial = omega arith in
      ((refl, subst (λ (n : ℕ). Unsettled n deeds) here none, subst (λ (n : ℕ). known n ≡ false) here new), tt)
  states_push deeds serial last now [] (state ∷ states) item is none new all = absurd all
  states_push deeds serial last now (letter ∷ letters) [] item is none new all = absurd all
  states_push deeds serial last now (letter ∷ letters) (None ∷ states) item is none new all =
      let next : last ≡ suc serial + length letters = omega arith in
      (all.0, states_push deeds (suc serial) last now letters states item next none new all.1)
  states_push deeds serial last now (letter ∷ letters) (Some waits ∷ states) item is none new all =
      let next : last ≡ suc serial + length letters = omega arith in
      (all.0, states_push deeds (suc serial) last now letters states item next none new all.1)

  -- a letter comes that was settled before
  states_come : (deeds : Deeds) (serial last : ℕ) (letters : List Letter) (states : List (Option (Waits SitedLetter))) (letter : Letter)
      → last ≡ serial + length letters → known last ≡ true → AreStates deeds serial letters states
      → AreStates deeds serial (letters ++ letter ∷ []) (states ++ None ∷ [])
  states_come deeds serial last [] [] letter is old all =
      let here : last ≡ serial = omega arith in
      (inl (subst (λ (n : ℕ). known n ≡ true) here old), tt)
  states_come deeds serial last [] (state ∷ states) letter is old all = absurd all
  states_come deeds serial last (first ∷ letters) [] letter is old all = absurd all
  states_come deeds serial last (first ∷ letters) (None ∷ states) letter is old all =
      let next : last ≡ suc serial + length letters = omega arith in
      (all.0, states_come deeds (suc serial) last letters states letter next old all.1)
  states_come deeds serial last (first ∷ letters) (Some waits ∷ states) letter is old all =
      let next : last ≡ suc serial + length letters = omega arith in
      (all.0, states_come deeds (suc serial) last letters states letter next old all.1)

  -- a deed on an earlier letter changes nothing
  states_later : (deeds : Deeds) (deed : MailDeed source drain gives keeps marks) (serial : ℕ) (letters : List Letter) (states : List (Option (Waits SitedLetter)))
      → deed.serial < serial → AreStates deeds serial letters states → AreStates (deeds ++ deed ∷ []) serial letters states
  states_later deeds deed serial [] [] past all = tt
  states_later deeds deed serial [] (state ∷ states) past all = absurd all
  states_later deeds deed serial (letter ∷ letters) [] past all = absurd all
  states_later deeds deed serial (letter ∷ letters) (None ∷ states) past all =
      let other : deed.serial ≢ serial = λ same. absurd (omega arith) in
      let rest : deed.serial < suc serial = omega arith in
      (settled_more deeds deed serial letter other all.0, states_later deeds deed (suc serial) letters states rest all.1)
  states_later deeds deed serial (letter ∷ letters) (Some waits ∷ states) past all =
      let rest : deed.serial < suc serial = omega arith in
      ((all.0.0, unsettled_more deeds deed serial (λ same. absurd (omega arith)) all.0.1, all.0.2), states_later deeds deed (suc serial) letters states rest all.1)

  -- the state of a letter after a deed on it
  abbrev IsState : MailDeed source drain gives keeps marks → Option (Waits SitedLetter) → Type 0
  IsState deed None = is_settled_by deed.verdict ≡ true
  IsState deed (Some waits) = (waits.item ≡ deed.letter.item) × (is_settled_by deed.verdict ≡ false)

  state_now : (deeds : Deeds) (deed : MailDeed source drain gives keeps marks) (serial : ℕ) (letter : Letter) (letters : List Letter) (states : List (Option (Waits SitedLetter))) (state : Option (Waits SitedLetter))
      → deed.serial ≡ serial → deed.letter.item.letter ≡ letter → Unsettled serial deeds → known serial ≡ false → IsState deed state → AreStates (deeds ++ deed ∷ []) (suc serial) letters states
      → AreStates (deeds ++ deed ∷ []) serial (letter ∷ letters) (state ∷ states)
  state_now deeds deed serial letter letters states None here its none new is rest =
      (inr (record { before = deeds; deed = deed; after = []; split = refl; its_serial = here; its_letter = its; settles = is; not_earlier = none; not_again = tt }), rest)
  state_now deeds deed serial letter letters states (Some waits) here its none new is rest =
      ((ap (λ (i : SitedLetter). i.letter) is.0 ∙ its, unsettled_more deeds deed serial (λ same. is.1) none, new), rest)

  states_deed : (deeds : Deeds) (deed : MailDeed source drain gives keeps marks) (serial place : ℕ) (letters : List Letter) (states : List (Option (Waits SitedLetter))) (state : Option (Waits SitedLetter))
      → deed.serial ≡ serial + place → letter_at states (Some place) ≡ Some deed.letter → IsState deed state
      → AreStates deeds serial letters states → AreStates (deeds ++ deed ∷ []) serial letters (slice_set states place state)
  states_deed deeds deed serial place [] [] state is at so all = cc
  states_deed deeds deed serial place [] (other ∷ states) state is at so all = absurd all
  states_deed deeds deed serial place (letter ∷ letters) [] state is at so all = absurd all
  states_deed deeds deed serial zero (letter ∷ letters) (None ∷ states) state is at so all = cc
  states_deed deeds deed serial zero (letter ∷ letters) (Some waits ∷ states) state is at so all =
      let here : deed.serial ≡ serial = omega arith in
      let past : deed.serial < suc serial = omega arith in
      let same : waits ≡ deed.letter = cc in
      let its : deed.letter.item.letter ≡ letter = ap (λ (w : Waits SitedLetter). w.item.letter) (sym same) ∙ all.0.0 in
      state_now deeds deed serial letter letters states state here its all.0.1 all.0.2 so (states_later deeds deed (suc serial) letters states past all.1)
  states_deed deeds deed serial (suc place) (letter ∷ letters) (None ∷ states) state is at so all =
      let other : deed.serial ≢ serial = λ same. absurd (omega arith) in
      let next : deed.serial ≡ suc serial + place = omega arith in
      (settled_more deeds deed serial letter other all.0, states_deed deeds deed (suc serial) place letters states state next at so all.1)
  states_deed deeds deed serial (suc place) (letter ∷ letters) (Some waits ∷ states) state is at so all =
      let next : deed.serial ≡ suc serial + place = omega arith in
      ((all.0.0, unsettled_more deeds deed serial (λ same. absurd (omega arith)) all.0.1, all.0.2), states_deed deeds deed (suc serial) place letters states state next at so all.1)

  -- a letter that waits has a place among them
  states_within : (deeds : Deeds) (serial place : ℕ) (letters : List Letter) (states : List (Option (Waits SitedLetter))) (letter : Waits SitedLetter)
      → letter_at states (Some place) ≡ Some letter → AreStates deeds serial letters states → place < length letters
  states_within deeds serial place [] [] letter at all = cc
  states_within deeds serial place [] (state ∷ states) letter at all = absurd all
  states_within deeds serial place (first ∷ letters) [] letter at all = absurd all
  states_within deeds serial zero (first ∷ letters) (state ∷ states) letter at all = omega arith
  states_within deeds serial (suc place) (first ∷ letters) (None ∷ states) letter at all =
      let rest = states_within deeds (suc serial) place letters states letter at all.1 in omega arith
  states_within deeds serial (suc place) (first ∷ letters) (Some waits ∷ states) letter at all =
      let rest = states_within deeds (suc serial) place letters states letter at all.1 in omega arith

  -- each of these letters has a state
  states_long : (deeds : Deeds) (serial : ℕ) (letters : List Letter) (states : List (Option (Waits SitedLetter))) → AreStates deeds serial letters states → length states ≡ length letters
  states_long deeds serial [] [] all = refl
  states_long deeds serial [] (state ∷ states) all = absurd all
  states_long deeds serial (letter ∷ letters) [] all = absurd all
  states_long deeds serial (letter ∷ letters) (None ∷ states) all = ap suc (states_long deeds (suc serial) letters states all.1)
  states_long deeds serial (letter ∷ letters) (Some waits ∷ states) all = ap suc (states_long deeds (suc serial) letters states all.1)

  pub unsettled_at_place : (deeds : Deeds) (serial place : ℕ) (letters : List Letter) (states : List (Option (Waits SitedLetter))) (letter : Waits SitedLetter)
      → slice_get states place ≡ Some (Some letter) → AreStates deeds serial letters states → Unsettled (serial + place) deeds
  unsettled_at_place deeds serial place [] [] letter at all = cc
  unsettled_at_place deeds serial place [] (state ∷ states) letter at all = absurd all
  unsettled_at_place deeds serial place (first ∷ letters) [] letter at all = absurd all
  unsettled_at_place deeds serial zero (first ∷ letters) (None ∷ states) letter at all = cc
  unsettled_at_place deeds serial zero (first ∷ letters) (Some waits ∷ states) letter at all =
      let here : serial + 0 ≡ serial = omega arith in subst (λ (n : ℕ). Unsettled n deeds) (sym here) all.0.1
  unsettled_at_place deeds serial (suc place) (first ∷ letters) (None ∷ states) letter at all =
      let here : serial + suc place ≡ suc serial + place = omega arith in
      subst (λ (n : ℕ). Unsettled n deeds) (sym here) (unsettled_at_place deeds (suc serial) place letters states letter at all.1)
  unsettled_at_place deeds serial (suc place) (first ∷ letters) (Some waits ∷ states) letter at all =
      let here : serial + suc place ≡ suc serial + place = omega arith in
      subst (λ (n : ℕ). Unsettled n deeds) (sym here) (unsettled_at_place deeds (suc serial) place letters states letter at all.1)

  -- a letter that waits wasn't settled before
  unknown_at_place : (deeds : Deeds) (serial place : ℕ) (letters : List Letter) (states : List (Option (Waits SitedLetter))) (letter : Waits SitedLetter)
      → letter_at states (Some place) ≡ Some letter → AreStates deeds serial letters states → known (serial + place) ≡ false
  unknown_at_place deeds serial place [] [] letter at all = cc
  unknown_at_place deeds serial place [] (state ∷ states) letter at all = absurd all
  unknown_at_place deeds serial place (first ∷ letters) [] letter at all = absurd all
  unknown_at_place deeds serial zero (first ∷ letters) (None ∷ states) letter at all = cc
  unknown_at_place deeds serial zero (first ∷ letters) (Some waits ∷ states) letter at all =
      let here : serial + 0 ≡ serial = omega arith in subst (λ (n : ℕ). known n ≡ false) (sym here) all.0.2
  unknown_at_place deeds serial (suc place) (first ∷ letters) (None ∷ states) letter at all =
      let here : serial + suc place ≡ suc serial + place = omega arith in
      subst (λ (n : ℕ). known n ≡ false) (sym here) (unknown_at_place deeds (suc serial) place letters states letter at all.1)
  unknown_at_place deeds serial (suc place) (first ∷ letters) (Some waits ∷ states) letter at all =
      let here : serial + suc place ≡ suc serial + place = omega arith in
      subst (λ (n : ℕ). known n ≡ false) (sym here) (unknown_at_place deeds (suc serial) place letters states letter at all.1)

  -- a letter of which nothing is held is settled
  none_at_place : (deeds : Deeds) (serial place : ℕ) (letters more : List Letter) (states : List (Option (Waits SitedLetter))) (letter : Letter)
      → slice_get states place ≡ Some None → slice_get (letters ++ more) place ≡ Some letter → AreStates deeds serial letters states → Settled deeds (serial + place) letter
  none_at_place deeds serial place [] more [] letter none at all = cc
  none_at_place deeds serial place [] more (state ∷ states) letter none at all = absurd all
  none_at_place deeds serial place (first ∷ letters) more [] letter none at all = absurd all
  none_at_place deeds serial zero (first ∷ letters) more (None ∷ states) letter none at all =
      let here : serial + 0 ≡ serial = omega arith in
      let same : first ≡ letter = cc in
      subst (λ (n : ℕ). Settled deeds n letter) (sym here) (subst (λ (l : Letter). Settled deeds serial l) same all.0)
  none_at_place deeds serial zero (first ∷ letters) more (Some waits ∷ states) letter none at all = cc
  none_at_place deeds serial (suc place) (first ∷ letters) more (None ∷ states) letter none at all =
      let here : serial + suc place ≡ suc serial + place = omega arith in
      subst (λ (n : ℕ). Settled deeds n letter) (sym here) (none_at_place deeds (suc serial) place letters more states letter none at all.1)
  none_at_place deeds serial (suc place) (first ∷ letters) more (Some waits ∷ states) letter none at all =
      let here : serial + suc place ≡ suc serial + place = omega arith in
      subst (λ (n : ℕ). Settled deeds n letter) (sym here) (none_at_place deeds (suc serial) place letters more states letter none at all.1)

  -- ---- the mark

  -- the kept letters: those below the mark, all settled, and those from the mark on
  pub record Stand (start : ℕ) (kept : List Letter) (deeds : Deeds) (mark : ℕ) (states : List (Option (Waits SitedLetter))) : Type 0 where
    pub gone : List Letter
    pub held : List Letter
    pub split : kept ≡ gone ++ held
    pub mark_is : mark ≡ start + length gone
    pub settled : AllSettled deeds start gone
    pub from_mark : AreStates deeds mark held states

  -- the mark rises past a letter that is settled
  stand_one : (start : ℕ) (kept : List Letter) (deeds : Deeds) (mark : ℕ) (states : List (Option (Waits SitedLetter))) (gone held : List Letter)
      → kept ≡ gone ++ held → mark ≡ start + length gone → AllSettled deeds start gone → AreStates deeds mark held (None ∷ states) → Stand start kept deeds (suc mark) states
  stand_one start kept deeds mark states gone [] split is settled all = absurd all
  stand_one start kept deeds mark states gone (letter ∷ held) split is settled all =
      let long = length-append gone (letter ∷ []) in record {
        gone = gone ++ letter ∷ [];
        held = held;
        split = split ∙ sym (append_assoc gone (letter ∷ []) held);
        mark_is = omega arith;
        settled = all_settled_snoc deeds start mark gone letter is settled all.0;
        from_mark = all.1;
      }

  stand_marked : (start : ℕ) (kept : List Letter) (deeds : Deeds) (mark : ℕ) (states : List (Option (Waits SitedLetter)))
      → Stand start kept deeds mark states → Stand start kept deeds (mark + settled_front states) (drop (settled_front states) states)
  stand_marked start kept deeds mark [] stand = let same : mark + 0 ≡ mark = omega arith in subst (λ (m : ℕ). Stand start kept deeds m []) (sym same) stand
  stand_marked start kept deeds mark (Some waits ∷ states) stand = let same : mark + 0 ≡ mark = omega arith in subst (λ (m : ℕ). Stand start kept deeds m (Some waits ∷ states)) (sym same) stand
  stand_marked start kept deeds mark (None ∷ states) stand =
      let same : mark + (1 + settled_front states) ≡ suc mark + settled_front states = omega arith in
      let rest = stand_marked start kept deeds (suc mark) states (stand_one start kept deeds mark states stand.gone stand.held stand.split stand.mark_is stand.settled stand.from_mark) in
      subst (λ (m : ℕ). Stand start kept deeds m (drop (1 + settled_front states) (None ∷ states))) (sym same)
      (subst (λ (left : List (Option (Waits SitedLetter))). Stand start kept deeds (suc mark + settled_front states) left) (sym (drop_one_more (settled_front states) None states)) rest)

  -- ---- a deed

  stand_deed : (start : ℕ) (kept : List Letter) (deeds : Deeds) (deed : MailDeed source drain gives keeps marks) (mark place : ℕ) (states : List (Option (Waits SitedLetter))) (state : Option (Waits SitedLetter))
      → deed.serial ≡ mark + place → letter_at states (Some place) ≡ Some deed.letter → IsState deed state
      → Stand start kept deeds mark states → Stand start kept (deeds ++ deed ∷ []) mark (slice_set states place state)
  stand_deed start kept deeds deed mark place states state is at so stand = record {
    gone = stand.gone;
    held = stand.held;
    split = stand.split;
    mark_is = stand.mark_is;
    settled = all_settled_more deeds deed start stand.gone (omega (arith, stand.mark_is)) stand.settled;
    from_mark = states_deed deeds deed mark place stand.held states state is at so stand.from_mark;
  }

  stand_concluded : (start : ℕ) (kept : List Letter) (deeds : Deeds) (deed : MailDeed source drain gives keeps marks) (queue : Queue SitedLetter) (place now : ℕ) (verdict : Verdict)
      → deed.verdict ≡ verdict → deed.serial ≡ queue.mark + place → letter_at queue.letters (Some place) ≡ Some deed.letter
      → Stand start kept deeds queue.mark queue.letters
      → (new : Queue SitedLetter) → new ≡ concluded (taken queue (Some place)) now verdict → Stand start kept (deeds ++ deed ∷ []) new.mark new.letters
  stand_concluded start kept deeds deed queue place now Accepted by is at stand new concludes =
      subst (λ (q : Queue SitedLetter). Stand start kept (deeds ++ deed ∷ []) q.mark q.letters) (sym concludes)
      (stand_marked start kept (deeds ++ deed ∷ []) queue.mark (slice_set queue.letters place None)
      (stand_deed start kept deeds deed queue.mark place queue.letters None is at (ap is_settled_by by) stand))
  stand_concluded start kept deeds deed queue place now RefusedForGood by is at stand new concludes =
      subst (λ (q : Queue SitedLetter). Stand start kept (deeds ++ deed ∷ []) q.mark q.letters) (sym concludes)
      (stand_marked start kept (deeds ++ deed ∷ []) queue.mark (slice_set queue.letters place None)
      (stand_deed start kept deeds deed queue.mark place queue.letters None is at (ap is_settled_by by) stand))
  stand_concluded start kept deeds deed queue place now PutOff by is at stand new concludes =
      subst (λ (q : Queue SitedLetter). Stand start kept (deeds ++ deed ∷ []) q.mark q.letters) (sym concludes)
      (subst (λ (state : Option (Waits SitedLetter)). Stand start kept (deeds ++ deed ∷ []) queue.mark (slice_set queue.letters place state)) (sym (ap (option_map (put_off_letter now)) at))
      (stand_deed start kept deeds deed queue.mark place queue.letters (Some (put_off_letter now deed.letter)) is at (refl, ap is_settled_by by) stand))
  stand_concluded start kept deeds deed queue place now ServerAway by is at stand new concludes =
      subst (λ (q : Queue SitedLetter). Stand start kept (deeds ++ deed ∷ []) q.mark q.letters) (sym concludes)
      (subst (λ (states : List (Option (Waits SitedLetter))). Stand start kept (deeds ++ deed ∷ []) queue.mark states) (set_same queue.letters place deed.letter at)
      (stand_deed start kept deeds deed queue.mark place queue.letters (Some deed.letter) is at (refl, ap is_settled_by by) stand))

  -- ---- a course

  pub record Stands (start : ℕ) (now : MailOutlet S C K M) (letters : List Letter) (deeds : Deeds) : Type 0 where
    pub kept : List Letter
    pub dropped : List Letter
    pub split : letters ≡ kept ++ dropped
    pub all_kept : now.short ≡ false → dropped ≡ []
    pub stand : Stand start kept deeds now.parts.submitter.waiting.mark now.parts.submitter.waiting.letters
    pub earlier : AllByRecursion (λ deed. deed.serial < start + length kept) deeds
    pub unknown : AllByRecursion (λ deed. known deed.serial ≡ false) deeds
    pub untouched : (other : ℕ) → NoneSubmits source drain gives keeps marks other deeds → marks.has_settled now.parts.marks other ≡ known other

  all_split : {X : Type 0} (P : X → Type 0) (xs : List X) (x : X) → AllByRecursion P (xs ++ x ∷ []) → AllByRecursion P xs × P x
  all_split P [] x all = (tt, all.0)
  all_split P (first ∷ xs) x all = let rest = all_split P xs x all.1 in ((all.0, rest.0), rest.1)

  -- a deed leaves what is kept of other letters
  told_others : (old new : M) (its : Option ℕ) (verdict : Verdict) (stopped : Bool) (serial other : ℕ) → Some serial ≡ its → serial ≢ other
      → TellsSettled marks.settles old new its verdict stopped → marks.has_settled new other ≡ marks.has_settled old other
  told_others old new its verdict stopped serial other is ne (same_marks by not stays) = ap (λ (m : M). marks.has_settled m other) stays
  told_others old new its verdict stopped serial other is ne (told by it settles its_is tells) =
      let same : serial ≡ it = cc (is, its_is) in marks.keeps_others old it true new other tells (λ eq. ne (same ∙ sym eq))
  told_others old new its verdict stopped serial other is ne (lost by it settles its_is tells) =
      let same : serial ≡ it = cc (is, its_is) in marks.keeps_others old it false new other tells (λ eq. ne (same ∙ sym eq))

  deed_keeps_others : (deed : MailDeed source drain gives keeps marks) (other : ℕ) → deed.serial ≢ other → marks.has_settled deed.new.marks other ≡ marks.has_settled deed.old.marks other
  deed_keeps_others deed other ne =
      told_others deed.old.marks deed.new.marks _ deed.verdict deed.new.submitter.stopped deed.serial other deed.its_serial ne deed.handled.settled_is

  stands_taken : (start : ℕ) (old : MailOutlet S C K M) (letters : List Letter) (deeds : Deeds) (deed : MailDeed source drain gives keeps marks) (place : Option ℕ)
      → deed.old ≡ old.parts → next_place deed.old.submitter deed.now ≡ place → Stands start old letters deeds → Stands start (record old { parts = deed.new }) letters (deeds ++ deed ∷ [])
  stands_taken start old letters deeds deed None same next stands =
      let at : letter_at deed.old.submitter.waiting.letters None ≡ Some deed.letter = subst (λ (p : Option ℕ). letter_at deed.old.submitter.waiting.letters p ≡ Some deed.letter) next deed.is_next in cc
  stands_taken start old letters deeds deed (Some place) same next stands =
      let queue = deed.old.submitter.waiting in
      let waiting : queue ≡ old.parts.submitter.waiting = ap (λ (p : _). p.submitter.waiting) same in
      let at : letter_at queue.letters (Some place) ≡ Some deed.letter = subst (λ (p : Option ℕ). letter_at queue.letters p ≡ Some deed.letter) next deed.is_next in
      let serial : Some deed.serial ≡ Some (queue.mark + place) = subst (λ (p : Option ℕ). Some deed.serial ≡ serial_in_hand (taken queue p)) next deed.its_serial in
      let is : deed.serial ≡ queue.mark + place = cc in
      let concludes : deed.new.submitter.waiting ≡ concluded (taken queue (Some place)) deed.now deed.verdict = subst (λ (p : Option ℕ). deed.new.submitter.waiting ≡ concluded (taken queue p) deed.now deed.verdict) next deed.handled.concluded_is in
      let stand : Stand start stands.kept deeds queue.mark queue.letters = subst (λ (q : Queue SitedLetter). Stand start stands.kept deeds q.mark q.letters) (sym waiting) stands.stand in
      let within : place < length stand.held = states_within deeds queue.mark place stand.held queue.letters deed.letter at stand.from_mark in
      let long : length stands.kept ≡ length stand.gone + length stand.held = ap length stand.split ∙ length-append stand.gone stand.held in
      let small : deed.serial < start + length stands.kept = omega (arith, stand.mark_is) in
      record {
        kept = stands.kept;
        dropped = stands.dropped;
        split = stands.split;
        all_kept = stands.all_kept;
        stand = stand_concluded start stands.kept deeds deed queue place deed.now deed.verdict refl is at stand deed.new.submitter.waiting concludes;
        earlier = all_snoc (λ one. one.serial < start + length stands.kept) deeds deed stands.earlier small;
        unknown =
            all_snoc (λ one. known one.serial ≡ false) deeds deed stands.unknown
            (subst (λ (n : ℕ). known n ≡ false) (sym is) (unknown_at_place deeds queue.mark place stand.held queue.letters deed.letter at stand.from_mark));
        untouched = λ other none.
            let both = all_split (λ one. one.serial ≢ other) deeds deed none in
            deed_keeps_others deed other both.1 ∙ ap (λ (p : _). marks.has_settled p.marks other) same ∙ stands.untouched other both.0;
      }

  module _ (mark : ℕ) (start : MailOutlet S C K M) (unused : BeginsEmpty mark start)
      (is_known : (serial : ℕ) → marks.has_settled start.parts.marks serial ≡ known serial) where
    pub course_stands : (letters : List Letter) (deeds : Deeds) (now : MailOutlet S C K M)
        → Course source drain gives keeps marks start letters deeds now → Stands mark now letters deeds
    course_stands letters deeds now begins = record {
      kept = [];
      dropped = [];
      split = refl;
      all_kept = λ enough. refl;
      stand =
          subst (λ (q : Queue SitedLetter). Stand mark [] [] q.mark q.letters) (sym unused.none_waits)
          (record { gone = []; held = []; split = refl; mark_is = omega arith; settled = tt; from_mark = tt });
      earlier = tt;
      unknown = tt;
      untouched = λ other none. is_known other;
    }
    course_stands letters deeds now (comes ls ds old letter moment course enough next) =
        let so_far = course_stands ls ds old course in
        let stand = so_far.stand in
        let none = so_far.all_kept enough in
        let more : length (so_far.kept ++ letter ∷ []) ≡ length so_far.kept + 1 = length-append so_far.kept (letter ∷ []) in
        let long : length so_far.kept ≡ length stand.gone + length stand.held = ap length stand.split ∙ length-append stand.gone stand.held in
        let last : ℕ = mark + length so_far.kept in
        let its : last ≡ old.parts.submitter.waiting.mark + length stand.held = omega (arith, stand.mark_is) in
        let unsettled : Unsettled last ds = all_weaker (λ one. one.serial < last) (λ one. one.serial ≡ last → is_settled_by one.verdict ≡ false) (λ one less same. absurd (omega arith)) ds so_far.earlier in
        let at : next_serial old.parts.submitter.waiting ≡ last = omega (arith, its, states_long ds old.parts.submitter.waiting.mark stand.held old.parts.submitter.waiting.letters stand.from_mark) in
        let others : NoneSubmits source drain gives keeps marks last ds = all_weaker (λ one. one.serial < last) (λ one. one.serial ≢ last) (λ one less same. absurd (omega arith)) ds so_far.earlier in
        let new : known last ≡ false = sym (so_far.untouched last others) ∙ ap (marks.has_settled old.parts.marks) (sym at) ∙ next in record {
          kept = so_far.kept ++ letter ∷ [];
          dropped = [];
          split = ap (λ (all : List Letter). all ++ letter ∷ []) (so_far.split ∙ (ap (λ (d : List Letter). so_far.kept ++ d) none ∙ append-nil so_far.kept)) ∙ sym (append-nil (so_far.kept ++ letter ∷ []));
          all_kept = λ still. refl;
          stand = record {
            gone = stand.gone;
            held = stand.held ++ letter ∷ [];
            split = ap (λ (all : List Letter). all ++ letter ∷ []) stand.split ∙ append_assoc stand.gone stand.held (letter ∷ []);
            mark_is = stand.mark_is;
            settled = stand.settled;
            from_mark = states_push ds old.parts.submitter.waiting.mark last moment stand.held old.parts.submitter.waiting.letters (record { site = old.site; letter = letter }) its unsettled new stand.from_mark;
          };
          earlier = all_weaker (λ one. one.serial < mark + length so_far.kept) (λ one. one.serial < mark + length (so_far.kept ++ letter ∷ [])) (λ one less. omega arith) ds so_far.earlier;
          unknown = so_far.unknown;
          untouched = so_far.untouched;
        }
    course_stands letters deeds now (comes_settled ls ds old letter course enough next) =
        let so_far = course_stands ls ds old course in
        let stand = so_far.stand in
        let none = so_far.all_kept enough in
        let more : length (so_far.kept ++ letter ∷ []) ≡ length so_far.kept + 1 = length-append so_far.kept (letter ∷ []) in
        let long : length so_far.kept ≡ length stand.gone + length stand.held = ap length stand.split ∙ length-append stand.gone stand.held in
        let last : ℕ = mark + length so_far.kept in
        let queue = old.parts.submitter.waiting in
        let its : last ≡ queue.mark + length stand.held = omega (arith, stand.mark_is) in
        let at : next_serial queue ≡ last = omega (arith, its, states_long ds queue.mark stand.held queue.letters stand.from_mark) in
        let others : NoneSubmits source drain gives keeps marks last ds = all_weaker (λ one. one.serial < last) (λ one. one.serial ≢ last) (λ one less same. absurd (omega arith)) ds so_far.earlier in
        let before : known last ≡ true = sym (so_far.untouched last others) ∙ ap (marks.has_settled old.parts.marks) (sym at) ∙ next in record {
          kept = so_far.kept ++ letter ∷ [];
          dropped = [];
          split = ap (λ (all : List Letter). all ++ letter ∷ []) (so_far.split ∙ (ap (λ (d : List Letter). so_far.kept ++ d) none ∙ append-nil so_far.kept)) ∙ sym (append-nil (so_far.kept ++ letter ∷ []));
          all_kept = λ still. refl;
          stand =
              stand_marked mark (so_far.kept ++ letter ∷ []) ds queue.mark (queue.letters ++ None ∷ [])
              (record {
                gone = stand.gone;
                held = stand.held ++ letter ∷ [];
                split = ap (λ (all : List Letter). all ++ letter ∷ []) stand.split ∙ append_assoc stand.gone stand.held (letter ∷ []);
                mark_is = stand.mark_is;
                settled = stand.settled;
                from_mark = states_come ds queue.mark last stand.held queue.letters letter its before stand.from_mark;
              });
          earlier = all_weaker (λ one. one.serial < mark + length so_far.kept) (λ one. one.serial < mark + length (so_far.kept ++ letter ∷ [])) (λ one less. omega arith) ds so_far.earlier;
          unknown = so_far.unknown;
          untouched = so_far.untouched;
        }
    course_stands letters deeds now (is_dropped ls ds old letter course) =
        let so_far = course_stands ls ds old course in record {
          kept = so_far.kept;
          dropped = so_far.dropped ++ letter ∷ [];
          split = ap (λ (all : List Letter). all ++ letter ∷ []) so_far.split ∙ append_assoc so_far.kept so_far.dropped (letter ∷ []);
          all_kept = λ enough. cc;
          stand = so_far.stand;
          earlier = so_far.earlier;
          unknown = so_far.unknown;
          untouched = so_far.untouched;
        }
    course_stands letters deeds now (is_submitted ls ds old deed course same) =
        stands_taken mark old ls ds deed (next_place deed.old.submitter deed.now) same refl (course_stands ls ds old course)
    course_stands letters deeds now (ends_session ls ds old course) =
        let so_far = course_stands ls ds old course in record {
          kept = so_far.kept;
          dropped = so_far.dropped;
          split = so_far.split;
          all_kept = so_far.all_kept;
          stand = so_far.stand;
          earlier = so_far.earlier;
          unknown = so_far.unknown;
          untouched = so_far.untouched;
        }

    pub settled_once : (letters : List Letter) (deeds : Deeds) (now : MailOutlet S C K M)
        → Course source drain gives keeps marks start letters deeds now → (place : ℕ) (letter : Letter) → slice_get letters place ≡ Some letter
        → IsSettledIn now.parts.submitter.waiting (mark + place) → Settled deeds (mark + place) letter
    settled_once letters deeds now course place letter at is =
        let all = course_stands letters deeds now course in
        let stand = all.stand in
        let joined : letters ≡ stand.gone ++ (stand.held ++ all.dropped) = all.split ∙ (ap (λ (k : List Letter). k ++ all.dropped) stand.split ∙ append_assoc stand.gone stand.held all.dropped) in
        let here : slice_get (stand.gone ++ (stand.held ++ all.dropped)) place ≡ Some letter = subst (λ (ls : List Letter). slice_get ls place ≡ Some letter) joined at in
        elim is [
          | inl below ↦ settled_at_place deeds mark place stand.gone (stand.held ++ all.dropped) letter stand.settled here (omega (arith, stand.mark_is, below))
          | inr held ↦
              let back : ℕ = mark + place - now.parts.submitter.waiting.mark in
              let behind : place ≡ length stand.gone + back = omega (arith, stand.mark_is, held.0) in
              let serial : now.parts.submitter.waiting.mark + back ≡ mark + place = omega (arith, held.0) in
              let there : slice_get (stand.held ++ all.dropped) back ≡ Some letter = slice_get_behind stand.gone (stand.held ++ all.dropped) place back letter behind here in
              subst (λ (n : ℕ). Settled deeds n letter) serial
              (none_at_place deeds now.parts.submitter.waiting.mark back stand.held all.dropped now.parts.submitter.waiting.letters letter held.1 there stand.from_mark)
        ]

    pub unsettled : (letters : List Letter) (deeds : Deeds) (now : MailOutlet S C K M)
        → Course source drain gives keeps marks start letters deeds now → AreUnsettled source drain gives keeps marks start now deeds
    unsettled letters deeds now course =
        let all = course_stands letters deeds now course in record {
          waiting = λ place letter at.
              unsettled_at_place deeds now.parts.submitter.waiting.mark place all.stand.held now.parts.submitter.waiting.letters letter at all.stand.from_mark;
          known = λ serial before.
              all_weaker (λ deed. known deed.serial ≡ false) (λ deed. deed.serial ≢ serial)
              (λ deed unknown same. absurd (cc (sym (is_known serial) ∙ before, ap known same, unknown))) deeds all.unknown;
        }
