-- Which letters of a queue are settled, before and after each change.
use Rattle.std.proofs.Common.{◌≡◌, ◌≢◌, ◌⊎◌, inl, inr, ℕ, zero, suc, ◌+◌, ◌-◌, ◌<◌, ◌≤◌, List, [], ◌∷◌, ◌++◌, length, drop, Option, Some, None, slice_get, slice_set, refl, sym, ap, subst, ◌∙◌, arith}
use Rattle.std.specs.Option.{option_map}
use Rattle.std.proofs.lemmas.Bool.{cases_eq, cases_lt}
use Rattle.dsn_submission.specs.Submitter.{concluded, is_settled_by}
use Rattle.dsn_submission.specs.Waiting.{IsSettledIn, Queue, letter_at, new_letter, next_serial, pushed, pushed_settled, put_off_at, settled_at, settled_front, taken}
use Rattle.dsn_submission.specs.declared.verdict.Verdict.{Verdict}
use Rattle.dsn_submission.specs.declared.verdict.Verdict.TheVariants.{Accepted, RefusedForGood, PutOff, ServerAway}
use Rattle.dsn_submission.specs.declared.waiting.Waits.{Waits}
use Rattle.std.proofs.Common.{true, false}

module _ {T : Type 0} where
  -- the letter with a serial is settled among these, of which the first has the serial `mark`
  abbrev SettledAt : ℕ → List (Option (Waits T)) → ℕ → Type 0
  SettledAt mark letters serial = (serial < mark) ⊎ ((mark ≤ serial) × (slice_get letters (serial - mark) ≡ Some None))

  -- ---- the mark rises

  past_one : (mark : ℕ) (letters : List (Option (Waits T))) (serial : ℕ) → SettledAt mark (None ∷ letters) serial → SettledAt (suc mark) letters serial
  past_one mark letters serial (inl below) = inl (omega arith)
  past_one mark letters serial (inr held) = elim (cases_eq serial mark) [
    | inl same ↦ inl (omega arith)
    | inr other ↦
        let more : serial - mark ≡ suc (serial - suc mark) = omega (arith, other, held.0) in
        inr (omega (arith, other, held.0), subst (λ (k : ℕ). slice_get (None ∷ letters) k ≡ Some None) more held.1)
  ]

  back_one : (mark : ℕ) (letters : List (Option (Waits T))) (serial : ℕ) → SettledAt (suc mark) letters serial → SettledAt mark (None ∷ letters) serial
  back_one mark letters serial (inl below) = elim (cases_eq serial mark) [
    | inl same ↦ let first : serial - mark ≡ 0 = omega (arith, same) in inr (omega (arith, same), ap (slice_get (None ∷ letters)) first)
    | inr other ↦ inl (omega (arith, other, below))
  ]
  back_one mark letters serial (inr held) =
      let more : serial - mark ≡ suc (serial - suc mark) = omega (arith, held.0) in
      inr (omega (arith, held.0), ap (slice_get (None ∷ letters)) more ∙ held.1)

  drop_first : (n : ℕ) (letters : List (Option (Waits T))) → drop (1 + n) (None ∷ letters) ≡ drop n letters
  drop_first n letters = let more : 1 + n ≡ suc n = omega arith in ap (λ (k : ℕ). drop k (None ∷ letters)) more

  pub marked_settled : (mark : ℕ) (letters : List (Option (Waits T))) (serial : ℕ) → SettledAt mark letters serial → SettledAt (mark + settled_front letters) (drop (settled_front letters) letters) serial
  marked_settled mark [] serial is = let same : mark + 0 ≡ mark = omega arith in subst (λ (m : ℕ). SettledAt m [] serial) (sym same) is
  marked_settled mark (Some letter ∷ letters) serial is = let same : mark + 0 ≡ mark = omega arith in subst (λ (m : ℕ). SettledAt m (Some letter ∷ letters) serial) (sym same) is
  marked_settled mark (None ∷ letters) serial is =
      let same : mark + (1 + settled_front letters) ≡ suc mark + settled_front letters = omega arith in
      subst (λ (m : ℕ). SettledAt m (drop (1 + settled_front letters) (None ∷ letters)) serial) (sym same)
      (subst (λ (ls : List (Option (Waits T))). SettledAt (suc mark + settled_front letters) ls serial) (sym (drop_first (settled_front letters) letters))
      (marked_settled (suc mark) letters serial (past_one mark letters serial is)))

  pub settled_marked : (mark : ℕ) (letters : List (Option (Waits T))) (serial : ℕ) → SettledAt (mark + settled_front letters) (drop (settled_front letters) letters) serial → SettledAt mark letters serial
  settled_marked mark [] serial is = let same : mark + 0 ≡ mark = omega arith in subst (λ (m : ℕ). SettledAt m [] serial) same is
  settled_marked mark (Some letter ∷ letters) serial is = let same : mark + 0 ≡ mark = omega arith in subst (λ (m : ℕ). SettledAt m (Some letter ∷ letters) serial) same is
  settled_marked mark (None ∷ letters) serial is =
      let same : mark + (1 + settled_front letters) ≡ suc mark + settled_front letters = omega arith in
      back_one mark letters serial
      (settled_marked (suc mark) letters serial
      (subst (λ (ls : List (Option (Waits T))). SettledAt (suc mark + settled_front letters) ls serial) (drop_first (settled_front letters) letters)
      (subst (λ (m : ℕ). SettledAt m (drop (1 + settled_front letters) (None ∷ letters)) serial) same is)))

  -- ---- a letter comes

  get_stays : (letters more : List (Option (Waits T))) (k : ℕ) (state : Option (Waits T)) → slice_get letters k ≡ Some state → slice_get (letters ++ more) k ≡ Some state
  get_stays [] more k state at = cc
  get_stays (first ∷ letters) more zero state at = at
  get_stays (first ∷ letters) more (suc k) state at = get_stays letters more k state at

  get_pushed : (letters : List (Option (Waits T))) (letter : Waits T) (k : ℕ) → slice_get (letters ++ Some letter ∷ []) k ≡ Some None → slice_get letters k ≡ Some None
  get_pushed [] letter zero at = cc
  get_pushed [] letter (suc k) at = cc
  get_pushed (first ∷ letters) letter zero at = at
  get_pushed (first ∷ letters) letter (suc k) at = get_pushed letters letter k at

  get_come : (letters : List (Option (Waits T))) (k : ℕ) → slice_get (letters ++ None ∷ []) k ≡ Some None → (slice_get letters k ≡ Some None) ⊎ (k ≡ length letters)
  get_come [] zero at = inr refl
  get_come [] (suc k) at = cc
  get_come (first ∷ letters) zero at = inl at
  get_come (first ∷ letters) (suc k) at = elim (get_come letters k at) [ inl held ↦ inl held | inr last ↦ inr (ap suc last) ]

  pub pushed_stays : (queue : Queue T) (item : T) (now serial : ℕ) → IsSettledIn queue serial → IsSettledIn (pushed queue item now) serial
  pushed_stays queue item now serial (inl below) = inl below
  pushed_stays queue item now serial (inr held) = inr (held.0, get_stays queue.letters (Some (new_letter item now) ∷ []) (serial - queue.mark) None held.1)

  pub pushed_only : (queue : Queue T) (item : T) (now serial : ℕ) → IsSettledIn (pushed queue item now) serial → IsSettledIn queue serial
  pushed_only queue item now serial (inl below) = inl below
  pushed_only queue item now serial (inr held) = inr (held.0, get_pushed queue.letters (new_letter item now) (serial - queue.mark) held.1)

  pub come_stays : (queue : Queue T) (serial : ℕ) → IsSettledIn queue serial → IsSettledIn (pushed_settled queue) serial
  come_stays queue serial is = marked_settled queue.mark (queue.letters ++ None ∷ []) serial (more is)
    where
      more : IsSettledIn queue serial → SettledAt queue.mark (queue.letters ++ None ∷ []) serial
      more (inl below) = inl below
      more (inr held) = inr (held.0, get_stays queue.letters (None ∷ []) (serial - queue.mark) None held.1)

  pub come_only : (queue : Queue T) (serial : ℕ) → IsSettledIn (pushed_settled queue) serial → IsSettledIn queue serial ⊎ (serial ≡ next_serial queue)
  come_only queue serial is = less (settled_marked queue.mark (queue.letters ++ None ∷ []) serial is)
    where
      less : SettledAt queue.mark (queue.letters ++ None ∷ []) serial → IsSettledIn queue serial ⊎ (serial ≡ next_serial queue)
      less (inl below) = inl (inl below)
      less (inr held) = elim (get_come queue.letters (serial - queue.mark) held.1) [ inl there ↦ inl (inr (held.0, there)) | inr last ↦ inr (omega (arith, held.0, last)) ]

  -- ---- a verdict

  get_set : (letters : List (Option (Waits T))) (place k : ℕ) → slice_get letters k ≡ Some None → slice_get (slice_set letters place None) k ≡ Some None
  get_set [] place k at = cc
  get_set (first ∷ letters) zero zero at = refl
  get_set (first ∷ letters) zero (suc k) at = at
  get_set (first ∷ letters) (suc place) zero at = at
  get_set (first ∷ letters) (suc place) (suc k) at = get_set letters place k at

  set_get : (letters : List (Option (Waits T))) (place k : ℕ) → slice_get (slice_set letters place None) k ≡ Some None → (slice_get letters k ≡ Some None) ⊎ (k ≡ place)
  set_get [] place k at = inl at
  set_get (first ∷ letters) zero zero at = inr refl
  set_get (first ∷ letters) zero (suc k) at = inl at
  set_get (first ∷ letters) (suc place) zero at = inl at
  set_get (first ∷ letters) (suc place) (suc k) at = elim (set_get letters place k at) [ inl there ↦ inl there | inr here ↦ inr (ap suc here) ]

  set_here : (letters : List (Option (Waits T))) (place : ℕ) (letter : Waits T) → letter_at letters (Some place) ≡ Some letter → slice_get (slice_set letters place None) place ≡ Some None
  set_here [] place letter at = cc
  set_here (first ∷ letters) zero letter at = refl
  set_here (None ∷ letters) (suc place) letter at = set_here letters place letter at
  set_here (Some first ∷ letters) (suc place) letter at = set_here letters place letter at

  get_change : (letters : List (Option (Waits T))) (place k : ℕ) (change : Waits T → Waits T)
      → slice_get letters k ≡ Some None → slice_get (slice_set letters place (option_map change (letter_at letters (Some place)))) k ≡ Some None
  get_change [] place k change at = cc
  get_change (None ∷ letters) zero zero change at = refl
  get_change (Some first ∷ letters) zero zero change at = cc
  get_change (first ∷ letters) zero (suc k) change at = at
  get_change (first ∷ letters) (suc place) zero change at = at
  get_change (first ∷ letters) (suc place) (suc k) change at = get_change letters place k change at

  change_get : (letters : List (Option (Waits T))) (place k : ℕ) (change : Waits T → Waits T)
      → slice_get (slice_set letters place (option_map change (letter_at letters (Some place)))) k ≡ Some None → slice_get letters k ≡ Some None
  change_get [] place k change at = cc
  change_get (None ∷ letters) zero zero change at = refl
  change_get (Some first ∷ letters) zero zero change at = cc
  change_get (first ∷ letters) zero (suc k) change at = at
  change_get (first ∷ letters) (suc place) zero change at = at
  change_get (first ∷ letters) (suc place) (suc k) change at = change_get letters place k change at

  module _ (queue : Queue T) (place : ℕ) where
    settled_stays : (serial : ℕ) → IsSettledIn queue serial → IsSettledIn (settled_at queue (Some place)) serial
    settled_stays serial is = marked_settled queue.mark (slice_set queue.letters place None) serial (more is)
      where
        more : IsSettledIn queue serial → SettledAt queue.mark (slice_set queue.letters place None) serial
        more (inl below) = inl below
        more (inr held) = inr (held.0, get_set queue.letters place (serial - queue.mark) held.1)

    settled_only : (serial : ℕ) → IsSettledIn (settled_at queue (Some place)) serial → IsSettledIn queue serial ⊎ (serial ≡ queue.mark + place)
    settled_only serial is = less (settled_marked queue.mark (slice_set queue.letters place None) serial is)
      where
        less : SettledAt queue.mark (slice_set queue.letters place None) serial → IsSettledIn queue serial ⊎ (serial ≡ queue.mark + place)
        less (inl below) = inl (inl below)
        less (inr held) = elim (set_get queue.letters place (serial - queue.mark) held.1) [ inl there ↦ inl (inr (held.0, there)) | inr here ↦ inr (omega (arith, held.0, here)) ]

    settled_here : (letter : Waits T) → letter_at queue.letters (Some place) ≡ Some letter → IsSettledIn (settled_at queue (Some place)) (queue.mark + place)
    settled_here letter at =
        let back : queue.mark + place - queue.mark ≡ place = omega arith in
        marked_settled queue.mark (slice_set queue.letters place None) (queue.mark + place)
        (inr (omega arith, ap (slice_get (slice_set queue.letters place None)) back ∙ set_here queue.letters place letter at))

    -- what a verdict on the letter in hand settles
    pub concluded_stays : (now : ℕ) (verdict : Verdict) (serial : ℕ) → IsSettledIn queue serial → IsSettledIn (concluded (taken queue (Some place)) now verdict) serial
    concluded_stays now Accepted serial is = settled_stays serial is
    concluded_stays now RefusedForGood serial is = settled_stays serial is
    concluded_stays now PutOff serial (inl below) = inl below
    concluded_stays now PutOff serial (inr held) = inr (held.0, get_change queue.letters place (serial - queue.mark) _ held.1)
    concluded_stays now ServerAway serial is = is

    pub concluded_only : (now : ℕ) (verdict : Verdict) (serial : ℕ) → IsSettledIn (concluded (taken queue (Some place)) now verdict) serial
        → IsSettledIn queue serial ⊎ ((is_settled_by verdict ≡ true) × (serial ≡ queue.mark + place))
    concluded_only now Accepted serial is = elim (settled_only serial is) [ inl before ↦ inl before | inr here ↦ inr (refl, here) ]
    concluded_only now RefusedForGood serial is = elim (settled_only serial is) [ inl before ↦ inl before | inr here ↦ inr (refl, here) ]
    concluded_only now PutOff serial (inl below) = inl (inl below)
    concluded_only now PutOff serial (inr held) = inl (inr (held.0, change_get queue.letters place (serial - queue.mark) _ held.1))
    concluded_only now ServerAway serial is = inl is

    pub concluded_settles : (now : ℕ) (verdict : Verdict) (letter : Waits T) → letter_at queue.letters (Some place) ≡ Some letter → is_settled_by verdict ≡ true
        → IsSettledIn (concluded (taken queue (Some place)) now verdict) (queue.mark + place)
    concluded_settles now Accepted letter at by = settled_here letter at
    concluded_settles now RefusedForGood letter at by = settled_here letter at
    concluded_settles now PutOff letter at by = cc
    concluded_settles now ServerAway letter at by = cc
