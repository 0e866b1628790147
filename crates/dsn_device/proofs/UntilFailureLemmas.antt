-- Texts that are written one after another until a drain's first failure have the effect of the joined text.
use Rattle.std.proofs.Common.{◌≡◌, ℕ, Bool, true, false, List, [], ◌++◌, Option, refl, sym, ap, subst, ◌∙◌}
use Rattle.std.specs.Prelude.{not, None, Some}
use Rattle.std.specs.Io.KnownBytes.{Appends, Keeps}
use Rattle.std.proofs.KnownBytes.{Appends-nil, Appends-trans, Appends-kept, Keeps-refl, Keeps-trans}
use Rattle.dsn_device.specs.Failures.{counted}
use Rattle.dsn_device.specs.Transfer.{AppendsFront}
use Rattle.dsn_device.specs.Marking.{SayCountOrNext, marked_by}
use Rattle.dsn_device.specs.Throughout.{LeavesThroughout}
use Rattle.dsn_device.specs.UntilFailure.{Sent, counts_failure, WritesUntilFailure, FlushesUntilFailure, MarksUntilFailure, LeavesMarked, LeavesMarkedOrNext, TakesNoTime, Lost, in_text, at_flush, WrittenAndFlushed, Unmarked, unflushed, at_mark, WrittenAndMarked}
use Rattle.dsn_device.specs.declared.drain.Drain.{Ghosts as Drain}
use Rattle.dsn_device.proofs.ThroughoutLemmas.{stands_still, stands_still_then, stood_still_first}
use Rattle.dsn_device.proofs.TransferLemmas.{Appends-part, AppendsFront-all, AppendsPart-longer, AppendsPart-kept}

-- no text was written
pub Sent-none : (a : Bool) (x : Option (List ℕ)) → Sent a a x x []
Sent-none false x = Appends-nil x
Sent-none true x = Keeps-refl x

-- one text and then another
pub Sent-then : (a b c : Bool) (x y z : Option (List ℕ)) (s t : List ℕ) → Sent a b x y s → Sent b c y z t → Sent a c x z (s ++ t)
Sent-then false false false x y z s t p q = Appends-trans x y z s t p q
Sent-then false false true x y z s t p q = Appends-part x y z s t p q
Sent-then false true false x y z s t p q = absurd q
Sent-then false true true x y z s t p q = AppendsPart-longer x z s t (AppendsPart-kept x y z s p q)
Sent-then true false c x y z s t p q = absurd p
Sent-then true true false x y z s t p q = absurd q
Sent-then true true true x y z s t p q = Keeps-trans x y z p q

-- if nothing has failed, the whole text was written
pub Sent-whole : (a : Bool) (x y : Option (List ℕ)) (text : List ℕ) → Sent a false x y text → Appends x y text
Sent-whole false x y text p = p
Sent-whole true x y text p = absurd p

pub counts-none : (a : Bool) (n : ℕ) → n ≡ counts_failure a a n
counts-none false n = refl
counts-none true n = refl

pub counts-then : (a b c : Bool) (x y z : Option (List ℕ)) (s t : List ℕ) (l m n : ℕ) → Sent a b x y s → Sent b c y z t
    → m ≡ counts_failure a b l → n ≡ counts_failure b c m → n ≡ counts_failure a c l
counts-then false false c x y z s t l m n p q e f = f ∙ ap (counted c) e
counts-then false true false x y z s t l m n p q e f = absurd q
counts-then false true true x y z s t l m n p q e f = f ∙ e
counts-then true false c x y z s t l m n p q e f = absurd p
counts-then true true false x y z s t l m n p q e f = absurd q
counts-then true true true x y z s t l m n p q e f = f ∙ e

module _ {W : Type 0} {drain : Drain W} where
  pub writes-none : (failed : Bool) (w : W) → WritesUntilFailure drain failed failed w w []
  writes-none failed w = record {
    sent = Sent-none failed (drain.contents w);
    idle = λ before. (before, refl);
    count = counts-none failed (drain.failures w);
    no_flush = refl;
    marked = refl;
    no_moment = stands_still;
    surely = λ h. h;
    stays_steady = λ h. (h, refl);
  }

  pub writes-then : {a b c : Bool} {x y z : W} {s t : List ℕ} → WritesUntilFailure drain a b x y s → WritesUntilFailure drain b c y z t → WritesUntilFailure drain a c x z (s ++ t)
  writes-then {a} {b} {c} {x} {y} {z} {s} {t} p q = record {
    sent = Sent-then a b c (drain.contents x) (drain.contents y) (drain.contents z) s t p.sent q.sent;
    idle = λ before. let first = p.idle before in let second = q.idle first.0 in (second.0, second.1 ∙ first.1);
    count = counts-then a b c (drain.contents x) (drain.contents y) (drain.contents z) s t (drain.failures x) (drain.failures y) (drain.failures z) p.sent q.sent p.count q.count;
    no_flush = q.no_flush ∙ p.no_flush;
    marked = q.marked ∙ p.marked;
    no_moment = stands_still_then p.no_moment q.no_moment;
    surely = λ h. q.surely (p.surely h);
    stays_steady = λ h. let first = p.stays_steady h in let second = q.stays_steady first.0 in (second.0, second.1 ∙ first.1);
  }

  pub writes-as : {a b : Bool} {x y : W} {s t : List ℕ} → s ≡ t → WritesUntilFailure drain a b x y s → WritesUntilFailure drain a b x y t
  writes-as {a} {b} {x} {y} same p = subst (WritesUntilFailure drain a b x y) same p

  -- if the drain has not failed, a text was written whole
  pub writes-whole : {a b : Bool} {x y : W} {text : List ℕ} → b ≡ false → WritesUntilFailure drain a b x y text → Appends (drain.contents x) (drain.contents y) text
  writes-whole {a} {b} {x} {y} {text} good p =
      Sent-whole a (drain.contents x) (drain.contents y) text
      (subst (λ has. Sent a has (drain.contents x) (drain.contents y) text) good p.sent)

-- ---- a text, and then a flush

never : false ≡ true → ⊥
never is = cc

module _ {W : Type 0} (drain : Drain W) where
  ends : (a b c : Bool) (x y z : W) (text : List ℕ)
      → Sent a b (drain.contents x) (drain.contents y) text → drain.flushes y ≡ drain.flushes x → (a ≡ true → y ≡ x)
      → Keeps (drain.contents y) (drain.contents z) → drain.flushes z ≡ counted (not b) (drain.flushes y)
      → (b ≡ true → z ≡ y) → (b ≡ true → c ≡ true) → (c ≡ false → drain.unflushed z ≡ false)
      → (drain.flushes_surely x → drain.flushes_surely z × (c ≡ b))
      → WrittenAndFlushed drain a c x z text
  ends false false false x y z text sent no_flush first kept once second lasts passed surely = record {
    taken = Appends-kept _ _ _ text sent kept;
    once = once ∙ ap (counted true) no_flush;
    passed_on = passed refl;
    surely = λ h. (surely h).0;
  }
  ends false false true x y z text sent no_flush first kept once second lasts passed surely =
      at_flush (Appends-kept _ _ _ text sent kept) (once ∙ ap (counted true) no_flush)
      (λ h. never (sym (surely h).1))
  ends false true false x y z text sent no_flush first kept once second lasts passed surely = absurd (never (lasts refl))
  ends false true true x y z text sent no_flush first kept once second lasts passed surely =
      in_text (AppendsPart-kept _ _ _ text sent kept) (once ∙ no_flush)
  ends true false c x y z text sent no_flush first kept once second lasts passed surely = absurd sent
  ends true true false x y z text sent no_flush first kept once second lasts passed surely = absurd (never (lasts refl))
  ends true true true x y z text sent no_flush first kept once second lasts passed surely = second refl ∙ first refl

module _ {W : Type 0} {drain : Drain W} where
  -- a text was written, and then the drain was flushed
  pub written-flushed : {a b c : Bool} {x y z : W} {text : List ℕ} → WritesUntilFailure drain a b x y text → FlushesUntilFailure drain b c y z
      → WrittenAndFlushed drain a c x z text
  written-flushed {a} {b} {c} {x} {y} {z} {text} p q =
      ends drain a b c x y z text p.sent p.no_flush (λ is. (p.idle is).1) q.kept q.once (λ is. (q.idle is).1) (λ is. (q.idle is).0) q.passed_on
      (λ h. q.surely (p.surely h))

-- ---- a text, a flush, and then a mark

unmarked : (serial : ℕ) (count : Option ℕ) → marked_by false serial count ≡ count
unmarked serial None = refl
unmarked serial (Some n) = refl

module _ {W : Type 0} (drain : Drain W) where
  -- a call that takes no time doesn't change the marks that a crash leaves
  pub leaves_still : (x y : W) → TakesNoTime drain x y → drain.marked y ≡ drain.marked x → LeavesMarked drain x → LeavesMarked drain y
  leaves_still x y still same before left since =
      rw same (before left (still.1 (drain.moment x) left (subst (λ t. drain.left_since y t left) still.0 since)))

  -- if the text was written and flushed, the marks that a crash leaves don't change until the letter is marked
  then_marked : (x y z : W) (serial : ℕ) → TakesNoTime drain x y → drain.marked y ≡ drain.marked x
      → (LeavesMarked drain y → LeavesMarkedOrNext drain y z serial) → LeavesMarked drain x → LeavesMarkedOrNext drain x z serial
  then_marked x y z serial still same marking before =
      let from : LeavesThroughout drain.moment drain.left_since y z (SayCountOrNext drain.say (drain.marked y) serial) = marking (leaves_still x y still same before) in
      stood_still_first drain.moment drain.left_since x y z _ still (rw same at from)

  marks : (a b c : Bool) (x y z : W) (text : List ℕ) (serial : ℕ)
      → WrittenAndFlushed drain a b x y text → drain.marked y ≡ drain.marked x → TakesNoTime drain x y
      → MarksUntilFailure drain b c y z serial
      → WrittenAndMarked drain a c x z text serial
  marks false false false x y z text serial made same still q = record {
    flushed = record {
      taken = Appends-kept _ _ _ text made.taken q.kept;
      once = q.no_flush ∙ made.once;
      passed_on = q.unflushed ∙ made.passed_on;
      surely = λ h. (q.surely (made.surely h)).0;
    };
    marked = rw same at q.marked;
    any_moment = then_marked x y z serial still same q.any_moment;
    leaves = λ before. q.leaves refl (leaves_still x y still same before);
  }
  marks false false true x y z text serial made same still q =
      at_mark (Appends-kept _ _ _ text made.taken q.kept) (q.no_flush ∙ made.once) (q.unflushed ∙ made.passed_on)
      (q.marked ∙ unmarked serial (drain.marked y) ∙ same)
      (λ none. never (sym (q.unmarking (same ∙ none))))
      (λ h. never (sym (q.surely (made.surely h)).1))
      (then_marked x y z serial still same q.any_moment)
  marks false true false x y z text serial made same still q = absurd (never (q.idle refl).0)
  marks false true true x y z text serial made same still q =
      unflushed (rw (sym (q.idle refl).1) at made) (ap drain.marked (q.idle refl).1 ∙ same) (rw (sym (q.idle refl).1) at still)
  marks true false c x y z text serial made same still q = absurd made
  marks true true false x y z text serial made same still q = absurd (never (q.idle refl).0)
  marks true true true x y z text serial made same still q = (q.idle refl).1 ∙ made

module _ {W : Type 0} {drain : Drain W} where
  -- a text was written, the drain was flushed, and then its letter was marked
  pub written-marked : {a b c d : Bool} {x y z w : W} {text : List ℕ} {serial : ℕ} → WritesUntilFailure drain a b x y text → FlushesUntilFailure drain b c y z
      → MarksUntilFailure drain c d z w serial → WrittenAndMarked drain a d x w text serial
  written-marked {a} {b} {c} {d} {x} {y} {z} {w} {text} {serial} p q r =
      marks drain a c d x z w text serial (written-flushed p q) (q.marked ∙ p.marked) (stands_still_then p.no_moment q.no_moment) r
