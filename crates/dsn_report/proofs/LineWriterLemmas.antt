-- The effect of several texts on a writer of lines is that of the joined text.
use Rattle.std.proofs.Common.{◌≡◌, ℕ, ◌-◌, ◌&&◌, if◌then◌else◌, codes, Bool, true, false, List, [], ◌∷◌, ◌++◌, drop, length, take, map, refl, sym, ap, subst, ◌∙◌, append_assoc, append-nil}
use Rattle.std.specs.Prelude.{◌==◌}
use Rattle.std.specs.List.{list_any}
use Rattle.std.proofs.lemmas.Bool.{or_parts}
use Rattle.std.proofs.lemmas.List.{map-append, take_rest}
use Rattle.dsn_device.proofs.UntilFailureLemmas.{writes-none, writes-then}
use Rattle.dsn_device.specs.QuietWriter.{Writes}
use Rattle.dsn_device.specs.declared.drain.Drain.{Ghosts as Drain}
use Rattle.dsn_report.specs.inner.LineWriter.{HasTakenText, IsBlock, Settled, Took, Wrote, lines_sent, sent_of_dotted}
use Rattle.dsn_report.specs.Lines.{text_of_lines, dot_stuffed, begins_with_dot}
use Rattle.dsn_report.specs.declared.line_writer.LineWriter.{LineWriter}

pub text_of_lines-append : (xs ys : List (List ℕ)) → text_of_lines (xs ++ ys) ≡ text_of_lines xs ++ text_of_lines ys
unfolding text_of_lines
text_of_lines-append [] ys = refl
text_of_lines-append (x ∷ xs) ys =
    ap (λ rest. x ++ (13 ∷ 10 ∷ rest)) (text_of_lines-append xs ys)
    ∙ sym (append_assoc x (13 ∷ 10 ∷ text_of_lines xs) (text_of_lines ys))

pub lines_sent-append : (dots : Bool) (xs ys : List (List ℕ)) → lines_sent dots (xs ++ ys) ≡ lines_sent dots xs ++ lines_sent dots ys
lines_sent-append true xs ys = map-append dot_stuffed xs ys
lines_sent-append false xs ys = refl

pub sent_text-append : (dots : Bool) (xs ys : List (List ℕ))
    → text_of_lines (lines_sent dots (xs ++ ys)) ≡ text_of_lines (lines_sent dots xs) ++ text_of_lines (lines_sent dots ys)
sent_text-append dots xs ys = ap text_of_lines (lines_sent-append dots xs ys) ∙ text_of_lines-append (lines_sent dots xs) (lines_sent dots ys)

module _ {W : Type 0} {device : Drain W} where
  pub Took-none : (s : LineWriter W) → Took device s s []
  Took-none s = record { text_taken = λ start before taken. subst (HasTakenText device start s) (sym (append-nil before)) taken; dots_kept = refl }

  pub Took-then : {s t u : LineWriter W} {a b : List ℕ} → Took device s t a → Took device t u b → Took device s u (a ++ b)
  Took-then {s} {t} {u} {a} {b} p q = record {
    text_taken = λ start before taken. subst (HasTakenText device start u) (append_assoc before a b) (q.text_taken start (before ++ a) (p.text_taken start before taken));
    dots_kept = q.dots_kept ∙ p.dots_kept;
  }

  pub Took-as : {s t : LineWriter W} {a b : List ℕ} → a ≡ b → Took device s t a → Took device s t b
  Took-as {s} {t} e p = subst (Took device s t) e p

  -- a text that is written after the buffer is taken
  pub Took-written : {s t u : LineWriter W} {text : List ℕ} → Settled device s t → Writes device t.writer u.writer text → u.pending ≡ t.pending → u.dots ≡ t.dots → Took device s u text
  Took-written {s} {t} {u} {text} settled wrote pending dots = record {
    text_taken = λ start before taken. record {
      front = (taken.front ++ s.pending) ++ text;
      split = ap (λ front. front ++ text) taken.split ∙ sym (append-nil _) ∙ ap (λ more. ((taken.front ++ s.pending) ++ text) ++ more) (sym (pending ∙ settled.none_pending));
      written = writes-then (writes-then taken.written settled.pending_written) wrote;
    };
    dots_kept = dots ∙ settled.dots_kept;
  }

  -- if the buffer was empty, and the writer took a text and was settled, all of the text is written
  pub settled-text : {s t u : LineWriter W} {text : List ℕ} → s.pending ≡ [] → Took device s t text → Settled device t u → Writes device s.writer u.writer text
  settled-text {s} {t} {u} {text} none took settled =
      let start : HasTakenText device s.writer s [] = record { front = []; split = sym none; written = writes-none s.writer.failed s.writer.drain } in
      let taken = took.text_taken s.writer [] start in
      subst (Writes device s.writer u.writer) (sym taken.split) (writes-then taken.written settled.pending_written)

  pub Wrote-none : (s : LineWriter W) → Wrote device s s []
  unfolding text_of_lines
  Wrote-none s = record { took = none s.dots }
    where
      none : (dots : Bool) → Took device s s (text_of_lines (lines_sent dots []))
      none true = Took-none s
      none false = Took-none s

  pub Wrote-then : {s t u : LineWriter W} {a b : List (List ℕ)} → Wrote device s t a → Wrote device t u b → Wrote device s u (a ++ b)
  Wrote-then {s} {t} {u} {a} {b} p q =
      let second = subst (λ dots. Took device t u (text_of_lines (lines_sent dots b))) p.took.dots_kept q.took in
      record { took = Took-as (sym (sent_text-append s.dots a b)) (Took-then p.took second) }

  pub Wrote-as : {s t : LineWriter W} {a b : List (List ℕ)} → a ≡ b → Wrote device s t a → Wrote device s t b
  Wrote-as {s} {t} e p = subst (Wrote device s t) e p

  -- the lines of a value are those of an equal value
  pub Wrote-same : {X : Type 0} (lines : X → List (List ℕ)) (y : X) {x : X} {s t : LineWriter W} → x ≡ y → Wrote device s t (lines x) → Wrote device s t (lines y)
  Wrote-same lines y {x} {s} {t} e p = subst (λ it. Wrote device s t (lines it)) e p

-- lines of which none begins with a dot get no dots
dots-none : (lines : List (List ℕ)) → list_any begins_with_dot lines ≡ false → map dot_stuffed lines ≡ lines
unfolding dot_stuffed
dots-none [] none = refl
dots-none (line ∷ rest) none =
    let parts = or_parts (begins_with_dot line) (list_any begins_with_dot rest) none in
    rw (parts.0, dots-none rest parts.1) refl

-- the text of such lines is the text to be sent
pub block_text : (dots : Bool) (lines : List (List ℕ)) (text : List ℕ) → IsBlock lines text → text ≡ text_of_lines (lines_sent dots lines)
block_text true lines text block = block.text_is ∙ ap text_of_lines (sym (dots-none lines block.no_dot))
block_text false lines text block = block.text_is

-- the rest of a text after its first byte
pub after_dot : (dotted : List ℕ) → take (length dotted - 1) (drop 1 dotted) ≡ drop 1 dotted
after_dot dotted = take_rest dotted 1

-- the text to be sent for a line that is passed with its CRLF after a dot is that of the one line
dotted_text : (dots : Bool) (line dotted : List ℕ) → dotted ≡ codes "." ++ line ++ codes "\r\n"
    → sent_of_dotted dots dotted ≡ text_of_lines (lines_sent dots (line ∷ []))
unfolding text_of_lines dot_stuffed
dotted_text dots line dotted is = rw is (here dots line)
  where
    with_dot : (dot : Bool) (line : List ℕ) → (if dot then codes "." ++ line ++ codes "\r\n" else line ++ codes "\r\n") ≡ (if dot then 46 ∷ line else line) ++ (13 ∷ 10 ∷ [])
    with_dot true line = refl
    with_dot false line = refl

    here : (dots : Bool) (line : List ℕ)
        → (if dots && begins_with_dot (line ++ codes "\r\n") then codes "." ++ line ++ codes "\r\n" else line ++ codes "\r\n") ≡ text_of_lines (lines_sent dots (line ∷ []))
    here false line = refl
    here true [] = refl
    here true (byte ∷ rest) = with_dot (byte == 46) (byte ∷ rest)

module _ {W : Type 0} {device : Drain W} where
  -- the line was written if the writer took the text to be sent for it
  pub Wrote-dotted : {s t : LineWriter W} {text : List ℕ} (line dotted : List ℕ) → text ≡ sent_of_dotted s.dots dotted → dotted ≡ codes "." ++ line ++ codes "\r\n"
      → Took device s t text → Wrote device s t (line ∷ [])
  Wrote-dotted {s} {t} {text} line dotted sent split took = record { took = Took-as (sent ∙ dotted_text s.dots line dotted split) took }
