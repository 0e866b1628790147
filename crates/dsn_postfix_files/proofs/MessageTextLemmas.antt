-- The text of a queue file's message, read from one record after another.
use Rattle.std.proofs.Common.{◌≡◌, ◌<◌, ◌≤◌, ◌-◌, ◌+◌, Bool, true, false, ℕ, List, [], ◌++◌, ◌∙◌, ap, append_assoc, arith, length, length-append, length-take, refl, sym, take, take_all}
use Rattle.std.specs.Prelude.{◌==◌, nat_lt, if◌then◌else◌}
use Rattle.std.proofs.Math.Seq.{take-append-add}
use Rattle.std.proofs.lemmas.List.{append-nil, take-append-le}
use Rattle.dsn_postfix_files.specs.inner.QueueReading.{TextLeft}
use Rattle.dsn_postfix_files.specs.MessageText.{is_of_text, text_from, text_of_record}
use Rattle.dsn_postfix_files.specs.QueueListing.{QueueEnding, ending_step}
use Rattle.dsn_postfix_files.specs.QueueRecord.{PlacedBytes}
use Rattle.dsn_postfix_files.specs.QueueWalk.{QueuePlace, RecordThere, StepsTo}
use Rattle.dsn_postfix_files.proofs.QueueListingLemmas.{begins_listing, ends_listing}

-- a record before the text
pub no_text_yet : (file : List ℕ) (start next : QueuePlace) (before text : List ℕ) (found : PlacedBytes) (ending : QueueEnding)
    → StepsTo file start (RecordThere found next)
    → TextLeft (record { file = file; place = start }) before false text ending
    → TextLeft (record { file = file; place = next }) before (found.kind == 77) text ending
no_text_yet file start next before text found ending step left =
    let begins = begins_listing file start next found left.records ending step left.come in
    record {
      records = begins.others;
      come = begins.lists;
      are = left.are ∙ ap (λ (rs : List PlacedBytes). before ++ text_from false rs) begins.first;
    }

of-text : (of_it : Bool) (more later : List ℕ) → of_it ≡ true → (if of_it then more ++ later else []) ≡ more ++ later
of-text true more later is = refl
of-text false more later is = absurd cc

-- a record of the text
pub more_text : (file : List ℕ) (start next : QueuePlace) (before text : List ℕ) (found : PlacedBytes) (ending : QueueEnding)
    → StepsTo file start (RecordThere found next)
    → is_of_text found.kind ≡ true
    → TextLeft (record { file = file; place = start }) before true text ending
    → TextLeft (record { file = file; place = next }) (before ++ text_of_record found) true text ending
more_text file start next before text found ending step is left =
    let begins = begins_listing file start next found left.records ending step left.come in
    record {
      records = begins.others;
      come = begins.lists;
      are = left.are
          ∙ ap (λ (rs : List PlacedBytes). before ++ text_from true rs) begins.first
          ∙ ap (λ (more : List ℕ). before ++ more) (of-text (is_of_text found.kind) (text_of_record found) (text_from true begins.others) is)
          ∙ sym (append_assoc before (text_of_record found) (text_from true begins.others));
    }

not-of-text : (of_it : Bool) (more : List ℕ) → of_it ≡ false → (if of_it then more else []) ≡ []
not-of-text true more is = absurd cc
not-of-text false more is = refl

-- the first record after the text
pub text_ends : (file : List ℕ) (start next : QueuePlace) (before text : List ℕ) (found : PlacedBytes) (ending : QueueEnding)
    → StepsTo file start (RecordThere found next)
    → is_of_text found.kind ≡ false
    → TextLeft (record { file = file; place = start }) before true text ending
    → text ≡ before
text_ends file start next before text found ending step is left =
    let begins = begins_listing file start next found left.records ending step left.come in
    left.are
    ∙ ap (λ (rs : List PlacedBytes). before ++ text_from true rs) begins.first
    ∙ ap (λ (more : List ℕ). before ++ more) (not-of-text (is_of_text found.kind) (text_of_record found ++ text_from true begins.others) is)
    ∙ append-nil before

no-more : (within : Bool) → text_from within [] ≡ []
no-more true = refl
no-more false = refl

-- no more records
pub no_more_text : (file : List ℕ) (start : QueuePlace) (here : QueueEnding) (before text : List ℕ) (within : Bool) (ending : QueueEnding)
    → StepsTo file start (ending_step here)
    → TextLeft (record { file = file; place = start }) before within text ending
    → text ≡ before
no_more_text file start here before text within ending step left =
    let ends = ends_listing file start here left.records ending step left.come in
    left.are ∙ ap (λ (rs : List PlacedBytes). before ++ text_from within rs) ends.0 ∙ ap (λ (more : List ℕ). before ++ more) (no-more within) ∙ append-nil before

-- ---- the front of it for which there is room

-- the front of two texts, one after another
both-by : (room : ℕ) (one other : List ℕ) (less : Bool) → nat_lt room (length one) ≡ less → take room (one ++ other) ≡ take room one ++ take (room - length one) other
both-by room one other true is =
    let below : room < length one = grind (arith, is) in
    let within : room ≤ length one = omega (arith, below) in
    let none : room - length one ≡ 0 = omega (arith, within) in
    take-append-le room one other within ∙ sym (append-nil (take room one)) ∙ ap (λ (n : ℕ). take room one ++ take n other) (sym none)
both-by room one other false is =
    let beyond : length one ≤ room = grind (arith, is) in
    let split : room ≡ length one + (room - length one) = omega (arith, beyond) in
    ap (λ (n : ℕ). take n (one ++ other)) split ∙ take-append-add one other (room - length one)
    ∙ ap (λ (front : List ℕ). front ++ take (room - length one) other) (sym (take_all room one beyond))

take-both : (room : ℕ) (one other : List ℕ) → take room (one ++ other) ≡ take room one ++ take (room - length one) other
take-both room one other = both-by room one other (nat_lt room (length one)) refl

-- a line and its line feed, appended one after another
pub line_within : (limit : ℕ) (before line end added whole : List ℕ)
    → added ≡ before ++ take (limit - length before) line
    → whole ≡ added ++ take (limit - length added) end
    → whole ≡ before ++ take (limit - length before) (line ++ end)
line_within limit before line end added whole one other =
    let room : limit - length added ≡ (limit - length before) - length line
    = omega (arith, ap length one, length-append before (take (limit - length before) line), length-take (limit - length before) line) in
    other
    ∙ (λ i. one i ++ take (room i) end)
    ∙ append_assoc before (take (limit - length before) line) (take ((limit - length before) - length line) end)
    ∙ ap (λ (more : List ℕ). before ++ more) (sym (take-both (limit - length before) line end))

-- a record for which there was room
pub had_room : (limit : ℕ) (before more added : List ℕ) → added ≡ before ++ take (limit - length before) more → length added < limit → added ≡ before ++ more
had_room limit before more added is below =
    let size : length added ≡ length before + length (take (limit - length before) more) = ap length is ∙ length-append before (take (limit - length before) more) in
    is ∙ ap (λ (rest : List ℕ). before ++ rest) (take_all (limit - length before) more (omega (arith, size, below, length-take (limit - length before) more)))

front-full : (limit : ℕ) (before more later added : List ℕ) → length before ≤ limit → added ≡ before ++ take (limit - length before) more → limit ≤ length added
    → added ≡ take limit ((before ++ more) ++ later)
front-full limit before more later added fits is full =
    let size : length added ≡ length before + length (take (limit - length before) more) = ap length is ∙ length-append before (take (limit - length before) more) in
    let enough : limit - length before ≤ length more = omega (arith, size, full, fits, length-take (limit - length before) more) in
    is
    ∙ (λ i. sym (take_all limit before fits) i ++ sym (take-append-le (limit - length before) more later enough) i)
    ∙ sym (take-both limit before (more ++ later))
    ∙ ap (take limit) (sym (append_assoc before more later))

-- a record after which there is no room
pub no_room_left : (file : List ℕ) (start next : QueuePlace) (limit : ℕ) (before added text : List ℕ) (found : PlacedBytes) (ending : QueueEnding)
    → StepsTo file start (RecordThere found next)
    → is_of_text found.kind ≡ true
    → length before ≤ limit
    → added ≡ before ++ take (limit - length before) (text_of_record found)
    → limit ≤ length added
    → TextLeft (record { file = file; place = start }) before true text ending
    → added ≡ take limit text
no_room_left file start next limit before added text found ending step of_text fits is full left =
    let after = more_text file start next before text found ending step of_text left in
    front-full limit before (text_of_record found) (text_from true after.records) added fits is full ∙ ap (take limit) (sym after.are)

-- a text that is within the limit
pub all_fits : (limit : ℕ) (before text : List ℕ) → length before ≤ limit → text ≡ before → before ≡ take limit text
all_fits limit before text fits is = sym (take_all limit before fits) ∙ ap (take limit) (sym is)
