-- The effect of one more call on a disk in memory.
use Rattle.std.proofs.Common.{◌≡◌, inl, inr, ℕ, ◌+◌, ◌≤◌, List, [], ◌∷◌, ◌++◌, length, take, Vec, refl, ap, sym, ◌∙◌, subst, arith, length-append}
use Rattle.std.proofs.lemmas.Bool.{cases_lt}
use Rattle.std.proofs.lemmas.List.{take_all, take-append-le}
use Rattle.std.specs.declared.alloc.Global.{Global}
use Rattle.dsn_journal.specs.Disk.{Torn, written_over, Elapses}
use Rattle.dsn_journal.specs.inner.Disk.{length-over}
use Rattle.dsn_fakes.specs.MemoryDisk.{seen_after, LeftAfter, LeftGoesOn}
use Rattle.dsn_fakes.specs.declared.memory_disk.Call.{Call}
use Rattle.dsn_fakes.specs.declared.memory_disk.Call.TheVariants.{Write, Sync, Replace}
use Rattle.dsn_journal.proofs.Mixing.{untouched}

pub seen_write : (calls : List Call) (file : List ℕ) (at : ℕ) (bytes : Vec ℕ Global) → seen_after (calls ++ Write at bytes ∷ []) file ≡ written_over (seen_after calls file) at bytes.items
seen_write [] file at bytes = refl
seen_write (Write before more ∷ calls) file at bytes = seen_write calls (written_over file before more.items) at bytes
seen_write (Sync ∷ calls) file at bytes = seen_write calls file at bytes
seen_write (Replace more ∷ calls) file at bytes = seen_write calls (written_over file 0 more.items) at bytes

pub seen_sync : (calls : List Call) (file : List ℕ) → seen_after (calls ++ Sync ∷ []) file ≡ seen_after calls file
seen_sync [] file = refl
seen_sync (Write before more ∷ calls) file = seen_sync calls (written_over file before more.items)
seen_sync (Sync ∷ calls) file = seen_sync calls file
seen_sync (Replace more ∷ calls) file = seen_sync calls (written_over file 0 more.items)

pub seen_replace : (calls : List Call) (file : List ℕ) (bytes : Vec ℕ Global) → seen_after (calls ++ Replace bytes ∷ []) file ≡ written_over (seen_after calls file) 0 bytes.items
seen_replace [] file bytes = refl
seen_replace (Write before more ∷ calls) file bytes = seen_replace calls (written_over file before more.items) bytes
seen_replace (Sync ∷ calls) file bytes = seen_replace calls file bytes
seen_replace (Replace more ∷ calls) file bytes = seen_replace calls (written_over file 0 more.items) bytes

pub length-seen : (calls : List Call) (file : List ℕ) → length (seen_after calls file) ≡ length file
length-seen [] file = refl
length-seen (Write at bytes ∷ calls) file = length-seen calls (written_over file at bytes.items) ∙ length-over file at bytes.items
length-seen (Sync ∷ calls) file = length-seen calls file
length-seen (Replace bytes ∷ calls) file = length-seen calls (written_over file 0 bytes.items) ∙ length-over file 0 bytes.items

pub left_write : (calls : List Call) (file : List ℕ) (P : List ℕ → Type 0) (at : ℕ) (bytes : Vec ℕ Global) (left : List ℕ) → LeftAfter (calls ++ Write at bytes ∷ []) file P left
    → (was : List ℕ) × LeftAfter calls file P was × Torn at bytes.items was left
left_write [] file P at bytes left is = is
left_write (Write before more ∷ calls) file P at bytes left is =
    left_write calls (written_over file before more.items) (λ new. (was : List ℕ) × P was × Torn before more.items was new) at bytes left is
left_write (Sync ∷ calls) file P at bytes left is = left_write calls file (λ new. new ≡ file) at bytes left is
left_write (Replace more ∷ calls) file P at bytes left is = left_write calls (written_over file 0 more.items) (λ new. new ≡ written_over file 0 more.items) at bytes left is

pub write_leaves : (calls : List Call) (file : List ℕ) (P : List ℕ → Type 0) (at : ℕ) (bytes : Vec ℕ Global) (was left : List ℕ) → LeftAfter calls file P was → Torn at bytes.items was left
    → LeftAfter (calls ++ Write at bytes ∷ []) file P left
write_leaves [] file P at bytes was left before torn = (was, before, torn)
write_leaves (Write place more ∷ calls) file P at bytes was left before torn =
    write_leaves calls (written_over file place more.items) (λ new. (old : List ℕ) × P old × Torn place more.items old new) at bytes was left before torn
write_leaves (Sync ∷ calls) file P at bytes was left before torn = write_leaves calls file (λ new. new ≡ file) at bytes was left before torn
write_leaves (Replace more ∷ calls) file P at bytes was left before torn =
    write_leaves calls (written_over file 0 more.items) (λ new. new ≡ written_over file 0 more.items) at bytes was left before torn

pub left_sync : (calls : List Call) (file : List ℕ) (P : List ℕ → Type 0) (left : List ℕ) → LeftAfter (calls ++ Sync ∷ []) file P left → left ≡ seen_after calls file
left_sync [] file P left is = is
left_sync (Write before more ∷ calls) file P left is = left_sync calls (written_over file before more.items) (λ new. (was : List ℕ) × P was × Torn before more.items was new) left is
left_sync (Sync ∷ calls) file P left is = left_sync calls file (λ new. new ≡ file) left is
left_sync (Replace more ∷ calls) file P left is = left_sync calls (written_over file 0 more.items) (λ new. new ≡ written_over file 0 more.items) left is

pub sync_leaves : (calls : List Call) (file : List ℕ) (P : List ℕ → Type 0) (left : List ℕ) → left ≡ seen_after calls file → LeftAfter (calls ++ Sync ∷ []) file P left
sync_leaves [] file P left is = is
sync_leaves (Write before more ∷ calls) file P left is = sync_leaves calls (written_over file before more.items) (λ new. (was : List ℕ) × P was × Torn before more.items was new) left is
sync_leaves (Sync ∷ calls) file P left is = sync_leaves calls file (λ new. new ≡ file) left is
sync_leaves (Replace more ∷ calls) file P left is = sync_leaves calls (written_over file 0 more.items) (λ new. new ≡ written_over file 0 more.items) left is

pub left_replace : (calls : List Call) (file : List ℕ) (P : List ℕ → Type 0) (bytes : Vec ℕ Global) (left : List ℕ) → LeftAfter (calls ++ Replace bytes ∷ []) file P left → left ≡ written_over (seen_after calls file) 0 bytes.items
left_replace [] file P bytes left is = is
left_replace (Write before more ∷ calls) file P bytes left is =
    left_replace calls (written_over file before more.items) (λ new. (was : List ℕ) × P was × Torn before more.items was new) bytes left is
left_replace (Sync ∷ calls) file P bytes left is = left_replace calls file (λ new. new ≡ file) bytes left is
left_replace (Replace more ∷ calls) file P bytes left is = left_replace calls (written_over file 0 more.items) (λ new. new ≡ written_over file 0 more.items) bytes left is

pub replace_leaves : (calls : List Call) (file : List ℕ) (P : List ℕ → Type 0) (bytes : Vec ℕ Global) (left : List ℕ) → left ≡ written_over (seen_after calls file) 0 bytes.items → LeftAfter (calls ++ Replace bytes ∷ []) file P left
replace_leaves [] file P bytes left is = is
replace_leaves (Write before more ∷ calls) file P bytes left is =
    replace_leaves calls (written_over file before more.items) (λ new. (was : List ℕ) × P was × Torn before more.items was new) bytes left is
replace_leaves (Sync ∷ calls) file P bytes left is = replace_leaves calls file (λ new. new ≡ file) bytes left is
replace_leaves (Replace more ∷ calls) file P bytes left is = replace_leaves calls (written_over file 0 more.items) (λ new. new ≡ written_over file 0 more.items) bytes left is

-- a torn write of which no byte was written
pub did_nothing : (at : ℕ) (bytes left : List ℕ) → Torn at bytes left left
did_nothing at bytes left = untouched left (written_over left at bytes) (length-over left at bytes)

-- what a read returns and a crash leaves after some calls, and then more
pub seen_more : (calls more : List Call) (file : List ℕ) → seen_after (calls ++ more) file ≡ seen_after more (seen_after calls file)
seen_more [] more file = refl
seen_more (Write at bytes ∷ calls) more file = seen_more calls more (written_over file at bytes.items)
seen_more (Sync ∷ calls) more file = seen_more calls more file
seen_more (Replace bytes ∷ calls) more file = seen_more calls more (written_over file 0 bytes.items)

pub call_leaves : (call : Call) (calls : List Call) (file : List ℕ) (P : List ℕ → Type 0) (seen was left : List ℕ) → seen ≡ seen_after calls file → LeftAfter calls file P was
    → LeftGoesOn call seen was left → LeftAfter (calls ++ call ∷ []) file P left
call_leaves (Write at bytes) calls file P seen was left is before on = write_leaves calls file P at bytes was left before on
call_leaves Sync calls file P seen was left is before on = sync_leaves calls file P left (on ∙ is)
call_leaves (Replace bytes) calls file P seen was left is before on = replace_leaves calls file P bytes left (on ∙ ap (λ (f : List ℕ). written_over f 0 bytes.items) is)

module _ (first : List ℕ) where
  abbrev pub At : List Call → ℕ → List ℕ → Type 0
  At calls moment left = LeftAfter (take moment calls) first (λ new. new ≡ first) left

  abbrev pub Now : List Call → List ℕ → Type 0
  Now calls left = LeftAfter calls first (λ new. new ≡ first) left

  abbrev pub Since : List Call → ℕ → List ℕ → Type 0
  Since calls t left = (moment : ℕ) × (t ≤ moment) × (moment ≤ length calls) × At calls moment left

  pub elapses_none : (calls : List Call) → Elapses (length calls) (length calls) (Since calls) (Since calls) (Now calls)
  elapses_none calls = record { later = omega arith; nothing_else = λ t left le since. inl since; keeps = λ t left le since. since }

  pub elapses_push : (calls : List Call) (call : Call) → Elapses (length calls) (length (calls ++ call ∷ [])) (Since calls) (Since (calls ++ call ∷ [])) (Now (calls ++ call ∷ []))
  elapses_push calls call = record {
    later = omega (arith, length-append calls (call ∷ []));
    nothing_else = λ t left le since. elim (cases_lt (length calls) since.0) [
      | inl many ↦ inr (subst (λ (l : List Call). Now l left) (take_all since.0 (calls ++ call ∷ []) (omega (arith, many, length-append calls (call ∷ [])))) since.3)
      | inr few ↦ inl (since.0, since.1, few, subst (λ (l : List Call). Now l left) (take-append-le since.0 calls (call ∷ []) few) since.3)
    ];
    keeps = λ t left le since. (since.0, since.1, omega (arith, since.2, length-append calls (call ∷ [])), subst (λ (l : List Call). Now l left) (sym (take-append-le since.0 calls (call ∷ []) since.2)) since.3);
  }
