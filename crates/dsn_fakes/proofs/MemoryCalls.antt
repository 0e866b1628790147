-- The calls of a disk in memory satisfy the contracts of a disk's calls.
use Rattle.std.proofs.Common.{◌≡◌, inl, inr, ℕ, zero, suc, ◌<◌, List, [], ◌∷◌, ◌++◌, length, Vec, refl, sym, ◌∙◌, ap, subst, get_or, arith}
use Rattle.std.proofs.Math.ListN.{set}
use Rattle.std.specs.declared.alloc.Global.{Global}
use Rattle.dsn_journal.specs.Disk.{Follows, Mixes, NothingElse, OldOrThese, Only, Torn, written_over, Elapses}
use Rattle.dsn_fakes.specs.MemoryDisk.{seen_after, memory_seen, memory_moment, LeftNow, LeftSince, seen_left}
use Rattle.dsn_fakes.specs.declared.memory_disk.Call.{Call}
use Rattle.dsn_fakes.specs.declared.memory_disk.Call.TheVariants.{Write, Sync, Replace}
use Rattle.dsn_fakes.specs.declared.memory_disk.MemoryDisk.{MemoryDisk}
use Rattle.dsn_journal.proofs.Mixing.{whole_written}
use Rattle.dsn_fakes.proofs.OneCallMore.{Now, Since, length-seen, seen_write, seen_sync, seen_replace, left_write, left_sync, left_replace, did_nothing, elapses_none, elapses_push}

-- a property of the first bytes and the calls holds for a disk that has them
moves : (P : List ℕ → List Call → Type 0) (old new : MemoryDisk) (calls : List Call) → new.first ≡ old.first → new.calls.items ≡ calls → P old.first.items calls → P new.first.items new.calls.items
moves P old new calls first same has =
    subst (λ (v : Vec ℕ Global). P v.items new.calls.items) (sym first) (subst (λ (l : List Call). P old.first.items l) (sym same) has)

-- a disk with the same first bytes has the same length
pub same_size : (old new : MemoryDisk) → new.first ≡ old.first → length (memory_seen new) ≡ length (memory_seen old)
same_size old new first =
    length-seen new.calls.items new.first.items ∙ ap (λ (v : Vec ℕ Global). length v.items) first ∙ sym (length-seen old.calls.items old.first.items)

-- a call that did nothing
module _ (old new : MemoryDisk) (first : new.first ≡ old.first) (same : new.calls.items ≡ old.calls.items) where
  pub none_elapses : Elapses (memory_moment old) (memory_moment new) (LeftSince old) (LeftSince new) (LeftNow new)
  none_elapses = moves (λ f l. Elapses (memory_moment old) (length l) (LeftSince old) (Since f l) (Now f l)) old new old.calls.items first same (elapses_none old.first.items old.calls.items)

  pub none_torn : (at : ℕ) (bytes : List ℕ) → Follows (Torn at bytes) (LeftNow old) (LeftNow new)
  none_torn at bytes = moves (λ f l. Follows (Torn at bytes) (LeftNow old) (Now f l)) old new old.calls.items first same (λ left is. (left, is, did_nothing at bytes left))

  pub none_else : NothingElse (LeftNow old) (LeftNow new)
  none_else = moves (λ f l. NothingElse (LeftNow old) (Now f l)) old new old.calls.items first same (λ left is. is)

  pub none_these : (bytes : List ℕ) → OldOrThese bytes (LeftNow old) (LeftNow new)
  none_these bytes left is = inl (none_else left is)

  pub none_seen : memory_seen new ≡ memory_seen old
  none_seen = moves (λ f l. seen_after l f ≡ memory_seen old) old new old.calls.items first same refl

-- a call that was recorded
module _ (old new : MemoryDisk) (call : Call) (first : new.first ≡ old.first) (more : new.calls.items ≡ old.calls.items ++ call ∷ []) where
  pub call_elapses : Elapses (memory_moment old) (memory_moment new) (LeftSince old) (LeftSince new) (LeftNow new)
  call_elapses =
      moves (λ f l. Elapses (memory_moment old) (length l) (LeftSince old) (Since f l) (Now f l)) old new (old.calls.items ++ call ∷ []) first more (elapses_push old.first.items old.calls.items call)

module _ (old new : MemoryDisk) (at : ℕ) (bytes : Vec ℕ Global) (first : new.first ≡ old.first) (more : new.calls.items ≡ old.calls.items ++ Write at bytes ∷ []) where
  pub write_seen : memory_seen new ≡ written_over (memory_seen old) at bytes.items
  write_seen = moves (λ f l. seen_after l f ≡ written_over (memory_seen old) at bytes.items) old new (old.calls.items ++ Write at bytes ∷ []) first more (seen_write old.calls.items old.first.items at bytes)

  pub write_torn : Follows (Torn at bytes.items) (LeftNow old) (LeftNow new)
  write_torn =
      moves (λ f l. Follows (Torn at bytes.items) (LeftNow old) (Now f l)) old new (old.calls.items ++ Write at bytes ∷ []) first more
      (λ left is. left_write old.calls.items old.first.items (λ file. file ≡ old.first.items) at bytes left is)

module _ (old new : MemoryDisk) (first : new.first ≡ old.first) (more : new.calls.items ≡ old.calls.items ++ Sync ∷ []) where
  pub sync_seen : memory_seen new ≡ memory_seen old
  sync_seen = moves (λ f l. seen_after l f ≡ memory_seen old) old new (old.calls.items ++ Sync ∷ []) first more (seen_sync old.calls.items old.first.items)

  pub sync_only : Only (memory_seen old) (LeftNow new)
  sync_only =
      moves (λ f l. Only (memory_seen old) (Now f l)) old new (old.calls.items ++ Sync ∷ []) first more (λ left is. left_sync old.calls.items old.first.items (λ file. file ≡ old.first.items) left is)

  pub sync_else : NothingElse (LeftNow old) (LeftNow new)
  sync_else left is = subst (LeftNow old) (sym (sync_only left is)) (seen_left old.calls.items old.first.items (λ file. file ≡ old.first.items) refl)

module _ (old new : MemoryDisk) (bytes : Vec ℕ Global) (first : new.first ≡ old.first) (more : new.calls.items ≡ old.calls.items ++ Replace bytes ∷ []) (fits : length bytes.items ≡ length (memory_seen old)) where
  all_of_it : written_over (memory_seen old) 0 bytes.items ≡ bytes.items
  all_of_it = whole_written (memory_seen old) bytes.items fits

  pub replace_seen : memory_seen new ≡ bytes.items
  replace_seen =
      moves (λ f l. seen_after l f ≡ written_over (memory_seen old) 0 bytes.items) old new (old.calls.items ++ Replace bytes ∷ []) first more (seen_replace old.calls.items old.first.items bytes) ∙ all_of_it

  pub replace_only : Only bytes.items (LeftNow new)
  replace_only left is =
      moves (λ f l. Only (written_over (memory_seen old) 0 bytes.items) (Now f l)) old new (old.calls.items ++ Replace bytes ∷ []) first more
      (λ other now. left_replace old.calls.items old.first.items (λ file. file ≡ old.first.items) bytes other now) left is ∙ all_of_it

  pub replace_these : OldOrThese bytes.items (LeftNow old) (LeftNow new)
  replace_these left is = inr (replace_only left is)

-- one more byte is written
pub mixes_set : (old written mixed : List ℕ) (i : ℕ) → Mixes old written mixed → i < length mixed → Mixes old written (set mixed i (get_or written i 0))
mixes_set old written [] i is lt = absurd (omega arith)
mixes_set [] [] (c ∷ mixed) i is lt = absurd is
mixes_set [] (b ∷ written) (c ∷ mixed) i is lt = absurd is
mixes_set (a ∷ old) [] (c ∷ mixed) i is lt = absurd is
mixes_set (a ∷ old) (b ∷ written) (c ∷ mixed) zero is lt = (inr refl, is.1)
mixes_set (a ∷ old) (b ∷ written) (c ∷ mixed) (suc i) is lt = (is.0, mixes_set old written mixed i is.1 (omega arith))
