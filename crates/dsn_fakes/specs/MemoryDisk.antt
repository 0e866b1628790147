-- A disk in memory that keeps its first bytes and records each later write, sync and replacement. A replay of these
-- calls yields what a crash may leave at each moment.
use Rattle.std.specs.Prelude.{◌≡◌, ℕ, ◌≤◌, List, [], ◌∷◌, length, take, refl}
use Rattle.std.proofs.Common.{inr, subst, sym, arith}
use Rattle.std.proofs.lemmas.List.{take_all}
use Rattle.dsn_journal.specs.Disk.{Mixes, Torn, written_over}
use Rattle.dsn_journal.specs.inner.Disk.{length-over}
use Rattle.dsn_fakes.specs.declared.memory_disk.Call.{Call}
use Rattle.dsn_fakes.specs.declared.memory_disk.Call.TheVariants.{Write, Sync, Replace}
use Rattle.dsn_fakes.specs.declared.memory_disk.MemoryDisk.{MemoryDisk}

-- what a read returns after these calls
abbrev pub seen_after : List Call → List ℕ → List ℕ
seen_after [] file = file
seen_after (Write at bytes ∷ calls) file = seen_after calls (written_over file at bytes.items)
seen_after (Sync ∷ calls) file = seen_after calls file
seen_after (Replace bytes ∷ calls) file = seen_after calls (written_over file 0 bytes.items)

-- what a crash may leave after these calls, if a read returned `file` before them and a crash might have left what
-- has P. Each write may be torn until a sync; a replacement is whole
abbrev pub LeftAfter : List Call → List ℕ → (List ℕ → Type 0) → List ℕ → Type 0
LeftAfter [] file P left = P left
LeftAfter (Write at bytes ∷ calls) file P left =
    LeftAfter calls (written_over file at bytes.items) (λ new. (was : List ℕ) × P was × Torn at bytes.items was new) left
LeftAfter (Sync ∷ calls) file P left = LeftAfter calls file (λ new. new ≡ file) left
LeftAfter (Replace bytes ∷ calls) file P left =
    LeftAfter calls (written_over file 0 bytes.items) (λ new. new ≡ written_over file 0 bytes.items) left

-- what a crash leaves after one more call, given what it left before
abbrev pub LeftGoesOn : Call → List ℕ → List ℕ → List ℕ → Type 0
LeftGoesOn (Write at bytes) seen was left = Torn at bytes.items was left
LeftGoesOn Sync seen was left = left ≡ seen
LeftGoesOn (Replace bytes) seen was left = left ≡ written_over seen 0 bytes.items

-- what a read returns
abbrev pub memory_seen : MemoryDisk → List ℕ
memory_seen disk = seen_after disk.calls.items disk.first.items

-- how many calls are recorded
abbrev pub memory_moment : MemoryDisk → ℕ
memory_moment disk = length disk.calls.items

-- how many calls have failed
abbrev pub memory_failures : MemoryDisk → ℕ
memory_failures disk = disk.failures

-- what a crash after this number of calls may leave
abbrev pub LeftAt : MemoryDisk → ℕ → List ℕ → Type 0
LeftAt disk moment left = LeftAfter (take moment disk.calls.items) disk.first.items (λ new. new ≡ disk.first.items) left

-- what a crash may leave now
abbrev pub LeftNow : MemoryDisk → List ℕ → Type 0
LeftNow disk left = LeftAfter disk.calls.items disk.first.items (λ new. new ≡ disk.first.items) left

-- what a crash at this moment or later may have left
abbrev pub LeftSince : MemoryDisk → ℕ → List ℕ → Type 0
LeftSince disk t left = (moment : ℕ) × (t ≤ moment) × (moment ≤ memory_moment disk) × LeftAt disk moment left

-- after all calls, a crash leaves what it may leave now
all_calls : (disk : MemoryDisk) (moment : ℕ) (left : List ℕ) → memory_moment disk ≤ moment → LeftAt disk moment left → LeftNow disk left
all_calls disk moment left all at =
    subst (λ (calls : List Call). LeftAfter calls disk.first.items (λ new. new ≡ disk.first.items) left) (take_all moment disk.calls.items all) at

-- the law `counts_now` of disks
pub left_counts_now : (disk : MemoryDisk) (t : ℕ) (left : List ℕ) → t ≤ memory_moment disk → LeftNow disk left → LeftSince disk t left
left_counts_now disk t left le now = (
  memory_moment disk,
  le,
  omega arith,
  subst (λ (calls : List Call). LeftAfter calls disk.first.items (λ new. new ≡ disk.first.items) left) (sym (take_all (memory_moment disk) disk.calls.items (omega arith))) now,
)

-- the law `only_now` of disks
pub left_only_now : (disk : MemoryDisk) (left : List ℕ) → LeftSince disk (memory_moment disk) left → LeftNow disk left
left_only_now disk left since = all_calls disk since.0 left since.1 since.3

-- a write that wasn't torn
whole : (old written : List ℕ) → length written ≡ length old → Mixes old written written
whole [] [] same = tt
whole [] (b ∷ written) same = absurd (omega arith)
whole (a ∷ old) [] same = absurd (omega arith)
whole (a ∷ old) (b ∷ written) same = (inr refl, whole old written (omega arith))

-- a crash may leave what a read returns
pub seen_left : (calls : List Call) (file : List ℕ) (P : List ℕ → Type 0) → P file → LeftAfter calls file P (seen_after calls file)
seen_left [] file P has = has
seen_left (Write at bytes ∷ calls) file P has =
    let written = written_over file at bytes.items in
    seen_left calls written (λ new. (was : List ℕ) × P was × Torn at bytes.items was new) (file, has, whole file written (length-over file at bytes.items))
seen_left (Sync ∷ calls) file P has = seen_left calls file (λ new. new ≡ file) refl
seen_left (Replace bytes ∷ calls) file P has = seen_left calls (written_over file 0 bytes.items) (λ new. new ≡ written_over file 0 bytes.items) refl

-- the law `leaves_seen` of disks
pub left_as_seen : (disk : MemoryDisk) (left : List ℕ) → LeftNow disk left → LeftNow disk (memory_seen disk)
left_as_seen disk left now = seen_left disk.calls.items disk.first.items (λ new. new ≡ disk.first.items) refl
