-- What the opening of a copy of a file says about the file.
use Rattle.std.proofs.Common.{◌≡◌, ◌∙◌, ℕ, ◌+◌, ◌≤◌, List, length, sym, subst, ap, arith}
use Rattle.dsn_outcome.specs.History.{Limits, Exchange, sealed_letters}
use Rattle.dsn_journal.specs.Behind.{HasMoreBehind}
use Rattle.dsn_ledger.specs.Header.{SayHistory, StandsForFile, with_header}
use Rattle.dsn_ledger.specs.Opening.{IsForeign}
use Rattle.dsn_ledger.specs.Posting.{AreToPost, to_post}
use Rattle.dsn_journal.specs.Records.{encoded, recovered}
use Rattle.dsn_journal.specs.SettledLetters.{first_edge, last_edge}
use Rattle.dsn_ledger.specs.declared.opening.Opened.{Opened}
use Rattle.dsn_listing.specs.declared.copied_disk.CopiedDisk.{CopiedDisk}
use Rattle.dsn_listing.specs.CopiedDisk.{copied_seen}
use Rattle.dsn_listing.specs.inner.CopiedFolder.{IsOpenedCopy}

-- ---- an opened copy

pub opened_is : (limits : Limits) (edges journal copy : List ℕ) (opened : Opened CopiedDisk)
    → copy ≡ journal → (IsForeign limits copy → ⊥) → (HasMoreBehind 16 copy → ⊥) → opened.ledger.book.book.limits ≡ limits
    → recovered (copied_seen opened.ledger.journal.disk) ≡ with_header limits (recovered copy)
    → length (copied_seen opened.ledger.journal.disk) ≡ length copy
    → opened.ledger.journal.used ≡ length (encoded (recovered (copied_seen opened.ledger.journal.disk)))
    → StandsForFile opened.ledger.book opened.ledger.base (recovered (copied_seen opened.ledger.journal.disk))
    → AreToPost limits (first_edge edges) (recovered (copied_seen opened.ledger.journal.disk)) opened.letters.items
    → opened.ledger.base ≤ first_edge edges → last_edge edges ≤ opened.ledger.base + opened.ledger.book.book.sealed
    → ((base other : ℕ) (records : List (List ℕ)) (history another : List Exchange) → SayHistory limits base records history → SayHistory limits other records another → (base ≡ other) × (history ≡ another))
    → IsOpenedCopy limits edges journal opened
opened_is limits edges journal copy opened copied own whole limits_are same size used file letters posted counted one =
    let records = recovered (copied_seen opened.ledger.journal.disk) in
    let said : SayHistory limits opened.ledger.base records file.history = subst (λ (l : Limits). SayHistory l opened.ledger.base records file.history) limits_are file.said in
    let alike = one letters.base opened.ledger.base records letters.history file.history letters.said said in
    let now : records ≡ with_header limits (recovered journal) = same ∙ ap (λ (f : List ℕ). with_header limits (recovered f)) copied in
    let sealed : opened.ledger.book.book.sealed ≡ length (sealed_letters file.history) = file.stands.represents.sealed in
    record {
      history = file.history;
      has = record {
        own = λ foreign. own (subst (IsForeign limits) (sym copied) foreign);
        whole = λ more. whole (subst (HasMoreBehind 16) (sym copied) more);
        said = subst (λ (rs : List (List ℕ)). SayHistory limits opened.ledger.base rs file.history) now said;
        reached = posted;
        sealed = omega (arith, counted, sealed);
      };
      stands = file.stands.represents;
      letters_are = letters.sealed ∙ ap (λ (b : ℕ). to_post b (first_edge edges) (sealed_letters letters.history)) alike.0 ∙ ap (λ (h : List Exchange). to_post opened.ledger.base (first_edge edges) (sealed_letters h)) alike.1;
      used_is = used ∙ ap (λ (rs : List (List ℕ)). length (encoded rs)) now;
      size_is = size ∙ ap length copied;
    }
