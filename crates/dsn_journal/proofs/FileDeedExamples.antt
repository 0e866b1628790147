-- Worked examples of the deeds of files, each computed.
use Rattle.std.proofs.Common.{◌≡◌, inl, inr, ℕ, List, [], ◌∷◌, Some, Result, Ok, Err, refl}
use Rattle.dsn_journal.specs.FileDeeds.{BytesRead, DataSynced, Did, Failed, FolderSynced, Locked, Measured, NameChecked, Opened, Tries, after_calls, opening, putting_in_place, settling}
use Rattle.dsn_journal.specs.Folder.{folder_calls, MakeBeside, SyncBeside, Rename, SyncFolder}

-- a file's name
abbrev name : List ℕ
name = 106 ∷ []

-- the deeds by which a file of two bytes is opened
opened : after_calls (Some []) (opening name (8 ∷ 9 ∷ []))
    ≡ Some (Did (Opened name) ∷ Did Locked ∷ Did (NameChecked name) ∷ Did (FolderSynced name) ∷ Did DataSynced ∷ Did (Measured 2) ∷ Did (BytesRead (8 ∷ 9 ∷ [])) ∷ [])
opened = refl

-- another process has locked the file: nothing is read or synced
locked_elsewhere : Tries {T = Unit {0}} {E = Unit {0}} (Err tt) (settling name) (Some []) (Some (Did (Opened name) ∷ Failed Locked ∷ []))
locked_elsewhere = inr (inl refl)

-- without a failed call a result is no error
never_without_cause : Tries {T = Unit {0}} {E = Unit {0}} (Err tt) (Locked ∷ []) (Some []) (Some (Did Locked ∷ [])) → ⊥
never_without_cause (inl is) = absurd (cc is)
never_without_cause (inr none) = none

-- a file is replaced by the four calls of a folder
replaced : folder_calls (putting_in_place (120 ∷ []) name (8 ∷ 9 ∷ [])) ≡ MakeBeside (8 ∷ 9 ∷ []) ∷ SyncBeside ∷ Rename ∷ SyncFolder ∷ []
replaced = refl
