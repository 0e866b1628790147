-- The folders of one more level.
use Rattle.std.proofs.Common.{◌≡◌, ℕ, ◌+◌, List, [], ◌∷◌, ◌++◌, suc, refl, sym, subst, arith, ◌∙◌, append_assoc}
use Rattle.dsn_postfix_queue.specs.queue_folder.HashedId.{folder_level}
use Rattle.dsn_postfix_queue.specs.queue_folder.PathInQueue.{folder_levels}

levels_after : (id : List ℕ) (level next : ℕ) → next ≡ suc level
    → folder_levels id next ≡ folder_levels id level ++ (folder_level id level ∷ 47 ∷ [])
levels_after id level next is = rw is refl

pub one_level_more : (id front text : List ℕ) (level : ℕ) → text ≡ (front ++ folder_levels id level) ++ (folder_level id level ∷ 47 ∷ [])
    → text ≡ front ++ folder_levels id (level + 1)
one_level_more id front text level is =
    let more : folder_levels id (level + 1) ≡ folder_levels id level ++ (folder_level id level ∷ 47 ∷ []) =
    levels_after id level (level + 1) (omega arith) in
    subst (λ (levels : List ℕ). text ≡ front ++ levels) (sym more)
    (is ∙ append_assoc front (folder_levels id level) (folder_level id level ∷ 47 ∷ []))
