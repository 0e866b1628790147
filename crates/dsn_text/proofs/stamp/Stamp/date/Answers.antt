use Rattle.std.proofs.Common.{◌≡◌, ℕ, ◌∙◌, List, ◌++◌, length, take, drop, codes, sym, arith, append_assoc, length-append}
use Rattle.std.proofs.lemmas.List.{take_at, drop_at}
use borrow.Rule.Slice.PartMut.{put_mid}
use Rattle.dsn_text.specs.Stamp.{date_text}
use Rattle.dsn_text.proofs.stamp.Stamp.date.Goals as goal

-- eight bytes after the first seventeen are replaced
written : (day time : List ℕ) → length day ≡ 16 → put_mid 17 8 (day ++ codes " 00:00:00 +0000") time ≡ day ++ codes " " ++ time ++ codes " +0000"
written day time h =
    let seam = sym (append_assoc day (codes " ") (codes "00:00:00 +0000")) in
    let seventeen : length (day ++ codes " ") ≡ 17 = omega (arith, length-append day (codes " ")) in
    let front : take 17 (day ++ codes " 00:00:00 +0000") ≡ day ++ codes " " = rw seam (take_at (day ++ codes " ") _ 17 seventeen) in
    let back : drop 17 (day ++ codes " 00:00:00 +0000") ≡ codes "00:00:00 +0000" = rw seam (drop_at (day ++ codes " ") _ 17 seventeen) in
    rw (front, back) (sym (append_assoc (day ++ codes " ") time (codes " +0000")))

pub returns : goal.returns
unfolding date_text
returns c =
    let day = c.copy_from_slice.ensures.after ∙ c.day.ensures in
    let time = c.copy_from_slice-2.ensures.after ∙ c.time.ensures in
    rw time (rw day (written _ _ (rw day at c.copy_from_slice.ensures.len)))
