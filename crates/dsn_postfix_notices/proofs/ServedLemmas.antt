-- Deeds after a call that is no deed.
use Rattle.std.proofs.Common.{◌≡◌, List, Option, subst}
use Rattle.dsn_postfix_notices.specs.requests.Deed.{Deed}
use Rattle.dsn_postfix_notices.specs.requests.Gains.{Gains, with_deeds}

pub gains_after : {S : Type 0} → (deeds : S → Option (List Deed)) (old between new : S) (Are Is : List Deed → Type 0)
    → deeds between ≡ deeds old → Gains deeds between new Are → ((gained : List Deed) → Are gained → Is gained) → Gains deeds old new Is
gains_after deeds old between new Are Is same gains follows = record {
  gained = gains.gained;
  after = subst (λ (done : Option (List Deed)). deeds new ≡ with_deeds done gains.gained) same gains.after;
  are = follows gains.gained gains.are;
}
