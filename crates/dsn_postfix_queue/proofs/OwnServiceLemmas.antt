-- The result of a request that was sent to one of Postfix's own services.
use Rattle.std.proofs.Common.{◌≡◌, ℕ, Bool, true, false, List, [], ◌∷◌, ◌++◌, Result, Ok, Err, refl}
use Rattle.std.specs.Prelude.{IfOk, IfErr, IsTrue, codes}
use Rattle.dsn_postfix.specs.Attribute.{attribute_bytes}
use Rattle.dsn_device.specs.declared.drain.Drain
use Rattle.dsn_device.specs.declared.source.Source
use Rattle.dsn_postfix.specs.PostfixAnswer.{announcement_bytes, status_bytes}
use Rattle.dsn_postfix.specs.ListDialogue.{HearsList}
use Rattle.dsn_smtp.specs.Dialogue.{Says}
use Rattle.dsn_postfix_queue.specs.queue_folder.OwnService.{AsksOwnService, HearsNoStatus}
use Rattle.dsn_postfix_queue.specs.queue_folder.OwnService.AsksOwnService.{answered, unanswered}
use Rattle.dsn_postfix_notices.specs.declared.requests.deed_fault.DeedFault.{DeedFault}

pub asked : {S : Type 0} → (source : Source.Ghosts S) (drain : Drain.Ghosts S) (old announced said new : S) (request : List ℕ)
    (answer : Result ℕ DeedFault) → HearsList source old announced announcement_bytes → Says drain announced said request
    → IfOk answer (λ status. HearsList source said new (status_bytes status)) → IfErr answer (λ why. HearsNoStatus source said new why)
    → AsksOwnService source drain old new request answer
asked source drain old announced said new request (Ok status) hears says heard none = answered announced said status refl hears says heard
asked source drain old announced said new request (Err why) hears says heard none = unanswered announced said why refl hears says none

pub not_both : (b : Bool) → IsTrue b → b ≡ false → ⊥
not_both b holds fails = cc

-- ---- the announcement

abbrev pub announcement_text : List ℕ
announcement_text = codes "protocol" ++ (0 ∷ codes "delivery_status_protocol" ++ (0 ∷ 0 ∷ []))

pub announcement_is : announcement_bytes ≡ announcement_text
unfolding announcement_bytes attribute_bytes
announcement_is = refl
