use Rattle.std.proofs.Common.{◌≡◌, ◌+◌, List, ℕ, [], ◌∷◌, ◌++◌, take, sym, ◌∙◌, ap, subst}
use Rattle.std.proofs.lemmas.List.{take_more, take_all}
use Rattle.dsn_fakes.specs.MemoryDisk.{seen_after, LeftAfter}
use Rattle.dsn_fakes.specs.declared.memory_disk.Call.{Call}
use Rattle.dsn_fakes.proofs.OneCallMore.{seen_more, call_leaves}
use Rattle.dsn_fakes.proofs.memory_disk.leave_all.Goals as goal

pub loop-call-preserved : goal.loop-call-preserved
loop-call-preserved c =
    let i = c.loop-call.call-index in
    let calls : List Call = c.args.calls.now in
    let call = c.call-item.result in
    let first = c.args.seen.now in
    let more : take (i + 1) calls ≡ take i calls ++ call ∷ [] = take_more calls i call c.loop-call-test.true ∙ ap (λ (x : Call). take i calls ++ x ∷ []) (sym c.call-item.is) in
    record {
      seen =
          c.in_ok-leave.ensures.seen ∙ ap (λ (f : List ℕ). seen_after (call ∷ []) f) c.loop-call.invariant.seen ∙ sym (seen_more (take i calls) (call ∷ []) first)
          ∙ ap (λ (l : List Call). seen_after l first) (sym more);
      left =
          subst (λ (l : List Call). LeftAfter l first (λ f. f ≡ c.args.left.now) c.leave.new.left) (sym more)
          (call_leaves call (take i calls) first (λ f. f ≡ c.args.left.now) c.loop-call.seen c.loop-call.left c.leave.new.left c.loop-call.invariant.seen c.loop-call.invariant.left c.in_ok-leave.ensures.left);
    }

pub returns : goal.returns
returns c =
    let calls : List Call = c.args.calls.now in
    subst (λ (l : List Call). LeftAfter l c.args.seen.now (λ f. f ≡ c.args.left.now) c.loop-call.left) (take_all c.loop-call.call-index calls c.loop-call-test.false) c.loop-call.invariant.left
