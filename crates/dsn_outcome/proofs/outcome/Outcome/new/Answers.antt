use Rattle.std.proofs.Common.{refl, ap}
use Rattle.dsn_text.specs.Optional.{unless_empty}
use Rattle.dsn_outcome.specs.OutcomeParts.{fields_of}
use Rattle.dsn_outcome.proofs.OutcomeLemmas.{passes-none, legal-IsOutcomeOf}
use Rattle.dsn_outcome.proofs.outcome.Outcome.new.Goals as goal

pub invariant_of-outcome : goal.invariant_of-outcome
invariant_of-outcome c =
    legal-IsOutcomeOf c.args.service (fields_of c.args.parts) _ (passes-none c.args.service (fields_of c.args.parts) c.in_ok-action.ensures.none) (record { last_attempt = rw c.new-2.ensures.same at c.new-2.ensures.dated; retry_until = rw c.new-3.ensures.same at c.new-3.ensures.dated }) (record {
      service_is = refl;
      recipient_is = c.in_ok-new.ensures.recipient;
      recipient_type_is = ap unless_empty c.in_ok-new.ensures.recipient_type;
      original_is = ap unless_empty c.in_ok-new.ensures.original;
      original_type_is = ap unless_empty c.in_ok-new.ensures.original_type;
      action_is = c.in_ok-action.ensures.action;
      status_is = c.in_ok-action.ensures.status;
      mta_is = ap unless_empty c.in_ok-new.ensures.mta;
      diagnostic_is = ap unless_empty c.in_ok-new.ensures.diagnostic;
      diagnostic_type_is = ap unless_empty c.in_ok-new.ensures.diagnostic_type;
      reason_is = ap unless_empty c.in_ok-new.ensures.reason;
      last_attempt_is = c.new-2.ensures.same;
      retry_until_is = c.new-3.ensures.same;
      extensions_is = c.in_ok-new.ensures.extensions;
    })

pub linked-requires : goal.linked-requires
linked-requires c = invariant_of-outcome c
