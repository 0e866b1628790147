use Rattle.std.proofs.Common.{◌≡◌, ◌∙◌, List, ℕ, Result, Ok, true, ap, map, subst, sym, take}
use Rattle.std.proofs.lemmas.Result.{err_from_is_err_and}
use Rattle.std.specs.List.{list_any}
use Rattle.std.specs.Option.{option_map, unwrap_or}
use Rattle.std.specs.Prelude.{IfErr, IfOk}
use Rattle.dsn_postfix.specs.NoticePlan.{notices_of}
use Rattle.dsn_postfix.specs.PlannedNotice.{NoticeFacts}
use Rattle.dsn_postfix.specs.declared.cant_say.CantSay.{CantSay}
use Rattle.dsn_postfix_files.specs.MessageFacts.{message_facts_in, said_of_message}
use Rattle.dsn_postfix_files.specs.MessageHeader.{front_size}
use Rattle.dsn_postfix_files.specs.MessageText.{message_text}
use Rattle.dsn_postfix_files.specs.QueueListing.{RecordsFrom}
use Rattle.dsn_postfix_files.specs.QueueRecipients.{recipient_facts_in, recipients_of}
use Rattle.dsn_postfix_files.specs.QueueWalk.{first_place}
use Rattle.dsn_postfix_notices.specs.letters.ReportedMessage.{MessageSaid}
use Rattle.dsn_postfix_notices.specs.requests.RequestLetters.{AreLettersAsked, AreLettersOf, CantBeSaid, IsUnsaid, first_serial, has_fault, message_said}
use Rattle.dsn_postfix_notices.specs.inner.RequestLetters.{IsReason}
use Rattle.dsn_postfix_notices.specs.requests.Task.{Task}
use Rattle.dsn_text.specs.Text.{longest_header}
use Rattle.dsn_postfix_notices.proofs.FrontLemmas.{any_fault_of_front, letters_of_front, with_front}
use Rattle.dsn_postfix_notices.proofs.RequestLetterLemmas.{err_as, ok_as, plan_reason, reason_as}
use Rattle.dsn_postfix_notices.proofs.requests.request_letters.letters_asked.Goals as goal

pub returns-clause-letters : goal.returns-clause-letters
returns-clause-letters c =
    let task : Task = record {
      terms = record {
        settings = record {
          site = c.settings.inside.site.now;
          double_bounce = c.settings.inside.double_bounce.now;
          lifetime = c.settings.inside.lifetime;
          size_limit = c.settings.inside.size_limit;
          copies = c.settings.inside.copies;
          threaded = c.settings.inside.threaded;
        };
        service = c.terms.inside.service;
        moment = c.terms.inside.moment;
        serial = c.terms.inside.first_serial;
      };
      request = c.task.inside.request.now;
      notice = c.task.inside.notice.now;
    } in
    let task_is : task ≡ c.args.task.now =
    (λ i. record {
      terms = record { settings = c.settings.view_is i; service = c.terms.inside.service; moment = c.terms.inside.moment; serial = c.terms.inside.first_serial };
      request = c.task.inside.request.now;
      notice = c.task.inside.notice.now;
    })
    ∙ (λ i. record { terms = c.terms.view_is i; request = c.task.inside.request.now; notice = c.task.inside.notice.now })
    ∙ c.task.view_is in
    let file : List ℕ = c.args.found.now.file in
    let listing = c.queue_files_have_one_list.ensures file in
    let records = listing.records in
    let ending = listing.ending in
    let come_from : (other : List ℕ) → other ≡ file → RecordsFrom other (first_place other) records ending =
    λ other is. subst (λ (f : List ℕ). RecordsFrom f (first_place f) records ending) (sym is) listing.lists in
    let queued : map recipient_facts_in c.deref-2.result.now ≡ recipients_of records =
    ap (map recipient_facts_in) c.deref-2.ensures.value ∙ c.in_ok-queued.ensures records ending (come_from _ c.file-file.ensures) in
    let text : c.deref.result.now ≡ take (front_size longest_header) (message_text records) =
    c.deref.ensures.value ∙ c.in_ok-text.ensures records ending (come_from _ c.file-file.ensures) in
    let facts : message_facts_in c.facts_said-facts.result ≡ said_of_message records = c.facts_said-facts.ensures records ending (come_from _ c.file-file.ensures) in
    let notice = task.notice in
    let sender : c.sender_said.result.now ≡ unwrap_or (said_of_message records).sender notice.sender =
    c.sender_said.ensures ∙ (λ i. unwrap_or (facts i).sender (c.bytes.ensures.same i)) in
    let notices : List NoticeFacts = c.in_ok-notices.notices.items in
    let planned : notices_of task.terms.settings.double_bounce task.terms.service task.request (recipients_of records) c.args.found.now.log ≡ Ok notices =
    (λ i. notices_of task.terms.settings.double_bounce task.terms.service task.request (sym queued i) (sym c.log.ensures i)) ∙ c.in_ok-notices.ensures in
    let serial_is : c.first_serial.result ≡ first_serial task c.args.found.now.log =
    c.first_serial.ensures ∙ (λ i. first_serial (sym task_is i) c.args.found.now.log) in
    subst (λ (asked : Task). IfOk c.letters_of.result (λ letters. AreLettersAsked asked c.args.found.now letters.items)) task_is
    (ok_as c.letters_of.result _ _ c.letters_of.ensures.letters (λ letters are. record {
      records = records;
      ending = ending;
      listed = listing.lists;
      notices = notices;
      planned = planned;
      each = subst (λ (serial : ℕ). AreLettersOf (message_said task records) task.terms.moment serial notices letters.items) serial_is
          (letters_of_front c.fronts_show_headers.ensures (message_said task records) task.terms.moment c.first_serial.result notices letters.items
          (subst (λ (ns : List NoticeFacts). AreLettersOf (with_front (message_said task records)) task.terms.moment c.first_serial.result ns letters.items) c.deref-3.ensures.value
          (subst (λ (message : MessageSaid). AreLettersOf message task.terms.moment c.first_serial.result c.deref-3.result.now letters.items)
          (λ i. record {
            queue_id = notice.queue_id;
            arrival = (facts i).arrival;
            sender = sender i;
            envelope_id = c.bytes-2.ensures.same i;
            text = text i;
            lifetime = task.terms.settings.lifetime;
            size_limit = task.terms.settings.size_limit;
          }) are)));
    }))

pub returns-clause-none : goal.returns-clause-none
returns-clause-none c =
    let task : Task = record {
      terms = record {
        settings = record {
          site = c.settings.inside.site.now;
          double_bounce = c.settings.inside.double_bounce.now;
          lifetime = c.settings.inside.lifetime;
          size_limit = c.settings.inside.size_limit;
          copies = c.settings.inside.copies;
          threaded = c.settings.inside.threaded;
        };
        service = c.terms.inside.service;
        moment = c.terms.inside.moment;
        serial = c.terms.inside.first_serial;
      };
      request = c.task.inside.request.now;
      notice = c.task.inside.notice.now;
    } in
    let task_is : task ≡ c.args.task.now =
    (λ i. record {
      terms = record { settings = c.settings.view_is i; service = c.terms.inside.service; moment = c.terms.inside.moment; serial = c.terms.inside.first_serial };
      request = c.task.inside.request.now;
      notice = c.task.inside.notice.now;
    })
    ∙ (λ i. record { terms = c.terms.view_is i; request = c.task.inside.request.now; notice = c.task.inside.notice.now })
    ∙ c.task.view_is in
    let file : List ℕ = c.args.found.now.file in
    let listing = c.queue_files_have_one_list.ensures file in
    let records = listing.records in
    let ending = listing.ending in
    let come_from : (other : List ℕ) → other ≡ file → RecordsFrom other (first_place other) records ending =
    λ other is. subst (λ (f : List ℕ). RecordsFrom f (first_place f) records ending) (sym is) listing.lists in
    let queued : map recipient_facts_in c.deref-2.result.now ≡ recipients_of records =
    ap (map recipient_facts_in) c.deref-2.ensures.value ∙ c.in_ok-queued.ensures records ending (come_from _ c.file-file.ensures) in
    let text : c.deref.result.now ≡ take (front_size longest_header) (message_text records) =
    c.deref.ensures.value ∙ c.in_ok-text.ensures records ending (come_from _ c.file-file.ensures) in
    let facts : message_facts_in c.facts_said-facts.result ≡ said_of_message records = c.facts_said-facts.ensures records ending (come_from _ c.file-file.ensures) in
    let notice = task.notice in
    let sender : c.sender_said.result.now ≡ unwrap_or (said_of_message records).sender notice.sender =
    c.sender_said.ensures ∙ (λ i. unwrap_or (facts i).sender (c.bytes.ensures.same i)) in
    let notices : List NoticeFacts = c.in_ok-notices.notices.items in
    let said : MessageSaid = message_said task records in
    let planned : notices_of task.terms.settings.double_bounce task.terms.service task.request (recipients_of records) c.args.found.now.log ≡ Ok notices =
    (λ i. notices_of task.terms.settings.double_bounce task.terms.service task.request (sym queued i) (sym c.log.ensures i)) ∙ c.in_ok-notices.ensures in
    subst (λ (asked : Task). IfErr c.letters_of.result (IsReason (CantBeSaid asked c.args.found.now))) task_is
    (err_as c.letters_of.result _ _ c.letters_of.ensures.none (λ why reason.
    reason_as _ _ why reason (λ fault. record {
      records = records;
      ending = ending;
      listed = listing.lists;
      unsaid = subst (λ (plan : Result (List NoticeFacts) CantSay). IsUnsaid said plan) (sym planned)
          (any_fault_of_front c.fronts_show_headers.ensures said notices
          (subst (λ (ns : List NoticeFacts). list_any (has_fault (with_front said)) ns ≡ true) c.deref-3.ensures.value
          (subst (λ (message : MessageSaid). list_any (has_fault message) c.deref-3.result.now ≡ true)
          (λ i. record {
            queue_id = notice.queue_id;
            arrival = (facts i).arrival;
            sender = sender i;
            envelope_id = c.bytes-2.ensures.same i;
            text = text i;
            lifetime = task.terms.settings.lifetime;
            size_limit = task.terms.settings.size_limit;
          }) fault)));
    })))

pub returns-in_err-notices-clause-none : goal.returns-in_err-notices-clause-none
returns-in_err-notices-clause-none c =
    let exit = err_from_is_err_and c.from_residual-in_err-notices.result c.from_residual-in_err-notices.ensures.1 in
    let task : Task = record {
      terms = record {
        settings = record {
          site = c.settings.inside.site.now;
          double_bounce = c.settings.inside.double_bounce.now;
          lifetime = c.settings.inside.lifetime;
          size_limit = c.settings.inside.size_limit;
          copies = c.settings.inside.copies;
          threaded = c.settings.inside.threaded;
        };
        service = c.terms.inside.service;
        moment = c.terms.inside.moment;
        serial = c.terms.inside.first_serial;
      };
      request = c.task.inside.request.now;
      notice = c.task.inside.notice.now;
    } in
    let task_is : task ≡ c.args.task.now =
    (λ i. record {
      terms = record { settings = c.settings.view_is i; service = c.terms.inside.service; moment = c.terms.inside.moment; serial = c.terms.inside.first_serial };
      request = c.task.inside.request.now;
      notice = c.task.inside.notice.now;
    })
    ∙ (λ i. record { terms = c.terms.view_is i; request = c.task.inside.request.now; notice = c.task.inside.notice.now })
    ∙ c.task.view_is in
    let file : List ℕ = c.args.found.now.file in
    let listing = c.queue_files_have_one_list.ensures file in
    let records = listing.records in
    let ending = listing.ending in
    let come_from : (other : List ℕ) → other ≡ file → RecordsFrom other (first_place other) records ending =
    λ other is. subst (λ (f : List ℕ). RecordsFrom f (first_place f) records ending) (sym is) listing.lists in
    let queued : map recipient_facts_in c.deref-2.result.now ≡ recipients_of records =
    ap (map recipient_facts_in) c.deref-2.ensures.value ∙ c.in_ok-queued.ensures records ending (come_from _ c.file-file.ensures) in
    let plan : Result (List NoticeFacts) CantSay = notices_of task.terms.settings.double_bounce task.terms.service task.request (map recipient_facts_in c.deref-2.result.now) (option_map (λ log. log.now) c.log.result) in
    let plan_is : notices_of task.terms.settings.double_bounce task.terms.service task.request (recipients_of records) c.args.found.now.log ≡ plan =
    λ i. notices_of task.terms.settings.double_bounce task.terms.service task.request (sym queued i) (sym c.log.ensures i) in
    rw (exit.1, exit.2) (plan_reason plan c.in_err-notices.field-0.0 c.in_err-notices.ensures (λ why is.
    subst (λ (asked : Task). CantBeSaid asked c.args.found.now) task_is (record {
      records = records;
      ending = ending;
      listed = listing.lists;
      unsaid = subst (λ (plan : Result (List NoticeFacts) CantSay). IsUnsaid (message_said task records) plan) (sym (plan_is ∙ is)) tt;
    })))
