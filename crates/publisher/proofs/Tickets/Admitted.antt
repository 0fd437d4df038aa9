-- The tickets of a publisher whose subscriptions are one more.
use Rattle.std.proofs.Common.{◌≡◌, ◌⊎◌, inl, inr, ℕ, Option, None, Some, Result, Ok, Err, List, length, refl, sym, ap, subst, ◌∙◌, arith}
use Rattle.std.specs.Prelude.{IfOk, IsSome, OnErr, slice_get}
use Rattle.std.proofs.lemmas.List.{length-map}
use Rattle.close_count.specs.Count.{CountId}
use Rattle.close_count.specs.Opening.{count_of_opening}
use Rattle.close_count.specs.Ticket.{count_of_ticket}
use Rattle.close_count.specs.declared.opening.Opening.{Opening}
use Rattle.close_count.specs.declared.spent.Spent.{Spent}
use Rattle.close_count.specs.declared.ticket.Ticket.{Ticket}
use Rattle.flow_rules.specs.declared.ending.Ending.{Ending}
use Rattle.flow_rules.specs.declared.refusal.Refusal.{Refusal}
use Rattle.feed_cell.specs.Parties.{ProducerState, TaskState}
use Rattle.feed_cell.specs.Offering.{DoesCall}
use Rattle.publisher_hub.specs.Entry.{entry_of}
use Rattle.publisher_hub.specs.Hub.{HubState, hub_of}
use Rattle.publisher_hub.specs.OpeningTicket.{AddsTicket}
use Rattle.publisher_hub.specs.Subscribing.{AdmitsWith, first_entry_with}
use Rattle.publisher_hub.specs.Vacant.{TakesPlace}
use Rattle.publisher_hub.specs.declared.entry.Entry.{Entry}
use Rattle.publisher_hub.specs.declared.hub.Hub.{Hub}
use Rattle.publisher_hub.specs.declared.policy.OnFull.{OnFull}
use Rattle.publisher_hub.specs.declared.work.Work.{Work}
use Rattle.publisher_hub.proofs.AnswerLists.Updates.{get_grown}
use Rattle.publisher_hub.proofs.PartialRounds.Next.{get_before_map, get_mapped}
use Rattle.publisher_hub.proofs.PartialRounds.Progress.{same_some}
use Rattle.publisher_hub.proofs.Soundness.Replacing.{set_or_stood}
use Rattle.publisher.specs.Tickets.{IsOfCount, IsTicketFor, IsTicketed}
use Rattle.publisher.proofs.SoundStates.KeptStates.{stays_seen, tickets_stay}
use Rattle.publisher.specs.State.{IsCountedAtClose, producer_end}

-- what a new subscription gets is of the count of the opening; it gets nothing only if the publisher is closed, and
-- then it is late
ticketed_first : (name : List ℕ) (on_full : OnFull) (feed : ProducerState) (hub : Hub ProducerState) (count : CountId)
    (counted : Option ℕ) (number : ℕ) (ticket : Option Ticket)
    → ((opening : Opening) → hub.opening ≡ Some opening → count_of_opening opening ≡ count)
    → IsTicketFor hub ticket → IsCountedAtClose (hub_of producer_end hub) counted → number ≡ length (hub_of producer_end hub).entries
    → IsTicketed count counted hub.next number (entry_of producer_end (first_entry_with name on_full hub.next feed ticket))
ticketed_first name on_full feed hub count counted number None of_opening for_it close is_next = record {
  of_count = λ t at. cc;
  spent = λ _. let before = close.closed for_it in inr (before.0, (before.1.0, let few = before.1.1 in omega arith));
  late = λ _. refl;
}
ticketed_first name on_full feed hub count counted number (Some ticket) of_opening for_it close is_next = record {
  of_count = λ t at. ap count_of_ticket (sym (same_some at)) ∙ for_it.1.1 ∙ of_opening for_it.0 for_it.1.0;
  spent = λ none. cc;
  late = λ _. refl;
}

module _ (name : List ℕ) (on_full : OnFull) (feed : ProducerState) (ticket : Option Ticket) (most number : ℕ)
    (due_before due_after : List (Work TaskState)) (old new : Hub ProducerState) where
  pub tickets_admitted : (count : CountId) (counted : Option ℕ) (last : Option Spent)
      → IsOfCount count (hub_of producer_end old) counted last → IsCountedAtClose (hub_of producer_end old) counted → IsTicketFor old ticket
      → AdmitsWith producer_end DoesCall name on_full feed ticket most number due_before due_after old new
      → IsOfCount count (hub_of producer_end new) counted last
  tickets_admitted count counted last is close for_it admits = record {
    opening = λ opening held. is.opening opening (sym (ap (λ (h : HubState). h.opening) admits.rest) ∙ held);
    entries = λ k entry at.
        let here = get_before_map (entry_of producer_end) new.entries.items k entry at in
        subst (IsTicketed count counted new.next k) here.1.1
        (subst (λ n. IsTicketed count counted n k (entry_of producer_end here.0))
        (sym (ap (λ (h : HubState). h.progress.next) admits.rest))
        (by k here.0 (get_grown admits.middle.entries.items (first_entry_with name on_full old.next admits.after ticket) k here.0
        (sym (ap (λ es. slice_get es k) admits.entries) ∙ here.1.0))));
    last_is = is.last_is;
    closed = λ some. subst IsSome (sym (ap (λ (h : HubState). h.progress.ending) admits.rest)) (is.closed some);
  } where
    seen : IsOfCount count (hub_of producer_end admits.middle) counted last
    seen = tickets_stay count (hub_of producer_end old) (hub_of producer_end admits.middle) counted last is
        (stays_seen (hub_of producer_end old) (hub_of producer_end admits.middle) admits.seen.rest admits.seen.kept)

    as_many : length admits.middle.entries.items ≡ length (hub_of producer_end old).entries
    as_many = sym (length-map admits.middle.entries.items (entry_of producer_end)) ∙ admits.seen.kept.as_long

    by : (k : ℕ) (x : Entry ProducerState) → (slice_get admits.middle.entries.items k ≡ Some x) ⊎
        ((k ≡ length admits.middle.entries.items) × (first_entry_with name on_full old.next admits.after ticket ≡ x))
        → IsTicketed count counted old.next k (entry_of producer_end x)
    by k x (inl stood) = subst (λ n. IsTicketed count counted n k (entry_of producer_end x))
        (ap (λ (h : HubState). h.progress.next) admits.seen.rest)
        (seen.entries k (entry_of producer_end x) (get_mapped (entry_of producer_end) admits.middle.entries.items k x stood))
    by k x (inr first) = subst (λ (e : Entry ProducerState). IsTicketed count counted old.next k (entry_of producer_end e)) first.1
        (ticketed_first name on_full admits.after old count counted k ticket is.opening for_it close (first.0 ∙ as_many))

-- one that gets the place of another while the publisher is open, and so a ticket
ticketed_open : (name : List ℕ) (on_full : OnFull) (feed : ProducerState) (hub : Hub ProducerState) (count : CountId)
    (counted : Option ℕ) (number : ℕ) (ticket : Option Ticket)
    → ((opening : Opening) → hub.opening ≡ Some opening → count_of_opening opening ≡ count)
    → IsTicketFor hub ticket → hub.ending ≡ None
    → IsTicketed count counted hub.next number (entry_of producer_end (first_entry_with name on_full hub.next feed ticket))
ticketed_open name on_full feed hub count counted number None of_opening for_it unclosed = absurd (never hub.ending unclosed for_it) where
  never : (ending : Option Ending) → ending ≡ None → IsSome ending → ⊥
  never None none some = cc
  never (Some how) none some = cc
ticketed_open name on_full feed hub count counted number (Some ticket) of_opening for_it unclosed = record {
  of_count = λ t at. ap count_of_ticket (sym (same_some at)) ∙ for_it.1.1 ∙ of_opening for_it.0 for_it.1.0;
  spent = λ none. cc;
  late = λ _. refl;
}

module _ (place : ℕ) (name : List ℕ) (on_full : OnFull) (feed : ProducerState) (ticket : Option Ticket) (most : ℕ)
    (due_before due_after : List (Work TaskState)) (old new : Hub ProducerState) where
  pub tickets_put : (count : CountId) (counted : Option ℕ) (last : Option Spent)
      → IsOfCount count (hub_of producer_end old) counted last → IsTicketFor old ticket → old.ending ≡ None
      → TakesPlace producer_end DoesCall place name on_full feed ticket most due_before due_after old new
      → IsOfCount count (hub_of producer_end new) counted last
  tickets_put count counted last is for_it unclosed takes = record {
    opening = λ opening held. is.opening opening (sym (ap (λ (h : HubState). h.opening) takes.rest) ∙ held);
    entries = λ k entry at.
        let here = get_before_map (entry_of producer_end) new.entries.items k entry at in
        subst (IsTicketed count counted new.next k) here.1.1
        (subst (λ n. IsTicketed count counted n k (entry_of producer_end here.0))
        (sym (ap (λ (h : HubState). h.progress.next) takes.rest))
        (by k here.0 (set_or_stood takes.middle.entries.items place (first_entry_with name on_full old.next takes.after ticket) k here.0
        (sym (ap (λ es. slice_get es k) takes.entries) ∙ here.1.0))));
    last_is = is.last_is;
    closed = λ some. subst IsSome (sym (ap (λ (h : HubState). h.progress.ending) takes.rest)) (is.closed some);
  } where
    seen : IsOfCount count (hub_of producer_end takes.middle) counted last
    seen = tickets_stay count (hub_of producer_end old) (hub_of producer_end takes.middle) counted last is
        (stays_seen (hub_of producer_end old) (hub_of producer_end takes.middle) takes.seen.rest takes.seen.kept)

    by : (k : ℕ) (x : Entry ProducerState) → ((place ≡ k) × (first_entry_with name on_full old.next takes.after ticket ≡ x))
        ⊎ (slice_get takes.middle.entries.items k ≡ Some x) → IsTicketed count counted old.next k (entry_of producer_end x)
    by k x (inl first) = subst (λ (e : Entry ProducerState). IsTicketed count counted old.next k (entry_of producer_end e)) first.1
        (ticketed_open name on_full takes.after old count counted k ticket is.opening for_it unclosed)
    by k x (inr stood) = subst (λ n. IsTicketed count counted n k (entry_of producer_end x))
        (ap (λ (h : HubState). h.progress.next) takes.seen.rest)
        (seen.entries k (entry_of producer_end x) (get_mapped (entry_of producer_end) takes.middle.entries.items k x stood))

-- one more ticket of the count
module _ (result : Result (Option Ticket) Refusal) (old new : Hub ProducerState)
    (closed : IsSome old.ending → (result ≡ Ok None) × (new ≡ old))
    (ok : old.ending ≡ None → IfOk result (λ ticket. AddsTicket ticket old.opening new.opening)) where
  pub same_count : OnErr result (new ≡ old) → (count : CountId)
      → ((opening : Opening) → old.opening ≡ Some opening → count_of_opening opening ≡ count) → (opening : Opening)
      → new.opening ≡ Some opening → count_of_opening opening ≡ count
  same_count err count is opening held = by old.ending refl where
    added : (r : Result (Option Ticket) Refusal) → IfOk r (λ ticket. AddsTicket ticket old.opening new.opening)
        → OnErr r (new ≡ old) → count_of_opening opening ≡ count
    added (Ok None) adds same = absurd adds
    added (Ok (Some ticket)) adds same = ap count_of_opening (same_some (sym held ∙ adds.now)) ∙ adds.same_count ∙ is adds.held adds.was
    added (Err refusal) adds same = is opening (sym (ap (λ (h : Hub ProducerState). h.opening) same) ∙ held)

    by : (ending : Option Ending) → old.ending ≡ ending → count_of_opening opening ≡ count
    by None e = added result (ok e) err
    by (Some how) e = is opening (sym (ap (λ (h : Hub ProducerState). h.opening) (closed (rw e refl)).1) ∙ held)

  -- what it answers is for one subscription more
  pub ticket_for_one : IfOk result (IsTicketFor new)
  ticket_for_one = by old.ending refl where
    added : (r : Result (Option Ticket) Refusal) → IfOk r (λ ticket. AddsTicket ticket old.opening new.opening) → IfOk r (IsTicketFor new)
    added (Ok None) adds = absurd adds
    added (Ok (Some ticket)) adds = (adds.left, (adds.now, adds.of_count ∙ sym adds.same_count))
    added (Err refusal) adds = cc

    none_added : (how : Ending) → old.ending ≡ Some how → IfOk {E = Refusal} (Ok None) (IsTicketFor new)
    none_added how e = subst IsSome (sym (ap (λ (h : Hub ProducerState). h.ending) (closed (rw e refl)).1)) (rw e refl)

    by : (ending : Option Ending) → old.ending ≡ ending → IfOk result (IsTicketFor new)
    by None e = added result (ok e)
    by (Some how) e = subst (λ r. IfOk r (IsTicketFor new)) (sym (closed (rw e refl)).0) (none_added how e)
