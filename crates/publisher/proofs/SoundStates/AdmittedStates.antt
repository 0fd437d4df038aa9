-- What stands behind a publisher's lock after one more subscription.
use Rattle.std.proofs.Common.{◌≡◌, inl, inr, ℕ, ◌+◌, ◌<◌, Option, None, List, [], length, refl, sym, ap, subst, ◌∙◌, arith}
use Rattle.std.specs.Prelude.{IsSome}
use Rattle.std.proofs.lemmas.List.{length-map, length-append, length-set}
use Rattle.std.proofs.lemmas.Option.{slice_get_within}
use Rattle.close_count.specs.declared.ticket.Ticket.{Ticket}
use Rattle.feed_cell.specs.Parties.{ProducerState, TaskState}
use Rattle.feed_cell.specs.Offering.{DoesCall}
use Rattle.feed_core.specs.LaneCalls.{IsCapacity}
use Rattle.publisher_hub.specs.Entry.{entry_of}
use Rattle.publisher_hub.specs.Hub.{HubState, hub_of}
use Rattle.publisher_hub.specs.Sound.{IsSound}
use Rattle.publisher_hub.specs.Subscribing.{AdmitsWith}
use Rattle.publisher_hub.specs.Vacant.{TakesPlace}
use Rattle.publisher_hub.specs.declared.hub.Hub.{Hub}
use Rattle.publisher_hub.specs.declared.policy.OnFull.{OnFull}
use Rattle.publisher_hub.specs.declared.work.Work.{Work}
use Rattle.publisher.specs.State.{IsState, Sums, producer_end}
use Rattle.publisher.specs.Subscribing.{AdmitsOne, AdmitsOpen}
use Rattle.publisher.specs.Tickets.{IsTicketFor}
use Rattle.publisher.proofs.Tickets.Admitted.{tickets_admitted, tickets_put}
use Rattle.publisher.proofs.SoundStates.Histories.{accepted_admitted, accepted_put, logged_still}
use Rattle.publisher.proofs.SoundStates.KeptStates.{counted_stays, stays_seen}
use Rattle.publisher.proofs.Tickets.Ticketed.{accepted_still}

-- one more after all others
pub state_admitted : (name : List ℕ) (on_full : OnFull) (feed : ProducerState) (ticket : Option Ticket) (most number : ℕ)
    (due_before due_after : List (Work TaskState)) (old new : Hub ProducerState) (sums : Sums)
    → IsState (hub_of producer_end old) sums → IsSound (hub_of producer_end new) → IsTicketFor old ticket
    → (producer_end feed).accepted ≡ []
    → AdmitsWith producer_end DoesCall name on_full feed ticket most number due_before due_after old new
    → IsState (hub_of producer_end new) (record sums { entries = number + 1 })
state_admitted name on_full feed ticket most number due_before due_after old new sums is sound for_it empty admits = record {
  sound = sound;
  sized = subst IsCapacity (sym (ap (λ (h : HubState). h.progress.capacity) admits.rest)) is.sized;
  opened = λ none. subst IsSome (sym (ap (λ (h : HubState). h.opening) admits.rest))
      (is.opened (sym (ap (λ (h : HubState). h.progress.ending) admits.rest) ∙ none));
  published_is = is.published_is ∙ sym (ap (λ (h : HubState). h.progress.next) admits.rest);
  dropping_is = is.dropping_is ∙ sym (ap (λ (h : HubState). h.progress.dropping) admits.rest);
  parts_are = is.parts_are;
  none_published = is.none_published;
  drop_parts_are = is.drop_parts_are;
  none_dropped = is.none_dropped;
  sources_are = is.sources_are ∙ sym (ap (λ (h : HubState). h.sources) admits.rest);
  entries_are =
      let seen : length admits.middle.entries.items ≡ length old.entries.items =
      sym (length-map admits.middle.entries.items (entry_of producer_end)) ∙ admits.seen.kept.as_long
      ∙ length-map old.entries.items (entry_of producer_end) in
      let added = length-map new.entries.items (entry_of producer_end) ∙ ap length admits.entries
      ∙ length-append admits.middle.entries.items _ in
      let first = admits.is_next in
      omega arith;
  counted_is = record {
    unclosed = λ none. is.counted_is.unclosed (sym (ap (λ (h : HubState). h.progress.ending) admits.rest) ∙ none);
    closed = λ some.
        let before = is.counted_is.closed (subst IsSome (ap (λ (h : HubState). h.progress.ending) admits.rest) some) in
        let seen : length admits.middle.entries.items ≡ length (hub_of producer_end old).entries =
        sym (length-map admits.middle.entries.items (entry_of producer_end)) ∙ admits.seen.kept.as_long in
        let added = length-map new.entries.items (entry_of producer_end) ∙ ap length admits.entries
        ∙ length-append admits.middle.entries.items _ in
        (before.0, (before.1.0, let few = before.1.1 in omega arith));
  };
  tickets = (
    is.tickets.0,
    tickets_admitted name on_full feed ticket most number due_before due_after old new is.tickets.0
        sums.counted sums.last is.tickets.1 is.counted_is for_it admits,
  );
  logged = logged_still (hub_of producer_end old) (hub_of producer_end new) sums.log sums.made is.logged
      (ap (λ (h : HubState). h.progress.next) admits.rest) (ap (λ (h : HubState). h.sources) admits.rest)
      (λ x at. accepted_still (hub_of producer_end old).entries (hub_of producer_end admits.middle).entries
      (stays_seen (hub_of producer_end old) (hub_of producer_end admits.middle) admits.seen.rest admits.seen.kept).keep x
      (accepted_admitted name on_full feed ticket most number due_before due_after old new empty admits x at));
}

-- one in the place of another, while the publisher is open
module _ (place : ℕ) (name : List ℕ) (on_full : OnFull) (feed : ProducerState) (ticket : Option Ticket) (most : ℕ)
    (due_before due_after : List (Work TaskState)) (old new : Hub ProducerState)
    (takes : TakesPlace producer_end DoesCall place name on_full feed ticket most due_before due_after old new) where
  long_middle : length takes.middle.entries.items ≡ length (hub_of producer_end old).entries
  long_middle = sym (length-map takes.middle.entries.items (entry_of producer_end)) ∙ takes.seen.kept.as_long

  -- there are as many places as before, of which this is one
  long : length (hub_of producer_end new).entries ≡ length (hub_of producer_end old).entries
  long = length-map new.entries.items (entry_of producer_end) ∙ ap length takes.entries
      ∙ length-set takes.middle.entries.items place _ ∙ long_middle

  pub place_within : place < length (hub_of producer_end old).entries
  place_within = let less = slice_get_within takes.middle.entries.items place takes.vacant.0 takes.vacant.1.0 in
      let many = long_middle in omega arith

  pub state_put : (sums : Sums) → IsState (hub_of producer_end old) sums → IsSound (hub_of producer_end new) → IsTicketFor old ticket
      → (producer_end feed).accepted ≡ [] → old.ending ≡ None → IsState (hub_of producer_end new) sums
  state_put sums is sound for_it empty unclosed = record {
    sound = sound;
    sized = subst IsCapacity (sym (ap (λ (h : HubState). h.progress.capacity) takes.rest)) is.sized;
    opened = λ none. subst IsSome (sym (ap (λ (h : HubState). h.opening) takes.rest))
        (is.opened (sym (ap (λ (h : HubState). h.progress.ending) takes.rest) ∙ none));
    published_is = is.published_is ∙ sym (ap (λ (h : HubState). h.progress.next) takes.rest);
    dropping_is = is.dropping_is ∙ sym (ap (λ (h : HubState). h.progress.dropping) takes.rest);
    parts_are = is.parts_are;
    none_published = is.none_published;
    drop_parts_are = is.drop_parts_are;
    none_dropped = is.none_dropped;
    sources_are = is.sources_are ∙ sym (ap (λ (h : HubState). h.sources) takes.rest);
    entries_are = is.entries_are ∙ sym long;
    counted_is = counted_stays (hub_of producer_end old) (hub_of producer_end new) sums.counted is.counted_is
        (ap (λ (h : HubState). h.progress.ending) takes.rest) long;
    tickets = (
      is.tickets.0,
      tickets_put place name on_full feed ticket most due_before due_after old new is.tickets.0
          sums.counted sums.last is.tickets.1 for_it unclosed takes,
    );
    logged = logged_still (hub_of producer_end old) (hub_of producer_end new) sums.log sums.made is.logged
        (ap (λ (h : HubState). h.progress.next) takes.rest) (ap (λ (h : HubState). h.sources) takes.rest)
        (λ x at. accepted_still (hub_of producer_end old).entries (hub_of producer_end takes.middle).entries
        (stays_seen (hub_of producer_end old) (hub_of producer_end takes.middle) takes.seen.rest takes.seen.kept).keep x
        (accepted_put place name on_full feed ticket most due_before due_after old new empty takes x at));
  }

-- one of both
module _ (name : List ℕ) (on_full : OnFull) (feed : ProducerState) (ticket : Option Ticket) (most number : ℕ)
    (due_before due_after : List (Work TaskState)) (old new : Hub ProducerState) where
  pub admits_open : (place : Option ℕ) → (IsSome place → old.ending ≡ None)
      → AdmitsOne place name on_full feed ticket most number due_before due_after old new
      → AdmitsOpen name on_full feed ticket most number due_before due_after old new
  admits_open place unclosed (inl adds) = inl adds
  admits_open place unclosed (inr takes) = inr (unclosed (subst IsSome (sym takes.0) refl), takes.1)

  pub state_opened : (sums : Sums) (places : ℕ) → IsState (hub_of producer_end old) sums → IsSound (hub_of producer_end new)
      → IsTicketFor old ticket → (producer_end feed).accepted ≡ []
      → AdmitsOpen name on_full feed ticket most number due_before due_after old new
      → (number < sums.entries → places ≡ sums.entries) → (number ≡ sums.entries → places ≡ number + 1)
      → IsState (hub_of producer_end new) (record sums { entries = places })
  state_opened sums places is sound for_it empty (inl adds) within last =
      let next : number ≡ sums.entries = let all = is.entries_are in
      let many = length-map old.entries.items (entry_of producer_end) in let first = adds.is_next in omega arith in
      subst (λ n. IsState (hub_of producer_end new) (record sums { entries = n })) (sym (last next))
      (state_admitted name on_full feed ticket most number due_before due_after old new sums is sound for_it empty adds)
  state_opened sums places is sound for_it empty (inr takes) within last =
      let same : places ≡ sums.entries = within (let less = place_within number name on_full feed ticket most due_before due_after
      old new takes.1 in let all = is.entries_are in omega arith) in
      subst (λ n. IsState (hub_of producer_end new) (record sums { entries = n })) (sym same)
      (state_put number name on_full feed ticket most due_before due_after old new takes.1 sums is sound for_it empty takes.0)
