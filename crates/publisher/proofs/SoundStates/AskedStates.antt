-- What stands behind a publisher's lock once a subscription was asked for its ticket.
use Rattle.std.proofs.Common.{◌≡◌, ℕ, Bool, true, false, Option, None, Some, option_map, map, refl, sym, ap, subst, ◌∙◌}
use Rattle.std.specs.Prelude.{IsSome, slice_get}
use Rattle.std.proofs.lemmas.List.{map-set}
use Rattle.close_count.specs.Count.{CountId}
use Rattle.close_count.specs.Spent.{count_of_spent}
use Rattle.close_count.specs.Ticket.{count_of_ticket}
use Rattle.close_count.specs.declared.spent.Spent.{Spent}
use Rattle.close_count.specs.declared.ticket.Ticket.{Ticket}
use Rattle.feed_cell.specs.Offering.{DoesCall}
use Rattle.feed_cell.specs.Parties.{ProducerState}
use Rattle.flow_rules.specs.Feed.{End}
use Rattle.flow_rules.specs.declared.feed.standing.Standing.{Standing}
use Rattle.publisher_hub.specs.Entry.{entry_of}
use Rattle.publisher_hub.specs.Hub.{hub_of}
use Rattle.publisher_hub.specs.Sound.{IsSound}
use Rattle.publisher_hub.specs.Tickets.{RetiresIfEnded, RetiresIfEndedAt}
use Rattle.publisher_hub.specs.declared.entry.Entry.{Entry}
use Rattle.publisher_hub.specs.declared.hub.Hub.{Hub}
use Rattle.publisher_hub.proofs.PartialRounds.Next.{get_mapped}
use Rattle.publisher_hub.proofs.PartialRounds.Progress.{same_some}
use Rattle.publisher.specs.Spending.{last_after}
use Rattle.publisher.specs.State.{IsState, Sums, producer_end}
use Rattle.publisher.specs.Tickets.{IsOfCount}
use Rattle.publisher.proofs.SoundStates.GrownStates.{state_with_last}
use Rattle.publisher.proofs.SoundStates.KeptStates.{Stays, state_stays, stays_by, tickets_stay}
use Rattle.publisher.proofs.Tickets.Ticketed.{AllKeep, KeepsEntry, all_but_one, all_same, keeps_ended, keeps_over, keeps_same, of_count_after}

-- a subscription that was asked for its ticket has it still, or has ended
asked_keeps : (next : ℕ) (glance : Option Standing) (ticket : Option Ticket) (before after : Entry ProducerState)
    → RetiresIfEnded producer_end DoesCall next glance ticket before after
    → KeepsEntry (entry_of producer_end before) (entry_of producer_end after)
asked_keeps next None ticket before after left =
    subst (λ (e : Entry ProducerState). KeepsEntry (entry_of producer_end before) (entry_of producer_end e))
    (sym left.1.1) (keeps_same (entry_of producer_end before))
asked_keeps next (Some standing) ticket before after hands = by standing.ended refl where
  accepted : (producer_end hands.after).accepted ≡ (producer_end hands.before).accepted
  accepted = ap (λ (e : End). e.accepted) hands.stands.look.rest

  by : (ended : Bool) → standing.ended ≡ ended → KeepsEntry (entry_of producer_end before) (entry_of producer_end after)
  by true ended = keeps_over (entry_of producer_end before) (entry_of producer_end after)
      (ap (λ (e : Entry ProducerState). e.ticket) (hands.ended ended))
      (λ e at. subst (λ (end : End). end.over ≡ true)
      (same_some (sym (ap (λ (e : Entry ProducerState). option_map producer_end e.feed) (hands.ended ended))
      ∙ at)) (sym hands.stands.ended ∙ ended)) (ap (λ (e : Entry ProducerState). e.since) (hands.ended ended))
      (λ f at. (
        producer_end hands.before,
        ap (option_map producer_end) hands.was,
        ap (λ (e : End). e.accepted)
            (same_some (sym at ∙ ap (λ (e : Entry ProducerState). option_map producer_end e.feed) (hands.ended ended))) ∙ accepted,
      ))
  by false on = keeps_ended (entry_of producer_end before) (entry_of producer_end after) (producer_end hands.before)
      (producer_end hands.after) (ap (option_map producer_end) hands.was)
      (ap (λ (e : Entry ProducerState). option_map producer_end e.feed) (hands.stays on))
      (ap (λ (e : Entry ProducerState). e.ticket) (hands.stays on))
      (ap (λ (e : Entry ProducerState). e.since) (hands.stays on)) hands.stands.look.over accepted

module _ (old new : Hub ProducerState) (number : ℕ) (ticket : Option Ticket)
    (asks : RetiresIfEndedAt producer_end DoesCall number ticket old new) where
  pub stays_asked : Stays (hub_of producer_end old) (hub_of producer_end new)
  stays_asked = stays_by (hub_of producer_end old) (hub_of producer_end new) asks.rest (by (slice_get old.entries.items number) refl) where
    by : (before : Option (Entry ProducerState)) → slice_get old.entries.items number ≡ before
        → AllKeep (hub_of producer_end old).entries (hub_of producer_end new).entries
    by None at = subst (λ items. AllKeep (hub_of producer_end old).entries (map (entry_of producer_end) items))
        (sym (asks.none at).1) (all_same (hub_of producer_end old).entries)
    by (Some before) at =
        let there = asks.there before at in
        subst (λ entries. AllKeep (hub_of producer_end old).entries entries)
        (sym (ap (map (entry_of producer_end)) there.2.1 ∙ map-set (entry_of producer_end) old.entries.items number there.1))
        (all_but_one (hub_of producer_end old).entries number (entry_of producer_end before)
        (entry_of producer_end there.1) (get_mapped (entry_of producer_end) old.entries.items number before at)
        (asked_keeps old.next there.0 ticket before there.1 there.2.0))

  -- a ticket that came out is one of the count
  pub ticket_of_count : (count : CountId) (counted : Option ℕ) (last : Option Spent) (came : Ticket)
      → IsOfCount count (hub_of producer_end old) counted last → ticket ≡ Some came → count_of_ticket came ≡ count
  ticket_of_count count counted last came is some = by (slice_get old.entries.items number) refl where
    asked : (before after : Entry ProducerState) (glance : Option Standing)
        → slice_get old.entries.items number ≡ Some before
        → RetiresIfEnded producer_end DoesCall old.next glance ticket before after → count_of_ticket came ≡ count
    asked before after None at left = let no : None ≡ Some came = sym left.1.0 ∙ some in cc
    asked before after (Some standing) at hands = shown standing.ended refl where
      shown : (ended : Bool) → standing.ended ≡ ended → count_of_ticket came ≡ count
      shown true ended = (is.entries number (entry_of producer_end before)
          (get_mapped (entry_of producer_end) old.entries.items number before at)).of_count came (sym (hands.spent ended) ∙ some)
      shown false on = let no : None ≡ Some came = sym (hands.kept on) ∙ some in cc

    by : (before : Option (Entry ProducerState)) → slice_get old.entries.items number ≡ before → count_of_ticket came ≡ count
    by None at = let no : None ≡ Some came = sym (asks.none at).0 ∙ some in cc
    by (Some before) at = let there = asks.there before at in asked before there.1 there.0 at there.2.0

  pub state_asked : (sums : Sums) → IsState (hub_of producer_end old) sums → IsSound (hub_of producer_end new)
      → IsState (hub_of producer_end new) sums
  state_asked sums is sound = state_stays (hub_of producer_end old) (hub_of producer_end new) sums is sound stays_asked

  -- if a ticket was spent, what is left of the last one is of that count
  pub state_spent : (sums : Sums) (came : Ticket) (spent : Spent) (closed : Bool)
      → IsState (hub_of producer_end old) sums → IsSound (hub_of producer_end new) → ticket ≡ Some came
      → count_of_spent spent ≡ count_of_ticket came
      → (closed ≡ true → IsSome new.ending) → IsState (hub_of producer_end new) (record sums { last = last_after spent closed sums.last })
  state_spent sums came spent closed is sound some same shut =
      let count = is.tickets.0 in
      state_with_last (hub_of producer_end new) sums (last_after spent closed sums.last) (state_asked sums is sound) (
        count,
        of_count_after count (hub_of producer_end new) spent closed sums.counted sums.last
            (tickets_stay count (hub_of producer_end old) (hub_of producer_end new) sums.counted sums.last is.tickets.1 stays_asked)
            (same ∙ ticket_of_count count sums.counted sums.last came is.tickets.1 some) shut,
      )
