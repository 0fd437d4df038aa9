-- What stands behind a publisher's lock once a subscription that has ended was taken out.
use Rattle.std.proofs.Common.{◌≡◌, ◌⊎◌, inl, inr, ℕ, ◌+◌, Bool, true, false, is_some, Option, None, Some, option_map, List, map, length, refl, sym, ap, subst, ◌∙◌, arith}
use Rattle.std.specs.Prelude.{IfSome, IsSome, slice_get}
use Rattle.std.proofs.lemmas.List.{map-set}
use Rattle.close_count.specs.Count.{CountId}
use Rattle.close_count.specs.Spent.{count_of_spent}
use Rattle.close_count.specs.Ticket.{count_of_ticket}
use Rattle.close_count.specs.declared.spent.Spent.{Spent}
use Rattle.close_count.specs.declared.ticket.Ticket.{Ticket}
use Rattle.feed_cell.specs.Offering.{DoesCall}
use Rattle.feed_cell.specs.Parties.{ProducerState}
use Rattle.flow_rules.specs.Feed.{End, Looked}
use Rattle.flow_rules.specs.declared.feed.standing.Standing.{Standing}
use Rattle.flow_rules.specs.declared.refusal.Refusal.{Refusal}
use Rattle.publisher_hub.specs.Entry.{EntryState, entry_of}
use Rattle.publisher_hub.specs.Facts.{facts_of}
use Rattle.publisher_hub.specs.Hub.{HubState, hub_of}
use Rattle.publisher_hub.specs.Looking.{LooksAtOne}
use Rattle.publisher_hub.specs.Reclaiming.{TakesEnded, TakesEndedAt}
use Rattle.publisher_hub.specs.Sound.{IsSound}
use Rattle.publisher_hub.specs.declared.entry.Entry.{Entry}
use Rattle.publisher_hub.specs.declared.hub.Facts.{Facts}
use Rattle.publisher_hub.specs.declared.hub.Hub.{Hub}
use Rattle.publisher_hub.proofs.PartialRounds.Next.{get_before_map, get_mapped}
use Rattle.publisher.specs.Census.{CensusState}
use Rattle.publisher.specs.Finding.{IsTakenOf}
use Rattle.publisher.specs.Finishing.{IsCountedIn}
use Rattle.publisher.specs.Handles.{SubscriptionState}
use Rattle.publisher.specs.Reclaiming.{IsSpent, Knows, LooksTwice, NamesOne, Reclaims, RefusesReclaim, ShowsEnd, TakesEnd}
use Rattle.publisher.specs.Spending.{last_after}
use Rattle.publisher.specs.Standing.{has_ended_by}
use Rattle.publisher.specs.State.{IsState, PublisherState, Sums, producer_end}
use Rattle.publisher.specs.Tickets.{IsLate, IsOfCount}
use Rattle.publisher.specs.declared.finishing.find.Taken.{Taken}
use Rattle.publisher.proofs.BothEnds.FindingRounds.{read_of}
use Rattle.publisher.proofs.SoundStates.GrownStates.{state_with_last}
use Rattle.publisher.proofs.SoundStates.KeptStates.{Stays, state_stays, stays_left, tickets_stay}
use Rattle.publisher.proofs.BothEnds.TakenOut.{counted_of}
use Rattle.publisher.proofs.Tickets.Ticketed.{AllKeep, KeepsEntry, all_but_one, all_same, keeps_ended, keeps_over, keeps_same, of_count_after}

-- a subscription that was looked at has its ticket still, or its producer's end was taken out
ended_keeps : (next : ℕ) (glance : Option Standing) (taken : Option (ProducerState × Option Ticket))
    (before after : Entry ProducerState) → TakesEnded producer_end DoesCall next glance taken before after
    → KeepsEntry (entry_of producer_end before) (entry_of producer_end after)
ended_keeps next None None before after left =
    subst (λ (e : Entry ProducerState). KeepsEntry (entry_of producer_end before) (entry_of producer_end e))
    (sym left.1) (keeps_same (entry_of producer_end before))
ended_keeps next None (Some both) before after never = elim never [ ]
ended_keeps next (Some standing) None before after on =
    keeps_ended (entry_of producer_end before) (entry_of producer_end after) (producer_end on.before)
    (producer_end on.after) (ap (option_map producer_end) on.was)
    (ap (λ (e : Entry ProducerState). option_map producer_end e.feed) on.now)
    (ap (λ (e : Entry ProducerState). e.ticket) on.now) (ap (λ (e : Entry ProducerState). e.since) on.now) on.stands.look.over
    (ap (λ (e : End). e.accepted) on.stands.look.rest)
ended_keeps next (Some standing) (Some (feed, ticket)) before after both =
    keeps_over (entry_of producer_end before) (entry_of producer_end after) (ap (λ (e : Entry ProducerState). e.ticket) both.now)
    (λ e at. let no : None ≡ Some e = sym (ap (λ (it : Entry ProducerState). option_map producer_end it.feed)
    both.now) ∙ at in cc) (ap (λ (e : Entry ProducerState). e.since) both.now)
    (λ f at. let no : None ≡ Some f = sym (ap (λ (it : Entry ProducerState). option_map producer_end it.feed) both.now) ∙ at in cc)

module _ (old new : Hub ProducerState) (number : ℕ) (taken : Option (ProducerState × Option Ticket))
    (takes : TakesEndedAt producer_end DoesCall number taken old new) where
  stays_ended : Stays (hub_of producer_end old) (hub_of producer_end new)
  stays_ended = stays_left (hub_of producer_end old) (hub_of producer_end new) takes.rest
      (by (slice_get old.entries.items number) refl) where
        by : (before : Option (Entry ProducerState)) → slice_get old.entries.items number ≡ before
            → AllKeep (hub_of producer_end old).entries (hub_of producer_end new).entries
        by None at = subst (λ items. AllKeep (hub_of producer_end old).entries (map (entry_of producer_end) items))
            (sym (takes.none at).1) (all_same (hub_of producer_end old).entries)
        by (Some before) at =
            let there = takes.there before at in
            subst (λ entries. AllKeep (hub_of producer_end old).entries entries)
            (sym (ap (map (entry_of producer_end)) there.2.1 ∙ map-set (entry_of producer_end) old.entries.items number there.1))
            (all_but_one (hub_of producer_end old).entries number (entry_of producer_end before)
            (entry_of producer_end there.1) (get_mapped (entry_of producer_end) old.entries.items number before at)
            (ended_keeps old.next there.0 taken before there.1 there.2.0))

  pub state_ended : (sums : Sums) → IsState (hub_of producer_end old) sums → IsSound (hub_of producer_end new)
      → IsState (hub_of producer_end new) sums
  state_ended sums is sound = state_stays (hub_of producer_end old) (hub_of producer_end new) sums is sound stays_ended

  -- the ticket of one that was taken out is one of the count
  ended_of_count : (count : CountId) (counted : Option ℕ) (last : Option Spent) (feed : ProducerState) (came : Ticket)
      → IsOfCount count (hub_of producer_end old) counted last → taken ≡ Some (feed, Some came) → count_of_ticket came ≡ count
  ended_of_count count counted last feed came is some = by (slice_get old.entries.items number) refl where
    lost : (before after : Entry ProducerState) (glance : Option Standing)
        → slice_get old.entries.items number ≡ Some before
        → TakesEnded producer_end DoesCall old.next glance (Some (feed, Some came)) before after → count_of_ticket came ≡ count
    lost before after None at both = elim both [ ]
    lost before after (Some standing) at both =
        (is.entries number (entry_of producer_end before)
        (get_mapped (entry_of producer_end) old.entries.items number before at)).of_count came (sym both.ticket_is)

    by : (before : Option (Entry ProducerState)) → slice_get old.entries.items number ≡ before → count_of_ticket came ≡ count
    by None at = let never : ◌≡◌ {A = Option (ProducerState × Option Ticket)} None (Some (feed, Some came)) =
        sym (takes.none at).0 ∙ some in cc
    by (Some before) at =
        let there = takes.there before at in
        lost before there.1 there.0 at (subst (λ (t : Option (ProducerState × Option Ticket)). TakesEnded producer_end
        DoesCall old.next there.0 t before there.1) some there.2.0)

  -- if a ticket was spent, what is left of the last one is of that count
  pub state_ended_spent : (sums : Sums) (feed : ProducerState) (came : Ticket) (spent : Spent) (closed : Bool)
      → IsState (hub_of producer_end old) sums → IsSound (hub_of producer_end new) → taken ≡ Some (feed, Some came)
      → count_of_spent spent ≡ count_of_ticket came → (closed ≡ true → IsSome new.ending)
      → IsState (hub_of producer_end new) (record sums { last = last_after spent closed sums.last })
  state_ended_spent sums feed came spent closed is sound some same shut =
      let count = is.tickets.0 in
      state_with_last (hub_of producer_end new) sums (last_after spent closed sums.last) (state_ended sums is sound) (
        count,
        of_count_after count (hub_of producer_end new) spent closed sums.counted sums.last
            (tickets_stay count (hub_of producer_end old) (hub_of producer_end new) sums.counted sums.last is.tickets.1 stays_ended)
            (same ∙ ended_of_count count sums.counted sums.last feed came is.tickets.1 some) shut,
      )

-- what is known of a subscription, by what its Hub shows of it
pub knows_of : (state : PublisherState) (number : ℕ) (facts : Facts)
    → Some facts ≡ option_map facts_of (slice_get (hub_of producer_end state.hub).entries number) → Knows state number facts
knows_of state number facts shown = by (slice_get (hub_of producer_end state.hub).entries number) refl where
  by : (at : Option EntryState) → slice_get (hub_of producer_end state.hub).entries number ≡ at → Knows state number facts
  by None at = let no : Some facts ≡ None = shown ∙ ap (option_map facts_of) at in cc
  by (Some stored) at =
      let raw = get_before_map (entry_of producer_end) state.hub.entries.items number stored at in
      record {
        entry = raw.0;
        stands = raw.1.0;
        facts_are = read_of facts_of state.hub number raw.0 _ facts refl shown raw.1.0;
      }

-- so it is of one of which its Hub may show nothing
pub knows_shown : (state : PublisherState) (number : ℕ) (shown : Option Facts)
    → shown ≡ option_map facts_of (slice_get (hub_of producer_end state.hub).entries number) → IfSome shown (Knows state number)
knows_shown state number None is = tt
knows_shown state number (Some facts) is = knows_of state number facts is

-- a look at a producer's end changes nothing of what it accepted; one that has ended took part to the end only if it
-- was closed
looked_counted : {B : Type 0} (published dropping : ℕ) (taken later : Taken B)
    → later ≡ record taken { producer = later.producer } → Looked taken.producer.end later.producer.end → later.producer.end.over ≡ true
    → IsCountedIn published dropping taken → IsCountedIn published dropping later
looked_counted published dropping taken later same look over is =
    let accepted = ap (λ (e : End). e.accepted) look.rest in
    let closing = ap (λ (e : End). e.closing) look.rest in
    let since = ap (λ (t : Taken _). t.facts.since) same in
    let dropped = ap (λ (t : Taken _). t.facts.dropped) same in
    let many = ap length accepted in
    record {
      ordered = λ i j x y at on less. is.ordered i j x y (sym (ap (λ l. slice_get l i) accepted) ∙ at)
          (sym (ap (λ l. slice_get l j) accepted) ∙ on) less;
      items = λ i x at. let item = is.items i x (sym (ap (λ l. slice_get l i) accepted) ∙ at) in
          (let first = item.0 in omega arith, item.1);
      counted = let count = is.counted in omega arith;
      whole = λ part. let all = is.whole (by part) in omega arith;
      drops = let drops = is.drops in omega arith;
      late = λ late. since ∙ is.late (sym (ap (λ (t : Taken _). t.late) same) ∙ late);
    } where
      by : (later.producer.end.over ≡ false) ⊎ IsSome later.producer.end.closing
          → (taken.producer.end.over ≡ false) ⊎ IsSome taken.producer.end.closing
      by (inl on) = let no : true ≡ false = sym over ∙ on in cc
      by (inr some) = inr (subst IsSome (ap (λ (e : End). e.closing) look.rest) some)

-- it was taken out, whatever is counted then
takes_still : (number : ℕ) (producer : Option ProducerState) (old new : PublisherState) (census : CensusState)
    → TakesEnd number producer old new → TakesEnd number producer old (record new { census = census })
takes_still number producer old new census ends = record {
  ticket = ends.ticket;
  takes = ends.takes;
  spent = by ends.ticket ends.spent;
  counted = ends.counted;
} where
  by : (ticket : Option Ticket) → IsSpent ticket old new → IsSpent ticket old (record new { census = census })
  by None spent = spent
  by (Some ticket) spent = spent

-- what is taken out of a sound publisher has ended, and counts what was published while it took part
module _ {B : Type 0} (owner : SubscriptionState) (taken : Taken B)
    (middle new : PublisherState) (sums : Sums) (is : IsState (hub_of producer_end middle.hub) sums)
    (same : sums.counted ≡ middle.counted) (knows : Knows middle owner.entry taken.facts)
    (late : (taken.late ≡ true → IsLate middle.counted owner.entry) × (IsLate middle.counted owner.entry → taken.late ≡ true))
    (ends : TakesEnd owner.entry (Some taken.producer) middle new) (owner_is : taken.owner ≡ owner) where
  -- what the look at it showed
  pub record IsOver (before : ProducerState) : Type 0 where
    pub was : knows.entry.feed ≡ Some before
    pub look : Looked before.end taken.producer.end
    pub over : taken.producer.end.over ≡ true

  over_by : (glance : Option Standing) (after : Entry ProducerState)
      → TakesEnded producer_end DoesCall middle.hub.next glance (Some (taken.producer, ends.ticket)) knows.entry after
      → (before : ProducerState) × IsOver before
  over_by None after both = elim both [ ]
  over_by (Some standing) after both = (
    both.before,
    record { was = both.was; look = both.stands.look; over = sym both.stands.ended ∙ both.ended },
  )

  shown : (before : ProducerState) × IsOver before
  shown = let there = ends.takes.there knows.entry knows.stands in over_by there.0 there.1 there.2.0

  -- the two ends with the producer's end as it was before the look
  abbrev earlier : Taken B
  earlier = record taken { producer = shown.0 }

  of : IsTakenOf middle.counted owner.entry (entry_of producer_end knows.entry) earlier
  of = record { facts = knows.facts_are; late = late; producer = ap (option_map producer_end) shown.1.was }

  pub counted_is : IsCountedIn middle.hub.next middle.hub.dropping taken
  counted_is = looked_counted middle.hub.next middle.hub.dropping earlier taken refl shown.1.look shown.1.over
      (counted_of (hub_of producer_end middle.hub) middle.counted sums owner.entry (entry_of producer_end knows.entry)
      earlier is same (get_mapped (entry_of producer_end) middle.hub.entries.items owner.entry knows.entry knows.stands) of)

  -- so it is reclaimed, and counted
  pub reclaims_of : (old : PublisherState) (census : CensusState) → ShowsEnd owner.entry true old middle → new.census ≡ middle.census
      → census ≡ record new.census { reclaimed = new.census.reclaimed + 1 }
      → Reclaims owner taken old (record new { census = census })
  reclaims_of old census shows kept counts =
      let next = ap (λ (h : HubState). h.progress.next) shows.looks.rest in
      let dropping = ap (λ (h : HubState). h.progress.dropping) shows.looks.rest in
      record {
        middle = middle;
        looks = shows;
        takes = takes_still owner.entry (Some taken.producer) middle new census ends;
        known = knows;
        late = late;
        owner_is = owner_is;
        over = shown.1.over;
        counted = subst (λ n. IsCountedIn n old.hub.dropping taken) next
            (subst (λ n. IsCountedIn middle.hub.next n taken) dropping counted_is);
        census = counts ∙ ap (λ (c : CensusState). record c { reclaimed = c.reclaimed + 1 })
            (kept ∙ ap (λ (s : PublisherState). s.census) shows.rest);
        dropping = ap (λ (h : HubState). h.progress.dropping) ends.takes.rest ∙ dropping;
      }

-- what holds of a state as it is stored holds of it as it is seen
pub state_viewed : (inside middle : PublisherState) (sums : Sums) → inside ≡ middle
    → IsState (hub_of producer_end inside.hub) sums → IsState (hub_of producer_end middle.hub) sums
state_viewed inside middle sums same is = subst (λ (s : PublisherState). IsState (hub_of producer_end s.hub) sums) same is

-- what a look showed, by a test of it
pub shows_end : (number : ℕ) (answer ended : Bool) (old new : PublisherState) → answer ≡ ended
    → ((glance : Option Standing) × (LooksAtOne producer_end DoesCall number glance old.hub new.hub
    × (answer ≡ has_ended_by glance))) → new ≡ record old { hub = new.hub }
    → ShowsEnd number ended old new
shows_end number answer ended old new same looks rest =
    record { glance = looks.0; looks = looks.1.0; ended_is = sym same ∙ looks.1.1; rest = rest }

-- one that has ended by a look, and whose task a thread has, is refused by its name
pub refuses_held : (number : ℕ) (name : List ℕ) (old new : PublisherState) → ShowsEnd number true old new
    → RefusesReclaim number (Refusal.StillHeld name) old new
refuses_held number name old new shows = record {
  is = (name, refl);
  looks = shows;
  census = ap (λ (s : PublisherState). s.census) shows.rest;
}

-- one that goes on by a look is refused by its name
module _ (number : ℕ) (name : List ℕ) (old new : PublisherState) where
  pub refuses_living : (refusal : Refusal) → NamesOne name refusal → ShowsEnd number false old new → RefusesReclaim number refusal old new
  refuses_living Refusal.NoMemory names shows = record {
    is = (name, tt);
    looks = inl (false, shows);
    census = ap (λ (s : PublisherState). s.census) shows.rest;
  }
  refuses_living (Refusal.Unsettled list) names shows = record {
    is = (name, names);
    looks = inl shows;
    census = ap (λ (s : PublisherState). s.census) shows.rest;
  }
  refuses_living Refusal.BadCapacity names shows = absurd names
  refuses_living (Refusal.Closed ending) names shows = absurd names
  refuses_living Refusal.Duplicate names shows = absurd names
  refuses_living Refusal.TooMany names shows = absurd names
  refuses_living Refusal.LineTooLong names shows = absurd names
  refuses_living Refusal.BadWorkers names shows = absurd names
  refuses_living (Refusal.StillHeld other) names shows = absurd names
  refuses_living Refusal.Unknown names shows = absurd names
  refuses_living Refusal.WouldWait names shows = absurd names
  refuses_living Refusal.BadCommand names shows = absurd names
  refuses_living Refusal.Exhausted names shows = absurd names

  pub refuses_later : (refusal : Refusal) → NamesOne name refusal → LooksTwice number old new
      → new.census ≡ old.census → RefusesReclaim number refusal old new
  refuses_later Refusal.NoMemory names looks same = record { is = (name, tt); looks = inr looks; census = same }
  refuses_later (Refusal.Unsettled list) names looks same = record { is = (name, names); looks = inr looks; census = same }
  refuses_later Refusal.BadCapacity names looks same = absurd names
  refuses_later (Refusal.Closed ending) names looks same = absurd names
  refuses_later Refusal.Duplicate names looks same = absurd names
  refuses_later Refusal.TooMany names looks same = absurd names
  refuses_later Refusal.LineTooLong names looks same = absurd names
  refuses_later Refusal.BadWorkers names looks same = absurd names
  refuses_later (Refusal.StillHeld other) names looks same = absurd names
  refuses_later Refusal.Unknown names looks same = absurd names
  refuses_later Refusal.WouldWait names looks same = absurd names
  refuses_later Refusal.BadCommand names looks same = absurd names
  refuses_later Refusal.Exhausted names looks same = absurd names

-- what became of the ticket that came out
pub spent_of : (ticket : Option Ticket) (came : Ticket) (spent : Spent) (closed : Bool) (old new : PublisherState)
    → ticket ≡ Some came → count_of_spent spent ≡ count_of_ticket came → closed ≡ is_some old.hub.ending
    → new.last ≡ last_after spent closed old.last → IsSpent ticket old new
spent_of ticket came spent closed old new some count shut last =
    subst (λ (t : Option Ticket). IsSpent t old new) (sym some) (spent, (count, last ∙ ap (λ c. last_after spent c old.last) shut))

pub none_spent : (ticket : Option Ticket) (old new : PublisherState) → ((came : Ticket) → ticket ≡ Some came → ⊥)
    → new.last ≡ old.last → IsSpent ticket old new
none_spent None old new none last = last
none_spent (Some came) old new none last = absurd (none came refl)

-- the producer's end came out, with this ticket
pub takes_end : (number : ℕ) (producer : ProducerState) (ticket : Option Ticket)
    (taken : Option (ProducerState × Option Ticket)) (old new : PublisherState)
    → TakesEndedAt producer_end DoesCall number taken old.hub new.hub
    → taken ≡ Some (producer, ticket) → IsSpent ticket old new → new.counted ≡ old.counted → TakesEnd number (Some producer) old new
takes_end number producer ticket taken old new takes is spent counted = record {
  ticket = ticket;
  takes = subst (λ t. TakesEndedAt producer_end DoesCall number t old.hub new.hub) is takes;
  spent = spent;
  counted = counted;
}
