-- What was taken out of a sound Hub at the end of its publisher.
use Rattle.std.proofs.Common.{◌≡◌, ◌⊎◌, inl, inr, ℕ, ◌+◌, ◌<◌, ◌||◌, not, is_some, Bool, true, false, Option, None, Some, List, [], length, map, option_map, refl, sym, ap, subst, ◌∙◌, arith, rules}
use Rattle.std.specs.Prelude.{IsSome, slice_get, ◌==◌}
use Rattle.std.proofs.lemmas.List.{length-map}
use Rattle.std.proofs.lemmas.Option.{slice_get_within}
use Rattle.close_count.specs.declared.spent.Spent.{Spent}
use Rattle.feed_cell.specs.Parties.{ProducerState}
use Rattle.feed_core.specs.Prelude.{Item}
use Rattle.flow_rules.specs.Feed.{End}
use Rattle.flow_rules.specs.declared.ending.Ending.{Ending}
use Rattle.publisher_hub.specs.Entry.{EntryState, entry_of, until_of}
use Rattle.publisher_hub.specs.Hub.{HubState, hub_of}
use Rattle.publisher_hub.specs.declared.hub.Facts.{Facts}
use Rattle.publisher_hub.specs.Lists.{Each}
use Rattle.publisher_hub.specs.Sound.{IsAccepted}
use Rattle.publisher_hub.specs.declared.entry.Entry.{Entry}
use Rattle.publisher_hub.specs.declared.hub.Hub.{Hub}
use Rattle.publisher_hub.proofs.PartialRounds.Next.{get_before_map}
use Rattle.publisher_hub.proofs.AnswerLists.Places.{there}
use Rattle.publisher.specs.Finding.{AreFoundIn, ArePlaced, FindsAll, IsSameOrLeft, IsTakenOf}
use Rattle.publisher.specs.Finishing.{AreAudited, AreClosedWith, AreOfLog, AreTakenOut, IsCountedIn}
use Rattle.publisher.specs.Handles.{SubmitterState, SubscriptionState}
use Rattle.publisher.specs.Outcome.{AnyKnows}
use Rattle.publisher.specs.State.{IsState, Sums, producer_end}
use Rattle.publisher.specs.Tickets.{AreOfOneCount, AreSpent, IsLate, IsOver}
use Rattle.publisher.specs.Together.{AreTogether, Audits}
use Rattle.publisher.specs.declared.finishing.find.Found.{Found}
use Rattle.publisher.specs.declared.finishing.find.Taken.{Taken}
use Rattle.publisher.proofs.SoundStates.KeptStates.{state_stays, stays_by}
use Rattle.publisher.proofs.Tickets.Ticketed.{AllKeep, KeepsEntry, keeps_over, keeps_same}

-- if nothing is gone, each has a place and the count is right
pub is_there : (gone all whole : Bool) → ((gone || not all) || not whole) ≡ false
    → (gone ≡ false) × ((all ≡ true) × (whole ≡ true))
is_there true all whole is = cc
is_there false true true is = (refl, (refl, refl))
is_there false true false is = cc
is_there false false whole is = cc

-- the count of those that have an end is right if this test says so
pub is_counted : (ends left reclaimed made : ℕ) → (ends == left) ≡ true → left + reclaimed ≡ made → ends + reclaimed ≡ made
is_counted ends left reclaimed made same sum = let is : ends ≡ left = search rules in omega arith

-- one that was closed, or goes on by the last look at it, took part to the end
took_part : (next : ℕ) (entry : EntryState) (e : End) (counted : ℕ)
    → (entry.retired ≡ true → (e.over || is_some e.closing) ≡ true) → (IsSome e.closing → until_of next entry ≡ next)
    → (e.over ≡ false) ⊎ IsSome e.closing → until_of next entry ≡ next
took_part next entry e counted gone closed (inr some) = closed some
took_part next entry e counted gone closed (inl on) = by entry.retired refl where
  some_if : (ending : Option Ending) → is_some ending ≡ true → IsSome ending
  some_if None e = cc
  some_if (Some ending) e = refl

  by : (retired : Bool) → entry.retired ≡ retired → until_of next entry ≡ next
  by false at = rw at refl
  by true at = closed (some_if e.closing (sym (ap (λ over. over || is_some e.closing) on) ∙ gone at))

-- what a subscription accepted and dropped, by its producer's end that is taken out
pub counted_of : {B : Type 0} (hub : HubState) (counted : Option ℕ) (sums : Sums) (k : ℕ) (entry : EntryState)
    (taken : Taken B) → IsState hub sums → sums.counted ≡ counted → slice_get hub.entries k ≡ Some entry → IsTakenOf counted k entry taken
    → IsCountedIn hub.progress.next hub.progress.dropping taken
counted_of hub counted sums k entry taken is same stands of =
    let stored = is.sound.entries k entry stands in
    let count = stored.counted taken.producer.end of.producer in
    let since = ap (λ (f : Facts). f.since) of.facts in
    let dropped = ap (λ (f : Facts). f.dropped) of.facts in
    let many = count.count in
    let until = count.until in
    record {
      ordered = count.ordered;
      items = λ i x on. let item = count.items i x on in (let first = item.since in omega arith, let last = item.until in omega arith);
      counted = omega arith;
      whole = λ part. let all = took_part hub.progress.next entry taken.producer.end 0 count.gone count.closed part in omega arith;
      drops = let drops = stored.drops in omega arith;
      late = λ late. since ∙ (is.tickets.1.entries k entry stands).late (subst (λ c. IsLate c k) (sym same) (of.late.0 late));
    }

module _ {B : Type 0} (hub : HubState) (counted : Option ℕ) (sums : Sums) (founds : List (Found B))
    (is : IsState hub sums) (same : sums.counted ≡ counted) (found : AreFoundIn hub counted founds) where
  -- what is stored of one whose two ends are there
  stored : (k : ℕ) (taken : Taken B) → slice_get founds k ≡ Some (Found.Both taken) → (entry : EntryState)
      × ((slice_get hub.entries k ≡ Some entry) × IsTakenOf counted k entry taken)
  stored k taken at =
      let entry = there hub.entries k (let within = slice_get_within founds k (Found.Both taken) at in let many =
      found.as_many in omega arith) in
      (entry.0, (entry.1, found.each k entry.0 (Found.Both taken) entry.1 at))

  pub counted_in : (k : ℕ) (taken : Taken B) → slice_get founds k ≡ Some (Found.Both taken)
      → IsCountedIn hub.progress.next hub.progress.dropping taken
  counted_in k taken at = let it = stored k taken at in counted_of hub counted sums k it.0 taken is same it.1.0 it.1.1

  accepted_by : (k : ℕ) (taken : Taken B) (i : ℕ) (x : Item) → slice_get founds k ≡ Some (Found.Both taken)
      → slice_get taken.producer.end.accepted i ≡ Some x → IsAccepted hub.entries x
  accepted_by k taken i x at on =
      let it = stored k taken at in
      record { number = k; place = i; entry = it.0; feed = taken.producer.end; stands = it.1.0; end_of = it.1.1.producer; item = on }

  -- whatever they accepted is one of the publications
  pub are_of_log : AreOfLog sums.log founds
  are_of_log k i taken x at on = is.logged.content x (accepted_by k taken i x at on)

  -- whatever was closed was closed with the Hub's ending
  pub are_closed_with : AreClosedWith hub.progress.ending founds
  are_closed_with k taken ending at closed =
      let it = stored k taken at in
      ((is.sound.entries k it.0 it.1.0).counted taken.producer.end it.1.1.producer).closed_as ending closed

  -- one that is not late and has no ticket has ended
  ended_in : ((k : ℕ) (entry : EntryState) → slice_get hub.entries k ≡ Some entry → IsOver entry ⊎ IsLate counted k)
      → (k : ℕ) (taken : Taken B) → slice_get founds k ≡ Some (Found.Both taken) → taken.late ≡ false → taken.producer.end.over ≡ true
  ended_in spent k taken at on_time = let it = stored k taken at in by it.0 it.1.1 (spent k it.0 it.1.0) where
    by : (entry : EntryState) → IsTakenOf counted k entry taken → IsOver entry ⊎ IsLate counted k → taken.producer.end.over ≡ true
    by entry of (inl over) = over taken.producer.end of.producer
    by entry of (inr late) = let no : false ≡ true = sym on_time ∙ of.late.1 late in cc

  pub are_taken_out : (subscriptions : List SubscriptionState) (owners : List (Option SubscriptionState))
      (published dropping : ℕ) (drained : Bool) → published ≡ hub.progress.next → dropping ≡ hub.progress.dropping
      → length owners ≡ length founds
      → ArePlaced subscriptions owners true → ((k : ℕ) (taken : Taken B)
      → slice_get founds k ≡ Some (Found.Both taken) → slice_get owners k ≡ Some (Some taken.owner))
      → ((k : ℕ) (name : List ℕ) → slice_get founds k ≡ Some (Found.Missing name) → slice_get owners k ≡ Some None)
      → ((k : ℕ) → slice_get founds k ≡ Some Found.Reclaimed → slice_get owners k ≡ Some None)
      → (drained ≡ true → (k : ℕ) (entry : EntryState) → slice_get hub.entries k ≡ Some entry → IsOver entry ⊎ IsLate counted k)
      → AreTakenOut subscriptions founds published dropping drained
  are_taken_out subscriptions owners published dropping drained published_is dropping_is long placed here missing
      reclaimed spent = record {
        each = λ k taken at. subst (λ n. IsCountedIn n dropping taken) (sym published_is)
            (subst (λ n. IsCountedIn hub.progress.next n taken) (sym dropping_is) (counted_in k taken at));
        handed = λ k taken at. placed.placed k taken.owner (here k taken at);
        missing = λ k name at handed. placed.empty k (missing k name at) handed;
        reclaimed = λ k at handed. placed.empty k (reclaimed k at) handed;
        within = λ number handed. subst (λ n. number < n) long (placed.within refl number handed);
        ended = λ last k taken at on_time. ended_in (spent last) k taken at on_time;
        agreed = λ j k m n one other x y at_one on_one at_other on_other same. is.sound.agreed x y
            (accepted_by j one m x at_one on_one) (accepted_by k other n y at_other on_other) same;
      }

-- so each subscription has ended or is late, since none has a ticket
pub all_spent : (hub : HubState) (many : ℕ) (counted : Option ℕ) (last : Option Spent) (drained : Bool)
    → AreOfOneCount hub counted last → many ≡ length hub.entries → (IsSome last → AreSpent many hub)
    → drained ≡ is_some last → drained ≡ true
    → (k : ℕ) (entry : EntryState) → slice_get hub.entries k ≡ Some entry → IsOver entry ⊎ IsLate counted k
all_spent hub many counted last drained is all spent same was k entry at =
    (is.1.entries k entry at).spent (spent (some_if last (sym same ∙ was)) k entry
    (subst (λ n. k < n) (sym all) (slice_get_within hub.entries k entry at)) at) where
      some_if : (l : Option Spent) → is_some l ≡ true → IsSome l
      some_if None e = cc
      some_if (Some it) e = refl

-- the shares that were compared with the totals
pub audited : (submitters : List SubmitterState) (published dropping parts drop_parts next dropped total : ℕ)
    (sources : List Bool) (knows : Bool) (missing : Option (List ℕ))
    → AreTogether submitters [] published dropping parts drop_parts sources knows
    → Audits sources published dropping next dropped missing → total ≡ next → AreAudited submitters total dropped missing
audited submitters published dropping parts drop_parts next dropped total sources knows None are audits same =
    (let sum = are.published_are in let all = audits.0 in omega arith, let sum = are.dropping_are in let all = audits.1 in omega arith)
audited submitters published dropping parts drop_parts next dropped total sources knows (Some name) are audits same =
    let first = audits.1.1 in (
      audits.0,
      (
        subst (λ n. audits.0 < n) are.long (slice_get_within sources audits.0 false first.0),
        (audits.1.0, (are.away audits.0 first.0 (λ i s at same. cc), λ other less. are.there other (first.1 other less))),
      ),
    )

-- one that was handed in knows that the publisher is closed
pub closed_by : (submitters : List SubmitterState) (published dropping parts drop_parts : ℕ) (sources : List Bool)
    (knows also : Bool) → AreTogether submitters [] published dropping parts drop_parts sources knows
    → AnyKnows submitters → (knows || also) ≡ true
closed_by submitters published dropping parts drop_parts sources knows also are any = by (are.knows_is any) where
  either : (a : Bool) → a ≡ true → (a || also) ≡ true
  either true e = refl
  either false e = cc

  by : (knows ≡ true) ⊎ AnyKnows [] → (knows || also) ≡ true
  by (inl known) = either knows known
  by (inr one) = let no = one.2.0 in cc

-- the last ticket was spent, so the publisher is closed
pub closed_if_drained : (hub : HubState) (counted : Option ℕ) (last : Option Spent) (knows closed drained : Bool)
    → AreOfOneCount hub counted last → drained ≡ is_some last → closed ≡ is_some hub.progress.ending → drained ≡ true
    → (knows || closed) ≡ true
closed_if_drained hub counted last knows closed drained is same tells was =
    by knows closed hub.progress.ending tells (is.1.closed (some_if last (sym same ∙ was))) where
      some_if : (l : Option Spent) → is_some l ≡ true → IsSome l
      some_if None e = cc
      some_if (Some it) e = refl

      by : (a b : Bool) (ending : Option Ending) → b ≡ is_some ending → IsSome ending → (a || b) ≡ true
      by true b ending e some = refl
      by false b (Some how) e some = e
      by false b None e some = cc

-- what stands behind the lock stays as it should when ends are taken out
all_left : (xs ys : List (Entry ProducerState)) → Each IsSameOrLeft xs ys
    → AllKeep (map (entry_of producer_end) xs) (map (entry_of producer_end) ys)
all_left xs ys each = record {
  as_long = length-map ys (entry_of producer_end) ∙ each.as_long ∙ sym (length-map xs (entry_of producer_end));
  each = λ k x y at on.
      let old = get_before_map (entry_of producer_end) xs k x at in
      let new = get_before_map (entry_of producer_end) ys k y on in
      subst (λ (entry : EntryState). KeepsEntry entry y) old.1.1
      (subst (λ (entry : EntryState). KeepsEntry (entry_of producer_end old.0) entry) new.1.1
      (by old.0 new.0 (each.each k old.0 new.0 old.1.0 new.1.0)));
} where
  by : (old new : Entry ProducerState) → IsSameOrLeft old new → KeepsEntry (entry_of producer_end old) (entry_of producer_end new)
  by old new (inl same) = subst (λ (e : Entry ProducerState). KeepsEntry (entry_of producer_end old)
      (entry_of producer_end e)) (sym same) (keeps_same (entry_of producer_end old))
  by old new (inr left) = keeps_over (entry_of producer_end old) (entry_of producer_end new) left.0.1
      (λ e at. let no : None ≡ Some e = sym (ap (option_map producer_end) left.0.0) ∙ at in cc) left.1
      (λ f at. let no : None ≡ Some f = sym (ap (option_map producer_end) left.0.0) ∙ at in cc)

pub state_found : {B : Type 0} (old new : Hub ProducerState) (counted : Option ℕ)
    (owners : List (Option SubscriptionState)) (founds : List (Found B)) (gone : Bool) (was : HubState) (sums : Sums)
    → IsState was sums → hub_of producer_end old ≡ was → FindsAll old new counted owners founds gone
    → IsState (hub_of producer_end new) sums
state_found old new counted owners founds gone was sums is same finds =
    state_stays (hub_of producer_end old) (hub_of producer_end new) sums (subst (λ hub. IsState hub sums) (sym same) is) finds.sound
    (stays_by (hub_of producer_end old) (hub_of producer_end new) finds.rest (all_left old.entries.items new.entries.items finds.stays))
