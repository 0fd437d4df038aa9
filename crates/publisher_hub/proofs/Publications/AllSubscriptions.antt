-- A publication to all subscriptions of a Hub.
use Rattle.std.proofs.Common.{◌≡◌, ◌⊎◌, inl, inr, ◌||◌, ℕ, ◌+◌, ◌<◌, Bool, true, false, Option, None, Some, option_map, Result, Ok, Err, List, [], ◌∷◌, length, map, nat_lt, if◌then◌else◌, refl, ap, sym, subst, ◌∙◌, arith}
use Rattle.std.specs.Prelude.{slice_get}
use Rattle.std.proofs.lemmas.Bool.{ltb-true}
use Rattle.std.proofs.lemmas.List.{length-map}
use Rattle.std.proofs.lemmas.Option.{slice_get_within}
use Rattle.flow_rules.specs.Call.{Call}
use Rattle.flow_rules.specs.Feed.{End, Looked, held_count}
use Rattle.flow_rules.specs.declared.feed.put.Put.{Put}
use Rattle.flow_rules.specs.declared.feed.put.Put.TheVariants.{Accepted, Full, Gone}
use Rattle.flow_rules.specs.declared.feed.standing.Standing.{Standing}
use Rattle.flow_rules.specs.declared.item.Item.{Item}
use Rattle.flow_rules.specs.declared.item.TheConstants.{MOST_PUBLICATIONS}
use Rattle.flow_rules.specs.declared.refusal.NoMemory.{NoMemory}
use Rattle.publisher_hub.specs.Entry.{EntryState, entry_of}
use Rattle.publisher_hub.specs.Hub.{HubState}
use Rattle.publisher_hub.specs.Lists.{Each, EachBy}
use Rattle.publisher_hub.specs.Looking.{IsReadied, Prepares, Readies, full, full_by, full_waiters}
use Rattle.publisher_hub.specs.Gathering.{missed, missed_by}
use Rattle.publisher_hub.specs.Offering.{PutsTo}
use Rattle.publisher_hub.specs.Policy.{LosesNothing, is_waited_for}
use Rattle.publisher_hub.specs.Sound.{IsSound}
use Rattle.publisher_hub.specs.Steps.{CanAllPut}
use Rattle.publisher_hub.specs.declared.entry.Entry.{Entry}
use Rattle.publisher_hub.specs.declared.policy.OnFull.TheVariants.{Wait}
use Rattle.publisher_hub.proofs.AnswerLists.Gathering.{gather_nothing, gathers_nothing, gathers_one}
use Rattle.publisher_hub.proofs.Soundness.LeavingOut.{filtered_to}
use Rattle.publisher_hub.proofs.Subscribed.AfterLooks.{follows_ready}
use Rattle.publisher_hub.proofs.PartialRounds.Next.{get_before_map}
use Rattle.publisher_hub.proofs.Publications.OneSubscription.{not_both, prepared_can_take}
use Rattle.publisher_hub.proofs.PartialRounds.Progress.{same_some}
use Rattle.publisher_hub.proofs.AnswerLists.Places.{stood_by, there}

-- a look shows that a subscription is full, or it doesn't
full_or_not : (capacity k : ℕ) (glance : Option Standing) → (full_by capacity k glance ≡ []) ⊎ (full_by capacity k glance ≡ k ∷ [])
full_or_not capacity k None = inl refl
full_or_not capacity k (Some standing) = by (standing.ended || nat_lt standing.held capacity) where
  by : (b : Bool) → ((if b then [] else k ∷ []) ≡ []) ⊎ ((if b then [] else k ∷ []) ≡ k ∷ [])
  by true = inl refl
  by false = inr refl

-- no number stands in an empty list
none_there : (i n : ℕ) → slice_get [] i ≡ Some n → ⊥
none_there i n at = cc

-- a look at a subscription that goes on and isn't full showed room
below : (standing : Standing) (capacity k : ℕ) → standing.ended ≡ false → full_by capacity k (Some standing) ≡ [] → standing.held < capacity
below standing capacity k goes_on room = by (nat_lt standing.held capacity) refl (cut goes_on room) where
  cut : standing.ended ≡ false → full_by capacity k (Some standing) ≡ [] → (if nat_lt standing.held capacity then [] else k ∷ []) ≡ []
  cut goes_on room = ap (λ ended. (if ended || nat_lt standing.held capacity then [] else k ∷ [])) (sym goes_on) ∙ room

  by : (b : Bool) → nat_lt standing.held capacity ≡ b → (if nat_lt standing.held capacity then [] else k ∷ []) ≡ []
      → standing.held < capacity
  by true is e = ltb-true standing.held capacity is
  by false is e = let none = ap (λ b. (if b then [] else k ∷ [])) (sym is) ∙ e in cc

module _ {F T : Type 0} (meaning : F → End) (does : F → Call T → F → Type 0) where
  -- once all were prepared, each may be offered an item
  pub can_all_put : (hub : HubState) (next : ℕ) (glances : List (Option Standing)) (xs ys : List (Entry F)) → IsSound hub
      → hub.entries ≡ map (entry_of meaning) ys → hub.progress.next < MOST_PUBLICATIONS
      → EachBy (Prepares meaning does next) glances xs ys → CanAllPut (map (entry_of meaning) ys)
  can_all_put hub next glances xs ys sound entries few prepared k entry at =
      let is = sound.entries k entry (subst (λ all. slice_get all k ≡ Some entry) (sym entries) at) in
      let raw = get_before_map (entry_of meaning) ys k entry at in
      let stood = stood_by (Prepares meaning does next) glances xs ys k raw.0 prepared raw.1.0 in
      let few_drops = is.drops in
      let few_dropping = sound.few_drops in
      record {
        take = subst (λ (state : EntryState). Rattle.publisher_hub.specs.Steps.CanTake state) raw.1.1 (prepared_can_take meaning does next stood.answer stood.entry raw.0 stood.became);
        few = λ end was. let counted = is.counted end was in let count = counted.count in let until = counted.until in omega arith;
        few_drops = omega arith;
      }

  -- what was prepared holds at most as many items as the look showed
  pub held_prepared : (standing : Standing) (answer : Result Unit NoMemory) (next : ℕ) (old seen ready : Entry F) (f : F)
      → standing.ended ≡ false → Rattle.publisher_hub.specs.Looking.Sees meaning does next standing old seen
      → IsReadied meaning does answer seen ready → ready.feed ≡ Some f
      → (held_count (meaning f) ≡ standing.held) × ((e : End) → (entry_of meaning old).feed ≡ Some e → (meaning f).capacity ≡ e.capacity)
  held_prepared standing answer next old seen ready f goes_on sees readied was =
      let seen_is : seen ≡ record old { feed = Some sees.after } = sees.stays goes_on in
      let middle : readied.before ≡ sees.after = same_some (sym readied.was ∙ ap (λ (entry : Entry F). entry.feed) seen_is) in
      let last : readied.after ≡ f = same_some (sym (ap (λ (entry : Entry F). entry.feed) readied.now) ∙ was) in
      let follows = follows_ready meaning does answer readied.before readied.after readied.readies in
      let same = ready_same answer readied.before readied.after readied.readies in (
        ap (λ g. held_count (meaning g)) (sym last) ∙ same ∙ ap (λ g. held_count (meaning g)) middle ∙ sym sees.stands.held,
        λ e stood. ap (λ g. (meaning g).capacity) (sym last) ∙ ap (λ (end : End). end.capacity) follows.rest
            ∙ ap (λ g. (meaning g).capacity) middle
            ∙ ap (λ (end : End). end.capacity) sees.stands.look.rest
            ∙ ap (λ (end : End). end.capacity) (same_some (sym (ap (λ feed. option_map meaning feed) sees.was) ∙ stood)),
      ) where
        ready_same : (answer : Result Unit NoMemory) (g h : F) → Readies meaning does answer g h
            → held_count (meaning h) ≡ held_count (meaning g)
        ready_same (Ok x) g h readies = rw (readies.ok) refl
        ready_same (Err e) g h readies = rw (readies.err) refl

  -- what was prepared is closed as it was
  closing_prepared : (standing : Standing) (answer : Result Unit NoMemory) (next : ℕ) (old seen ready : Entry F) (f : F)
      → standing.ended ≡ false → Rattle.publisher_hub.specs.Looking.Sees meaning does next standing old seen
      → IsReadied meaning does answer seen ready → ready.feed ≡ Some f → (e : End) → (entry_of meaning old).feed ≡ Some e
      → (meaning f).closing ≡ e.closing
  closing_prepared standing answer next old seen ready f goes_on sees readied was e stood =
      let seen_is : seen ≡ record old { feed = Some sees.after } = sees.stays goes_on in
      let middle : readied.before ≡ sees.after = same_some (sym readied.was ∙ ap (λ (entry : Entry F). entry.feed) seen_is) in
      let last : readied.after ≡ f = same_some (sym (ap (λ (entry : Entry F). entry.feed) readied.now) ∙ was) in
      let follows = follows_ready meaning does answer readied.before readied.after readied.readies in
      ap (λ g. (meaning g).closing) (sym last) ∙ ap (λ (end : End). end.closing) follows.rest ∙ ap (λ g. (meaning g).closing) middle
      ∙ ap (λ (end : End). end.closing) sees.stands.look.rest
      ∙ ap (λ (end : End). end.closing) (same_some (sym (ap (λ feed. option_map meaning feed) sees.was) ∙ stood))

  -- a put doesn't find the buffer full if a look before it showed room
  room_stays : (e m : End) (x back : Item) (f : End) → Looked e m → held_count e < e.capacity
      → Rattle.flow_rules.specs.Feed.FindsFull m x back f → ⊥
  room_stays e m x back f look room full =
      let seen = look.seen in
      let is_full = full.full in
      let accepted : m.accepted ≡ e.accepted = ap (λ (end : End). end.accepted) look.rest in
      let many : length m.accepted ≡ length e.accepted = ap length accepted in
      let capacity : m.capacity ≡ e.capacity = ap (λ (end : End). end.capacity) look.rest in
      absurd (omega arith)

  -- if a look showed room, the item is not missed
  not_missed : (capacity next k : ℕ) (x : Item) (glance : Option Standing) (put : Option (Put T)) (old middle new : Entry F)
      → ((e : End) → (entry_of meaning old).feed ≡ Some e → (e.closing ≡ None) × (e.capacity ≡ capacity))
      → full_by capacity k glance ≡ [] → Prepares meaning does next glance old middle → PutsTo meaning does x put middle new
      → missed_by k put ≡ []
  not_missed capacity next k x glance None old middle new here room prepared puts_to = refl
  not_missed capacity next k x glance (Some (Accepted lag start)) old middle new here room prepared puts_to = refl
  not_missed capacity next k x glance (Some (Gone back)) old middle new here room prepared puts_to = refl
  not_missed capacity next k x None (Some (Full back)) old middle new here room stays offered =
      not_both (ap (λ (entry : Entry F). entry.retired) stays.1 ∙ stays.0) offered.live
  not_missed capacity next k x (Some standing) (Some (Full back)) old middle new here room sees offered = by standing.ended refl where
    has_room : standing.ended ≡ false → standing.held < capacity
    has_room goes_on = below standing capacity k goes_on room

    by : (ended : Bool) → standing.ended ≡ ended → missed_by {T = T} k (Some (Full back)) ≡ []
    by true is = not_both (ap (λ (entry : Entry F). entry.retired) (sees.ended is ∙ sees.sees.ended is)) offered.live
    by false is =
        let was : (entry_of meaning old).feed ≡ Some (meaning sees.sees.before) = ap (λ feed. option_map meaning feed) sees.sees.was in
        let readied = sees.stays is in
        let held = held_prepared standing readied.0 next old sees.middle middle offered.before is sees.sees readied.1.1 offered.was in
        let of_hub = here (meaning sees.sees.before) was in
        let has = has_room is in
        let same = held.0 in
        let capacity_is : (meaning offered.before).capacity ≡ capacity = held.1 (meaning sees.sees.before) was ∙ of_hub.1 in
        let closing : (meaning offered.before).closing ≡ None =
        closing_prepared standing readied.0 next old sees.middle middle offered.before is sees.sees readied.1.1 offered.was (meaning sees.sees.before) was ∙ of_hub.0 in
        absurd (room_stays (meaning offered.before) offered.means.0 x back (meaning offered.after) (offered.means.1.unclosed closing) (omega arith) offered.means.2)

  -- to prepare a subscription counts no drop
  pub prepares_dropped : (next : ℕ) (glance : Option Standing) (old new : Entry F) → Prepares meaning does next glance old new
      → new.dropped ≡ old.dropped
  prepares_dropped next None old new stays = ap (λ (entry : Entry F). entry.dropped) stays.1
  prepares_dropped next (Some standing) old new sees = by standing.ended refl where
    by : (ended : Bool) → standing.ended ≡ ended → new.dropped ≡ old.dropped
    by true is = ap (λ (entry : Entry F). entry.dropped) (sees.ended is ∙ sees.sees.ended is)
    by false is = ap (λ (entry : Entry F). entry.dropped) ((sees.stays is).1.1.now)
        ∙ ap (λ (entry : Entry F). entry.dropped) (sees.sees.stays is)

  module _ (capacity next : ℕ) (x : Item) (glances : List (Option Standing)) (puts : List (Option (Put T))) (xs middle ys : List (Entry F))
      (prepared : EachBy (Prepares meaning does next) glances xs middle) (given : EachBy (PutsTo meaning does x) puts middle ys) where
    -- what stood at a place before the looks, and after them
    record Stood (k : ℕ) (y : Entry F) : Type 0 where
      pub old : Entry F
      pub seen : Entry F
      pub glance : Option Standing
      pub put : Option (Put T)
      pub at : slice_get xs k ≡ Some old
      pub glanced : slice_get glances k ≡ Some glance
      pub said : slice_get puts k ≡ Some put
      pub prepares : Prepares meaning does next glance old seen
      pub puts_to : PutsTo meaning does x put seen y

    stood : (k : ℕ) (y : Entry F) → slice_get ys k ≡ Some y → Stood k y
    stood k y at =
        let second = stood_by (PutsTo meaning does x) puts middle ys k y given at in
        let first = stood_by (Prepares meaning does next) glances xs middle k second.entry prepared second.at in
        record {
          old = first.entry;
          seen = second.entry;
          glance = first.answer;
          put = second.answer;
          at = first.at;
          glanced = first.said;
          said = second.said;
          prepares = first.became;
          puts_to = second.became;
        }

    -- if the looks showed room everywhere, no subscription missed the item
    pub nobody_missed : ((k : ℕ) (old : Entry F) → slice_get xs k ≡ Some old → (e : End) → (entry_of meaning old).feed ≡ Some e → (e.closing ≡ None) × (e.capacity ≡ capacity))
        → full capacity glances ≡ [] → missed puts ≡ []
    nobody_missed here room = gather_nothing missed_by puts 0 (λ k put said. by k put said (there_at k put said)) where
      there_at : (k : ℕ) (put : Option (Put T)) → slice_get puts k ≡ Some put → (y : Entry F) × (slice_get ys k ≡ Some y)
      there_at k put said = there ys k (let within = slice_get_within puts k put said in let answered = given.answered in let long = given.as_long in omega arith)

      by : (k : ℕ) (put : Option (Put T)) → slice_get puts k ≡ Some put → (y : Entry F) × (slice_get ys k ≡ Some y)
          → missed_by (0 + k) put ≡ []
      by k put said stands =
          let was = stood k stands.0 stands.1 in
          let same : was.put ≡ put = same_some (sym was.said ∙ said) in
          subst (λ p. missed_by (0 + k) p ≡ []) same (not_missed capacity next (0 + k) x was.glance was.put was.old was.seen stands.0 (here k was.old was.at)
          (gathers_nothing (full_by capacity) glances 0 k was.glance room was.glanced) was.prepares was.puts_to)

    -- one that did not miss the item has counted no drop
    kept_count : (k : ℕ) (y : Entry F) (was : Stood k y) → missed_by (0 + k) was.put ≡ [] → y.dropped ≡ was.old.dropped
    kept_count k y was none = put_dropped was.put was.seen y none was.puts_to ∙ prepares_dropped next was.glance was.old was.seen was.prepares where
      put_dropped : (put : Option (Put T)) (old new : Entry F) → missed_by (0 + k) put ≡ [] → PutsTo meaning does x put old new
          → new.dropped ≡ old.dropped
      put_dropped None old new none puts_to = ap (λ (entry : Entry F). entry.dropped) puts_to.1
      put_dropped (Some (Accepted lag start)) old new none puts_to = ap (λ (entry : Entry F). entry.dropped) puts_to.now
      put_dropped (Some (Full back)) old new none puts_to = cc
      put_dropped (Some (Gone back)) old new none puts_to = ap (λ (entry : Entry F). entry.dropped) puts_to.now

    -- one that is waited for, and that no look showed to be full, has lost nothing
    pub waiters_kept : ((k : ℕ) (old : Entry F) → slice_get xs k ≡ Some old → (e : End) → (entry_of meaning old).feed ≡ Some e → (e.closing ≡ None) × (e.capacity ≡ capacity))
        → full_waiters capacity xs glances ≡ [] → Each LosesNothing (map (entry_of meaning) xs) (map (entry_of meaning) ys)
    waiters_kept here room = record {
      as_long = length-map ys (entry_of meaning) ∙ given.as_long ∙ prepared.as_long ∙ sym (length-map xs (entry_of meaning));
      each = λ k old new at at' waited.
          let before = get_before_map (entry_of meaning) xs k old at in
          let after = get_before_map (entry_of meaning) ys k new at' in
          let was = stood k after.0 after.1.0 in
          let same : was.old ≡ before.0 = same_some (sym was.at ∙ before.1.0) in
          let waits : was.old.on_full ≡ Wait =
          ap (λ (entry : Entry F). entry.on_full) same ∙ ap (λ (entry : EntryState). entry.on_full) before.1.1 ∙ waited in
          let none = not_missed capacity next (0 + k) x was.glance was.put was.old was.seen after.0 (here k was.old was.at)
          (by k was.old was.glance was.at was.glanced waits (full_or_not capacity (0 + k) was.glance)) was.prepares was.puts_to in
          ap (λ (entry : EntryState). entry.dropped) (sym after.1.1) ∙ kept_count k after.0 was none
          ∙ ap (λ (entry : Entry F). entry.dropped) same ∙ ap (λ (entry : EntryState). entry.dropped) before.1.1;
    } where
      by : (k : ℕ) (old : Entry F) (glance : Option Standing) → slice_get xs k ≡ Some old → slice_get glances k ≡ Some glance → old.on_full ≡ Wait
          → (full_by capacity (0 + k) glance ≡ []) ⊎ (full_by capacity (0 + k) glance ≡ (0 + k) ∷ []) → full_by capacity (0 + k) glance ≡ []
      by k old glance at glanced waits (inl none) = none
      by k old glance at glanced waits (inr one) =
          let found = gathers_one (full_by capacity) glances 0 k glance (0 + k) one glanced in
          let is : is_waited_for xs k ≡ true = rw (at, waits) refl in
          let passes : is_waited_for xs (0 + k) ≡ true = subst (λ j. is_waited_for xs j ≡ true) (omega arith) is in
          let among = filtered_to (is_waited_for xs) (full capacity glances) found.0 (0 + k) found.1 passes in
          absurd (none_there among.0 (0 + k) (subst (λ (ns : List ℕ). slice_get ns among.0 ≡ Some (0 + k)) room among.1))
