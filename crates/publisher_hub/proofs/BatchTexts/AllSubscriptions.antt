-- A publication of a batch of texts to all subscriptions of a Hub.
use Rattle.std.proofs.Common.{◌≡◌, ℕ, ◌+◌, ◌-◌, ◌<◌, ◌≤◌, Bool, true, false, Option, None, Some, option_map, List, ◌∷◌, length, map, refl, ap, sym, subst, ◌∙◌, arith}
use Rattle.std.specs.Prelude.{fold, min, slice_get}
use Rattle.std.proofs.lemmas.List.{length-map}
use Rattle.flow_rules.specs.Call.{Call}
use Rattle.flow_rules.specs.Feed.{End, MayStart}
use Rattle.flow_rules.specs.declared.feed.put_all.PutAll.{PutAll}
use Rattle.flow_rules.specs.declared.feed.put_all.PutAll.TheVariants.{Accepted, Gone}
use Rattle.flow_rules.specs.declared.feed.standing.Standing.{Standing}
use Rattle.flow_rules.specs.declared.item.Item.{Item}
use Rattle.flow_rules.specs.declared.item.TheConstants.{MOST_PUBLICATIONS}
use Rattle.publisher_hub.specs.Entry.{EntryState, entry_of}
use Rattle.publisher_hub.specs.Hub.{HubState}
use Rattle.publisher_hub.specs.Lists.{Each, EachBy}
use Rattle.publisher_hub.specs.Looking.{Prepares, rooms}
use Rattle.publisher_hub.specs.Policy.{LosesNothing}
use Rattle.publisher_hub.specs.Batch.{CanAllPutBatch, CanPutBatch, HasRoomFor, PutsBatchTo}
use Rattle.publisher_hub.specs.Sound.{IsCounted, IsSound}
use Rattle.publisher_hub.specs.declared.entry.Entry.{Entry}
use Rattle.publisher_hub.proofs.AnswerLists.Places.{stood_by}
use Rattle.publisher_hub.proofs.PartialRounds.Next.{get_before_map}
use Rattle.publisher_hub.proofs.PartialRounds.Progress.{same_some}
use Rattle.publisher_hub.proofs.Publications.AllSubscriptions.{held_prepared, prepares_dropped}
use Rattle.publisher_hub.proofs.Publications.OneSubscription.{not_both, prepared_can_take, prepared_live}
use Rattle.publisher_hub.proofs.BatchTexts.OneSubscription.{HasBetween, prepared_batch}
use Rattle.publisher_hub.proofs.BatchTexts.Rooms.{least_room}

module _ {F T : Type 0} (meaning : F → End) (does : F → Call T → F → Type 0) where
  -- one that was prepared has the room that the look showed
  can_put_batch : (next capacity many : ℕ) (glance : Option Standing) (old ready : Entry F) → 0 < many
      → ((standing : Standing) → glance ≡ Some standing → standing.ended ≡ false → many ≤ capacity - standing.held)
      → ((e : End) → (entry_of meaning old).feed ≡ Some e → e.capacity ≡ capacity)
      → ((e : End) → (entry_of meaning ready).feed ≡ Some e → length e.accepted + many ≤ MOST_PUBLICATIONS)
      → Prepares meaning does next glance old ready → CanPutBatch many (entry_of meaning ready)
  can_put_batch next capacity many None old ready some has here few stays live =
      not_both (ap (λ (entry : Entry F). entry.retired) stays.1 ∙ stays.0) live
  can_put_batch next capacity many (Some standing) old ready some has here few sees live = by standing.ended refl where
    by : (ended : Bool) → standing.ended ≡ ended → (end : End) × (((entry_of meaning ready).feed ≡ Some end) × HasRoomFor many end)
    by true is = not_both (ap (λ (entry : Entry F). entry.retired) (sees.ended is ∙ sees.sees.ended is)) live
    by false is =
        let goes_on = prepared_live meaning does next (Some standing) old ready sees live in
        let can = prepared_can_take meaning does next (Some standing) old ready sees live in
        let readied = sees.stays is in
        let was : ready.feed ≡ Some goes_on.after = ap (λ (entry : Entry F). entry.feed) goes_on.now in
        let stands : (entry_of meaning ready).feed ≡ Some (meaning goes_on.after) = ap (λ feed. option_map meaning feed) was in
        let held = held_prepared meaning does standing readied.0 next old sees.middle ready goes_on.after is sees.sees readied.1.1 was in
        let before : (entry_of meaning old).feed ≡ Some (meaning goes_on.before) = ap (λ feed. option_map meaning feed) goes_on.was in
        let capacity_is : (meaning goes_on.after).capacity ≡ capacity = held.1 (meaning goes_on.before) before ∙ here (meaning goes_on.before) before in
        let same = held.0 in
        let shown = has standing refl is in (
          meaning goes_on.after,
          (
            stands,
            record {
              may = subst (λ (end : End). MayStart end) (same_some (sym can.1.0 ∙ stands)) can.1.1;
              room = omega arith;
              few = few (meaning goes_on.after) stands;
            },
          ),
        )

  -- once all were prepared, each has room for as many items as the least room allows
  pub can_all_put_batch : (hub : HubState) (next capacity many b : ℕ) (glances : List (Option Standing)) (xs ys : List (Entry F)) → IsSound hub
      → hub.entries ≡ map (entry_of meaning) ys → hub.progress.next + many ≤ MOST_PUBLICATIONS → 0 < many
      → many ≤ fold min b (rooms capacity glances)
      → ((k : ℕ) (old : Entry F) → slice_get xs k ≡ Some old → (e : End) → (entry_of meaning old).feed ≡ Some e → e.capacity ≡ capacity)
      → EachBy (Prepares meaning does next) glances xs ys → CanAllPutBatch many (map (entry_of meaning) ys)
  can_all_put_batch hub next capacity many b glances xs ys sound entries few some least here prepared k entry at =
      let is = sound.entries k entry (subst (λ all. slice_get all k ≡ Some entry) (sym entries) at) in
      let raw = get_before_map (entry_of meaning) ys k entry at in
      let stood = stood_by (Prepares meaning does next) glances xs ys k raw.0 prepared raw.1.0 in
      subst (λ (state : EntryState). CanPutBatch many state) raw.1.1
      (can_put_batch next capacity many stood.answer stood.entry raw.0 some
      (λ standing seen goes_on. let shown = least_room b capacity glances k standing goes_on (stood.said ∙ ap Some seen) in omega arith)
      (here k stood.entry stood.at)
      (λ e was. below e (is.counted e (sym (ap (λ (state : EntryState). state.feed) raw.1.1) ∙ was)))
      stood.became) where
        below : (e : End) → IsCounted hub.progress entry e → length e.accepted + many ≤ MOST_PUBLICATIONS
        below e counted = let count = counted.count in let until = counted.until in omega arith

  -- each subscription was offered all items, one after the other
  pub all_between : (next : ℕ) (x : Item) (items : List Item) (glances : List (Option Standing)) (puts : List (Option (PutAll T))) (xs middle ys : List (Entry F))
      → x.serial ≡ next
      → ((k : ℕ) (old : Entry F) → slice_get xs k ≡ Some old → (e : End) → (entry_of meaning old).feed ≡ Some e → e.closing ≡ None)
      → EachBy (Prepares meaning does next) glances xs middle → EachBy (PutsBatchTo meaning does next (x ∷ items)) puts middle ys
      → Each (HasBetween x items) (map (entry_of meaning) xs) (map (entry_of meaning) ys)
  all_between next x items glances puts xs middle ys serial unclosed prepared given = record {
    as_long = length-map ys (entry_of meaning) ∙ given.as_long ∙ prepared.as_long ∙ sym (length-map xs (entry_of meaning));
    each = λ k old new at at'.
        let before = get_before_map (entry_of meaning) xs k old at in
        let after = get_before_map (entry_of meaning) ys k new at' in
        let second = stood_by (PutsBatchTo meaning does next (x ∷ items)) puts middle ys k after.0 given after.1.0 in
        let first = stood_by (Prepares meaning does next) glances xs middle k second.entry prepared second.at in
        let same : first.entry ≡ before.0 = same_some (sym first.at ∙ before.1.0) in
        subst (λ (entry : EntryState). HasBetween x items old entry) after.1.1
        (subst (λ (entry : EntryState). HasBetween x items entry (entry_of meaning after.0)) (ap (λ (entry : Entry F). entry_of meaning entry) same ∙ before.1.1)
        (prepared_batch meaning does next x items serial first.answer second.answer first.entry second.entry after.0 (unclosed k first.entry first.at) first.became second.became));
  }

  -- no subscription loses an item
  pub nothing_lost : (next : ℕ) (items : List Item) (glances : List (Option Standing)) (puts : List (Option (PutAll T))) (xs middle ys : List (Entry F))
      → EachBy (Prepares meaning does next) glances xs middle → EachBy (PutsBatchTo meaning does next items) puts middle ys
      → Each LosesNothing (map (entry_of meaning) xs) (map (entry_of meaning) ys)
  nothing_lost next items glances puts xs middle ys prepared given = record {
    as_long = length-map ys (entry_of meaning) ∙ given.as_long ∙ prepared.as_long ∙ sym (length-map xs (entry_of meaning));
    each = λ k old new at at' _.
        let before = get_before_map (entry_of meaning) xs k old at in
        let after = get_before_map (entry_of meaning) ys k new at' in
        let second = stood_by (PutsBatchTo meaning does next items) puts middle ys k after.0 given after.1.0 in
        let first = stood_by (Prepares meaning does next) glances xs middle k second.entry prepared second.at in
        let same : first.entry ≡ before.0 = same_some (sym first.at ∙ before.1.0) in
        ap (λ (entry : EntryState). entry.dropped) (sym after.1.1) ∙ puts_dropped second.answer second.entry after.0 second.became
        ∙ prepares_dropped meaning does next first.answer first.entry second.entry first.became
        ∙ ap (λ (entry : Entry F). entry.dropped) same ∙ ap (λ (entry : EntryState). entry.dropped) before.1.1;
  } where
    puts_dropped : (put : Option (PutAll T)) (old new : Entry F) → PutsBatchTo meaning does next items put old new
        → new.dropped ≡ old.dropped
    puts_dropped None old new stays = ap (λ (entry : Entry F). entry.dropped) stays.1
    puts_dropped (Some (Accepted lag start)) old new offered = ap (λ (entry : Entry F). entry.dropped) offered.now
    puts_dropped (Some (Gone back)) old new offered = ap (λ (entry : Entry F). entry.dropped) offered.now
