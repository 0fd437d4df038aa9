-- An offer with its second pass, at one subscription.
use Rattle.std.proofs.Common.{rules, ◌≡◌, ◌||◌, ℕ, ◌+◌, ◌-◌, ◌<◌, Bool, true, false, Option, None, Some, IsSome, option_map, List, length, map, is_some, refl, ap, sym, subst, ◌∙◌, arith}
use Rattle.std.specs.Prelude.{slice_get}
use Rattle.flow_rules.specs.Call.{Call}
use Rattle.flow_rules.specs.Feed.{End, Looked, MayStart}
use Rattle.flow_rules.specs.declared.feed.put.Put.{Put}
use Rattle.flow_rules.specs.declared.feed.put.Put.TheVariants.{Accepted, Full, Gone}
use Rattle.flow_rules.specs.declared.feed.standing.Standing.{Standing}
use Rattle.flow_rules.specs.declared.item.Item.{Item}
use Rattle.flow_rules.specs.declared.item.TheConstants.{MOST_PUBLICATIONS}
use Rattle.publisher_hub.specs.Entry.{EntryState, entry_of}
use Rattle.publisher_hub.specs.Lists.{EachBy}
use Rattle.publisher_hub.specs.Looking.{Prepares}
use Rattle.publisher_hub.specs.Gathering.{Second, dropped_by, missed}
use Rattle.publisher_hub.specs.Offering.{PutsTo, PutsAgain, IsOffered, Offered}
use Rattle.publisher_hub.specs.Steps.{CanAllPut, CanEachRetry, CanPut, CanRetry}
use Rattle.publisher_hub.specs.declared.entry.Entry.{Entry}
use Rattle.publisher_hub.proofs.PartialRounds.Next.{get_before_map, get_mapped}
use Rattle.publisher_hub.proofs.Publications.FullBuffers.{missed_at}
use Rattle.publisher_hub.proofs.Publications.OneSubscription.{missed_goes_on, offered_live, prepared_live, prepared_offered}
use Rattle.publisher_hub.proofs.PartialRounds.Progress.{same_some}
use Rattle.publisher_hub.proofs.AnswerLists.Places.{stood_by}

module _ {F T : Type 0} (meaning : F → End) (does : F → Call T → F → Type 0) (x : Item) where
  -- a subscription that missed the item may be offered it once more
  can_try_again : (back : Item) (ready new : Entry F) → CanPut (entry_of meaning ready)
      → ((e : End) → (entry_of meaning ready).feed ≡ Some e → e.closing ≡ None)
      → Offered meaning does x (Full back) ready new → CanRetry (entry_of meaning new)
  can_try_again back ready new can unclosed offered =
      let was : (entry_of meaning ready).feed ≡ Some (meaning offered.before) = ap (λ feed. option_map meaning feed) offered.was in
      let look : Looked (meaning offered.before) offered.means.0 = offered.means.1.unclosed (unclosed (meaning offered.before) was) in
      let same : meaning offered.after ≡ offered.means.0 = offered.means.2.unchanged in
      let is_ready : (meaning offered.after).ready ≡ (meaning offered.before).ready =
      ap (λ (end : End). end.ready) same ∙ ap (λ (end : End). end.ready) look.rest in
      let is_closing : (meaning offered.after).closing ≡ (meaning offered.before).closing =
      ap (λ (end : End). end.closing) same ∙ ap (λ (end : End). end.closing) look.rest in
      let accepted : (meaning offered.after).accepted ≡ (meaning offered.before).accepted =
      ap (λ (end : End). end.accepted) same ∙ ap (λ (end : End). end.accepted) look.rest in
      let take = can.take offered.live in
      let may : MayStart (meaning offered.before) = subst (λ (end : End). MayStart end) (same_some (sym take.1.0 ∙ was)) take.1.1 in
      let now : (entry_of meaning new).feed ≡ Some (meaning offered.after) =
      ap (λ (entry : Entry F). option_map meaning entry.feed) offered.now in
      let few : length (meaning offered.before).accepted < MOST_PUBLICATIONS = can.few (meaning offered.before) was in
      let more : new.dropped ≡ ready.dropped + 1 = ap (λ (entry : Entry F). entry.dropped) offered.now in
      let few_drops = can.few_drops in
      record {
        live = ap (λ (entry : Entry F). entry.retired) offered.now ∙ offered.live;
        take = λ _. (meaning offered.after, (now, ap (λ b. b || is_some (meaning offered.after).closing) is_ready ∙ ap (λ closing. (meaning offered.before).ready || is_some closing) is_closing ∙ may));
        few = λ end at. subst (λ (e : End). length e.accepted < MOST_PUBLICATIONS) (same_some (sym now ∙ at)) (subst (λ items. length items < MOST_PUBLICATIONS) (sym accepted) few);
        dropped = omega arith;
        few_drops = omega arith;
      }

  -- so may each subscription that missed it
  pub can_each_retry : (puts : List (Option (Put T))) (ready middle : List (Entry F)) → CanAllPut (map (entry_of meaning) ready)
      → EachBy (PutsTo meaning does x) puts ready middle
      → ((k : ℕ) (entry : Entry F) → slice_get ready k ≡ Some entry → (e : End) → (entry_of meaning entry).feed ≡ Some e → e.closing ≡ None)
      → CanEachRetry (missed puts) (map (entry_of meaning) middle)
  can_each_retry puts ready middle can given unclosed i k entry at stands =
      let full = missed_at 0 puts i k at in
      let here : k ≡ full.at = let number = full.number in omega arith in
      let now = get_before_map (entry_of meaning) middle k entry stands in
      let stood = stood_by (PutsTo meaning does x) puts ready middle k now.0 given now.1.0 in
      let said : stood.answer ≡ Some (Full full.back) =
      same_some (sym stood.said ∙ subst (λ j. slice_get puts j ≡ Some (Some (Full full.back))) (sym here) full.full) in
      subst (λ (state : EntryState). CanRetry state) now.1.1
      (can_try_again full.back stood.entry now.0 (can k (entry_of meaning stood.entry) (get_mapped (entry_of meaning) ready k stood.entry stood.at)) (unclosed k stood.entry stood.at)
      (subst (λ (put : Option (Put T)). PutsTo meaning does x put stood.entry now.0) said stood.became))

  module _ (next : ℕ) (serial : x.serial ≡ next) where
    -- what became of the item at one subscription, after both passes
    pub twice_offered : (glance : Option Standing) (put : Option (Put T)) (second : Second T) (old ready middle new : Entry F)
        → ((e : End) → (entry_of meaning old).feed ≡ Some e → e.closing ≡ None)
        → (IsSome second → (back : Item) × (put ≡ Some (Full back))) → Prepares meaning does next glance old ready
        → PutsTo meaning does x put ready middle → PutsAgain meaning does x second middle new
        → IsOffered x (entry_of meaning old) (entry_of meaning new)
    twice_offered glance put None old ready middle new unclosed full prepared puts_to again =
        subst (λ (entry : Entry F). IsOffered x (entry_of meaning old) (entry_of meaning entry)) (sym again) (prepared_offered meaning does next x serial glance put old ready middle unclosed prepared puts_to)
    twice_offered glance put (Some None) old ready middle new unclosed full prepared puts_to again =
        subst (λ (entry : Entry F). IsOffered x (entry_of meaning old) (entry_of meaning entry)) (sym again) (prepared_offered meaning does next x serial glance put old ready middle unclosed prepared puts_to)
    twice_offered glance put (Some (Some answer)) old ready middle new unclosed full prepared puts_to offered =
        let was = full (some_some answer) in
        let first : Offered meaning does x (Full was.0) ready middle =
        subst (λ (p : Option (Put T)). PutsTo meaning does x p ready middle) was.1 puts_to in
        let goes_on = prepared_live meaning does next glance old ready prepared first.live in
        offered_live meaning does next x answer old (record middle { dropped = middle.dropped - 1 }) new (missed_goes_on meaning does next x was.0 old ready middle goes_on first unclosed) offered unclosed where
          some_some : {X : Type 0} (answer : X) → IsSome {T = Option X} (Some (Some answer))
          some_some answer = search rules

    -- a drop is counted if it stands
    pub twice_dropped : (k : ℕ) (glance : Option Standing) (put : Option (Put T)) (second : Second T) (old ready middle new : Entry F)
        → (IsSome second → (back : Item) × (put ≡ Some (Full back))) → ((back : Item) → put ≡ Some (Full back) → IsSome second)
        → Prepares meaning does next glance old ready → PutsTo meaning does x put ready middle → PutsAgain meaning does x second middle new
        → new.dropped ≡ old.dropped + length (dropped_by k second)
    twice_dropped k glance put second old ready middle new full revisited prepared puts_to again = by put second full revisited puts_to again where
      first : ready.dropped ≡ old.dropped
      first = prepares_dropped glance prepared where
        prepares_dropped : (glance : Option Standing) → Prepares meaning does next glance old ready → ready.dropped ≡ old.dropped
        prepares_dropped None stays = ap (λ (entry : Entry F). entry.dropped) stays.1
        prepares_dropped (Some standing) sees = either standing.ended refl where
          either : (ended : Bool) → standing.ended ≡ ended → ready.dropped ≡ old.dropped
          either true is = ap (λ (entry : Entry F). entry.dropped) (sees.ended is ∙ sees.sees.ended is)
          either false is = ap (λ (entry : Entry F). entry.dropped) ((sees.stays is).1.1.now)
              ∙ ap (λ (entry : Entry F). entry.dropped) (sees.sees.stays is)

      not_full : {X : Type 0} (back : Item) → IsSome {T = Option (Put T)} None → X
      not_full back some = cc

      by : (put : Option (Put T)) (second : Second T) → (IsSome second → (back : Item) × (put ≡ Some (Full back)))
          → ((back : Item) → put ≡ Some (Full back) → IsSome second)
          → PutsTo meaning does x put ready middle → PutsAgain meaning does x second middle new
          → new.dropped ≡ old.dropped + length (dropped_by k second)
      by None None full revisited puts_to again = ap (λ (entry : Entry F). entry.dropped) again
          ∙ ap (λ (entry : Entry F). entry.dropped) puts_to.1 ∙ first ∙ omega arith
      by (Some (Accepted lag start)) None full revisited puts_to again = ap (λ (entry : Entry F). entry.dropped) again
          ∙ ap (λ (entry : Entry F). entry.dropped) puts_to.now ∙ first ∙ omega arith
      by (Some (Gone back)) None full revisited puts_to again = ap (λ (entry : Entry F). entry.dropped) again
          ∙ ap (λ (entry : Entry F). entry.dropped) puts_to.now ∙ first ∙ omega arith
      by (Some (Full back)) None full revisited puts_to again = not_full back (revisited back refl)
      by put (Some None) full revisited puts_to again =
          let was = full (search rules) in
          let missed_it : Offered meaning does x (Full was.0) ready middle =
          subst (λ (p : Option (Put T)). PutsTo meaning does x p ready middle) was.1 puts_to in
          ap (λ (entry : Entry F). entry.dropped) again ∙ ap (λ (entry : Entry F). entry.dropped) missed_it.now ∙ ap (λ n. n + 1) first
      by put (Some (Some answer)) full revisited puts_to again =
          let was = full (search rules) in
          let missed_it : Offered meaning does x (Full was.0) ready middle =
          subst (λ (p : Option (Put T)). PutsTo meaning does x p ready middle) was.1 puts_to in
          let more : middle.dropped ≡ old.dropped + 1 = ap (λ (entry : Entry F). entry.dropped) missed_it.now ∙ ap (λ n. n + 1) first in
          last answer again more where
            last : (answer : Put T) → Offered meaning does x answer (record middle { dropped = middle.dropped - 1 }) new → middle.dropped ≡ old.dropped + 1
                → new.dropped ≡ old.dropped + length (dropped_by {T = T} k (Some (Some answer)))
            last (Accepted lag start) offered more = ap (λ (entry : Entry F). entry.dropped) offered.now ∙ omega arith
            last (Gone back) offered more = ap (λ (entry : Entry F). entry.dropped) offered.now ∙ omega arith
            last (Full back) offered more = ap (λ (entry : Entry F). entry.dropped) offered.now ∙ omega arith
