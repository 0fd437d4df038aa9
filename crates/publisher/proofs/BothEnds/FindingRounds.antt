-- How the two ends of each subscription are brought together, one subscription after the other.
use Rattle.std.proofs.Common.{◌≡◌, ◌⊎◌, inl, inr, ℕ, ◌+◌, ◌<◌, ◌≤◌, ◌||◌, ◌&&◌, Bool, true, false, is_some, Option, None, Some, option_map, List, [], ◌∷◌, ◌++◌, length, refl, sym, ap, subst, ◌∙◌, arith}
use Rattle.std.specs.Option.{option_and_then}
use Rattle.std.specs.Prelude.{IsSome, slice_get, slice_set}
use Rattle.std.proofs.lemmas.List.{length-append, length-map, length-set}
use Rattle.std.proofs.lemmas.Option.{same_Some}
use Rattle.feed_cell.specs.Parties.{ProducerState}
use Rattle.publisher.specs.Handles.{SubscriptionState}
use Rattle.publisher_hub.specs.Entry.{EntryState, entry_of}
use Rattle.publisher_hub.specs.Facts.{facts_of}
use Rattle.publisher_hub.specs.Hub.{HubState, hub_of}
use Rattle.publisher_hub.specs.Lists.{Each}
use Rattle.publisher_hub.specs.Sound.{IsSound}
use Rattle.publisher_hub.specs.Lending.{feed_at}
use Rattle.publisher_hub.specs.Taking.{TakesOutAt, entry_without_feed}
use Rattle.publisher_hub.specs.declared.entry.Entry.{Entry}
use Rattle.publisher_hub.specs.declared.hub.Hub.{Hub}
use Rattle.publisher_hub.proofs.AnswerLists.Updates.{get_elsewhere, get_grown}
use Rattle.publisher_hub.proofs.PartialRounds.Next.{get_before_map, get_mapped}
use Rattle.publisher_hub.proofs.AnswerLists.Places.{there}
use Rattle.publisher_hub.proofs.Soundness.Replacing.{set_or_stood, set_same}
use Rattle.publisher.specs.Finding.{FindsAll, FindsBy, FindsOne, IsFoundOf, IsSameOrLeft, is_reclaimed}
use Rattle.publisher.specs.State.{producer_end}
use Rattle.publisher.specs.Tickets.{IsLate}
use Rattle.publisher.specs.declared.finishing.find.Found.{Found}
use Rattle.publisher.specs.declared.finishing.find.Taken.{Taken}

left_false : (a b : Bool) → (a || b) ≡ false → a ≡ false
left_false true b e = cc
left_false false b e = refl

right_false : (a b : Bool) → (a || b) ≡ false → b ≡ false
right_false true b e = cc
right_false false b e = e

-- no owner was handed in, if none is that of a reclaimed subscription
not_handed : {B : Type 0} (owner : Option SubscriptionState) (found : Found B) → found ≡ Found.Reclaimed
    → (is_some owner && is_reclaimed found) ≡ false → owner ≡ None
not_handed None found is e = refl
not_handed (Some owner) (Found.Both taken) is e = cc
not_handed (Some owner) (Found.Missing name) is e = cc
not_handed (Some owner) Found.Reclaimed is e = cc

-- how far the finding has come: nothing further has changed
pub record IsFinding {B : Type 0} (old new : Hub ProducerState) (counted : Option ℕ)
    (owners now : List (Option SubscriptionState)) (most : ℕ) (founds : List (Found B)) (gone : Bool) : Type 0 where
  pub as_many : length founds ≡ most
  pub each : (k : ℕ) (entry : Entry ProducerState) (found : Found B) → slice_get old.entries.items k ≡ Some entry
      → slice_get founds k ≡ Some found → IsFoundOf counted k (entry_of producer_end entry) found
  pub here : (k : ℕ) (taken : Taken B) → slice_get founds k ≡ Some (Found.Both taken) → slice_get owners k ≡ Some (Some taken.owner)
  pub missing : (k : ℕ) (name : List ℕ) → slice_get founds k ≡ Some (Found.Missing name) → slice_get owners k ≡ Some None
  pub reclaimed : gone ≡ false → (k : ℕ) → slice_get founds k ≡ Some Found.Reclaimed → slice_get owners k ≡ Some None
  pub rest : hub_of producer_end new ≡ record (hub_of producer_end old) { entries = (hub_of producer_end new).entries }
  pub stays : Each IsSameOrLeft old.entries.items new.entries.items
  pub sound : IsSound (hub_of producer_end new)
  pub ahead : (k : ℕ) → most ≤ k → slice_get new.entries.items k ≡ slice_get old.entries.items k
  pub owners_ahead : (k : ℕ) → most ≤ k → slice_get now k ≡ slice_get owners k
  pub owners_long : length now ≡ length owners

pub finding_none : {B : Type 0} (hub : Hub ProducerState) (counted : Option ℕ) (owners : List (Option SubscriptionState))
    (founds : List (Found B)) → founds ≡ [] → IsSound (hub_of producer_end hub)
    → IsFinding hub hub counted owners owners 0 founds false
finding_none hub counted owners [] none sound = record {
  as_many = refl;
  each = λ k entry found at on. cc;
  here = λ k taken at. cc;
  missing = λ k name at. cc;
  reclaimed = λ here k at. cc;
  rest = refl;
  stays = record { as_long = refl; each = λ k x y at on. inl (same_Some y x (sym on ∙ at)) };
  sound = sound;
  ahead = λ k le. refl;
  owners_ahead = λ k le. refl;
  owners_long = refl;
}
finding_none hub counted owners (found ∷ founds) none sound = cc

-- one more entry was taken out
left_set : (xs ys zs : List (Entry ProducerState)) (number next : ℕ) (entry : Entry ProducerState)
    → slice_get xs number ≡ Some entry → zs ≡ slice_set ys number (entry_without_feed next entry)
    → Each IsSameOrLeft xs ys → Each IsSameOrLeft xs zs
left_set xs ys zs number next entry stands set are = record {
  as_long = ap length set ∙ length-set ys number (entry_without_feed next entry) ∙ are.as_long;
  each = λ k x z at on. by k x z at (set_or_stood ys number (entry_without_feed next entry) k z (sym (ap (λ es. slice_get es k) set) ∙ on));
} where
  by : (k : ℕ) (x z : Entry ProducerState) → slice_get xs k ≡ Some x
      → ((number ≡ k) × (entry_without_feed next entry ≡ z)) ⊎ (slice_get ys k ≡ Some z) → IsSameOrLeft x z
  by k x z at (inl now) =
      let same : entry ≡ x = same_Some entry x (sym stands ∙ subst (λ n. slice_get xs n ≡ Some x) (sym now.0) at) in
      inr (subst (λ (e : Entry ProducerState). ((e.feed ≡ None) × (e.ticket ≡ None)) × (e.since ≡ x.since)) now.1
      ((refl, refl), ap (λ (e : Entry ProducerState). e.since) same))
  by k x z at (inr before) = are.each k x z at before

module _ {B : Type 0} (old new later : Hub ProducerState) (counted : Option ℕ)
    (owners now then : List (Option SubscriptionState)) (most : ℕ) (founds : List (Found B)) (gone : Bool)
    (owner : Option SubscriptionState) (found : Found B)
    (finding : IsFinding old new counted owners now most founds gone) (taken : slice_get now most ≡ Some owner)
    (then_is : then ≡ slice_set now most None) (finds : FindsOne counted most owner found new later)
    (sound : IsSound (hub_of producer_end later)) where
  was_owner : slice_get owners most ≡ Some owner
  was_owner = sym (finding.owners_ahead most (omega arith)) ∙ taken

  stood : slice_get old.entries.items most ≡ Some finds.entry
  stood = sym (finding.ahead most (omega arith)) ∙ finds.stands

  same_still : later.entries.items ≡ new.entries.items → Each IsSameOrLeft old.entries.items later.entries.items
      × ((k : ℕ) → most + 1 ≤ k → slice_get later.entries.items k ≡ slice_get old.entries.items k)
  same_still same = (
    subst (λ items. Each IsSameOrLeft old.entries.items items) (sym same) finding.stays,
    λ k le. ap (λ es. slice_get es k) same ∙ finding.ahead k (omega arith),
  )

  -- what changed in the list of entries
  changed : (f : Found B) → found ≡ f → FindsBy most owner finds.entry f new later
      → Each IsSameOrLeft old.entries.items later.entries.items
      × ((k : ℕ) → most + 1 ≤ k → slice_get later.entries.items k ≡ slice_get old.entries.items k)
  changed (Found.Both both) e by = (
    left_set old.entries.items new.entries.items later.entries.items most new.next finds.entry stood by.1 finding.stays,
    λ k le. ap (λ es. slice_get es k) by.1 ∙ get_elsewhere new.entries.items most k
        (entry_without_feed new.next finds.entry) (λ same. absurd (omega arith)) ∙ finding.ahead k (omega arith),
  )
  changed (Found.Missing name) e by = same_still by.1
  changed Found.Reclaimed e by = same_still by

  found_is : FindsBy most owner finds.entry found new later
  found_is = finds.by

  both_here : (both : Taken B) → found ≡ Found.Both both → slice_get owners most ≡ Some (Some both.owner)
  both_here both e = was_owner ∙ ap Some (subst (λ f. FindsBy most owner finds.entry f new later) e finds.by).0

  missing_here : (name : List ℕ) → found ≡ Found.Missing name → slice_get owners most ≡ Some None
  missing_here name e = was_owner ∙ ap Some (subst (λ f. FindsBy most owner finds.entry f new later) e finds.by).0

  reclaimed_here : found ≡ Found.Reclaimed → (is_some owner && is_reclaimed found) ≡ false → slice_get owners most ≡ Some None
  reclaimed_here e here = was_owner ∙ ap Some (not_handed owner found e here)

  pub finding_more : IsFinding old later counted owners then (most + 1) (founds ++ found ∷ [])
      (gone || (is_some owner && is_reclaimed found))
  finding_more = record {
    as_many = length-append founds (found ∷ []) ∙ ap (λ n. n + 1) finding.as_many;
    each = λ k entry it at on. each k entry it at (get_grown founds found k it on);
    here = λ k both at. here k both (get_grown founds found k (Found.Both both) at);
    missing = λ k name at. missing k name (get_grown founds found k (Found.Missing name) at);
    reclaimed = λ none k at. reclaimed none k (get_grown founds found k Found.Reclaimed at);
    rest = finds.rest ∙ ap (λ (h : HubState). record h { entries = (hub_of producer_end later).entries }) finding.rest;
    stays = (changed found refl finds.by).0;
    sound = sound;
    ahead = (changed found refl finds.by).1;
    owners_ahead = λ k le. ap (λ hs. slice_get hs k) then_is
        ∙ get_elsewhere now most k None (λ same. absurd (omega arith)) ∙ finding.owners_ahead k (omega arith);
    owners_long = ap length then_is ∙ length-set now most None ∙ finding.owners_long;
  } where
    each : (k : ℕ) (entry : Entry ProducerState) (it : Found B) → slice_get old.entries.items k ≡ Some entry
        → (slice_get founds k ≡ Some it) ⊎ ((k ≡ length founds) × (found ≡ it)) → IsFoundOf counted k (entry_of producer_end entry) it
    each k entry it at (inl before) = finding.each k entry it at before
    each k entry it at (inr last) =
        let number : k ≡ most = last.0 ∙ finding.as_many in
        let same : finds.entry ≡ entry = same_Some finds.entry entry
        (sym stood ∙ subst (λ n. slice_get old.entries.items n ≡ Some entry) number at) in
        subst (λ f. IsFoundOf counted k (entry_of producer_end entry) f) last.1
        (subst (λ (e : Entry ProducerState). IsFoundOf counted k (entry_of producer_end e) found) same
        (subst (λ n. IsFoundOf counted n (entry_of producer_end finds.entry) found) (sym number) finds.is))

    here : (k : ℕ) (both : Taken B) → (slice_get founds k ≡ Some (Found.Both both)) ⊎
        ((k ≡ length founds) × (found ≡ Found.Both both)) → slice_get owners k ≡ Some (Some both.owner)
    here k both (inl before) = finding.here k both before
    here k both (inr last) = subst (λ n. slice_get owners n ≡ Some (Some both.owner))
        (sym (last.0 ∙ finding.as_many)) (both_here both last.1)

    missing : (k : ℕ) (name : List ℕ) → (slice_get founds k ≡ Some (Found.Missing name)) ⊎
        ((k ≡ length founds) × (found ≡ Found.Missing name)) → slice_get owners k ≡ Some None
    missing k name (inl before) = finding.missing k name before
    missing k name (inr last) = subst (λ n. slice_get owners n ≡ Some None) (sym (last.0 ∙ finding.as_many)) (missing_here name last.1)

    reclaimed : (gone || (is_some owner && is_reclaimed found)) ≡ false → (k : ℕ)
        → (slice_get founds k ≡ Some Found.Reclaimed) ⊎ ((k ≡ length founds) × (found ≡ Found.Reclaimed)) → slice_get owners k ≡ Some None
    reclaimed none k (inl before) = finding.reclaimed (left_false gone _ none) k before
    reclaimed none k (inr last) = subst (λ n. slice_get owners n ≡ Some None) (sym (last.0 ∙ finding.as_many))
        (reclaimed_here last.1 (right_false gone _ none))

pub finding_all : {B : Type 0} (old new : Hub ProducerState) (counted : Option ℕ)
    (owners now : List (Option SubscriptionState)) (most : ℕ) (founds : List (Found B)) (gone : Bool) → most ≡ length old.entries.items
    → IsFinding old new counted owners now most founds gone → FindsAll old new counted owners founds gone
finding_all old new counted owners now most founds gone all is = record {
  found = record {
    as_many = is.as_many ∙ all ∙ sym (length-map old.entries.items (entry_of producer_end));
    each = λ k entry found at on.
        let raw = get_before_map (entry_of producer_end) old.entries.items k entry at in
        subst (λ (e : EntryState). IsFoundOf counted k e found) raw.1.1 (is.each k raw.0 found raw.1.0 on);
  };
  here = is.here;
  missing = is.missing;
  reclaimed = is.reclaimed;
  rest = is.rest;
  stays = is.stays;
  sound = is.sound;
}

-- what a Hub answers of a subscription that stands there
pub read_of : {X : Type 0} (f : EntryState → X) (hub : Hub ProducerState) (number : ℕ) (entry : Entry ProducerState)
    (answer : Option X) (x : X) → answer ≡ Some x
    → answer ≡ option_map f (slice_get (hub_of producer_end hub).entries number)
    → slice_get hub.entries.items number ≡ Some entry → x ≡ f (entry_of producer_end entry)
read_of f hub number entry answer x is value stands =
    same_Some x (f (entry_of producer_end entry))
    (sym is ∙ value ∙ ap (option_map f) (get_mapped (entry_of producer_end) hub.entries.items number entry stands))

-- what is found of one subscription
module _ {B : Type 0} (counted : Option ℕ) (number : ℕ) (owner : Option SubscriptionState) (old new : Hub ProducerState)
    (within : number < length old.entries.items) where
  pub finds_both : (other : SubscriptionState) (taken : Taken B) → owner ≡ Some other
      → TakesOutAt producer_end number (Some taken.producer) old new → taken.owner ≡ other
      → ((taken.late ≡ true → IsLate counted number) × (IsLate counted number → taken.late ≡ true))
      → ((entry : Entry ProducerState) → slice_get old.entries.items number ≡ Some entry
      → taken.facts ≡ facts_of (entry_of producer_end entry))
      → FindsOne counted number owner (Found.Both taken) old new
  finds_both other taken handed takes owner_is late reads =
      let entry = there old.entries.items number within in
      let after = takes.there entry.0 entry.1 in
      record {
        entry = entry.0;
        stands = entry.1;
        is = record {
          facts = reads entry.0 entry.1;
          late = late;
          producer =
              ap (option_map producer_end) after.1.0.0;
        };
        by = (handed ∙ ap Some (sym owner_is), after.1.1 ∙ ap (slice_set old.entries.items number) after.1.0.1);
        rest = takes.rest;
      }

  -- one whose producer's end was taken out before
  pub finds_reclaimed : TakesOutAt producer_end number None old new → FindsOne {B = B} counted number owner Found.Reclaimed old new
  finds_reclaimed takes =
      let entry = there old.entries.items number within in
      let after = takes.there entry.0 entry.1 in
      record {
        entry = entry.0;
        stands = entry.1;
        is = ap (option_map producer_end) after.1.0.0;
        by = after.1.1 ∙ ap (slice_set old.entries.items number) after.1.0.1 ∙ set_same old.entries.items number entry.0 entry.1;
        rest = takes.rest;
      }

-- the end of the one that stands there
stored_feed : (hub : Hub ProducerState) (number : ℕ) (entry : Entry ProducerState)
    → slice_get hub.entries.items number ≡ Some entry → feed_at hub number ≡ entry.feed
stored_feed hub number entry at = ap (option_and_then (λ (it : Entry ProducerState). it.feed)) at

mapped_some : (feed : Option ProducerState) → IsSome feed → IsSome (option_map producer_end feed)
mapped_some None some = some
mapped_some (Some producer) some = refl

mapped_none : (feed : Option ProducerState) → (IsSome feed → ⊥) → option_map producer_end feed ≡ None
mapped_none None none = refl
mapped_none (Some producer) none = absurd (none refl)

none_handed : (owner : Option SubscriptionState) → ((it : SubscriptionState) → owner ≡ Some it → ⊥) → owner ≡ None
none_handed None not = refl
none_handed (Some it) not = absurd (not it refl)

-- what is found of one whose owner was not handed in
module _ {B : Type 0} (counted : Option ℕ) (number : ℕ) (owner : Option SubscriptionState) (hub : Hub ProducerState)
    (within : number < length hub.entries.items) (unhanded : (it : SubscriptionState) → owner ≡ Some it → ⊥) where
  pub finds_missing : (name : List ℕ) → IsSome (feed_at hub number)
      → ((entry : Entry ProducerState) → slice_get hub.entries.items number ≡ Some entry → name ≡ entry.name)
      → FindsOne {B = B} counted number owner (Found.Missing name) hub hub
  finds_missing name some reads =
      let entry = there hub.entries.items number within in
      record {
        entry = entry.0;
        stands = entry.1;
        is = (reads entry.0 entry.1, mapped_some entry.0.feed (subst IsSome (stored_feed hub number entry.0 entry.1) some));
        by = (none_handed owner unhanded, refl);
        rest = refl;
      }

  pub finds_gone : (IsSome (feed_at hub number) → ⊥) → FindsOne {B = B} counted number owner Found.Reclaimed hub hub
  finds_gone none =
      let entry = there hub.entries.items number within in
      record {
        entry = entry.0;
        stands = entry.1;
        is = mapped_none entry.0.feed (λ some. none (subst IsSome (sym (stored_feed hub number entry.0 entry.1)) some));
        by = refl;
        rest = refl;
      }
