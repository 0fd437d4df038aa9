-- Subscriptions that were made ready.
use Rattle.std.proofs.Common.{◌≡◌, ◌||◌, ℕ, Bool, true, false, Option, None, Some, option_map, Result, Ok, Err, IfOk, OnErr, OnOk, IsOk, IsErr, List, map, refl, ap, sym, subst, ◌∙◌, is_some, arith}
use Rattle.std.proofs.lemmas.Option.{slice_get_within}
use Rattle.flow_rules.specs.Call.{Call}
use Rattle.flow_rules.specs.Feed.{End}
use Rattle.flow_rules.specs.declared.feed.standing.Standing.{Standing}
use Rattle.flow_rules.specs.declared.refusal.NoMemory.{NoMemory}
use Rattle.publisher_hub.specs.Entry.{EntryState, entry_of}
use Rattle.publisher_hub.specs.Hub.{HubState}
use Rattle.publisher_hub.specs.Lists.{EachBy}
use Rattle.publisher_hub.specs.Looking.{FailsToPrepare, IsKept, IsLookedAt, Prepares, Readies, ShowsRoom}
use Rattle.publisher_hub.specs.Readiness.{AreReady, CanAllTake, IsReady}
use Rattle.publisher_hub.specs.Sound.{IsSound}
use Rattle.publisher_hub.specs.Steps.{AreHere}
use Rattle.publisher_hub.specs.declared.entry.Entry.{Entry}
use Rattle.publisher_hub.specs.declared.hub.room.Room.{Room}
use Rattle.publisher_hub.proofs.Subscribed.AfterLooks.{untouched_kept}
use Rattle.publisher_hub.proofs.PartialRounds.Next.{get_before_map}
use Rattle.publisher_hub.proofs.PartialRounds.Progress.{same_some}
use Rattle.publisher_hub.proofs.AnswerLists.Places.{answered_at, there}

-- an answer is no refusal
not_both : {A E : Type 0} (answer : Result A E) → IsOk answer → IsErr answer → ⊥
not_both (Ok x) ok err = cc
not_both (Err e) ok err = cc

-- an end that was made ready is
now_ready : {F T : Type 0} (meaning : F → End) (does : F → Call T → F → Type 0) (answer : Result Unit NoMemory) (f g : F) → IsOk answer
    → Readies meaning does answer f g → (meaning g).ready ≡ true
now_ready meaning does (Ok x) f g ok readies = ap (λ (end : End). end.ready) readies.ok
now_ready meaning does (Err e) f g ok readies = cc

module _ {F T : Type 0} (meaning : F → End) (does : F → Call T → F → Type 0) (next : ℕ) where
  -- a subscription that is ready can be prepared
  pub ready_is_prepared : (old new : Entry F) → FailsToPrepare meaning does next old new → IsReady (entry_of meaning old) → ⊥
  ready_is_prepared old new fails ready =
      let has = ready fails.sees.live in
      let same : has.0 ≡ meaning fails.sees.before = same_some (sym has.1.0 ∙ ap (λ feed. option_map meaning feed) fails.sees.was) in
      let stays = fails.sees.stays fails.goes_on in
      let looked : fails.sees.after ≡ fails.readied.before =
      same_some (sym (ap (λ (entry : Entry F). entry.feed) stays) ∙ fails.readied.was) in
      let kept : (meaning fails.sees.after).ready ≡ (meaning fails.sees.before).ready =
      ap (λ (end : End). end.ready) fails.sees.stands.look.rest in
      let is : (meaning fails.readied.before).ready ≡ true =
      ap (λ f. (meaning f).ready) (sym looked) ∙ kept ∙ ap (λ (end : End). end.ready) (sym same) ∙ has.1.1 in
      not_both fails.answer (fails.readied.readies.stays is) fails.refused

  -- what was prepared is ready
  pub prepared_ready : (glance : Option Standing) (old new : Entry F) → Prepares meaning does next glance old new
      → IsReady (entry_of meaning new)
  prepared_ready None old new stays live = let e : new.retired ≡ true = ap (λ (entry : Entry F). entry.retired) stays.1
      ∙ stays.0 in let no : true ≡ false = sym e ∙ live in cc
  prepared_ready (Some standing) old new sees live = by standing.ended refl where
    by : (ended : Bool) → standing.ended ≡ ended → (end : End) × ((option_map meaning new.feed ≡ Some end) × (end.ready ≡ true))
    by true is =
        let retired : new.retired ≡ true = ap (λ (entry : Entry F). entry.retired) (sees.ended is ∙ sees.sees.ended is) in
        let no : true ≡ false = sym retired ∙ live in cc
    by false is =
        let stays = sees.stays is in
        let readied = stays.1.1 in
        (meaning readied.after, (ap (λ (entry : Entry F). option_map meaning entry.feed) readied.now, now_ready meaning does stays.0 readied.before readied.after stays.1.0 readied.readies))

  pub all_prepared_ready : (glances : List (Option Standing)) (xs ys : List (Entry F)) → EachBy (Prepares meaning does next) glances xs ys
      → AreReady (map (entry_of meaning) ys)
  all_prepared_ready glances xs ys each k entry at =
      let now = get_before_map (entry_of meaning) ys k entry at in
      let old = there xs k (let within = slice_get_within ys k now.0 now.1.0 in let many = each.as_long in omega arith) in
      let glance = answered_at (Prepares meaning does next) glances xs ys k old.0 each old.1 in
      subst (λ (entry : EntryState). IsReady entry) now.1.1 (prepared_ready glance.0 old.0 now.0 (each.each k glance.0 old.0 now.0 glance.1 old.1 now.1.0))

-- those that are ready may be handed items, or closed
pub ready_can_take : (entries : List EntryState) → AreReady entries → CanAllTake entries
ready_can_take entries ready k entry at live =
    let has = ready k entry at live in
    (has.0, (has.1.0, ap (λ b. b || is_some has.0.closing) has.1.1))

-- what a round has made ready is ready, if it isn't refused
pub on_ok_ready : {F T : Type 0} (meaning : F → End) (does : F → Call T → F → Type 0) (next capacity : ℕ) (result : Result Room NoMemory) (xs ys : List (Entry F))
    → IfOk result (λ room. (glances : List (Option Standing)) × (EachBy (Prepares meaning does next) glances xs ys × ShowsRoom room capacity xs glances)) → OnOk result (AreReady (map (entry_of meaning) ys))
on_ok_ready meaning does next capacity (Ok room) xs ys ok = all_prepared_ready meaning does next ok.0 xs ys ok.1.0
on_ok_ready meaning does next capacity (Err e) xs ys ok = _

-- the producers' ends of a sound Hub's subscriptions are there
pub all_here : (hub : HubState) → IsSound hub → AreHere hub.entries
all_here hub sound k entry at live = (sound.entries k entry at).here live

-- a Hub that is as it was
pub not_looked_at : (hub : HubState) → IsSound hub → IsLookedAt hub hub
not_looked_at hub sound = record {
  rest = refl;
  entries = record {
    as_long = refl;
    each = λ k x y at at'. subst (λ (entry : EntryState). IsKept hub.progress.next x entry) (same_some (sym at ∙ at')) (untouched_kept hub.progress.next x (all_here hub sound k x at));
  };
}

-- a refusal answers nothing
pub on_err : {A E : Type 0} (r : Result A E) (P : Type 0) → P → OnErr r P
on_err (Ok x) P p = _
on_err (Err e) P p = p
