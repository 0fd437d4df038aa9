-- What looks at the subscriptions of a script's publisher leave of them.
use Rattle.std.proofs.Common.{◌≡◌, inl, inr, ℕ, ◌+◌, Bool, true, false, not, Option, None, Some, Result, List, map, refl, sym, ap, subst, ◌∙◌}
use Rattle.std.specs.Prelude.{is_none, is_some}
use Rattle.std.proofs.lemmas.List.{map-id}
use Rattle.flow_rules.specs.declared.feed.standing.Standing.{Standing}
use Rattle.flow_rules.specs.declared.refusal.NoMemory.{NoMemory}
use Rattle.feed_core.specs.Feed.{DoesCall, end_of}
use Rattle.publisher_hub.specs.Lists.{Each, EachBy}
use Rattle.publisher_hub.specs.Looking.{IsReadied, MayPrepare, Prepares, Sees}
use Rattle.publisher_hub.specs.declared.entry.Entry.{Entry}
use Rattle.publisher_hub.proofs.AnswerLists.Places.{stood_by}
use Rattle.lines_demo.specs.Prelude.{DeskState, How, desk_without_looks}
use Rattle.lines_demo.specs.Script.Session.{AreScriptEntries, IsScriptEntry, desk_in, subscription_of}
use Rattle.lines_demo.specs.Script.State.{SubscriptionState}
use Rattle.lines_demo.specs.Script.Waking.{is_live}
use Rattle.lines_demo.proofs.HubCalls.EachMaps.{each_map, each_by_map, each_stood}

-- looks change nothing that a script sees of a subscription
pub record SeesSame (old new : Entry DeskState) : Type 0 where
  pub same : subscription_of new ≡ subscription_of old
  pub entry : IsScriptEntry new

-- the desk that is there is the one
pub same_desk : (entry : Entry DeskState) (desk : DeskState) (is : IsScriptEntry entry) → entry.feed ≡ Some desk → is.desk ≡ desk
same_desk entry desk is there = value (sym is.there ∙ there) where
  value : {a b : DeskState} → Some a ≡ Some b → a ≡ b
  value e = cc

-- a subscription with its desk
abbrev pub with_desk : Entry DeskState → DeskState → SubscriptionState
with_desk entry desk = record { name = entry.name; since = entry.since; dropped = entry.dropped; desk = desk_without_looks desk }

-- what a script sees of a subscription whose desk is there
pub seen_with : (entry : Entry DeskState) (desk : DeskState) → entry.feed ≡ Some desk → subscription_of entry ≡ with_desk entry desk
seen_with entry desk there = ap (λ feed. with_desk entry (desk_in feed)) there

-- one that was looked at and goes on, or is retired from then on
record IsSeen (old new : Entry DeskState) : Type 0 where
  sees : SeesSame old new
  retired : new.retired ≡ not (is_live (subscription_of new))

-- an end is there if it isn't missing
live_is : (how : Option How) → is_some how ≡ not (is_none how)
live_is None = refl
live_is (Some how) = refl

-- one that was looked at
looked : (next : ℕ) (standing : Standing) (old new : Entry DeskState) → IsScriptEntry old → Sees end_of DoesCall next standing old new
    → IsSeen old new
looked next standing old new is sees = by standing.ended refl where
  before : DeskState
  before = sees.before

  after : DeskState
  after = sees.after

  after_is : after ≡ record before { looks = before.looks + 1 }
  after_is = sees.stands.exact.looked

  same_but_looks : desk_without_looks after ≡ desk_without_looks before
  same_but_looks = ap desk_without_looks after_is

  steady : after.is_steady ≡ true
  steady = ap (λ (d : DeskState). d.is_steady) after_is ∙ ap (λ (d : DeskState). d.is_steady) (sym (same_desk old before is sees.was)) ∙ is.steady

  ended_is : standing.ended ≡ is_some after.lane.how
  ended_is = sees.stands.exact.ended ∙ ap (λ (d : DeskState). is_some d.lane.how) (sym after_is)

  by : (ended : Bool) → standing.ended ≡ ended → IsSeen old new
  by true e = subst (IsSeen old) (sym (sees.ended e)) (record {
    sees = record {
      same = ap (λ d. record { name = old.name; since = old.since; dropped = old.dropped; desk = d }) same_but_looks ∙ sym (seen_with old before sees.was);
      entry = record { desk = after; there = refl; steady = steady; ended = λ retired. sym ended_is ∙ e };
    };
    retired = sym e ∙ ended_is ∙ live_is after.lane.how;
  })
  by false e = subst (IsSeen old) (sym (sees.stays e)) (record {
    sees = record {
      same = ap (λ d. record { name = old.name; since = old.since; dropped = old.dropped; desk = d }) same_but_looks ∙ sym (seen_with old before sees.was);
      entry = record { desk = after; there = refl; steady = steady; ended = λ retired. (let never : false ≡ true = sym sees.live ∙ retired in cc) };
    };
    retired = sees.live ∙ sym e ∙ ended_is ∙ live_is after.lane.how;
  })

-- one that was made ready is as it was
readied : (answer : Result Unit NoMemory) (old new : Entry DeskState) → IsReadied end_of DoesCall answer old new → new ≡ old
readied answer old new is =
    is.now ∙ ap (λ feed. record old { feed = feed }) (ap Some is.readies.exact.1 ∙ sym is.was)

-- one that was looked at and made ready
prepared : (next : ℕ) (glance : Option Standing) (old new : Entry DeskState) → IsScriptEntry old
    → Prepares end_of DoesCall next glance old new → IsSeen old new
prepared next None old new is stays = subst (IsSeen old) (sym stays.1) (record {
  sees = record { same = refl; entry = is };
  retired = stays.0 ∙ sym (is.ended stays.0) ∙ ap (λ feed. is_some (desk_in feed).lane.how) (sym is.there) ∙ live_is (desk_in old.feed).lane.how;
})
prepared next (Some standing) old new is ready = by standing.ended refl where
  middle : IsSeen old ready.middle
  middle = looked next standing old ready.middle is ready.sees

  by : (ended : Bool) → standing.ended ≡ ended → IsSeen old new
  by true e = subst (IsSeen old) (sym (ready.ended e)) middle
  by false e = let made = ready.stays e in subst (IsSeen old) (sym (readied made.0 ready.middle new made.1.1)) middle

pub prepared_same : (next : ℕ) (glance : Option Standing) (old new : Entry DeskState) → IsScriptEntry old
    → Prepares end_of DoesCall next glance old new → SeesSame old new
prepared_same next glance old new is prepares = (prepared next glance old new is prepares).sees

-- after a look it is retired just if it has ended
pub prepared_retired : (next : ℕ) (glance : Option Standing) (old new : Entry DeskState) → IsScriptEntry old
    → Prepares end_of DoesCall next glance old new → new.retired ≡ not (is_live (subscription_of new))
prepared_retired next glance old new is prepares = (prepared next glance old new is prepares).retired

pub may_prepare_same : (next : ℕ) (old new : Entry DeskState) → IsScriptEntry old → MayPrepare end_of DoesCall next old new
    → SeesSame old new
may_prepare_same next old new is (inl same) = subst (SeesSame old) (sym same) (record { same = refl; entry = is })
may_prepare_same next old new is (inr (inl glanced)) = prepared_same next glanced.0 old new is glanced.1
may_prepare_same next old new is (inr (inr fails)) =
    subst (SeesSame old) (sym (readied fails.answer fails.middle new fails.readied)) (looked next fails.standing old fails.middle is fails.sees).sees

-- a script sees the same of all subscriptions of a list
pub record ListSeesSame (xs ys : List (Entry DeskState)) : Type 0 where
  pub same : map subscription_of ys ≡ map subscription_of xs
  pub entries : AreScriptEntries ys

pub prepared_all_same : (next : ℕ) (glances : List (Option Standing)) (xs ys : List (Entry DeskState)) → AreScriptEntries xs
    → EachBy (Prepares end_of DoesCall next) glances xs ys → ListSeesSame xs ys
prepared_all_same next glances xs ys are each = record {
  same = each_by_map subscription_of (λ s. s) (Prepares end_of DoesCall next) glances xs ys each (λ k glance x y at prepares. (prepared_same next glance x y (are k x at) prepares).same) ∙ map-id (map subscription_of xs);
  entries = λ k y at. let stood = stood_by (Prepares end_of DoesCall next) glances xs ys k y each at in (prepared_same next stood.answer stood.entry y (are k stood.entry stood.at) stood.became).entry;
}

pub may_prepare_all_same : (next : ℕ) (xs ys : List (Entry DeskState)) → AreScriptEntries xs
    → Each (MayPrepare end_of DoesCall next) xs ys → ListSeesSame xs ys
may_prepare_all_same next xs ys are each = record {
  same = each_map subscription_of (λ s. s) (MayPrepare end_of DoesCall next) xs ys each (λ k x y at may. (may_prepare_same next x y (are k x at) may).same) ∙ map-id (map subscription_of xs);
  entries = λ k y at. let stood = each_stood (MayPrepare end_of DoesCall next) xs ys k y each at in (may_prepare_same next stood.0 y (are k stood.0 stood.1) stood.2).entry;
}
