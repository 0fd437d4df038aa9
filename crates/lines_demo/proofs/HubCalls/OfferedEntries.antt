-- What an offer makes of one subscription of a script's publisher.
use Rattle.std.proofs.Common.{rules, ◌≡◌, ◌==◌, ℕ, ◌+◌, ◌-◌, ◌<◌, Bool, true, false, not, ◌&&◌, ◌||◌, if◌then◌else◌, Option, None, Some, IsSome, [], ◌∷◌, fold, max, refl, sym, ap, subst, ◌∙◌, arith}
use Rattle.std.specs.Prelude.{is_none, is_some}
use Rattle.std.proofs.lemmas.Bool.Decides.{nat_tests}
use Rattle.flow_rules.specs.declared.feed.put.Put.{Put}
use Rattle.flow_rules.specs.declared.feed.put.Put.TheVariants.{Accepted, Full, Gone}
use Rattle.feed_core.specs.Desk.{AcceptsItem, IsFull, Rests, desk_after_look, desk_after_signal}
use Rattle.feed_core.specs.Feed.{DoesCall, end_of}
use Rattle.feed_core.specs.LaneCalls.{IsOpen, accepts, lane_with_item}
use Rattle.publisher_hub.specs.Gathering.{Second, dropped_by, lag_again_by, lag_by, missed_by, started_again_by, started_by, work_of}
use Rattle.publisher_hub.specs.Offering.{PutsTo, PutsAgain, Offered}
use Rattle.publisher_hub.specs.declared.entry.Entry.{Entry}
use Rattle.lines_demo.specs.Prelude.{Item, How, Ending, DeskState, LaneState, desk_after_put, desk_without_looks, is_gone, lag_of, owes}
use Rattle.lines_demo.specs.Script.Publishing.{is_full, lag_with, subscription_after_offer}
use Rattle.lines_demo.specs.Script.Session.{IsScriptEntry, desk_in, numbers_of, subscription_of}
use Rattle.lines_demo.specs.Script.Waking.{is_live}
use Rattle.lines_demo.proofs.HubCalls.Looks.{seen_with, with_desk}
use Rattle.lines_demo.proofs.Woken.StartedTasks.{starts}

-- a subscription that items may be offered to: it is retired just if it has ended, and it was not closed
pub record MayBeOffered (entry : Entry DeskState) : Type 0 where
  pub is : IsScriptEntry entry
  pub retired : entry.retired ≡ not (is_live (subscription_of entry))
  pub unclosed : (desk_in entry.feed).lane.causes.closing ≡ None

-- what an offer that was answered so makes of a subscription
pub record BecomesOffered (item : Item) (put : Option (Put Unit)) (old new : Entry DeskState) : Type 0 where
  pub same : subscription_of new ≡ subscription_after_offer item (subscription_of old)
  pub entry : IsScriptEntry new
  pub started : (k : ℕ) → numbers_of (started_by k put) ≡ (if starts old new then k ∷ [] else [])
  pub lag : (k most : ℕ) → fold max most (lag_by k put) ≡ max most (lag_with item (subscription_of old))
  pub missed : (k : ℕ) → missed_by {T = Unit} k put ≡ (if is_full (subscription_of old) then k ∷ [] else [])

-- an entry with this desk
abbrev entry_with : Entry DeskState → DeskState → Entry DeskState
entry_with entry desk = record entry { feed = Some desk }

-- an open lane takes items
gone_not : (lane : LaneState) → IsOpen lane → is_gone lane ≡ false
gone_not lane is_open = ap (λ (how : Option How). is_some how || is_some lane.causes.closing) is_open.0 ∙ ap (λ (closing : Option Ending). is_some closing) is_open.1

-- a task that was started is started if it rested, and else not
starts_where : (start : Option Unit) (before : DeskState) (k : ℕ) → before.lane.how ≡ None → (IsSome start → Rests before)
    → (Rests before → IsSome start)
    → numbers_of (work_of k start) ≡ (if true && is_none before.lane.how && not (owes before) then k ∷ [] else [])
starts_where start before k runs rests starts_it =
    by start before.started refl rests starts_it ∙ ap (λ (how : Option How). if true && is_none how && not (before.started && is_none how) then k ∷ [] else []) (sym runs) where
      by : (start : Option Unit) (started : Bool) → before.started ≡ started → (IsSome start → Rests before) → (Rests before → IsSome start)
          → numbers_of (work_of k start) ≡ (if true && true && not (before.started && true) then k ∷ [] else [])
      by None true e rests starts_it = ap (λ b. if true && true && not (b && true) then k ∷ [] else []) (sym e)
      by None false e rests starts_it = let never = starts_it (e, runs) in cc
      by (Some u) true e rests starts_it = let never : true ≡ false = sym e ∙ (rests (search rules)).0 in cc
      by (Some u) false e rests starts_it = ap (λ b. if true && true && not (b && true) then k ∷ [] else []) (sym e)

-- one that took the item
took : (item : Item) (old : Entry DeskState) (before after : DeskState) (lag : ℕ) (start : Option Unit) → before.is_steady ≡ true
    → old.retired ≡ false → AcceptsItem before after item lag start
    → BecomesOffered item (Some (Accepted lag start)) (entry_with old before) (entry_with old after)
took item old before after lag start steady live does = record {
  same = ap (λ d. with_desk old d) does.taken ∙ sym after_offer;
  entry = record {
    desk = after;
    there = refl;
    steady = ap (λ (d : DeskState). d.is_steady) does.taken ∙ steady;
    ended = λ retired. (let never : false ≡ true = sym live ∙ retired in cc);
  };
  started = λ k. starts_where start before k does.open_before.0 does.starts.0 does.starts.1
      ∙ ap (λ (d : DeskState). if owes d && not (owes before) then k ∷ [] else []) (sym does.taken);
  lag = λ k most. ap (λ n. max most n) (does.lag_after ∙ ap (λ (d : DeskState). lag_of d.lane) does.taken ∙ ap (λ b. if b then lag_of (lane_with_item item before.lane) else 0) (sym takes));
  missed = λ k. ap (λ b. if b then k ∷ [] else []) (sym full_not);
} where
  room : (lag_of before.lane == before.capacity) ≡ false
  room = let less = does.room_before in grind (arith, nat_tests)

  takes : accepts before.capacity before.lane ≡ true
  takes = ap (λ g. not g && not (lag_of before.lane == before.capacity)) (gone_not before.lane does.open_before) ∙ ap (λ b. not b) room

  full_not : is_full (with_desk old before) ≡ false
  full_not = ap (λ g. not g && (lag_of before.lane == before.capacity)) (gone_not before.lane does.open_before) ∙ room

  after_offer : subscription_after_offer item (with_desk old before) ≡ with_desk old (desk_after_signal (desk_after_look before) (lane_with_item item before.lane))
  after_offer =
      ap (λ full. record (with_desk old before) { dropped = if full then old.dropped + 1 else old.dropped; desk = desk_after_put item (desk_without_looks before) }) full_not
      ∙ ap (λ b. record (with_desk old before) { desk = if b then desk_after_signal (desk_without_looks before) (lane_with_item item before.lane) else desk_without_looks before }) takes

-- one that had no room, and counts the drop
dropped : (item back : Item) (old : Entry DeskState) (before after : DeskState) → before.is_steady ≡ true → old.retired ≡ false
    → IsFull before → after ≡ desk_after_look before
    → BecomesOffered item (Some (Full back)) (entry_with old before) (record old { feed = Some after; dropped = old.dropped + 1 })
dropped item back old before after steady live full is = record {
  same = ap (λ d. record (with_desk old before) { dropped = old.dropped + 1; desk = desk_without_looks d }) is ∙ sym after_offer;
  entry = record {
    desk = after;
    there = refl;
    steady = ap (λ (d : DeskState). d.is_steady) is ∙ steady;
    ended = λ retired. (let never : false ≡ true = sym live ∙ retired in cc);
  };
  started = λ k. nobody k (owes before) ∙ ap (λ (d : DeskState). if owes d && not (owes before) then k ∷ [] else []) (sym is);
  lag = λ k most. omega arith ∙ ap (λ b. max most (if b then lag_of (lane_with_item item before.lane) else 0)) (sym takes_not);
  missed = λ k. ap (λ b. if b then k ∷ [] else []) (sym is_full_now);
} where
  nobody : (k : ℕ) (b : Bool) → [] ≡ (if b && not b then k ∷ [] else [])
  nobody k true = refl
  nobody k false = refl

  no_room : (lag_of before.lane == before.capacity) ≡ true
  no_room = let same = full.1 in grind (arith, nat_tests)

  takes_not : accepts before.capacity before.lane ≡ false
  takes_not = ap (λ g. not g && not (lag_of before.lane == before.capacity)) (gone_not before.lane full.0) ∙ ap (λ b. not b) no_room

  is_full_now : is_full (with_desk old before) ≡ true
  is_full_now = ap (λ g. not g && (lag_of before.lane == before.capacity)) (gone_not before.lane full.0) ∙ no_room

  after_offer : subscription_after_offer item (with_desk old before) ≡ record (with_desk old before) { dropped = old.dropped + 1 }
  after_offer =
      ap (λ b. record (with_desk old before) { dropped = if b then old.dropped + 1 else old.dropped; desk = desk_after_put item (desk_without_looks before) }) is_full_now
      ∙ ap (λ b. record (with_desk old before) { dropped = old.dropped + 1; desk = if b then desk_after_signal (desk_without_looks before) (lane_with_item item before.lane) else desk_without_looks before }) takes_not

-- one that has ended takes nothing
left_alone : (item : Item) (old : Entry DeskState) → IsScriptEntry old → is_gone (desk_in old.feed).lane ≡ true
    → BecomesOffered item None old old
left_alone item old is gone = record {
  same = sym after_offer;
  entry = is;
  started = λ k. nobody k (owes (desk_in old.feed));
  lag = λ k most. omega arith ∙ ap (λ b. max most (if b then lag_of (lane_with_item item (desk_in old.feed).lane) else 0)) (sym takes_not);
  missed = λ k. ap (λ b. if b then k ∷ [] else []) (sym full_not);
} where
  nobody : (k : ℕ) (b : Bool) → [] ≡ (if b && not b then k ∷ [] else [])
  nobody k true = refl
  nobody k false = refl

  takes_not : accepts (desk_in old.feed).capacity (desk_in old.feed).lane ≡ false
  takes_not = ap (λ g. not g && not (lag_of (desk_in old.feed).lane == (desk_in old.feed).capacity)) gone

  full_not : is_full (subscription_of old) ≡ false
  full_not = ap (λ g. not g && (lag_of (desk_in old.feed).lane == (desk_in old.feed).capacity)) gone

  after_offer : subscription_after_offer item (subscription_of old) ≡ subscription_of old
  after_offer =
      ap (λ b. record (subscription_of old) { dropped = if b then old.dropped + 1 else old.dropped; desk = desk_after_put item (subscription_of old).desk }) full_not
      ∙ ap (λ b. record (subscription_of old) { desk = if b then desk_after_signal (subscription_of old).desk (lane_with_item item (desk_in old.feed).lane) else (subscription_of old).desk }) takes_not

-- one that is retired has ended, and one that is not goes on
ended_gone : (how : Option How) (closing : Option Ending) → true ≡ not (is_none how) → (is_some how || is_some closing) ≡ true
ended_gone None closing e = cc
ended_gone (Some how) closing e = refl

goes_on : (how : Option How) → false ≡ not (is_none how) → how ≡ None
goes_on None e = refl
goes_on (Some how) e = cc

-- what becomes of a subscription that an item is offered to
pub becomes_offered : (item : Item) (put : Option (Put Unit)) (old new : Entry DeskState) → MayBeOffered old
    → PutsTo end_of DoesCall item put old new → BecomesOffered item put old new
becomes_offered item None old new may stays =
    subst (BecomesOffered item None old) (sym stays.1) (left_alone item old may.is (ended_gone (desk_in old.feed).lane.how _ (sym stays.0 ∙ may.retired)))
becomes_offered item (Some answer) old new may offered = by answer offered where
  was_is : (desk : DeskState) → old.feed ≡ Some desk → entry_with old desk ≡ old
  was_is desk was = ap (λ feed. record old { feed = feed }) (sym was)

  steady : (desk : DeskState) → old.feed ≡ Some desk → desk.is_steady ≡ true
  steady desk was = ap (λ feed. (desk_in feed).is_steady) (sym was ∙ may.is.there) ∙ may.is.steady

  open_desk : (desk : DeskState) → old.feed ≡ Some desk → old.retired ≡ false → is_gone desk.lane ≡ false
  open_desk desk was live = gone_not desk.lane (
    ap (λ feed. (desk_in feed).lane.how) (sym was) ∙ goes_on (desk_in old.feed).lane.how (sym live ∙ may.retired),
    ap (λ feed. (desk_in feed).lane.causes.closing) (sym was) ∙ may.unclosed,
  )

  by : (answer : Put Unit) → Offered end_of DoesCall item answer old new → BecomesOffered item (Some answer) old new
  by (Accepted lag start) is =
      subst (λ x. BecomesOffered item (Some (Accepted lag start)) x new) (was_is is.before is.was)
      (subst (BecomesOffered item (Some (Accepted lag start)) (entry_with old is.before)) (sym is.now) (took item old is.before is.after lag start (steady is.before is.was) is.live is.exact.answers))
  by (Full back) is =
      subst (λ x. BecomesOffered item (Some (Full back)) x new) (was_is is.before is.was)
      (subst (BecomesOffered item (Some (Full back)) (entry_with old is.before)) (sym is.now) (dropped item back old is.before is.after (steady is.before is.was) is.live is.exact.answers.0 is.exact.answers.1.1))
  by (Gone back) is = let never : false ≡ true = sym (open_desk is.before is.was is.live) ∙ is.exact.answers.0 in cc

-- ---- the second pass

-- a second try changes nothing: the drop stands
pub record StaysDropped (put : Option (Put Unit)) (second : Second Unit) (old new : Entry DeskState) : Type 0 where
  pub same : subscription_of new ≡ subscription_of old
  pub entry : IsScriptEntry new
  pub started : (k : ℕ) → started_again_by {T = Unit} k second ≡ []
  pub lag : (k : ℕ) → lag_again_by {T = Unit} k second ≡ []
  pub drops : (k : ℕ) → dropped_by {T = Unit} k second ≡ missed_by {T = Unit} k put

-- a full one is full still
full_still : (item : Item) (middle new : Entry DeskState) (desk : DeskState) (answer : Put Unit) → IsScriptEntry middle
    → 0 < middle.dropped → middle.feed ≡ Some desk → IsFull desk
    → Offered end_of DoesCall item answer (record middle { dropped = middle.dropped - 1 }) new → (back : Item) × ((answer ≡ Full back) × ((subscription_of new ≡ subscription_of middle) × IsScriptEntry new))
full_still item middle new desk answer is some there full offered = by answer offered where
  same_value : {a b : DeskState} → Some a ≡ Some b → a ≡ b
  same_value e = cc

  by : (answer : Put Unit) → Offered end_of DoesCall item answer (record middle { dropped = middle.dropped - 1 }) new
      → (back : Item) × ((answer ≡ Full back) × ((subscription_of new ≡ subscription_of middle) × IsScriptEntry new))
  by (Accepted lag start) o =
      let before_is : o.before ≡ desk = same_value (sym o.was ∙ there) in
      let room : lag_of desk.lane < desk.capacity = subst (λ (d : DeskState). lag_of d.lane < d.capacity) before_is o.exact.answers.room_before in
      let none = full.1 in absurd (omega arith)
  by (Gone back) o =
      let before_is : o.before ≡ desk = same_value (sym o.was ∙ there) in
      let never : false ≡ true = sym (gone_not desk.lane full.0) ∙ ap (λ (d : DeskState). is_gone d.lane) (sym before_is) ∙ o.exact.answers.0 in cc
  by (Full back) o =
      let before_is : o.before ≡ desk = same_value (sym o.was ∙ there) in
      let looked : o.after ≡ desk_after_look desk = o.exact.answers.1.1 ∙ ap desk_after_look before_is in
      let count : middle.dropped - 1 + 1 ≡ middle.dropped = omega arith in
      let now : new ≡ record middle { feed = Some (desk_after_look desk); dropped = middle.dropped } =
      o.now ∙ ap (λ d. record middle { feed = Some d; dropped = middle.dropped - 1 + 1 }) looked ∙ ap (λ n. record middle { feed = Some (desk_after_look desk); dropped = n }) count in
      let same_desk : is.desk ≡ desk = same_value (sym is.there ∙ there) in
      let entry : IsScriptEntry new = subst IsScriptEntry (sym now) (record {
        desk = desk_after_look desk;
        there = refl;
        steady = ap (λ (d : DeskState). d.is_steady) (sym same_desk) ∙ is.steady;
        ended = λ retired. ap (λ (d : DeskState). is_some d.lane.how) (sym same_desk) ∙ is.ended retired;
      }) in
      (back, (refl, (ap subscription_of now ∙ sym (seen_with middle desk there), entry)))

-- what the second pass leaves of a subscription
pub stays_dropped : (item : Item) (put : Option (Put Unit)) (second : Second Unit) (ready middle new : Entry DeskState)
    → (IsSome second → (back : Item) × (put ≡ Some (Full back))) → ((back : Item) → put ≡ Some (Full back) → IsSome second)
    → IsScriptEntry middle → PutsTo end_of DoesCall item put ready middle → PutsAgain end_of DoesCall item second middle new → StaysDropped put second middle new
stays_dropped item put second ready middle new full asked is gives again = by put second full asked gives again where
  not_full : {X : Type 0} (back : Item) → IsSome {T = Option (Put Unit)} None → X
  not_full back some = cc

  unseen : (put : Option (Put Unit)) → ((k : ℕ) → [] ≡ missed_by {T = Unit} k put) → new ≡ middle → StaysDropped put None middle new
  unseen put none same = record {
    same = ap subscription_of same;
    entry = subst IsScriptEntry (sym same) is;
    started = λ k. refl;
    lag = λ k. refl;
    drops = none;
  }

  by : (put : Option (Put Unit)) (second : Second Unit) → (IsSome second → (back : Item) × (put ≡ Some (Full back)))
      → ((back : Item) → put ≡ Some (Full back) → IsSome second)
      → PutsTo end_of DoesCall item put ready middle → PutsAgain end_of DoesCall item second middle new → StaysDropped put second middle new
  by None None full asked gives again = unseen None (λ k. refl) again
  by (Some (Accepted lag start)) None full asked gives again = unseen (Some (Accepted lag start)) (λ k. refl) again
  by (Some (Gone back)) None full asked gives again = unseen (Some (Gone back)) (λ k. refl) again
  by (Some (Full back)) None full asked gives again = not_full back (asked back refl)
  by put (Some None) full asked gives again =
      let was = full (search rules) in
      record {
        same = ap subscription_of again;
        entry = subst IsScriptEntry (sym again) is;
        started = λ k. refl;
        lag = λ k. refl;
        drops = λ k. ap (λ (p : Option (Put Unit)). missed_by {T = Unit} k p) (sym was.1);
      }
  by put (Some (Some answer)) full asked gives again =
      let was = full (search rules) in
      let missed_it : Offered end_of DoesCall item (Full was.0) ready middle = subst (λ (p : Option (Put Unit)). PutsTo end_of DoesCall item p ready middle) was.1 gives in
      let more : middle.dropped ≡ ready.dropped + 1 = ap (λ (entry : Entry DeskState). entry.dropped) missed_it.now in
      let there : middle.feed ≡ Some missed_it.after = ap (λ (entry : Entry DeskState). entry.feed) missed_it.now in
      let still : IsFull missed_it.after = subst IsFull (sym missed_it.exact.answers.1.1) missed_it.exact.answers.0 in
      let stays = full_still item middle new missed_it.after answer is (omega arith) there still again in
      let answered = stays.1.0 in
      record {
        same = stays.1.1.0;
        entry = stays.1.1.1;
        started = λ k. ap (λ (a : Put Unit). started_by k (Some a)) answered;
        lag = λ k. ap (λ (a : Put Unit). lag_by k (Some a)) answered;
        drops = λ k. ap (λ (a : Put Unit). dropped_by {T = Unit} k (Some (Some a))) answered ∙ ap (λ (p : Option (Put Unit)). missed_by {T = Unit} k p) (sym was.1);
      }
