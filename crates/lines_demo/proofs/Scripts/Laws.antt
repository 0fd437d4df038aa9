-- The laws of scripts, of any place where one may stand.
use Rattle.std.proofs.Common.{◌≡◌, ◌==◌, ◌⊎◌, inl, inr, ℕ, suc, ◌+◌, ◌<◌, ◌≤◌, Bool, true, false, List, [], ◌∷◌, ◌++◌, length, get_or, refl, sym, ap, subst, ◌∙◌, length-append, arith, Some}
use Rattle.std.specs.Prelude.{Contains, slice_get}
use Rattle.std.proofs.lemmas.Bool.{cases_lt}
use Rattle.std.proofs.lemmas.Bool.Decides.{eqb_tells}
use Rattle.std.proofs.lemmas.List.{get_or_append_left}
use Rattle.std.proofs.lemmas.List.Elements.{All-weaker}
use Rattle.std.proofs.lemmas.Option.{slice_get-get_or, slice_get_within, get_or_from_slice_get, same_Some}
use Rattle.feed_core.proofs.Lanes.FlowRules.{errored_whole}
use Rattle.feed_core.proofs.Desks.Sound.{sound_desk_flow, sound_desk_settled}
use Rattle.lines_demo.specs.Prelude.{Item, IsFlow, items_of, owes}
use Rattle.lines_demo.specs.Script.Kept.{IsKept, IsPublished, IsReachable}
use Rattle.lines_demo.specs.Script.State.{SubscriptionState, SessionState}
use Rattle.lines_demo.specs.Script.Waking.{owes_if_there}
use Rattle.lines_demo.specs.Script.Laws.{KeepsFlow, IsSettledSession, TellsAllBeforeError, TellsAllBeforeErrors, places_of, WakesWhoOwes, FewAreLive, OneLiveOfName, SerialsRise, SerialsRiseIn, Agree, AgreesOnItems, StandsBefore, HaveOneOrder, TellsInOneOrder, IsCountedUpTo, CountsPublications}
use Rattle.lines_demo.proofs.Woken.Lists.{bit, places_cons}

-- ---- what each subscription keeps

-- the subscription at a place keeps what each does
kept_at : (state : SessionState) (is : IsReachable state) (number : ℕ) (s : SubscriptionState)
    → slice_get state.subscriptions number ≡ Some s → IsKept is.0 state.serial state.beginning.order state.closing s
kept_at state is number s there =
    subst (IsKept is.0 state.serial state.beginning.order state.closing) (get_or_from_slice_get state.subscriptions number s s there)
    (is.1.subscriptions number s (slice_get_within state.subscriptions number s there))

-- each keeps the Flow rules
pub reached_flow : (state : SessionState) → IsReachable state → KeepsFlow state
reached_flow state is =
    All-weaker (IsKept is.0 state.serial state.beginning.order state.closing) (λ s. IsFlow s.desk.lane) (λ s kept. sound_desk_flow s.desk kept.sound) state.subscriptions is.1.subscriptions

-- each that ended with the publisher's error was told all before, if errors wait for the items
pub reached_waits : (state : SessionState) → IsReachable state → TellsAllBeforeErrors state
reached_waits state is late =
    All-weaker (IsKept is.0 state.serial state.beginning.order state.closing) (λ s. TellsAllBeforeError s.desk.lane)
    (λ s kept code ended. errored_whole kept.sound.sound code ended (kept.ordered ∙ late)) state.subscriptions is.1.subscriptions

-- what stands in a list has a place there
placed : (number : ℕ) (numbers : List ℕ) → (places_of number numbers ≡ 0) ⊎ Contains numbers number
placed number [] = inl refl
placed number (other ∷ numbers) = by (eqb_tells other number) (placed number numbers) where
  later : Contains numbers number → Contains (other ∷ numbers) number
  later has = (suc has.0, omega (arith, has.1), has.2)

  by : (((other == number) ≡ true) × (other ≡ number)) ⊎ (((other == number) ≡ false) × (other ≡ number → ⊥))
      → (places_of number numbers ≡ 0) ⊎ Contains numbers number
      → (places_of number (other ∷ numbers) ≡ 0) ⊎ Contains (other ∷ numbers) number
  by (inl same) rest = inr (0, omega arith, same.1)
  by (inr differs) (inl none) = inl (places_cons number other numbers ∙ ap (λ b. bit b + places_of number numbers) differs.0 ∙ (omega (arith, none)))
  by (inr differs) (inr has) = inr (later has)

-- each that isn't woken is settled
pub reached_settled : (state : SessionState) → IsReachable state → IsSettledSession state
reached_settled state is = λ number s there absent. sound_desk_settled s.desk (kept_at state is number s there).sound (rests number s there absent (placed number state.woken) (owes s.desk) refl) where
  rests : (number : ℕ) (s : SubscriptionState) → slice_get state.subscriptions number ≡ Some s → (Contains state.woken number → ⊥)
      → (places_of number state.woken ≡ 0) ⊎ Contains state.woken number
      → (owed : Bool) → owes s.desk ≡ owed → owes s.desk ≡ false
  rests number s there absent (inr has) owed e = absurd (absent has)
  rests number s there absent (inl none) false e = e
  rests number s there absent (inl none) true e =
      let once : 0 ≡ 1 = sym none ∙ is.1.woken number ∙ ap bit (ap owes_if_there there ∙ e) in absurd (omega (arith, once))

-- just those who owe a turn are woken
pub reached_wakes : (state : SessionState) → IsReachable state → WakesWhoOwes state
reached_wakes state is = is.1.woken

-- few are live
pub reached_few : (state : SessionState) → IsReachable state → FewAreLive state
reached_few state is = is.1.few

-- and one of a name
pub reached_names : (state : SessionState) → IsReachable state → OneLiveOfName state
reached_names state is = is.1.names

-- serial numbers rise
pub reached_rise : (state : SessionState) → IsReachable state → SerialsRiseIn state
reached_rise state is =
    All-weaker (IsKept is.0 state.serial state.beginning.order state.closing) (λ s. SerialsRise s.desk.lane.accepted) (λ s kept. kept.rise) state.subscriptions is.1.subscriptions

-- publications are counted
pub reached_counted : (state : SessionState) → IsReachable state → CountsPublications state
reached_counted state is =
    All-weaker (IsKept is.0 state.serial state.beginning.order state.closing) (IsCountedUpTo state.serial) one state.subscriptions is.1.subscriptions where
      one : (s : SubscriptionState) → IsKept is.0 state.serial state.beginning.order state.closing s → IsCountedUpTo state.serial s
      one s kept = record {
        since = All-weaker (IsPublished is.0 s.since state.serial) (λ item. s.since ≤ item.serial) (λ item published. published.since) s.desk.lane.accepted kept.published;
        published = All-weaker (IsPublished is.0 s.since state.serial) (λ item. item.serial < state.serial) (λ item published. published.before) s.desk.lane.accepted kept.published;
        most = kept.most;
        all = kept.all;
      }

-- ---- what two subscriptions agree on

-- items of one serial number are one item
same_item : (texts : ℕ → List ℕ) (first second next : ℕ) (item other : Item) → IsPublished texts first next item
    → IsPublished texts second next other → item.serial ≡ other.serial → item ≡ other
same_item texts first second next item other is_item is_other same =
    let build : ℕ → Item = λ serial. record { source = 0; seq = serial; serial = serial; text = texts serial } in
    is_item.is ∙ ap build same ∙ sym is_other.is

pub reached_agrees : (state : SessionState) → IsReachable state → AgreesOnItems state
reached_agrees state is =
    All-weaker (IsKept is.0 state.serial state.beginning.order state.closing) _ (λ first kept_first.
    All-weaker (IsKept is.0 state.serial state.beginning.order state.closing) (λ second. Agree first.desk.lane.accepted second.desk.lane.accepted) (λ second kept_second.
    All-weaker (IsPublished is.0 first.since state.serial) _ (λ item is_item.
    All-weaker (IsPublished is.0 second.since state.serial) (λ other. item.serial ≡ other.serial → item ≡ other) (λ other is_other same.
    same_item is.0 first.since second.since state.serial item other is_item is_other same)
    second.desk.lane.accepted kept_second.published)
    first.desk.lane.accepted kept_first.published)
    state.subscriptions is.1.subscriptions)
    state.subscriptions is.1.subscriptions

-- ---- the order in which items are told

-- serial numbers rise in what was told, too
rise_told : (told rest accepted : List Item) → told ++ rest ≡ accepted → SerialsRise accepted → SerialsRise told
rise_told told rest accepted parts rise = λ i j d less within.
    let long : length (told ++ rest) ≡ length told + length rest = length-append told rest in
    let all : SerialsRise (told ++ rest) = subst SerialsRise (sym parts) rise in
    let rises : (get_or (told ++ rest) i d).serial < (get_or (told ++ rest) j d).serial = all i j d less (omega arith) in
    let first : get_or (told ++ rest) i d ≡ get_or told i d = get_or_append_left told rest d i (omega arith) in
    let second : get_or (told ++ rest) j d ≡ get_or told j d = get_or_append_left told rest d j within in
    subst (λ (item : Item). item.serial < (get_or told j d).serial) first (subst (λ (item : Item). (get_or (told ++ rest) i d).serial < item.serial) second rises)

-- of two items in a list with rising serial numbers the earlier one has the lower number
rises_at : (items : List Item) (place later_place : ℕ) (item later : Item) → SerialsRise items → place < later_place
    → slice_get items place ≡ Some item → slice_get items later_place ≡ Some later
    → item.serial < later.serial
rises_at items place later_place item later rise before stands later_stands =
    let within = slice_get_within items later_place later later_stands in
    subst (λ (x : Item). x.serial < later.serial) (get_or_from_slice_get items place item item stands)
    (subst (λ (x : Item). (get_or items place item).serial < x.serial) (get_or_from_slice_get items later_place later item later_stands) (rise place later_place item before within))

-- where an item of a list stands
stands_at : (items : List Item) (item : Item) (has : Contains items item) → slice_get items has.0 ≡ Some item
stands_at items item has = slice_get-get_or items has.0 item has.1 ∙ ap Some has.2

-- lists with rising serial numbers have one order
one_order : (items others : List Item) → SerialsRise items → SerialsRise others → HaveOneOrder items others
one_order items others rise rise_others = λ item later before has has_later.
    let low : item.serial < later.serial = rises_at items before.place before.later_place item later rise before.order before.stands before.later_stands in
    by item later low has has_later (cases_lt has.0 has_later.0) where
      by : (item later : Item) → item.serial < later.serial → (has : Contains others item) (has_later : Contains others later)
          → (has.0 < has_later.0) ⊎ (has_later.0 ≤ has.0) → StandsBefore others item later
      by item later low has has_later (inl before) = record {
        place = has.0;
        later_place = has_later.0;
        order = before;
        stands = stands_at others item has;
        later_stands = stands_at others later has_later;
      }
      by item later low has has_later (inr after) = absurd (never (cases_lt has_later.0 has.0)) where
        never : (has_later.0 < has.0) ⊎ (has.0 ≤ has_later.0) → ⊥
        never (inl less) =
            let high : later.serial < item.serial = rises_at others has_later.0 has.0 later item rise_others less (stands_at others later has_later) (stands_at others item has) in
            omega arith
        never (inr most) =
            let place : has.0 ≡ has_later.0 = omega arith in
            let one : Some item ≡ Some later = sym (stands_at others item has) ∙ ap (slice_get others) place ∙ stands_at others later has_later in
            let same : item.serial ≡ later.serial = ap (λ (x : Item). x.serial) (same_Some item later one) in
            omega (arith, same)

-- any two subscribers are told the same items in the same order
pub reached_order : (state : SessionState) → IsReachable state → TellsInOneOrder state
reached_order state is =
    All-weaker (IsKept is.0 state.serial state.beginning.order state.closing) _ (λ first kept_first.
    All-weaker (IsKept is.0 state.serial state.beginning.order state.closing) (λ second. HaveOneOrder (items_of first.desk.lane.told) (items_of second.desk.lane.told)) (λ second kept_second.
    one_order (items_of first.desk.lane.told) (items_of second.desk.lane.told) (rise_in first kept_first) (rise_in second kept_second))
    state.subscriptions is.1.subscriptions)
    state.subscriptions is.1.subscriptions where
      rise_in : (s : SubscriptionState) → IsKept is.0 state.serial state.beginning.order state.closing s
          → SerialsRise (items_of s.desk.lane.told)
      rise_in s kept =
          let prefix = (sound_desk_flow s.desk kept.sound).in_order in
          rise_told (items_of s.desk.lane.told) prefix.0 s.desk.lane.accepted prefix.1 kept.rise
