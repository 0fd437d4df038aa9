-- How many subscriptions are live: no call but `sub` makes it more, and that only if fewer are than may be.
use Rattle.std.proofs.Common.{◌≡◌, ◌==◌, ℕ, ◌+◌, ◌<◌, ◌≤◌, Bool, true, false, not, ◌&&◌, if◌then◌else◌, nat_le, List, [], ◌∷◌, ◌++◌, length, map, get_or, set, refl, sym, ap, ◌∙◌, arith, Option, Some, None}
use Rattle.std.specs.Prelude.{count_by, is_some, is_none}
use Rattle.std.proofs.lemmas.Bool.Decides.{nat_tests}
use Rattle.std.proofs.lemmas.List.Sums.{sum_by-append, sum_by-cons, sum_by-set}
use Rattle.feed_core.specs.Desk.{desk_after_signal, desk_after_duplicate}
use Rattle.feed_core.specs.LaneCalls.{lane_with_item, lane_with_closing}
use Rattle.lines_demo.specs.Prelude.{Item, Ending, Refusal, is_gone, lag_of}
use Rattle.commands.specs.Word.{is_word}
use Rattle.lines_demo.specs.Script.State.{SubscriptionState, SessionState}
use Rattle.lines_demo.specs.Script.Waking.{is_live}
use Rattle.lines_demo.specs.Script.Subscribing.{USUAL_LIVE, MOST_ENTRIES, is_live_as, subscription_after_duplicate, subscribing_refusal}
use Rattle.lines_demo.specs.Script.Publishing.{subscription_after_offer}
use Rattle.lines_demo.specs.Script.Obeying.{desk_after_act, is_known, subscriptions_after_act, subscription_after_closing}
use Rattle.lines_demo.specs.Script.Laws.{FewAreLive}
use Rattle.lines_demo.specs.declared.script.session.acting.Act.{Act}
use Rattle.lines_demo.proofs.Sessions.Acts.{act_how}
use Rattle.lines_demo.proofs.Woken.Lists.{bit}

-- ---- one subscription

pub duplicate_live : (name : List ℕ) (s : SubscriptionState) → is_live (subscription_after_duplicate name s) ≡ is_live s
duplicate_live name s = by (is_live_as name s) where
  by : (live : Bool) → is_live (if live then record s { desk = desk_after_duplicate s.desk } else s) ≡ is_live s
  by true = refl
  by false = refl

pub offer_live : (item : Item) (s : SubscriptionState) → is_live (subscription_after_offer item s) ≡ is_live s
offer_live item s = by (is_gone s.desk.lane) (lag_of s.desk.lane == s.desk.capacity) where
  by : (gone full : Bool) → is_none (if not gone && not full then desk_after_signal s.desk (lane_with_item item s.desk.lane) else s.desk).lane.how ≡ is_live s
  by true full = refl
  by false true = refl
  by false false = refl

pub closing_live : (ending : Ending) (s : SubscriptionState) → is_live (subscription_after_closing ending s) ≡ is_live s
closing_live ending s = by (is_live s) (is_some s.desk.lane.causes.closing) where
  by : (live closed : Bool) → is_live (if live then record s { desk = if closed then s.desk else desk_after_signal s.desk (lane_with_closing ending s.desk.lane) } else s) ≡ is_live s
  by false closed = refl
  by true true = refl
  by true false = refl

pub act_live : (act : Act) (s : SubscriptionState) → is_live (record s { desk = desk_after_act act s.desk }) ≡ is_live s
act_live act s = ap is_none (act_how act s.desk)

at_most_one : (b : Bool) → bit b ≤ 1
at_most_one true = omega arith
at_most_one false = omega arith

-- ---- all of them

-- one more at the front
pub live_cons : (s : SubscriptionState) (later : List SubscriptionState)
    → count_by is_live (s ∷ later) ≡ bit (is_live s) + count_by is_live later
live_cons s later = sum_by-cons (λ t. if is_live t then 1 else 0) s later

-- a change of each that ends none
pub live_map : (change : SubscriptionState → SubscriptionState) → ((s : SubscriptionState) → is_live (change s) ≡ is_live s)
    → (subscriptions : List SubscriptionState)
    → count_by is_live (map change subscriptions) ≡ count_by is_live subscriptions
live_map change keeps [] = refl
live_map change keeps (s ∷ later) =
    live_cons (change s) (map change later) ∙ ap (λ live. bit live + count_by is_live (map change later)) (keeps s)
    ∙ ap (λ n. bit (is_live s) + n) (live_map change keeps later) ∙ sym (live_cons s later)

pub acts_live : (name : List ℕ) (act : Act) (subscriptions : List SubscriptionState)
    → count_by is_live (subscriptions_after_act name act subscriptions) ≡ count_by is_live subscriptions
acts_live name act [] = refl
acts_live name act (s ∷ later) = by (is_known name later) (is_word s.name name) (acts_live name act later) where
  by : (known named : Bool) → count_by is_live (subscriptions_after_act name act later) ≡ count_by is_live later
      → count_by is_live (if known then s ∷ subscriptions_after_act name act later else (if named then (record s { desk = desk_after_act act s.desk }) ∷ later else s ∷ later))
      ≡ count_by is_live (s ∷ later)
  by true named same = live_cons s (subscriptions_after_act name act later) ∙ ap (λ n. bit (is_live s) + n) same ∙ sym (live_cons s later)
  by false true same =
      live_cons (record s { desk = desk_after_act act s.desk }) later ∙ ap (λ live. bit live + count_by is_live later) (act_live act s) ∙ sym (live_cons s later)
  by false false same = refl

-- fewer are live than may be if nobody is refused for that
pub room_for_one : (state : SessionState) → subscribing_refusal state ≡ None → count_by is_live state.subscriptions < USUAL_LIVE
room_for_one state allowed = by (nat_le USUAL_LIVE (count_by is_live state.subscriptions)) refl allowed where
  by : (full : Bool) → nat_le USUAL_LIVE (count_by is_live state.subscriptions) ≡ full
      → (if full then Some Refusal.TooMany
      else (if nat_le MOST_ENTRIES (length state.subscriptions) then Some Refusal.Exhausted
      else (if state.stock == 0 then Some Refusal.TooMany else None))) ≡ None
      → count_by is_live state.subscriptions < USUAL_LIVE
  by true e allowed = cc
  by false e allowed = grind (arith, nat_tests)

-- then one more is as many as may be at most
pub live_push : (subscriptions : List SubscriptionState) (new : SubscriptionState) → count_by is_live subscriptions < USUAL_LIVE
    → count_by is_live (subscriptions ++ new ∷ []) ≤ USUAL_LIVE
live_push subscriptions new few =
    let most : bit (is_live new) ≤ 1 = at_most_one (is_live new) in
    let both : count_by is_live (subscriptions ++ new ∷ []) ≡ count_by is_live subscriptions + count_by is_live (new ∷ []) =
    sum_by-append (λ t. if is_live t then 1 else 0) subscriptions (new ∷ []) in
    let one : count_by is_live (new ∷ []) ≡ bit (is_live new) + 0 = live_cons new [] in
    omega (arith, both, one)

-- no more are live after a turn of a live one
pub live_after_turn : (state : SessionState) (number : ℕ) (s after : SubscriptionState) → number < length state.subscriptions
    → get_or state.subscriptions number s ≡ s → s.desk.lane.how ≡ None
    → FewAreLive state → count_by is_live (set state.subscriptions number after) ≤ USUAL_LIVE
live_after_turn state number s after within here live few =
    let one : SubscriptionState → ℕ = λ t. bit (is_live t) in
    let sums : count_by is_live (set state.subscriptions number after) + bit (is_live s) ≡ count_by is_live state.subscriptions + bit (is_live after) =
    ap (λ t. count_by is_live (set state.subscriptions number after) + one t) (sym here) ∙ sum_by-set one state.subscriptions number after s within in
    let was : bit (is_live s) ≡ 1 = ap (λ (how : Option _). bit (is_none how)) live in
    let most : bit (is_live after) ≤ 1 = at_most_one (is_live after) in
    omega (arith, sums, was)
