-- At most one live subscription has a name.
use Rattle.std.proofs.Common.{◌≡◌, ℕ, ◌+◌, ◌<◌, ◌≤◌, Bool, true, false, ◌&&◌, ◌||◌, if◌then◌else◌, List, [], ◌∷◌, ◌++◌, length, map, get_or, set, refl, sym, ap, ◌∙◌, arith, Option, None}
use Rattle.std.specs.Prelude.{count_by, is_none}
use Rattle.std.proofs.lemmas.Bool.Decides.{Decides-eqb}
use Rattle.std.proofs.lemmas.List.Sums.{sum_by-append, sum_by-cons, sum_by-set}
use Rattle.std.proofs.lemmas.Slice.Eq.{slice_eq-Decides}
use Rattle.feed_core.specs.Desk.{desk_after_duplicate}
use Rattle.lines_demo.specs.Prelude.{Item, Ending, desk_after_end}
use Rattle.commands.specs.Word.{is_word}
use Rattle.lines_demo.specs.Script.State.{SubscriptionState, SessionState}
use Rattle.lines_demo.specs.Script.Waking.{is_live}
use Rattle.lines_demo.specs.Script.Subscribing.{is_live_as, is_subscribed, subscription_after_duplicate}
use Rattle.lines_demo.specs.Script.Publishing.{subscription_after_offer}
use Rattle.lines_demo.specs.Script.Obeying.{desk_after_act, is_known, subscriptions_after_act, subscription_after_closing}
use Rattle.lines_demo.specs.Script.Laws.{OneLiveOfName}
use Rattle.lines_demo.specs.declared.script.session.acting.Act.{Act}
use Rattle.lines_demo.proofs.Kept.LiveSubscriptions.{act_live, duplicate_live, offer_live, closing_live}
use Rattle.lines_demo.proofs.Woken.Lists.{bit}

-- equal bytes are one word
pub word_same : (bytes word : List ℕ) → is_word bytes word ≡ true → bytes ≡ word
word_same bytes word e = (slice_eq-Decides Decides-eqb bytes word (is_word bytes word) refl).0 e

-- how many live ones have the name, of one more at the front
named_cons : (name : List ℕ) (s : SubscriptionState) (later : List SubscriptionState)
    → count_by (is_live_as name) (s ∷ later) ≡ bit (is_live_as name s) + count_by (is_live_as name) later
named_cons name s later = sum_by-cons (λ t. if is_live_as name t then 1 else 0) s later

-- a change of each that keeps its name and its life
named_map : (name : List ℕ) (change : SubscriptionState → SubscriptionState)
    → ((s : SubscriptionState) → is_live_as name (change s) ≡ is_live_as name s) → (subscriptions : List SubscriptionState)
    → count_by (is_live_as name) (map change subscriptions) ≡ count_by (is_live_as name) subscriptions
named_map name change keeps [] = refl
named_map name change keeps (s ∷ later) =
    named_cons name (change s) (map change later) ∙ ap (λ live. bit live + count_by (is_live_as name) (map change later)) (keeps s)
    ∙ ap (λ n. bit (is_live_as name s) + n) (named_map name change keeps later) ∙ sym (named_cons name s later)

both : (name : List ℕ) (s after : SubscriptionState) → is_live after ≡ is_live s → after.name ≡ s.name
    → is_live_as name after ≡ is_live_as name s
both name s after live same = ap (λ b. b && is_word after.name name) live ∙ ap (λ n. is_live s && is_word n name) same

pub duplicate_named : (name other : List ℕ) (s : SubscriptionState)
    → is_live_as name (subscription_after_duplicate other s) ≡ is_live_as name s
duplicate_named name other s = both name s (subscription_after_duplicate other s) (duplicate_live other s) (by (is_live_as other s)) where
  by : (live : Bool) → (if live then record s { desk = desk_after_duplicate s.desk } else s).name ≡ s.name
  by true = refl
  by false = refl

pub offer_named : (name : List ℕ) (item : Item) (s : SubscriptionState)
    → is_live_as name (subscription_after_offer item s) ≡ is_live_as name s
offer_named name item s = both name s (subscription_after_offer item s) (offer_live item s) refl

pub closing_named : (name : List ℕ) (ending : Ending) (s : SubscriptionState)
    → is_live_as name (subscription_after_closing ending s) ≡ is_live_as name s
closing_named name ending s = both name s (subscription_after_closing ending s) (closing_live ending s) (by (is_live s)) where
  by : (live : Bool) → (if live then record s { desk = desk_after_end ending s.desk } else s).name ≡ s.name
  by true = refl
  by false = refl

pub one_map : (change : SubscriptionState → SubscriptionState) (subscriptions : List SubscriptionState)
    → ((name : List ℕ) (s : SubscriptionState) → is_live_as name (change s) ≡ is_live_as name s)
    → ((name : List ℕ) → count_by (is_live_as name) subscriptions ≤ 1) → (name : List ℕ) → count_by (is_live_as name) (map change subscriptions) ≤ 1
one_map change subscriptions keeps one = λ name. (let same = named_map name change (keeps name) subscriptions in let most = one name in omega (arith, same, most))

act_named : (other name : List ℕ) (act : Act) (subscriptions : List SubscriptionState)
    → count_by (is_live_as other) (subscriptions_after_act name act subscriptions) ≡ count_by (is_live_as other) subscriptions
act_named other name act [] = refl
act_named other name act (s ∷ later) = by (is_known name later) (is_word s.name name) (act_named other name act later) where
  by : (known named : Bool) → count_by (is_live_as other) (subscriptions_after_act name act later) ≡ count_by (is_live_as other) later
      → count_by (is_live_as other) (if known then s ∷ subscriptions_after_act name act later else (if named then (record s { desk = desk_after_act act s.desk }) ∷ later else s ∷ later))
      ≡ count_by (is_live_as other) (s ∷ later)
  by true named same = named_cons other s (subscriptions_after_act name act later) ∙ ap (λ n. bit (is_live_as other s) + n) same ∙ sym (named_cons other s later)
  by false true same =
      let after : SubscriptionState = record s { desk = desk_after_act act s.desk } in
      named_cons other after later ∙ ap (λ b. bit b + count_by (is_live_as other) later) (both other s after (act_live act s) refl) ∙ sym (named_cons other s later)
  by false false same = refl

pub one_act : (name : List ℕ) (act : Act) (subscriptions : List SubscriptionState)
    → ((other : List ℕ) → count_by (is_live_as other) subscriptions ≤ 1)
    → (other : List ℕ) → count_by (is_live_as other) (subscriptions_after_act name act subscriptions) ≤ 1
one_act name act subscriptions one = λ other. (let same = act_named other name act subscriptions in let most = one other in omega (arith, same, most))

-- nobody live has a name that isn't subscribed
none_named : (name : List ℕ) (subscriptions : List SubscriptionState) → is_subscribed name subscriptions ≡ false
    → count_by (is_live_as name) subscriptions ≡ 0
none_named name [] free = refl
none_named name (s ∷ later) free = by (is_live_as name s) refl free (none_named name later) where
  by : (here : Bool) → is_live_as name s ≡ here → (here || is_subscribed name later) ≡ false
      → (is_subscribed name later ≡ false → count_by (is_live_as name) later ≡ 0)
      → count_by (is_live_as name) (s ∷ later) ≡ 0
  by true e free rest = cc
  by false e free rest = (let none = rest free in let count = named_cons name s later ∙ ap (λ b. bit b + count_by (is_live_as name) later) e in omega (arith, none, count))

-- one more of such a name
pub one_push : (subscriptions : List SubscriptionState) (new : SubscriptionState) → is_subscribed new.name subscriptions ≡ false
    → ((name : List ℕ) → count_by (is_live_as name) subscriptions ≤ 1)
    → (name : List ℕ) → count_by (is_live_as name) (subscriptions ++ new ∷ []) ≤ 1
one_push subscriptions new free one = λ name. by name (is_live_as name new) refl where
  by : (name : List ℕ) (here : Bool) → is_live_as name new ≡ here → count_by (is_live_as name) (subscriptions ++ new ∷ []) ≤ 1
  by name here e =
      let parts : count_by (is_live_as name) (subscriptions ++ new ∷ []) ≡ count_by (is_live_as name) subscriptions + count_by (is_live_as name) (new ∷ []) =
      sum_by-append (λ t. if is_live_as name t then 1 else 0) subscriptions (new ∷ []) in
      let last : count_by (is_live_as name) (new ∷ []) ≡ bit here + 0 = named_cons name new [] ∙ ap (λ b. bit b + 0) e in
      split here e parts last where
        split : (here : Bool) → is_live_as name new ≡ here
            → count_by (is_live_as name) (subscriptions ++ new ∷ []) ≡ count_by (is_live_as name) subscriptions + count_by (is_live_as name) (new ∷ [])
            → count_by (is_live_as name) (new ∷ []) ≡ bit here + 0 → count_by (is_live_as name) (subscriptions ++ new ∷ []) ≤ 1
        split false e parts last = (let most = one name in omega (arith, parts, last, most))
        split true e parts last =
            let named : is_word new.name name ≡ true = second (is_live new) (is_word new.name name) e in
            let none : count_by (is_live_as name) subscriptions ≡ 0 = ap (λ n. count_by (is_live_as n) subscriptions) (sym (word_same new.name name named)) ∙ none_named new.name subscriptions free in
            omega (arith, parts, last, none) where
              second : (x y : Bool) → (x && y) ≡ true → y ≡ true
              second true true e = refl
              second true false e = cc
              second false y e = cc

-- a turn of a live one
pub one_after_turn : (state : SessionState) (number : ℕ) (s after : SubscriptionState) → number < length state.subscriptions
    → get_or state.subscriptions number s ≡ s → s.desk.lane.how ≡ None → after.name ≡ s.name
    → OneLiveOfName state → (name : List ℕ) → count_by (is_live_as name) (set state.subscriptions number after) ≤ 1
one_after_turn state number s after within here live same one = λ name.
    let test : SubscriptionState → ℕ = λ t. bit (is_live_as name t) in
    let sums : count_by (is_live_as name) (set state.subscriptions number after) + bit (is_live_as name s) ≡ count_by (is_live_as name) state.subscriptions + bit (is_live_as name after) =
    ap (λ t. count_by (is_live_as name) (set state.subscriptions number after) + test t) (sym here) ∙ sum_by-set test state.subscriptions number after s within in
    let was : is_live_as name s ≡ is_word s.name name = ap (λ (how : Option _). is_none how && is_word s.name name) live in
    let now : is_live_as name after ≡ (is_live after && is_word s.name name) = ap (λ n. is_live after && is_word n name) same in
    let few = fewer (is_live after) (is_word s.name name) in
    let most = one name in
    let was_bit = ap bit was in
    let now_bit = ap bit now in
    omega (arith, sums, most, few, was_bit, now_bit) where
      fewer : (x y : Bool) → bit (x && y) ≤ bit y
      fewer true y = omega arith
      fewer false true = omega arith
      fewer false false = omega arith
