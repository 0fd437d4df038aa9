-- What a turn that was told whole leaves, by its outlook: if it rests nothing is left that may be told, and if
-- another turn is owed it gave items.
use Rattle.std.proofs.Common.{◌≡◌, ◌==◌, ℕ, ◌-◌, ◌<◌, Bool, true, false, if◌then◌else◌, List, [], ◌∷◌, ◌++◌, length, map, take, drop, refl, sym, ap, ◌∙◌, arith, Option, Some, None}
use Rattle.std.specs.Prelude.{IsSome}
use Rattle.std.proofs.lemmas.Bool.Decides.{nat_tests}
use Rattle.std.proofs.lemmas.List.{length-drop, length-take-le}
use Rattle.feed_core.specs.Prelude.{Item, Signal, Next, How, Causes, Again, Resting, Ended, ITEMS_IN_A_TURN, items_of}
use Rattle.feed_core.specs.Cause.{stops, closes}
use Rattle.feed_core.specs.Lane.{LaneState}
use Rattle.feed_core.specs.LaneCalls.{lag_of}
use Rattle.feed_core.specs.PlainTurn.{PlainTurn, another_turn, greeting, signals_then, stop_or_turn, close_or_rest, items_turn, number_to_give, plain_turn_of}
use Rattle.feed_core.specs.Sound.{IsSoundLane, IsAtRest, is_begun}
use Rattle.feed_core.specs.Turn.{lane_after_turn, taken_in}
use Rattle.feed_core.proofs.Turns.Stopped.{stopped_turn}
use Rattle.feed_core.proofs.Turns.Whole.{items_of_greeted, taken_all}

-- nothing ends a lane at once whose turn does not end it
pub unstopped : (lane : LaneState) → ((how : How) → (plain_turn_of lane).outlook ≡ Ended how → ⊥) → stops lane.causes ≡ None
unstopped lane lives = by (stops lane.causes) refl where
  by : (stop : Option How) → stops lane.causes ≡ stop → stops lane.causes ≡ None
  by None e = e
  by (Some how) e = absurd (lives how (ap (λ turn. turn.outlook) (stopped_turn lane how e)))

-- what comes after the items of a turn
abbrev part_after : Causes → List Item → Bool → PlainTurn
part_after causes left full = if full then another_turn else close_or_rest (closes causes) left

-- it rests after fewer items than it may give, says nothing more, and completion waits for items that are left
rests_so : (causes : Causes) (left : List Item) (full : Bool) → (part_after causes left full).outlook ≡ Resting
    → (full ≡ false) × ((part_after causes left full).told ≡ []) × (IsSome (closes causes) → 0 < length left)
rests_so causes left true e = cc
rests_so causes left false e = by (closes causes) left e where
  by : (end : Option How) (rest : List Item) → (close_or_rest end rest).outlook ≡ Resting
      → (false ≡ false) × ((close_or_rest end rest).told ≡ []) × (IsSome end → 0 < length rest)
  by None rest e = (refl, refl, λ some. cc)
  by (Some how) [] e = cc
  by (Some how) (_ ∷ _) e = (refl, refl, λ some. omega arith)

-- another turn is owed after as many items as a turn may give
again_so : (causes : Causes) (left : List Item) (full : Bool) → (part_after causes left full).outlook ≡ Again
    → (full ≡ true) × ((part_after causes left full).told ≡ [])
again_so causes left true e = (refl, refl)
again_so causes left false e = by (closes causes) left e where
  by : (end : Option How) (rest : List Item) → (close_or_rest end rest).outlook ≡ Again
      → (false ≡ true) × ((close_or_rest end rest).told ≡ [])
  by None rest e = cc
  by (Some how) [] e = cc
  by (Some how) (_ ∷ _) e = cc

unequal : (n m : ℕ) → (n == m) ≡ false → (n ≡ m → ⊥)
unequal n m e same = grind (arith, nat_tests)

equal : (n m : ℕ) → (n == m) ≡ true → n ≡ m
equal n m e = grind (arith, nat_tests)

-- a greeted list was begun
greeted_begun : (told more : List Signal) → is_begun (told ++ (greeting told ++ more)) ≡ true
greeted_begun [] more = refl
greeted_begun (s ∷ told) more = refl

module _ (lane : LaneState) (sound : IsSoundLane lane) (runs_on : stops lane.causes ≡ None) where
  -- the items that wait, how many of them the turn gives, and what comes after those
  abbrev waiting : List Item
  waiting = drop lane.given lane.accepted

  abbrev most : ℕ
  most = number_to_give waiting (lane.asked - lane.given)

  abbrev last : PlainTurn
  last = part_after lane.causes (drop most waiting) (most == ITEMS_IN_A_TURN)

  plain : plain_turn_of lane ≡ signals_then (greeting lane.told) (signals_then (map Next (take most waiting)) last)
  plain = ap (λ stop. signals_then (greeting lane.told) (stop_or_turn stop (items_turn lane.causes waiting (lane.asked - lane.given)))) runs_on

  -- if it says nothing more, it takes as many items
  taken : last.told ≡ [] → taken_in (plain_turn_of lane) (plain_turn_of lane).told ≡ most
  taken quiet =
      let said : (plain_turn_of lane).told ≡ greeting lane.told ++ (map Next (take most waiting) ++ []) =
      ap (λ turn. turn.told) plain ∙ ap (λ more. greeting lane.told ++ (map Next (take most waiting) ++ more)) quiet in
      let items : items_of (plain_turn_of lane).told ≡ take most waiting = ap items_of said ∙ items_of_greeted lane.told (take most waiting) [] refl in
      taken_all (plain_turn_of lane) ∙ ap length items ∙ length-take-le most waiting (omega arith)

-- a lane is at rest after a turn that rests
pub at_rest_after : (lane : LaneState) → IsSoundLane lane → (plain_turn_of lane).outlook ≡ Resting
    → IsAtRest (lane_after_turn lane (plain_turn_of lane).told Resting)
at_rest_after lane sound rests =
    let runs_on = unstopped lane (λ how e. let clash : Resting ≡ Ended how = sym rests ∙ e in cc) in
    let turn = plain lane sound runs_on in
    let left = waiting lane sound runs_on in
    let n = most lane sound runs_on in
    let so = rests_so lane.causes (drop n left) (n == ITEMS_IN_A_TURN) (sym (ap (λ t. t.outlook) turn) ∙ rests) in
    let took = taken lane sound runs_on so.1 in
    let few = unequal n ITEMS_IN_A_TURN so.0 in
    let waits : length left ≡ length lane.accepted - lane.given = length-drop lane.given lane.accepted in
    let given = sound.counts.taken in
    let requested = sound.counts.requested in
    record {
      unended = refl;
      begun = ap (λ told. is_begun (lane.told ++ told)) (ap (λ t. t.told) turn) ∙ greeted_begun lane.told _;
      runs_on = runs_on;
      all_given = omega (arith, took);
      waits = λ closed. (let some = so.2 closed in let after = length-drop n left in omega (arith, took));
    }

-- fewer items wait after a turn that is to be gone on with
pub fewer_after_again : (lane : LaneState) → IsSoundLane lane → (plain_turn_of lane).outlook ≡ Again
    → lag_of (lane_after_turn lane (plain_turn_of lane).told Again) < lag_of lane
fewer_after_again lane sound again =
    let runs_on = unstopped lane (λ how e. let clash : Again ≡ Ended how = sym again ∙ e in cc) in
    let turn = plain lane sound runs_on in
    let left = waiting lane sound runs_on in
    let n = most lane sound runs_on in
    let so = again_so lane.causes (drop n left) (n == ITEMS_IN_A_TURN) (sym (ap (λ t. t.outlook) turn) ∙ again) in
    let took = taken lane sound runs_on so.1 in
    let many = equal n ITEMS_IN_A_TURN so.0 in
    let waits : length left ≡ length lane.accepted - lane.given = length-drop lane.given lane.accepted in
    let given = sound.counts.taken in
    omega (arith, took)
