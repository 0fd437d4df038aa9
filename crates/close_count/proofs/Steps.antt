-- Each step on a count's word keeps its rule.
use Rattle.std.proofs.Common.{◌≡◌, ℕ, zero, suc, Bool, true, false, ◌==◌, ◌+◌, ◌-◌, ◌%◌, ◌^◌, ◌<◌, ◌≤◌, List, [], ◌∷◌, get_or, set, min, sym, refl, ap, ◌∙◌, subst, arith, length-set, get_or-set_same, eq-eqb, ne_eqb}
use Rattle.std.specs.Prelude.{sum_by}
use Rattle.std.proofs.lemmas.List.Sums.{sum_by-cons, sum_by_push}
use mathlib.Core.Logic.{dite}
use mathlib.Core.Option.{some, none, some-injective, some-ne-none}
use native.Mathlib.Decide.{ℕ_discrete}
use lib.ListN.{get_elem?}
use Rattle.atomic_table.specs.Table.{Me, step, keeps, stepped, Allows, Splits, Joins}
use Rattle.close_count.specs.declared.rule.View.{View}
use Rattle.close_count.specs.Tickets.{Moment, KeepsCount, Completes, count_word, total_spent, one_if, made_count, room_count, held_count, earlier_count, last_count, view_after_add, view_after_hand_out, view_after_complete, view_together, empty_view, ticket_view, IsStepOfAdd, IsStepOfComplete, IsStepOfLook}

-- a sum after one view was replaced
pub sum_by_set_view : (f : View → ℕ) (l : List View) (i : ℕ) (v w : View) → get_elem? l i ≡ some v → sum_by f (set l i w) + f v ≡ sum_by f l + f w
sum_by_set_view f [] i v w e = absurd (some-ne-none v (sym e))
sum_by_set_view f (x ∷ xs) zero v w e = let is : f x ≡ f v = ap f (some-injective x v e) in omega (arith, sum_by-cons f x xs, sum_by-cons f w xs, is)
sum_by_set_view f (x ∷ xs) (suc i) v w e = omega (arith, sum_by-cons f x xs, sum_by-cons f x (set xs i w), sum_by_set_view f xs i v w e)

-- one view's part of a sum
pub part_below_sum : (f : View → ℕ) (l : List View) (i : ℕ) (v : View) → get_elem? l i ≡ some v → f v ≤ sum_by f l
part_below_sum f [] i v e = absurd (some-ne-none v (sym e))
part_below_sum f (x ∷ xs) zero v e = let is : f x ≡ f v = ap f (some-injective x v e) in omega (arith, sum_by-cons f x xs, is)
part_below_sum f (x ∷ xs) (suc i) v e = omega (arith, sum_by-cons f x xs, part_below_sum f xs i v e)

-- how a step that takes the word from x to n may change its seat's view
record Balances (x n : ℕ) (v w : View) : Type 0 where
  unspent : (n + (w.earlier + w.last)) + v.made ≡ (x + (v.earlier + v.last)) + w.made
  held : w.held + x ≡ v.held + n
  once : w.last + min 1 n ≡ v.last + min 1 x
  bounded : w.made + w.room ≡ v.made + v.room

-- such a change keeps the rule
balance_keeps_rule : (s : Moment) → KeepsCount s → (id n : ℕ) (v w : View) → get_elem? s.views id ≡ some v → Balances (count_word s) n v w → KeepsCount (record s { words = set s.words 0 n; views = set s.views id w })
balance_keeps_rule s r id n v w at b =
    let here : get_or (set s.words 0 n) 0 0 ≡ n = get_or-set_same s.words 0 n 0 (let l = r.one_word in omega arith) in
    let made = sum_by_set_view made_count s.views id v w at in
    let room = sum_by_set_view room_count s.views id v w at in
    let held = sum_by_set_view held_count s.views id v w at in
    let earlier = sum_by_set_view earlier_count s.views id v w at in
    let last = sum_by_set_view last_count s.views id v w at in
    let unspent_was = r.unspent in
    let held_was = r.held in
    let once_was = r.once in
    let bounded_was = r.bounded in
    let b_unspent = b.unspent in
    let b_held = b.held in
    let b_once = b.once in
    let b_bounded = b.bounded in
    record {
      one_word = length-set s.words 0 n ∙ r.one_word;
      unspent = ap (λ (k : ℕ). k + total_spent (record s { words = set s.words 0 n; views = set s.views id w })) here ∙ omega arith;
      held = (omega arith) ∙ sym here;
      once = ap (λ (k : ℕ). sum_by last_count (set s.views id w) + min 1 k) here ∙ omega arith;
      bounded = omega arith;
    }

-- one ticket is at most one
one_if_at_most_one : (b : Bool) → one_if b ≤ 1
one_if_at_most_one true = omega arith
one_if_at_most_one false = omega arith

complete_balances : (x : ℕ) (v : View) → 1 ≤ x → 1 ≤ v.held → Balances x (x - 1) v (view_after_complete v x)
complete_balances x v some_left holds = record {
  unspent = omega (arith, one_if_at_most_one (x == 1));
  held = omega arith;
  once = dite (ℕ_discrete x 1)
      (λ one. ap (λ (b : ℕ). (v.last + b) + min 1 (x - 1)) (ap one_if (eq-eqb x 1 one)) ∙ omega (arith, one))
      (λ more. ap (λ (b : ℕ). (v.last + b) + min 1 (x - 1)) (ap one_if (ne_eqb x 1 more)) ∙ omega (arith, more));
  bounded = refl;
}

step_completes : (s : Moment) → KeepsCount s → (id : ℕ) (v w : View) → get_elem? s.views id ≡ some v → 1 ≤ count_word s → w.made ≡ v.made → w.earlier + w.last ≡ (v.earlier + v.last) + 1
    → KeepsCount (record s { words = set s.words 0 (count_word s - 1); views = set s.views id w }) → Completes (count_word s) s (record s { words = set s.words 0 (count_word s - 1); views = set s.views id w })
step_completes s r id v w at some_left made spent after =
    let x : ℕ = count_word s in
    let here : get_or (set s.words 0 (x - 1)) 0 0 ≡ x - 1 = get_or-set_same s.words 0 (x - 1) 0 (let l = r.one_word in omega arith) in
    record {
      rule_before = r;
      rule_after = after;
      word_before = refl;
      word_after = ap (λ (k : ℕ). k + 1) here ∙ omega (arith, some_left);
      made = omega (arith, sum_by_set_view made_count s.views id v w at, made);
      spent = omega (arith, sum_by_set_view earlier_count s.views id v w at, sum_by_set_view last_count s.views id v w at, spent);
    }

-- a step that spends one ticket
pub spends : (slots id : ℕ) (me : Me (Unit {0}) View) → 1 ≤ me.0.held
    → Allows KeepsCount slots id me 0 (λ x. (x + (2 ^ 64 - 1)) % 2 ^ 64) (IsStepOfComplete (step slots 0 1 0 none) me)
spends slots id me holds s r _ at small =
    let x : ℕ = count_word s in
    let v : View = me.0 in
    let w : View = view_after_complete v x in
    let held_here : v.held ≤ sum_by held_count s.views = part_below_sum held_count s.views id v at in
    let some_left : 1 ≤ x = (let h = r.held in omega arith) in
    let less : x - 1 ≡ (x + 18446744073709551615) % 18446744073709551616 = (let fits : x < 18446744073709551616 = small in omega arith) in
    let after = balance_keeps_rule s r id (x - 1) v w at (complete_balances x v some_left holds) in
    (w, keeps, tt, subst (λ (n : ℕ). KeepsCount (stepped s 0 n id me.1 w keeps)) less after, (refl, (s, record s { words = set s.words 0 (x - 1); views = set s.views id w }, step_completes s r id v w at some_left refl (omega (arith, one_if_at_most_one (x == 1))) after)))

add_balances : (x : ℕ) (v : View) → 1 ≤ x → 1 ≤ v.room → Balances x (x + 1) v (view_after_add v)
add_balances x v some_left may = record {
  unspent = omega arith;
  held = omega arith;
  once = omega (arith, some_left);
  bounded = omega (arith, may);
}

-- a step that adds one ticket
pub adds : (slots id : ℕ) (me : Me (Unit {0}) View) → 1 ≤ me.0.room → 1 ≤ me.0.held
    → Allows KeepsCount slots id me 0 (λ x. (x + 1) % 2 ^ 64) (IsStepOfAdd (step slots 0 1 0 none) me)
adds slots id me may holds s r _ at small =
    let x : ℕ = count_word s in
    let v : View = me.0 in
    let w : View = view_after_add v in
    let held_here : v.held ≤ sum_by held_count s.views = part_below_sum held_count s.views id v at in
    let room_here : v.room ≤ sum_by room_count s.views = part_below_sum room_count s.views id v at in
    let some_left : 1 ≤ x = (let h = r.held in omega arith) in
    let more : x + 1 ≡ (x + 1) % 18446744073709551616 = (let u = r.unspent in let b = r.bounded in omega arith) in
    (w, keeps, tt, subst (λ (n : ℕ). KeepsCount (stepped s 0 n id me.1 w keeps)) more (balance_keeps_rule s r id (x + 1) v w at (add_balances x v some_left may)), refl)

-- the ticket that was added gets a seat of its own
pub hands_out : (id : ℕ) (v : View) → 1 ≤ v.held → Splits KeepsCount id v (view_after_hand_out v) ticket_view
hands_out id v holds s r at =
    let rest : List View = set s.views id (view_after_hand_out v) in
    let made = sum_by_set_view made_count s.views id v (view_after_hand_out v) at in
    let room = sum_by_set_view room_count s.views id v (view_after_hand_out v) at in
    let held = sum_by_set_view held_count s.views id v (view_after_hand_out v) at in
    let earlier = sum_by_set_view earlier_count s.views id v (view_after_hand_out v) at in
    let last = sum_by_set_view last_count s.views id v (view_after_hand_out v) at in
    let unspent_was = r.unspent in
    let held_was = r.held in
    let once_was = r.once in
    let bounded_was = r.bounded in
    record {
      one_word = r.one_word;
      unspent = omega (arith, sum_by_push made_count rest ticket_view, sum_by_push earlier_count rest ticket_view, sum_by_push last_count rest ticket_view);
      held = omega (arith, sum_by_push held_count rest ticket_view);
      once = omega (arith, sum_by_push last_count rest ticket_view);
      bounded = omega (arith, sum_by_push made_count rest ticket_view, sum_by_push room_count rest ticket_view);
    }

-- two seats put together what they know
pub gathers : (id : ℕ) (v : View) (other : ℕ) (w : View) → Joins KeepsCount id v other w (view_together v w) empty_view
gathers id v other w s r at apart there =
    let mid : List View = set s.views id (view_together v w) in
    let made = sum_by_set_view made_count s.views id v (view_together v w) at in
    let room = sum_by_set_view room_count s.views id v (view_together v w) at in
    let held = sum_by_set_view held_count s.views id v (view_together v w) at in
    let earlier = sum_by_set_view earlier_count s.views id v (view_together v w) at in
    let last = sum_by_set_view last_count s.views id v (view_together v w) at in
    let unspent_was = r.unspent in
    let held_was = r.held in
    let once_was = r.once in
    let bounded_was = r.bounded in
    record {
      one_word = r.one_word;
      unspent = omega (arith, sum_by_set_view made_count mid other w empty_view there, sum_by_set_view earlier_count mid other w empty_view there, sum_by_set_view last_count mid other w empty_view there);
      held = omega (arith, sum_by_set_view held_count mid other w empty_view there);
      once = omega (arith, sum_by_set_view last_count mid other w empty_view there);
      bounded = omega (arith, sum_by_set_view made_count mid other w empty_view there, sum_by_set_view room_count mid other w empty_view there);
    }

-- a load by which a seat learns what the rule says of it
pub looks : (slots id : ℕ) (me : Me (Unit {0}) View) → Allows KeepsCount slots id me 0 (λ x. x) (IsStepOfLook (step slots 0 0 0 none) me)
looks slots id me s r _ at _ =
    let x : ℕ = count_word s in
    let v : View = me.0 in
    let held_here : v.held ≤ sum_by held_count s.views = part_below_sum held_count s.views id v at in
    let last_here : v.last ≤ sum_by last_count s.views = part_below_sum last_count s.views id v at in
    let earlier_here : v.earlier ≤ sum_by earlier_count s.views = part_below_sum earlier_count s.views id v at in
    let made_here : v.made ≤ sum_by made_count s.views = part_below_sum made_count s.views id v at in
    let room_here : v.room ≤ sum_by room_count s.views = part_below_sum room_count s.views id v at in
    let unspent_was = r.unspent in
    let held_was = r.held in
    let once_was = r.once in
    let bounded_was = r.bounded in (
      v,
      keeps,
      tt,
      balance_keeps_rule s r id x v v at (record { unspent = refl; held = refl; once = refl; bounded = refl }),
      (record { last_once = omega arith; bounded = omega arith; all_spent = λ all spent. omega (arith, all, spent) }, refl),
    )
