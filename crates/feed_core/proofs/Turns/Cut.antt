-- A turn that is cut short by a refusal of memory keeps a lane calm.
use Rattle.std.proofs.Common.{◌≡◌, ℕ, suc, ◌+◌, ◌≤◌, true, false, List, [], ◌∷◌, ◌++◌, length, map, take, drop, refl, sym, ap, subst, ◌∙◌, append_assoc, length-append, arith, Some, inl, inr, ◌⊎◌}
use Rattle.std.proofs.lemmas.List.{append-nil}
use Rattle.feed_core.specs.Prelude.{Item, Signal, Subscribed, Next, Complete, Error, How, Causes, Ended, items_of}
use Rattle.feed_core.specs.Cause.{with_cause_of}
use Rattle.feed_core.specs.Lane.{LaneState}
use Rattle.feed_core.specs.PlainTurn.{PlainTurn, greeting, plain_turn_of, terminal_of}
use Rattle.feed_core.specs.Sound.{is_begun, signals_of}
use Rattle.feed_core.specs.Turn.{lane_after_turn, taken_in}
use Rattle.feed_core.proofs.Lanes.Calm.{IsCalm}
use Rattle.feed_core.proofs.Desks.Steps.{items_of_terminal}
use Rattle.flow_rules.proofs.Items.{items_of_append}
use Rattle.feed_core.proofs.Turns.Whole.{IsOpenList, EndsSo, told_is_open, grown_told, items_of_greeted, sound_after, turn_parts}

-- the signal that was not told has an item, or none
pub next_few : (next : Signal) → length (items_of (next ∷ [])) ≤ 1
next_few Subscribed = omega arith
next_few (Next item) = omega arith
next_few Complete = omega arith
next_few (Error fault) = omega arith

next_none : (next : Signal) (rest : List Signal) → items_of (next ∷ rest) ≡ [] → length (items_of (next ∷ [])) ≡ 0
next_none Subscribed rest quiet = refl
next_none (Next item) rest quiet = cc
next_none Complete rest quiet = refl
next_none (Error fault) rest quiet = refl

-- what was told of some onNexts and a last signal, before the one that was not
record TellsSome (items : List Item) (told : List Signal) (next : Signal) : Type 0 where
  pub told_items : List Item
  pub left : List Item
  pub parts : items ≡ told_items ++ left
  pub is : told ≡ map Next told_items
  pub fits : length told_items + length (items_of (next ∷ [])) ≤ length items

some_of_nexts : (items : List Item) (last told : List Signal) (next : Signal) (rest : List Signal)
    → told ++ (next ∷ rest) ≡ map Next items ++ last → length last ≤ 1 → items_of last ≡ [] → TellsSome items told next
some_of_nexts [] last [] next rest e short quiet = record {
  told_items = [];
  left = [];
  parts = refl;
  is = refl;
  fits = (let none = next_none next rest (ap items_of e ∙ quiet) in omega (arith, none));
}
some_of_nexts (item ∷ items) last [] next rest e short quiet = record {
  told_items = [];
  left = item ∷ items;
  parts = refl;
  is = refl;
  fits = (let few = next_few next in omega arith);
}
some_of_nexts [] last (signal ∷ told) next rest e short quiet =
    let long = ap length e in absurd (omega (arith, long, length-append told (next ∷ rest)))
some_of_nexts (item ∷ items) last (signal ∷ told) next rest e short quiet =
    let head : signal ≡ Next item = cc in
    let tail : told ++ (next ∷ rest) ≡ map Next items ++ last = cc in
    let some = some_of_nexts items last told next rest tail short quiet in
    record {
      told_items = item ∷ some.told_items;
      left = some.left;
      parts = ap (λ t. item ∷ t) some.parts;
      is = (λ k. head k ∷ some.is k);
      fits = (let fits = some.fits in omega arith);
    }

-- what was told of a greeting, some onNexts and a last signal, before the one that was not
pub record Missed (before : List Signal) (items : List Item) (told : List Signal) (next : Signal) : Type 0 where
  pub told_items : List Item
  pub left : List Item
  pub parts : items ≡ told_items ++ left
  pub is : (told ≡ greeting before ++ map Next told_items) ⊎ ((before ≡ []) × (told ≡ []) × (told_items ≡ []))
  pub fits : length told_items + length (items_of (next ∷ [])) ≤ length items

pub missed_shape : (before : List Signal) (items : List Item) (last told : List Signal) (next : Signal) (rest : List Signal)
    → told ++ (next ∷ rest) ≡ greeting before ++ (map Next items ++ last) → length last ≤ 1 → items_of last ≡ []
    → Missed before items told next
missed_shape (s ∷ before) items last told next rest e short quiet =
    let some = some_of_nexts items last told next rest e short quiet in
    record { told_items = some.told_items; left = some.left; parts = some.parts; is = inl some.is; fits = some.fits }
missed_shape [] items last [] next rest e short quiet =
    let first : next ≡ Subscribed = cc in
    let none : length (items_of (next ∷ [])) ≡ 0 = ap (λ s. length (items_of (s ∷ []))) first in
    record { told_items = []; left = items; parts = refl; is = inr (refl, refl, refl); fits = omega (arith, none) }
missed_shape [] items last (signal ∷ told) next rest e short quiet =
    let head : signal ≡ Subscribed = cc in
    let tail : told ++ (next ∷ rest) ≡ map Next items ++ last = cc in
    let some = some_of_nexts items last told next rest tail short quiet in
    record { told_items = some.told_items; left = some.left; parts = some.parts; is = inl (λ k. head k ∷ some.is k); fits = some.fits }

-- one signal more than was told
pub take_next : (told : List Signal) (next : Signal) (rest : List Signal)
    → take (length told + 1) (told ++ (next ∷ rest)) ≡ told ++ (next ∷ [])
take_next [] next rest = refl
take_next (signal ∷ told) next rest =
    let on : suc (length told) + 1 ≡ suc (length told + 1) = omega arith in
    ap (λ n. take n (signal ∷ (told ++ (next ∷ rest)))) on ∙ ap (λ t. signal ∷ t) (take_next told next rest)

-- what was told before the refusal: its items, and that with what was told before it is the text of its own items
pub missed_items : (before told : List Signal) (items : List Item) (next : Signal) (m : Missed before items told next)
    → items_of told ≡ m.told_items
missed_items before told items next m = elim m.is [
  | inl e ↦ ap items_of (e ∙ ap (λ t. greeting before ++ t) (sym (append-nil (map Next m.told_items)))) ∙ items_of_greeted before m.told_items [] refl
  | inr e ↦ ap items_of e.1 ∙ sym e.2
]

pub missed_told : (before told : List Signal) (items : List Item) (next : Signal) (m : Missed before items told next) → IsOpenList before
    → before ++ told ≡ signals_of (is_begun (before ++ told)) (items_of (before ++ told)) (Some How.OutOfMemory)
missed_told before told items next m begins = elim m.is [
  | inl e ↦ subst (λ t. before ++ t ≡ signals_of (is_begun (before ++ t)) (items_of (before ++ t)) (Some How.OutOfMemory)) (sym (e ∙ ap (λ t. greeting before ++ t) (sym (append-nil (map Next m.told_items)))))
      (grown_told before m.told_items (Some How.OutOfMemory) begins)
  | inr e ↦ (let none : before ++ told ≡ [] = ap (λ b. b ++ told) e.0 ∙ e.1 in
      subst (λ t. t ≡ signals_of (is_begun t) (items_of t) (Some How.OutOfMemory)) (sym none) refl)
]

-- an end has at most one signal
terminal_short : (how : How) → length (terminal_of how) ≤ 1
terminal_short How.Completed = omega arith
terminal_short (How.Errored _) = omega arith
terminal_short How.Cancelled = omega arith
terminal_short (How.Failed _) = omega arith
terminal_short How.OutOfMemory = omega arith

-- an end of a turn has at most one signal, and no item
ends_short : (causes : Causes) (left : List Item) (turn : PlainTurn) → EndsSo causes left turn
    → (length turn.told ≤ 1) × (items_of turn.told ≡ [])
ends_short causes left turn (inl going) = (let none = ap length going.0 in omega (arith, none), ap items_of going.0)
ends_short causes left turn (inr done) = (
    let told = ap (λ (t : PlainTurn). t.told) done.2 in
    let one = ap length told in let few = terminal_short done.0 in (omega (arith, one), ap items_of told ∙ items_of_terminal done.0))

-- a lane stays calm after a turn that was cut at a callback that was refused memory, which ends it
pub calm_cut_turn : (lane : LaneState) (capacity : ℕ) (told : List Signal) (next : Signal) (rest : List Signal)
    → IsCalm lane capacity true → (plain_turn_of lane).told ≡ told ++ (next ∷ rest)
    → IsCalm (lane_after_turn lane told (Ended How.OutOfMemory)) capacity false
calm_cut_turn lane capacity told next rest calm plain =
    let unended = calm.lives refl in
    let t = turn_parts lane calm.sound calm.calm in
    let short = ends_short lane.causes t.left t.end t.ends in
    let m = missed_shape lane.told t.items t.end.told told next rest (sym plain ∙ ap (λ turn. turn.told) t.plain) short.0 short.1 in
    let taken : taken_in (plain_turn_of lane) told ≡ length m.told_items + length (items_of (next ∷ [])) =
    ap (λ p. length (items_of (take (length told + 1) p))) plain ∙ ap (λ p. length (items_of p)) (take_next told next rest)
    ∙ ap length (items_of_append told (next ∷ [])) ∙ length-append (items_of told) (items_of (next ∷ []))
    ∙ ap (λ i. length i + length (items_of (next ∷ []))) (missed_items lane.told told t.items next m) in
    let parts : drop lane.given lane.accepted ≡ m.told_items ++ (m.left ++ t.left) = t.parts ∙ ap (λ i. i ++ t.left) m.parts ∙ append_assoc m.told_items m.left t.left in
    let given_items : length t.items ≡ length m.told_items + length m.left = ap length m.parts ∙ length-append m.told_items m.left in
    let left = length-append m.left t.left in
    let few = next_few next in
    let room = m.fits in
    let requested = t.requested in
    let fits = calm.fits in
    record {
      sound = sound_after lane m.told_items (m.left ++ t.left) told (lane.given + taken_in (plain_turn_of lane) told) (with_cause_of How.OutOfMemory lane.causes) (Some How.OutOfMemory) calm.sound unended parts
          (missed_items lane.told told t.items next m) (missed_told lane.told told t.items next m (told_is_open lane calm.sound unended))
          (omega (arith, taken)) (omega (arith, taken)) (omega (arith, taken)) (omega (arith, taken))
          (record { completed = λ e. cc; whole = λ e. cc; published = λ code e. cc; last = λ code e. cc; argument = λ e. cc; state = λ e. cc; cancelled = λ e. cc; failed = λ code e. cc; refused = λ e. refl })
          (λ e. cc) (λ e. cc);
      fits = omega arith;
      bounded = calm.bounded;
      calm = calm.calm;
      lives = λ e. cc;
    }
