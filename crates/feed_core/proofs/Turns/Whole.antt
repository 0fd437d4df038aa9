-- What the plain turn of a calm lane tells, and that a turn in which all of it was told keeps the lane calm.
use Rattle.std.proofs.Common.{◌≡◌, ◌==◌, ℕ, ◌+◌, ◌-◌, ◌≤◌, Bool, true, false, if◌then◌else◌, List, [], ◌∷◌, ◌++◌, length, map, take, drop, refl, sym, ap, subst, ◌∙◌, append_assoc, length-append, arith, Option, Some, None, inl, inr, ◌⊎◌}
use Rattle.std.proofs.lemmas.List.{append-nil, length-drop, length-take, take_all, take-append-drop, map-append}
use Rattle.feed_core.specs.Prelude.{Item, Signal, Subscribed, Next, Published, Ending, ErrorOrder, Overtake, AfterItems, How, Causes, Outlook, Again, Resting, Ended, ITEMS_IN_A_TURN, items_of}
use Rattle.feed_core.specs.Cause.{stops, closes, end_at_last, with_cause_of}
use Rattle.feed_core.specs.Lane.{LaneState}
use Rattle.feed_core.specs.PlainTurn.{PlainTurn, another_turn, end_by, greeting, signals_then, stop_or_turn, items_turn, close_or_rest, number_to_give, plain_turn_of, terminal_of}
use Rattle.feed_core.specs.Sound.{IsSoundLane, HasCause, is_begun, terminal_part, signals_of, loss_of}
use Rattle.feed_core.specs.Turn.{is_again, lane_after_turn, taken_in}
use Rattle.feed_core.proofs.Lanes.Calm.{IsCalm}
use Rattle.feed_core.proofs.Desks.Steps.{items_of_terminal, has_cause, closes_may, no_cause}
use Rattle.feed_core.proofs.Lanes.FlowRules.{all_counted, told_and_waiting, told_open}
use Rattle.flow_rules.proofs.Items.{items_of_append}
use Rattle.feed_core.proofs.Lists.Signals.{items_of_nexts}

-- the terminal part of a lane is no item
items_of_terminal_part : (how : Option How) → items_of (terminal_part how) ≡ []
items_of_terminal_part None = refl
items_of_terminal_part (Some how) = items_of_terminal how

-- the items of onNexts and a last signal that is none
items_of_nexts_then : (items : List Item) (ending : List Signal) → items_of ending ≡ [] → items_of (map Next items ++ ending) ≡ items
items_of_nexts_then items ending quiet =
    items_of_append (map Next items) ending ∙ ap (λ more. items_of (map Next items) ++ more) quiet ∙ append-nil (items_of (map Next items)) ∙ items_of_nexts items

-- onSubscribe, onNexts and a terminal part are the signals of their own items
signals_of_own : (items : List Item) (how : Option How) (signals : List Signal)
    → signals ≡ Subscribed ∷ (map Next items ++ terminal_part how) → signals ≡ signals_of (is_begun signals) (items_of signals) how
signals_of_own items how signals e =
    subst (λ t. t ≡ signals_of (is_begun t) (items_of t) how) (sym e)
    (ap (λ i. Subscribed ∷ (map Next i ++ terminal_part how)) (sym (items_of_nexts_then items (terminal_part how) (items_of_terminal_part how))))

-- nothing was told yet, or onSubscribe and onNexts
abbrev pub IsOpenList : List Signal → Type 0
IsOpenList told = (told ≡ []) ⊎ (told ≡ Subscribed ∷ map Next (items_of told))

pub told_is_open : (lane : LaneState) → IsSoundLane lane → lane.how ≡ None → IsOpenList lane.told
told_is_open lane sound unended = by lane.told refl where
  by : (told : List Signal) → lane.told ≡ told → IsOpenList lane.told
  by [] e = inl e
  by (s ∷ told) e = inr (told_open sound unended (ap is_begun e))

-- an open list, a greeting if it has none, more onNexts and a terminal part are the signals of their own items
pub grown_told : (told : List Signal) (items : List Item) (how : Option How) → IsOpenList told
    → told ++ (greeting told ++ (map Next items ++ terminal_part how)) ≡ signals_of (is_begun (told ++ (greeting told ++ (map Next items ++ terminal_part how)))) (items_of (told ++ (greeting told ++ (map Next items ++ terminal_part how)))) how
grown_told told items how (inl e) =
    signals_of_own items how _ (ap (λ t. t ++ (greeting t ++ (map Next items ++ terminal_part how))) e)
grown_told told items how (inr e) =
    let before = items_of told in
    let greeted : greeting told ≡ [] = ap greeting e in
    let joined : map Next before ++ (map Next items ++ terminal_part how) ≡ map Next (before ++ items) ++ terminal_part how =
    sym (append_assoc (map Next before) (map Next items) (terminal_part how)) ∙ ap (λ t. t ++ terminal_part how) (sym (map-append Next before items)) in
    signals_of_own (before ++ items) how _
    (ap (λ g. told ++ (g ++ (map Next items ++ terminal_part how))) greeted ∙ ap (λ t. t ++ (map Next items ++ terminal_part how)) e ∙ ap (λ t. Subscribed ∷ t) joined)

-- the items of a greeting, onNexts and a last signal that is none
pub items_of_greeted : (told : List Signal) (items : List Item) (ending : List Signal) → items_of ending ≡ []
    → items_of (greeting told ++ (map Next items ++ ending)) ≡ items
items_of_greeted [] items ending quiet = items_of_nexts_then items ending quiet
items_of_greeted (_ ∷ _) items ending quiet = items_of_nexts_then items ending quiet

-- a lane is sound once some of the waiting items were told
pub sound_after : (lane : LaneState) (told_items left : List Item) (told : List Signal) (given : ℕ) (causes : Causes) (how : Option How)
    → IsSoundLane lane → lane.how ≡ None → drop lane.given lane.accepted ≡ told_items ++ left → items_of told ≡ told_items
    → lane.told ++ told ≡ signals_of (is_begun (lane.told ++ told)) (items_of (lane.told ++ told)) how
    → lane.given + length told_items ≤ given → given ≤ lane.given + length told_items + loss_of how → given ≤ lane.given + (length told_items + length left) → given ≤ lane.asked
    → HasCause (record { accepted = lane.accepted; given = given; asked = lane.asked; causes = causes; how = how; told = lane.told ++ told })
    → (how ≡ None → causes.failed ≡ None) → (how ≡ None → causes.memory ≡ false)
    → IsSoundLane (record { accepted = lane.accepted; given = given; asked = lane.asked; causes = causes; how = how; told = lane.told ++ told })
sound_after lane told_items left told given causes how sound unended parts is told_is at_least at_most waited asked cause unfailed remembered =
    let items : items_of (lane.told ++ told) ≡ items_of lane.told ++ told_items = items_of_append lane.told told ∙ ap (λ t. items_of lane.told ++ t) is in
    let as_many = all_counted sound unended in
    let long : length (items_of (lane.told ++ told)) ≡ length (items_of lane.told) + length told_items = ap length items ∙ length-append (items_of lane.told) told_items in
    let split : lane.accepted ≡ items_of lane.told ++ (told_items ++ left) = told_and_waiting sound unended ∙ ap (λ rest. items_of lane.told ++ rest) parts in
    let whole : length lane.accepted ≡ length (items_of lane.told) + (length told_items + length left) =
    ap length split ∙ length-append (items_of lane.told) (told_items ++ left) ∙ ap (λ n. length (items_of lane.told) + n) (length-append told_items left) in
    record {
      told_is = told_is;
      in_order = (left, ap (λ t. t ++ left) items ∙ append_assoc (items_of lane.told) told_items left ∙ sym split);
      counts = record { tells = omega arith; loses = omega arith; taken = omega arith; requested = asked };
      cause = cause;
      unfailed = unfailed;
      remembered = remembered;
    }

-- how a turn ends after its items: it says nothing more, or it is the end that waited for the items, if none is left
abbrev pub EndsSo : Causes → List Item → PlainTurn → Type 0
EndsSo causes left turn =
    ((turn.told ≡ []) × ((turn.outlook ≡ Again) ⊎ (turn.outlook ≡ Resting)))
    ⊎ ((how : How) × (closes causes ≡ Some how) × (turn ≡ end_by how) × (left ≡ []))

-- a turn ends so whether it gave as many items as it may or fewer
ends_so : (causes : Causes) (left : List Item) (full : Bool)
    → EndsSo causes left (if full then another_turn else close_or_rest (closes causes) left)
ends_so causes left true = inl (refl, inl refl)
ends_so causes left false = by (closes causes) refl left where
  by : (end : Option How) → closes causes ≡ end → (rest : List Item) → EndsSo causes rest (close_or_rest end rest)
  by None e rest = inl (refl, inr refl)
  by (Some how) e [] = inr (how, e, refl, refl)
  by (Some how) e (_ ∷ _) = inl (refl, inr refl)

-- an end that waits for the items adds no cause
closed_causes : (causes : Causes) (how : How) → closes causes ≡ Some how → with_cause_of how causes ≡ causes
closed_causes causes how e = by causes.closing causes.order e where
  by : (closing : Option Ending) (order : ErrorOrder) → end_at_last closing order ≡ Some how → with_cause_of how causes ≡ causes
  by None order e = cc
  by (Some Ending.Normal) order e = let is : Some How.Completed ≡ Some how = e in cc
  by (Some (Ending.Failed code)) Overtake e = cc
  by (Some (Ending.Failed code)) AfterItems e = let is : Some (How.Errored (Published code)) ≡ Some how = e in cc

-- the parts of the plain turn of a calm lane: the greeting, items, and how it ends
pub record TurnParts (lane : LaneState) : Type 0 where
  pub items : List Item
  pub left : List Item
  pub end : PlainTurn
  pub parts : drop lane.given lane.accepted ≡ items ++ left
  pub requested : lane.given + length items ≤ lane.asked
  pub plain : plain_turn_of lane ≡ signals_then (greeting lane.told) (signals_then (map Next items) end)
  pub ends : EndsSo lane.causes left end

-- a calm lane's plain turn has these parts
pub turn_parts : (lane : LaneState) → IsSoundLane lane → stops lane.causes ≡ None → TurnParts lane
turn_parts lane sound calm =
    let waiting = drop lane.given lane.accepted in
    let most = number_to_give waiting (lane.asked - lane.given) in
    let requested = sound.counts.requested in
    record {
      items = take most waiting;
      left = drop most waiting;
      end = if most == ITEMS_IN_A_TURN then another_turn else close_or_rest (closes lane.causes) (drop most waiting);
      parts = sym (take-append-drop most waiting);
      requested = (let few = length-take most waiting in omega (arith, few));
      plain = ap (λ how. signals_then (greeting lane.told) (stop_or_turn how (items_turn lane.causes waiting (lane.asked - lane.given)))) calm;
      ends = ends_so lane.causes (drop most waiting) (most == ITEMS_IN_A_TURN);
    }

-- what is taken if all of a turn was told
pub taken_all : (turn : PlainTurn) → taken_in turn turn.told ≡ length (items_of turn.told)
taken_all turn = ap (λ t. length (items_of t)) (take_all (length turn.told + 1) turn.told (omega arith))

-- a lane stays calm after items that do not end it
calm_items : (lane : LaneState) (capacity : ℕ) (owed : Bool) (calm : IsCalm lane capacity true) (t : TurnParts lane) → t.end.told ≡ []
    → IsCalm (record { accepted = lane.accepted; given = lane.given + taken_in (plain_turn_of lane) (plain_turn_of lane).told; asked = lane.asked; causes = lane.causes; how = None; told = lane.told ++ (plain_turn_of lane).told }) capacity owed
calm_items lane capacity owed calm t quiet =
    let unended = calm.lives refl in
    let plain = (plain_turn_of lane).told in
    let said : plain ≡ greeting lane.told ++ (map Next t.items ++ terminal_part None) = ap (λ turn. turn.told) t.plain ∙ ap (λ more. greeting lane.told ++ (map Next t.items ++ more)) quiet in
    let items : items_of plain ≡ t.items = ap items_of said ∙ items_of_greeted lane.told t.items [] refl in
    let taken : taken_in (plain_turn_of lane) plain ≡ length t.items = taken_all (plain_turn_of lane) ∙ ap length items in
    let told_is = subst (λ p. lane.told ++ p ≡ signals_of (is_begun (lane.told ++ p)) (items_of (lane.told ++ p)) None) (sym said) (grown_told lane.told t.items None (told_is_open lane calm.sound unended)) in
    let requested = t.requested in
    let fits = calm.fits in
    record {
      sound = sound_after lane t.items t.left plain (lane.given + taken_in (plain_turn_of lane) plain) lane.causes None calm.sound unended t.parts items told_is
          (omega (arith, taken)) (omega (arith, taken)) (omega (arith, taken)) (omega (arith, taken))
          (no_cause _ refl) (λ e. calm.sound.unfailed unended) (λ e. calm.sound.remembered unended);
      fits = omega arith;
      bounded = calm.bounded;
      calm = calm.calm;
      lives = λ e. refl;
    }

-- a lane stays calm after its last item and the end that waited for it
calm_closed : (lane : LaneState) (capacity : ℕ) (calm : IsCalm lane capacity true) (t : TurnParts lane) (how : How)
    → closes lane.causes ≡ Some how → t.end.told ≡ terminal_of how → t.left ≡ []
    → IsCalm (lane_after_turn lane (plain_turn_of lane).told (Ended how)) capacity false
calm_closed lane capacity calm t how closing last none_left =
    let unended = calm.lives refl in
    let plain = (plain_turn_of lane).told in
    let said : plain ≡ greeting lane.told ++ (map Next t.items ++ terminal_part (Some how)) = ap (λ turn. turn.told) t.plain ∙ ap (λ more. greeting lane.told ++ (map Next t.items ++ more)) last in
    let items : items_of plain ≡ t.items = ap items_of said ∙ items_of_greeted lane.told t.items (terminal_of how) (items_of_terminal how) in
    let taken : taken_in (plain_turn_of lane) plain ≡ length t.items = taken_all (plain_turn_of lane) ∙ ap length items in
    let told_is = subst (λ p. lane.told ++ p ≡ signals_of (is_begun (lane.told ++ p)) (items_of (lane.told ++ p)) (Some how)) (sym said) (grown_told lane.told t.items (Some how) (told_is_open lane calm.sound unended)) in
    let waiting : length (drop lane.given lane.accepted) ≡ length t.items + length t.left = ap length t.parts ∙ length-append t.items t.left in
    let nothing : length t.left ≡ 0 = ap length none_left in
    let dropped = length-drop lane.given lane.accepted in
    let given_few = calm.sound.counts.taken in
    let requested = t.requested in
    let fits = calm.fits in
    let given : ℕ = lane.given + taken_in (plain_turn_of lane) plain in
    let all : given ≡ length lane.accepted = omega (arith, taken, waiting, nothing, dropped) in
    let after : LaneState = record lane { given = given } in
    record {
      sound = sound_after lane t.items t.left plain given (with_cause_of how lane.causes) (Some how) calm.sound unended t.parts items told_is
          (omega (arith, taken)) (omega (arith, taken)) (omega (arith, taken)) (omega (arith, taken))
          (has_cause after how (lane.told ++ plain) lane.accepted refl (closes_may after how closing all))
          (λ e. cc) (λ e. cc);
      fits = omega arith;
      bounded = calm.bounded;
      calm = ap stops (closed_causes lane.causes how closing) ∙ calm.calm;
      lives = λ e. cc;
    }

-- a lane stays calm after a turn in which all of the plain turn was told
pub calm_whole_turn : (lane : LaneState) (capacity : ℕ) → IsCalm lane capacity true
    → IsCalm (lane_after_turn lane (plain_turn_of lane).told (plain_turn_of lane).outlook) capacity (is_again (plain_turn_of lane).outlook)
calm_whole_turn lane capacity calm =
    let t = turn_parts lane calm.sound calm.calm in
    let outlook : (plain_turn_of lane).outlook ≡ t.end.outlook = ap (λ turn. turn.outlook) t.plain in
    let P : Outlook → Type 0 = λ o. IsCalm (lane_after_turn lane (plain_turn_of lane).told o) capacity (is_again o) in
    elim t.ends [
      | inl going ↦ (elim going.1 [
        | inl e ↦ subst P (sym (outlook ∙ e)) (calm_items lane capacity true calm t going.0)
        | inr e ↦ subst P (sym (outlook ∙ e)) (calm_items lane capacity false calm t going.0)
      ])
      | inr done ↦ subst P (sym (outlook ∙ ap (λ (turn : PlainTurn). turn.outlook) done.2))
          (calm_closed lane capacity calm t done.0 done.1 (ap (λ (turn : PlainTurn). turn.told) done.2) done.3)
    ]
