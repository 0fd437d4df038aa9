-- The looks of one turn, one after the other.
use Rattle.std.proofs.Common.{◌≡◌, ℕ, suc, ◌+◌, ◌-◌, ◌<◌, ◌≤◌, ◌↔◌, true, false, List, [], ◌∷◌, ◌++◌, map, length, drop, Contains, Ok, refl, ap, sym, ◌∙◌, subst, inl, inr, arith, append_assoc}
use Rattle.std.proofs.lemmas.List.{append-nil, length-append, length-map, map-append}
use Rattle.std.proofs.lemmas.List.Elements.{Contains-append_cases, Contains-push}
use mathlib.Core.List.{IsPrefix}
use Rattle.feed_core.specs.Prelude.{Answer, Item, Signal, Next, Complete, Error, Fault, How, Outlook, Again, Resting, Ended, items_of}
use Rattle.feed_core.specs.AnsweredTurn.{Reply, After, ArePlain, replies_to, going_on, looks_within, turn_of}
use Rattle.feed_core.specs.Desk.{DeskState}
use Rattle.feed_core.specs.Lane.{LaneState}
use Rattle.feed_core.specs.PlainTurn.{greeting, terminal_of}
use Rattle.feed_core.specs.Replies.{refusal_in, replies_in}
use Rattle.feed_core.specs.Sound.{is_begun}
use Rattle.feed_core.specs.Steps.{IsPart, IsToldBy, Looks, TurnsAs}
use Rattle.feed_core.specs.Turn.{EndsIn}
use Rattle.feed_core.proofs.Lanes.Accounts.{gives_then}
use Rattle.feed_core.proofs.Desks.Steps.{is_begun_append}
use Rattle.flow_rules.proofs.Items.{items_of_append}
use Rattle.feed_core.proofs.Lists.Signals.{IsTerminal, complete_last, error_last, items_of_nexts, nexts_open, opening_open, contains_none}

-- this many items were given since the turn began, and these callbacks came back; what is left of the turn are the
-- looks that it may still make
pub record TurnSoFar (count : ℕ) (old new : DeskState) (seen : List Signal) : Type 0 where
  pub replies : List Reply
  pub part : IsPart old new seen Again replies
  pub begun : is_begun new.lane.told ≡ true
  pub items : List Item
  pub seen_is : seen ≡ greeting old.lane.told ++ map Next items
  pub counted : length items ≡ count
  pub given : new.lane.given ≡ old.lane.given + count
  pub waited : drop old.lane.given old.lane.accepted ≡ items ++ drop new.lane.given new.lane.accepted
  pub left : (more : List Reply) → turn_of old.lane (replies ++ more) ≡ looks_within (64 - count) more new.lane

-- a greeted subscriber was told something
begun_by_greeting : (told : List Signal) → is_begun (told ++ greeting told) ≡ true
begun_by_greeting [] = refl
begun_by_greeting (_ ∷ _) = refl

-- two lists of callbacks that went on are one
plain_append : (replies more : List Reply) → ArePlain replies → ArePlain more → ArePlain (replies ++ more)
plain_append [] more first second = second
plain_append (reply ∷ replies) more first second = (first.0, plain_append replies more first.1 second)

-- the replies of one that only goes on in two parts of a turn
replies_then : (seen more : List Signal) (outlook : Outlook) (replies later : List Reply) → replies ≡ replies_in seen Again
    → later ≡ replies_in more outlook
    → replies ++ later ≡ replies_in (seen ++ more) outlook
replies_then seen more outlook replies later first second =
    (λ k. first k ++ second k)
    ∙ ap (λ (before : List Reply). before ++ replies_in more outlook) (append-nil (replies_to seen))
    ∙ sym (append_assoc (replies_to seen) (replies_to more) (refusal_in outlook))
    ∙ ap (λ (told : List Reply). told ++ refusal_in outlook) (sym (map-append (λ (_ : Signal). Ok Answer.Go) seen more))

-- two parts of a turn, one after the other
part_then : (old mid new : DeskState) (seen more : List Signal) (outlook : Outlook) (replies later : List Reply)
    → IsPart old mid seen Again replies
    → IsPart mid new more outlook later → IsPart old new (seen ++ more) outlook (replies ++ later)
part_then old mid new seen more outlook replies later first second = record {
  recorded = second.recorded ∙ ap (λ told. told ++ more) first.recorded ∙ append_assoc old.lane.told seen more;
  answered = omega (arith, length-append replies later, length-append seen more, first.answered, second.answered);
  replied = second.replied ∙ ap (λ (before : List Reply). before ++ later) first.replied ∙ append_assoc old.replied replies later;
  accepted = second.accepted ∙ first.accepted;
  grows = omega (arith, first.grows, second.grows);
  how = second.how;
  started = second.started;
  capacity = second.capacity ∙ first.capacity;
  looks = second.looks ∙ first.looks;
  requested = second.requested ∙ first.requested;
  badly = second.badly ∙ first.badly;
  cancelled = second.cancelled ∙ first.cancelled;
  steady = λ steady. second.steady (first.steady steady);
  plain = λ steady. plain_append replies later (first.plain steady) (second.plain (first.steady steady));
  goes_on = λ steady. replies_then seen more outlook replies later (first.goes_on steady) (second.goes_on (first.steady steady));
  flow = second.flow;
  accounted = second.accounted;
  below = gives_then old mid new later first.accounted first.requested second.replied first.below second.below;
}

-- the last part of a turn is not gone on with
pub over : (outlook : Outlook) (lane : LaneState) (next : LaneState → After) → (outlook ≡ Again → ⊥)
    → going_on outlook lane next ≡ record { lane = lane; outlook = outlook }
over Again lane next other = absurd (other refl)
over Resting lane next other = refl
over (Ended how) lane next other = refl

-- a turn of which this is a part is this part, if nothing is left
pub turns_as : (old new : DeskState) (seen : List Signal) (outlook : Outlook) (replies : List Reply) → IsPart old new seen outlook replies
    → turn_of old.lane replies ≡ record { lane = new.lane; outlook = outlook } → TurnsAs old new seen outlook replies
turns_as old new seen outlook replies part turned = record {
  turned = turned;
  recorded = part.recorded;
  answered = part.answered;
  replied = part.replied;
  started = part.started;
  capacity = part.capacity;
  looks = part.looks;
  requested = part.requested;
  badly = part.badly;
  cancelled = part.cancelled;
  steady = part.steady;
  plain = part.plain;
  goes_on = part.goes_on;
}

module _ {count : ℕ} {old mid new : DeskState} {seen seen' : List Signal} (so_far : TurnSoFar count old mid seen) where
  -- the turn as a whole, if one more look was its last or was followed by others
  pub part_after : {outlook : Outlook} → (looks : Looks mid new seen seen' outlook)
      → IsPart old new seen' outlook (so_far.replies ++ looks.replies)
  part_after {outlook} looks =
      subst (λ text. IsPart old new text outlook (so_far.replies ++ looks.replies)) (sym looks.seen_after) (part_then old mid new seen looks.last outlook so_far.replies looks.replies so_far.part looks.part)

  -- what was left before the look is the look, and then what is left after it
  left_after : {outlook : Outlook} → (looks : Looks mid new seen seen' outlook) → count < 64 → (more : List Reply)
      → turn_of old.lane ((so_far.replies ++ looks.replies) ++ more) ≡ going_on outlook new.lane (looks_within (64 - (count + 1)) more)
  left_after looks room more =
      let m : ℕ = 64 - (count + 1) in
      let some : 64 - count ≡ suc m = omega arith in
      ap (turn_of old.lane) (append_assoc so_far.replies looks.replies more)
      ∙ so_far.left (looks.replies ++ more)
      ∙ ap (λ most. looks_within most (looks.replies ++ more) mid.lane) some
      ∙ looks.left m more

  -- one more item
  pub so_far_more : count < 64 → Looks mid new seen seen' Again → TurnSoFar (count + 1) old new seen'
  so_far_more room looks =
      let goes = looks.again refl in
      let item = goes.item in
      let seen_after : seen' ≡ seen ++ Next item ∷ [] = looks.seen_after ∙ ap (λ last. seen ++ last) goes.told in
      record {
        replies = so_far.replies ++ looks.replies;
        part = part_after looks;
        begun = ap is_begun looks.part.recorded ∙ is_begun_append mid.lane.told looks.last so_far.begun;
        items = so_far.items ++ item ∷ [];
        seen_is = seen_after ∙ ap (λ text. text ++ Next item ∷ []) so_far.seen_is ∙ append_assoc (greeting old.lane.told) (map Next so_far.items) (Next item ∷ [])
            ∙ ap (λ text. greeting old.lane.told ++ text) (sym (map-append Next so_far.items (item ∷ [])));
        counted = length-append so_far.items (item ∷ []) ∙ ap (λ n. n + 1) so_far.counted;
        given = omega (arith, so_far.given, goes.counted);
        waited = so_far.waited ∙ ap (λ rest. so_far.items ++ rest) goes.waited ∙ sym (append_assoc so_far.items (item ∷ []) (drop new.lane.given new.lane.accepted));
        left = left_after looks room;
      }

  -- the last look
  pub turns_end : {outlook : Outlook} → (looks : Looks mid new seen seen' outlook) → (outlook ≡ Again → ⊥) → count < 64
      → (replies : List Reply) × TurnsAs old new seen' outlook replies
  turns_end {outlook} looks other room = (
    so_far.replies ++ looks.replies,
    turns_as old new seen' outlook (so_far.replies ++ looks.replies) (part_after looks)
        (ap (turn_of old.lane) (sym (append-nil (so_far.replies ++ looks.replies))) ∙ left_after looks room [] ∙ over outlook new.lane (looks_within (64 - (count + 1)) []) other),
  )

-- the greeting has no terminal signal
greeting_open : (told : List Signal) (s : Signal) → IsTerminal s → Contains (greeting told) s → ⊥
greeting_open [] s last h = opening_open true s last h
greeting_open (_ ∷ _) s last h = opening_open false s last h

-- the greeting is no item
items_of_greeting : (told : List Signal) → items_of (greeting told) ≡ []
items_of_greeting [] = refl
items_of_greeting (_ ∷ _) = refl

-- the greeting is one signal at most
length_greeting : (told : List Signal) → length (greeting told) ≤ 1
length_greeting [] = omega arith
length_greeting (_ ∷ _) = omega arith

-- an end has one terminal signal at most
length_terminal : (how : How) → length (terminal_of how) ≤ 1
length_terminal How.Completed = omega arith
length_terminal (How.Errored _) = omega arith
length_terminal How.Cancelled = omega arith
length_terminal (How.Failed _) = omega arith
length_terminal How.OutOfMemory = omega arith

-- one look tells one signal at most
length_told : (outlook : Outlook) (last : List Signal) → IsToldBy outlook last → length last ≤ 1
length_told Again last shape = let one : length last ≡ 1 = ap length shape.1 in omega arith
length_told Resting last shape = let none : length last ≡ 0 = ap length shape in omega arith
length_told (Ended how) last (inl told) = subst (λ text. length text ≤ 1) (sym told) (length_terminal how)
length_told (Ended how) last (inr told) = let one : length last ≡ 1 = ap length told.0.1 in omega arith

-- no item is onComplete or onError
item_open : (item : Item) (last : List Signal) (s : Signal) → IsTerminal s → last ≡ Next item ∷ [] → Contains last s → ⊥
item_open item last s terminal told h = nexts_open (item ∷ []) s terminal (subst (λ text. Contains text s) told h)

-- the last look tells onComplete only if it completed the subscription
complete_told : (outlook : Outlook) (last : List Signal) → IsToldBy outlook last → Contains last Complete → outlook ≡ Ended How.Completed
complete_told Again last shape h = absurd (item_open shape.0 last Complete tt shape.1 h)
complete_told Resting last shape h = absurd (contains_none Complete (subst (λ text. Contains text Complete) shape h))
complete_told (Ended how) last (inl told) h = ap Ended (complete_last how (subst (λ text. Contains text Complete) told h))
complete_told (Ended how) last (inr told) h = absurd (item_open told.0.0 last Complete tt told.0.1 h)

-- the last look tells an onError only if it ended with that error
error_told : (outlook : Outlook) (last : List Signal) (fault : Fault) → IsToldBy outlook last
    → Contains last (Error fault) → outlook ≡ Ended (How.Errored fault)
error_told Again last fault shape h = absurd (item_open shape.0 last (Error fault) tt shape.1 h)
error_told Resting last fault shape h = absurd (contains_none (Error fault) (subst (λ text. Contains text (Error fault)) shape h))
error_told (Ended how) last fault (inl told) h = ap Ended (error_last how fault (subst (λ text. Contains text (Error fault)) told h))
error_told (Ended how) last fault (inr told) h = absurd (item_open told.0.0 last (Error fault) tt told.0.1 h)

-- an end with a terminal signal tells it
terminal_told : (how : How) (last : List Signal) (s : Signal) → terminal_of how ≡ s ∷ [] → IsToldBy (Ended how) last → last ≡ s ∷ []
terminal_told how last s terminal (inl told) = told ∙ terminal
terminal_told how last s terminal (inr told) = let clash : s ∷ [] ≡ [] = sym terminal ∙ told.1 in cc

-- the last signal of a list is in it
pub last_contained : (text : List Signal) (s : Signal) → EndsIn text s → Contains text s
last_contained text s ends = subst (λ t. Contains t s) (sym ends.1) (Contains-push ends.0 s)

module _ {count : ℕ} {old mid : DeskState} {seen : List Signal} (so_far : TurnSoFar count old mid seen) where
  -- no terminal signal was told yet
  so_far-open : (s : Signal) → IsTerminal s → Contains seen s → ⊥
  so_far-open s last h = elim (Contains-append_cases (greeting old.lane.told) (map Next so_far.items) s (subst (λ text. Contains text s) so_far.seen_is h)) [
    | inl first ↦ greeting_open old.lane.told s last first
    | inr later ↦ nexts_open so_far.items s last later
  ]

  -- the items so far
  pub items_of-so_far : items_of seen ≡ so_far.items
  items_of-so_far = ap items_of so_far.seen_is ∙ items_of_append (greeting old.lane.told) (map Next so_far.items) ∙ ap (λ items. items ++ items_of (map Next so_far.items)) (items_of_greeting old.lane.told) ∙ items_of_nexts so_far.items

  -- a signal for each item, and one for the greeting
  pub length-so_far : length seen ≤ count + 1
  length-so_far =
      let greeted = length_greeting old.lane.told in
      let long : length seen ≡ length (greeting old.lane.told) + length (map Next so_far.items) = ap length so_far.seen_is ∙ length-append (greeting old.lane.told) (map Next so_far.items) in
      omega (arith, long, length-map so_far.items Next, so_far.counted)

  -- the items so far are the next accepted ones
  pub in_order_yet : IsPrefix (items_of seen) (drop old.lane.given old.lane.accepted)
  in_order_yet = (drop mid.lane.given mid.lane.accepted, ap (λ items. items ++ drop mid.lane.given mid.lane.accepted) items_of-so_far ∙ sym so_far.waited)

  -- what was told so far ends in no terminal signal
  pub no_terminal_yet : (s : Signal) → IsTerminal s → EndsIn seen s → ⊥
  no_terminal_yet s last ends = so_far-open s last (last_contained seen s ends)

  -- after 64 items nothing is left of the turn
  pub turns_full : count ≡ 64 → (replies : List Reply) × TurnsAs old mid seen Again replies
  turns_full all =
      let none : 64 - count ≡ 0 = omega arith in (
        so_far.replies,
        turns_as old mid seen Again so_far.replies so_far.part
            (ap (turn_of old.lane) (sym (append-nil so_far.replies)) ∙ so_far.left [] ∙ ap (λ most. looks_within most [] mid.lane) none),
      )

  module _ {new : DeskState} {seen' : List Signal} {outlook : Outlook} (looks : Looks mid new seen seen' outlook) where
    -- the items of the turn are the next accepted ones
    pub in_order : IsPrefix (items_of seen') (drop old.lane.given old.lane.accepted)
    in_order =
        let items : items_of seen' ≡ so_far.items ++ items_of looks.last = ap items_of looks.seen_after ∙ items_of_append seen looks.last ∙ ap (λ items. items ++ items_of looks.last) items_of-so_far in
        let rest = looks.ahead.0 in
        (rest, ap (λ items. items ++ rest) items ∙ append_assoc so_far.items (items_of looks.last) rest ∙ ap (λ more. so_far.items ++ more) looks.ahead.1 ∙ sym so_far.waited)

    -- the signals of the turn fit the list of a turn's signals
    pub few_signals : count < 64 → length seen' ≤ 66
    few_signals room =
        let one = length_told outlook looks.last looks.shape in
        let long : length seen' ≡ length seen + length looks.last = ap length looks.seen_after ∙ length-append seen looks.last in
        let before = length-so_far in
        omega arith

    -- the turn ends in onComplete exactly if it completed the subscription
    pub completes : EndsIn seen' Complete ↔ (outlook ≡ Ended How.Completed)
    completes = (
      λ ends. elim (Contains-append_cases seen looks.last Complete (subst (λ text. Contains text Complete) looks.seen_after (last_contained seen' Complete ends))) [
        | inl first ↦ absurd (so_far-open Complete tt first)
        | inr later ↦ complete_told outlook looks.last looks.shape later
      ],
      λ e. (seen, looks.seen_after ∙ ap (λ last. seen ++ last) (terminal_told How.Completed looks.last Complete refl (subst (λ o. IsToldBy o looks.last) e looks.shape))),
    )

    -- the turn ends in onError exactly if it ended with that error
    pub errs : (fault : Fault) → EndsIn seen' (Error fault) ↔ (outlook ≡ Ended (How.Errored fault))
    errs fault = (
      λ ends. elim (Contains-append_cases seen looks.last (Error fault) (subst (λ text. Contains text (Error fault)) looks.seen_after (last_contained seen' (Error fault) ends))) [
        | inl first ↦ absurd (so_far-open (Error fault) tt first)
        | inr later ↦ error_told outlook looks.last fault looks.shape later
      ],
      λ e. (seen, looks.seen_after ∙ ap (λ last. seen ++ last) (terminal_told (How.Errored fault) looks.last (Error fault) refl (subst (λ o. IsToldBy o looks.last) e looks.shape))),
    )
