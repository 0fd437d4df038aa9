-- How a started task gets its seat.
use Rattle.std.proofs.Common.{◌≡◌, ◌≢◌, ℕ, true, false, List, [], ◌∷◌, ◌++◌, length, set, bit_and, Option, Some, None, IfSome, IfNone, sym, refl, ap, ◌∙◌, subst, inl, inr, arith}
use Rattle.std.specs.Int.{bit_at}
use Rattle.std.proofs.lemmas.Nat.Bits.{bit_at_lowest}
use lib.Bits.{and_mask}
use Rattle.atomic_table.specs.Table as Table
use Rattle.atomic_table.specs.Table.{Splits}
use Rattle.feed_core.specs.Prelude.{Signal}
use Rattle.feed_core.specs.World.Table.{is_started, is_over}
use Rattle.feed_cell.specs.Types.{Hand, Producer, Handle, Producing, Free, Hands, Requesting, Idle, HandsOver, Runner, Coming, Ready}
use Rattle.feed_cell.proofs.Table.Outlooks.{reached_hand, reached_with, reached_lawful}
use Rattle.feed_cell.proofs.Table.Seats.{mine, other, added, comes}
use Rattle.feed_cell.specs.Cell.{Only, CellRule, AsProducer, AsHandle, has_seat, may_hold, LodgesAt, words_by}
use Rattle.feed_cell.specs.Control.{marked}
use Rattle.feed_cell.specs.Outlooks.{IsReachedBy}
use Rattle.feed_cell.specs.Signals.{MustHandOver}
use Rattle.feed_cell.specs.Views.{IsProducer, IsHandle, has_put, has_ask, has_run, handed, running_handed}
use Rattle.feed_cell.specs.declared.cell.Held.{Held}
use Rattle.feed_cell.specs.declared.cell.View.{View}

module _ {B : Type 0} (told : B → List Signal) (cap : ℕ) where
  -- the rule after a task was handed over, whichever side does it
  hand_kept : (s : Table.State (Held B) View) (c : CellRule told cap s) (id : ℕ) (v left : View) (producer : Producing) (handle : Requesting) → c.cell.world.runner ≡ Coming → v.capacity ≡ cap → v.order ≡ c.cell.answers.order → has_run left ≡ false
      → IsReachedBy (set s.views id left ++ running_handed v ∷ []) (record c.cell.world { producer = producer; handle = handle; runner = Ready }) → (c.cell.left ≡ true → handle ≡ Idle)
      → Only has_put c.cell.producer (AsProducer cap c.cell.answers.order c.cell.log c.cell.world.given c.cell.beyond false c.cell.flags.closing c.cell.flags.state producer) (set s.views id left)
      → Only has_ask c.cell.handle (AsHandle cap c.cell.answers.order c.cell.world.asked c.cell.flags.cancel c.cell.flags.argument c.cell.left handle) (set s.views id left)
      → CellRule told cap (record { words = s.words; homes = s.homes; views = set s.views id left ++ running_handed v ∷ [] })
  hand_kept s c id v left producer handle coming sized ordered runs reached settled producers handles =
      let p = c.cell.world in
      let inside : c.cell.away ≡ false = c.shows.home (ap has_seat coming) in
      let none_out : c.cell.item ≡ [] = c.shows.none_out (ap may_hold coming) in
      record {
        cell = record c.cell { world = record p { producer = producer; handle = handle; runner = Ready }; runner = length s.views };
        reached = reached;
        lists = c.lists;
        shows = record { sized = c.shows.sized; accepted = c.shows.accepted; given = c.shows.given; none_out = λ _. none_out; started = c.shows.started ∙ ap is_started coming; new = c.shows.new; causes = c.shows.causes; home = λ _. inside; settled = settled };
        reads = c.reads;
        words = c.words ∙ ap (λ (r : Runner). words_by cap (marked (is_over r) p.given) p.accepted (marked c.cell.left p.asked) c.cell.control) coming;
        lies = c.lies;
        lodges = λ e. (let g : LodgesAt told cap Coming c.cell.taken p.own c.cell.answers s.homes = subst (λ (r : Runner). LodgesAt told cap r c.cell.taken p.own c.cell.answers s.homes) coming (c.lodges e) in record { guest = g.guest; at = g.at; given_is = g.given_is; own_is = g.own_is; answers_are = g.answers_are; how_is = g.how_is; told_is = g.told_is });
        producers = added has_put c.cell.producer _ (set s.views id left) (running_handed v) producers refl;
        handles = added has_ask c.cell.handle _ (set s.views id left) (running_handed v) handles refl;
        runners = comes has_run _ s.views id left (running_handed v) (λ j d at has. (let seat = (c.runners j d at has).1.seated in let not : false ≡ true = sym (ap has_seat coming) ∙ seat in cc)) runs
            (record { sized = sized; ordered = ordered; seated = refl; stands = refl; out = sym inside; knows = λ e. (let not : false ≡ true = sym inside ∙ e in cc); fresh = λ e. cc; item_is = sym none_out; latest = λ e. cc; saw_put = omega arith; saw_asked = omega arith });
      }

  -- by the producer
  producer_hands : (id : ℕ) (v : View) → IsProducer v → v.producing ≡ Hands → Splits (CellRule told cap) id v (handed v) (running_handed v)
  producer_hands id v is stage s c at =
      let k = (c.producers id v at is.0).1 in
      let p = c.cell.world in
      let hands : p.producer ≡ Hands = sym k.stands ∙ stage in
      let coming : p.runner ≡ Coming = (reached_lawful c.reached).coming.1 (inl hands) in
      hand_kept s c id v (handed v) Free p.handle coming k.sized k.ordered is.2
      (reached_with (running_handed v) (reached_hand (Hand Producer) id v (handed v) c.reached hands at (inl is.0) refl refl refl coming refl) refl refl refl) c.shows.settled
      (mine has_put c.cell.producer _ _ s.views id v (handed v) c.producers at is.0 (record { sized = k.sized; ordered = k.ordered; put = k.put; seen = k.seen; laid = k.laid; places = k.places; over = λ e. (let never : true ≡ false = sym (k.over e) ∙ ap is_over coming in cc); closed = k.closed; doubled = k.doubled; stands = refl }))
      (other has_ask c.cell.handle _ _ s.views id (handed v) c.handles is.1 (λ d h. h))

  -- by the handle
  handle_hands : (id : ℕ) (v : View) → IsHandle v → v.requesting ≡ HandsOver → Splits (CellRule told cap) id v (handed v) (running_handed v)
  handle_hands id v is stage s c at =
      let k = (c.handles id v at is.1).1 in
      let p = c.cell.world in
      let hands : p.handle ≡ HandsOver = sym k.stands ∙ stage in
      let coming : p.runner ≡ Coming = (reached_lawful c.reached).coming.1 (inr hands) in
      hand_kept s c id v (handed v) p.producer Idle coming k.sized k.ordered is.2
      (reached_with (running_handed v) (reached_hand (Hand Handle) id v (handed v) c.reached hands at (inr (inl is.1)) refl refl refl coming refl) refl refl refl) (λ _. refl)
      (other has_put c.cell.producer _ _ s.views id (handed v) c.producers is.0 (λ d o. subst (λ (r : Runner). AsProducer cap c.cell.answers.order c.cell.log p.given c.cell.beyond (is_over r) c.cell.flags.closing c.cell.flags.state p.producer d) coming o))
      (mine has_ask c.cell.handle _ _ s.views id v (handed v) c.handles at is.1 (record { sized = k.sized; ordered = k.ordered; total = k.total; cancels = k.cancels; bad = k.bad; leaves = k.leaves; stands = refl }))

  -- by either
  pub hands_over : (id : ℕ) (v : View) → MustHandOver v → Splits (CellRule told cap) id v (handed v) (running_handed v)
  hands_over id v (inl hands) = producer_hands id v hands.0 hands.1
  hands_over id v (inr hands) = handle_hands id v hands.0 hands.1

-- what is left of the mark of the task, by the word that was found
pub low_bit : (word : ℕ) → bit_and word 1 ≡ bit_at word 0
low_bit word = and_mask word 1 ∙ sym (bit_at_lowest word)

pub low_set : (word : ℕ) → bit_and word 1 ≢ 0 → bit_at word 0 ≡ 1
low_set word some = let lowest = bit_at_lowest word in let is_one : bit_at word 0 ≢ 0 = λ none. some (low_bit word ∙ none) in omega arith

-- a fact of what is there, if anything is, and one if nothing is
pub on_some : {A : Type 0} {P Q : A → Type 0} (r : Option A) → ((x : A) → P x → Q x) → IfSome r P → IfSome r Q
on_some None f p = p
on_some (Some x) f p = f x p

pub some_of : {A : Type 0} (P : A → Type 0) (r : Option A) (x : A) → r ≡ Some x → IfSome r P → P x
some_of P r x is p = subst (λ o. IfSome o P) is p

pub none_of : {A P : Type 0} (r : Option A) → r ≡ None → IfNone r P → P
none_of {A} {P} r is p = subst (λ o. IfNone o P) is p

-- what holds anyway holds if nothing is there
pub if_none : {A P : Type 0} (r : Option A) → P → IfNone r P
if_none None p = p
if_none (Some x) p = tt
