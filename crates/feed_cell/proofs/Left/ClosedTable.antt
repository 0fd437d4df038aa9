-- What the words and slots of a closed table show is what is left of the subscription.
use Rattle.std.proofs.Common.{◌≡◌, ℕ, ◌+◌, ◌-◌, ◌%◌, ◌<◌, ◌≤◌, ◌==◌, ◌⊎◌, Bool, true, false, List, length, Option, IfSome, sym, refl, ap, ◌∙◌, subst, inl, inr, ⊎_elim, arith}
use mathlib.Core.Option as slot
use mathlib.Core.Option.{some}
use lib.ListN.{get_elem?}
use Rattle.std.specs.Int.{bit_at}
use Rattle.atomic_table.specs.Table.{State, Final, Seen}
use Rattle.feed_core.specs.Prelude.{Signal}
use Rattle.feed_core.specs.AnsweredTurn.{Reply}
use Rattle.feed_core.specs.declared.lane.Lane.{Lane}
use Rattle.feed_core.specs.World.Table.{is_started, is_over, total_of, MayBegin}
use Rattle.feed_core.proofs.Interleavings.Signalling.{starts_nobody}
use Rattle.feed_cell.proofs.Table.Outlooks.{reached_kept}
use Rattle.feed_cell.specs.Cell.{CellRule, words_by}
use Rattle.feed_cell.specs.Control.{MARK, CANCELLED, number, marked}
use Rattle.feed_cell.specs.Left.{OnGuest, lane_with, lane_without, IsLeftOf}
use Rattle.flow_rules.specs.Feed.{End}
use Rattle.feed_cell.specs.TaskAnswers.{IsNoted}
use Rattle.feed_cell.specs.Parties.{HandleState, KnowsHandle, known_end}
use Rattle.feed_cell.specs.declared.cell.Held.{Held}
use Rattle.feed_cell.specs.declared.cell.Lodger.{Lodger}
use Rattle.feed_cell.specs.declared.cell.View.{View}
use Rattle.feed_cell.proofs.Left.Lane.{IsSafe, lodges_safe, left_there, left_away}
use Rattle.feed_cell.proofs.Words.Marks.{unmark, marked_by, unmarked_by, large_by}
use Rattle.feed_cell.specs.WordPlaces.{place}
use Rattle.feed_cell.specs.declared.cell.words.Word.{Word}
use Rattle.feed_cell.proofs.Words.FourWords.{head_in, tail_in, asked_in, control_in}

-- a fact of who is in a slot, if that is known
of_guest : {B : Type 0} (P : Lodger B → Type 0) (held : Held B) (g : Lodger B) → held ≡ Held.Guest g → OnGuest held P → P g
of_guest P held g is on = subst (λ h. OnGuest h P) is on

module _ {B : Type 0} (told : B → List Signal) (answered : B → List Reply) (cap id : ℕ) (v : View) (words : List ℕ) (slots : List (Held B)) (last : Final (Seen (CellRule told cap) id v) words slots) (puts : v.puts ≡ true) (begins : MayBegin v.producing)
    (head tail asked control : ℕ) (held : Held B) (left : Lane B)
    (heads : get_elem? words (place v.capacity Word.Head) ≡ some head) (tails : get_elem? words (place v.capacity Word.Tail) ≡ some tail) (asks : get_elem? words (place v.capacity Word.Asked) ≡ some asked) (controls : get_elem? words (place v.capacity Word.Control) ≡ some control)
    (holds : get_elem? slots (length slots - 1) ≡ some held)
    (there : (MARK ≤ head) ⊎ (bit_at control 0 ≡ 0) → OnGuest held (λ guest. (running : Bool) × (running ≡ false → (MARK ≤ head) ⊎ (MARK ≤ asked)) × (running ≡ true → (head < MARK) × (asked < MARK)) × (left ≡ lane_with guest (head % MARK) tail (asked % MARK) (bit_at control CANCELLED == 1) running)))
    (notes : (MARK ≤ head) ⊎ (bit_at control 0 ≡ 0) → OnGuest held (IsNoted answered))
    (away : head < MARK → bit_at control 0 ≡ 1 → left ≡ lane_without (head % MARK) tail (asked % MARK) (bit_at control CANCELLED == 1)) (end : End) (end_is : end ≡ known_end v end.ready)
    (handle : Option HandleState) (knows : IfSome handle (λ h. KnowsHandle h v)) where
  abbrev s : State (Held B) View
  s = last.0

  abbrev c : CellRule told cap s
  c = last.1.0

  words_are : words ≡ words_by cap (marked (is_over c.cell.world.runner) c.cell.world.given) c.cell.world.accepted (marked c.cell.left c.cell.world.asked) c.cell.control
  words_are = sym last.2 ∙ c.words

  there_by : (word : Word) → get_elem? words (place v.capacity word) ≡ get_elem? words (place cap word)
  there_by word = ap (λ (m : ℕ). get_elem? words (place m word)) (c.producers id v last.1.1 puts).1.sized

  head_is : head ≡ marked (is_over c.cell.world.runner) c.cell.world.given
  head_is = slot.some-injective head (marked (is_over c.cell.world.runner) c.cell.world.given) (sym heads ∙ there_by Word.Head ∙ head_in _ _ _ _ _ _ words_are)

  tail_is : tail ≡ c.cell.world.accepted
  tail_is = slot.some-injective tail c.cell.world.accepted (sym tails ∙ there_by Word.Tail ∙ tail_in _ _ _ _ _ _ words_are)

  asked_is : asked ≡ marked c.cell.left c.cell.world.asked
  asked_is = slot.some-injective asked (marked c.cell.left c.cell.world.asked) (sym asks ∙ there_by Word.Asked ∙ asked_in _ _ _ _ _ _ words_are)

  control_is : control ≡ c.cell.control
  control_is = slot.some-injective control c.cell.control (sym controls ∙ there_by Word.Control ∙ control_in _ _ _ _ _ _ words_are)

  -- the mark of a cancel in the word control
  abbrev cancel_word : Bool
  cancel_word = bit_at control CANCELLED == 1

  cancel_is : cancel_word ≡ c.cell.flags.cancel
  cancel_is = ap (λ m. bit_at m CANCELLED == 1) control_is ∙ ap (λ (m : ℕ). m == 1) c.reads.cancel ∙ is_one c.cell.flags.cancel where
    is_one : (b : Bool) → (number b == 1) ≡ b
    is_one true = refl
    is_one false = refl

  given_small : c.cell.world.given < MARK
  given_small = let kept = reached_kept c.reached in let asked : c.cell.world.given ≤ total_of c.cell.world = kept.requested in omega arith

  asked_small : c.cell.world.asked < MARK
  asked_small = let kept = reached_kept c.reached in let bounded = kept.asked_bounded in omega arith

  bit : bit_at control 0 ≡ number (is_started c.cell.world.runner)
  bit = ap (λ m. bit_at m 0) control_is ∙ c.reads.run ∙ ap number c.shows.started

  -- the word asked has its mark after the handle has left
  stays_below : asked < MARK → c.cell.left ≡ true → ⊥
  stays_below below left = let large : MARK ≤ asked = large_by c.cell.left c.cell.world.asked asked asked_is left in omega arith

  -- the word head has its mark after the subscription has ended
  goes_below : head < MARK → is_over c.cell.world.runner ≡ true → ⊥
  goes_below below over = let large : MARK ≤ head = large_by (is_over c.cell.world.runner) c.cell.world.given head head_is over in omega arith

  -- if the subscriber is at home
  safe_left : (safe : IsSafe told cap s c) → (MARK ≤ head) ⊎ (bit_at control 0 ≡ 0) → IsLeftOf told answered end handle left
  safe_left safe shown =
      let g = lodges_safe told cap s c safe in
      let wide : length s.homes ≡ cap + 1 = c.lies.wide in
      let same : length s.homes ≡ length slots = last.3 in
      let place : length slots - 1 ≡ cap = omega arith in
      let here : held ≡ Held.Guest g.guest = slot.some-injective held (Held.Guest g.guest) (sym holds ∙ ap (λ k. get_elem? slots k) place ∙ last.4 cap (Held.Guest g.guest) g.at) in
      let found = of_guest (λ guest. (running : Bool) × (running ≡ false → (MARK ≤ head) ⊎ (MARK ≤ asked)) × (running ≡ true → (head < MARK) × (asked < MARK)) × (left ≡ lane_with guest (head % MARK) tail (asked % MARK) (bit_at control CANCELLED == 1) running)) held g.guest here (there shown) in
      let head_there : head % MARK ≡ c.cell.world.given = ap (λ m. m % MARK) head_is ∙ unmark (is_over c.cell.world.runner) c.cell.world.given given_small in
      let asked_there : asked % MARK ≡ c.cell.world.asked = ap (λ m. m % MARK) asked_is ∙ unmark c.cell.left c.cell.world.asked asked_small in
      let left_is : left ≡ lane_with g.guest c.cell.world.given c.cell.world.accepted c.cell.world.asked c.cell.flags.cancel found.0 =
      found.3 ∙ ap (λ m. lane_with g.guest m tail (asked % MARK) cancel_word found.0) head_there ∙ ap (λ m. lane_with g.guest c.cell.world.given m (asked % MARK) cancel_word found.0) tail_is ∙ ap (λ m. lane_with g.guest c.cell.world.given c.cell.world.accepted m cancel_word found.0) asked_there
      ∙ ap (λ b. lane_with g.guest c.cell.world.given c.cell.world.accepted c.cell.world.asked b found.0) cancel_is in
      subst (λ l. IsLeftOf told answered end handle l) (sym left_is)
      (left_there told cap s c answered id v last.1.1 puts begins end end_is handle knows safe found.0 (λ rests. ⊎_elim
      (λ large. inl (marked_by (is_over c.cell.world.runner) c.cell.world.given head given_small head_is large))
      (λ large. inr (marked_by c.cell.left c.cell.world.asked asked asked_small asked_is large))
      (found.1 rests))
      (λ runs left. stays_below (found.2 runs).1 left) (λ runs over. goes_below (found.2 runs).0 over)
      (of_guest (IsNoted answered) held g.guest here (notes shown)))

  -- if a task was lost with it
  lost_left : is_over c.cell.world.runner ≡ false → is_started c.cell.world.runner ≡ true → IsLeftOf told answered end handle left
  lost_left goes started =
      let head_there : head % MARK ≡ c.cell.world.given = ap (λ m. m % MARK) head_is ∙ unmark (is_over c.cell.world.runner) c.cell.world.given given_small in
      let asked_there : asked % MARK ≡ c.cell.world.asked = ap (λ m. m % MARK) asked_is ∙ unmark c.cell.left c.cell.world.asked asked_small in
      let left_is : left ≡ lane_without c.cell.world.given c.cell.world.accepted c.cell.world.asked c.cell.flags.cancel =
      away (unmarked_by (is_over c.cell.world.runner) c.cell.world.given head given_small head_is goes) (bit ∙ ap number started)
      ∙ ap (λ m. lane_without m tail (asked % MARK) cancel_word) head_there ∙ ap (λ m. lane_without c.cell.world.given m (asked % MARK) cancel_word) tail_is ∙ ap (λ m. lane_without c.cell.world.given c.cell.world.accepted m cancel_word) asked_there
      ∙ ap (λ b. lane_without c.cell.world.given c.cell.world.accepted c.cell.world.asked b) cancel_is in
      subst (λ l. IsLeftOf told answered end handle l) (sym left_is) (left_away told cap s c answered id v last.1.1 puts begins end end_is handle knows goes)

  by : (over started : Bool) → is_over c.cell.world.runner ≡ over → is_started c.cell.world.runner ≡ started
      → IsLeftOf told answered end handle left
  by true started over e = safe_left (inl over) (inl (large_by (is_over c.cell.world.runner) c.cell.world.given head head_is over))
  by false false goes e = safe_left (inr (starts_nobody c.cell.world.runner e)) (inr (bit ∙ ap number e))
  by false true goes e = lost_left goes e

  pub left_of : IsLeftOf told answered end handle left
  left_of = by (is_over c.cell.world.runner) (is_started c.cell.world.runner) refl refl
