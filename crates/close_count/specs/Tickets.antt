-- The tickets of a count (Java SE 17, CountedCompleter: the pending count is the number of unspent tickets less one).
use Rattle.std.specs.Prelude.{◌≡◌, ℕ, ◌+◌, ◌-◌, ◌≤◌, ◌==◌, Bool, if◌then◌else◌, min, length, slice_index, sum_by}
use Rattle.atomic_table.specs.Table.{State, Me, Step}
use Rattle.close_count.specs.declared.rule.TheConstants.{MOST_TICKETS}
use Rattle.close_count.specs.declared.rule.View.{View}

-- 1 for true, 0 for false
abbrev pub one_if : Bool → ℕ
one_if b = if b then 1 else 0

-- the parts of what a seat knows, as functions: the tickets that it made
abbrev pub made_count : View → ℕ
made_count v = v.made

-- how many more it may make
abbrev pub room_count : View → ℕ
room_count v = v.room

-- the tickets that it holds
abbrev pub held_count : View → ℕ
held_count v = v.held

-- the tickets that it spent while others were left
abbrev pub earlier_count : View → ℕ
earlier_count v = v.earlier

-- 1 if its own step spent the last ticket
abbrev pub last_count : View → ℕ
last_count v = v.last

-- a count's word and what each seat at it knows
abbrev pub Moment : Type 0
Moment = State (Unit {0}) View

-- the count word
abbrev pub count_word : Moment → ℕ
count_word s = slice_index s.words 0

-- how many tickets there are in all, the opening among them
abbrev pub total_made : Moment → ℕ
total_made s = sum_by made_count s.views

-- how many of them are spent
abbrev pub total_spent : Moment → ℕ
total_spent s = sum_by earlier_count s.views + sum_by last_count s.views

-- the rule of a count, between any two steps
pub record KeepsCount (s : Moment) : Type 0 where
  pub one_word : length s.words ≡ 1
  -- the word is the number of tickets made and not spent
  pub unspent : count_word s + total_spent s ≡ total_made s
  -- each of those is one that a seat holds, or that was dropped with its seat
  pub held : sum_by held_count s.views ≡ count_word s
  -- one step found the last ticket exactly if none is left, and no other step did
  pub once : sum_by last_count s.views + min 1 (count_word s) ≡ 1
  -- an Opening makes at most MOST_TICKETS beside itself, so no step wraps
  pub bounded : total_made s + sum_by room_count s.views ≡ MOST_TICKETS + 1

-- one step took the count word from n to n - 1, and with it one more ticket is spent
pub record Completes (n : ℕ) (before after : Moment) : Type 0 where
  pub rule_before : KeepsCount before
  pub rule_after : KeepsCount after
  pub word_before : count_word before ≡ n
  pub word_after : count_word after + 1 ≡ n
  pub made : total_made after ≡ total_made before
  pub spent : total_spent after ≡ total_spent before + 1

-- such a step at some moment
abbrev pub CompletesAt : ℕ → Type 0
CompletesAt n = (before : Moment) × (after : Moment) × Completes n before after

-- what the seat of an Opening knows that made this many tickets
abbrev pub opening_view : ℕ → View
opening_view made = record { made = made + 1; room = MOST_TICKETS - made; held = 1; earlier = 0; last = 0 }

-- what the seat of a ticket knows
abbrev pub ticket_view : View
ticket_view = record { made = 0; room = 0; held = 1; earlier = 0; last = 0 }

-- what a seat knows that made, holds and spent nothing
abbrev pub empty_view : View
empty_view = record { made = 0; room = 0; held = 0; earlier = 0; last = 0 }

-- after a step that added a ticket
abbrev pub view_after_add : View → View
view_after_add v = record { made = v.made + 1; room = v.room - 1; held = v.held + 1; earlier = v.earlier; last = v.last }

-- after a ticket got a seat of its own
abbrev pub view_after_hand_out : View → View
view_after_hand_out v = record { made = v.made; room = v.room; held = v.held - 1; earlier = v.earlier; last = v.last }

-- after a step that found the count at n and spent a ticket
abbrev pub view_after_complete : View → ℕ → View
view_after_complete v n = record { made = v.made; room = v.room; held = v.held - 1; earlier = v.earlier + (1 - one_if (n == 1)); last = v.last + one_if (n == 1) }

-- what two seats know together
abbrev pub view_together : View → View → View
view_together v w = record { made = v.made + w.made; room = v.room + w.room; held = v.held + w.held; earlier = v.earlier + w.earlier; last = v.last + w.last }

-- a seat with all the room of its count, as an Opening's: no other seat makes tickets
abbrev pub HasAllRoom : View → Type 0
HasAllRoom v = v.made + v.room ≡ MOST_TICKETS + 1

-- what the rule says of what a seat knows, and of what several seats know together
pub record IsOfCount (v : View) : Type 0 where
  -- the last ticket is spent once, and beside it none is held
  pub last_once : v.last + min 1 v.held ≤ 1
  -- no seats together have more room than a count has
  pub bounded : v.made + v.room ≤ MOST_TICKETS + 1
  -- whoever made all tickets and spent them all spent the last
  pub all_spent : HasAllRoom v → v.earlier + v.last ≡ v.made → v.last ≡ 1

-- a seat's view, and the slots that it holds, of which a count has none
abbrev SeatView : Type 0
SeatView = Me (Unit {0}) View

-- a ticket was added
abbrev pub IsStepOfAdd : Step (Unit {0}) → SeatView → ℕ → SeatView → Type 0
IsStepOfAdd step before found after = after ≡ (view_after_add before.0, before.1)

-- a ticket was spent, if the count was `found`
abbrev pub IsStepOfComplete : Step (Unit {0}) → SeatView → ℕ → SeatView → Type 0
IsStepOfComplete step before found after = (after ≡ (view_after_complete before.0 found, before.1)) × CompletesAt found

-- a seat saw that what it knows agrees with the rule
abbrev pub IsStepOfLook : Step (Unit {0}) → SeatView → ℕ → SeatView → Type 0
IsStepOfLook step before found after = IsOfCount before.0 × (after ≡ before)
