-- What callers see of a Spent, and what a seat knows that takes in the seats of others.
use Rattle.std.specs.Prelude.{◌≡◌, ◌≤◌, ◌+◌, ℕ, Bool, List, length, count_by}
use Rattle.close_count.specs.Count.{CountId}
use Rattle.close_count.specs.declared.rule.View.{View}
use Rattle.close_count.specs.declared.spent.Spent.{Spent}

-- the count that a spent ticket was of
abbrev pub count_of_spent : Spent → CountId
count_of_spent s = s.seat.table_id

-- its own step took the count from 1 to 0
abbrev pub was_last : Spent → Bool
was_last s = s.last

-- of an Opening that was spent, how many tickets there are of its count, itself among them; of any other ticket 0
abbrev pub total_of_spent : Spent → ℕ
total_of_spent s = s.seat.me.0.made

-- what a seat knows that took in the seats of these tickets, too
pub record TakesIn (old : View) (tickets : List Spent) (new : View) : Type 0 where
  pub made : old.made ≤ new.made
  pub room : old.room ≤ new.room
  pub spent : new.earlier + new.last ≡ (old.earlier + old.last) + length tickets
  pub last : new.last ≡ old.last + count_by was_last tickets
