-- What the task knows stays so while its turn goes on, and by that it takes an item.
use Rattle.std.proofs.Common.{◌≡◌, Option, Some, None, ℕ, ◌<◌, ◌≤◌, List, [], ◌∷◌, ◌++◌, length, refl, sym, ap, ◌∙◌, subst, inr}
use Rattle.atomic_table.specs.Table.{rest}
use Rattle.feed_core.specs.AnsweredTurn.{Reply}
use Rattle.feed_core.specs.Prelude.{How, Item, Signal, UNBOUNDED, total_after}
use Rattle.feed_core.specs.Seen.{SeenState}
use Rattle.feed_cell.specs.Types.{Runner, Taken}
use Rattle.feed_cell.specs.Seats.{SeatOf}
use Rattle.feed_cell.specs.TaskPlays.{Grabs, MayTakeNow, MayTakeSoon, grants_by}
use Rattle.feed_cell.specs.TaskSteps.{HasItem, IsInOrder, IsKnown, TakesNext}
use Rattle.feed_cell.specs.TaskLooks.{EndsOrRests, FinishesAs, GivesAs, OnGoing}
use Rattle.feed_cell.specs.declared.cell.View.{View}
use Rattle.feed_cell.specs.declared.cell.task.known.Known.{Known}
use Rattle.feed_cell.specs.declared.cell.task.looks.Served.{Served}

-- a seat that knows as much
pub known_kept : (known : Known) (v w : View) → w.known_put ≡ v.known_put → w.requested ≡ v.requested → IsKnown known v → IsKnown known w
known_kept known v w put asked k = (subst (λ (n : ℕ). known.put ≤ n) (sym put) k.0, subst (λ (n : ℕ). known.asked ≤ n) (sym asked) k.1)

module _ {B : Type 0} where
  -- the item that is out, after a load of head
  pub grabbed : (before there : SeatOf B) (found : ℕ) → Grabs before found there → HasItem there
  grabbed before there found g = subst (λ (t : SeatOf B). HasItem t) (sym g.took) (record { item = g.item; one_out = refl; slot = refl })

  -- it may still be taken
  pub may_take_soon : (before there : SeatOf B) (found : ℕ) → MayTakeSoon before.0 → Grabs before found there → MayTakeNow there.0
  may_take_soon before there found may g = subst (λ (t : SeatOf B). MayTakeNow t.0) (sym g.took) (inr may)

  -- and was taken
  pub takes_known : (before there after : SeatOf B) (x : Item) (found : ℕ) → MayTakeSoon before.0 → length before.0.taken < UNBOUNDED
      → Grabs before found there
      → after ≡ (record there.0 { taken = there.0.taken ++ x ∷ []; item = []; grants = there.0.grants ++ grants_by there.0.requested there.0.own there.0.runner; runner = Taken }, rest there.1)
      → TakesNext x before after
  takes_known before there after x found may few g took = record {
    granted = record { causes = may.0.0; asked = total_after before.0.requested before.0.own; requested = before.0.requested; counts = refl; ordered = λ stood. subst (IsInOrder before.0.order) may.0.1 stood; runs_on = may.0.2; wanted = may.2 };
    few = few;
    known_put = before.0.known_put;
    took = took
        ∙ ap (λ (t : SeatOf B). (record t.0 { taken = t.0.taken ++ x ∷ []; item = []; grants = t.0.grants ++ grants_by t.0.requested t.0.own t.0.runner; runner = Taken }, rest t.1)) g.took
        ∙ ap (λ (r : Runner). (record before.0 { taken = before.0.taken ++ x ∷ []; item = []; grants = before.0.grants ++ grants_by before.0.requested before.0.own r; runner = Taken; requested = before.0.requested; known_put = before.0.known_put }, before.1)) may.0.1;
  }

module _ {B : Type 0} (told : B → List Signal) (replied : B → List Reply) where
  -- an end is the last that a turn does
  pub known_at_end : (due : How) (result : Served) (before after : SeatOf B) (seen later : SeenState) (P : Type 0)
      → FinishesAs told replied due result before after seen later → OnGoing (Some result) P
  known_at_end due Served.Gave before after seen later P f = absurd f
  known_at_end due Served.Rested before after seen later P f = tt
  known_at_end due Served.Missed before after seen later P f = tt
  known_at_end due (Served.Ended how) before after seen later P f = tt

  -- after an item was given
  pub known_after_item : (item : Item) (result : Served) (before after : SeatOf B) (seen later : SeenState) (known : Known)
      → IsKnown known before.0 → GivesAs told replied item result before after seen later → OnGoing (Some result) (IsKnown known after.0)
  known_after_item item Served.Gave before after seen later known k g = subst (IsKnown known) (sym g.tells.view) k
  known_after_item item Served.Rested before after seen later known k g = tt
  known_after_item item Served.Missed before after seen later known k g = tt
  known_after_item item (Served.Ended how) before after seen later known k g = tt

  -- if there was none to give
  pub known_without_item : (word : ℕ) (result : Option Served) (before after : SeatOf B) (seen later : SeenState) (known : Known)
      → IsKnown known before.0 → EndsOrRests told replied word result before after seen later → OnGoing result (IsKnown known after.0)
  known_without_item word None before after seen later known k e = subst (λ (m : SeatOf B). IsKnown known m.0) (sym e.0.1) k
  known_without_item word (Some Served.Gave) before after seen later known k e = absurd e
  known_without_item word (Some Served.Rested) before after seen later known k e = tt
  known_without_item word (Some Served.Missed) before after seen later known k e = tt
  known_without_item word (Some (Served.Ended how)) before after seen later known k e = tt
