-- What a task that has its subscriber with it keeps in every step.
use Rattle.std.proofs.Common.{◌≡◌, ℕ, ◌+◌, true, false, List, [], length, set, sym, ap, ◌∙◌, subst, ◌++◌}
use mathlib.Core.Option as slot
use mathlib.Core.Option.{some}
use lib.ListN.{get_elem?}
use Rattle.atomic_table.specs.Table.{State}
use Rattle.feed_core.specs.Prelude.{Item, Signal}
use Rattle.feed_core.specs.World.Table.{is_over}
use Rattle.feed_cell.specs.Types.{Causes, Runner}
use Rattle.feed_cell.proofs.Table.Seats.{mine, other}
use Rattle.feed_cell.proofs.Tasks.Stages.{seated}
use Rattle.feed_cell.specs.Cell.{Lists, Lies, CellRule, AsProducer, AsRunner, KnowsAway, has_seat, may_hold, words_by}
use Rattle.feed_cell.specs.Control.{marked}
use Rattle.feed_cell.specs.Outlooks.{IsReachedBy}
use Rattle.feed_cell.specs.Views.{IsRunner, has_put, has_ask, has_run}
use Rattle.feed_cell.specs.declared.cell.Held.{Held}
use Rattle.feed_cell.specs.declared.cell.View.{View}

-- the same, of a view with the same parts
pub knows_too : (taken : List Item) (own : ℕ) (answers : Causes) (v w : View) → w.taken ≡ v.taken → w.own ≡ v.own → w.answers ≡ v.answers
    → KnowsAway taken own answers v → KnowsAway taken own answers w
knows_too taken own answers v w a b e k = record { taken_is = a ∙ k.taken_is; own_is = b ∙ k.own_is; answers_are = e ∙ k.answers_are }

module _ {B : Type 0} (told : B → List Signal) (cap : ℕ) where
  -- the rule after a step that moves the task and an item
  pub move_kept : (s : State (Held B) View) (c : CellRule told cap s) (id : ℕ) (v w : View) (stage : Runner) (known_put known_asked : ℕ) (item : List Item) (words : List ℕ) (homes : List (slot.Option (Held B))) → get_elem? s.views id ≡ some v → IsRunner v
      → has_put w ≡ false → has_ask w ≡ false → has_seat stage ≡ true → IsReachedBy (set s.views id w) (record c.cell.world { runner = stage; known_put = known_put; known_asked = known_asked }) → (may_hold stage ≡ false → item ≡ [])
      → Lists cap c.cell.log c.cell.taken item c.cell.beyond → Lies cap (c.cell.log ++ c.cell.beyond.placed) (length c.cell.taken) (length c.cell.taken + length item) c.cell.beyond.free homes
      → words ≡ words_by cap (marked (is_over c.cell.world.runner) c.cell.world.given) c.cell.world.accepted (marked c.cell.left c.cell.world.asked) c.cell.control
      → AsRunner cap stage c.cell.world.active c.cell.control true c.cell.taken item c.cell.world.own c.cell.answers known_put known_asked w
      → CellRule told cap (record { words = words; homes = homes; views = set s.views id w })
  move_kept s c id v w stage known_put known_asked item words homes at is puts asks seat reached none_out lists lies words_are knows =
      let p = c.cell.world in
      let k = (c.runners id v at is.2).1 in
      let old = seated p.runner k.seated in
      let new = seated stage seat in
      let over : is_over p.runner ≡ is_over stage = old.over ∙ sym new.over in
      record {
        cell = record c.cell { world = record p { runner = stage; known_put = known_put; known_asked = known_asked }; item = item; away = true };
        reached = reached;
        lists = lists;
        shows = record { sized = c.shows.sized; accepted = c.shows.accepted; given = c.shows.given; none_out = none_out; started = c.shows.started ∙ old.runs ∙ sym new.runs; new = c.shows.new; causes = c.shows.causes; home = λ e. (let not : true ≡ false = sym seat ∙ e in cc); settled = c.shows.settled };
        reads = c.reads;
        words = words_are ∙ ap (λ b. words_by cap (marked b p.given) p.accepted (marked c.cell.left p.asked) c.cell.control) over;
        lies = lies;
        lodges = λ e. cc;
        producers = other has_put c.cell.producer _ _ s.views id w c.producers puts (λ d o. subst (λ b. AsProducer cap c.cell.answers.order c.cell.log p.given c.cell.beyond b c.cell.flags.closing c.cell.flags.state p.producer d) over o);
        handles = other has_ask c.cell.handle _ _ s.views id w c.handles asks (λ d h. h);
        runners = mine has_run c.cell.runner _ _ s.views id v w c.runners at is.2 knows;
      }
