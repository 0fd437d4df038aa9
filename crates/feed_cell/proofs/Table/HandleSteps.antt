-- The handle's stores of asked.
use Rattle.std.proofs.Common.{◌≡◌, ℕ, ◌+◌, ◌≤◌, true, false, true≢false, List, sym, refl, ap, ◌∙◌, inl, inr}
use Rattle.atomic_table.specs.Table.{keeps, Allows}
use Rattle.feed_core.specs.Prelude.{Signal, total_after}
use Rattle.feed_core.specs.World.Table.{is_over, after}
use Rattle.feed_cell.specs.Types.{Ask, Idle, HasAsked}
use Rattle.feed_cell.proofs.Table.Outlooks.{reached_more, reached_too}
use Rattle.feed_cell.proofs.Table.Seats.{mine, other}
use Rattle.feed_cell.proofs.Table.Tallies.{stays_same}
use Rattle.feed_cell.specs.Cell.{CellRule, words_by}
use Rattle.feed_cell.specs.Control.{MARK, marked}
use Rattle.feed_cell.specs.HandleSteps.{IsAsk, Leaves}
use Rattle.feed_cell.specs.Seats.{SeatOf}
use Rattle.feed_cell.specs.Views.{IsHandle, has_put, has_ask, has_run}
use Rattle.feed_cell.specs.declared.cell.View.{View}
use Rattle.feed_cell.specs.WordPlaces.{place}
use Rattle.feed_cell.specs.declared.cell.words.Word.{Word}
use Rattle.feed_cell.proofs.Words.FourWords.{asked_stored}

module _ {B : Type 0} (told : B → List Signal) where
  -- a store of asked
  pub asks_more : (cap n id : ℕ) (me : SeatOf B) (new m : ℕ) → IsHandle me.0 → me.0.requesting ≡ Idle → me.0.left ≡ false → 1 ≤ m
      → new ≡ total_after me.0.asked m → Allows (CellRule told cap) n id me (place cap Word.Asked) (λ _. new) (λ _. IsAsk me new)
  asks_more cap n id me new m is idle stays some new_is s c wide at small =
      let v : View = me.0 in
      let k = (c.handles id v at is.1).1 in
      let p = c.cell.world in
      let here : c.cell.left ≡ false = sym k.leaves ∙ stays in
      let total : new ≡ total_after p.asked m = new_is ∙ ap (λ (a : ℕ). total_after a m) k.total in
      let w : View = record v { asked = new; requesting = HasAsked } in (
        w,
        keeps,
        tt,
        record {
          cell = record c.cell { world = after (Ask m) p };
          reached = reached_more (Ask m) id v w c.reached (sym k.stands ∙ idle, some) at (inr (inl is.1)) (refl, refl, refl) (stays_same p.runner);
          lists = c.lists;
          shows = record { sized = c.shows.sized; accepted = c.shows.accepted; given = c.shows.given; none_out = c.shows.none_out; started = c.shows.started; new = c.shows.new; causes = c.shows.causes; home = c.shows.home; settled = λ e. absurd (true≢false (sym e ∙ here)) };
          reads = c.reads;
          words = asked_stored _ _ _ _ _ _ c.words new ∙ ap (λ (a : ℕ). words_by cap (marked (is_over p.runner) p.given) p.accepted a c.cell.control) (total ∙ ap (λ b. marked b (total_after p.asked m)) (sym here));
          lies = c.lies;
          lodges = c.lodges;
          producers = other has_put c.cell.producer _ _ s.views id w c.producers is.0 (λ d k. k);
          handles = mine has_ask c.cell.handle _ _ s.views id v w c.handles at is.1 (record { sized = k.sized; ordered = k.ordered; total = total; cancels = k.cancels; bad = k.bad; leaves = k.leaves; stands = refl });
          runners = other has_run c.cell.runner _ _ s.views id w c.runners is.2 (λ d k. k);
        },
        refl,
      )

  -- a store of asked with its mark
  pub leaves : (cap n id : ℕ) (me : SeatOf B) (new : ℕ) → IsHandle me.0 → me.0.requesting ≡ Idle → new ≡ me.0.asked + MARK
      → Allows (CellRule told cap) n id me (place cap Word.Asked) (λ _. new) (λ _. Leaves me)
  leaves cap n id me new is idle new_is s c wide at small =
      let v : View = me.0 in
      let k = (c.handles id v at is.1).1 in
      let p = c.cell.world in
      let total : new ≡ p.asked + MARK = new_is ∙ ap (λ (a : ℕ). a + MARK) k.total in
      let w : View = record v { left = true } in (
        w,
        keeps,
        tt,
        record {
          cell = record c.cell { left = true };
          reached = reached_too id v w c.reached at (inr (inl is.1)) (refl, refl, refl);
          lists = c.lists;
          shows = record { sized = c.shows.sized; accepted = c.shows.accepted; given = c.shows.given; none_out = c.shows.none_out; started = c.shows.started; new = c.shows.new; causes = c.shows.causes; home = c.shows.home; settled = λ _. sym k.stands ∙ idle };
          reads = c.reads;
          words = asked_stored _ _ _ _ _ _ c.words new ∙ ap (λ (a : ℕ). words_by cap (marked (is_over p.runner) p.given) p.accepted a c.cell.control) total;
          lies = c.lies;
          lodges = c.lodges;
          producers = other has_put c.cell.producer _ _ s.views id w c.producers is.0 (λ d k. k);
          handles = mine has_ask c.cell.handle _ _ s.views id v w c.handles at is.1 (record { sized = k.sized; ordered = k.ordered; total = k.total; cancels = k.cancels; bad = k.bad; leaves = refl; stands = k.stands });
          runners = other has_run c.cell.runner _ _ s.views id w c.runners is.2 (λ d k. k);
        },
        refl,
      )
