-- By what the task takes an item, or finds none to give: the causes of its look, and the total of its measure.
use Rattle.std.proofs.Common.{◌≡◌, ℕ, ◌<◌, ◌≤◌, ◌%◌, List, [], ◌∷◌, ◌++◌, length, ap, sym, ◌∙◌, subst, inl, inr, arith}
use Rattle.atomic_table.specs.Table.{rest}
use Rattle.feed_core.specs.Prelude.{Item, UNBOUNDED, total_after}
use Rattle.feed_core.specs.World.Table.{MaySee, MayTake, seeing, measuring}
use Rattle.feed_cell.specs.Types.{Runner, Measured, Taken}
use Rattle.feed_cell.proofs.Words.Marks.{unmark}
use Rattle.feed_cell.specs.Control.{MARK}
use Rattle.feed_cell.specs.Seats.{SeatOf}
use Rattle.feed_cell.specs.TaskPlays.{SeesPut, Measures, MeasuresNone, grants_by}
use Rattle.feed_cell.specs.TaskSteps.{IsInOrder, FindsNone, TakesNext}

module _ {B : Type 0} where
  -- it saw an item, and measured that more were requested than were taken
  pub may_take : (before there measured : SeatOf B) (found word : ℕ) → MaySee before.0.runner → length before.0.taken < found
      → SeesPut before found there → (m : Measures there word measured) → length before.0.taken < total_after m.asked before.0.own
      → MayTake (length measured.0.taken) measured.0.runner
  may_take before there measured found word may more s m wanted =
      let saw = s.waits more in
      let total : ℕ = total_after m.asked there.0.own in
      let same : total ≡ total_after m.asked before.0.own = ap (λ (t : SeatOf B). total_after m.asked t.0.own) saw.1 in
      let enough : length before.0.taken < total = subst (λ (n : ℕ). length before.0.taken < n) (sym same) wanted in
      let after = m.wanted (subst (λ (t : SeatOf B). length t.0.taken < total) (sym saw.1) enough) in
      let taken : length measured.0.taken ≡ length before.0.taken = ap (λ (t : SeatOf B). length t.0.taken) after ∙ ap (λ (t : SeatOf B). length t.0.taken) saw.1 in (
        may.0,
        found,
        total,
        ap (λ (t : SeatOf B). t.0.runner) after ∙ ap (λ (t : SeatOf B). measuring total t.0.runner) saw.1 ∙ ap (λ (r : Runner). measuring total (seeing found r)) may.1,
        subst (λ (n : ℕ). n < found) (sym taken) more,
        subst (λ (n : ℕ). n < total) (sym taken) enough,
      )

  -- it saw an item, measured that more were requested than were taken, and took it
  pub takes_next : (before there measured after : SeatOf B) (x : Item) (found word : ℕ) → MaySee before.0.runner
      → length before.0.taken < found → length before.0.taken < UNBOUNDED
      → SeesPut before found there → (m : Measures there word measured) → length before.0.taken < total_after m.asked before.0.own
      → after ≡ (record measured.0 { taken = measured.0.taken ++ x ∷ []; item = []; grants = measured.0.grants ++ grants_by measured.0.requested measured.0.own measured.0.runner; runner = Taken }, rest measured.1)
      → TakesNext x before after
  takes_next before there measured after x found word may more few s m wanted took =
      let saw = s.waits more in
      let total : ℕ = total_after m.asked there.0.own in
      let same : total ≡ total_after m.asked before.0.own = ap (λ (t : SeatOf B). total_after m.asked t.0.own) saw.1 in
      let enough : length before.0.taken < total = subst (λ (n : ℕ). length before.0.taken < n) (sym same) wanted in
      record {
        granted = record { causes = may.0; asked = total; requested = m.asked; counts = same; ordered = λ stood. subst (IsInOrder before.0.order) may.1 stood; runs_on = may.2; wanted = enough };
        few = few;
        known_put = found;
        took = took
            ∙ ap (λ (t : SeatOf B). (record t.0 { taken = t.0.taken ++ x ∷ []; item = []; grants = t.0.grants ++ grants_by t.0.requested t.0.own t.0.runner; runner = Taken }, rest t.1)) (m.wanted (subst (λ (t : SeatOf B). length t.0.taken < total) (sym saw.1) enough))
            ∙ ap (λ (t : SeatOf B). (record t.0 { taken = t.0.taken ++ x ∷ []; item = []; grants = t.0.grants ++ grants_by m.asked t.0.own (measuring total t.0.runner); runner = Taken; requested = m.asked }, rest t.1)) saw.1
            ∙ ap (λ (r : Runner). (record before.0 { taken = before.0.taken ++ x ∷ []; item = []; grants = before.0.grants ++ grants_by m.asked before.0.own (measuring total (seeing found r)); runner = Taken; requested = m.asked; known_put = found }, before.1)) may.1;
      }

  -- what a measure finds, without its mark, is what was requested
  pub measured_is : (there after : SeatOf B) (word : ℕ) (m : Measures there word after) → word % MARK ≡ m.asked
  measured_is there after word m =
      let bounded : m.asked ≤ UNBOUNDED = m.bounded in
      ap (λ n. n % MARK) m.found_is ∙ unmark m.left m.asked (omega arith)

  -- it saw no item that it did not take, and measured
  pub finds_none : (before there after : SeatOf B) (found word : ℕ) → MaySee before.0.runner → before.0.item ≡ []
      → found ≡ length before.0.taken → SeesPut before found there → MeasuresNone there word after → FindsNone found before after
  finds_none before there after found word may none_out all s m =
      let total : ℕ = total_after m.asked there.0.own in
      record {
        causes = may.0;
        asked = total;
        stage = may.1;
        runs_on = may.2;
        why = inl all;
        put = s.put;
        requested = m.asked;
        found = m.measured
            ∙ ap (λ (t : SeatOf B). (record t.0 { runner = measuring total t.0.runner; requested = m.asked }, t.1)) (s.empty all)
            ∙ ap (λ (r : Runner). (record before.0 { runner = measuring total (seeing found r); requested = m.asked; known_put = found }, before.1)) may.1
            ∙ ap (λ (l : List Item). (record before.0 { runner = Measured may.0 found total; requested = m.asked; item = l; known_put = found }, before.1)) none_out;
      }

  -- it saw an item, and measured that no more were requested than were taken
  pub finds_no_demand : (before there after : SeatOf B) (found word : ℕ) → MaySee before.0.runner → length before.0.taken < found
      → SeesPut before found there → (m : Measures there word after) → total_after m.asked before.0.own ≤ length before.0.taken
      → FindsNone found before after
  finds_no_demand before there after found word may more s m few =
      let saw = s.waits more in
      let total : ℕ = total_after m.asked there.0.own in
      let same : total ≡ total_after m.asked before.0.own = ap (λ (t : SeatOf B). total_after m.asked t.0.own) saw.1 in
      let taken : length there.0.taken ≡ length before.0.taken = ap (λ (t : SeatOf B). length t.0.taken) saw.1 in
      let met : length there.0.taken ≤ total = m.met in
      let all : length there.0.taken ≡ total = omega arith in
      record {
        causes = may.0;
        asked = total;
        stage = may.1;
        runs_on = may.2;
        why = inr (sym all ∙ taken);
        put = s.put;
        requested = m.asked;
        found = m.enough all
            ∙ ap (λ (t : SeatOf B). (record t.0 { runner = measuring total t.0.runner; requested = m.asked; item = [] }, rest t.1)) saw.1
            ∙ ap (λ (r : Runner). (record before.0 { runner = measuring total (seeing found r); requested = m.asked; item = []; known_put = found }, before.1)) may.1;
      }
