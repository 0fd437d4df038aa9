use Rattle.std.proofs.Common.{◌≡◌, ℕ, ◌+◌, ◌∷◌, cond, drop, take, true, refl, slice_range, subst, arith, rules}
use Rattle.std.proofs.lemmas.List.{take_rest}
use Rattle.fanout.specs.Filter.{passes}
use Rattle.fanout.specs.Piece.{lines_of}
use Rattle.fanout.proofs.Chosen.{adds, counts, more}
use Rattle.fanout.proofs.filter.choose.Goals as goal

pub loop-at-preserved-then-passes : goal.loop-at-preserved-then-passes
loop-at-preserved-then-passes c =
    let i = c.loop-at.invariant in
    let line = subst (λ t. lines_of t ≡ take c.line_length.result t ∷ lines_of (drop c.line_length.result t))
    (take_rest c.args.lines.now c.loop-at.at) c.line_length.ensures.line in
    let passed : passes c.args.rules.now (slice_range c.args.lines.now c.loop-at.at (c.loop-at.at + c.line_length.result)) ≡ true = search rules in
    let one : cond {A = ℕ} (passes c.args.rules.now (slice_range c.args.lines.now c.loop-at.at (c.loop-at.at + c.line_length.result))) 1 0 ≡ 1 = rw passed refl in
    let counted = counts c.args.rules.now c.args.lines.now c.loop-at.run c.loop-at.at c.line_length.result i.sorted line in
    let longer = more c.args.rules.now c.args.lines.now c.loop-at.run c.loop-at.at c.line_length.result i.sorted line in
    record {
      sorted = omega (arith, i.sorted);
      within = omega (arith, c.line_length.ensures.within);
      added = adds c.args.rules.now c.args.lines.now c.loop-at.run c.loop-at.at c.line_length.result i.sorted line
          c.loop-at.page.items _ passed i.added;
      lines = omega (arith, i.lines, counted, one);
      all = omega (arith, i.all, longer);
      few = omega (arith, i.few, c.line_length.ensures.some);
    }
