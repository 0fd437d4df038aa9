use Rattle.std.proofs.Common.{◌≡◌, ◌∙◌, ◌<◌, Some, length, slice_index_or, sym, ap, arith, refl}
use Rattle.std.specs.Prelude.{slice_get}
use Rattle.std.proofs.lemmas.Option.{slice_get-get_or}
use Rattle.publisher.proofs.LeftLanes.FirstFailures.{none_more}
use Rattle.publisher.proofs.outcome.Outcome.first_failure.Goals as goal

pub loop-left-preserved : goal.loop-left-preserved
loop-left-preserved g c =
    let lanes = c.args.self.now.lanes.items in
    let k = c.loop-left.left-index in
    let less : k < length lanes = let test = c.loop-left-test.true in let len = ap length c.deref-left-items.ensures.value in omega arith in
    let item = c.left-item.is ∙ ap (λ xs. slice_index_or xs k c.left-item.result) c.deref-left-items.ensures.value in
    let at : slice_get lanes k ≡ Some c.left-item.result = slice_get-get_or lanes k c.left-item.result less ∙ ap Some (sym item) in
    none_more lanes k c.left-item.result at (sym c.failure.ensures ∙ c.in_default.is) c.loop-left.invariant

pub returns-in-Some-clause-first : goal.returns-in-Some-clause-first
returns-in-Some-clause-first g c =
    let lanes = c.args.self.now.lanes.items in
    let k = c.loop-left.left-index in
    let less : k < length lanes = let test = c.loop-left-test.true in let len = ap length c.deref-left-items.ensures.value in omega arith in
    let item = c.left-item.is ∙ ap (λ xs. slice_index_or xs k c.left-item.result) c.deref-left-items.ensures.value in record {
      place = k;
      left = c.left-item.result;
      stands = slice_get-get_or lanes k c.left-item.result less ∙ ap Some (sym item);
      name = refl;
      how = sym c.failure.ensures ∙ c.in-Some.is;
      before = c.loop-left.invariant;
    }
