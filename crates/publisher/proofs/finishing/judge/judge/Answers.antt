use Rattle.std.proofs.Common.{◌≡◌, ◌∙◌, ◌<◌, ◌≤◌, Some, length, slice_index_or, sym, ap, arith, refl}
use Rattle.std.specs.Prelude.{slice_get, vec_len}
use Rattle.std.proofs.lemmas.Option.{slice_get-get_or, slice_get_within}
use Rattle.publisher.proofs.LeftLanes.Judged.{empty_is, judged_more, judged_none, some_is}
use Rattle.publisher.proofs.finishing.judge.judge.Goals as goal

pub loop-left-init : goal.loop-left-init
loop-left-init g c = (judged_none c.args.is_closed c.args.outcome.lanes.items c.args.unsettled.items c.requires.empty, c.requires.room)

pub push_if-requires : goal.push_if-requires
push_if-requires g c =
    let few = c.loop-left.invariant.0.few in
    let room = c.loop-left.invariant.1 in
    let less = c.loop-left-test.true in
    let len = ap length c.deref-left-items.ensures.value in
    omega arith

pub loop-left-preserved : goal.loop-left-preserved
loop-left-preserved g c =
    let less : c.loop-left.left-index < length c.args.outcome.lanes.items = let test = c.loop-left-test.true in
    let len = ap length c.deref-left-items.ensures.value in omega arith in
    let item = c.left-item.is ∙ ap (λ xs. slice_index_or xs c.loop-left.left-index c.left-item.result) c.deref-left-items.ensures.value in
    let at : slice_get c.args.outcome.lanes.items c.loop-left.left-index ≡ Some c.left-item.result =
    slice_get-get_or c.args.outcome.lanes.items c.loop-left.left-index c.left-item.result less ∙ ap Some (sym item) in (
      rw (c.push_if.ensures.items, c.is_unsettled.ensures)
          (judged_more c.args.is_closed c.args.outcome.lanes.items c.loop-left.left-index c.loop-left.unsettled.items
          c.left-item.result c.loop-left.invariant.0 at),
      rw c.push_if.ensures.capacity c.loop-left.invariant.1,
    )

pub returns-then-is_empty : goal.returns-then-is_empty
returns-then-is_empty g c =
    let past = c.loop-left-test.false in
    let len = ap length c.deref-left-items.ensures.value in
    let zero = empty_is (vec_len c.loop-left.unsettled) (sym c.is_empty.ensures ∙ c.if-is_empty.true) in
    let ok = c.loop-left.unsettled.ok in
    let none : length c.loop-left.unsettled.items ≡ 0 = omega (arith, ok.0) in (
      refl,
      λ i left at. c.loop-left.invariant.0.done none i left
          (let within = slice_get_within c.args.outcome.lanes.items i left at in omega arith) at,
    )

pub returns-else-is_empty : goal.returns-else-is_empty
returns-else-is_empty g c =
    let more = some_is (vec_len c.loop-left.unsettled) (sym c.is_empty.ensures ∙ c.if-is_empty.false) in
    let ok = c.loop-left.unsettled.ok in
    let some : 0 < length c.loop-left.unsettled.items = omega (arith, ok.0) in
    let whole : length c.args.outcome.lanes.items ≤ c.loop-left.left-index = let past = c.loop-left-test.false in
    let len = ap length c.deref-left-items.ensures.value in omega arith in (
      refl,
      record {
        some = some;
        each = c.loop-left.invariant.0.each;
        all =
            λ j left at undone. c.loop-left.invariant.0.all j left
            (let within = slice_get_within c.args.outcome.lanes.items j left at in omega arith) at undone;
      },
    )
