-- Each of the live subscriptions is offered a batch once.
use Rattle.std.proofs.Common.{rules, ◌≡◌, ◌<◌, None, List, refl, slice_index_or, subst, sym, length, arith}
use Rattle.flow_rules.specs.declared.item.Item.{Item}
use Rattle.publisher_hub.specs.Entry.{entry_of}
use Rattle.publisher_hub.specs.Batch.{CanPutBatch, PutsBatchTo}
use Rattle.publisher_hub.proofs.PartialRounds.Next.{number_at, number_inside, number_there, numbers_of, stands_as, stood_next, whole_round}
use Rattle.publisher_hub.proofs.PartialRounds.PuttingBatches.{can_put_batch, putting_next, putting_none}
use Rattle.publisher_hub.proofs.hub.batch.put_batches.Goals as goal

pub loop-number-init : goal.loop-number-init
loop-number-init g c = record {
  puts = λ items are. putting_none g.F.Feed.meaning g.F.Feed.does c.args.next items c.args.live.now c.args.entries.now c.args.due.now.items;
  left = λ items are. are;
  many = let many = c.requires.as_many in omega arith;
  places = let places = c.requires.places in omega arith;
}

pub offset_bounds-entries-number : goal.offset_bounds-entries-number
offset_bounds-entries-number g c = let inside = number_inside g.F.Feed.meaning c.args.live.now c.args.entries.now c.requires.live c.loop-number.number-index c.loop-number-test.true in search rules

pub bounds-entries-number : goal.bounds-entries-number
bounds-entries-number g c =
    let (items, (are, can)) = c.requires.can in
    let so_far = c.loop-number.invariant.puts items are in
    number_there g.F.Feed.meaning c.args.live.now c.args.entries.now c.requires.live c.loop-number.number-index (PutsBatchTo g.F.Feed.meaning g.F.Feed.does c.args.next items) None
    so_far.puts c.loop-number.entries so_far.upto c.loop-number-test.true

pub take_batch-batch-requires : goal.take_batch-batch-requires
take_batch-batch-requires g c = let many = c.loop-number.invariant.many in let within = c.loop-number-test.true in omega arith

pub put_batch-requires-clause-some : goal.put_batch-requires-clause-some
put_batch-requires-clause-some g c =
    let (items, (are, can)) = c.requires.can in
    subst (λ (batch : List Item). 0 < length batch) (sym (c.take_batch-batch.ensures.batch items (c.loop-number.invariant.left items are))) can.0

pub put_batch-requires-clause-can : goal.put_batch-requires-clause-can
put_batch-requires-clause-can g c =
    let (items, (are, can)) = c.requires.can in
    let so_far = c.loop-number.invariant.puts items are in
    let batch = c.take_batch-batch.ensures.batch items (c.loop-number.invariant.left items are) in
    let stands = stands_as g.F.Feed.meaning c.args.live.now c.args.entries.now c.requires.live c.loop-number.number-index (PutsBatchTo g.F.Feed.meaning g.F.Feed.does c.args.next items) None
    so_far.puts c.loop-number.entries so_far.upto (CanPutBatch (length items)) can.1 c.loop-number-test.true c.index-entries-number.result in
    can_put_batch items _ (entry_of g.F.Feed.meaning (slice_index_or c.loop-number.entries (slice_index_or c.args.live.now c.loop-number.number-index 0) c.index-entries-number.result)) batch stands

pub put_batch-requires-clause-place : goal.put_batch-requires-clause-place
put_batch-requires-clause-place g c = let places = c.loop-number.invariant.places in let within = c.loop-number-test.true in omega arith

pub loop-number-preserved : goal.loop-number-preserved
loop-number-preserved g c =
    let meaning = g.F.Feed.meaning in
    let does = g.F.Feed.does in
    let numbers = numbers_of meaning c.args.live.now c.args.entries.now c.requires.live in
    let within = c.loop-number-test.true in
    let given = c.put_batch.ensures.puts in
    let places = c.loop-number.invariant.places in
    let many = c.loop-number.invariant.many in
    let one_less = c.take_batch-batch.ensures.as_many in
    let few = c.put_batch.ensures.few in
    let room = c.put_batch.ensures.capacity in
    record {
      puts = λ items are.
          let so_far = c.loop-number.invariant.puts items are in
          let batch = c.take_batch-batch.ensures.batch items (c.loop-number.invariant.left items are) in
          let stood = stood_next meaning c.args.live.now c.args.entries.now c.requires.live c.loop-number.number-index (PutsBatchTo meaning does c.args.next items) None
          so_far.puts c.loop-number.entries so_far.upto within c.index-entries-number.result in
          putting_next meaning does c.args.next items c.args.live.now c.loop-number.number-index _ c.args.entries.now c.loop-number.entries given.0 _ c.put_batch.new.entry
          _ c.loop-number.lag c.put_batch.new.lag c.args.due.now.items c.loop-number.due.items c.put_batch.new.due.items numbers (number_at c.args.live.now c.loop-number.number-index within) stood
          batch given.1.0 given.1.1 so_far;
      left = λ items are. c.take_batch-batch.ensures.rest items (c.loop-number.invariant.left items are);
      many = omega arith;
      places = omega arith;
    }

pub returns : goal.returns
returns g c items are =
    let done : c.loop-number.number-index ≡ length c.args.live.now = omega arith in
    let so_far = c.loop-number.invariant.puts items are in (
      so_far.puts,
      (
        whole_round g.F.Feed.meaning c.args.live.now c.args.entries.now c.requires.live c.loop-number.number-index (PutsBatchTo g.F.Feed.meaning g.F.Feed.does c.args.next items) None
            so_far.puts c.loop-number.entries so_far.upto (λ x retired. (retired, refl)) done,
        so_far.gathers,
      ),
    )
