-- The maker's seat is split twice, and what each party knows at first is what the maker knew.
use Rattle.std.proofs.Common.{rules, ap, ◌∙◌}
use Rattle.atomic_table.specs.Seated.{TableId}
use Rattle.feed_cell.proofs.Table.FirstSeats.{holds_one, masks, splits_handle, splits_runner, producer_first, handle_first, task_first}
use Rattle.feed_cell.proofs.Words.FourWords.{has_some_words}
use Rattle.feed_cell.proofs.cell.maker.Cell.new_with.Goals as goal

pub split_seat-running-requires : goal.split_seat-running-requires
split_seat-running-requires g c = (search rules, has_some_words c.args.capacity c.in-Ok.seat.table_id c.deref-cell.result.now.shared.table_id (search rules) c.in-Ok.ensures.1, splits_runner g.B.Listener.told _ _ _ (search rules) (search rules) (search rules))

pub split_seat-asking-requires : goal.split_seat-asking-requires
split_seat-asking-requires g c = (search rules, has_some_words c.args.capacity c.in-Ok.seat.table_id c.deref-cell.result.now.shared.table_id (search rules) c.in-Ok.ensures.1, splits_handle g.B.Listener.told _ _ _ (search rules) (search rules) (search rules))

pub invariant_of-party : goal.invariant_of-party
invariant_of-party g c = record {
  its_table = search rules;
  its_words = ap (λ (r : TableId). r.words) c.split_seat-running.ensures.3 ∙ c.in-Ok.ensures.1;
  sized = search rules;
  some_room = holds_one c.args.capacity c.requires.capacity;
  masked = masks c.args.capacity c.requires.capacity;
}

pub invariant_of-producer : goal.invariant_of-producer
invariant_of-producer g c =
    let first = producer_first g.B.Listener.told c.args.capacity c.args.order c.in-Ok.seat.me c.split_seat-running.new.seat.me c.split_seat-asking.new.seat.me c.in-Ok.ensures.2 c.split_seat-running.ensures.2 c.split_seat-asking.ensures.2 in
    record {
      its_table = search rules;
      its_words = ap (λ (r : TableId). r.words) (c.split_seat-asking.ensures.0 ∙ c.split_seat-running.ensures.0) ∙ c.in-Ok.ensures.1;
      sized = first.0;
      some_room = holds_one c.args.capacity c.requires.capacity;
      masked = masks c.args.capacity c.requires.capacity;
    }

pub invariant_of-handle : goal.invariant_of-handle
invariant_of-handle g c =
    let first = handle_first g.B.Listener.told c.args.capacity c.args.order c.in-Ok.seat.me c.split_seat-running.new.seat.me c.split_seat-asking.result.me c.in-Ok.ensures.2 c.split_seat-running.ensures.2 c.split_seat-asking.ensures.4 in
    record {
      its_table = search rules;
      its_words = ap (λ (r : TableId). r.words) (c.split_seat-asking.ensures.3 ∙ c.split_seat-running.ensures.0) ∙ c.in-Ok.ensures.1;
      sized = first.0;
      some_room = holds_one c.args.capacity c.requires.capacity;
      masked = masks c.args.capacity c.requires.capacity;
    }

pub invariant_of-task : goal.invariant_of-task
invariant_of-task g c = task_first g.B.Listener.told c.args.capacity c.args.order c.args.subscriber c.in-Ok.seat.me c.split_seat-running.result.me c.lodge.new.party.seat.me c.in-Ok.ensures.2 c.split_seat-running.ensures.4 c.requires.untold (search rules)
