-- Each of the subscriptions that missed the item is asked about once.
use Rattle.std.proofs.Common.{rules, ◌≡◌, ◌+◌, ◌-◌, ◌<◌, None, refl, ap, subst, ◌∙◌, length, arith}
use Rattle.publisher_hub.specs.Entry.{entry_of}
use Rattle.publisher_hub.specs.Gathering.{HasRoomAgain}
use Rattle.publisher_hub.proofs.PartialRounds.Next.{get_mapped, number_read, stood_at_number, within_now}
use Rattle.publisher_hub.proofs.PartialRounds.Retrying.{IsRevisited, all_revisited, are_revisited, retrying_next, retrying_none}
use Rattle.publisher_hub.proofs.hub.offer.retry_all.Goals as goal

pub loop-place-init : goal.loop-place-init
loop-place-init g c = record {
  puts = retrying_none g.F.Feed.meaning g.F.Feed.does c.args.item.now c.args.gathering.now.missed.items c.args.entries.now c.args.gathering.now c.args.due.now c.requires.drops c.requires.shares;
  room = search rules;
  missed = refl;
  drops = search rules;
  end = search rules;
}

pub offset_bounds-entries-number : goal.offset_bounds-entries-number
offset_bounds-entries-number g c =
    let missed = c.args.gathering.now.missed.items in
    let here : c.loop-place.place < length missed = omega arith in
    let at =
    number_read missed c.loop-place.gathering.missed.items c.loop-place.place c.index-number.result.now (ap (λ v. v.items) c.loop-place.invariant.missed) here c.index-number.ensures in
    let inside : c.index-number.result.now < length c.args.entries.now = c.requires.numbers.within c.loop-place.place _ at in
    search rules

pub bounds-entries-number : goal.bounds-entries-number
bounds-entries-number g c =
    let missed = c.args.gathering.now.missed.items in
    let here : c.loop-place.place < length missed = omega arith in
    let at =
    number_read missed c.loop-place.gathering.missed.items c.loop-place.place c.index-number.result.now (ap (λ v. v.items) c.loop-place.invariant.missed) here c.index-number.ensures in
    within_now (IsRevisited g.F.Feed.meaning g.F.Feed.does c.args.item.now missed) None missed c.loop-place.place c.index-number.result.now c.loop-place.invariant.puts.seconds c.args.entries.now c.loop-place.entries
    c.requires.numbers at c.loop-place.invariant.puts.upto

pub retry_one-requires-clause-can : goal.retry_one-requires-clause-can
retry_one-requires-clause-can g c _ _ =
    let missed = c.args.gathering.now.missed.items in
    let here : c.loop-place.place < length missed = omega arith in
    let at =
    number_read missed c.loop-place.gathering.missed.items c.loop-place.place c.index-number.result.now (ap (λ v. v.items) c.loop-place.invariant.missed) here c.index-number.ensures in
    let stood = stood_at_number (IsRevisited g.F.Feed.meaning g.F.Feed.does c.args.item.now missed) None missed c.loop-place.place c.index-number.result.now c.loop-place.invariant.puts.seconds c.args.entries.now
    c.loop-place.entries c.requires.numbers at c.loop-place.invariant.puts.upto c.index-entries-number.result in
    c.requires.can c.loop-place.place c.index-number.result.now _ at (get_mapped (entry_of g.F.Feed.meaning) c.args.entries.now c.index-number.result.now _ stood)

pub retry_one-requires-clause-room : goal.retry_one-requires-clause-room
retry_one-requires-clause-room g c _ _ =
    let within = c.loop-place-test.true in
    (c.len-place-end.result - (c.loop-place.place + 1), subst (λ left. HasRoomAgain left c.loop-place.gathering c.loop-place.due) (omega arith) c.loop-place.invariant.room)

pub loop-place-preserved : goal.loop-place-preserved
loop-place-preserved g c =
    let missed = c.args.gathering.now.missed.items in
    let here : c.loop-place.place < length missed = omega arith in
    let within = c.loop-place-test.true in
    let at =
    number_read missed c.loop-place.gathering.missed.items c.loop-place.place c.index-number.result.now (ap (λ v. v.items) c.loop-place.invariant.missed) here c.index-number.ensures in
    let so_far = c.loop-place.invariant.puts in
    let stood = stood_at_number (IsRevisited g.F.Feed.meaning g.F.Feed.does c.args.item.now missed) None missed c.loop-place.place c.index-number.result.now so_far.seconds c.args.entries.now
    c.loop-place.entries c.requires.numbers at so_far.upto c.index-entries-number.result in
    let given = c.retry_one.ensures.puts in
    let more = c.retry_one.ensures.drops in
    let few = c.loop-place.invariant.drops in
    record {
      puts = retrying_next g.F.Feed.meaning g.F.Feed.does c.args.item.now missed c.loop-place.place c.index-number.result.now c.args.entries.now c.loop-place.entries given.0 _ c.retry_one.new.entry
          c.args.gathering.now c.loop-place.gathering c.retry_one.new.gathering c.args.due.now c.loop-place.due c.retry_one.new.due c.requires.numbers at stood given.1.0 given.1.1 so_far;
      room = c.retry_one.ensures.room (c.len-place-end.result - (c.loop-place.place + 1)) (subst (λ left. HasRoomAgain left c.loop-place.gathering c.loop-place.due) (omega arith) c.loop-place.invariant.room);
      missed = given.1.1.missed ∙ c.loop-place.invariant.missed;
      drops = omega arith;
      end = c.loop-place.invariant.end;
    }

pub returns : goal.returns
returns g c =
    let missed = c.args.gathering.now.missed.items in
    let so_far = c.loop-place.invariant.puts in
    let done : c.loop-place.place ≡ length missed = omega arith in
    record {
      puts = (
        so_far.seconds,
        (
          all_revisited g.F.Feed.meaning g.F.Feed.does c.args.item.now missed so_far.seconds c.args.entries.now c.loop-place.entries c.loop-place.place so_far.upto,
          (are_revisited g.F.Feed.meaning g.F.Feed.does c.args.item.now missed so_far.seconds c.args.entries.now c.loop-place.entries c.loop-place.place done c.requires.numbers so_far.upto, so_far.gathers),
        ),
      );
    }
