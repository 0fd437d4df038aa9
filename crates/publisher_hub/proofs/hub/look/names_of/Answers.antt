-- Each of the live subscriptions that isn't retired is named once.
use Rattle.std.proofs.Common.{◌≡◌, map, length, arith}
use Rattle.publisher_hub.specs.Entry.{entry_of}
use Rattle.publisher_hub.proofs.PartialRounds.Next.{number_at, number_inside}
use Rattle.publisher_hub.proofs.PartialRounds.Naming.{entry_next, named_all, named_less, named_more, named_none}
use Rattle.publisher_hub.proofs.hub.look.names_of.Goals as goal
use Rattle.publisher_hub.proofs.hub.look.names_of.Goals.{then-not-entry+in_ok-push, else-not-entry}

pub loop-number-init : goal.loop-number-init
loop-number-init g c =
    rw c.new-names.ensures.items (named_none c.args.live.now (map (entry_of g.F.Feed.meaning) c.args.entries.now) c.requires.live)

pub offset_bounds-entries-number : goal.offset_bounds-entries-number
offset_bounds-entries-number g c = let inside = number_inside g.F.Feed.meaning c.args.live.now c.args.entries.now c.requires.live c.loop-number.number-index c.loop-number-test.true in omega arith

pub bounds-entries-number : goal.bounds-entries-number
bounds-entries-number g c =
    number_inside g.F.Feed.meaning c.args.live.now c.args.entries.now c.requires.live c.loop-number.number-index c.loop-number-test.true

pub loop-number-preserved : goal.loop-number-preserved
loop-number-preserved g c =
    let at =
    entry_next g.F.Feed.meaning c.args.live.now c.args.entries.now c.loop-number.number-index c.requires.live c.loop-number-test.true c.index-entries-number.result c.index-entries-number.is in
    let number = number_at c.args.live.now c.loop-number.number-index c.loop-number-test.true in
    elim c.if-not-entry.branch [
      | then-not-entry+in_ok-push w ↦ rw (w.names-is, w.in_ok-push.ensures.items) (named_more c.args.live.now (map (entry_of g.F.Feed.meaning) c.args.entries.now) c.requires.live
          c.loop-number.number-index _ c.loop-number.names.items (entry_of g.F.Feed.meaning c.index-entries-number.result) number at w.if-not-entry.true c.loop-number.invariant)
      | else-not-entry w ↦ rw w.names-is (named_less c.args.live.now (map (entry_of g.F.Feed.meaning) c.args.entries.now) c.requires.live c.loop-number.number-index _ c.loop-number.names.items
          (entry_of g.F.Feed.meaning c.index-entries-number.result) number at w.if-not-entry.false c.loop-number.invariant)
    ]

pub returns : goal.returns
returns g c =
    let done : c.loop-number.number-index ≡ length c.args.live.now = omega arith in
    record { ok = named_all c.args.live.now (map (entry_of g.F.Feed.meaning) c.args.entries.now) c.requires.live c.loop-number.number-index c.loop-number.names.items done c.loop-number.invariant }
