-- One is found by its name, or none of the live subscriptions has it.
use Rattle.std.proofs.Common.{◌≡◌, map, length, refl, arith}
use Rattle.publisher_hub.specs.Entry.{entry_of}
use Rattle.publisher_hub.proofs.PartialRounds.Next.{number_at, number_inside}
use Rattle.publisher_hub.proofs.PartialRounds.Naming.{entry_next, none_at_all, none_more, other_names, same_names}
use Rattle.publisher_hub.proofs.hub.look.has_name.Goals as goal
use Rattle.publisher_hub.proofs.hub.look.has_name.Goals.{else-not-entry-via-then-not-entry+else-eq, else-not-entry-via-else-not-entry}

pub offset_bounds-entries-number : goal.offset_bounds-entries-number
offset_bounds-entries-number g c = let inside = number_inside g.F.Feed.meaning c.args.live.now c.args.entries.now c.requires.live c.loop-number.number-index c.loop-number-test.true in omega arith

pub bounds-entries-number : goal.bounds-entries-number
bounds-entries-number g c =
    number_inside g.F.Feed.meaning c.args.live.now c.args.entries.now c.requires.live c.loop-number.number-index c.loop-number-test.true

pub returns-then-eq : goal.returns-then-eq
returns-then-eq g c =
    let at = entry_next g.F.Feed.meaning c.args.live.now c.args.entries.now c.loop-number.number-index c.requires.live c.loop-number-test.true c.index-entries-number.result c.index-entries-number.is in (
      λ _. record { number = _; entry = entry_of g.F.Feed.meaning c.index-entries-number.result; stands = at; live = c.if-not-entry.true; named = same_names _ _ _ c.eq.ensures c.if-eq.true },
      λ _. refl,
    )

pub loop-number-preserved : goal.loop-number-preserved
loop-number-preserved g c =
    let at =
    entry_next g.F.Feed.meaning c.args.live.now c.args.entries.now c.loop-number.number-index c.requires.live c.loop-number-test.true c.index-entries-number.result c.index-entries-number.is in
    let number = number_at c.args.live.now c.loop-number.number-index c.loop-number-test.true in
    elim c.else-not-entry.branch [
      | else-not-entry-via-then-not-entry+else-eq w ↦ none_more c.args.live.now (map (entry_of g.F.Feed.meaning) c.args.entries.now) c.requires.live c.args.name c.loop-number.number-index _
          (entry_of g.F.Feed.meaning c.index-entries-number.result) number at (λ _. other_names _ _ _ w.eq.ensures w.if-eq.false) c.loop-number.invariant
      | else-not-entry-via-else-not-entry w ↦ none_more c.args.live.now (map (entry_of g.F.Feed.meaning) c.args.entries.now) c.requires.live c.args.name c.loop-number.number-index _
          (entry_of g.F.Feed.meaning c.index-entries-number.result) number at (λ live _. let is = w.if-not-entry.false in cc) c.loop-number.invariant
    ]

pub returns : goal.returns
returns g c =
    let done : c.loop-number.number-index ≡ length c.args.live.now = omega arith in (
      λ e. cc,
      λ is. absurd (none_at_all c.args.live.now (map (entry_of g.F.Feed.meaning) c.args.entries.now) c.requires.live c.args.name c.loop-number.number-index done c.loop-number.invariant is),
    )
