use Rattle.std.proofs.Common.{◌≡◌, length, arith}
use Rattle.publisher.proofs.BothEnds.FindingRounds.{finding_all, finding_more, finding_none}
use Rattle.publisher.proofs.finishing.find.find_all.Goals as goal

pub loop-number-init : goal.loop-number-init
loop-number-init g c = (
  finding_none c.args.hub.now c.args.counted c.args.owners.now c.args.founds.now.items
      c.requires.empty c.requires.sound,
  omega arith,
  c.requires.room,
)

pub take_at-owner-requires : goal.take_at-owner-requires
take_at-owner-requires g c = let long = c.loop-number.invariant.0.owners_long in let less = c.loop-number-test.true in omega arith

pub find_one-found-requires-clause-sound : goal.find_one-found-requires-clause-sound
find_one-found-requires-clause-sound g c = c.loop-number.invariant.0.sound

pub find_one-found-requires-clause-there : goal.find_one-found-requires-clause-there
find_one-found-requires-clause-there g c = let same = c.loop-number.invariant.0.stays.as_long in let all =
    c.requires.all in let less = c.loop-number-test.true in omega arith

pub push_reserved-requires : goal.push_reserved-requires
push_reserved-requires g c = let many = c.loop-number.invariant.0.as_many in let room = c.loop-number.invariant.2 in
    let less = c.loop-number-test.true in omega arith

pub loop-number-preserved : goal.loop-number-preserved
loop-number-preserved g c =
    let finding = c.loop-number.invariant.0 in (
      rw (c.push_reserved.ensures.items, c.is_some-is_handed.ensures, c.is_reclaimed.ensures)
          (finding_more c.args.hub.now c.loop-number.hub c.find_one-found.new.hub c.args.counted c.args.owners.now
          c.loop-number.owners c.take_at-owner.new.owners c.loop-number.number c.loop-number.founds.items c.loop-number.gone
          c.take_at-owner.result c.find_one-found.result finding c.take_at-owner.ensures.taken
          c.take_at-owner.ensures.left c.find_one-found.ensures.finds c.find_one-found.ensures.sound),
      omega arith,
      rw c.push_reserved.ensures.capacity c.loop-number.invariant.2,
    )

pub returns : goal.returns
returns g c =
    let done : c.loop-number.number ≡ length c.args.hub.now.entries.items = let most = c.loop-number.invariant.1 in
    let past = c.loop-number-test.false in let all = c.requires.all in let long =
    c.loop-number.invariant.0.owners_long in omega arith in
    finding_all c.args.hub.now c.loop-number.hub c.args.counted c.args.owners.now c.loop-number.owners
    c.loop-number.number c.loop-number.founds.items c.loop-number.gone done c.loop-number.invariant.0
