-- The share that was offered is the item, and a share that came back is a share again.
use Rattle.std.proofs.Common.{◌≡◌, ◌+◌, ◌∙◌, ap, arith, length, length-append, rules, subst}
use Rattle.flow_rules.specs.declared.item.Item.{Item}
use Rattle.publisher_hub.specs.Gathering.{back_by, missed_by, started_by}
use Rattle.publisher_hub.specs.Offering.{PutsTo, item_of}
use Rattle.publisher_hub.proofs.PartialRounds.Shares.{shares_back, takes_a_place}
use Rattle.publisher_hub.proofs.hub.publish.put_one.Goals as goal

pub returns-clause-puts : goal.returns-clause-puts
returns-clause-puts g c =
    let meaning = g.F.Feed.meaning in
    let does = g.F.Feed.does in
    let item = item_of c.args.stamp c.args.text.now in
    let answer = c.put-answer.result in
    let taken = c.take_share-share.ensures in
    let puts_to = subst (λ (share : Item). PutsTo meaning does share answer c.args.entry.now c.put-answer.new.self) (taken.share item c.requires.shares) c.put-answer.ensures in (
      answer,
      (
        puts_to,
        record {
          due = c.note.ensures.due;
          missed = search rules;
          lag = search rules;
          shares = rw (c.note.ensures.shares) (shares_back meaning does item answer c.args.entry.now c.put-answer.new.self _ puts_to (taken.rest item c.requires.shares));
        },
      ),
    )

pub take_share-share-requires : goal.take_share-share-requires
take_share-share-requires g c = let room = c.requires.room.1.shares in omega arith

pub put-answer-requires-clause-take : goal.put-answer-requires-clause-take
put-answer-requires-clause-take g c = c.requires.can.take

pub put-answer-requires-clause-few : goal.put-answer-requires-clause-few
put-answer-requires-clause-few g c = c.requires.can.few

pub put-answer-requires-clause-few_drops : goal.put-answer-requires-clause-few_drops
put-answer-requires-clause-few_drops g c = c.requires.can.few_drops

pub returns-clause-room : goal.returns-clause-room
returns-clause-room g c many room =
    let answer = c.put-answer.result in
    let taken = c.take_share-share in
    let noted = c.note in
    let place = takes_a_place c.args.number answer in
    let due : length noted.new.due.items ≡ length c.args.due.now.items + length (started_by c.args.number answer) =
    ap length noted.ensures.due ∙ length-append c.args.due.now.items (started_by c.args.number answer) in
    let missed : length noted.new.self.missed.items ≡ length taken.new.self.missed.items + length (missed_by c.args.number answer) =
    ap length noted.ensures.missed ∙ length-append taken.new.self.missed.items (missed_by c.args.number answer) in
    let shares : length noted.new.self.shares.items ≡ length taken.new.self.shares.items + length (back_by answer) =
    ap length noted.ensures.shares ∙ length-append taken.new.self.shares.items (back_by answer) in
    let numbers : length taken.new.self.missed.items ≡ length c.args.gathering.now.missed.items =
    ap (λ v. length v.items) taken.ensures.missed in
    let places : taken.new.self.missed.cap ≡ c.args.gathering.now.missed.cap = ap (λ v. v.cap) taken.ensures.missed in
    let due_long = noted.new.due.ok.0 in
    let due_was = c.args.due.now.ok.0 in
    let missed_long = noted.new.self.missed.ok.0 in
    let missed_was = c.args.gathering.now.missed.ok.0 in
    let shares_long = noted.new.self.shares.ok.0 in
    let shares_were = taken.new.self.shares.ok.0 in
    record { due_places = omega arith; missed_places = omega arith; shares = omega arith }
