-- The end that is there has room for the items, and what it answered says what becomes of the subscription.
use Rattle.std.proofs.Common.{◌∙◌, option_map, ap, length, refl, subst, sym}
use Rattle.flow_rules.specs.Feed.{End}
use Rattle.publisher_hub.specs.Batch.{HasRoomFor}
use Rattle.publisher_hub.proofs.PartialRounds.Progress.{same_some}
use Rattle.publisher_hub.proofs.entry.Entry.put_all.Goals.{in-Accepted, in-Gone}
use Rattle.publisher_hub.proofs.entry.Entry.put_all.Goals as goal

has_room : (g : Rattle.publisher_hub.proofs.entry.Entry.put_all.Given.Over) (c : goal.In-Some g)
    → HasRoomFor (length c.args.items.items) (g.F.Feed.meaning c.in-Some.feed)
has_room g c =
    let can = c.requires.can c.if-self.false in
    let same = same_some (sym can.1.0 ∙ ap (λ feed. option_map g.F.Feed.meaning feed) c.in-Some.is) in
    subst (λ (end : End). HasRoomFor (length c.args.items.items) end) same can.1.1

pub put_all-answer-requires-clause-may : goal.put_all-answer-requires-clause-may
put_all-answer-requires-clause-may g c = (has_room g c).may

pub put_all-answer-requires-clause-room : goal.put_all-answer-requires-clause-room
put_all-answer-requires-clause-room g c = (has_room g c).room

pub put_all-answer-requires-clause-few : goal.put_all-answer-requires-clause-few
put_all-answer-requires-clause-few g c = (has_room g c).few

pub returns : goal.returns
returns g c = record {
  before = c.in-Some.feed;
  after = c.put_all-answer.new.self;
  live = c.if-self.false;
  was = c.in-Some.is;
  means = c.put_all-answer.ensures.means;
  exact = c.put_all-answer.ensures.exact;
  now = elim c.match-answer.branch [
    | in-Accepted w ↦ rw (w.self-is, w.in-Accepted.is) refl
    | in-Gone w ↦ rw (w.self-is, w.in-Gone.is, w.retire.ensures, c.if-self.false) refl
  ];
}
