-- What the end answered says what becomes of the subscription.
use Rattle.std.proofs.Common.{refl}
use Rattle.publisher_hub.proofs.entry.Entry.put.Goals.{in-Accepted, in-Full, in-Gone}
use Rattle.publisher_hub.proofs.entry.Entry.put.Goals as goal

pub returns : goal.returns
returns g c = record {
  before = c.in-Some.feed;
  after = c.put-answer.new.self;
  live = c.if-self.false;
  was = c.in-Some.is;
  means = c.put-answer.ensures.means;
  exact = c.put-answer.ensures.exact;
  now = elim c.match-answer.branch [
    | in-Accepted w ↦ rw (w.self-is, w.in-Accepted.is) refl
    | in-Full w ↦ rw (w.self-is, w.in-Full.is) refl
    | in-Gone w ↦ rw (w.self-is, w.in-Gone.is, w.retire.ensures, c.if-self.false) refl
  ];
}
