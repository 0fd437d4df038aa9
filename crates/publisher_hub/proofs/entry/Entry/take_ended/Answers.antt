-- What the look showed decides.
use Rattle.std.proofs.Common.{rules, ◌≡◌, Bool, true, false, not, Some, refl, sym, ◌∙◌}
use Rattle.publisher_hub.proofs.entry.Entry.take_ended.Goals as goal

goes_on : (ended : Bool) → not ended ≡ true → ended ≡ false
goes_on true on = cc
goes_on false on = refl

has_ended : (ended : Bool) → not ended ≡ false → ended ≡ true
has_ended true off = refl
has_ended false off = cc

pub returns-then-not-standing : goal.returns-then-not-standing
returns-then-not-standing g c = (
  Some c.standing.result,
  record {
    before = c.in_ok-feed.feed;
    after = c.standing.new.self;
    was = sym c.take.ensures.value ∙ c.in_ok-feed.was;
    stands = search rules;
    goes_on = goes_on c.standing.result.ended c.if-not-standing.true;
    now = refl;
  },
)

pub returns : goal.returns
returns g c = (
  Some c.standing.result,
  record {
    before = c.in_ok-feed.feed;
    was = sym c.take.ensures.value ∙ c.in_ok-feed.was;
    stands = search rules;
    ended = has_ended c.standing.result.ended c.if-not-standing.false;
    ticket_is = search rules;
    now = rw (c.retire.ensures, c.take.ensures.after) search rules;
  },
)
