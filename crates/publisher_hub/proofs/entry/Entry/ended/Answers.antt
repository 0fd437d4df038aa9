-- What one look showed decides.
use Rattle.std.proofs.Common.{rules, ◌≡◌, Bool, true, false, not, Some, refl}
use Rattle.publisher_hub.proofs.entry.Entry.ended.Goals as goal

went_on : (ended : Bool) → not ended ≡ true → ended ≡ true → ⊥
went_on true on is = cc
went_on false on is = cc

had_ended : (ended : Bool) → not ended ≡ false → ended ≡ false → ⊥
had_ended true off is = cc
had_ended false off is = cc

pub returns-then-not-standing : goal.returns-then-not-standing
returns-then-not-standing g c = (
  Some c.standing-standing.result,
  record {
    before = c.in-Some.feed;
    after = c.standing-standing.new.self;
    was = c.in-Some.is;
    stands = search rules;
    spent = λ ended. absurd (went_on c.standing-standing.result.ended c.if-not-standing.true ended);
    ended = λ ended. absurd (went_on c.standing-standing.result.ended c.if-not-standing.true ended);
    kept = λ _. refl;
    stays = λ _. refl;
  },
)

pub returns : goal.returns
returns g c = (
  Some c.standing-standing.result,
  record {
    before = c.in-Some.feed;
    after = c.standing-standing.new.self;
    was = c.in-Some.is;
    stands = search rules;
    spent = λ _. search rules;
    ended = λ _. search rules;
    kept = λ on. absurd (had_ended c.standing-standing.result.ended c.if-not-standing.false on);
    stays = λ on. absurd (had_ended c.standing-standing.result.ended c.if-not-standing.false on);
  },
)
