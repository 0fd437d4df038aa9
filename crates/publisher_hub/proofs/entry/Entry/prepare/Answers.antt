-- One that goes on was asked to be ready.
use Rattle.std.proofs.Common.{rules, ◌≡◌, Bool, true, false, not, Result, Ok, Err, OnErr, refl}
use Rattle.publisher_hub.proofs.entry.Entry.prepare.Goals as goal

on_err : {A E : Type 0} (r : Result A E) (P : Type 0) → P → OnErr r P
on_err (Ok x) P p = _
on_err (Err e) P p = p

-- what the test of a look shows
off : (ended : Bool) → not ended ≡ true → ended ≡ false
off true on = cc
off false on = refl

went_on : (ended : Bool) → not ended ≡ true → ended ≡ true → ⊥
went_on true on is = cc
went_on false on is = cc

pub returns-in_err-make_ready-clause-refused : goal.returns-in_err-make_ready-clause-refused
returns-in_err-make_ready-clause-refused g c = on_err c.from_residual.result _ (record {
  middle = c.look.new.self;
  standing = c.in-Some.standing;
  answer = c.make_ready.result;
  sees = search rules;
  goes_on = search off;
  refused = search rules;
  readied = c.make_ready.ensures;
})

pub returns-in_ok-make_ready-clause-ok : goal.returns-in_ok-make_ready-clause-ok
returns-in_ok-make_ready-clause-ok g c = record {
  middle = c.look.new.self;
  sees = search rules;
  ended = λ ended. absurd (went_on c.in-Some.standing.ended (search off) ended);
  stays = λ _. (c.make_ready.result, (search rules, c.make_ready.ensures));
}
