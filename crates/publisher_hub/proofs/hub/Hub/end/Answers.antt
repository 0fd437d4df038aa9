-- A Hub that was closed stays as it is.
use Rattle.std.proofs.Common.{◌≡◌, Bool, true, false, Option, None, Some, is_some, refl, ap, sym, ◌∙◌}
use Rattle.std.specs.Prelude.{IsSome}
use Rattle.publisher_hub.proofs.hub.Hub.end.Goals as goal

-- what a test for an ending shows
none_by : {A : Type 0} (o : Option A) → is_some o ≡ false → o ≡ None
none_by None off = refl
none_by (Some x) off = cc

not_some : {A : Type 0} (o : Option A) (test : Bool) → test ≡ is_some o → test ≡ false → IsSome o → ⊥
not_some o test is off some = let no : true ≡ false = sym some ∙ sym is ∙ off in cc

not_none : {A : Type 0} (o : Option A) (test : Bool) → test ≡ is_some o → test ≡ true → o ≡ None → ⊥
not_none o test is on none = let no : true ≡ false = sym on ∙ is ∙ ap is_some none in cc

pub end_open-requires-clause-unclosed : goal.end_open-requires-clause-unclosed
end_open-requires-clause-unclosed g c = none_by c.args.self.now.ending (sym c.is_some.ensures ∙ c.if-is_some.false)

pub returns-clause-first : goal.returns-clause-first
returns-clause-first g c none = c.end_open.ensures.closes

pub returns-clause-means : goal.returns-clause-means
returns-clause-means g c none = c.end_open.ensures.means

pub returns-clause-later : goal.returns-clause-later
returns-clause-later g c some = absurd (not_some c.args.self.now.ending c.is_some.result c.is_some.ensures c.if-is_some.false some)

pub returns-then-is_some-clause-first : goal.returns-then-is_some-clause-first
returns-then-is_some-clause-first g c none =
    absurd (not_none c.args.self.now.ending c.is_some.result c.is_some.ensures c.if-is_some.true none)

pub returns-then-is_some-clause-means : goal.returns-then-is_some-clause-means
returns-then-is_some-clause-means g c none =
    absurd (not_none c.args.self.now.ending c.is_some.result c.is_some.ensures c.if-is_some.true none)

pub returns-then-is_some-clause-later : goal.returns-then-is_some-clause-later
returns-then-is_some-clause-later g c some = (refl, (refl, refl))

pub returns-then-is_some-clause-looked : goal.returns-then-is_some-clause-looked
returns-then-is_some-clause-looked g c = tt
