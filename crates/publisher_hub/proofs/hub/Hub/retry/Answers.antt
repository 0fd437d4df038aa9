-- Without a handler, the drops stand.
use Rattle.std.proofs.Common.{◌≡◌, ◌∙◌, true, Option, None, Some, is_none, map, refl}
use Rattle.std.proofs.lemmas.List.{with_items_is}
use Rattle.publisher_hub.specs.Gathering.{stands}
use Rattle.publisher_hub.proofs.Publications.FullBuffers.{passes_declined}
use Rattle.publisher_hub.proofs.hub.Hub.retry.Goals as goal

-- what is there is not missing
not_none : {A : Type 0} (o : Option A) (x : A) → o ≡ Some x → is_none o ≡ true → ⊥
not_none None x is none = cc
not_none (Some y) x is none = cc

pub retry_all-requires-clause-numbers : goal.retry_all-requires-clause-numbers
retry_all-requires-clause-numbers g c _ _ = rw c.deref_mut.ensures.value c.requires.numbers

pub retry_all-requires-clause-can : goal.retry_all-requires-clause-can
retry_all-requires-clause-can g c _ _ = rw c.deref_mut.ensures.value c.requires.can

pub returns-in-Some-clause-passes : goal.returns-in-Some-clause-passes
returns-in-Some-clause-passes g c puts are long =
    let whole = with_items_is c.args.self.now.entries c.retry_all.new.entries (c.retry_all.auto.entries ∙ c.deref_mut.ensures.len) in
    let given = c.retry_all.ensures.puts in
    let gathers = given.1.1.1 in (
      given.0,
      record { again = rw (whole, ← c.deref_mut.ensures.value) given.1.0; revisited = rw (← are) given.1.1.0; declined = λ none. absurd (not_none _ _ c.in-Some.is none); gathers = record { due = gathers.due; lag = gathers.lag; drops = gathers.drops; missed = gathers.missed; shares = gathers.shares } },
    )

pub returns-in-Some-clause-rest : goal.returns-in-Some-clause-rest
returns-in-Some-clause-rest g c = refl

pub returns-in-None-clause-rest : goal.returns-in-None-clause-rest
returns-in-None-clause-rest g c = refl

pub returns-in-None-clause-passes : goal.returns-in-None-clause-passes
returns-in-None-clause-passes g c puts are long = (
  map stands puts,
  passes_declined g.F.Feed.meaning g.F.Feed.does c.args.item.now _ puts c.args.self.now.entries.items c.args.self.now.gathering c.decline.new.self c.args.due.now long c.decline.ensures.drops are
      c.decline.ensures.lag c.decline.ensures.missed c.decline.ensures.shares c.requires.shares,
)
