-- No number before has the name.
use Rattle.std.proofs.Common.{◌≡◌, ◌⊎◌, ◌<◌, Some, length, sym, subst, ◌∙◌, inl, inr, arith, slice_index_or}
use Rattle.std.specs.Prelude.{slice_get}
use Rattle.std.proofs.lemmas.Option.{slice_get_within}
use Rattle.publisher_hub.specs.Subscribing.{IsNotNamed}
use Rattle.publisher_hub.proofs.PartialRounds.Next.{number_at}
use Rattle.publisher_hub.proofs.PartialRounds.Progress.{below_or_last, same_some}
use Rattle.publisher_hub.proofs.hub.look.find_named.Goals as goal

pub loop-number-preserved : goal.loop-number-preserved
loop-number-preserved g c i number before at = by (below_or_last i c.loop-number.number-index before) where
  by : (i < c.loop-number.number-index) ⊎ (i ≡ c.loop-number.number-index) → IsNotNamed c.args.name number c.args.entries.now
  by (inl below) = c.loop-number.invariant i number below at
  by (inr last) =
      let this = number_at c.args.live.now c.loop-number.number-index c.loop-number-test.true in
      let same : slice_index_or c.args.live.now c.loop-number.number-index 0 ≡ number =
      same_some (sym this ∙ subst (λ j. slice_get c.args.live.now j ≡ Some number) last at) in
      subst (λ n. IsNotNamed c.args.name n c.args.entries.now) same (c.is_named.ensures.no c.if-is_named.false)

pub returns-clause-none : goal.returns-clause-none
returns-clause-none g c is i number at =
    let within : i < length c.args.live.now = slice_get_within c.args.live.now i number at in
    let done : c.loop-number.number-index ≡ length c.args.live.now = omega arith in
    c.loop-number.invariant i number (omega arith) at

pub returns-then-is_named-clause-none : goal.returns-then-is_named-clause-none
returns-then-is_named-clause-none g c is = cc

pub returns-then-is_named-clause-found : goal.returns-then-is_named-clause-found
returns-then-is_named-clause-found g c = (
  c.loop-number.number-index,
  (number_at c.args.live.now c.loop-number.number-index c.loop-number-test.true, c.is_named.ensures.yes c.if-is_named.true),
)

pub returns-clause-found : goal.returns-clause-found
returns-clause-found g c = tt

pub loop-number-init : goal.loop-number-init
loop-number-init g c i number before at = absurd (omega arith)
