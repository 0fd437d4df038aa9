use Rattle.std.proofs.Common.{◌≡◌, ◌⊎◌, ℕ, Some, inl, inr, arith}
use Rattle.async_pool.proofs.Sources.{is_left_out, not_told, places_all, places_more}
use Rattle.async_pool.proofs.source.steal_first.Goals as goal

pub loop-place-init : goal.loop-place-init
loop-place-init g c = λ k source less at. absurd (omega arith)

pub loop-place-preserved-then-eq : goal.loop-place-preserved-then-eq
loop-place-preserved-then-eq g c = places_more (λ (k : ℕ) (source : g.row.T.Denot). (c.args.left_out ≡ Some k) ⊎ g.T.Source.was_empty source) c.args.sources.now c.loop-place.place c.index-sources-place.result c.loop-place-test.true c.index-sources-place.is c.loop-place.invariant
    (inl (is_left_out c.args.left_out c.loop-place.place c.eq.result c.eq.ensures c.if-eq.true))

pub loop-place-preserved : goal.loop-place-preserved
loop-place-preserved g c = places_more (λ (k : ℕ) (source : g.row.T.Denot). (c.args.left_out ≡ Some k) ⊎ g.T.Source.was_empty source) c.args.sources.now c.loop-place.place c.index-sources-place.result c.loop-place-test.true c.index-sources-place.is c.loop-place.invariant
    (inr (not_told c.steal-job.result c.is_some.result _ c.is_some.ensures c.if-is_some.false c.steal-job.ensures))

pub returns : goal.returns
returns g c = places_all (λ (k : ℕ) (source : g.row.T.Denot). (c.args.left_out ≡ Some k) ⊎ g.T.Source.was_empty source) c.args.sources.now c.loop-place.place c.loop-place-test.false c.loop-place.invariant
