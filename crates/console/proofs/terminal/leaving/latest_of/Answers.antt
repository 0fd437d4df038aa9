use Rattle.std.proofs.Common.{sym, ◌∙◌, arith}
use Rattle.console.proofs.LatestNames.{latest_found, none_more}
use Rattle.console.proofs.terminal.leaving.latest_of.Goals as goal

pub returns-then-eq-clause-latest : goal.returns-then-eq-clause-latest
returns-then-eq-clause-latest g c =
    latest_found c.args.name c.args.named.now c.loop-place.place c.index-named-place.result (omega arith) (omega arith) (sym c.eq.ensures ∙ c.if-eq.true) c.loop-place.invariant

pub loop-place-preserved : goal.loop-place-preserved
loop-place-preserved g c =
    none_more c.args.name c.args.named.now c.loop-place.place c.index-named-place.result (omega arith) (omega arith) (sym c.eq.ensures ∙ c.if-eq.false) c.loop-place.invariant
