use Rattle.std.proofs.Common.{◌≤◌, false, Some, ap, ◌∙◌, arith}
use Rattle.std.proofs.lemmas.Option.{slice_get-get_or}
use Rattle.publisher.proofs.state.sources.first_missing.Goals as goal

pub returns-then-not-sources-source : goal.returns-then-not-sources-source
returns-then-not-sources-source c =
    let less = c.loop-source-test.true in
    let few : c.args.many ≤ 256 = c.requires in
    let long = c.told-sources in (
      less,
      (
        slice_get-get_or c.args.sources.now c.loop-source.source false (omega arith)
            ∙ ap Some c.if-not-sources-source.true,
        λ other before. c.loop-source.invariant.1 other before,
      ),
    )
