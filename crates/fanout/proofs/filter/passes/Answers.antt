use Rattle.std.proofs.Common.{rules, sym, refl, ◌∙◌, ap, take}
use Rattle.std.proofs.lemmas.List.{take_all}
use Rattle.std.proofs.lemmas.List.Elements.{All-more, All-same}
use Rattle.std.proofs.lemmas.List.Folds.{list_all_more}
use Rattle.std.specs.List.{list_all}
use Rattle.fanout.specs.Filter.{Admits, admits}
use Rattle.fanout.proofs.filter.passes.Goals as goal

pub loop-rule-preserved : goal.loop-rule-preserved
loop-rule-preserved c = (
  All-more (Admits c.args.first.now) c.args.rules.now c.loop-rule.rule-index c.rule-item.result
      (search rules) c.loop-rule.invariant.0 (search rules),
  list_all_more (admits c.args.first.now) c.args.rules.now c.loop-rule.rule-index c.rule-item.result (search rules)
      ∙ rw c.loop-rule.invariant.1 (search rules),
)

pub returns : goal.returns
returns c =
    let all = take_all c.loop-rule.rule-index c.args.rules.now (search rules) in
    record {
      means = (
        (λ is. All-same (Admits c.args.first.now) c.args.rules.now (take c.loop-rule.rule-index c.args.rules.now)
            (sym all) c.loop-rule.invariant.0),
        (λ all. refl),
      );
      value = sym c.loop-rule.invariant.1 ∙ ap (list_all (admits c.args.first.now)) all;
    }
