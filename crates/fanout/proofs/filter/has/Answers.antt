use Rattle.std.proofs.Common.{◌≡◌, ap, sym, ◌∙◌, rules, is_some}
use Rattle.memchr.proofs.lemmas.ValueLemmas.{FindsNeedle-value}
use Rattle.fanout.proofs.Words.{found_has}
use Rattle.fanout.proofs.filter.has.Goals as goal

pub returns-clause-means : goal.returns-clause-means
returns-clause-means c =
    let parts = found_has c.args.bytes.now c.args.word.now c.find.result c.find.ensures in
    let same : c.is_some.result ≡ is_some c.find.result = search rules in (
      (λ is. parts.0 (sym same ∙ is)),
      (λ has. same ∙ parts.1 has),
    )

pub returns-clause-value : goal.returns-clause-value
returns-clause-value c =
    let same : c.is_some.result ≡ is_some c.find.result = search rules in
    same ∙ ap is_some (FindsNeedle-value c.args.bytes.now c.args.word.now c.find.result c.find.ensures)
