use Rattle.std.proofs.Common.{◌+◌, ◌<◌, ◌^◌, take, count_by, length, ap, ◌∙◌, arith, rules}
use Rattle.std.proofs.Math.Seq.{length-take-le}
use Rattle.std.proofs.lemmas.List.{take_rest}
use Rattle.std.proofs.lemmas.List.Sums.{count_by-le-length}
use Rattle.memchr.specs.Find.{is_byte, places}
use Rattle.fanout.proofs.Ends.{count_plus, count_rest}
use Rattle.fanout.proofs.lines.count_feeds.Goals as goal

pub overflow_add-feeds : goal.overflow_add-feeds
overflow_add-feeds c =
    let both = count_plus c.args.bytes.now c.loop-at.at 64 in
    let few = count_by-le-length (is_byte 10) (take (c.loop-at.at + 64) c.args.bytes.now) in
    let long = length-take-le (c.loop-at.at + 64) c.args.bytes.now (omega arith) in
    let top : c.loop-at.at + 64 < 2 ^ 64 = search rules in
    omega (arith, both, few, long, top, c.loop-at.invariant.1, c.feeds_at-feeds.ensures)

pub loop-at-preserved : goal.loop-at-preserved
loop-at-preserved c =
    let both = count_plus c.args.bytes.now c.loop-at.at 64 in
    (omega arith, omega (arith, both, c.loop-at.invariant.1, c.feeds_at-feeds.ensures))

pub returns : goal.returns
returns c =
    let at = c.loop-at.at in
    let rest = c.count.ensures ∙ ap length (c.memchr_iter.ensures.value ∙ ap (places (is_byte 10)) (take_rest c.args.bytes.now at)) in
    rw c.loop-at.invariant.1 (ap (λ n. count_by (is_byte 10) (take at c.args.bytes.now) + n) rest ∙ count_rest c.args.bytes.now at)
