-- Each text is the next item's.
use Rattle.std.proofs.Common.{◌∙◌, ap, refl, rules, take}
use Rattle.std.proofs.Math.Numerals.{suc-eq-add-one}
use Rattle.std.proofs.lemmas.Option.{slice_get_read}
use Rattle.publisher_hub.specs.Batch.{items_from}
use Rattle.publisher_hub.proofs.BatchTexts.Items.{items_more}
use Rattle.publisher_hub.proofs.hub.batch.items_of.Goals as goal

pub loop-place-preserved : goal.loop-place-preserved
loop-place-preserved c =
    let place = c.loop-place.place in
    let next = slice_get_read c.args.texts.now _ place c.index-texts-place.result refl c.loop-place-test.true c.index-texts-place.is in
    let more = items_more c.args.stamp.source c.args.stamp.seq c.args.stamp.serial c.args.texts.now place c.index-texts-place.result next
    ∙ ap (λ n. items_from c.args.stamp.source c.args.stamp.seq c.args.stamp.serial (take n c.args.texts.now)) (suc-eq-add-one place) in
    record {
      items = rw (c.push_reserved.ensures.items, c.loop-place.invariant.items, c.in_ok-share.ensures.same) more;
      many = search rules;
      room = search rules;
    }
