-- As many texts are published as have room everywhere.
use Rattle.std.proofs.Common.{rules, ◌≡◌, ◌∙◌, None, Some, List, ap, arith, length, refl, subst, sym, take}
use Rattle.std.specs.Prelude.{slice_get}
use Rattle.std.proofs.lemmas.Bool.{not-false, not-true}
use Rattle.std.proofs.lemmas.List.{length-take, length-take-le}
use Rattle.flow_rules.specs.declared.item.Item.{Item}
use Rattle.flow_rules.specs.declared.item.TheConstants.{MOST_PUBLICATIONS}
use Rattle.publisher_hub.specs.Hub.{HubState, Progress, hub_of}
use Rattle.publisher_hub.specs.Lists.{EachBy}
use Rattle.publisher_hub.specs.Publishing.{IsRefused}
use Rattle.publisher_hub.specs.Batch.{CanAllPutBatch, PublishesBatch, PutsBatchTo, items_from}
use Rattle.publisher_hub.specs.Sound.{IsSound}
use Rattle.publisher_hub.specs.declared.hub.Hub.{Hub}
use Rattle.publisher_hub.proofs.Publications.WholePublication.{known_of}
use Rattle.publisher_hub.proofs.BatchTexts.AllSubscriptions.{can_all_put_batch}
use Rattle.publisher_hub.proofs.BatchTexts.InTurn.{progress_later}
use Rattle.publisher_hub.proofs.BatchTexts.Items.{as_many_items}
use Rattle.publisher_hub.proofs.BatchTexts.Refused.{prepared_in_part}
use Rattle.publisher_hub.proofs.BatchTexts.Whole.{fits_seen, publishes_batch}
use Rattle.publisher_hub.proofs.hub.Hub.publish_batch.Given.{Over}
use Rattle.publisher_hub.proofs.hub.Hub.publish_batch.Goals.{After-count}
use Rattle.publisher_hub.proofs.hub.Hub.publish_batch.Goals as goal

pub returns-in-Err-clause-refusals : goal.returns-in-Err-clause-refusals
returns-in-Err-clause-refusals g c = record { unchanged = c.prepare_batch.ensures.looked; why = c.in-Err.ensures.exact }

pub returns-in-Some-clause-refusals : goal.returns-in-Some-clause-refusals
returns-in-Some-clause-refusals g c = record { unchanged = c.prepare_batch.ensures.looked; why = search rules }

pub returns-then-not-room-clause-refusals : goal.returns-then-not-room-clause-refusals
returns-then-not-room-clause-refusals g c =
    let looks = c.in-Ok.ensures.ok in
    let same = ap (λ (s : HubState). s.progress) c.prepare_batch.ensures.looked.rest in
    record {
      unchanged = c.prepare_batch.ensures.looked;
      why = (subst (λ (p : Progress). IsRefused p None) same c.in_default.ensures, (looks.0, (looks.1.0, looks.1.1.all.missing (not-true c.in-Ok.room.everywhere c.if-not-room.true))));
    }

pub batches-requires-clause-few_of_source : goal.batches-requires-clause-few_of_source
batches-requires-clause-few_of_source g c =
    let sound = c.prepare_batch.ensures.sound in
    let stamp = c.next_stamp-stamp.ensures in
    let few = sound.few_counts c.args.source c.next_stamp-stamp.result.seq stamp.seq in
    let few_items = sound.few_items in
    let many = c.fitting-many.ensures in
    let taken = length-take c.fitting-many.result c.args.texts.now in
    omega arith

pub returns-in-Err-batches-clause-refusals : goal.returns-in-Err-batches-clause-refusals
returns-in-Err-batches-clause-refusals g c =
    let looks = c.in-Ok.ensures.ok in
    record {
      unchanged = c.prepare_batch.ensures.looked;
      why = prepared_in_part g.F.Feed.meaning g.F.Feed.does c.args.self.now c.prepare_batch.new.self looks.0 looks.1.0;
    }

pub put_batches-lag-requires-clause-can : goal.put_batches-lag-requires-clause-can
put_batches-lag-requires-clause-can g c =
    let meaning = g.F.Feed.meaning in
    let old = c.args.self.now in
    let seen = c.prepare_batch.new.self in
    let looks = c.in-Ok.ensures.ok in
    let sound = c.prepare_batch.ensures.sound in
    let fit = fits_seen meaning g.F.Feed.does old seen c.fitting-many.result c.in-Ok.room.least c.args.texts.now looks.0 sound c.prepare_batch.ensures.rest c.in_default.ensures c.requires.some
    (looks.1.1.all.there (not-false c.in-Ok.room.everywhere c.if-not-room.false)) looks.1.1.least c.fitting-many.ensures in
    let next = ap (λ (h : Hub g.row.F.Denot). h.next) c.prepare_batch.ensures.rest in
    let unclosed = sym (ap (λ (h : Hub g.row.F.Denot). h.ending) c.prepare_batch.ensures.rest) ∙ c.in_default.ensures.0 in
    let known = known_of meaning g.F.Feed.does (hub_of meaning old) old.entries.items c.requires.sound refl unclosed in
    let texts = take c.fitting-many.result c.args.texts.now in
    let stamp = c.next_stamp-stamp.result in
    let items = items_from stamp.source stamp.seq stamp.serial texts in
    let some = fit.some in
    let few = fit.few in
    let taken = length-take-le c.fitting-many.result c.args.texts.now fit.within in
    let many : length items ≡ c.fitting-many.result = as_many_items stamp.source stamp.seq stamp.serial texts ∙ taken in
    let can = can_all_put_batch meaning g.F.Feed.does (hub_of meaning seen) old.next old.capacity c.fitting-many.result MOST_PUBLICATIONS looks.0 old.entries.items seen.entries.items sound refl (omega arith) some fit.least
    (λ k entry at e was. (known k entry at e was).1) looks.1.0 in
    (items, (c.in-Ok-batches.ensures.ok, (omega arith, subst (λ n. CanAllPutBatch n (hub_of meaning seen).entries) (sym many) can)))

pub count-requires-clause-there : goal.count-requires-clause-there
count-requires-clause-there g c =
    let stamp = c.next_stamp-stamp in
    subst (λ (h : Hub g.row.F.Denot). slice_get h.counts.items stamp.result.source ≡ Some stamp.result.seq) (sym c.put_batches-lag.ensures.rest)
    (subst (λ s. slice_get c.prepare_batch.new.self.counts.items s ≡ Some stamp.result.seq) (sym stamp.ensures.source) stamp.ensures.seq)

pub count-requires-clause-few_of_source : goal.count-requires-clause-few_of_source
count-requires-clause-few_of_source g c =
    let sound = c.prepare_batch.ensures.sound in
    let few = sound.few_counts c.args.source c.next_stamp-stamp.result.seq c.next_stamp-stamp.ensures.seq in
    let few_items = sound.few_items in
    let many = c.fitting-many.ensures in
    omega arith

-- the whole publication, from what its steps say
whole : (g : Over) (c : After-count g)
    → IsSound (hub_of g.F.Feed.meaning c.count.new.self)
    × PublishesBatch g.F.Feed.meaning g.F.Feed.does c.args.source c.args.texts.now c.args.self.now c.count.new.self c.args.due.now.items c.put_batches-lag.new.due.items
    (record { many = c.fitting-many.result; lost = 0; dropped = 0; lag = c.put_batches-lag.result })
whole g c =
    let meaning = g.F.Feed.meaning in
    let does = g.F.Feed.does in
    let old = c.args.self.now in
    let seen = c.prepare_batch.new.self in
    let given = c.put_batches-lag.new.self in
    let looks = c.in-Ok.ensures.ok in
    let rest = c.prepare_batch.ensures.rest in
    let fit = fits_seen meaning does old seen c.fitting-many.result c.in-Ok.room.least c.args.texts.now looks.0 c.prepare_batch.ensures.sound rest c.in_default.ensures c.requires.some
    (looks.1.1.all.there (not-false c.in-Ok.room.everywhere c.if-not-room.false)) looks.1.1.least c.fitting-many.ensures in
    let unclosed = sym (ap (λ (h : Hub g.row.F.Denot). h.ending) rest) ∙ c.in_default.ensures.0 in
    let stamp = c.next_stamp-stamp.result in
    let numbered = c.next_stamp-stamp.ensures in
    let was : slice_get old.counts.items c.args.source ≡ Some stamp.seq =
    subst (λ (h : Hub g.row.F.Denot). slice_get h.counts.items c.args.source ≡ Some stamp.seq) rest numbered.seq in
    let next : seen.next ≡ old.next = ap (λ (h : Hub g.row.F.Denot). h.next) rest in
    let texts = take c.fitting-many.result c.args.texts.now in
    let items : items_from stamp.source stamp.seq stamp.serial texts ≡ items_from c.args.source stamp.seq old.next texts =
    ap (λ s. items_from s stamp.seq stamp.serial texts) numbered.source ∙ ap (λ n. items_from c.args.source stamp.seq n texts) (numbered.serial ∙ next) in
    let puts = c.put_batches-lag.ensures.puts (items_from stamp.source stamp.seq stamp.serial texts) c.in-Ok-batches.ensures.ok in
    let gave = subst (λ (xs : List Item). EachBy (PutsBatchTo meaning does old.next xs) puts.0 seen.entries.items given.entries.items) items
    (subst (λ n. EachBy (PutsBatchTo meaning does n (items_from stamp.source stamp.seq stamp.serial texts)) puts.0 seen.entries.items given.entries.items) next puts.1.0) in
    let counted = subst (λ s. hub_of meaning c.count.new.self ≡ record (hub_of meaning given) { progress = progress_later s stamp.seq c.fitting-many.result (hub_of meaning given).progress })
    numbered.source c.count.ensures.rest in
    publishes_batch meaning does old seen given c.count.new.self c.args.source stamp.seq c.fitting-many.result c.put_batches-lag.result c.args.texts.now c.args.due.now.items c.prepare_batch.new.due.items c.put_batches-lag.new.due.items
    looks.0 puts.0 c.requires.sound c.requires.source was unclosed fit c.prepare_batch.ensures.looked looks.1.0 c.prepare_batch.ensures.due gave puts.1.1 c.put_batches-lag.ensures.rest
    counted c.count.ensures.entries

pub returns-clause-sound : goal.returns-clause-sound
returns-clause-sound g c = (whole g c).0

pub returns-clause-ok : goal.returns-clause-ok
returns-clause-ok g c = (whole g c).1
