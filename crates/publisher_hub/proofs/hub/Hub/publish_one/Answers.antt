-- A publication of one text, from what each of its steps says.
use Rattle.std.proofs.Common.{◌≤◌, ◌∙◌, None, ap, refl, subst, sym}
use Rattle.std.proofs.lemmas.Option.{slice_get_read}
use Rattle.publisher_hub.specs.Hub.{HubState, Progress, hub_of}
use Rattle.publisher_hub.specs.Offering.{item_of}
use Rattle.publisher_hub.specs.Publishing.{IsRefused, PublishesOne}
use Rattle.publisher_hub.specs.Sound.{IsSound, MOST_ENTRIES}
use Rattle.publisher_hub.specs.declared.hub.gathering.Gathering.{Gathering}
use Rattle.publisher_hub.specs.declared.hub.Hub.{Hub}
use Rattle.publisher_hub.proofs.Publications.AllSubscriptions.{can_all_put}
use Rattle.publisher_hub.proofs.Publications.OneText.{drops_fit, publishes_one, room_needed}
use Rattle.publisher_hub.proofs.Publications.WholePublication.{below_most}
use Rattle.publisher_hub.proofs.hub.Hub.publish_one.Given.{Over}
use Rattle.publisher_hub.proofs.hub.Hub.publish_one.Goals as goal

pub put-requires-clause-can : goal.put-requires-clause-can
put-requires-clause-can g c =
    let meaning = g.F.Feed.meaning in
    let seen = c.prepare_publication.new.self in
    let glances = c.in-Ok.ensures.ok in
    let sound = c.prepare_publication.ensures.sound in
    can_all_put meaning g.F.Feed.does (hub_of meaning seen) c.args.self.now.next glances.0 c.args.self.now.entries.items seen.entries.items sound refl
    (below_most seen.next sound.few_items c.in_default.ensures.1) glances.1.0

pub publication-requires : goal.publication-requires
publication-requires g c =
    let puts = c.put.ensures.puts in
    let few = drops_fit g.F.Feed.meaning g.F.Feed.does c.put.new.self.gathering puts.0 c.prepare_publication.new.self.entries.items puts.1.1.missed puts.1.0.answered
    c.prepare_publication.ensures.sound.few_entries in
    let drops = ap (λ (g : Gathering). g.drops) c.count.ensures.gathering ∙ c.drop_shares-2.ensures.drops
    ∙ ap (λ (h : Hub g.row.F.Denot). h.gathering.drops) c.count_drops.ensures ∙ c.decline.ensures.drops in
    record { few = subst (λ n. n ≤ MOST_ENTRIES) (sym drops) few }

pub returns-then-not-has-clause-refusals : goal.returns-then-not-has-clause-refusals
returns-then-not-has-clause-refusals g c =
    let looks = c.in-Ok.ensures.ok in
    let same = ap (λ (s : HubState). s.progress) c.prepare_publication.ensures.looked.rest in
    let shown = room_needed c.args.need c.in-Ok.room c.args.self.now.capacity c.args.self.now.entries.items looks.0 looks.1.1 in
    record {
      unchanged = c.prepare_publication.ensures.looked;
      why = (subst (λ (p : Progress). IsRefused p None) same c.in_default.ensures, (looks.0, (looks.1.0, shown.1 (sym c.has.ensures ∙ c.if-not-has.true))));
    }

-- the whole publication, from what its steps say
whole : (g : Over) (c : goal.After-publication g)
    → IsSound (hub_of g.F.Feed.meaning c.count.new.self)
    × PublishesOne g.F.Feed.meaning g.F.Feed.does c.args.need c.args.source c.args.texts.now c.args.self.now c.count.new.self c.args.due.now.items c.put.new.due.items c.publication.result
whole g c =
    let meaning = g.F.Feed.meaning in
    let stamp = c.next_stamp-stamp.ensures in
    let looks = c.in-Ok.ensures.ok in
    let puts = c.put.ensures.puts in
    let declined = c.decline.ensures in
    let gathered = c.count.ensures.gathering in
    let text = slice_get_read c.args.texts.now _ 0 c.index-texts-0.result refl c.requires.some c.index-texts-0.is in
    let shown = room_needed c.args.need c.in-Ok.room c.args.self.now.capacity c.args.self.now.entries.items looks.0 looks.1.1 in
    publishes_one meaning g.F.Feed.does c.args.need c.args.self.now c.prepare_publication.new.self c.put.new.self c.count_drops.new.self c.count.new.self c.decline.new.self
    (item_of c.next_stamp-stamp.result c.index-texts-0.result) c.args.source c.args.texts.now
    c.args.due.now c.prepare_publication.new.due c.put.new.due looks.0 puts.0 c.publication.result c.requires.sound c.requires.source stamp.source text stamp.serial stamp.seq c.prepare_publication.ensures.looked
    looks.1.0 (shown.0 (sym c.has.ensures ∙ c.if-not-has.false)) c.prepare_publication.ensures.due c.in_default.ensures puts.1.0 puts.1.1 c.put.ensures.rest
    declined.drops declined.lag declined.missed declined.shares c.count_drops.ensures c.count.ensures.rest c.count.ensures.entries
    (ap (λ (g : Gathering). g.lag) gathered ∙ c.drop_shares-2.ensures.lag)
    (ap (λ (g : Gathering). g.drops) gathered ∙ c.drop_shares-2.ensures.drops)
    c.publication.ensures

pub returns-clause-sound : goal.returns-clause-sound
returns-clause-sound g c = (whole g c).0

pub returns-clause-ok : goal.returns-clause-ok
returns-clause-ok g c = (whole g c).1
