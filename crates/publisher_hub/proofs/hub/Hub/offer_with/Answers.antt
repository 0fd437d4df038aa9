-- An offer, from what each of its steps says.
use Rattle.std.proofs.Common.{rules, ◌≡◌, ◌≤◌, ◌∙◌, Some, ap, length, of_z, refl, sym, subst, to_z, w64}
use Rattle.std.specs.Prelude.{is_none, slice_get}
use Rattle.flow_rules.specs.declared.item.Item.{Item}
use Rattle.flow_rules.specs.declared.item.TheConstants.{MOST_PUBLICATIONS}
use Rattle.publisher_hub.specs.Hub.{hub_of}
use Rattle.publisher_hub.specs.Gathering.{AreShares, missed}
use Rattle.publisher_hub.specs.Offering.{Counts, ReachesAllFrom, item_of}
use Rattle.publisher_hub.specs.Publishing.{OffersItem, PassesAgain, offer_answer}
use Rattle.publisher_hub.specs.Sound.{AreNumbers, IsSound}
use Rattle.publisher_hub.specs.declared.hub.gathering.Gathering.{Gathering}
use Rattle.publisher_hub.proofs.Publications.FullBuffers.{missed_numbers}
use Rattle.publisher_hub.proofs.Publications.AllSubscriptions.{can_all_put}
use Rattle.publisher_hub.proofs.Publications.Backlogs.{offer_shows}
use Rattle.publisher_hub.proofs.Publications.WholePublication.{below_most, known_of}
use Rattle.publisher_hub.proofs.Publications.SecondTries.{can_each_retry}
use Rattle.publisher_hub.proofs.Publications.WholeOffer.{answer_fits, few_missed, offers_item}
use Rattle.publisher_hub.proofs.hub.Hub.offer_with.Given.{Over}
use Rattle.publisher_hub.proofs.hub.Hub.offer_with.Goals as goal

pub put-requires-clause-can : goal.put-requires-clause-can
put-requires-clause-can g c =
    let seen = c.prepare_publication.new.self in
    let looks = c.in_ok-prepare_publication.ensures.ok in
    let sound = c.prepare_publication.ensures.sound in
    can_all_put g.F.Feed.meaning g.F.Feed.does (hub_of g.F.Feed.meaning seen) c.args.self.now.next looks.0 c.args.self.now.entries.items seen.entries.items sound refl
    (below_most seen.next sound.few_items c.in_default.ensures.1) looks.1.0

pub retry-requires-clause-numbers : goal.retry-requires-clause-numbers
retry-requires-clause-numbers g c _ _ =
    let puts = c.put.ensures.puts in
    subst (λ numbers. AreNumbers numbers (length c.put.new.self.entries.items)) (sym puts.1.1.missed)
    (subst (λ many. AreNumbers (missed puts.0) many) (puts.1.0.answered ∙ sym puts.1.0.as_long) (missed_numbers puts.0))

pub retry-requires-clause-few : goal.retry-requires-clause-few
retry-requires-clause-few g c _ _ =
    let puts = c.put.ensures.puts in
    few_missed g.F.Feed.meaning g.F.Feed.does c.put.new.self.gathering puts.0 c.prepare_publication.new.self.entries.items puts.1.1.missed puts.1.0.answered c.prepare_publication.ensures.sound.few_entries

pub retry-requires-clause-can : goal.retry-requires-clause-can
retry-requires-clause-can g c _ _ i k entry at stands =
    let meaning = g.F.Feed.meaning in
    let seen = c.prepare_publication.new.self in
    let looks = c.in_ok-prepare_publication.ensures.ok in
    let sound = c.prepare_publication.ensures.sound in
    let puts = c.put.ensures.puts in
    let can = can_all_put meaning g.F.Feed.does (hub_of meaning seen) c.args.self.now.next looks.0 c.args.self.now.entries.items seen.entries.items sound refl
    (below_most seen.next sound.few_items c.in_default.ensures.1) looks.1.0 in
    can_each_retry meaning g.F.Feed.does (item_of c.next_stamp-stamp.result c.args.text) puts.0 seen.entries.items c.put.new.self.entries.items can puts.1.0
    (λ j one at_j e was. (known_of meaning g.F.Feed.does (hub_of meaning seen) seen.entries.items sound refl c.in_default.ensures.0 j one at_j e was).0)
    i k entry (subst (λ numbers. slice_get numbers i ≡ Some k) puts.1.1.missed at) stands

pub retry-requires-clause-shares : goal.retry-requires-clause-shares
retry-requires-clause-shares g c _ _ = subst (λ (x : Item). AreShares x c.put.new.self.gathering.shares.items) (sym c.item-item.ensures) c.put.ensures.puts.1.1.shares

-- the numbers of the answer are small
fits : (g : Over) (c : goal.After-count g)
    → (c.count.new.self.gathering.lag ≤ MOST_PUBLICATIONS) × (c.count.new.self.gathering.drops ≤ MOST_PUBLICATIONS)
fits g c =
    let meaning = g.F.Feed.meaning in
    let does = g.F.Feed.does in
    let seen = c.prepare_publication.new.self in
    let old = c.args.self.now in
    let looks = c.in_ok-prepare_publication.ensures.ok in
    let puts = c.put.ensures.puts in
    let again = c.retry.ensures.passes puts.0 puts.1.1.missed (puts.1.0.answered ∙ sym puts.1.0.as_long) in
    let passes = subst (λ (x : Item). PassesAgain meaning does x (is_none c.args.handler) puts.0 again.0 c.put.new.self.entries.items c.retry.new.self.entries.items c.put.new.self.gathering c.retry.new.self.gathering c.put.new.due c.retry.new.due)
    c.item-item.ensures again.1 in
    let gathered = c.count.ensures.gathering in
    answer_fits meaning does seen c.put.new.self c.retry.new.self c.count_drops.new.self c.count.new.self (item_of c.next_stamp-stamp.result c.args.text) _
    c.prepare_publication.new.due c.put.new.due c.retry.new.due old.next old.entries.items looks.0 puts.0 again.0 c.prepare_publication.ensures.sound
    looks.1.0 c.in_default.ensures puts.1.0 puts.1.1 passes c.count_drops.ensures
    (ap (λ (g : Gathering). g.lag) gathered ∙ c.drop_shares-2.ensures.lag)
    (ap (λ (g : Gathering). g.drops) gathered ∙ c.drop_shares-2.ensures.drops)

pub answer-requires-clause-lag : goal.answer-requires-clause-lag
answer-requires-clause-lag g c = (fits g c).0

pub answer-requires-clause-drops : goal.answer-requires-clause-drops
answer-requires-clause-drops g c = (fits g c).1

-- the whole offer, from what its steps say
whole : (g : Over) (c : goal.Joined-item g)
    → IsSound (hub_of g.F.Feed.meaning c.count.new.self)
    × OffersItem g.F.Feed.meaning g.F.Feed.does c.args.source c.args.text (is_none c.args.handler) c.args.self.now c.count.new.self
    c.args.due.now.items c.retry.new.due.items
    (offer_answer c.count.new.self.gathering.drops c.count.new.self.gathering.lag)
whole g c =
    let meaning = g.F.Feed.meaning in
    let does = g.F.Feed.does in
    let seen = c.prepare_publication.new.self in
    let stamp = c.next_stamp-stamp.ensures in
    let looks = c.in_ok-prepare_publication.ensures.ok in
    let puts = c.put.ensures.puts in
    let again = c.retry.ensures.passes puts.0 puts.1.1.missed (puts.1.0.answered ∙ sym puts.1.0.as_long) in
    let passes = subst (λ (x : Item). PassesAgain meaning does x (is_none c.args.handler) puts.0 again.0 c.put.new.self.entries.items c.retry.new.self.entries.items c.put.new.self.gathering c.retry.new.self.gathering c.put.new.due c.retry.new.due)
    c.item-item.ensures again.1 in
    let gathered = c.count.ensures.gathering in
    offers_item meaning does c.args.self.now seen c.put.new.self c.retry.new.self c.count_drops.new.self c.count.new.self
    (item_of c.next_stamp-stamp.result c.args.text) c.args.source c.args.text _ c.args.due.now c.prepare_publication.new.due c.put.new.due c.retry.new.due
    looks.0 puts.0 again.0 c.requires.sound c.requires.source stamp.source refl stamp.serial stamp.seq c.prepare_publication.ensures.looked
    looks.1.0 c.prepare_publication.ensures.due c.in_default.ensures puts.1.0 puts.1.1 c.put.ensures.rest passes c.retry.ensures.rest
    c.count_drops.ensures c.count.ensures.rest c.count.ensures.entries
    (ap (λ (g : Gathering). g.lag) gathered ∙ c.drop_shares-2.ensures.lag)
    (ap (λ (g : Gathering). g.drops) gathered ∙ c.drop_shares-2.ensures.drops)

pub returns-clause-sound : goal.returns-clause-sound
returns-clause-sound g c = (whole g c).0

-- what a caller reads of it
shown : (g : Over) (c : goal.Joined-item g)
    → ReachesAllFrom c.args.source c.args.text (hub_of g.F.Feed.meaning c.args.self.now) (hub_of g.F.Feed.meaning c.count.new.self)
    × Counts c.args.source 1 (hub_of g.F.Feed.meaning c.args.self.now).progress (hub_of g.F.Feed.meaning c.count.new.self).progress
shown g c = offer_shows g.F.Feed.meaning g.F.Feed.does (whole g c).1

pub returns-clause-reached : goal.returns-clause-reached
returns-clause-reached g c = (shown g c).0

pub returns-clause-counted : goal.returns-clause-counted
returns-clause-counted g c = (shown g c).1

pub returns-clause-ok : goal.returns-clause-ok
returns-clause-ok g c =
    let fits = c.answer.type_inv in
    let same : to_z w64 (of_z w64 c.answer.result) ≡ c.answer.result = search rules in
    rw (same, c.answer.ensures) (whole g c).1

pub returns-in_err-prepare_publication-clause-sound : goal.returns-in_err-prepare_publication-clause-sound
returns-in_err-prepare_publication-clause-sound g c = c.prepare_publication.ensures.sound

pub returns-in-Some-clause-sound : goal.returns-in-Some-clause-sound
returns-in-Some-clause-sound g c = c.prepare_publication.ensures.sound

pub returns-clause-no_share : goal.returns-clause-no_share
returns-clause-no_share g c = rw c.count.ensures.gathering c.drop_shares-2.ensures.shares

pub returns-clause-refusals : goal.returns-clause-refusals
returns-clause-refusals g c = tt

pub returns-clause-nothing_due : goal.returns-clause-nothing_due
returns-clause-nothing_due g c = tt

pub put-requires-clause-ready : goal.put-requires-clause-ready
put-requires-clause-ready g c = c.in_ok-prepare_publication.ensures.ready
