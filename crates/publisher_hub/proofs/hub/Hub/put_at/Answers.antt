-- A subscription is put into a vacant place.
use Rattle.std.proofs.Common.{rules, ◌≡◌, ◌<◌, ◌≤◌, ℕ, length, Some, List, subst}
use Rattle.std.specs.Prelude.{slice_get}
use Rattle.publisher_hub.proofs.Soundness.Refilling.{sound_refilled}
use Rattle.publisher_hub.proofs.Subscribed.Vacancies.{closed_empty}
use Rattle.publisher_hub.proofs.hub.Hub.put_at.Goals as goal

pub returns-clause-sound : goal.returns-clause-sound
returns-clause-sound g c =
    let closed = closed_empty g.F.Feed.meaning g.F.Feed.does c.args.self.now.ending c.args.self.now.capacity c.args.feed c.close_new-feed.result c.close_new-feed.ensures.0 c.close_new-feed.ensures.1.0 c.requires.fresh in
    sound_refilled g.F.Feed.meaning c.args.self.now c.args.place c.rank_of-rank.result c.args.name c.args.on_full c.close_new-feed.result c.args.ticket c.first_entry.result c.insert-there_is_room.new.self.items
    c.requires.sound c.requires.all_live c.requires.vacant closed.0 closed.1.0 closed.1.1 c.requires.place c.first_entry.ensures
    (subst (λ (l : List ℕ). c.rank_of-rank.result ≤ length l) c.deref.ensures.value c.rank_of-rank.ensures.within)
    (subst (λ (l : List ℕ). (i n : ℕ) → slice_get l i ≡ Some n → i < c.rank_of-rank.result → n < c.args.place) c.deref.ensures.value c.rank_of-rank.ensures.below)
    (subst (λ (l : List ℕ). (i n : ℕ) → slice_get l i ≡ Some n → c.rank_of-rank.result ≤ i → c.args.place ≤ n) c.deref.ensures.value c.rank_of-rank.ensures.above)
    (search rules)
