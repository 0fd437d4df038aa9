-- A publication of one text, from what each of its steps says: it is an offer without second tries.
use Rattle.std.proofs.Common.{rules, ◌≡◌, ℕ, ◌<◌, ◌≤◌, true, false, Option, None, Some, List, [], ◌++◌, length, map, refl, ap, sym, subst, ◌∙◌, arith}
use Rattle.std.specs.Prelude.{Vec, filter, slice_get, vec_len}
use Rattle.std.specs.declared.alloc.Global.{Global}
use Rattle.std.proofs.lemmas.List.{length-map}
use Rattle.flow_rules.specs.Call.{Call}
use Rattle.flow_rules.specs.Feed.{End}
use Rattle.flow_rules.specs.declared.feed.put.Put.{Put}
use Rattle.flow_rules.specs.declared.feed.standing.Standing.{Standing}
use Rattle.flow_rules.specs.declared.item.Item.{Item}
use Rattle.publisher_hub.specs.Entry.{entry_of}
use Rattle.publisher_hub.specs.Gathering.{Gathers, missed, stands, started}
use Rattle.publisher_hub.specs.Hub.{HubState, hub_of}
use Rattle.publisher_hub.specs.Lists.{EachBy}
use Rattle.publisher_hub.specs.Looking.{IsLookedAt, Prepares, ShowsRoom, full_needed, full_waiters, room_for}
use Rattle.publisher_hub.specs.Offering.{PutsTo, progress_after}
use Rattle.publisher_hub.specs.Policy.{is_waited_for}
use Rattle.publisher_hub.specs.Publishing.{IsRefused, PublishesOne, dropping_after, loss_of}
use Rattle.publisher_hub.specs.Sound.{IsSound, MOST_ENTRIES}
use Rattle.publisher_hub.specs.declared.entry.Entry.{Entry}
use Rattle.publisher_hub.specs.declared.hub.gathering.Gathering.{Gathering}
use Rattle.publisher_hub.specs.declared.hub.Hub.{Hub}
use Rattle.publisher_hub.specs.declared.hub.TheConstants.{MOST_SOURCES}
use Rattle.publisher_hub.specs.declared.hub.publish.Publication.{Publication}
use Rattle.publisher_hub.specs.declared.hub.room.Room.{Room}
use Rattle.publisher_hub.specs.declared.policy.Need.{Need}
use Rattle.publisher_hub.specs.declared.policy.Need.TheVariants.{All, Waiters}
use Rattle.publisher_hub.specs.declared.work.Work.{Work}
use Rattle.publisher_hub.proofs.Publications.AllSubscriptions.{nobody_missed, waiters_kept}
use Rattle.publisher_hub.proofs.Publications.FullBuffers.{declined, missed_few, passes_declined}
use Rattle.publisher_hub.proofs.Publications.WholeOffer.{leaves}
use Rattle.publisher_hub.proofs.Publications.WholePublication.{known_of}

-- if no buffer is full whose room is needed, none is that publications wait for
no_waiter_full : {F : Type 0} (need : Need) (capacity : ℕ) (entries : List (Entry F)) (glances : List (Option Standing)) → full_needed need capacity entries glances ≡ []
    → full_waiters capacity entries glances ≡ []
no_waiter_full All capacity entries glances none = ap (λ numbers. filter (is_waited_for entries) numbers) none
no_waiter_full Waiters capacity entries glances none = none

-- what was found of room says whether those have room whose room is needed
pub room_needed : {F : Type 0} (need : Need) (room : Room) (capacity : ℕ) (entries : List (Entry F)) (glances : List (Option Standing)) → ShowsRoom room capacity entries glances
    → (room_for need room ≡ true → full_needed need capacity entries glances ≡ []) × (room_for need room ≡ false → 0 < length (full_needed need capacity entries glances))
room_needed All room capacity entries glances shows = (shows.all.there, shows.all.missing)
room_needed Waiters room capacity entries glances shows = (shows.waiters.there, shows.waiters.missing)

module _ {F T : Type 0} (meaning : F → End) (does : F → Call T → F → Type 0) where
  -- no more lose an item than there are subscriptions
  pub drops_fit : (gathering : Gathering) (puts : List (Option (Put T))) (entries : List (Entry F)) → gathering.missed.items ≡ missed puts
      → length puts ≡ length entries → length (map (entry_of meaning) entries) ≤ MOST_ENTRIES
      → vec_len gathering.missed ≤ MOST_ENTRIES
  drops_fit gathering puts entries are long few =
      let many : vec_len gathering.missed ≡ length gathering.missed.items = search rules in
      let same : length gathering.missed.items ≡ length (missed puts) = ap length are in
      let at_most = missed_few 0 puts in
      let mapped : length (map (entry_of meaning) entries) ≡ length entries = length-map entries (entry_of meaning) in
      omega arith

  pub publishes_one : (need : Need) (old seen given counted new : Hub F) (gathering : Gathering) (x : Item) (source : ℕ) (texts : List (List ℕ)) (due_old due_seen due_new : Vec (Work T) Global)
      (glances : List (Option Standing)) (puts : List (Option (Put T))) (publication : Publication)
      → IsSound (hub_of meaning old) → source < MOST_SOURCES → x.source ≡ source → slice_get texts 0 ≡ Some x.text → x.serial ≡ old.next
      → slice_get old.counts.items source ≡ Some x.seq
      → IsLookedAt (hub_of meaning old) (hub_of meaning seen)
      → EachBy (Prepares meaning does old.next) glances old.entries.items seen.entries.items → full_needed need old.capacity old.entries.items glances ≡ []
      → due_seen.items ≡ due_old.items → IsRefused (hub_of meaning seen).progress None
      → EachBy (PutsTo meaning does x) puts seen.entries.items given.entries.items → Gathers x puts given.gathering due_seen due_new
      → hub_of meaning given ≡ record (hub_of meaning seen) { entries = (hub_of meaning given).entries }
      → gathering.drops ≡ vec_len given.gathering.missed → gathering.lag ≡ given.gathering.lag
      → gathering.missed ≡ given.gathering.missed → gathering.shares ≡ given.gathering.shares
      → counted ≡ record given { gathering = gathering; dropping = dropping_after gathering.drops given.dropping }
      → hub_of meaning new ≡ record (hub_of meaning counted) { progress = progress_after x (hub_of meaning counted).progress.dropping (hub_of meaning counted).progress }
      → new.entries ≡ counted.entries → new.gathering.lag ≡ counted.gathering.lag → new.gathering.drops ≡ counted.gathering.drops
      → publication ≡ record { many = 1; lost = loss_of new.gathering.drops; dropped = new.gathering.drops; lag = new.gathering.lag }
      → IsSound (hub_of meaning new) × PublishesOne meaning does need source texts old new due_old.items due_new.items publication
  publishes_one need old seen given counted new gathering x source texts due_old due_seen due_new glances puts publication sound within from words serial seq looked prepared room due_same open_still
      gave gathers rest_given drops lag same_missed same_shares counted_is rest_new entries_same lag_same drops_same answers =
      let long : length puts ≡ length given.entries.items = gave.answered ∙ sym gave.as_long in
      let tried : Hub F = record given { gathering = gathering } in
      let passes =
      passes_declined meaning does x true puts given.entries.items given.gathering gathering due_new long drops gathers.missed lag same_missed same_shares gathers.shares in
      let left = leaves meaning does old seen given tried counted new x source true due_new due_new glances puts (map stands puts) sound within from serial seq looked
      prepared open_still gave rest_given passes refl counted_is rest_new entries_same in
      let none = declined meaning does x puts given.entries.items long in
      let unclosed : old.ending ≡ None = ap (λ (s : HubState). s.progress.ending) (sym looked.rest) ∙ open_still.0 in
      let entries_new : new.entries ≡ given.entries = entries_same ∙ ap (λ (h : Hub F). h.entries) counted_is in
      let gave_new : EachBy (PutsTo meaning does x) puts seen.entries.items new.entries.items =
      subst (λ (v : Vec (Entry F) Global). EachBy (PutsTo meaning does x) puts seen.entries.items v.items) (sym entries_new) gave in
      let known = known_of meaning does (hub_of meaning old) old.entries.items sound refl unclosed in
      let many : vec_len given.gathering.missed ≡ length given.gathering.missed.items = search rules in (
        left.sound,
        record {
          item = x;
          from = from;
          words = words;
          glances = glances;
          puts = puts;
          middle = seen.entries.items;
          looked = prepared;
          room = room;
          each_put = gave_new;
          reaches = left.reaches;
          waiters = waiters_kept meaning does old.capacity old.next x glances puts old.entries.items seen.entries.items new.entries.items prepared gave_new known
              (no_waiter_full need old.capacity old.entries.items glances room);
          no_drop = λ all. nobody_missed meaning does old.capacity old.next x glances puts old.entries.items seen.entries.items new.entries.items prepared gave_new known
              (subst (λ n. full_needed n old.capacity old.entries.items glances ≡ []) all room);
          counted = left.counted ∙ ap (λ (ns : List ℕ). dropping_after (length ns) old.dropping) none.drops;
          due = gathers.due ∙ ap (λ works. works ++ started puts) due_same;
          many = ap (λ (p : Publication). p.many) answers;
          greatest_lag = ap (λ (p : Publication). p.lag) answers ∙ lag_same ∙ ap (λ (h : Hub F). h.gathering.lag) counted_is ∙ lag ∙ gathers.lag;
          dropped = ap (λ (p : Publication). p.dropped) answers ∙ drops_same ∙ ap (λ (h : Hub F). h.gathering.drops) counted_is ∙ drops ∙ many ∙ ap length gathers.missed;
          lost = ap (λ (p : Publication). p.lost) answers ∙ ap loss_of (sym (ap (λ (p : Publication). p.dropped) answers));
        },
      )
