-- A publication of a batch of texts, from what each of its steps says.
use Rattle.std.proofs.Common.{◌≡◌, ℕ, zero, suc, ◌+◌, ◌-◌, ◌<◌, ◌≤◌, Option, None, Some, List, [], ◌∷◌, ◌++◌, length, map, take, refl, ap, sym, subst, ◌∙◌, arith}
use Rattle.std.specs.Prelude.{Vec, fold, min, slice_get}
use Rattle.std.specs.declared.alloc.Global.{Global}
use Rattle.std.proofs.lemmas.List.{length-take-le}
use Rattle.flow_rules.specs.Call.{Call}
use Rattle.flow_rules.specs.Feed.{End}
use Rattle.flow_rules.specs.declared.feed.put_all.PutAll.{PutAll}
use Rattle.flow_rules.specs.declared.feed.standing.Standing.{Standing}
use Rattle.flow_rules.specs.declared.item.Item.{Item}
use Rattle.flow_rules.specs.declared.item.TheConstants.{MOST_PUBLICATIONS}
use Rattle.publisher_hub.specs.Entry.{entry_of}
use Rattle.publisher_hub.specs.Hub.{HubState, hub_of}
use Rattle.publisher_hub.specs.Lists.{EachBy}
use Rattle.publisher_hub.specs.Looking.{IsLookedAt, Prepares, full, rooms}
use Rattle.publisher_hub.specs.Publishing.{IsRefused}
use Rattle.publisher_hub.specs.Batch.{GathersAll, PublishesBatch, PutsBatchTo, ReachesAllBy, items_from, started_all}
use Rattle.publisher_hub.specs.Sound.{IsSound}
use Rattle.publisher_hub.specs.declared.entry.Entry.{Entry}
use Rattle.publisher_hub.specs.declared.hub.Hub.{Hub}
use Rattle.publisher_hub.specs.declared.hub.TheConstants.{MOST_SOURCES}
use Rattle.publisher_hub.specs.declared.work.Work.{Work}
use Rattle.publisher_hub.proofs.PartialRounds.Progress.{same_some}
use Rattle.publisher_hub.proofs.Publications.WholePublication.{below_most, known_of}
use Rattle.publisher_hub.proofs.Soundness.Publishing.{sound_by}
use Rattle.publisher_hub.proofs.BatchTexts.AllSubscriptions.{all_between}
use Rattle.publisher_hub.proofs.BatchTexts.InTurn.{by_one_call, hub_later, progress_later}
use Rattle.publisher_hub.proofs.BatchTexts.Rooms.{least_from, some_room}

-- this many texts can be published at once
pub record Fits (next capacity many : ℕ) (texts : List (List ℕ)) (glances : List (Option Standing)) : Type 0 where
  pub within : many ≤ length texts
  pub few : next + many ≤ MOST_PUBLICATIONS
  pub some : 0 < many
  pub least : many ≤ fold min MOST_PUBLICATIONS (rooms capacity glances)
  pub as_many : many ≡ fold min (min (length texts) (MOST_PUBLICATIONS - next)) (rooms capacity glances)

pub fitting : (next capacity many room : ℕ) (texts : List (List ℕ)) (glances : List (Option Standing)) → 0 < length texts
    → next < MOST_PUBLICATIONS → full capacity glances ≡ [] → room ≡ fold min MOST_PUBLICATIONS (rooms capacity glances)
    → many ≡ min (min (length texts) (MOST_PUBLICATIONS - next)) room → Fits next capacity many texts glances
fitting next capacity many room texts glances some_text left none least is =
    let some = some_room MOST_PUBLICATIONS capacity glances (omega arith) none in
    let from = least_from (min (length texts) (MOST_PUBLICATIONS - next)) MOST_PUBLICATIONS (rooms capacity glances) (omega arith) in
    record {
      within = omega arith;
      few = omega arith;
      some = omega arith;
      least = omega arith;
      as_many = is ∙ ap (λ n. min (min (length texts) (MOST_PUBLICATIONS - next)) n) least ∙ from;
    }

-- items of a source are of that source
all_of_source : (source seq serial : ℕ) (texts : List (List ℕ)) (i : ℕ) (x : Item) → slice_get (items_from source seq serial texts) i ≡ Some x
    → x.source ≡ source
all_of_source source seq serial [] i x at = cc
all_of_source source seq serial (text ∷ texts) zero x at = ap (λ (item : Item). item.source) (sym (same_some at))
all_of_source source seq serial (text ∷ texts) (suc i) x at = all_of_source source (seq + 1) (serial + 1) texts i x at

module _ {F T : Type 0} (meaning : F → End) (does : F → Call T → F → Type 0) where
  -- how many texts fit, by the Hub as it was before the looks
  pub fits_seen : (old seen : Hub F) (many room : ℕ) (texts : List (List ℕ)) (glances : List (Option Standing)) → IsSound (hub_of meaning seen)
      → seen ≡ record old { entries = seen.entries } → IsRefused (hub_of meaning seen).progress None → 0 < length texts
      → full old.capacity glances ≡ [] → room ≡ fold min MOST_PUBLICATIONS (rooms old.capacity glances)
      → many ≡ min (min (length texts) (MOST_PUBLICATIONS - seen.next)) room → Fits old.next old.capacity many texts glances
  fits_seen old seen many room texts glances sound rest open_still some none least is =
      let next : seen.next ≡ old.next = ap (λ (h : Hub F). h.next) rest in
      let left = below_most seen.next sound.few_items open_still.1 in
      fitting old.next old.capacity many room texts glances some (omega arith) none least
      (is ∙ ap (λ n. min (min (length texts) (MOST_PUBLICATIONS - n)) room) next)

  -- a Hub that was looked at, whose subscriptions were then offered items, and that counted them
  pub later_is : (old seen given new : Hub F) (source seq many : ℕ) → IsLookedAt (hub_of meaning old) (hub_of meaning seen)
      → given ≡ record seen { entries = given.entries }
      → hub_of meaning new ≡ record (hub_of meaning given) { progress = progress_later source seq many (hub_of meaning given).progress }
      → new.entries ≡ given.entries
      → hub_of meaning new ≡ hub_later source seq many (hub_of meaning old) (map (entry_of meaning) new.entries.items)
  later_is old seen given new source seq many looked gave counted same =
      let given_is : hub_of meaning given ≡ record (hub_of meaning old) { entries = map (entry_of meaning) given.entries.items } =
      ap (λ (h : Hub F). hub_of meaning h) gave
      ∙ ap (λ (s : HubState). record s { entries = map (entry_of meaning) given.entries.items }) looked.rest in
      counted ∙ ap (λ (s : HubState). record s { progress = progress_later source seq many s.progress }) given_is
      ∙ ap (λ (v : Vec (Entry F) Global). hub_later source seq many (hub_of meaning old) (map (entry_of meaning) v.items)) (sym same)

  -- items that were offered to all subscriptions reached them one after the other
  reaches_by : (texts : List (List ℕ)) (old new : Hub F) (source seq : ℕ) (middle : List (Entry F)) (glances : List (Option Standing)) (puts : List (Option (PutAll T)))
      → IsSound (hub_of meaning old) → slice_get old.counts.items source ≡ Some seq → old.ending ≡ None
      → old.next + length texts ≤ MOST_PUBLICATIONS → 0 < length texts
      → EachBy (Prepares meaning does old.next) glances old.entries.items middle
      → EachBy (PutsBatchTo meaning does old.next (items_from source seq old.next texts)) puts middle new.entries.items
      → hub_of meaning new ≡ hub_later source seq (length texts) (hub_of meaning old) (map (entry_of meaning) new.entries.items)
      → ReachesAllBy (items_from source seq old.next texts) (hub_of meaning old) (hub_of meaning new)
  reaches_by [] old new source seq middle glances puts sound there unclosed few some prepared given is =
      let low : 0 < 0 = some in absurd (omega arith)
  reaches_by (text ∷ texts) old new source seq middle glances puts sound there unclosed few some prepared given is =
      let known = known_of meaning does (hub_of meaning old) old.entries.items sound refl unclosed in
      subst (λ (hub : HubState). ReachesAllBy (items_from source seq old.next (text ∷ texts)) (hub_of meaning old) hub) (sym is)
      (by_one_call source seq text texts (hub_of meaning old) (map (entry_of meaning) new.entries.items) sound there unclosed few
      (all_between meaning does old.next (record { source = source; seq = seq; serial = old.next; text = text }) (items_from source (seq + 1) (old.next + 1) texts) glances puts old.entries.items middle new.entries.items
      refl (λ k entry at e was. (known k entry at e was).0) prepared given))

  -- from what each step of a publication of a batch of texts says, what the whole did
  pub publishes_batch : (old seen given new : Hub F) (source seq many lag : ℕ) (texts : List (List ℕ)) (due_old due_seen due_new : List (Work T)) (glances : List (Option Standing)) (puts : List (Option (PutAll T)))
      → IsSound (hub_of meaning old) → source < MOST_SOURCES → slice_get old.counts.items source ≡ Some seq → old.ending ≡ None
      → Fits old.next old.capacity many texts glances
      → IsLookedAt (hub_of meaning old) (hub_of meaning seen)
      → EachBy (Prepares meaning does old.next) glances old.entries.items seen.entries.items
      → due_seen ≡ due_old
      → EachBy (PutsBatchTo meaning does old.next (items_from source seq old.next (take many texts))) puts seen.entries.items given.entries.items
      → GathersAll puts lag due_seen due_new
      → given ≡ record seen { entries = given.entries }
      → hub_of meaning new ≡ record (hub_of meaning given) { progress = progress_later source seq many (hub_of meaning given).progress }
      → new.entries ≡ given.entries
      → IsSound (hub_of meaning new)
      × PublishesBatch meaning does source texts old new due_old due_new (record { many = many; lost = 0; dropped = 0; lag = lag })
  publishes_batch old seen given new source seq many lag texts due_old due_seen due_new glances puts sound within there unclosed fits looked prepared due_same gave gathers rest_given rest_new entries_same =
      let some = fits.some in
      let few = fits.few in
      let taken : length (take many texts) ≡ many = length-take-le many texts fits.within in
      let is = later_is old seen given new source seq many looked rest_given rest_new entries_same in
      let gave_new : EachBy (PutsBatchTo meaning does old.next (items_from source seq old.next (take many texts))) puts seen.entries.items new.entries.items =
      subst (λ (v : Vec (Entry F) Global). EachBy (PutsBatchTo meaning does old.next (items_from source seq old.next (take many texts))) puts seen.entries.items v.items) (sym entries_same) gave in
      let reaches = reaches_by (take many texts) old new source seq seen.entries.items glances puts sound there unclosed (omega arith) (omega arith) prepared gave_new
      (is ∙ ap (λ n. hub_later source seq n (hub_of meaning old) (map (entry_of meaning) new.entries.items)) (sym taken)) in (
        sound_by (items_from source seq old.next (take many texts)) (hub_of meaning old) (hub_of meaning new)
            (λ i x at. subst (λ s. s < MOST_SOURCES) (sym (all_of_source source seq old.next (take many texts) i x at)) within) sound reaches,
        record {
          seq = seq;
          counted = there;
          items = items_from source seq old.next (take many texts);
          are = refl;
          glances = glances;
          puts = puts;
          middle = seen.entries.items;
          looked = prepared;
          as_many = fits.as_many;
          some = fits.some;
          each_put = gave_new;
          reaches = reaches;
          no_dropping = ap (λ (s : HubState). s.progress.dropping) is;
          due = gathers.due ∙ ap (λ works. works ++ started_all puts) due_same;
          greatest_lag = gathers.greatest_lag;
          dropped = refl;
          lost = refl;
        },
      )
