-- What stands behind a publisher's lock after a publication of texts.
use Rattle.std.proofs.Common.{◌≡◌, inl, inr, ℕ, ◌+◌, None, Some, Option, List, [], ◌∷◌, ◌++◌, length, take, refl, sym, ap, subst, ◌∙◌, arith}
use Rattle.std.specs.Prelude.{IsSome, slice_get}
use Rattle.close_count.specs.Opening.{count_of_opening}
use Rattle.flow_rules.specs.declared.ending.Ending.{Ending}
use Rattle.flow_rules.specs.declared.item.Item.{Item}
use Rattle.feed_cell.specs.Offering.{DoesCall}
use Rattle.feed_cell.specs.Parties.{ProducerState, TaskState}
use Rattle.feed_core.specs.LaneCalls.{IsCapacity}
use Rattle.publisher_hub.specs.Entry.{EntryState}
use Rattle.publisher_hub.specs.Gathering.{missed}
use Rattle.publisher_hub.specs.Hub.{HubState, Progress, hub_of}
use Rattle.publisher_hub.specs.Offering.{Counts}
use Rattle.publisher_hub.specs.Publishing.{PublishesTexts, loss_of}
use Rattle.publisher_hub.specs.Batch.{ReachesAllBy, ReachesAllInTurn, items_from}
use Rattle.publisher_hub.specs.Sound.{IsSound}
use Rattle.publisher_hub.specs.declared.hub.Hub.{Hub}
use Rattle.publisher_hub.specs.declared.hub.publish.Publication.{Publication}
use Rattle.publisher_hub.specs.declared.policy.Need.{Need}
use Rattle.publisher_hub.specs.declared.work.Work.{Work}
use Rattle.history.specs.History.{Kept, entry}
use Rattle.publisher.specs.Content.{IsLogged, pages_of}
use Rattle.publisher.specs.State.{IsState, Sums, producer_end}
use Rattle.publisher.proofs.Shares.SentTexts.{take_next}
use Rattle.publisher.proofs.SoundStates.GrownStates.{loss_is, state_offered}
use Rattle.publisher.proofs.SoundStates.Histories.{logged_by}
use Rattle.publisher.proofs.SoundStates.KeptStates.{counted_stays}
use Rattle.publisher.proofs.Tickets.Ticketed.{AllKeepTickets, all_given, all_offered, all_same, all_tickets, all_tickets_then, of_count_still}

-- the progress of a Hub and its subscriptions went on, and nothing else of it changed
pub record GoesOn (v w : HubState) : Type 0 where
  pub rest : w ≡ record v { progress = w.progress; entries = w.entries }
  pub keep : AllKeepTickets v.entries w.entries

goes_then : (a b c : HubState) → GoesOn a b → GoesOn b c → GoesOn a c
goes_then a b c first later = record {
  rest = later.rest ∙ ap (λ (s : HubState). record s { progress = c.progress; entries = c.entries }) first.rest;
  keep = all_tickets_then a.entries b.entries c.entries first.keep later.keep;
}

-- so it is after items that were published in turn
goes_in_turn : (items : List Item) (v w : HubState) → ReachesAllInTurn items v w → GoesOn v w
goes_in_turn [] v w same = subst (λ (hub : HubState). GoesOn v hub) (sym same) (record { rest = refl; keep = all_tickets v.entries v.entries (all_same v.entries) })
goes_in_turn (x ∷ items) v w (middle, (first, others)) = goes_then v middle w (record {
  rest = first.rest ∙ ap (λ (p : Progress). record v { progress = p; entries = middle.entries })
      (sym (ap (λ (s : HubState). s.progress) first.rest));
  keep = all_given x v.entries middle.entries first.entries;
}) (goes_in_turn items middle w others)

-- and after items that were published by one call, to an open Hub
pub goes_by : (items : List Item) (v w : HubState) → ReachesAllBy items v w → GoesOn v w
goes_by [] v w none = absurd none
goes_by (x ∷ items) v w (middle, (first, others)) = goes_then v middle w (record {
  rest = first.rest ∙ ap (λ (p : Progress). record v { progress = p; entries = middle.entries })
      (sym (ap (λ (s : HubState). s.progress) first.rest));
  keep = all_offered x v.entries middle.entries first.entries;
}) (goes_in_turn items middle w others)

open_by : (items : List Item) (v w : HubState) → ReachesAllBy items v w → v.progress.ending ≡ None
open_by [] v w none = absurd none
open_by (x ∷ items) v w (middle, (first, others)) = first.next.unclosed

not_closed : (ending : Option Ending) → ending ≡ None → IsSome ending → ⊥
not_closed None none some = cc
not_closed (Some how) none some = cc

not_counted : (counted : Option ℕ) → counted ≡ None → IsSome counted → ⊥
not_counted None none some = cc
not_counted (Some many) none some = cc

-- a publication of several texts at once: the total grows as the Hub's number does, and the texts are written
state_by : (items : List Item) (v w : HubState) (sums : Sums) (source many published dropping seq serial : ℕ) (texts : List (List ℕ)) (history : Kept)
    → IsState v sums → IsSound w → items ≡ items_from source seq serial texts
    → ReachesAllBy items v w → Counts source many v.progress w.progress → w.progress.dropping ≡ v.progress.dropping
    → published ≡ sums.published + many → dropping ≡ sums.dropping
    → history.log ≡ sums.log ++ pages_of source texts → history.made ≡ sums.made
    → IsState w (record sums { published = published; dropping = dropping; log = history.log; made = history.made })
state_by items v w sums source many published dropping seq serial texts history is sound are reaches counts no_dropping more same_drops wrote made =
    let goes = goes_by items v w reaches in
    let unclosed = open_by items v w reaches in
    let opening = ap (λ (h : HubState). h.opening) goes.rest in
    record {
      sound = sound;
      sized = subst IsCapacity (sym counts.capacity) is.sized;
      opened = λ none. subst IsSome (sym opening) (is.opened (sym counts.ending ∙ none));
      published_is = more ∙ ap (λ n. n + many) is.published_is ∙ sym counts.next;
      dropping_is = same_drops ∙ is.dropping_is ∙ sym no_dropping;
      parts_are = is.parts_are;
      none_published = is.none_published;
      drop_parts_are = is.drop_parts_are;
      none_dropped = is.none_dropped;
      sources_are = is.sources_are ∙ sym (ap (λ (h : HubState). h.sources) goes.rest);
      entries_are = is.entries_are ∙ sym goes.keep.as_long;
      counted_is = counted_stays v w sums.counted is.counted_is counts.ending goes.keep.as_long;
      tickets = (
        is.tickets.0,
        of_count_still is.tickets.0 v w sums.counted sums.last is.tickets.1
            (λ held is_held. is.tickets.1.opening held (sym opening ∙ is_held))
            (λ closed. absurd (not_closed v.progress.ending unclosed closed))
            (λ counted. absurd (not_counted sums.counted (is.counted_is.unclosed unclosed) counted))
            goes.keep,
      );
      logged = subst (λ m. IsLogged w history.log m) (sym made) (subst (λ l. IsLogged w l sums.made) (sym wrote)
          (logged_by source seq serial texts v w sums.log sums.made is.logged (subst (λ xs. ReachesAllBy xs v w) are reaches)));
    }

first_alone : (texts : List (List ℕ)) (text : List ℕ) → slice_get texts 0 ≡ Some text → take 1 texts ≡ text ∷ []
first_alone texts text at = take_next 0 texts text at

-- any publication: the totals grow as the Hub's numbers do, and the texts are written
pub state_published : (v w : Hub ProducerState) (need : Need) (source : ℕ) (texts : List (List ℕ)) (due_old due_new : List (Work TaskState))
    (publication : Publication) (sums : Sums) (published dropping : ℕ) (history : Kept)
    → IsState (hub_of producer_end v) sums → IsSound (hub_of producer_end w)
    → PublishesTexts producer_end DoesCall need source texts v w due_old due_new publication
    → Counts source publication.many (hub_of producer_end v).progress (hub_of producer_end w).progress
    → published ≡ sums.published + publication.many → dropping ≡ sums.dropping + publication.lost
    → history.log ≡ sums.log ++ pages_of source (take publication.many texts) → history.made ≡ sums.made
    → IsState (hub_of producer_end w) (record sums { published = published; dropping = dropping; log = history.log; made = history.made })
state_published v w need source texts due_old due_new publication sums published dropping history is sound (inl (alone, one)) counts more lost wrote made =
    let n = length (missed one.puts) in
    let drops : dropping ≡ w.dropping = lost ∙ ap (λ m. sums.dropping + m) (one.lost ∙ ap loss_of one.dropped)
    ∙ ap (λ d. d + loss_of n) is.dropping_is ∙ sym (loss_is n v.dropping) ∙ sym one.counted in
    let pages : pages_of source (take publication.many texts) ≡ entry source one.item.text ∷ [] =
    ap (λ m. pages_of source (take m texts)) one.many ∙ ap (pages_of source) (first_alone texts one.item.text one.words) in
    state_offered (hub_of producer_end v) (hub_of producer_end w) one.item sums published dropping history source one.item.text is sound
    one.reaches (more ∙ ap (λ m. sums.published + m) one.many) drops one.from refl
    (record { log_is = wrote ∙ ap (λ l. sums.log ++ l) pages; made_is = made })
state_published v w need source texts due_old due_new publication sums published dropping history is sound (inr (at_once, several)) counts more lost wrote made =
    state_by several.items (hub_of producer_end v) (hub_of producer_end w) sums source publication.many published dropping several.seq v.next
    (take publication.many texts) history is sound several.are several.reaches counts several.no_dropping more
    (lost ∙ ap (λ m. sums.dropping + m) several.lost ∙ no_more sums.dropping) wrote made where
      no_more : (n : ℕ) → n + 0 ≡ n
      no_more n = omega arith
