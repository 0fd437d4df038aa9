-- The history behind a publisher's lock is that of its Hub's publications, call by call.
use Rattle.std.proofs.Common.{◌≡◌, ◌⊎◌, inl, inr, ℕ, ◌+◌, Option, None, Some, List, [], ◌∷◌, ◌++◌, length, map, refl, sym, ap, subst, ◌∙◌, arith, append-nil, append_assoc}
use Rattle.std.specs.Prelude.{slice_get, slice_set}
use Rattle.std.proofs.lemmas.List.{length-append, map-append, map-set}
use Rattle.std.proofs.lemmas.Option.{same_Some}
use Rattle.close_count.specs.declared.opening.Opening.{Opening}
use Rattle.close_count.specs.declared.ticket.Ticket.{Ticket}
use Rattle.feed_cell.specs.Offering.{DoesCall}
use Rattle.feed_cell.specs.Parties.{ProducerState, TaskState}
use Rattle.flow_rules.specs.Feed.{End}
use Rattle.flow_rules.specs.declared.ending.Ending.{Ending}
use Rattle.flow_rules.specs.declared.item.Item.{Item}
use Rattle.history.specs.History.{Kept, entry}
use Rattle.history.specs.declared.rule.Entry.{Entry as Page}
use Rattle.publisher_hub.specs.Entry.{EntryState, entry_of}
use Rattle.publisher_hub.specs.Hub.{HubState, hub_at_start, hub_of}
use Rattle.publisher_hub.specs.Offering.{ReachesAll}
use Rattle.publisher_hub.specs.Batch.{ReachesAllBy, ReachesAllInTurn, items_from}
use Rattle.publisher_hub.specs.Sound.{IsAccepted}
use Rattle.publisher_hub.specs.Subscribing.{AdmitsWith, ClosesNew, first_entry_with}
use Rattle.publisher_hub.specs.Vacant.{TakesPlace}
use Rattle.publisher_hub.specs.declared.entry.Entry.{Entry}
use Rattle.publisher_hub.specs.declared.hub.Hub.{Hub}
use Rattle.publisher_hub.specs.declared.policy.OnFull.{OnFull}
use Rattle.publisher_hub.specs.declared.work.Work.{Work}
use Rattle.publisher_hub.proofs.Soundness.Adding.{accepted_before}
use Rattle.publisher_hub.proofs.Soundness.Publishing.{accepted_offered, accepted_too}
use Rattle.publisher_hub.proofs.Soundness.Replacing.{set_or_stood}
use Rattle.publisher.specs.Content.{IsLogged, StandsIn, pages_of}
use Rattle.publisher.specs.State.{producer_end}
use Rattle.publisher.proofs.BothEnds.LongerLists.{get_last, get_still}

-- nothing was published, and nobody accepted anything more
pub logged_still : (v w : HubState) (log : List Page) (made : ℕ) → IsLogged v log made → w.progress.next ≡ v.progress.next
    → w.sources ≡ v.sources → ((x : Item) → IsAccepted w.entries x → IsAccepted v.entries x) → IsLogged w log made
logged_still v w log made is next sources before = record {
  long = is.long ∙ sym next;
  made_are = is.made_are ∙ sym sources;
  content = λ x at. is.content x (before x at);
}

-- a history in which this text of this source was written last
pub record Writes (log : List Page) (made source : ℕ) (text : List ℕ) (history : Kept) : Type 0 where
  pub log_is : history.log ≡ log ++ entry source text ∷ []
  pub made_is : history.made ≡ made

-- that is what writing it does
pub writes_of : (old new : Kept) (source : ℕ) (value text : List ℕ) → new ≡ record old { log = old.log ++ entry source value ∷ [] }
    → value ≡ text → Writes old.log old.made source text new
writes_of old new source value text wrote same = record {
  log_is = ap (λ (h : Kept). h.log) wrote ∙ ap (λ (t : List ℕ). old.log ++ entry source t ∷ []) same;
  made_is = ap (λ (h : Kept). h.made) wrote;
}

-- an item was published, and its text written: what is accepted now was accepted before, or is that item
pub logged_next : (v w : HubState) (x : Item) (log : List Page) (made : ℕ) → IsLogged v log made
    → w.progress.next ≡ v.progress.next + 1 → w.sources ≡ v.sources → x.serial ≡ v.progress.next
    → ((y : Item) → IsAccepted w.entries y → IsAccepted v.entries y ⊎ (x ≡ y))
    → IsLogged w (log ++ entry x.source x.text ∷ []) made
logged_next v w x log made is next sources serial accepted = record {
  long = length-append log (entry x.source x.text ∷ []) ∙ ap (λ n. n + 1) is.long ∙ sym next;
  made_are = is.made_are ∙ sym sources;
  content = λ y at. by y (accepted y at);
} where
  last : StandsIn (log ++ entry x.source x.text ∷ []) x
  last = subst (λ n. slice_get (log ++ entry x.source x.text ∷ []) n ≡ Some (entry x.source x.text)) (is.long ∙ sym serial)
      (get_last log (entry x.source x.text))

  by : (y : Item) → IsAccepted v.entries y ⊎ (x ≡ y) → StandsIn (log ++ entry x.source x.text ∷ []) y
  by y (inl before) = get_still log (entry x.source x.text) y.serial (entry y.source y.text) (is.content y before)
  by y (inr this) = subst (λ (z : Item). StandsIn (log ++ entry x.source x.text ∷ []) z) this last

-- the same of one publication
pub logged_offered : (v w : HubState) (x : Item) (log : List Page) (made : ℕ) (history : Kept) (source : ℕ) (text : List ℕ)
    → IsLogged v log made → ReachesAll x v w → x.source ≡ source → x.text ≡ text → Writes log made source text history
    → IsLogged w history.log history.made
logged_offered v w x log made history source text is offers from words writes =
    let one = logged_next v w x log made is (ap (λ (h : HubState). h.progress.next) offers.rest) (ap (λ (h : HubState). h.sources) offers.rest)
    offers.next.serial (λ y at. accepted_offered v w x y offers at) in
    let same : log ++ entry x.source x.text ∷ [] ≡ history.log = (λ k. log ++ entry (from k) (words k) ∷ []) ∙ sym writes.log_is in
    subst (λ m. IsLogged w history.log m) (sym writes.made_is) (subst (λ l. IsLogged w l made) same one)

-- other publications of the same call
logged_in_turn : (source seq serial : ℕ) (texts : List (List ℕ)) (v w : HubState) (log : List Page) (made : ℕ) → IsLogged v log made
    → ReachesAllInTurn (items_from source seq serial texts) v w → IsLogged w (log ++ pages_of source texts) made
logged_in_turn source seq serial [] v w log made is same =
    subst (λ l. IsLogged w l made) (sym (append-nil log)) (subst (λ (hub : HubState). IsLogged hub log made) (sym same) is)
logged_in_turn source seq serial (text ∷ texts) v w log made is (middle, (first, others)) =
    let item : Item = record { source = source; seq = seq; serial = serial; text = text } in
    let one = logged_next v middle item log made is (ap (λ (h : HubState). h.progress.next) first.rest) (ap (λ (h : HubState). h.sources) first.rest)
    first.next.serial (λ y at. accepted_too v middle item y first at) in
    subst (λ l. IsLogged w l made) (append_assoc log (entry source text ∷ []) (pages_of source texts))
    (logged_in_turn source (seq + 1) (serial + 1) texts middle w (log ++ entry source text ∷ []) made one others)

-- the publications of one call
pub logged_by : (source seq serial : ℕ) (texts : List (List ℕ)) (v w : HubState) (log : List Page) (made : ℕ) → IsLogged v log made
    → ReachesAllBy (items_from source seq serial texts) v w → IsLogged w (log ++ pages_of source texts) made
logged_by source seq serial [] v w log made is none = absurd none
logged_by source seq serial (text ∷ texts) v w log made is (middle, (first, others)) =
    let item : Item = record { source = source; seq = seq; serial = serial; text = text } in
    let one = logged_next v middle item log made is (ap (λ (h : HubState). h.progress.next) first.rest) (ap (λ (h : HubState). h.sources) first.rest)
    first.next.serial (λ y at. accepted_offered v middle item y first at) in
    subst (λ l. IsLogged w l made) (append_assoc log (entry source text ∷ []) (pages_of source texts))
    (logged_in_turn source (seq + 1) (serial + 1) texts middle w (log ++ entry source text ∷ []) made one others)

-- one more source
pub logged_with_source : (v w : HubState) (log : List Page) (made : ℕ) (history : Kept) (source : ℕ) → IsLogged v log made
    → w ≡ record v { sources = source + 1 } → source ≡ v.sources → history.log ≡ log → history.made ≡ made + 1
    → IsLogged w history.log history.made
logged_with_source v w log made history source is rest next log_is made_is = record {
  long = ap length log_is ∙ is.long ∙ sym (ap (λ (h : HubState). h.progress.next) rest);
  made_are = made_is ∙ ap (λ n. n + 1) (is.made_are ∙ sym next) ∙ sym (ap (λ (h : HubState). h.sources) rest);
  content = λ x at. subst (λ l. StandsIn l x) (sym log_is)
      (is.content x (subst (λ entries. IsAccepted entries x) (ap (λ (h : HubState). h.entries) rest) at));
}

-- a new publisher
pub logged_at_start : (capacity : ℕ) (opening : Opening) (w : HubState) (history : Kept)
    → w ≡ record (hub_at_start capacity 0) { opening = Some opening } → history ≡ record { log = []; made = 0; back = [] }
    → IsLogged w history.log history.made
logged_at_start capacity opening w history start none = record {
  long = ap (λ (h : Kept). length h.log) none ∙ sym (ap (λ (h : HubState). h.progress.next) start);
  made_are = ap (λ (h : Kept). h.made) none ∙ sym (ap (λ (h : HubState). h.sources) start);
  content = λ x at.
      let no : None ≡ Some at.entry = sym (ap (λ (h : HubState). slice_get h.entries at.number) start) ∙ at.stands in cc;
}

-- what a new subscription has accepted is nothing, also if it is closed at once
empty_closed : (ending : Option Ending) (feed : ProducerState) (start : Option TaskState) (after : ProducerState)
    → ClosesNew producer_end DoesCall ending feed start after → (producer_end feed).accepted ≡ [] → (producer_end after).accepted ≡ []
empty_closed None feed start after closes empty = ap (λ (p : ProducerState). p.end.accepted) closes.1 ∙ empty
empty_closed (Some ending) feed start after closes empty = by feed.end.closing refl where
  by : (closing : Option Ending) → feed.end.closing ≡ closing → (producer_end after).accepted ≡ []
  by None at = ap (λ (e : End). e.accepted) (closes.0.first at) ∙ empty
  by (Some other) at = ap (λ (e : End). e.accepted) (closes.0.later (rw at refl)).0 ∙ empty

-- so what is accepted with it was accepted before
pub accepted_admitted : (name : List ℕ) (on_full : OnFull) (feed : ProducerState) (ticket : Option Ticket) (most number : ℕ)
    (due_before due_after : List (Work TaskState)) (old new : Hub ProducerState) → (producer_end feed).accepted ≡ []
    → (admits : AdmitsWith producer_end DoesCall name on_full feed ticket most number due_before due_after old new)
    → (x : Item) → IsAccepted (hub_of producer_end new).entries x → IsAccepted (hub_of producer_end admits.middle).entries x
accepted_admitted name on_full feed ticket most number due_before due_after old new empty admits x at =
    let first = first_entry_with name on_full old.next admits.after ticket in
    accepted_before (hub_of producer_end admits.middle).entries (entry_of producer_end first) (producer_end admits.after) x refl
    (empty_closed old.ending feed admits.start admits.after admits.closes empty)
    (subst (λ (entries : List EntryState). IsAccepted entries x) (ap (map (entry_of producer_end)) admits.entries
    ∙ map-append (entry_of producer_end) admits.middle.entries.items (first ∷ [])) at)

-- the same of one that got the place of another
pub accepted_put : (place : ℕ) (name : List ℕ) (on_full : OnFull) (feed : ProducerState) (ticket : Option Ticket) (most : ℕ)
    (due_before due_after : List (Work TaskState)) (old new : Hub ProducerState) → (producer_end feed).accepted ≡ []
    → (takes : TakesPlace producer_end DoesCall place name on_full feed ticket most due_before due_after old new)
    → (x : Item) → IsAccepted (hub_of producer_end new).entries x → IsAccepted (hub_of producer_end takes.middle).entries x
accepted_put place name on_full feed ticket most due_before due_after old new empty takes x at =
    by (set_or_stood (hub_of producer_end takes.middle).entries place (entry_of producer_end first) at.number at.entry
    (sym (ap (λ es. slice_get es at.number) same) ∙ at.stands)) where
      first : Entry ProducerState
      first = first_entry_with name on_full old.next takes.after ticket

      same : (hub_of producer_end new).entries
          ≡ slice_set (hub_of producer_end takes.middle).entries place (entry_of producer_end first)
      same = ap (map (entry_of producer_end)) takes.entries
          ∙ map-set (entry_of producer_end) takes.middle.entries.items place first

      none : (producer_end takes.after).accepted ≡ []
      none = empty_closed old.ending feed takes.start takes.after takes.closes empty

      by : ((place ≡ at.number) × (entry_of producer_end first ≡ at.entry))
          ⊎ (slice_get (hub_of producer_end takes.middle).entries at.number ≡ Some at.entry)
          → IsAccepted (hub_of producer_end takes.middle).entries x
      by (inl now) =
          let one : producer_end takes.after ≡ at.feed = same_Some (producer_end takes.after) at.feed
          (ap (λ (e : EntryState). e.feed) now.1 ∙ at.end_of) in
          let no : None ≡ Some x = sym (ap (λ l. slice_get l at.place) (sym (ap (λ (e : End). e.accepted) one) ∙ none)) ∙ at.item in cc
      by (inr before) = record {
        number = at.number;
        place = at.place;
        entry = at.entry;
        feed = at.feed;
        stands = before;
        end_of = at.end_of;
        item = at.item;
      }
