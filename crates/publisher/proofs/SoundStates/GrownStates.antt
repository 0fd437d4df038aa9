-- What stands behind a publisher's lock after a publication, a close, or one more submitter.
use Rattle.std.proofs.Common.{◌≡◌, ℕ, zero, suc, ◌+◌, true, Option, None, Some, Result, Ok, Err, List, [], length, map, refl, sym, ap, subst, ◌∙◌, arith}
use Rattle.std.specs.Prelude.{IfOk, IsSome, OnErr, OnOk, slice_get}
use Rattle.close_count.specs.Count.{CountId}
use Rattle.close_count.specs.Opening.{count_of_opening}
use Rattle.close_count.specs.Spent.{count_of_spent}
use Rattle.close_count.specs.declared.opening.Opening.{Opening}
use Rattle.close_count.specs.declared.spent.Spent.{Spent}
use Rattle.close_count.specs.declared.ticket.Ticket.{Ticket}
use Rattle.flow_rules.specs.declared.ending.Ending.{Ending}
use Rattle.flow_rules.specs.declared.item.Item.{Item}
use Rattle.flow_rules.specs.declared.refusal.Refusal.{Refusal}
use Rattle.feed_cell.specs.Parties.{ProducerState}
use Rattle.feed_core.specs.LaneCalls.{IsCapacity}
use Rattle.publisher_hub.specs.Closing.{IsClosedLooking}
use Rattle.publisher_hub.specs.Entry.{entry_of}
use Rattle.publisher_hub.specs.Hub.{HubState, Progress, hub_at_start, hub_of}
use Rattle.publisher_hub.specs.Offering.{ReachesAll}
use Rattle.publisher_hub.specs.OpeningTicket.{AddsTicket}
use Rattle.publisher_hub.specs.Publishing.{dropping_after, loss_of, offer_answer}
use Rattle.publisher_hub.specs.Sound.{IsAccepted, IsSound}
use Rattle.publisher_hub.specs.declared.hub.Hub.{Hub}
use Rattle.publisher_hub.proofs.PartialRounds.Progress.{same_some}
use Rattle.history.specs.History.{Kept}
use Rattle.publisher.specs.Publishing.{drop_of}
use Rattle.publisher.specs.Spending.{last_after}
use Rattle.publisher.specs.State.{IsCountedAtClose, IsState, PARTS, Sums, producer_end}
use Rattle.publisher.specs.Tickets.{AreOfOneCount, IsOfCount}
use Rattle.publisher.proofs.SoundStates.Histories.{Writes, logged_at_start, logged_offered, logged_still, logged_with_source}
use Rattle.publisher.proofs.SoundStates.KeptStates.{Stays, counted_stays, stays_looked}
use Rattle.publisher.proofs.Tickets.Ticketed.{AllKeep, accepted_still, all_closed, all_offered, all_same, all_then, all_tickets, of_count_after, of_count_counted, of_count_still}

is_open : (ending : Option Ending) → ending ≡ None → IsSome ending → ⊥
is_open None none some = cc
is_open (Some how) none some = cc

is_none : (counted : Option ℕ) → counted ≡ None → IsSome counted → ⊥
is_none None none some = cc
is_none (Some many) none some = cc

-- a publication: the totals grow as the Hub's numbers do
pub state_offered : (v w : HubState) (x : Item) (sums : Sums) (published dropping : ℕ) (history : Kept) (source : ℕ) (text : List ℕ)
    → IsState v sums → IsSound w → ReachesAll x v w → published ≡ sums.published + 1 → dropping ≡ w.progress.dropping
    → x.source ≡ source → x.text ≡ text → Writes sums.log sums.made source text history
    → IsState w (record sums { published = published; dropping = dropping; log = history.log; made = history.made })
state_offered v w x sums published dropping history source text is sound offers one_more drops from words writes = record {
  sound = sound;
  sized = subst IsCapacity (sym (ap (λ (h : HubState). h.progress.capacity) offers.rest)) is.sized;
  opened = λ none. subst IsSome (sym (ap (λ (h : HubState). h.opening) offers.rest))
      (is.opened (sym (ap (λ (h : HubState). h.progress.ending) offers.rest) ∙ none));
  published_is = one_more ∙ ap (λ n. n + 1) is.published_is ∙ sym (ap (λ (h : HubState). h.progress.next) offers.rest);
  dropping_is = drops;
  parts_are = is.parts_are;
  none_published = is.none_published;
  drop_parts_are = is.drop_parts_are;
  none_dropped = is.none_dropped;
  sources_are = is.sources_are ∙ sym (ap (λ (h : HubState). h.sources) offers.rest);
  entries_are = is.entries_are ∙ sym offers.entries.as_long;
  counted_is = counted_stays v w sums.counted is.counted_is (ap (λ (h : HubState). h.progress.ending) offers.rest) offers.entries.as_long;
  tickets = (
    is.tickets.0,
    of_count_still is.tickets.0 v w sums.counted sums.last is.tickets.1
        (λ opening held. is.tickets.1.opening opening (sym (ap (λ (h : HubState). h.opening) offers.rest) ∙ held))
        (λ closed. absurd (is_open v.progress.ending offers.next.unclosed closed))
        (λ counted. absurd (is_none sums.counted (is.counted_is.unclosed offers.next.unclosed) counted))
        (all_offered x v.entries w.entries offers.entries),
  );
  logged = logged_offered v w x sums.log sums.made history source text is.logged offers from words writes;
}

-- the answer to an offer tells whether any dropped
pub drop_is : (n lag dropping : ℕ) → dropping_after n dropping ≡ dropping + drop_of (offer_answer n lag)
drop_is zero lag dropping = omega arith
drop_is (suc n) lag dropping = refl

-- the same of a publication that this many lost
pub loss_is : (n dropping : ℕ) → dropping_after n dropping ≡ dropping + loss_of n
loss_is zero dropping = omega arith
loss_is (suc n) dropping = refl

-- the looks before the first close
looked_before : (v w : HubState) (ending : Ending) (closing : IsClosedLooking ending v w) → Stays v closing.middle
looked_before v w ending closing = stays_looked v closing.middle closing.looked

-- the first close: of the subscriptions that there are none is late
module _ (count : CountId) (v w : HubState) (ending : Ending) (counted : Option ℕ) (last : Option Spent)
    (is : IsOfCount count v counted last) (close : IsCountedAtClose v counted) (closing : IsClosedLooking ending v w) where
  before : Stays v closing.middle
  before = looked_before v w ending closing

  unclosed : v.progress.ending ≡ None
  unclosed = sym (ap (λ (p : Progress). p.ending) before.progress) ∙ closing.closed.unclosed

  pub as_long_closed : length w.entries ≡ length v.entries
  as_long_closed = closing.closed.entries.as_long ∙ before.keep.as_long

  pub all_closed_keep : AllKeep v.entries w.entries
  all_closed_keep = all_then v.entries closing.middle.entries w.entries before.keep
      (all_closed ending closing.middle.entries w.entries closing.closed.entries)

  pub tickets_closed : IsOfCount count w (Some (length v.entries)) last
  tickets_closed = of_count_counted count w (length v.entries) last (sym as_long_closed)
      (of_count_still count v w None last (subst (λ c. IsOfCount count v c last) (close.unclosed unclosed) is)
      (λ opening held. let no : None ≡ Some opening = sym (ap (λ (h : HubState). h.opening) closing.closed.rest) ∙ held in cc)
      (λ was. absurd (is_open v.progress.ending unclosed was))
      (λ some. cc)
      (all_tickets v.entries w.entries all_closed_keep))

state_closed_looking : (v w : HubState) (ending : Ending) (sums : Sums) → IsState v sums → IsSound w
    → IsClosedLooking ending v w → IsState w (record sums { counted = Some (length v.entries) })
state_closed_looking v w ending sums is sound closing =
    let before = looked_before v w ending closing in
    let closed = closing.closed in
    let long = as_long_closed is.tickets.0 v w ending sums.counted sums.last is.tickets.1 is.counted_is closing in
    record {
      sound = sound;
      sized = subst IsCapacity (sym (ap (λ (h : HubState). h.progress.capacity) closed.rest
          ∙ ap (λ (p : Progress). p.capacity) before.progress)) is.sized;
      opened = λ none. let no : Some ending ≡ None = sym (ap (λ (h : HubState). h.progress.ending) closed.rest) ∙ none in cc;
      published_is = is.published_is ∙ sym (ap (λ (h : HubState). h.progress.next) closed.rest
          ∙ ap (λ (p : Progress). p.next) before.progress);
      dropping_is = is.dropping_is ∙ sym (ap (λ (h : HubState). h.progress.dropping) closed.rest
          ∙ ap (λ (p : Progress). p.dropping) before.progress);
      parts_are = is.parts_are;
      none_published = is.none_published;
      drop_parts_are = is.drop_parts_are;
      none_dropped = is.none_dropped;
      sources_are = is.sources_are ∙ sym (ap (λ (h : HubState). h.sources) closed.rest ∙ before.sources);
      entries_are = is.entries_are ∙ sym long;
      counted_is = record {
        unclosed = λ none. let no : Some ending ≡ None = sym (ap (λ (h : HubState). h.progress.ending) closed.rest) ∙ none in cc;
        closed = λ _. (length v.entries, (refl, omega arith));
      };
      tickets = (is.tickets.0, tickets_closed is.tickets.0 v w ending sums.counted sums.last is.tickets.1 is.counted_is closing);
      logged = logged_still v w sums.log sums.made is.logged (ap (λ (h : HubState). h.progress.next) closed.rest
          ∙ ap (λ (p : Progress). p.next) before.progress) (ap (λ (h : HubState). h.sources) closed.rest ∙ before.sources)
          (accepted_still v.entries w.entries
          (all_closed_keep is.tickets.0 v w ending sums.counted sums.last is.tickets.1 is.counted_is closing));
    }

-- one more submitter, with its parts of the ledgers
pub state_with_source : (v w : HubState) (sums : Sums) (source parts amount drop_parts drop_amount : ℕ) (history : Kept)
    → IsState v sums → IsSound w → w ≡ record v { sources = source + 1 } → source ≡ v.sources
    → parts + 1 ≡ sums.parts → amount + 0 ≡ sums.amount → drop_parts + 1 ≡ sums.drop_parts → drop_amount + 0 ≡ sums.drop_amount
    → history.log ≡ sums.log → history.made ≡ sums.made + 1
    → IsState w (record sums {
      parts = parts;
      amount = amount;
      drop_parts = drop_parts;
      drop_amount = drop_amount;
      sources = source + 1;
      log = history.log;
      made = history.made;
    })
state_with_source v w sums source parts amount drop_parts drop_amount history is sound rest next a b c d log made = record {
  sound = sound;
  sized = subst IsCapacity (sym (ap (λ (h : HubState). h.progress.capacity) rest)) is.sized;
  opened = λ none. subst IsSome (sym (ap (λ (h : HubState). h.opening) rest))
      (is.opened (sym (ap (λ (h : HubState). h.progress.ending) rest) ∙ none));
  published_is = is.published_is ∙ sym (ap (λ (h : HubState). h.progress.next) rest);
  dropping_is = is.dropping_is ∙ sym (ap (λ (h : HubState). h.progress.dropping) rest);
  parts_are = let p = is.parts_are in let s = is.sources_are in omega arith;
  none_published = let n = is.none_published in omega arith;
  drop_parts_are = let p = is.drop_parts_are in let s = is.sources_are in omega arith;
  none_dropped = let n = is.none_dropped in omega arith;
  sources_are = sym (ap (λ (h : HubState). h.sources) rest);
  entries_are = is.entries_are ∙ sym (ap (λ (h : HubState). length h.entries) rest);
  counted_is = counted_stays v w sums.counted is.counted_is (ap (λ (h : HubState). h.progress.ending) rest)
      (ap (λ (h : HubState). length h.entries) rest);
  tickets = (
    is.tickets.0,
    of_count_still is.tickets.0 v w sums.counted sums.last is.tickets.1
        (λ opening held. is.tickets.1.opening opening (sym (ap (λ (h : HubState). h.opening) rest) ∙ held))
        (λ closed. subst IsSome (sym (ap (λ (h : HubState). h.progress.ending) rest)) closed)
        (λ _. ap (λ (h : HubState). h.progress.next) rest)
        (all_tickets v.entries w.entries
        (subst (λ entries. AllKeep v.entries entries) (sym (ap (λ (h : HubState). h.entries) rest)) (all_same v.entries))),
  );
  logged = logged_with_source v w sums.log sums.made history source is.logged rest next log made;
}

-- a new publisher
pub state_at_start : (capacity : ℕ) (opening : Opening) (w : HubState) (parts drop_parts : ℕ) (history : Kept)
    → w ≡ record (hub_at_start capacity 0) { opening = Some opening } → IsSound w → IsCapacity capacity → parts ≡ PARTS → drop_parts ≡ PARTS
    → history ≡ record { log = []; made = 0; back = [] }
    → IsState w (record {
      published = 0;
      dropping = 0;
      parts = parts;
      amount = 0;
      drop_parts =
          drop_parts;
      drop_amount = 0;
      sources = 0;
      entries = 0;
      counted = None;
      last = None;
      log = history.log;
      made = history.made;
    })
state_at_start capacity opening w parts drop_parts history start sound sized some_parts some_drop_parts none = record {
  sound = sound;
  sized = subst IsCapacity (sym (ap (λ (h : HubState). h.progress.capacity) start)) sized;
  opened = λ none. subst IsSome (sym (ap (λ (h : HubState). h.opening) start)) refl;
  published_is = sym (ap (λ (h : HubState). h.progress.next) start);
  dropping_is = sym (ap (λ (h : HubState). h.progress.dropping) start);
  parts_are = omega arith;
  none_published = refl;
  drop_parts_are = omega arith;
  none_dropped = refl;
  sources_are = sym (ap (λ (h : HubState). h.sources) start);
  entries_are = sym (ap (λ (h : HubState). length h.entries) start);
  counted_is = record {
    unclosed = λ none. refl;
    closed = λ some. absurd (is_open w.progress.ending (ap (λ (h : HubState). h.progress.ending) start) some);
  };
  tickets = (
    count_of_opening opening,
    record {
      opening = λ other held. ap count_of_opening (sym (same_some (sym (ap (λ (h : HubState). h.opening) start) ∙ held)));
      entries = λ k entry at. let no : None ≡ Some entry = sym (ap (λ (h : HubState). slice_get h.entries k) start) ∙ at in cc;
      last_is = λ spent none. cc;
      closed = λ none. cc;
    },
  );
  logged = logged_at_start capacity opening w history start none;
}

-- what is left of the last ticket, once that was spent
pub state_with_last : (v : HubState) (sums : Sums) (last : Option Spent) → IsState v sums
    → AreOfOneCount v sums.counted last → IsState v (record sums { last = last })
state_with_last v sums last is tickets = record {
  sound = is.sound;
  sized = is.sized;
  opened = is.opened;
  published_is = is.published_is;
  dropping_is = is.dropping_is;
  parts_are = is.parts_are;
  none_published = is.none_published;
  drop_parts_are = is.drop_parts_are;
  none_dropped = is.none_dropped;
  sources_are = is.sources_are;
  entries_are = is.entries_are;
  counted_is = is.counted_is;
  tickets = tickets;
  logged = is.logged;
}

is_none_opening : (opening : Option Opening) → opening ≡ None → IsSome opening → ⊥
is_none_opening None none some = cc
is_none_opening (Some it) none some = cc

none_came : (came : Option Opening) (opening : Opening) → came ≡ Some opening
    → ◌≡◌ {A = Result (Option Opening) Refusal} (Ok came) (Ok None) → ⊥
none_came None opening some none = cc
none_came (Some other) opening some none = cc

-- the first close, which spends the opening, or a later one, which changes nothing in the Hub
module _ (old new : Hub ProducerState) (ending : Ending) (sums : Sums) (is : IsState (hub_of producer_end old) sums)
    (sound : IsSound (hub_of producer_end new))
    (first : old.ending ≡ None → IsClosedLooking ending (hub_of producer_end old) (hub_of producer_end new))
    (later : IsSome old.ending → new ≡ old) where
  -- if no opening came out it was closed before
  pub state_closed_before : (came : Option Opening) → (old.ending ≡ None → came ≡ old.opening)
      → ((opening : Opening) → came ≡ Some opening → ⊥) → IsState (hub_of producer_end new) sums
  state_closed_before came first_came none = by old.ending refl where
    by : (was : Option Ending) → old.ending ≡ was → IsState (hub_of producer_end new) sums
    by None e = let held = is.opened e in absurd (never old.opening refl held) where
      never : (opening : Option Opening) → old.opening ≡ opening → IsSome old.opening → ⊥
      never None at some = is_none_opening old.opening at some
      never (Some opening) at some = none opening (first_came e ∙ at)
    by (Some known) e = subst (λ h. IsState (hub_of producer_end h) sums) (sym (later (rw e refl))) is

  pub state_ended_spent : (came : Option Opening) (opening : Opening) (spent : Spent)
      → (old.ending ≡ None → came ≡ old.opening) → (IsSome old.ending → ◌≡◌ {A = Result (Option Opening) Refusal} (Ok came) (Ok None))
      → came ≡ Some opening → count_of_spent spent ≡ count_of_opening opening
      → IsState (hub_of producer_end new) (record sums { counted = Some sums.entries; last = last_after spent true sums.last })
  state_ended_spent came opening spent first_came later_came is_there same = by old.ending refl where
    by : (was : Option Ending) → old.ending ≡ was
        → IsState (hub_of producer_end new) (record sums { counted = Some sums.entries; last = last_after spent true sums.last })
    by None e =
        let closing = first e in
        let closed = state_closed_looking (hub_of producer_end old) (hub_of producer_end new) ending sums is sound closing in
        subst (λ n. IsState (hub_of producer_end new)
        (record sums { counted = Some n; last = last_after spent true sums.last })) (sym is.entries_are) (
        state_with_last (hub_of producer_end new)
        (record sums { counted = Some (length (hub_of producer_end old).entries) }) (last_after spent true sums.last) closed (
          is.tickets.0,
          of_count_after is.tickets.0 (hub_of producer_end new) spent true (Some (length (hub_of producer_end old).entries)) sums.last
              (tickets_closed is.tickets.0 (hub_of producer_end old) (hub_of producer_end new) ending sums.counted
              sums.last is.tickets.1 is.counted_is closing) (same ∙ is.tickets.1.opening opening (sym (first_came e) ∙ is_there))
              (λ _. subst IsSome (sym (ap (λ (h : HubState). h.progress.ending) closing.closed.rest)) refl),
        )
        )
    by (Some known) e = absurd (none_came came opening is_there (later_came (rw e refl)))

-- one more ticket
pub opened_after : (result : Result (Option Ticket) Refusal) (old new : Hub ProducerState)
    → IfOk result (λ ticket. AddsTicket ticket old.opening new.opening) → OnErr result (new ≡ old) → IsSome old.opening → IsSome new.opening
opened_after (Ok None) old new adds same was = absurd adds
opened_after (Ok (Some ticket)) old new adds same was = rw adds.now refl
opened_after (Err refusal) old new adds same was = subst IsSome (sym (ap (λ (h : Hub ProducerState). h.opening) same)) was

pub state_ticketed : (old new : Hub ProducerState) (sums : Sums) (is : IsState (hub_of producer_end old) sums)
    → IsSound (hub_of producer_end new) → new ≡ record old { opening = new.opening } → (old.ending ≡ None → IsSome new.opening)
    → ((opening : Opening) → new.opening ≡ Some opening → count_of_opening opening ≡ is.tickets.0) → IsState (hub_of producer_end new) sums
state_ticketed old new sums is sound rest opened same_count = record {
  sound = sound;
  sized = subst IsCapacity (sym (ap (λ (h : Hub ProducerState). h.capacity) rest)) is.sized;
  opened = λ none. opened (sym (ap (λ (h : Hub ProducerState). h.ending) rest) ∙ none);
  published_is = is.published_is ∙ sym (ap (λ (h : Hub ProducerState). h.next) rest);
  dropping_is = is.dropping_is ∙ sym (ap (λ (h : Hub ProducerState). h.dropping) rest);
  parts_are = is.parts_are;
  none_published = is.none_published;
  drop_parts_are = is.drop_parts_are;
  none_dropped = is.none_dropped;
  sources_are = is.sources_are ∙ sym (ap (λ (h : Hub ProducerState). h.sources) rest);
  entries_are = is.entries_are ∙ sym (ap (λ (h : Hub ProducerState). length (map (entry_of producer_end) h.entries.items)) rest);
  counted_is = counted_stays (hub_of producer_end old) (hub_of producer_end new) sums.counted is.counted_is
      (ap (λ (h : Hub ProducerState). h.ending) rest)
      (ap (λ (h : Hub ProducerState). length (map (entry_of producer_end) h.entries.items)) rest);
  tickets = (
    is.tickets.0,
    of_count_still is.tickets.0 (hub_of producer_end old) (hub_of producer_end new) sums.counted sums.last is.tickets.1 same_count
        (λ closed. subst IsSome (sym (ap (λ (h : Hub ProducerState). h.ending) rest)) closed)
        (λ _. ap (λ (h : Hub ProducerState). h.next) rest)
        (all_tickets (hub_of producer_end old).entries (hub_of producer_end new).entries
        (subst (λ entries. AllKeep (hub_of producer_end old).entries entries)
        (sym (ap (λ (h : Hub ProducerState). (hub_of producer_end h).entries) rest)) (all_same (hub_of producer_end old).entries))),
  );
  logged = logged_still (hub_of producer_end old) (hub_of producer_end new) sums.log sums.made is.logged
      (ap (λ (h : Hub ProducerState). h.next) rest) (ap (λ (h : Hub ProducerState). h.sources) rest)
      (λ x at. subst (λ entries. IsAccepted entries x) (ap (λ (h : Hub ProducerState). (hub_of producer_end h).entries) rest) at);
}

pub on_ok_all : {T E : Type 0} {P : Type 0} (r : Result T E) → P → OnOk r P
on_ok_all (Ok x) p = p
on_ok_all (Err x) p = cc
