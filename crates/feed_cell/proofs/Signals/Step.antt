-- Signals, of both sides.
use Rattle.std.proofs.Common.{◌≡◌, ℕ, ◌⊎◌, Bool, true, false, true≢false, List, slice_index, set, bit_or, Option, Some, None, sym, refl, ap, ◌∙◌, subst, inl, inr}
use Rattle.std.specs.Int.{bit_at}
use Rattle.atomic_table.specs.Table.{State, keeps, Allows}
use Rattle.feed_core.specs.Prelude.{Item, Ending, ErrorOrder, Signal}
use Rattle.feed_core.specs.World.Table.{ProducerMay, HandleMay, joined, is_started, is_over, producing_after, requesting_after, started}
use Rattle.feed_cell.specs.Types.{Cause, Cancel, Argument, State as Doubled, Closing, Event, Producer, Handle, Producing, Requesting, Idle}
use Rattle.feed_cell.proofs.Table.Outlooks.{ShowsSame, reached_more}
use Rattle.feed_cell.proofs.Words.ControlWord.{reads_or, adds}
use Rattle.feed_cell.proofs.Table.Seats.{mine, other}
use Rattle.feed_cell.proofs.Tasks.Stages.{starts, lodges_started}
use Rattle.feed_cell.proofs.Table.Tallies.{stays_started}
use Rattle.feed_cell.specs.Cell.{Beyond, Only, CellRule, AsProducer, AsHandle, words_by}
use Rattle.feed_cell.specs.Control.{Flags, number, Reads, signal_of, both, marked}
use Rattle.feed_cell.specs.Outlooks.{IsReachedBy}
use Rattle.feed_cell.specs.Seats.{SeatOf}
use Rattle.feed_cell.specs.Signals.{sent, Signals}
use Rattle.feed_cell.specs.Signals.{MaySignal}
use Rattle.feed_cell.specs.Views.{IsProducer, IsHandle, has_put, has_ask, has_run}
use Rattle.feed_cell.specs.declared.cell.Held.{Held}
use Rattle.feed_cell.specs.declared.cell.View.{View}
use Rattle.feed_cell.specs.WordPlaces.{place}
use Rattle.feed_cell.specs.declared.cell.words.Word.{Word}
use Rattle.feed_cell.proofs.Words.FourWords.{control_at, control_stored}

-- at most one of two closings
one_closing : (cause : Option Cause) (p : Producing) (closing : Option Ending) → ProducerMay cause p closing
    → (closing ≡ None) ⊎ ((signal_of cause).closing ≡ None)
one_closing None p closing may = inr refl
one_closing (Some Cancel) p closing may = inr refl
one_closing (Some Argument) p closing may = inr refl
one_closing (Some Doubled) p closing may = inr refl
one_closing (Some (Closing ending)) p closing may = inl may.1

no_closing : (cause : Option Cause) (h : Requesting) → HandleMay cause h → (signal_of cause).closing ≡ None
no_closing None h may = refl
no_closing (Some Cancel) h may = refl
no_closing (Some Argument) h may = refl
no_closing (Some Doubled) h may = refl
no_closing (Some (Closing ending)) h may = absurd may

module _ {B : Type 0} (told : B → List Signal) (cap : ℕ) where
  -- the rule after a signal, whichever side makes it
  signal_kept : (s : State (Held B) View) (c : CellRule told cap s) (cause : Option Cause) (mask : ℕ) (producer : Producing) (handle : Requesting) (id : ℕ) (w : View) → Reads mask (signal_of cause) → (c.cell.flags.closing ≡ None) ⊎ ((signal_of cause).closing ≡ None)
      → IsReachedBy (set s.views id w) (record c.cell.world { causes = joined cause c.cell.world.causes; active = true; producer = producer; handle = handle; runner = started c.cell.world.runner })
      → (c.cell.left ≡ true → handle ≡ Idle) → has_run w ≡ false
      → Only has_put c.cell.producer (AsProducer cap c.cell.answers.order c.cell.log c.cell.world.given c.cell.beyond (is_over (started c.cell.world.runner)) (both (signal_of cause) c.cell.flags).closing (both (signal_of cause) c.cell.flags).state producer) (set s.views id w)
      → Only has_ask c.cell.handle (AsHandle cap c.cell.answers.order c.cell.world.asked (both (signal_of cause) c.cell.flags).cancel (both (signal_of cause) c.cell.flags).argument c.cell.left handle) (set s.views id w)
      → CellRule told cap (record { words = set s.words (place cap Word.Control) (bit_or (slice_index s.words (place cap Word.Control)) mask); homes = s.homes; views = set s.views id w })
  signal_kept s c cause mask producer handle id w sets one reached settled runs producers handles =
      let p = c.cell.world in
      let a = adds cause c.cell.flags c.cell.answers in
      let st = starts p.runner in
      record {
        cell = record c.cell {
          world = record p { causes = joined cause p.causes; active = true; producer = producer; handle = handle; runner = started p.runner };
          control = bit_or c.cell.control mask;
          flags = both (signal_of cause) c.cell.flags;
        };
        reached = reached;
        lists = c.lists;
        shows = record { sized = c.shows.sized; accepted = c.shows.accepted; given = c.shows.given; none_out = λ e. c.shows.none_out (sym st.holds ∙ e); started = a.run ∙ sym st.runs; new = a.active; causes = ap (joined cause) c.shows.causes ∙ a.causes; home = λ e. c.shows.home (sym st.seat ∙ e); settled = settled };
        reads = reads_or c.reads sets one;
        words = control_stored _ _ _ _ _ _ c.words (bit_or (slice_index s.words (place cap Word.Control)) mask) ∙ ap (λ (m : ℕ). words_by cap (marked (is_over p.runner) p.given) p.accepted (marked c.cell.left p.asked) (bit_or m mask)) (control_at _ _ _ _ _ _ c.words) ∙ ap (λ b. words_by cap (marked b p.given) p.accepted (marked c.cell.left p.asked) (bit_or c.cell.control mask)) (sym st.over);
        lies = c.lies;
        lodges = λ e. lodges_started told cap p.runner c.cell.taken p.own c.cell.answers s.homes (c.lodges e);
        producers = producers;
        handles = handles;
        runners = other has_run c.cell.runner _ _ s.views id w c.runners runs (λ d k. (
            let same = st.same k.seated in
            record { sized = k.sized; ordered = k.ordered; seated = st.seat ∙ k.seated; stands = k.stands ∙ sym same; out = k.out; knows = k.knows; fresh = λ e. k.fresh (sym same ∙ e); item_is = k.item_is; latest = λ _ e. cc; saw_put = k.saw_put; saw_asked = k.saw_asked }));
      }

-- a signal changes no part of a party, and nothing of what its seat shows of tasks
pub sent_stays : (cause : Option Cause) (b : Bool) (v : View)
    → ((sent cause b v).puts ≡ v.puts) × ((sent cause b v).asks ≡ v.asks) × ((sent cause b v).runs ≡ v.runs) × ((sent cause b v).capacity ≡ v.capacity) × ShowsSame v (sent cause b v) × ((sent cause b v).order ≡ v.order)
sent_stays None b v = (refl, refl, refl, refl, (refl, refl, refl), refl)
sent_stays (Some Cancel) b v = (refl, refl, refl, refl, (refl, refl, refl), refl)
sent_stays (Some Argument) b v = (refl, refl, refl, refl, (refl, refl, refl), refl)
sent_stays (Some Doubled) b v = (refl, refl, refl, refl, (refl, refl, refl), refl)
sent_stays (Some (Closing ending)) b v = (refl, refl, refl, refl, (refl, refl, refl), refl)

-- what the producer knows after a signal of its own
sent_knows : (cap : ℕ) (order : ErrorOrder) (log : List Item) (given : ℕ) (beyond : Beyond) (over : Bool) (f : Flags) (before : Producing) (b : Bool) (closing : Option Ending) (cause : Option Cause) (v : View) → ProducerMay cause before closing → AsProducer cap order log given beyond over f.closing f.state before v
    → AsProducer cap order log given beyond over (both (signal_of cause) f).closing (both (signal_of cause) f).state (producing_after b) (sent cause b v)
sent_knows cap order log given beyond over f before b closing None v may k = record { sized = k.sized; ordered = k.ordered; put = k.put; seen = k.seen; laid = k.laid; places = k.places; over = k.over; closed = k.closed; doubled = k.doubled; stands = refl }
sent_knows cap order log given beyond over f before b closing (Some Cancel) v may k = absurd may
sent_knows cap order log given beyond over f before b closing (Some Argument) v may k = absurd may
sent_knows cap order log given beyond over f before b closing (Some Doubled) v may k = record { sized = k.sized; ordered = k.ordered; put = k.put; seen = k.seen; laid = k.laid; places = k.places; over = k.over; closed = k.closed; doubled = refl; stands = refl }
sent_knows cap order log given beyond over f before b closing (Some (Closing ending)) v may k = record { sized = k.sized; ordered = k.ordered; put = k.put; seen = k.seen; laid = k.laid; places = k.places; over = k.over; closed = refl; doubled = k.doubled; stands = refl }

-- what the handle knows after it
handle_knows : (cap : ℕ) (order : ErrorOrder) (asked : ℕ) (f : Flags) (left : Bool) (handle : Requesting) (p : Producing) (closing : Option Ending) (cause : Option Cause) (d : View) → ProducerMay cause p closing → AsHandle cap order asked f.cancel f.argument left handle d
    → AsHandle cap order asked (both (signal_of cause) f).cancel (both (signal_of cause) f).argument left handle d
handle_knows cap order asked f left handle p closing None d may k = k
handle_knows cap order asked f left handle p closing (Some Cancel) d may k = absurd may
handle_knows cap order asked f left handle p closing (Some Argument) d may k = absurd may
handle_knows cap order asked f left handle p closing (Some Doubled) d may k = k
handle_knows cap order asked f left handle p closing (Some (Closing ending)) d may k = k

sent_handle_knows : (cap : ℕ) (order : ErrorOrder) (asked : ℕ) (f : Flags) (left : Bool) (before : Requesting) (b : Bool) (cause : Option Cause) (v : View) → HandleMay cause before → AsHandle cap order asked f.cancel f.argument left before v
    → AsHandle cap order asked (both (signal_of cause) f).cancel (both (signal_of cause) f).argument left (requesting_after b) (sent cause b v)
sent_handle_knows cap order asked f left before b None v may k = record { sized = k.sized; ordered = k.ordered; total = k.total; cancels = k.cancels; bad = k.bad; leaves = k.leaves; stands = refl }
sent_handle_knows cap order asked f left before b (Some Cancel) v may k = record { sized = k.sized; ordered = k.ordered; total = k.total; cancels = refl; bad = k.bad; leaves = k.leaves; stands = refl }
sent_handle_knows cap order asked f left before b (Some Argument) v may k = record { sized = k.sized; ordered = k.ordered; total = k.total; cancels = k.cancels; bad = refl; leaves = k.leaves; stands = refl }
sent_handle_knows cap order asked f left before b (Some Doubled) v may k = absurd may
sent_handle_knows cap order asked f left before b (Some (Closing ending)) v may k = absurd may

-- what the producer knows after it
producer_knows : (cap : ℕ) (order : ErrorOrder) (log : List Item) (given : ℕ) (beyond : Beyond) (over : Bool) (f : Flags) (p : Producing) (h : Requesting) (cause : Option Cause) (d : View) → HandleMay cause h → AsProducer cap order log given beyond over f.closing f.state p d
    → AsProducer cap order log given beyond over (both (signal_of cause) f).closing (both (signal_of cause) f).state p d
producer_knows cap order log given beyond over f p h None d may k = k
producer_knows cap order log given beyond over f p h (Some Cancel) d may k = k
producer_knows cap order log given beyond over f p h (Some Argument) d may k = k
producer_knows cap order log given beyond over f p h (Some Doubled) d may k = absurd may
producer_knows cap order log given beyond over f p h (Some (Closing ending)) d may k = absurd may

module _ {B : Type 0} (told : B → List Signal) where
  -- the mark of the task, in the word that is found
  mark_found : {cap : ℕ} {s : State (Held B) View} (c : CellRule told cap s)
      → bit_at (slice_index s.words (place cap Word.Control)) 0 ≡ number (is_started c.cell.world.runner)
  mark_found c = ap (λ (m : ℕ). bit_at m 0) (control_at _ _ _ _ _ _ c.words) ∙ c.reads.run ∙ ap number c.shows.started

  -- a fetch-or of control, with the producer's cause
  producer_signals : (cap n id : ℕ) (me : SeatOf B) (mask : ℕ) (cause : Option Cause) → IsProducer me.0
      → ProducerMay cause me.0.producing me.0.closing → Reads mask (signal_of cause)
      → Allows (CellRule told cap) n id me (place cap Word.Control) (λ n. bit_or n mask) (Signals cause me)
  producer_signals cap n id me mask cause is may sets s c wide at small =
      let v : View = me.0 in
      let k = (c.producers id v at is.0).1 in
      let p = c.cell.world in
      let st = starts p.runner in
      let here : ProducerMay cause p.producer c.cell.flags.closing = subst (λ z. ProducerMay cause z c.cell.flags.closing) k.stands (subst (ProducerMay cause v.producing) k.closed may) in
      let there : ProducerMay cause p.producer p.causes.closing = subst (ProducerMay cause p.producer) (ap (λ z. z.closing) (sym c.shows.causes)) here in
      let before : Bool = is_started p.runner in
      let stays = sent_stays cause before v in
      let w : View = sent cause before v in (
        w,
        keeps,
        tt,
        signal_kept told cap s c cause mask (producing_after before) p.handle id w sets (one_closing cause p.producer c.cell.flags.closing here)
            (reached_more (Event.Signal Producer cause) id v w c.reached there at (inl is.0) stays.4 (stays_started p.runner)) c.shows.settled (stays.2 ∙ is.2)
            (mine has_put c.cell.producer _ _ s.views id v w c.producers at is.0
            (sent_knows cap c.cell.answers.order c.cell.log p.given c.cell.beyond (is_over (started p.runner)) c.cell.flags p.producer before c.cell.flags.closing cause v here
            (subst (λ b. AsProducer cap c.cell.answers.order c.cell.log p.given c.cell.beyond b c.cell.flags.closing c.cell.flags.state p.producer v) (sym st.over) k)))
            (other has_ask c.cell.handle _ _ s.views id w c.handles (stays.1 ∙ is.1) (λ d k. handle_knows cap c.cell.answers.order p.asked c.cell.flags c.cell.left p.handle p.producer c.cell.flags.closing cause d here k)),
        record { started = before; found_is = mark_found c; signalled = refl; sized = stays.3; ordered = stays.5 },
      )

  -- and with the handle's
  handle_signals : (cap n id : ℕ) (me : SeatOf B) (mask : ℕ) (cause : Option Cause) → IsHandle me.0 → HandleMay cause me.0.requesting
      → me.0.left ≡ false → Reads mask (signal_of cause)
      → Allows (CellRule told cap) n id me (place cap Word.Control) (λ n. bit_or n mask) (Signals cause me)
  handle_signals cap n id me mask cause is may stays_on sets s c wide at small =
      let v : View = me.0 in
      let k = (c.handles id v at is.1).1 in
      let p = c.cell.world in
      let st = starts p.runner in
      let here : HandleMay cause p.handle = subst (HandleMay cause) k.stands may in
      let before : Bool = is_started p.runner in
      let stays = sent_stays cause before v in
      let w : View = sent cause before v in (
        w,
        keeps,
        tt,
        signal_kept told cap s c cause mask p.producer (requesting_after before) id w sets (inr (no_closing cause p.handle here))
            (reached_more (Event.Signal Handle cause) id v w c.reached here at (inr (inl is.1)) stays.4 (stays_started p.runner)) (λ e. absurd (true≢false (sym e ∙ sym k.leaves ∙ stays_on))) (stays.2 ∙ is.2)
            (other has_put c.cell.producer _ _ s.views id w c.producers (stays.0 ∙ is.0) (λ d o. producer_knows cap c.cell.answers.order c.cell.log p.given c.cell.beyond (is_over (started p.runner)) c.cell.flags p.producer p.handle cause d here
            (subst (λ b. AsProducer cap c.cell.answers.order c.cell.log p.given c.cell.beyond b c.cell.flags.closing c.cell.flags.state p.producer d) (sym st.over) o)))
            (mine has_ask c.cell.handle _ _ s.views id v w c.handles at is.1 (sent_handle_knows cap c.cell.answers.order p.asked c.cell.flags c.cell.left p.handle before cause v here k)),
        record { started = before; found_is = mark_found c; signalled = refl; sized = stays.3; ordered = stays.5 },
      )

  -- of either
  pub signals : (cap n id : ℕ) (me : SeatOf B) (mask : ℕ) (cause : Option Cause) → MaySignal cause me.0 → Reads mask (signal_of cause)
      → Allows (CellRule told cap) n id me (place cap Word.Control) (λ n. bit_or n mask) (Signals cause me)
  signals cap n id me mask cause (inl may) sets = producer_signals cap n id me mask cause may.0 may.1 sets
  signals cap n id me mask cause (inr may) sets = handle_signals cap n id me mask cause may.0 may.1 may.2 sets
