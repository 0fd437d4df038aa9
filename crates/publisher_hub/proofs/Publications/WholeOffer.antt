-- A whole offer, from what each of its steps says.
use Rattle.std.proofs.Common.{rules, ◌≡◌, ℕ, ◌+◌, ◌<◌, ◌≤◌, Bool, max, fold, Option, None, Some, List, ◌++◌, length, map, refl, ap, sym, subst, ◌∙◌, arith}
use Rattle.std.specs.Prelude.{Vec, option_map, slice_get, vec_len}
use Rattle.std.specs.declared.alloc.Global.{Global}
use Rattle.std.proofs.lemmas.List.{length-map}
use Rattle.std.proofs.lemmas.List.Sums.{fold-append}
use Rattle.flow_rules.specs.Call.{Call}
use Rattle.flow_rules.specs.Feed.{End, LookedIfOpen, Puts}
use Rattle.flow_rules.specs.declared.feed.put.Put.{Put}
use Rattle.flow_rules.specs.declared.feed.put.Put.TheVariants.{Accepted, Full, Gone}
use Rattle.flow_rules.specs.declared.feed.standing.Standing.{Standing}
use Rattle.flow_rules.specs.declared.item.Item.{Item}
use Rattle.flow_rules.specs.declared.item.TheConstants.{MOST_PUBLICATIONS}
use Rattle.publisher_hub.specs.Entry.{EntryState, entry_of}
use Rattle.publisher_hub.specs.Gathering.{Gathers, Second, dropped, lags, lags_again, missed, started, started_again}
use Rattle.publisher_hub.specs.Hub.{HubState, Progress, hub_of}
use Rattle.publisher_hub.specs.Lists.{EachBy, greatest}
use Rattle.publisher_hub.specs.Looking.{IsLookedAt, Prepares}
use Rattle.publisher_hub.specs.Offering.{PutsTo, PutsAgain, IsNextItem, ReachesAll, entry_after_put, progress_after}
use Rattle.publisher_hub.specs.Publishing.{IsRefused, OffersItem, PassesAgain, dropping_after, offer_answer}
use Rattle.publisher_hub.specs.Sound.{IsSound, MOST_ENTRIES}
use Rattle.publisher_hub.specs.declared.entry.Entry.{Entry}
use Rattle.publisher_hub.specs.declared.hub.gathering.Gathering.{Gathering}
use Rattle.publisher_hub.specs.declared.hub.Hub.{Hub}
use Rattle.publisher_hub.specs.declared.hub.TheConstants.{MOST_SOURCES}
use Rattle.publisher_hub.specs.declared.work.Work.{Work}
use Rattle.publisher_hub.proofs.PartialRounds.Next.{get_before_map, get_mapped}
use Rattle.publisher_hub.proofs.AnswerLists.Gathering.{greatest_from}
use Rattle.publisher_hub.proofs.Publications.FullBuffers.{missed_few}
use Rattle.publisher_hub.proofs.Publications.AnsweredOffer.{all_twice_offered, dropping_more, drops_counted, few_dropped, lags_small}
use Rattle.publisher_hub.proofs.Soundness.Publishing.{sound_offered}
use Rattle.publisher_hub.proofs.PartialRounds.Progress.{same_some}
use Rattle.publisher_hub.proofs.AnswerLists.Places.{stood_by}
use Rattle.publisher_hub.proofs.Publications.AllSubscriptions.{can_all_put}
use Rattle.publisher_hub.proofs.Publications.SecondTries.{can_each_retry}
use Rattle.publisher_hub.proofs.Publications.WholePublication.{below_most, counted_after, known_of}

module _ {F T : Type 0} (meaning : F → End) (does : F → Call T → F → Type 0) where
  -- what an offer leaves of a Hub
  pub record Leaves (x : Item) (seconds : List (Second T)) (old new : Hub F) : Type 0 where
    pub sound : IsSound (hub_of meaning new)
    pub reaches : ReachesAll x (hub_of meaning old) (hub_of meaning new)
    pub counted : new.dropping ≡ dropping_after (length (dropped seconds)) old.dropping

  pub leaves : (old seen given tried counted new : Hub F) (x : Item) (source : ℕ) (declines : Bool) (due_given due_new : Vec (Work T) Global)
      (glances : List (Option Standing)) (puts : List (Option (Put T))) (seconds : List (Second T))
      → IsSound (hub_of meaning old) → source < MOST_SOURCES → x.source ≡ source → x.serial ≡ old.next
      → slice_get old.counts.items source ≡ Some x.seq
      → IsLookedAt (hub_of meaning old) (hub_of meaning seen)
      → EachBy (Prepares meaning does old.next) glances old.entries.items seen.entries.items
      → IsRefused (hub_of meaning seen).progress None
      → EachBy (PutsTo meaning does x) puts seen.entries.items given.entries.items
      → hub_of meaning given ≡ record (hub_of meaning seen) { entries = (hub_of meaning given).entries }
      → PassesAgain meaning does x declines puts seconds given.entries.items tried.entries.items given.gathering tried.gathering due_given due_new
      → hub_of meaning tried ≡ record (hub_of meaning given) { entries = (hub_of meaning tried).entries }
      → counted ≡ record tried { dropping = dropping_after tried.gathering.drops tried.dropping }
      → hub_of meaning new ≡ record (hub_of meaning counted) { progress = progress_after x (hub_of meaning counted).progress.dropping (hub_of meaning counted).progress }
      → new.entries ≡ counted.entries → Leaves x seconds old new
  leaves old seen given tried counted new x source declines due_given due_new glances puts seconds sound within from serial seq looked prepared open_still
      gave rest_given passes rest_tried counted_is rest_new entries_same =
      let progress_seen : (hub_of meaning seen).progress ≡ (hub_of meaning old).progress = ap (λ (s : HubState). s.progress) looked.rest in
      let progress_tried : (hub_of meaning tried).progress ≡ (hub_of meaning old).progress =
      ap (λ (s : HubState). s.progress) rest_tried ∙ ap (λ (s : HubState). s.progress) rest_given ∙ progress_seen in
      let tried_dropping : tried.dropping ≡ old.dropping = ap (λ (p : Progress). p.dropping) progress_tried in
      let unclosed : old.ending ≡ None = ap (λ (p : Progress). p.ending) (sym progress_seen) ∙ open_still.0 in
      let next_same : seen.next ≡ old.next = ap (λ (p : Progress). p.next) progress_seen in
      let next : IsNextItem (hub_of meaning old).progress x = record {
        serial = serial;
        seq = subst (λ s. slice_get old.counts.items s ≡ Some x.seq) (sym from) seq;
        unclosed = unclosed;
        few = below_most old.next sound.few_items (λ most. open_still.1 (next_same ∙ most));
      } in
      let passed : hub_of meaning tried ≡ record (hub_of meaning seen) { entries = (hub_of meaning tried).entries } =
      rest_tried ∙ ap (λ (s : HubState). record s { entries = (hub_of meaning tried).entries }) rest_given in
      let whole : hub_of meaning new ≡ record (hub_of meaning tried) { progress = progress_after x counted.dropping (hub_of meaning tried).progress } =
      rest_new
      ∙ ap (λ (h : Hub F). record (hub_of meaning h) { progress = progress_after x counted.dropping (hub_of meaning h).progress }) counted_is in
      let rest =
      counted_after x counted.dropping (hub_of meaning old) (hub_of meaning seen) (hub_of meaning tried) (hub_of meaning new) looked.rest passed whole in
      let drops : tried.gathering.drops ≡ length (dropped seconds) = passes.gathers.drops in
      let dropping_new : new.dropping ≡ dropping_after (length (dropped seconds)) old.dropping =
      ap (λ (s : HubState). s.progress.dropping) whole ∙ ap (λ (h : Hub F). h.dropping) counted_is
      ∙ ap (λ n. dropping_after n tried.dropping) drops ∙ ap (λ n. dropping_after (length (dropped seconds)) n) tried_dropping in
      let more = dropping_more (length (dropped seconds)) old.dropping in
      let entries_new : new.entries ≡ tried.entries = entries_same ∙ ap (λ (h : Hub F). h.entries) counted_is in
      let again : EachBy (PutsAgain meaning does x) seconds given.entries.items new.entries.items =
      subst (λ (v : Vec (Entry F) Global). EachBy (PutsAgain meaning does x) seconds given.entries.items v.items) (sym entries_new) passes.again in
      let known = known_of meaning does (hub_of meaning old) old.entries.items sound refl unclosed in
      let offers : ReachesAll x (hub_of meaning old) (hub_of meaning new) = record {
        next = next;
        rest = rest;
        entries = all_twice_offered meaning does x glances puts seconds old.next old.entries.items seen.entries.items given.entries.items new.entries.items prepared gave again passes.revisited serial
            (λ k entry at e was. (known k entry at e was).0);
        drops = (subst (λ n. old.dropping ≤ n) (sym dropping_new) more.0, subst (λ n. n ≤ old.dropping + 1) (sym dropping_new) more.1);
        dropped = λ k entry at.
            let raw = get_before_map (entry_of meaning) new.entries.items k entry at in
            let few = drops_counted meaning does x glances puts seconds old.next old.entries.items seen.entries.items given.entries.items new.entries.items prepared gave again passes.revisited old.dropping
            (λ j was at_j. (sound.entries j (entry_of meaning was) (get_mapped (entry_of meaning) old.entries.items j was at_j)).drops) serial k raw.0 raw.1.0 in
            subst (λ (state : EntryState). state.dropped ≤ new.dropping) raw.1.1 (subst (λ n. raw.0.dropped ≤ n) (sym dropping_new) few);
      } in
      record {
        sound = sound_offered (hub_of meaning old) (hub_of meaning new) x (subst (λ s. s < MOST_SOURCES) (sym from) within) sound offers;
        reaches = offers;
        counted = dropping_new;
      }

  pub offers_item : (old seen given tried counted new : Hub F) (x : Item) (source : ℕ) (text : List ℕ) (declines : Bool) (due_old due_seen due_given due_new : Vec (Work T) Global)
      (glances : List (Option Standing)) (puts : List (Option (Put T))) (seconds : List (Second T))
      → IsSound (hub_of meaning old) → source < MOST_SOURCES → x.source ≡ source → x.text ≡ text → x.serial ≡ old.next
      → slice_get old.counts.items source ≡ Some x.seq
      → IsLookedAt (hub_of meaning old) (hub_of meaning seen)
      → EachBy (Prepares meaning does old.next) glances old.entries.items seen.entries.items
      → due_seen.items ≡ due_old.items → IsRefused (hub_of meaning seen).progress None
      → EachBy (PutsTo meaning does x) puts seen.entries.items given.entries.items → Gathers x puts given.gathering due_seen due_given
      → hub_of meaning given ≡ record (hub_of meaning seen) { entries = (hub_of meaning given).entries }
      → PassesAgain meaning does x declines puts seconds given.entries.items tried.entries.items given.gathering tried.gathering due_given due_new
      → hub_of meaning tried ≡ record (hub_of meaning given) { entries = (hub_of meaning tried).entries }
      → counted ≡ record tried { dropping = dropping_after tried.gathering.drops tried.dropping }
      → hub_of meaning new ≡ record (hub_of meaning counted) { progress = progress_after x (hub_of meaning counted).progress.dropping (hub_of meaning counted).progress }
      → new.entries ≡ counted.entries → new.gathering.lag ≡ counted.gathering.lag → new.gathering.drops ≡ counted.gathering.drops
      → IsSound (hub_of meaning new) × OffersItem meaning does source text declines old new due_old.items due_new.items (offer_answer new.gathering.drops new.gathering.lag)
  offers_item old seen given tried counted new x source text declines due_old due_seen due_given due_new glances puts seconds sound within from words serial seq looked prepared due_same open_still
      gave gathers rest_given passes rest_tried counted_is rest_new entries_same lag_same drops_same =
      let entries_new : new.entries ≡ tried.entries = entries_same ∙ ap (λ (h : Hub F). h.entries) counted_is in
      let again : EachBy (PutsAgain meaning does x) seconds given.entries.items new.entries.items =
      subst (λ (v : Vec (Entry F) Global). EachBy (PutsAgain meaning does x) seconds given.entries.items v.items) (sym entries_new) passes.again in
      let left = leaves old seen given tried counted new x source declines due_given due_new glances puts seconds sound within from serial seq looked prepared open_still
      gave rest_given passes rest_tried counted_is rest_new entries_same in
      let drops_new : new.gathering.drops ≡ length (dropped seconds) =
      drops_same ∙ ap (λ (h : Hub F). h.gathering.drops) counted_is ∙ passes.gathers.drops in
      let lag_new : new.gathering.lag ≡ greatest (lags puts ++ lags_again seconds) =
      lag_same ∙ ap (λ (h : Hub F). h.gathering.lag) counted_is ∙ passes.gathers.lag ∙ ap (λ n. fold max n (lags_again seconds)) gathers.lag
      ∙ sym (fold-append max 0 (lags puts) (lags_again seconds)) in (
        left.sound,
        record {
          item = x;
          from = from;
          words = words;
          glances = glances;
          puts = puts;
          seconds = seconds;
          ready = seen.entries.items;
          middle = given.entries.items;
          looked = prepared;
          each_put = gave;
          again = again;
          revisited = passes.revisited;
          declined = passes.declined;
          reaches = left.reaches;
          counted = left.counted;
          due = passes.gathers.due ∙ ap (λ works. works ++ started_again seconds) gathers.due
              ∙ ap (λ works. works ++ started puts ++ started_again seconds) due_same;
          answers = ap (λ n. offer_answer n new.gathering.lag) drops_new ∙ ap (λ n. offer_answer (length (dropped seconds)) n) lag_new;
        },
      )

  -- as many miss an item as there are subscriptions, at most
  pub few_missed : (gathering : Gathering) (puts : List (Option (Put T))) (entries : List (Entry F)) → gathering.missed.items ≡ missed puts
      → length puts ≡ length entries → length (map (entry_of meaning) entries) ≤ MOST_ENTRIES
      → vec_len gathering.missed < MOST_PUBLICATIONS
  few_missed gathering puts entries are long few =
      let many : vec_len gathering.missed ≡ length gathering.missed.items = search rules in
      let same : length gathering.missed.items ≡ length (missed puts) = ap length are in
      let at_most = missed_few 0 puts in
      let mapped : length (map (entry_of meaning) entries) ≡ length entries = length-map entries (entry_of meaning) in
      omega arith

  -- what was offered an item is closed as it was
  put_closing : (x : Item) (put : Option (Put T)) (old new : Entry F)
      → ((e : End) → (entry_of meaning old).feed ≡ Some e → e.closing ≡ None) → PutsTo meaning does x put old new
      → (e : End) → (entry_of meaning new).feed ≡ Some e → e.closing ≡ None
  put_closing x None old new unclosed puts_to e at =
      unclosed e (ap (λ (entry : Entry F). option_map meaning entry.feed) (sym puts_to.1) ∙ at)
  put_closing x (Some answer) old new unclosed offered e at = by answer offered.means offered.now where
    was : (entry_of meaning old).feed ≡ Some (meaning offered.before)
    was = ap (λ feed. option_map meaning feed) offered.was

    closed_as : (m : End) → LookedIfOpen (meaning offered.before) m → m.closing ≡ None
    closed_as m looked = let is = unclosed (meaning offered.before) was in ap (λ (end : End). end.closing) (looked.unclosed is).rest ∙ is

    is_after : (entry_of meaning new).feed ≡ Some (meaning offered.after) → (meaning offered.after).closing ≡ None → e.closing ≡ None
    is_after now none = ap (λ (end : End). end.closing) (same_some (sym at ∙ now)) ∙ none

    by : (answer : Put T) → Puts (meaning offered.before) x answer (meaning offered.after)
        → new ≡ entry_after_put x answer offered.after old → e.closing ≡ None
    by (Accepted lag start) means now =
        is_after (ap (λ (entry : Entry F). option_map meaning entry.feed) now) (ap (λ (end : End). end.closing) means.2.taken ∙ closed_as means.0 means.1)
    by (Full back) means now =
        is_after (ap (λ (entry : Entry F). option_map meaning entry.feed) now) (ap (λ (end : End). end.closing) means.2.unchanged ∙ closed_as means.0 means.1)
    by (Gone back) means now =
        is_after (ap (λ (entry : Entry F). option_map meaning entry.feed) now) (ap (λ (end : End). end.closing) means.2.unchanged ∙ closed_as means.0 means.1)

  -- the numbers of an answer are small
  pub answer_fits : (seen given tried counted new : Hub F) (x : Item) (declines : Bool) (due_seen due_given due_new : Vec (Work T) Global) (next : ℕ) (xs : List (Entry F))
      (glances : List (Option Standing)) (puts : List (Option (Put T))) (seconds : List (Second T))
      → IsSound (hub_of meaning seen) → EachBy (Prepares meaning does next) glances xs seen.entries.items
      → IsRefused (hub_of meaning seen).progress None
      → EachBy (PutsTo meaning does x) puts seen.entries.items given.entries.items → Gathers x puts given.gathering due_seen due_given
      → PassesAgain meaning does x declines puts seconds given.entries.items tried.entries.items given.gathering tried.gathering due_given due_new
      → counted ≡ record tried { dropping = dropping_after tried.gathering.drops tried.dropping }
      → new.gathering.lag ≡ counted.gathering.lag → new.gathering.drops ≡ counted.gathering.drops
      → (new.gathering.lag ≤ MOST_PUBLICATIONS) × (new.gathering.drops ≤ MOST_PUBLICATIONS)
  answer_fits seen given tried counted new x declines due_seen due_given due_new next xs glances puts seconds sound prepared open_still gave gathers passes counted_is lag_same drops_same =
      let can =
      can_all_put meaning does (hub_of meaning seen) next glances xs seen.entries.items sound refl (below_most seen.next sound.few_items open_still.1) prepared in
      let known = known_of meaning does (hub_of meaning seen) seen.entries.items sound refl open_still.0 in
      let unclosed : (k : ℕ) (entry : Entry F) → slice_get seen.entries.items k ≡ Some entry → (e : End) → (entry_of meaning entry).feed ≡ Some e → e.closing ≡ None =
      λ k entry at e was. (known k entry at e was).0 in
      let small = lags_small meaning does x glances puts seconds next xs seen.entries.items given.entries.items tried.entries.items prepared gave passes.again passes.revisited can
      (can_each_retry meaning does x puts seen.entries.items given.entries.items can gave unclosed) unclosed
      (λ k entry at. let stood = stood_by (PutsTo meaning does x) puts seen.entries.items given.entries.items k entry gave at in
      put_closing x stood.answer stood.entry entry (unclosed k stood.entry stood.at) stood.became) in
      let lag_new : new.gathering.lag ≡ fold max (fold max 0 (lags puts)) (lags_again seconds) =
      lag_same ∙ ap (λ (h : Hub F). h.gathering.lag) counted_is ∙ passes.gathers.lag
      ∙ ap (λ n. fold max n (lags_again seconds)) gathers.lag in
      let drops_new : new.gathering.drops ≡ length (dropped seconds) =
      drops_same ∙ ap (λ (h : Hub F). h.gathering.drops) counted_is ∙ passes.gathers.drops in
      let at_most = few_dropped meaning does seconds in
      let answered = passes.again.answered in
      let long = gave.as_long in
      let few = sound.few_entries in
      let mapped : length (map (entry_of meaning) seen.entries.items) ≡ length seen.entries.items =
      length-map seen.entries.items (entry_of meaning) in
      (subst (λ n. n ≤ MOST_PUBLICATIONS) (sym lag_new) (greatest_from (fold max 0 (lags puts)) MOST_PUBLICATIONS (lags_again seconds) small.0 small.1), omega arith)
