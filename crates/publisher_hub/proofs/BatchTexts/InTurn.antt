-- The items of a batch that reached all subscriptions were published one after the other.
use Rattle.std.proofs.Common.{◌≡◌, ℕ, suc, ◌+◌, ◌<◌, ◌≤◌, None, Some, List, [], ◌∷◌, length, set, refl, ap, subst, ◌∙◌, arith}
use Rattle.std.specs.Prelude.{slice_get}
use Rattle.std.proofs.lemmas.Option.{slice_get_within}
use Rattle.flow_rules.specs.declared.item.Item.{Item}
use Rattle.flow_rules.specs.declared.item.TheConstants.{MOST_PUBLICATIONS}
use Rattle.publisher_hub.specs.Entry.{EntryState}
use Rattle.publisher_hub.specs.Hub.{HubState, Progress}
use Rattle.publisher_hub.specs.Lists.{Each}
use Rattle.publisher_hub.specs.Offering.{IsNextItem, progress_after}
use Rattle.publisher_hub.specs.Batch.{IsGivenAnother, ReachesAllBy, ReachesAllInTurn, items_from}
use Rattle.publisher_hub.specs.Sound.{IsSound}
use Rattle.publisher_hub.proofs.AnswerLists.Middles.{each_between, each_same, set_same, set_twice}
use Rattle.publisher_hub.proofs.AnswerLists.Places.{stood_at}
use Rattle.publisher_hub.proofs.AnswerLists.Updates.{get_there}
use Rattle.publisher_hub.proofs.BatchTexts.OneSubscription.{HasBetween, IsGivenFirst, IsGivenOthers, given_next, given_none}

-- how far the publications have come after this many more of a source that had published `seq` items before
abbrev pub progress_later : ℕ → ℕ → ℕ → Progress → Progress
progress_later source seq many progress = record progress {
  next = progress.next + many;
  counts = set progress.counts source (seq + many);
}

-- a Hub after these, with these subscriptions
abbrev pub hub_later : ℕ → ℕ → ℕ → HubState → List EntryState → HubState
hub_later source seq many hub entries = record hub { progress = progress_later source seq many hub.progress; entries = entries }

-- the next item of a source
pub is_next : (source seq serial : ℕ) (text : List ℕ) (progress : Progress) → serial ≡ progress.next → slice_get progress.counts source ≡ Some seq
    → progress.ending ≡ None → progress.next < MOST_PUBLICATIONS
    → IsNextItem progress (record { source = source; seq = seq; serial = serial; text = text })
is_next source seq serial text progress is there unclosed few = record { serial = is; seq = there; unclosed = unclosed; few = few }

-- after one more and then this many, the publications have come this far
later_once : (source seq many : ℕ) (text : List ℕ) (hub : HubState) (middle ys : List EntryState) (serial : ℕ)
    → hub_later source (seq + 1) many
    (record hub { progress = progress_after (record { source = source; seq = seq; serial = serial; text = text }) hub.progress.dropping hub.progress; entries = middle }) ys
    ≡ hub_later source seq (suc many) hub ys
later_once source seq many text hub middle ys serial =
    let next : hub.progress.next + 1 + many ≡ hub.progress.next + suc many = omega arith in
    let count : seq + 1 + many ≡ seq + suc many = omega arith in
    ap (λ n. record hub { progress = record hub.progress { next = n; counts = set (set hub.progress.counts source (seq + 1)) source (seq + 1 + many) }; entries = ys }) next
    ∙ ap (λ counts. record hub { progress = record hub.progress { next = hub.progress.next + suc many; counts = counts }; entries = ys })
    (set_twice hub.progress.counts source (seq + 1) (seq + 1 + many) ∙ ap (λ n. set hub.progress.counts source n) count)

-- items that each subscription was given were published in turn
pub in_turn : (source seq serial : ℕ) (texts : List (List ℕ)) (old : HubState) (ys : List EntryState) → serial ≡ old.progress.next
    → slice_get old.progress.counts source ≡ Some seq → old.progress.ending ≡ None → old.progress.next + length texts ≤ MOST_PUBLICATIONS
    → Each (IsGivenOthers (items_from source seq serial texts)) old.entries ys
    → ReachesAllInTurn (items_from source seq serial texts) old (hub_later source seq (length texts) old ys)
in_turn source seq serial [] old ys is there unclosed few each =
    let same : ys ≡ old.entries = each_same old.entries ys (record {
      as_long = each.as_long;
      each = λ k x y at at'. given_none x y (each.each k x y at at');
    }) in
    let next : old.progress.next + 0 ≡ old.progress.next = omega arith in
    let count : seq + 0 ≡ seq = omega arith in
    ap (λ n. record old { progress = record old.progress { next = n; counts = set old.progress.counts source (seq + 0) }; entries = ys }) next
    ∙ ap (λ n. record old { progress = record old.progress { counts = set old.progress.counts source n }; entries = ys }) count
    ∙ ap (λ counts. record old { progress = record old.progress { counts = counts }; entries = ys }) (set_same old.progress.counts source seq there)
    ∙ ap (λ all. record old { entries = all }) same
in_turn source seq serial (text ∷ texts) old ys is there unclosed few each =
    let x : Item = record { source = source; seq = seq; serial = serial; text = text } in
    let items = items_from source (seq + 1) (serial + 1) texts in
    let between = each_between (IsGivenAnother x) (IsGivenOthers items) old.entries ys (record {
      as_long = each.as_long;
      each = λ k a b at at'. given_next x items a b (each.each k a b at at');
    }) in
    let middle : HubState = record old { progress = progress_after x old.progress.dropping old.progress; entries = between.0 } in
    let within = slice_get_within old.progress.counts source seq there in
    let others = in_turn source (seq + 1) (serial + 1) texts middle ys (omega arith) (get_there old.progress.counts source (seq + 1) within) unclosed (omega arith) between.1.1 in (
      middle,
      (
        record { next = is_next source seq serial text old.progress is there unclosed (omega arith); rest = refl; entries = between.1.0 },
        subst (λ (new : HubState). ReachesAllInTurn items middle new) (later_once source seq (length texts) text old between.0 ys serial) others,
      ),
    )

-- items that each subscription was given, the first of them after a look, were published by one call
pub by_one_call : (source seq : ℕ) (text : List ℕ) (texts : List (List ℕ)) (old : HubState) (ys : List EntryState) → IsSound old
    → slice_get old.progress.counts source ≡ Some seq → old.progress.ending ≡ None → old.progress.next + suc (length texts) ≤ MOST_PUBLICATIONS
    → Each (HasBetween (record { source = source; seq = seq; serial = old.progress.next; text = text }) (items_from source (seq + 1) (old.progress.next + 1) texts)) old.entries ys
    → ReachesAllBy (items_from source seq old.progress.next (text ∷ texts)) old (hub_later source seq (suc (length texts)) old ys)
by_one_call source seq text texts old ys sound there unclosed few each =
    let serial = old.progress.next in
    let x : Item = record { source = source; seq = seq; serial = serial; text = text } in
    let items = items_from source (seq + 1) (serial + 1) texts in
    let between = each_between (IsGivenFirst x) (IsGivenOthers items) old.entries ys each in
    let middle : HubState = record old { progress = progress_after x old.progress.dropping old.progress; entries = between.0 } in
    let within = slice_get_within old.progress.counts source seq there in
    let others = in_turn source (seq + 1) (serial + 1) texts middle ys refl (get_there old.progress.counts source (seq + 1) within) unclosed (omega arith) between.1.1 in (
      middle,
      (
        record {
          next = is_next source seq serial text old.progress refl there unclosed (omega arith);
          rest = refl;
          entries = record { as_long = between.1.0.as_long; each = λ k a b at at'. (between.1.0.each k a b at at').0 };
          drops = (omega arith, omega arith);
          dropped = λ k entry at.
              let stood = stood_at (IsGivenFirst x) old.entries between.0 k entry between.1.0 at in
              let same = stood.became.1 in
              let few_drops = (sound.entries k stood.entry stood.at).drops in
              omega arith;
        },
        subst (λ (new : HubState). ReachesAllInTurn items middle new) (later_once source seq (length texts) text old between.0 ys serial) others,
      ),
    )
