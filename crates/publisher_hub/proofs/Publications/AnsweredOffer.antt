-- An offer, from the looks to the answer.
use Rattle.std.proofs.Common.{rules, ◌≡◌, ℕ, zero, suc, ◌+◌, ◌-◌, ◌<◌, ◌≤◌, max, fold, Option, None, Some, IsSome, List, [], ◌∷◌, ◌++◌, length, map, refl, ap, sym, subst, ◌∙◌, arith}
use Rattle.std.specs.Prelude.{Vec, slice_get, vec_len}
use Rattle.std.proofs.lemmas.List.{length-append, length-map}
use Rattle.std.proofs.lemmas.Option.{slice_get_within}
use Rattle.flow_rules.specs.Call.{Call}
use Rattle.flow_rules.specs.Feed.{End}
use Rattle.flow_rules.specs.declared.feed.put.Put.{Put}
use Rattle.flow_rules.specs.declared.feed.put.Put.TheVariants.{Accepted, Full, Gone}
use Rattle.flow_rules.specs.declared.feed.standing.Standing.{Standing}
use Rattle.flow_rules.specs.declared.item.Item.{Item}
use Rattle.flow_rules.specs.declared.item.TheConstants.{MOST_PUBLICATIONS}
use Rattle.publisher_hub.specs.Entry.{EntryState, entry_of}
use Rattle.publisher_hub.specs.Lists.{Each, EachBy}
use Rattle.publisher_hub.specs.Looking.{Prepares}
use Rattle.publisher_hub.specs.Gathering.{AreRevisited, Second, dropped, dropped_by, lag_again_by, lag_by, lags, lags_again, missed}
use Rattle.publisher_hub.specs.Offering.{PutsTo, PutsAgain, IsOffered, Offered}
use Rattle.publisher_hub.specs.Publishing.{dropping_after}
use Rattle.publisher_hub.specs.Steps.{CanAllPut, CanEachRetry}
use Rattle.publisher_hub.specs.declared.entry.Entry.{Entry}
use Rattle.publisher_hub.proofs.AnswerLists.Gathering.{gather_few, gathers_nothing, greatest_below}
use Rattle.publisher_hub.proofs.PartialRounds.Next.{get_before_map, get_mapped}
use Rattle.publisher_hub.proofs.Publications.FullBuffers.{missed_at, missed_is}
use Rattle.publisher_hub.proofs.PartialRounds.Progress.{same_some}
use Rattle.publisher_hub.proofs.AnswerLists.Places.{stood_by, there}
use Rattle.publisher_hub.proofs.Publications.SecondTries.{twice_dropped, twice_offered}

-- at most one more drop is counted
pub dropping_more : (drops dropping : ℕ) → (dropping ≤ dropping_after drops dropping) × (dropping_after drops dropping ≤ dropping + 1)
dropping_more zero dropping = (omega arith, omega arith)
dropping_more (suc drops) dropping = (omega arith, omega arith)

-- a list without length is empty
no_length : {X : Type 0} (xs : List X) → length xs ≡ 0 → xs ≡ []
no_length [] none = refl
no_length (x ∷ xs) none = absurd (omega arith)

module _ {F T : Type 0} (meaning : F → End) (does : F → Call T → F → Type 0) where
  -- an answer stands for at most one drop
  one_drop : (place : ℕ) (second : Second T) → length (dropped_by place second) ≤ 1
  one_drop place None = omega arith
  one_drop place (Some None) = omega arith
  one_drop place (Some (Some (Accepted lag start))) = omega arith
  one_drop place (Some (Some (Full back))) = omega arith
  one_drop place (Some (Some (Gone back))) = omega arith

  pub few_dropped : (seconds : List (Second T)) → length (dropped seconds) ≤ length seconds
  few_dropped seconds = gather_few dropped_by seconds 0 one_drop

  -- a lag is at most the number of publications
  lag_small : (x : Item) (answer : Put T) (place : ℕ) (old new : Entry F)
      → ((e : End) → (entry_of meaning old).feed ≡ Some e → length e.accepted < MOST_PUBLICATIONS) → Offered meaning does x answer old new
      → ((e : End) → (entry_of meaning old).feed ≡ Some e → e.closing ≡ None) → fold max 0 (lag_by place (Some answer)) ≤ MOST_PUBLICATIONS
  lag_small x (Full back) place old new few offered unclosed = omega arith
  lag_small x (Gone back) place old new few offered unclosed = omega arith
  lag_small x (Accepted lag start) place old new few offered unclosed =
      let was : (entry_of meaning old).feed ≡ Some (meaning offered.before) =
      ap (λ feed. Rattle.std.specs.Prelude.option_map meaning feed) offered.was in
      let look = offered.means.1.unclosed (unclosed (meaning offered.before) was) in
      let grown : (meaning offered.after).accepted ≡ (meaning offered.before).accepted ++ x ∷ [] =
      ap (λ (end : End). end.accepted) offered.means.2.taken ∙ ap (λ (end : End). end.accepted ++ x ∷ []) look.rest in
      let many : length (meaning offered.after).accepted ≡ length (meaning offered.before).accepted + 1 =
      ap length grown ∙ length-append (meaning offered.before).accepted (x ∷ []) in
      let below = few (meaning offered.before) was in
      let is = offered.means.2.lag_after in
      omega arith

  module _ (x : Item) (glances : List (Option Standing)) (puts : List (Option (Put T))) (seconds : List (Second T)) (next : ℕ) (xs ready middle ys : List (Entry F))
      (prepared : EachBy (Prepares meaning does next) glances xs ready) (given : EachBy (PutsTo meaning does x) puts ready middle) (again : EachBy (PutsAgain meaning does x) seconds middle ys)
      (revisited : AreRevisited (missed puts) seconds) where
    -- what stood at a place, from the looks to the second pass
    record Stood (k : ℕ) (y : Entry F) : Type 0 where
      pub old : Entry F
      pub seen : Entry F
      pub tried : Entry F
      pub glance : Option Standing
      pub put : Option (Put T)
      pub second : Second T
      pub at : slice_get xs k ≡ Some old
      pub said : slice_get puts k ≡ Some put
      pub said_again : slice_get seconds k ≡ Some second
      pub prepares : Prepares meaning does next glance old seen
      pub puts_to : PutsTo meaning does x put seen tried
      pub puts_again : PutsAgain meaning does x second tried y

    stood : (k : ℕ) (y : Entry F) → slice_get ys k ≡ Some y → Stood k y
    stood k y at =
        let third = stood_by (PutsAgain meaning does x) seconds middle ys k y again at in
        let second = stood_by (PutsTo meaning does x) puts ready middle k third.entry given third.at in
        let first = stood_by (Prepares meaning does next) glances xs ready k second.entry prepared second.at in
        record {
          old = first.entry;
          seen = second.entry;
          tried = third.entry;
          glance = first.answer;
          put = second.answer;
          second = third.answer;
          at = first.at;
          said = second.said;
          said_again = third.said;
          prepares = first.became;
          puts_to = second.became;
          puts_again = third.became;
        }

    -- a handler was asked about it exactly if it had missed the item
    was_full : (k : ℕ) (put : Option (Put T)) (second : Second T) → slice_get puts k ≡ Some put → slice_get seconds k ≡ Some second
        → IsSome second → (back : Item) × (put ≡ Some (Full back))
    was_full k put second said said_again some =
        let found = revisited.others k second said_again some in
        let full = missed_at 0 puts found.0 k found.1 in
        let here : k ≡ full.at = let number = full.number in omega arith in
        (full.back, same_some (sym said ∙ subst (λ j. slice_get puts j ≡ Some (Some (Full full.back))) (sym here) full.full))

    was_revisited : (k : ℕ) (put : Option (Put T)) (second : Second T) → slice_get puts k ≡ Some put → slice_get seconds k ≡ Some second
        → (back : Item) → put ≡ Some (Full back) → IsSome second
    was_revisited k put second said said_again back full =
        let found = missed_is 0 puts k back (said ∙ ap Some full) in
        revisited.revisited found.0 k second (found.1 ∙ ap Some (omega arith)) said_again

    -- all subscriptions were offered the item
    pub all_twice_offered : x.serial ≡ next
        → ((k : ℕ) (old : Entry F) → slice_get xs k ≡ Some old → (e : End) → (entry_of meaning old).feed ≡ Some e → e.closing ≡ None)
        → Each (IsOffered x) (map (entry_of meaning) xs) (map (entry_of meaning) ys)
    all_twice_offered serial unclosed = record {
      as_long = length-map ys (entry_of meaning) ∙ again.as_long ∙ given.as_long ∙ prepared.as_long
          ∙ sym (length-map xs (entry_of meaning));
      each = λ k old new at at'.
          let before = get_before_map (entry_of meaning) xs k old at in
          let after = get_before_map (entry_of meaning) ys k new at' in
          let was = stood k after.0 after.1.0 in
          let same : was.old ≡ before.0 = same_some (sym was.at ∙ before.1.0) in
          subst (λ (entry : EntryState). IsOffered x old entry) after.1.1
          (subst (λ (entry : EntryState). IsOffered x entry (entry_of meaning after.0)) (ap (λ (entry : Entry F). entry_of meaning entry) same ∙ before.1.1)
          (twice_offered meaning does x next serial was.glance was.put was.second was.old was.seen was.tried after.0 (unclosed k was.old was.at)
          (was_full k was.put was.second was.said was.said_again) was.prepares was.puts_to was.puts_again));
    }

    -- no drop of a subscription is above the number of offers that dropped
    pub drops_counted : (dropping : ℕ) → ((k : ℕ) (old : Entry F) → slice_get xs k ≡ Some old → old.dropped ≤ dropping) → x.serial ≡ next
        → (k : ℕ) (y : Entry F) → slice_get ys k ≡ Some y → y.dropped ≤ dropping_after (length (dropped seconds)) dropping
    drops_counted dropping few serial k y at =
        let was = stood k y at in
        let more = twice_dropped meaning does x next serial k was.glance was.put was.second was.old was.seen was.tried y (was_full k was.put was.second was.said was.said_again)
        (was_revisited k was.put was.second was.said was.said_again) was.prepares was.puts_to was.puts_again in
        by (length (dropped seconds)) refl was.old.dropped was.second more (few k was.old was.at) was.said_again where
          by : (many : ℕ) → length (dropped seconds) ≡ many → (old_dropped : ℕ) (second : Second T)
              → y.dropped ≡ old_dropped + length (dropped_by k second) → old_dropped ≤ dropping
              → slice_get seconds k ≡ Some second → y.dropped ≤ dropping_after many dropping
          by zero none old_dropped second more low said =
              let nothing : dropped_by (0 + k) second ≡ [] =
              gathers_nothing dropped_by seconds 0 k second (no_length (dropped seconds) none) said in
              let here : dropped_by k second ≡ [] = subst (λ p. dropped_by p second ≡ []) (omega arith) nothing in
              let empty : length (dropped_by k second) ≡ 0 = ap length here in
              omega arith
          by (suc many) some old_dropped second more low said = let one = one_drop k second in omega arith

    -- the lags are at most the number of publications
    pub lags_small : CanAllPut (map (entry_of meaning) ready) → CanEachRetry (missed puts) (map (entry_of meaning) middle)
        → ((k : ℕ) (entry : Entry F) → slice_get ready k ≡ Some entry → (e : End) → (entry_of meaning entry).feed ≡ Some e → e.closing ≡ None)
        → ((k : ℕ) (entry : Entry F) → slice_get middle k ≡ Some entry → (e : End) → (entry_of meaning entry).feed ≡ Some e → e.closing ≡ None)
        → (fold max 0 (lags puts) ≤ MOST_PUBLICATIONS) × (fold max 0 (lags_again seconds) ≤ MOST_PUBLICATIONS)
    lags_small can can_again unclosed unclosed_again = (
      greatest_below lag_by puts 0 MOST_PUBLICATIONS (λ k put said. first k put said (there ready k (let within = slice_get_within puts k put said in let answered = given.answered in omega arith))
          (there middle k (let within = slice_get_within puts k put said in let answered = given.answered in let long = given.as_long in omega arith))),
      greatest_below lag_again_by seconds 0 MOST_PUBLICATIONS (λ k second said. later k second said (there middle k (let within = slice_get_within seconds k second said in let answered = again.answered in omega arith))
          (there ys k (let within = slice_get_within seconds k second said in let answered = again.answered in let long = again.as_long in omega arith))),
    ) where
      first : (k : ℕ) (put : Option (Put T)) → slice_get puts k ≡ Some put → (a : Entry F) × (slice_get ready k ≡ Some a)
          → (b : Entry F) × (slice_get middle k ≡ Some b) → fold max 0 (lag_by (0 + k) put) ≤ MOST_PUBLICATIONS
      first k None said old new = omega arith
      first k (Some answer) said old new =
          lag_small x answer (0 + k) old.0 new.0 (can k (entry_of meaning old.0) (get_mapped (entry_of meaning) ready k old.0 old.1)).few (given.each k (Some answer) old.0 new.0 said old.1 new.1) (unclosed k old.0 old.1)

      later : (k : ℕ) (second : Second T) → slice_get seconds k ≡ Some second → (a : Entry F) × (slice_get middle k ≡ Some a)
          → (b : Entry F) × (slice_get ys k ≡ Some b) → fold max 0 (lag_again_by (0 + k) second) ≤ MOST_PUBLICATIONS
      later k None said old new = omega arith
      later k (Some None) said old new = omega arith
      later k (Some (Some answer)) said old new =
          let found = revisited.others k (Some (Some answer)) said (search rules) in
          let may = can_again found.0 k (entry_of meaning old.0) found.1 (get_mapped (entry_of meaning) middle k old.0 old.1) in
          lag_small x answer (0 + k) (record old.0 { dropped = old.0.dropped - 1 }) new.0 may.few (again.each k (Some (Some answer)) old.0 new.0 said old.1 new.1) (unclosed_again k old.0 old.1)
