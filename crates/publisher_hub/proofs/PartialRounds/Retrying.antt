-- The second pass over the subscriptions whose buffer was full, as far as it has come.
use Rattle.std.proofs.Common.{rules, ◌≡◌, ◌⊎◌, ℕ, ◌+◌, fold, max, Option, None, Some, IsSome, List, ◌++◌, append_assoc, length, replicate, set, refl, ap, sym, ◌∙◌, inl, inr, arith}
use Rattle.std.specs.Prelude.{Vec, slice_get}
use Rattle.std.proofs.lemmas.Option.{slice_get_within}
use Rattle.std.proofs.lemmas.List.{append-nil, length-append}
use Rattle.std.proofs.lemmas.List.Sums.{fold-append}
use Rattle.std.specs.declared.alloc.Global.{Global}
use Rattle.flow_rules.specs.Call.{Call}
use Rattle.flow_rules.specs.Feed.{End}
use Rattle.flow_rules.specs.declared.feed.put.Put.{Put}
use Rattle.flow_rules.specs.declared.item.Item.{Item}
use Rattle.publisher_hub.specs.Gathering.{AddsAgain, AreRevisited, AreShares, GathersAgain, Second, dropped, dropped_by, lag_again_by, lags_again, started_again, started_again_by}
use Rattle.publisher_hub.specs.Lists.{EachBy}
use Rattle.publisher_hub.specs.Offering.{PutsAgain}
use Rattle.publisher_hub.specs.Sound.{AreNumbers}
use Rattle.publisher_hub.specs.declared.entry.Entry.{Entry}
use Rattle.publisher_hub.specs.declared.hub.gathering.Gathering.{Gathering}
use Rattle.publisher_hub.specs.declared.work.Work.{Work}
use Rattle.publisher_hub.proofs.AnswerLists.Places.{there}
use Rattle.publisher_hub.proofs.PartialRounds.Progress.{IsAmong, Upto, found_or_not, gather_next, gather_none, upto_each, upto_next, upto_none}

-- an answer is some answer
is_some_answer : {X : Type 0} (answer : X) → IsSome (Some answer)
is_some_answer answer = search rules

module _ {F T : Type 0} (meaning : F → End) (does : F → Call T → F → Type 0) (item : Item) (numbers : List ℕ) where
  -- a subscription that missed the item was asked about, and what came of it
  abbrev pub IsRevisited : Second T → Entry F → Entry F → Type 0
  IsRevisited second old new = IsSome second × PutsAgain meaning does item second old new

  pub record IsRetrying (n : ℕ) (xs ys : List (Entry F)) (old new : Gathering) (due_old due_new : Vec (Work T) Global) : Type 0 where
    pub seconds : List (Second T)
    pub upto : Upto IsRevisited None numbers n seconds xs ys
    pub gathers : GathersAgain item seconds old new due_old due_new

  -- at first no handler was asked
  pub retrying_none : (xs : List (Entry F)) (gathering : Gathering) (due : Vec (Work T) Global) → gathering.drops ≡ 0
      → AreShares item gathering.shares.items → IsRetrying 0 xs xs gathering gathering due due
  retrying_none xs gathering due no_drops shares = record {
    seconds = replicate (length xs) None;
    upto = upto_none IsRevisited None numbers xs;
    gathers = record {
      due = sym (append-nil due.items)
          ∙ ap (λ works. due.items ++ works) (sym (gather_none {B = Second T} {C = Work T} started_again_by None (length xs) (λ p. refl)));
      lag = ap (λ ns. fold max gathering.lag ns) (sym (gather_none {B = Second T} {C = ℕ} lag_again_by None (length xs) (λ p. refl)));
      drops = no_drops ∙ ap length (sym (gather_none {B = Second T} {C = ℕ} dropped_by None (length xs) (λ p. refl)));
      missed = refl;
      shares = shares;
    };
  }

  -- a handler was asked about the next subscription
  pub retrying_next : (n k : ℕ) (xs ys : List (Entry F)) (answer : Option (Put T)) (x y : Entry F) (old before after : Gathering) (due_old due_before due_after : Vec (Work T) Global)
      → AreNumbers numbers (length xs) → slice_get numbers n ≡ Some k → slice_get xs k ≡ Some x
      → PutsAgain meaning does item (Some answer) x y → AddsAgain item k (Some answer) before after due_before due_after
      → IsRetrying n xs ys old before due_old due_before → IsRetrying (n + 1) xs (set ys k y) old after due_old due_after
  retrying_next n k xs ys answer x y old before after due_old due_before due_after are number at puts_to adds so_far =
      let seconds = so_far.seconds in
      let upto = so_far.upto in
      let gathers = so_far.gathers in
      record {
        seconds = set seconds k (Some answer);
        upto = upto_next IsRevisited None numbers n k seconds xs ys (Some answer) x y are number at (is_some_answer answer, puts_to) upto;
        gathers = record {
          due = rw (adds.due, gathers.due, gather_next started_again_by IsRevisited None numbers n k seconds xs ys (Some answer) (λ p. refl) are number upto)
              (append_assoc due_old.items (started_again seconds) (started_again_by k (Some answer)));
          lag = rw (adds.lag, gathers.lag, gather_next lag_again_by IsRevisited None numbers n k seconds xs ys (Some answer) (λ p. refl) are number upto)
              (sym (fold-append max old.lag (lags_again seconds) (lag_again_by k (Some answer))));
          drops = rw (adds.drops, gathers.drops, gather_next dropped_by IsRevisited None numbers n k seconds xs ys (Some answer) (λ p. refl) are number upto)
              (sym (length-append (dropped seconds) (dropped_by k (Some answer))));
          missed = adds.missed ∙ gathers.missed;
          shares = adds.shares;
        };
      }

  -- once all were asked about, the others are as they were
  pub all_revisited : (seconds : List (Second T)) (xs ys : List (Entry F)) (n : ℕ) → Upto IsRevisited None numbers n seconds xs ys
      → EachBy (PutsAgain meaning does item) seconds xs ys
  all_revisited seconds xs ys n upto =
      let some : Upto (PutsAgain meaning does item) None numbers n seconds xs ys = record {
        answered = upto.answered;
        as_long = upto.as_long;
        done = λ i k second x y before at said at' at''. (upto.done i k second x y before at said at' at'').1;
        rest = upto.rest;
        quiets = upto.quiets;
      } in
      upto_each (PutsAgain meaning does item) None numbers n seconds xs ys (λ k x at other. refl) some

  -- a handler was asked about these subscriptions, and about no others
  pub are_revisited : (seconds : List (Second T)) (xs ys : List (Entry F)) (n : ℕ) → n ≡ length numbers → AreNumbers numbers (length xs)
      → Upto IsRevisited None numbers n seconds xs ys → AreRevisited numbers seconds
  are_revisited seconds xs ys n done are upto = record {
    revisited = λ i k second at said.
        let within = are.within i k at in
        let long = upto.as_long in
        let old = there xs k within in
        let new = there ys k (omega arith) in
        (upto.done i k second old.0 new.0 (let low = slice_get_within numbers i k at in omega arith) at said old.1 new.1).0;
    others = λ k second said some. by k second said some (found_or_not numbers n k);
  } where
    by : (k : ℕ) (second : Second T) → slice_get seconds k ≡ Some second → IsSome second → IsAmong numbers n k ⊎ (IsAmong numbers n k → ⊥)
        → (i : ℕ) × (slice_get numbers i ≡ Some k)
    by k second said some (inl among) = (among.0, among.1.1)
    by k second said some (inr other) = none some (upto.quiets k second other said) where
      none : IsSome second → second ≡ None → (i : ℕ) × (slice_get numbers i ≡ Some k)
      none some is = absurd (nothing second some is) where
        nothing : (second : Second T) → IsSome second → second ≡ None → ⊥
        nothing None some is = cc
        nothing (Some answer) some is = cc
