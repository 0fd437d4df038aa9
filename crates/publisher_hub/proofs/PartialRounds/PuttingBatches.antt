-- The round that offers a batch of items to each of the live subscriptions, as far as it has come.
use Rattle.std.proofs.Common.{◌≡◌, ℕ, ◌+◌, fold, max, Option, None, Some, List, ◌++◌, append_assoc, length, replicate, set, refl, ap, sym, subst, ◌∙◌}
use Rattle.std.specs.Prelude.{slice_get}
use Rattle.std.proofs.lemmas.List.{append-nil}
use Rattle.std.proofs.lemmas.List.Sums.{fold-append}
use Rattle.flow_rules.specs.Call.{Call}
use Rattle.flow_rules.specs.Feed.{End}
use Rattle.flow_rules.specs.declared.feed.put_all.PutAll.{PutAll}
use Rattle.flow_rules.specs.declared.item.Item.{Item}
use Rattle.publisher_hub.specs.Entry.{EntryState}
use Rattle.publisher_hub.specs.Batch.{AddsAll, CanPutBatch, GathersAll, PutsBatchTo, lag_all_by, lags_all, started_all, started_all_by}
use Rattle.publisher_hub.specs.Sound.{AreNumbers}
use Rattle.publisher_hub.specs.declared.entry.Entry.{Entry}
use Rattle.publisher_hub.specs.declared.work.Work.{Work}
use Rattle.publisher_hub.proofs.PartialRounds.Progress.{Upto, gather_next, gather_none, upto_next, upto_none}

module _ {F T : Type 0} (meaning : F → End) (does : F → Call T → F → Type 0) (next : ℕ) (items : List Item) (live : List ℕ) where
  pub record IsPuttingBatches (n : ℕ) (xs ys : List (Entry F)) (lag : ℕ) (due_old due_new : List (Work T)) : Type 0 where
    pub puts : List (Option (PutAll T))
    pub upto : Upto (PutsBatchTo meaning does next items) None live n puts xs ys
    pub gathers : GathersAll puts lag due_old due_new

  -- at first nothing was offered
  pub putting_none : (xs : List (Entry F)) (due : List (Work T)) → IsPuttingBatches 0 xs xs 0 due due
  putting_none xs due = record {
    puts = replicate (length xs) None;
    upto = upto_none (PutsBatchTo meaning does next items) None live xs;
    gathers = record {
      due = sym (append-nil due)
          ∙ ap (λ works. due ++ works) (sym (gather_none {B = Option (PutAll T)} {C = Work T} started_all_by None (length xs) (λ p. refl)));
      greatest_lag = sym (ap (λ ns. fold max 0 ns) (gather_none {B = Option (PutAll T)} {C = ℕ} lag_all_by None (length xs) (λ p. refl)));
    };
  }

  -- the next subscription was offered the items
  pub putting_next : (n k : ℕ) (xs ys : List (Entry F)) (answer : Option (PutAll T)) (x y : Entry F) (batch : List Item) (before after : ℕ) (due_old due_before due_after : List (Work T))
      → AreNumbers live (length xs) → slice_get live n ≡ Some k → slice_get xs k ≡ Some x → batch ≡ items
      → PutsBatchTo meaning does next batch answer x y
      → AddsAll k answer before after due_before due_after
      → IsPuttingBatches n xs ys before due_old due_before → IsPuttingBatches (n + 1) xs (set ys k y) after due_old due_after
  putting_next n k xs ys answer x y batch before after due_old due_before due_after numbers number at same put adds so_far =
      let puts_to = subst (λ (is : List Item). PutsBatchTo meaning does next is answer x y) same put in
      let puts = so_far.puts in
      let upto = so_far.upto in
      let gathers = so_far.gathers in
      record {
        puts = set puts k answer;
        upto = upto_next (PutsBatchTo meaning does next items) None live n k puts xs ys answer x y numbers number at puts_to upto;
        gathers = record {
          due = rw (adds.due, gathers.due, gather_next started_all_by (PutsBatchTo meaning does next items) None live n k puts xs ys answer (λ p. refl) numbers number upto)
              (append_assoc due_old (started_all puts) (started_all_by k answer));
          greatest_lag = rw (adds.lag, gathers.greatest_lag, gather_next lag_all_by (PutsBatchTo meaning does next items) None live n k puts xs ys answer (λ p. refl) numbers number upto)
              (sym (fold-append max 0 (lags_all puts) (lag_all_by k answer)));
        };
      }

-- one that has room for some items has room for a batch of them
pub can_put_batch : (items batch : List Item) (entry : EntryState) → batch ≡ items → CanPutBatch (length items) entry
    → CanPutBatch (length batch) entry
can_put_batch items batch entry same can = subst (λ (is : List Item). CanPutBatch (length is) entry) (sym same) can
