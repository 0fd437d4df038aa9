-- The round that offers an item to the live subscriptions, as far as it has come.
use Rattle.std.proofs.Common.{◌≡◌, ℕ, ◌+◌, ◌-◌, ◌<◌, fold, max, Option, None, Some, List, [], ◌++◌, append_assoc, length, replicate, set, refl, ap, sym, subst, ◌∙◌, arith}
use Rattle.std.specs.Prelude.{Vec, slice_get}
use Rattle.std.proofs.lemmas.List.{append-nil}
use Rattle.std.proofs.lemmas.List.Sums.{fold-append}
use Rattle.std.specs.declared.alloc.Global.{Global}
use Rattle.flow_rules.specs.Call.{Call}
use Rattle.flow_rules.specs.Feed.{End}
use Rattle.flow_rules.specs.declared.feed.put.Put.{Put}
use Rattle.flow_rules.specs.declared.item.Item.{Item}
use Rattle.publisher_hub.specs.Gathering.{Adds, AreShares, Gathers, CanGather, lag_by, lags, missed_by, started, started_by}
use Rattle.publisher_hub.specs.Offering.{PutsTo}
use Rattle.publisher_hub.specs.Sound.{AreNumbers}
use Rattle.publisher_hub.specs.declared.entry.Entry.{Entry}
use Rattle.publisher_hub.specs.declared.hub.gathering.Gathering.{Gathering}
use Rattle.publisher_hub.specs.declared.work.Work.{Work}
use Rattle.publisher_hub.proofs.PartialRounds.Progress.{Upto, gather_next, gather_none, upto_next, upto_none}

module _ {F T : Type 0} (meaning : F → End) (does : F → Call T → F → Type 0) (item : Item) (live : List ℕ) where
  pub record IsPutting (n : ℕ) (xs ys : List (Entry F)) (gathering : Gathering) (due_old due_new : Vec (Work T) Global) : Type 0 where
    pub puts : List (Option (Put T))
    pub upto : Upto (PutsTo meaning does item) None live n puts xs ys
    pub gathers : Gathers item puts gathering due_old due_new

  -- at first nothing was offered
  pub putting_none : (xs : List (Entry F)) (gathering : Gathering) (due : Vec (Work T) Global) → gathering.missed.items ≡ []
      → gathering.lag ≡ 0
      → AreShares item gathering.shares.items → IsPutting 0 xs xs gathering due due
  putting_none xs gathering due no_missed no_lag shares = record {
    puts = replicate (length xs) None;
    upto = upto_none (PutsTo meaning does item) None live xs;
    gathers = record {
      due = sym (append-nil due.items)
          ∙ ap (λ works. due.items ++ works) (sym (gather_none {C = Work T} started_by None (length xs) (λ p. refl)));
      missed = no_missed ∙ sym (gather_none {B = Option (Put T)} {C = ℕ} missed_by None (length xs) (λ p. refl));
      lag = no_lag ∙ ap (λ ns. fold max 0 ns) (sym (gather_none {B = Option (Put T)} {C = ℕ} lag_by None (length xs) (λ p. refl)));
      shares = shares;
    };
  }

  -- the next subscription was offered the item
  pub putting_next : (n k : ℕ) (xs ys : List (Entry F)) (answer : Option (Put T)) (x y : Entry F) (before after : Gathering) (due_old due_before due_after : Vec (Work T) Global)
      → AreNumbers live (length xs) → slice_get live n ≡ Some k → slice_get xs k ≡ Some x → PutsTo meaning does item answer x y
      → Adds item k answer before after due_before due_after
      → IsPutting n xs ys before due_old due_before → IsPutting (n + 1) xs (set ys k y) after due_old due_after
  putting_next n k xs ys answer x y before after due_old due_before due_after numbers number at puts_to adds so_far =
      let puts = so_far.puts in
      let upto = so_far.upto in
      let gathers = so_far.gathers in
      record {
        puts = set puts k answer;
        upto = upto_next (PutsTo meaning does item) None live n k puts xs ys answer x y numbers number at puts_to upto;
        gathers = record {
          due = rw (adds.due, gathers.due, gather_next started_by (PutsTo meaning does item) None live n k puts xs ys answer (λ p. refl) numbers number upto)
              (append_assoc due_old.items (started puts) (started_by k answer));
          missed = rw (adds.missed, gathers.missed, gather_next missed_by (PutsTo meaning does item) None live n k puts xs ys answer (λ p. refl) numbers number upto) refl;
          lag = rw (adds.lag, gathers.lag, gather_next lag_by (PutsTo meaning does item) None live n k puts xs ys answer (λ p. refl) numbers number upto)
              (sym (fold-append max 0 (lags puts) (lag_by k answer)));
          shares = adds.shares;
        };
      }

-- the room that is left after the next subscription
pub room_next : {T : Type 0} (many n : ℕ) (gathering : Gathering) (due : Vec (Work T) Global) → n < many → CanGather (many - n) gathering due
    → CanGather (many - (n + 1) + 1) gathering due
room_next many n gathering due within room = subst (λ left. CanGather left gathering due) (omega arith) room
