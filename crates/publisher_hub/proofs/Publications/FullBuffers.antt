-- The numbers of the subscriptions that missed an item.
use Rattle.std.proofs.Common.{rules, ◌≡◌, ℕ, zero, suc, ◌+◌, ◌<◌, ◌≤◌, Option, None, Some, IsSome, List, [], ◌∷◌, ◌++◌, length, map, fold, max, Bool, refl, ap, sym, subst, ◌∙◌, arith}
use Rattle.std.specs.Prelude.{Vec, slice_get, vec_len}
use Rattle.std.specs.declared.alloc.Global.{Global}
use Rattle.std.proofs.lemmas.List.{append-nil, length-map}
use Rattle.std.proofs.lemmas.Option.{slice_get_within}
use Rattle.flow_rules.specs.declared.feed.put.Put.{Put}
use Rattle.flow_rules.specs.declared.feed.put.Put.TheVariants.{Accepted, Full, Gone}
use Rattle.flow_rules.specs.Call.{Call}
use Rattle.flow_rules.specs.Feed.{End}
use Rattle.flow_rules.specs.declared.item.Item.{Item}
use Rattle.publisher_hub.specs.Gathering.{AreRevisited, AreShares, Second, dropped, dropped_by, lag_again_by, lags_again, missed, missed_by, stands, started_again, started_again_by}
use Rattle.publisher_hub.specs.Lists.{EachBy, gather}
use Rattle.publisher_hub.specs.Offering.{PutsAgain}
use Rattle.publisher_hub.specs.Publishing.{PassesAgain}
use Rattle.publisher_hub.specs.Sound.{AreNumbers}
use Rattle.publisher_hub.specs.declared.entry.Entry.{Entry}
use Rattle.publisher_hub.specs.declared.hub.gathering.Gathering.{Gathering}
use Rattle.publisher_hub.specs.declared.work.Work.{Work}
use Rattle.publisher_hub.proofs.PartialRounds.Next.{get_before_map, get_mapped}
use Rattle.publisher_hub.proofs.PartialRounds.Progress.{same_some}

module _ {T : Type 0} where
  -- the number of a place that missed the item
  pub record MissedAt (place : ℕ) (puts : List (Option (Put T))) (k : ℕ) : Type 0 where
    pub at : ℕ
    pub back : Item
    pub number : k ≡ place + at
    pub full : slice_get puts at ≡ Some (Some (Full back))

  later : (place : ℕ) (first : Option (Put T)) (puts : List (Option (Put T))) (k : ℕ) → MissedAt (suc place) puts k
      → MissedAt place (first ∷ puts) k
  later place first puts k is = record { at = suc is.at; back = is.back; number = let number = is.number in omega arith; full = is.full }

  -- each gathered number is that of a place that missed the item
  pub missed_at : (place : ℕ) (puts : List (Option (Put T))) (i k : ℕ) → slice_get (gather missed_by place puts) i ≡ Some k
      → MissedAt place puts k
  unfolding gather
  missed_at place [] i k at = cc
  missed_at place (None ∷ puts) i k at = later place None puts k (missed_at (suc place) puts i k at)
  missed_at place (Some (Accepted lag start) ∷ puts) i k at =
      later place (Some (Accepted lag start)) puts k (missed_at (suc place) puts i k at)
  missed_at place (Some (Gone back) ∷ puts) i k at = later place (Some (Gone back)) puts k (missed_at (suc place) puts i k at)
  missed_at place (Some (Full back) ∷ puts) zero k at =
      record { at = 0; back = back; number = let same : Some place ≡ Some k = at in same_some (sym same) ∙ omega arith; full = refl }
  missed_at place (Some (Full back) ∷ puts) (suc i) k at = later place (Some (Full back)) puts k (missed_at (suc place) puts i k at)

  -- the number of each place that missed the item is gathered
  pub missed_is : (place : ℕ) (puts : List (Option (Put T))) (j : ℕ) (back : Item) → slice_get puts j ≡ Some (Some (Full back))
      → (i : ℕ) × (slice_get (gather missed_by place puts) i ≡ Some (place + j))
  unfolding gather
  missed_is place [] j back at = cc
  missed_is place (put ∷ puts) zero back at =
      let is : put ≡ Some (Full back) = same_some at in
      (0, subst (λ (p : Option (Put T)). slice_get (missed_by place p ++ gather missed_by (suc place) puts) 0 ≡ Some (place + 0)) (sym is) (ap Some (omega arith)))
  missed_is place (put ∷ puts) (suc j) back at = by put (missed_is (suc place) puts j back at) where
    by : (put : Option (Put T)) → (i : ℕ) × (slice_get (gather missed_by (suc place) puts) i ≡ Some (suc place + j))
        → (i : ℕ) × (slice_get (missed_by place put ++ gather missed_by (suc place) puts) i ≡ Some (place + suc j))
    by None found = (found.0, found.1 ∙ ap Some (omega arith))
    by (Some (Accepted lag start)) found = (found.0, found.1 ∙ ap Some (omega arith))
    by (Some (Gone back)) found = (found.0, found.1 ∙ ap Some (omega arith))
    by (Some (Full back)) found = (suc found.0, found.1 ∙ ap Some (omega arith))

  -- the gathered numbers rise
  missed_rise : (place : ℕ) (puts : List (Option (Put T))) (i j n m : ℕ) → slice_get (gather missed_by place puts) i ≡ Some n
      → slice_get (gather missed_by place puts) j ≡ Some m → i < j → n < m
  unfolding gather
  missed_rise place [] i j n m at at' before = cc
  missed_rise place (None ∷ puts) i j n m at at' before = missed_rise (suc place) puts i j n m at at' before
  missed_rise place (Some (Accepted lag start) ∷ puts) i j n m at at' before = missed_rise (suc place) puts i j n m at at' before
  missed_rise place (Some (Gone back) ∷ puts) i j n m at at' before = missed_rise (suc place) puts i j n m at at' before
  missed_rise place (Some (Full back) ∷ puts) zero zero n m at at' before = absurd (omega arith)
  missed_rise place (Some (Full back) ∷ puts) zero (suc j) n m at at' before =
      let is : place ≡ n = same_some at in
      let later = missed_at (suc place) puts j m at' in
      let number = later.number in omega arith
  missed_rise place (Some (Full back) ∷ puts) (suc i) zero n m at at' before = absurd (omega arith)
  missed_rise place (Some (Full back) ∷ puts) (suc i) (suc j) n m at at' before = missed_rise (suc place) puts i j n m at at' (omega arith)

  -- at most one number is gathered for each place
  pub missed_few : (place : ℕ) (puts : List (Option (Put T))) → length (gather missed_by place puts) ≤ length puts
  unfolding gather
  missed_few place [] = omega arith
  missed_few place (None ∷ puts) = let few = missed_few (suc place) puts in omega arith
  missed_few place (Some (Accepted lag start) ∷ puts) = let few = missed_few (suc place) puts in omega arith
  missed_few place (Some (Gone back) ∷ puts) = let few = missed_few (suc place) puts in omega arith
  missed_few place (Some (Full back) ∷ puts) = let few = missed_few (suc place) puts in omega arith

  pub missed_numbers : (puts : List (Option (Put T))) → AreNumbers (gather missed_by 0 puts) (length puts)
  missed_numbers puts = record {
    rising = λ i j n m at at' before. missed_rise 0 puts i j n m at at' before;
    within = λ i n at. let is = missed_at 0 puts i n at in let number = is.number in let within = slice_get_within puts is.at _ is.full in omega arith;
  }

  -- if no handler is asked, the places that missed the item are counted, and nothing is gathered
  dropped_stand : (place : ℕ) (puts : List (Option (Put T))) → gather dropped_by place (map stands puts) ≡ gather missed_by place puts
  unfolding gather
  dropped_stand place [] = refl
  dropped_stand place (None ∷ puts) = dropped_stand (suc place) puts
  dropped_stand place (Some (Accepted lag start) ∷ puts) = dropped_stand (suc place) puts
  dropped_stand place (Some (Gone back) ∷ puts) = dropped_stand (suc place) puts
  dropped_stand place (Some (Full back) ∷ puts) = ap (λ ns. place ∷ ns) (dropped_stand (suc place) puts)

  started_stand : (place : ℕ) (puts : List (Option (Put T))) → gather started_again_by place (map stands puts) ≡ []
  unfolding gather
  started_stand place [] = refl
  started_stand place (None ∷ puts) = started_stand (suc place) puts
  started_stand place (Some (Accepted lag start) ∷ puts) = started_stand (suc place) puts
  started_stand place (Some (Gone back) ∷ puts) = started_stand (suc place) puts
  started_stand place (Some (Full back) ∷ puts) = started_stand (suc place) puts

  lags_stand : (place : ℕ) (puts : List (Option (Put T))) → gather lag_again_by place (map stands puts) ≡ []
  unfolding gather
  lags_stand place [] = refl
  lags_stand place (None ∷ puts) = lags_stand (suc place) puts
  lags_stand place (Some (Accepted lag start) ∷ puts) = lags_stand (suc place) puts
  lags_stand place (Some (Gone back) ∷ puts) = lags_stand (suc place) puts
  lags_stand place (Some (Full back) ∷ puts) = lags_stand (suc place) puts

  -- what stands follows up what was missed
  stands_is : (put : Option (Put T)) → IsSome (stands put) → (back : Item) × (put ≡ Some (Full back))
  stands_is None some = cc
  stands_is (Some (Accepted lag start)) some = cc
  stands_is (Some (Gone back)) some = cc
  stands_is (Some (Full back)) some = (back, refl)

  stand_revisited : (puts : List (Option (Put T))) → AreRevisited (missed puts) (map stands puts)
  stand_revisited puts = record {
    revisited = λ i k second at said.
        let is = missed_at 0 puts i k at in
        let here : k ≡ is.at = let number = is.number in omega arith in
        let mapped : slice_get (map stands puts) k ≡ Some (Some None) =
        subst (λ j. slice_get (map stands puts) j ≡ Some (Some None)) (sym here) (get_mapped stands puts is.at (Some (Full is.back)) is.full) in
        subst (λ (s : Second T). IsSome s) (same_some (sym mapped ∙ said)) some_none;
    others = λ k second said some.
        let old = get_before_map stands puts k second said in
        let full = stands_is old.0 (subst (λ (s : Second T). IsSome s) (sym old.1.1) some) in
        let found = missed_is 0 puts k full.0 (old.1.0 ∙ ap Some full.1) in
        (found.0, found.1 ∙ ap Some (omega arith));
  } where
    some_none : IsSome {T = Option (Put T)} (Some None)
    some_none = search rules

-- the whole second pass, if no handler is asked
pub record Declined {F T : Type 0} (meaning : F → End) (does : F → Call T → F → Type 0) (item : Item) (puts : List (Option (Put T))) (xs : List (Entry F)) : Type 0 where
  pub again : EachBy (PutsAgain meaning does item) (map stands puts) xs xs
  pub revisited : AreRevisited (missed puts) (map stands puts)
  pub due : started_again (map stands puts) ≡ []
  pub lag : lags_again (map stands puts) ≡ []
  pub drops : dropped (map stands puts) ≡ missed puts

pub declined : {F T : Type 0} (meaning : F → End) (does : F → Call T → F → Type 0) (item : Item) (puts : List (Option (Put T))) (xs : List (Entry F)) → length puts ≡ length xs → Declined meaning does item puts xs
declined {F} {T} meaning does item puts xs long = record {
  again = record {
    answered = length-map puts stands ∙ long;
    as_long = refl;
    each = λ k second x y said at at'. by k second x y (get_before_map stands puts k second said) (same_some (sym at ∙ at'));
  };
  revisited = stand_revisited puts;
  due = started_stand 0 puts;
  lag = lags_stand 0 puts;
  drops = dropped_stand 0 puts;
} where
  quiet : (put : Option (Put T)) (x : Entry F) → PutsAgain meaning does item (stands put) x x
  quiet None x = refl
  quiet (Some (Accepted lag start)) x = refl
  quiet (Some (Gone back)) x = refl
  quiet (Some (Full back)) x = refl

  by : (k : ℕ) (second : Second T) (x y : Entry F) → (old : Option (Put T)) × ((slice_get puts k ≡ Some old) × (stands old ≡ second))
      → x ≡ y → PutsAgain meaning does item second x y
  by k second x y old same =
      subst (λ (entry : Entry F). PutsAgain meaning does item second x entry) same (subst (λ (s : Second T). PutsAgain meaning does item s x x) old.1.1 (quiet old.0 x))

pub passes_declined : {F T : Type 0} (meaning : F → End) (does : F → Call T → F → Type 0) (item : Item) (declines : Bool) (puts : List (Option (Put T))) (xs : List (Entry F)) (old new : Gathering) (due : Vec (Work T) Global)
    → length puts ≡ length xs → new.drops ≡ vec_len old.missed → old.missed.items ≡ missed puts → new.lag ≡ old.lag
    → new.missed ≡ old.missed → new.shares ≡ old.shares → AreShares item old.shares.items
    → PassesAgain meaning does item declines puts (map stands puts) xs xs old new due due
passes_declined meaning does item declines puts xs old new due long drops are lag same_missed same_shares shares =
    let none = declined meaning does item puts xs long in
    record {
      again = none.again;
      revisited = none.revisited;
      declined = λ _. refl;
      gathers = record {
        due = sym (append-nil due.items) ∙ ap (λ works. due.items ++ works) (sym none.due);
        lag = lag ∙ ap (λ ns. fold max old.lag ns) (sym none.lag);
        drops = drops ∙ many ∙ ap length are ∙ ap length (sym none.drops);
        missed = same_missed;
        shares = subst (λ items. AreShares item items) (ap (λ v. v.items) (sym same_shares)) shares;
      };
    } where
      many : vec_len old.missed ≡ length old.missed.items
      many = search rules
