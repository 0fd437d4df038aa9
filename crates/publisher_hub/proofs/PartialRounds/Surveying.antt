-- The round that lists the live subscriptions, as far as it has come.
use Rattle.std.proofs.Common.{◌≡◌, ℕ, ◌+◌, ◌≤◌, Bool, true, false, Option, None, Some, List, [], ◌++◌, length, map, replicate, set, refl, ap, sym, ◌∙◌, arith}
use Rattle.std.specs.Prelude.{slice_get}
use Rattle.std.proofs.lemmas.List.{length-append}
use Rattle.flow_rules.specs.Call.{Call}
use Rattle.flow_rules.specs.Feed.{End}
use Rattle.flow_rules.specs.declared.feed.standing.Standing.{Standing}
use Rattle.publisher_hub.specs.Entry.{EntryState, entry_of}
use Rattle.publisher_hub.specs.Hub.{HubState}
use Rattle.publisher_hub.specs.Lists.{gather}
use Rattle.publisher_hub.specs.Looking.{Glances}
use Rattle.publisher_hub.specs.Sound.{AreLive, AreNumbers, IsSound}
use Rattle.publisher_hub.specs.Stats.{AreTallied, IsListed, Lists, Surveys, SurveysRound, listed_by}
use Rattle.publisher_hub.specs.declared.entry.Entry.{Entry}
use Rattle.publisher_hub.specs.declared.hub.stats.Figures.{Figures}
use Rattle.publisher_hub.proofs.PartialRounds.Next.{numbers_of, whole_round}
use Rattle.publisher_hub.proofs.PartialRounds.Progress.{Upto, gather_next, gather_none, upto_next, upto_none}

-- of a subscription one at most is listed
few_listed : (entry : EntryState) (list : List Figures) → IsListed entry list → length list ≤ 1
few_listed entry list is = by entry.retired refl where
  by : (retired : Bool) → entry.retired ≡ retired → length list ≤ 1
  by true e = let none = ap length (is.retired e) in omega arith
  by false e = let one = ap length (is.live e).1.0 in omega arith

-- nothing is listed of a retired one
none_listed : (entry : EntryState) → entry.retired ≡ true → IsListed entry []
none_listed entry retired = record {
  retired = λ _. refl;
  live = λ live. cc;
}

-- the subscriptions of a sound Hub are tallied
pub all_tallied : (hub : HubState) → IsSound hub → AreTallied hub.progress.next hub.entries
all_tallied hub sound k entry at = record {
  here = (sound.entries k entry at).here;
  count = λ e is. ((sound.entries k entry at).counted e is).count;
}

module _ {F T : Type 0} (meaning : F → End) (does : F → Call T → F → Type 0) (next : ℕ) (live : List ℕ) where
  pub record IsSurveying (n : ℕ) (figures : List Figures) (xs ys : List (Entry F)) : Type 0 where
    pub glances : List (Option Standing)
    pub lists : List (List Figures)
    pub looked : Upto (Glances meaning does next) None live n glances xs ys
    pub listed : Upto (Lists meaning does) [] live n lists xs ys
    pub all : figures ≡ gather listed_by 0 lists
    pub few : length figures ≤ n

  -- at first nothing is done
  pub surveying_none : (xs : List (Entry F)) → IsSurveying 0 [] xs xs
  surveying_none xs = record {
    glances = replicate (length xs) None;
    lists = replicate (length xs) [];
    looked = upto_none (Glances meaning does next) None live xs;
    listed = upto_none (Lists meaning does) [] live xs;
    all = sym (gather_none listed_by [] (length xs) (λ p. refl));
    few = omega arith;
  }

  -- the next subscription was looked at, and listed
  pub surveying_next : (n k : ℕ) (before after : List Figures) (xs ys : List (Entry F)) (x y : Entry F)
      → AreNumbers live (length xs) → slice_get live n ≡ Some k → slice_get xs k ≡ Some x
      → Surveys meaning does next before after x y → IsSurveying n before xs ys → IsSurveying (n + 1) after xs (set ys k y)
  surveying_next n k before after xs ys x y numbers number at is so_far = record {
    glances = set so_far.glances k is.glance;
    lists = set so_far.lists k is.list;
    looked = upto_next (Glances meaning does next) None live n k so_far.glances xs ys is.glance x y numbers number at is.looked so_far.looked;
    listed = upto_next (Lists meaning does) [] live n k so_far.lists xs ys is.list x y numbers number at is.listed so_far.listed;
    all = is.gains ∙ ap (λ fs. fs ++ is.list) so_far.all
        ∙ sym (gather_next listed_by (Lists meaning does) [] live n k so_far.lists xs ys is.list (λ p. refl) numbers number so_far.listed);
    few = let few = so_far.few in let one = few_listed (entry_of meaning y) is.list is.listed in
        let long = ap length is.gains ∙ length-append before is.list in omega arith;
  }

  -- at last all are
  pub surveying_all : (n : ℕ) (figures : List Figures) (xs ys : List (Entry F)) → AreLive live (map (entry_of meaning) xs) → n ≡ length live
      → IsSurveying n figures xs ys → SurveysRound meaning does next figures xs ys
  surveying_all n figures xs ys are done so_far = record {
    glances = so_far.glances;
    lists = so_far.lists;
    looked = whole_round meaning live xs are n (Glances meaning does next) None so_far.glances ys so_far.looked (λ x retired. (retired, refl)) done;
    listed = whole_round meaning live xs are n (Lists meaning does) [] so_far.lists ys so_far.listed (λ x retired. none_listed (entry_of meaning x) retired) done;
    all = so_far.all;
  }
