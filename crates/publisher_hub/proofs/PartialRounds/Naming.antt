-- The rounds over the names of the live subscriptions, as far as they have come.
use Rattle.std.proofs.Common.{◌≡◌, ◌⊎◌, ℕ, suc, ◌+◌, ◌<◌, Bool, true, false, Some, List, [], ◌∷◌, ◌++◌, length, map, replicate, set, refl, ap, sym, subst, ◌∙◌, inl, inr, arith, slice_index_or}
use Rattle.std.specs.Prelude.{◌==◌, slice_get}
use Rattle.std.specs.Cmp.Lexicographic.{pointwise}
use Rattle.std.proofs.lemmas.Bool.Decides.{Decides-eqb}
use Rattle.std.proofs.lemmas.List.{append-nil}
use Rattle.std.proofs.lemmas.Option.{slice_get-get_or, slice_get_within}
use Rattle.std.proofs.lemmas.Slice.Eq.{slice_eq-Decides}
use Rattle.flow_rules.specs.Feed.{End}
use Rattle.publisher_hub.specs.Entry.{EntryState, entry_of}
use Rattle.publisher_hub.specs.Lists.{gather}
use Rattle.publisher_hub.specs.Names.{IsSubscribed, live_names, name_by}
use Rattle.publisher_hub.specs.Sound.{AreLive}
use Rattle.publisher_hub.specs.declared.entry.Entry.{Entry}
use Rattle.publisher_hub.proofs.PartialRounds.Next.{get_mapped, number_inside}
use Rattle.publisher_hub.proofs.PartialRounds.Progress.{IsAmong, Upto, below_or_last, gather_next, gather_none, same_some, upto_each, upto_next, upto_none}
use Rattle.publisher_hub.proofs.Soundness.Replacing.{set_same}

-- what one place gathered
abbrev gathered_by : ℕ → List (List ℕ) → List (List ℕ)
gathered_by number names = names

-- the names at a place are those of the entry there
abbrev Names : List (List ℕ) → EntryState → EntryState → Type 0
Names names entry same = names ≡ name_by 0 entry

-- what was gathered, if each place gathered its entry's names
gather_names : (answers : List (List (List ℕ))) (xs : List EntryState) (place : ℕ) → length answers ≡ length xs
    → ((k : ℕ) (names : List (List ℕ)) (x : EntryState) → slice_get answers k ≡ Some names → slice_get xs k ≡ Some x → names ≡ name_by 0 x)
    → gather gathered_by place answers ≡ gather name_by place xs
unfolding gather
gather_names [] [] place as_long each = refl
gather_names [] (x ∷ xs) place as_long each = let low : 0 ≡ suc (length xs) = as_long in absurd (omega arith)
gather_names (names ∷ answers) [] place as_long each = let low : suc (length answers) ≡ 0 = as_long in absurd (omega arith)
gather_names (names ∷ answers) (x ∷ xs) place as_long each =
    let rest =
    gather_names answers xs (suc place) (let long : suc (length answers) ≡ suc (length xs) = as_long in omega arith) (λ k more y at at'. each (suc k) more y at at') in
    ap (λ ns. ns ++ gather gathered_by (suc place) answers) (each 0 names x refl refl) ∙ ap (λ ns. name_by 0 x ++ ns) rest

module _ (live : List ℕ) (xs : List EntryState) where
  -- these are the names of the first n
  pub record AreNamed (n : ℕ) (names : List (List ℕ)) : Type 0 where
    pub answers : List (List (List ℕ))
    pub upto : Upto Names [] live n answers xs xs
    pub gathered : names ≡ gather gathered_by 0 answers

  -- none of the first n has this name, unless it is retired
  abbrev pub NoneNamed : List ℕ → ℕ → Type 0
  NoneNamed name n =
      (i k : ℕ) (x : EntryState) → i < n → slice_get live i ≡ Some k → slice_get xs k ≡ Some x → x.retired ≡ false → x.name ≡ name → ⊥

module _ (live : List ℕ) (xs : List EntryState) (are : AreLive live xs) where
  -- at first there are none
  pub named_none : AreNamed live xs 0 []
  named_none = record {
    answers = replicate (length xs) [];
    upto = upto_none Names [] live xs;
    gathered = sym (gather_none gathered_by [] (length xs) (λ p. refl));
  }

  named_next : (n k : ℕ) (names more : List (List ℕ)) (x : EntryState) → slice_get live n ≡ Some k → slice_get xs k ≡ Some x
      → more ≡ name_by 0 x → AreNamed live xs n names → AreNamed live xs (n + 1) (names ++ more)
  named_next n k names more x number at is so_far = record {
    answers = set so_far.answers k more;
    upto = subst (λ ys. Upto Names [] live (n + 1) (set so_far.answers k more) xs ys) (set_same xs k x at)
        (upto_next Names [] live n k so_far.answers xs xs more x x are.numbers number at is so_far.upto);
    gathered = ap (λ ns. ns ++ more) so_far.gathered
        ∙ sym (gather_next gathered_by Names [] live n k so_far.answers xs xs more (λ p. refl) are.numbers number so_far.upto);
  }

  -- the next subscription is named
  pub named_more : (n k : ℕ) (names : List (List ℕ)) (x : EntryState) → slice_get live n ≡ Some k → slice_get xs k ≡ Some x
      → x.retired ≡ false → AreNamed live xs n names → AreNamed live xs (n + 1) (names ++ x.name ∷ [])
  named_more n k names x number at lives so_far = named_next n k names (x.name ∷ []) x number at (rw lives refl) so_far

  -- the next subscription is retired
  pub named_less : (n k : ℕ) (names : List (List ℕ)) (x : EntryState) → slice_get live n ≡ Some k → slice_get xs k ≡ Some x
      → x.retired ≡ true → AreNamed live xs n names → AreNamed live xs (n + 1) names
  named_less n k names x number at retired so_far =
      subst (λ ns. AreNamed live xs (n + 1) ns) (append-nil names) (named_next n k names [] x number at (rw retired refl) so_far)

  -- at last they are all
  pub named_all : (n : ℕ) (names : List (List ℕ)) → n ≡ length live → AreNamed live xs n names → names ≡ live_names xs
  named_all n names done so_far =
      let each = upto_each Names [] live n so_far.answers xs xs quiet so_far.upto in
      so_far.gathered ∙ gather_names so_far.answers xs 0 each.answered (λ k ns x at at'. each.each k ns x x at at' at') where
        quiet : (k : ℕ) (x : EntryState) → slice_get xs k ≡ Some x → (IsAmong live n k → ⊥) → [] ≡ name_by 0 x
        quiet k x at other = by x.retired refl where
          by : (retired : Bool) → x.retired ≡ retired → [] ≡ name_by 0 x
          by true is = rw is refl
          by false is = let found = are.covers k x at is in
              absurd (other (found.0, (subst (λ m. found.0 < m) (sym done) (slice_get_within live found.0 k found.1), found.1)))

  -- the next subscription has another name
  pub none_more : (name : List ℕ) (n k : ℕ) (x : EntryState) → slice_get live n ≡ Some k → slice_get xs k ≡ Some x
      → (x.retired ≡ false → x.name ≡ name → ⊥) → NoneNamed live xs name n → NoneNamed live xs name (n + 1)
  none_more name n k x number at other none i m y before at_live at_xs lives named = by (below_or_last i n before) where
    by : (i < n) ⊎ (i ≡ n) → ⊥
    by (inl low) = none i m y low at_live at_xs lives named
    by (inr last) =
        let same : k ≡ m = same_some (sym number ∙ subst (λ j. slice_get live j ≡ Some m) last at_live) in
        let entry : x ≡ y = same_some (sym at ∙ subst (λ j. slice_get xs j ≡ Some y) (sym same) at_xs) in
        other (ap (λ (e : EntryState). e.retired) entry ∙ lives) (ap (λ (e : EntryState). e.name) entry ∙ named)

  -- at last none has
  pub none_at_all : (name : List ℕ) (n : ℕ) → n ≡ length live → NoneNamed live xs name n → IsSubscribed name xs → ⊥
  none_at_all name n done none is =
      let found = are.covers is.number is.entry is.stands is.live in
      none found.0 is.number is.entry (subst (λ m. found.0 < m) (sym done) (slice_get_within live found.0 is.number found.1)) found.1 is.stands is.live is.named

-- two names that were compared, and found equal, are the same
pub same_names : (a b : List ℕ) (r : Bool) → r ≡ pointwise ◌==◌ a b → r ≡ true → a ≡ b
same_names a b r is equal = (slice_eq-Decides Decides-eqb a b r is).0 equal

pub other_names : (a b : List ℕ) (r : Bool) → r ≡ pointwise ◌==◌ a b → r ≡ false → a ≡ b → ⊥
other_names a b r is unequal same = let equal = (slice_eq-Decides Decides-eqb a b r is).1 same in cc

-- the next entry, and its number
module _ {F : Type 0} (meaning : F → End) (live : List ℕ) (xs : List (Entry F)) (n : ℕ) (are : AreLive live (map (entry_of meaning) xs)) (within : n < length live) where
  pub entry_next : (entry : Entry F) → entry ≡ slice_index_or xs (slice_index_or live n 0) entry
      → slice_get (map (entry_of meaning) xs) (slice_index_or live n 0) ≡ Some (entry_of meaning entry)
  entry_next entry is = get_mapped (entry_of meaning) xs (slice_index_or live n 0) entry
      (slice_get-get_or xs (slice_index_or live n 0) entry (number_inside meaning live xs are n within) ∙ ap Some (sym is))
