-- The sources that jobs are taken from, one after another.
use Rattle.std.proofs.Common.{◌≡◌, ◌≤◌, ◌<◌, ◌⊎◌, ℕ, suc, ◌+◌, Bool, true, false, List, [], ◌∷◌, ◌++◌, Option, Some, None, IfNone, length, get_or, take, take-suc, take_all, refl, ap, ◌∙◌, sym, subst, inl, inr, ⊎_elim, append_assoc, length-append, arith, rules, vec_len}
use lib.Dec.{eqb}
use Rattle.std.specs.Option.{is_some, option_eq}
use Rattle.std.specs.Prelude.{slice_get}
use Rattle.std.specs.Global.{Vec}
use Rattle.std.specs.Vec.{vec_capacity}
use Rattle.std.proofs.lemmas.List.{append-nil}
use Rattle.std.proofs.lemmas.Option.{slice_get-get_or, slice_get_within}
use Rattle.async_pool.specs.Source.{Drains, WereDrained}

module _ {J : Type 0} where
  -- nothing was taken
  pub drains_none : (all : List J → Type 0) (left : Vec J) → all [] → Drains all left left
  drains_none all left none = record { taken = []; order = sym (append-nil left.items); all_there = inr none; room = refl }

  -- jobs of one kind are taken, and then of another
  pub drains_both : (first then both : List J → Type 0) (old mid new : Vec J) → ((xs ys : List J) → first xs → then ys → both (xs ++ ys)) → Drains first old mid → Drains then mid new → Drains both old new
  drains_both first then both old mid new join a b = record {
    taken = a.taken ++ b.taken;
    order = b.order ∙ ap (λ l. l ++ b.taken) a.order ∙ append_assoc old.items a.taken b.taken;
    all_there = ⊎_elim
        (λ (full : vec_capacity mid ≤ vec_len mid). inl (let order = ap length b.order in let long = length-append mid.items b.taken in let room = b.room in omega arith))
        (λ (xs : first a.taken). ⊎_elim (λ full. inl full) (λ (ys : then b.taken). inr (join a.taken b.taken xs ys)) b.all_there)
        a.all_there;
    room = b.room ∙ a.room;
  }

  -- what a list has that was empty, and had room for this many
  pub gives_all : (all : List J → Type 0) (n : ℕ) (old new : Vec J) → old.items ≡ [] → n ≤ vec_capacity old → Drains all old new → (n ≤ vec_len new) ⊎ all new.items
  gives_all all n old new none room d = ⊎_elim
      (λ (full : vec_capacity new ≤ vec_len new). inl (let same = d.room in omega arith))
      (λ (m : all d.taken). inr (subst all (sym (d.order ∙ ap (λ l. l ++ d.taken) none)) m))
      d.all_there

module _ {J T : Type 0} (drained : T → List J → Type 0) where
  -- one more source
  drained_more : (sources : List T) (source : T) (taken more : List J) → WereDrained drained sources taken → drained source more → WereDrained drained (sources ++ source ∷ []) (taken ++ more)
  drained_more [] source taken more none one = (more, [], ap (λ l. l ++ more) none ∙ sym (append-nil more), one, refl)
  drained_more (s ∷ ss) source taken more (first, others, is, here, rest) one =
      (first, others ++ more, ap (λ l. l ++ more) is ∙ append_assoc first others more, here, drained_more ss source others more rest one)

  -- the same, of the source at a place
  pub drained_next : (sources : List T) (place : ℕ) (source : T) (old mid new : Vec J) → place < length sources → source ≡ get_or sources place source
      → Drains (WereDrained drained (take place sources)) old mid → Drains (drained source) mid new → Drains (WereDrained drained (take (place + 1) sources)) old new
  drained_next sources place source old mid new within is before now =
      let next : place + 1 ≡ suc place = omega arith in
      let longer : take (place + 1) sources ≡ take place sources ++ source ∷ [] = ap (λ n. take n sources) next ∙ take-suc sources place source within ∙ ap (λ s. take place sources ++ s ∷ []) (sym is) in
      subst (λ l. Drains (WereDrained drained l) old new) (sym longer)
      (drains_both (WereDrained drained (take place sources)) (drained source) (WereDrained drained (take place sources ++ source ∷ [])) old mid new (drained_more (take place sources) source) before now)

  -- all of them
  pub drained_all : (sources : List T) (place : ℕ) (old new : Vec J) → length sources ≤ place → Drains (WereDrained drained (take place sources)) old new → Drains (WereDrained drained sources) old new
  drained_all sources place old new past all = subst (λ l. Drains (WereDrained drained l) old new) (take_all place sources past) all

-- the place is the one that is left out
pub is_left_out : (left_out : Option ℕ) (place : ℕ) (b : Bool) → b ≡ option_eq eqb (Some place) left_out → b ≡ true → left_out ≡ Some place
is_left_out left_out place b e is = search rules

-- what is said of an answer that is none
pub not_told : {X : Type 0} (r : Option X) (b : Bool) (fact : Type 0) → b ≡ is_some r → b ≡ false → IfNone r fact → fact
not_told None b fact e is told = told
not_told (Some x) b fact e is told = search rules

module _ {T : Type 0} (fact : ℕ → T → Type 0) where
  -- what holds at each place below one, and there, holds at each below the next
  pub places_more : (sources : List T) (place : ℕ) (source : T) → place < length sources → source ≡ get_or sources place source
      → ((k : ℕ) (s : T) → k < place → slice_get sources k ≡ Some s → fact k s) → fact place source → (k : ℕ) (s : T) → k < place + 1 → slice_get sources k ≡ Some s → fact k s
  places_more sources place source within is before now k s less at = by (below_or_last k place less) where
    below_or_last : (a b : ℕ) → a < b + 1 → (a < b) ⊎ (a ≡ b)
    below_or_last a b less = search rules

    this : slice_get sources place ≡ Some source
    this = slice_get-get_or sources place source within ∙ ap Some (sym is)

    same_some : (a b : T) → Some a ≡ Some b → a ≡ b
    same_some a b e = cc

    by : (k < place) ⊎ (k ≡ place) → fact k s
    by (inl below) = before k s below at
    by (inr last) = let same : source ≡ s = same_some source s (sym this ∙ subst (λ j. slice_get sources j ≡ Some s) last at) in
        subst (λ (y : ℕ × T). fact y.0 y.1) (λ i. (sym last i, same i)) now

  -- and at all in the end
  pub places_all : (sources : List T) (place : ℕ) → length sources ≤ place → ((k : ℕ) (s : T) → k < place → slice_get sources k ≡ Some s → fact k s) → (k : ℕ) (s : T) → slice_get sources k ≡ Some s → fact k s
  places_all sources place past each k s at = let within : k < length sources = slice_get_within sources k s at in each k s (omega arith) at
