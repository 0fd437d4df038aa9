-- A step on a word that is no word of the table, beside which the table's invariant is opened: one seat takes in
-- another's view if both are of the table, and else both stay as they were.
use Rattle.std.proofs.Common.{◌≡◌, ◌⊎◌, ℕ, List, [], ◌∷◌, length, set, refl, sym, subst, inl, inr, arith}
use mathlib.Core.List.{Mem, not-mem-nil}
use mathlib.Core.Logic.{dite}
use mathlib.Core.Option as maybe
use native.Mathlib.Decide.{ℕ_discrete}
use lib.ListN.{get_elem?}
use seplogic.Ra.Ura.{Ura}
use base.Stored.{Coded}
use base.Share.{three_quarters}
use base.Logic.{SProp, ent, sep, wand, ex, all, guard, upd, all_e, ex_i, upd_i}
use base.Fml.{Lft, Share, Fml, ftrue, fsep, flft, fbor, finv, fnamed}
use types.Logic.{Logic, sem}
use types.Kit.{‵, raw, ◌⊛◌, some, given, ◌$◌, ◌∵◌, !, qed, by, move, drop, split, join, fsplit, fsplit3, fjoin, fjoin3, fpick, fpack, pick, learn, show, check, frame, each, assume, suffices, settle, done, use1, use2}
use denote.RattleType.{RattleType}
use denote.RawPtr.{Ptr, block_ptr}
use denote.Steps.{nothing}
use Rattle.std.specs.Sync.RawAtomic.{Shift, rests, opens, shuts, enters, leaves, along, found, back, if_none, asks, always}
use Rattle.atomic_table.specs.Table.{State, Me, Joins}
use Rattle.atomic_table.specs.Seated.{word, seen, roster, TableId, age, standing, inner, common, mine}
use Rattle.atomic_table.proofs.Roster.{Moved, moves, apart}

same_names : (xs ys : List ℕ) → Dec (xs ≡ ys)
same_names [] [] = yes refl
same_names [] (y ∷ ys) = no (λ e. subst (λ (zs : List ℕ). is_empty zs) e tt)
  where
    is_empty : List ℕ → Type 0
    is_empty [] = Unit {0}
    is_empty (z ∷ zs) = ⊥
same_names (x ∷ xs) [] = no (λ e. subst (λ (zs : List ℕ). is_full zs) e tt)
  where
    is_full : List ℕ → Type 0
    is_full [] = ⊥
    is_full (z ∷ zs) = Unit {0}
same_names (x ∷ xs) (y ∷ ys) = dite (ℕ_discrete x y)
    (λ e. dite (same_names xs ys) (λ d. yes (λ i. e i ∷ d i)) (λ n. no (λ p. n (λ i. after (p i)))))
    (λ n. no (λ p. n (λ i. first (p i))))
  where
    first : List ℕ → ℕ
    first [] = x
    first (z ∷ zs) = z

    after : List ℕ → List ℕ
    after [] = xs
    after (z ∷ zs) = zs

-- whether two tables are one
pub same_table : (a b : TableId) → Dec (a ≡ b)
same_table a b =
    dite (ℕ_discrete a.words b.words) (λ e.
    dite (ℕ_discrete a.slots b.slots) (λ e'.
    dite (ℕ_discrete a.views_name b.views_name) (λ e''.
    dite (ℕ_discrete a.atom b.atom) (λ f.
    dite (ℕ_discrete a.block b.block) (λ f'.
    dite (ℕ_discrete a.offset b.offset) (λ f''.
    dite (same_names a.slot_names b.slot_names)
    (λ g. yes (λ i. record { words = e i; slots = e' i; views_name = e'' i; atom = f i; block = f' i; offset = f'' i; slot_names = g i }))
    (λ n. no (λ p. n (λ i. (p i).slot_names))))
    (λ n. no (λ p. n (λ i. (p i).offset))))
    (λ n. no (λ p. n (λ i. (p i).block))))
    (λ n. no (λ p. n (λ i. (p i).atom))))
    (λ n. no (λ p. n (λ i. (p i).views_name))))
    (λ n. no (λ p. n (λ i. (p i).slots))))
    (λ n. no (λ p. n (λ i. (p i).words)))

-- one of two, by a decision
abbrev pub where_one : {φ X : Type 0} → Dec φ → X → X → X
where_one (yes e) x y = x
where_one (no n) x y = y

pub which_one : {φ X : Type 0} (d : Dec φ) (x y : X) → (φ × (where_one d x y ≡ x)) ⊎ ((¬ φ) × (where_one d x y ≡ y))
which_one (yes e) x y = inl (e, refl)
which_one (no n) x y = inr (n, refl)

module _ {M : Type 1} {𝓤 : Ura M} (𝓛 : Logic 𝓤) where
  open 𝓛 use {A}

  abbrev Pr : Type 2
  Pr = SProp 𝓤

  abbrev ◌⊢◌ : Pr → Pr → Type 1
  P ⊢ Q = ent 𝓤 P Q

  abbrev ◌∗◌ : Pr → Pr → Pr
  P ∗ Q = sep 𝓤 P Q

  abbrev ◌-∗◌ : Pr → Pr → Pr
  P -∗ Q = wand 𝓤 P Q

  infix 26 ◌⊢◌
  infixr 35 ◌∗◌
  infixr 30 ◌-∗◌
  abbrev ⟦◌⟧ : Fml → Pr
  ⟦ P ⟧ = sem 𝓛 P

  -- the word at b, o is loaded
  module _ (b o m : ℕ) (κ : Lft) (q : Share) (X : Fml) where
    abbrev then : ℕ → Fml
    then n = fsep (flft κ q) (fsep (word b o n) X)

    abbrev Found : List (ℕ × Fml) → Pr
    Found L = ex 𝓤 (found 𝓛 L b o (λ n. n) always then)

    -- and nothing else happens
    reads : ⟦ then m ⟧ ⊢ asks 𝓛 (block_ptr b o) (λ n. n) always then
    reads = qed 𝓛 (‵ (then m) ∷ []) ∵ suffices ! _ (ex_i 𝓤 (λ (s : Shift). along 𝓛 s Found []) rests) $ suffices ! _ (upd_i 𝓤 (Found [])) $ fsplit3 ! $ move ! (1 ∷ []) $
        show ! (found 𝓛 [] b o (λ n. n) always then) m $ frame ! $ each ! (λ (_ : Unit {0}). back 𝓛 [] b o (λ n. n) then m) (λ _. assume ! (‵ (word b o m)) $
        suffices ! _ (ex_i 𝓤 (λ (s : Shift). along 𝓛 s (if_none 𝓛 ⟦ then m ⟧) []) rests) $ suffices ! _ (upd_i 𝓤 ⟦ then m ⟧) $ move ! (1 ∷ 0 ∷ []) $ done !)

    -- beside what an invariant lends, Y becomes X
    beside : (I Y : Fml) → ⟦ I ⟧ ∗ ⟦ Y ⟧ ⊢ upd 𝓤 (⟦ I ⟧ ∗ ⟦ X ⟧)
        → A.inv (fbor κ I) ∗ A.lft κ q ∗ ⟦ fsep (word b o m) Y ⟧ ⊢ asks 𝓛 (block_ptr b o) (λ n. n) always then
    beside I Y law = let P : Fml = fbor κ I in let O : Pr = A.obor κ q I in
        qed 𝓛 (‵ (finv P) ∷ ‵ (flft κ q) ∷ ‵ (fsep (word b o m) Y) ∷ []) ∵ use1 𝓛 (some (λ (j : ℕ). ‵ (fnamed j P))) (𝓛.invs.inv_named P) $ pick ! (λ j. let L : List (ℕ × Fml) = (j, P) ∷ [] in let F : Pr = Found L in
        let Opened : Pr = (A.bor κ I ∗ A.lft κ q) ∗ ((O ∗ ⟦ I ⟧) -∗ upd 𝓤 F) in suffices ! _ (ex_i 𝓤 (λ (s : Shift). along 𝓛 s Found []) (enters j P (opens κ q I rests))) $
        suffices ! _ (upd_i 𝓤 (guard 𝓤 (¬ Mem j []) (A.named j P ∗ (⟦ P ⟧ -∗ upd 𝓤 Opened)))) $ check ! (λ e. not-mem-nil e) $ frame ! $ assume ! (‵ P) $
        suffices ! _ (upd_i 𝓤 Opened) $ join ! $ frame ! $ assume ! (raw O ⊛ ‵ I) $ suffices ! _ (upd_i 𝓤 F) $ split ! $ move ! (2 ∷ []) $ fsplit ! $
        show ! (found 𝓛 L b o (λ n. n) always then) m $ frame ! $ each ! (λ (_ : Unit {0}). back 𝓛 L b o (λ n. n) then m) (λ _. assume ! (‵ (word b o m)) $
        let T : Pr = ⟦ then m ⟧ in let Q : Pr = ⟦ P ⟧ ∗ upd 𝓤 T in let N : Pr = (A.bor κ I ∗ A.lft κ q) -∗ upd 𝓤 Q in
        suffices ! _ (ex_i 𝓤 (λ (s : Shift). along 𝓛 s (if_none 𝓛 T) L) (shuts κ q I (leaves rests))) $ move ! (3 ∷ 1 ∷ []) $
        use2 𝓛 (raw (upd 𝓤 (⟦ I ⟧ ∗ ⟦ X ⟧))) law $ settle 𝓛 ((O ∗ ⟦ I ⟧) ∗ N) (‵ I ⊛ ‵ X) $ suffices ! _ (upd_i 𝓤 ((O ∗ ⟦ I ⟧) ∗ N)) $ split ! $ move ! (3 ∷ 0 ∷ []) $ join ! $ frame ! $
        assume ! (‵ P ⊛ ‵ (flft κ q)) $ suffices ! _ (upd_i 𝓤 Q) $ split ! $ frame ! $ suffices ! _ (upd_i 𝓤 T) $ move ! (0 ∷ 2 ∷ 1 ∷ []) $ done !))

  module _ (R : RattleType) {V : Type 0} (cv : Coded V) (holds : State R.Denot V → Type 0) (w p : Ptr) (z : TableId) where
    abbrev C : Fml
    C = common R cv.code holds w p z

    abbrev I : Fml
    I = inner R cv.code holds w p z

    abbrev S : Type 0
    S = R.Denot

    abbrev half : ℕ → V → Fml
    half id v = seen cv.code z.views_name id three_quarters v

    abbrev Fits : State S V → Type 0
    Fits s = holds s × (length s.words ≡ z.words) × (length s.homes ≡ z.slots)

    abbrev sat : ℕ → Me S V → Fml
    sat = mine R cv.code z

    -- the views of two seats of the table become one
    merges : (id : ℕ) (me : Me S V) (other : ℕ) (it : Me S V) (both spent : V) → Joins holds id me.0 other it.0 both spent
        → ⟦ I ⟧ ∗ ⟦ fsep (sat id me) (sat other it) ⟧ ⊢ upd 𝓤 (⟦ I ⟧ ∗ ⟦ fsep (sat id (both, me.1)) (sat other (spent, it.1)) ⟧)
    merges id me other it both spent law = let u : V = it.0 in let γ : ℕ = z.views_name in let Z : Pr = ⟦ I ⟧ ∗ ⟦ fsep (sat id (both, me.1)) (sat other (spent, it.1)) ⟧ in
        qed 𝓛 (‵ I ∷ ‵ (fsep (sat id me) (sat other it)) ∷ []) ∵ fpick ! (λ s. let vs : List V = set s.views id both in let t : State S V = record { words = s.words; homes = s.homes; views = set vs other spent } in
        fsplit3 ! $ move ! (2 ∷ []) $ fpick ! (λ so. drop ! $ move ! (1 ∷ []) $ fsplit ! $ move ! (3 ∷ []) $ fsplit ! $ fsplit ! $ move ! (2 ∷ []) $ fsplit ! $ move ! (2 ∷ 0 ∷ []) $
        -- [what each seat knows; what each has out; the slots; the views; the words]
        use2 𝓛 (given (¬ (other ≡ id)) (‵ (half id me.0) ⊛ ‵ (half other u))) (apart 𝓛 cv γ id other me.0 u) $ learn ! (λ two. split ! $ move ! (5 ∷ 0 ∷ []) $
        use2 𝓛 (given (get_elem? s.views id ≡ maybe.some me.0) (raw (all 𝓤 (Moved 𝓛 cv γ 0 s.views id id)))) (moves 𝓛 cv γ s.views 0 id id me.0 (omega arith)) $ learn ! (λ at.
        use1 𝓛 (raw (Moved 𝓛 cv γ 0 s.views id id both)) (all_e 𝓤 (Moved 𝓛 cv γ 0 s.views id id) both) $ settle 𝓛 Z (‵ (roster cv.code γ 0 vs) ⊛ ‵ (half id both)) $ split ! $ move ! (0 ∷ 2 ∷ []) $
        use2 𝓛 (given (get_elem? vs other ≡ maybe.some u) (raw (all 𝓤 (Moved 𝓛 cv γ 0 vs other other)))) (moves 𝓛 cv γ vs 0 other other u (omega arith)) $ learn ! (λ at'.
        use1 𝓛 (raw (Moved 𝓛 cv γ 0 vs other other spent)) (all_e 𝓤 (Moved 𝓛 cv γ 0 vs other other) spent) $ settle 𝓛 Z (‵ (roster cv.code γ 0 t.views) ⊛ ‵ (half other spent)) $ split ! $
        suffices ! _ (upd_i 𝓤 Z) $
        -- [the views; what each seat knows; what each has out; the slots; the words]
        nothing ! $ fpack ! (Fits t) (λ _. ftrue) (law s so.0 at two at', so.1, so.2) $ move ! (6 ∷ 1 ∷ []) $ fjoin ! $ move ! (6 ∷ 0 ∷ 1 ∷ []) $ fjoin3 ! $ fpack ! (State S V) (standing R cv.code holds w p z) t $ frame ! $
        move ! (0 ∷ 2 ∷ []) $ fjoin ! $ move ! (1 ∷ 2 ∷ []) $ fjoin ! $ done !)))))

    -- zo is the other seat's table
    module _ (b o : ℕ) (q : Share) (id : ℕ) (me : Me S V) (zo : TableId) (other : ℕ) (it : Me S V) (both spent : V) where
      abbrev pub me_after : Dec (zo ≡ z) → Me S V
      me_after d = where_one d (both, me.1) me

      abbrev pub it_after : Dec (zo ≡ z) → Me S V
      it_after d = where_one d (spent, it.1) it

      abbrev pub seats : Me S V → Me S V → Fml
      seats me' it' = fsep (mine R cv.code z id me') (mine R cv.code zo other it')

      abbrev pub joined : Dec (zo ≡ z) → ℕ → Fml
      joined d n = fsep (flft (age z) q) (fsep (word b o n) (seats (me_after d) (it_after d)))

      pub takes_in : (d : Dec (zo ≡ z)) → (zo ≡ z → Joins holds id me.0 other it.0 both spent)
          → ⟦ C ⟧ ∗ A.lft (age z) q ∗ ⟦ fsep (word b o 0) (seats me it) ⟧ ⊢ asks 𝓛 (block_ptr b o) (λ n. n) always (joined d)
      takes_in (yes e) law = qed 𝓛 (‵ C ∷ ‵ (flft (age z) q) ∷ ‵ (fsep (word b o 0) (seats me it)) ∷ []) ∵ fsplit ! $ drop ! $
          by ! (beside b o 0 (age z) q (seats (both, me.1) (spent, it.1)) I (seats me it)
          (subst (λ (y : TableId). ⟦ I ⟧ ∗ ⟦ fsep (sat id me) (mine R cv.code y other it) ⟧ ⊢ upd 𝓤 (⟦ I ⟧ ∗ ⟦ fsep (sat id (both, me.1)) (mine R cv.code y other (spent, it.1)) ⟧)) (sym e) (merges id me other it both spent (law e))))
      takes_in (no n) law = qed 𝓛 (‵ C ∷ ‵ (flft (age z) q) ∷ ‵ (fsep (word b o 0) (seats me it)) ∷ []) ∵ drop ! $ by ! (reads b o 0 (age z) q (seats me it))
