-- What one seat alone knows, after a step or a split of seats.
use Rattle.std.proofs.Common.{◌≡◌, ℕ, zero, suc, Bool, true, false, true≢false, List, [], ◌∷◌, ◌++◌, length, set, refl, sym, ap, ◌∙◌, subst, ⊎_elim, length-set}
use mathlib.Core.Option.{some, some-injective, some-ne-none}
use lib.ListN.{get_elem?}
use Rattle.atomic_table.proofs.Lists.{at_set}
use Rattle.feed_cell.proofs.Table.Lists.{at_end}
use Rattle.feed_cell.specs.Cell.{Only}
use Rattle.feed_cell.specs.declared.cell.View.{View}

-- a seat does not have a part that it has not
pub lacks : {C : Type 0} (part : View → Bool) (v w : View) → part v ≡ false → v ≡ w → part w ≡ true → C
lacks part v w without same has = absurd (true≢false (sym has ∙ ap part (sym same) ∙ without))

-- one seat alone
pub alone : (part : View → Bool) (Knows : View → Type 0) (v : View) → Knows v → Only part 0 Knows (v ∷ [])
alone part Knows v knows zero d at has = (refl, subst Knows (some-injective v d at) knows)
alone part Knows v knows (suc j) d at has = absurd (some-ne-none d (sym at))

-- the seat with the part makes a step
pub mine : (part : View → Bool) (seat : ℕ) (Knows Later : View → Type 0) (views : List View) (id : ℕ) (v w : View)
    → Only part seat Knows views → get_elem? views id ≡ some v → part v ≡ true
    → Later w → Only part seat Later (set views id w)
mine part seat Knows Later views id v w only at has knows j d there part_of = ⊎_elim
    (λ here. (here.0 ∙ (only id v at has).0, subst Later here.1 knows))
    (λ else. absurd (else.0 ((only j d else.1 part_of).0 ∙ sym (only id v at has).0)))
    (at_set views id j w d there)

-- a seat without the part makes a step
pub other : (part : View → Bool) (seat : ℕ) (Knows Later : View → Type 0) (views : List View) (id : ℕ) (w : View)
    → Only part seat Knows views → part w ≡ false
    → ((d : View) → Knows d → Later d) → Only part seat Later (set views id w)
other part seat Knows Later views id w only without each j d there part_of = ⊎_elim
    (λ here. lacks part w d without here.1 part_of)
    (λ else. let was = only j d else.1 part_of in (was.0, each d was.1))
    (at_set views id j w d there)

-- the seat with the part gives it up
pub spent : (part : View → Bool) (seat : ℕ) (Knows Later : View → Type 0) (views : List View) (id : ℕ) (v w : View)
    → Only part seat Knows views → get_elem? views id ≡ some v → part v ≡ true
    → part w ≡ false → Only part seat Later (set views id w)
spent part seat Knows Later views id v w only at has without j d there part_of = ⊎_elim
    (λ here. lacks part w d without here.1 part_of)
    (λ else. absurd (else.0 ((only j d else.1 part_of).0 ∙ sym (only id v at has).0)))
    (at_set views id j w d there)

-- a seat without the part comes
pub added : (part : View → Bool) (seat : ℕ) (Knows : View → Type 0) (views : List View) (w : View) → Only part seat Knows views
    → part w ≡ false → Only part seat Knows (views ++ w ∷ [])
added part seat Knows views w only without j d there part_of = ⊎_elim
    (λ old. only j d old part_of)
    (λ new. lacks part w d without new.1 part_of)
    (at_end views w d j there)

-- the part goes to a seat that comes
pub moved : (part : View → Bool) (seat : ℕ) (Knows Later : View → Type 0) (views : List View) (id : ℕ) (v left right : View)
    → Only part seat Knows views → get_elem? views id ≡ some v → part v ≡ true
    → part left ≡ false → Later right → Only part (length views) Later (set views id left ++ right ∷ [])
moved part seat Knows Later views id v left right only at has without knows j d there part_of = ⊎_elim
    (λ old. ⊎_elim
    (λ here. lacks part left d without here.1 part_of)
    (λ else. absurd (else.0 ((only j d else.1 part_of).0 ∙ sym (only id v at has).0)))
    (at_set views id j left d old))
    (λ new. (new.0 ∙ length-set views id left, subst Later new.1 knows))
    (at_end (set views id left) right d j there)

-- nobody has the part, and a seat comes that has it
pub comes : (part : View → Bool) (Later : View → Type 0) (views : List View) (id : ℕ) (left right : View)
    → ((j : ℕ) (d : View) → get_elem? views j ≡ some d → part d ≡ true → ⊥)
    → part left ≡ false → Later right → Only part (length views) Later (set views id left ++ right ∷ [])
comes part Later views id left right nobody without knows j d there part_of = ⊎_elim
    (λ old. ⊎_elim
    (λ here. lacks part left d without here.1 part_of)
    (λ else. absurd (nobody j d else.1 part_of))
    (at_set views id j left d old))
    (λ new. (new.0 ∙ length-set views id left, subst Later new.1 knows))
    (at_end (set views id left) right d j there)
