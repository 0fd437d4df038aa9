-- What one more text, and one more seat, change in a history and in what its seats know.
use Rattle.std.proofs.Common.{◌≡◌, ◌≢◌, ◌⊎◌, ℕ, zero, suc, ◌<◌, ◌==◌, Bool, true, false, true≢false, List, [], ◌∷◌, ◌++◌, length, set, refl, sym, ap, ◌∙◌, subst, ⊎_elim, inl, inr, arith, eq-eqb, ne_eqb, append_assoc}
use mathlib.Core.Option.{some, some-injective, some-ne-none}
use lib.ListN.{get_elem?}
use Rattle.atomic_table.proofs.Lists.{at_set}
use Rattle.history.specs.declared.rule.Entry.{Entry}
use Rattle.history.specs.declared.rule.View.{View}
use Rattle.history.specs.History.{entry, add_if, texts_of, or_else, is_in, Fits, StartsWith}

pub add_if-append : (b : Bool) (text : List ℕ) (xs ys : List (List ℕ)) → add_if b text (xs ++ ys) ≡ add_if b text xs ++ ys
add_if-append true text xs ys = refl
add_if-append false text xs ys = refl

-- one more text of the source
pub texts_of-same : (source : ℕ) (text : List ℕ) (log : List Entry) → texts_of source (log ++ entry source text ∷ []) ≡ texts_of source log ++ text ∷ []
texts_of-same source text [] = ap (λ (b : Bool). add_if b text []) (eq-eqb source source refl)
texts_of-same source text (e ∷ es) =
    ap (add_if (e.source == source) e.text) (texts_of-same source text es) ∙ add_if-append (e.source == source) e.text (texts_of source es) (text ∷ [])

-- one more text of another source
pub texts_of-other : (source other : ℕ) (text : List ℕ) (log : List Entry) → other ≢ source → texts_of source (log ++ entry other text ∷ []) ≡ texts_of source log
texts_of-other source other text [] apart = ap (λ (b : Bool). add_if b text []) (ne_eqb other source apart)
texts_of-other source other text (e ∷ es) apart = ap (add_if (e.source == source) e.text) (texts_of-other source other text es apart)

-- another number is in front
pub is_in-other : (x y : ℕ) (ys : List ℕ) → y ≢ x → is_in x (y ∷ ys) ≡ is_in x ys
is_in-other x y ys apart = ap (λ (b : Bool). or_else b (is_in x ys)) (ne_eqb y x apart)

pub off : false ≡ true → ⊥
off e = true≢false (sym e)

-- what stands in a list with one more at its end
pub at_push : (l : List View) (a b : View) (j : ℕ) → get_elem? (l ++ a ∷ []) j ≡ some b → ((j < length l) × (get_elem? l j ≡ some b)) ⊎ ((j ≡ length l) × (a ≡ b))
at_push [] a b zero e = inr (refl, some-injective a b e)
at_push [] a b (suc j) e = absurd (some-ne-none b (sym e))
at_push (x ∷ xs) a b zero e = inl (omega arith, e)
at_push (x ∷ xs) a b (suc j) e = ⊎_elim (λ t. inl (omega (arith, t.0), t.1)) (λ t. inr (ap suc t.0, t.1)) (at_push xs a b j e)

-- a longer list begins with the same
pub starts_more : (log : List Entry) (e : Entry) (seen : List Entry) → StartsWith log seen → StartsWith (log ++ e ∷ []) seen
starts_more log e seen is = (is.0 ++ e ∷ [], ap (λ (l : List Entry). l ++ e ∷ []) is.1 ∙ append_assoc seen is.0 (e ∷ []))

-- all seats fit, after one of them has a new view
pub fits_set : (kept : ℕ) (seat : ℕ → ℕ) (log : List Entry) (made : ℕ) (back : List ℕ) (views : List View) (by : ℕ) (w : View)
    → ((j : ℕ) (u : View) → j ≢ by → get_elem? views j ≡ some u → Fits kept seat log made back j u)
    → Fits kept seat log made back by w
    → (j : ℕ) (u : View) → get_elem? (set views by w) j ≡ some u → Fits kept seat log made back j u
fits_set kept seat log made back views by w others mine j u e =
    ⊎_elim
    (λ (x : (j ≡ by) × (w ≡ u)). subst (λ (y : ℕ × View). Fits kept seat log made back y.0 y.1) (λ i. (sym x.0 i, x.1 i)) mine)
    (λ (x : (j ≢ by) × (get_elem? views j ≡ some u)). others j u x.0 x.1)
    (at_set views by j w u e)

-- all seats fit, after a new one came
pub fits_push : (kept : ℕ) (seat : ℕ → ℕ) (log : List Entry) (made : ℕ) (back : List ℕ) (views : List View) (w : View)
    → ((j : ℕ) (u : View) → j < length views → get_elem? views j ≡ some u → Fits kept seat log made back j u)
    → Fits kept seat log made back (length views) w
    → (j : ℕ) (u : View) → get_elem? (views ++ w ∷ []) j ≡ some u → Fits kept seat log made back j u
fits_push kept seat log made back views w others mine j u e =
    ⊎_elim
    (λ (x : (j < length views) × (get_elem? views j ≡ some u)). others j u x.0 x.1)
    (λ (x : (j ≡ length views) × (w ≡ u)). subst (λ (y : ℕ × View). Fits kept seat log made back y.0 y.1) (λ i. (sym x.0 i, x.1 i)) mine)
    (at_push views w u j e)
