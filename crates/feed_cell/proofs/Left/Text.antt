-- What was told fits what was taken and the end.
use Rattle.std.proofs.Common.{◌≡◌, ◌⊎◌, true, List, [], ◌∷◌, ◌++◌, map, Option, Some, None, sym, refl, ap, ◌∙◌, subst, inl, inr, append-nil}
use Rattle.feed_core.specs.Prelude.{Item, Signal, Subscribed, Next, Complete, Error, How, items_of}
use Rattle.feed_core.specs.Sound.{is_begun, signals_of}
use Rattle.flow_rules.proofs.Items.{items_of_append}
use Rattle.feed_core.proofs.Lists.Signals.{items_of_nexts}
use Rattle.feed_cell.specs.Types.{Runner, Nobody, Coming, Fresh, Ready, Looked, Saw, Measured, Taken, Over}
use Rattle.feed_cell.specs.Cell.{IsToldAt, IsToldAtEnd, how_of, greeted}

-- the items of these signals and others
items_then : (items : List Item) (more : List Signal) → items_of (map Next items ++ more) ≡ items ++ items_of more
items_then items more = items_of_append (map Next items) more ∙ ap (λ (l : List Item). l ++ items_of more) (items_of_nexts items)

-- what was told is the list of some items and the end, and those are all that were taken, or all but the last one
pub record Fits (how : Option How) (taken : List Item) (told : List Signal) : Type 0 where
  pub told_is : told ≡ signals_of (is_begun told) (items_of told) how
  pub items : (items_of told ≡ taken) ⊎ ((how ≡ Some How.OutOfMemory) × ((x : Item) × (taken ≡ items_of told ++ x ∷ [])))

-- of a literal list
fits_ending : (how : Option How) (taken : List Item) (ending : List Signal) → items_of ending ≡ []
    → signals_of true taken how ≡ Subscribed ∷ (map Next taken ++ ending) → Fits how taken (Subscribed ∷ (map Next taken ++ ending))
fits_ending how taken ending none_there is =
    let items : items_of (map Next taken ++ ending) ≡ taken = items_then taken ending ∙ ap (λ (l : List Item). taken ++ l) none_there ∙ append-nil taken in
    record { told_is = sym is ∙ ap (λ (l : List Item). signals_of true l how) (sym items); items = inl items }

fits_greeted : (how : Option How) (taken : List Item) (told : List Signal)
    → signals_of true taken how ≡ Subscribed ∷ (map Next taken ++ []) → told ≡ greeted taken → Fits how taken told
fits_greeted how taken told is e = subst (λ t. Fits how taken t) (ap (λ l. Subscribed ∷ l) (append-nil (map Next taken)) ∙ sym e) (fits_ending how taken [] refl is)

fits_by : (how : How) (taken : List Item) (told : List Signal) → IsToldAtEnd how taken told → Fits (Some how) taken told
fits_by How.Completed taken told e = subst (λ t. Fits (Some How.Completed) taken t) (sym e) (fits_ending (Some How.Completed) taken (Complete ∷ []) refl refl)
fits_by (How.Errored fault) taken told e = subst (λ t. Fits (Some (How.Errored fault)) taken t) (sym e) (fits_ending (Some (How.Errored fault)) taken (Error fault ∷ []) refl refl)
fits_by How.Cancelled taken told e = fits_greeted (Some How.Cancelled) taken told refl e
fits_by (How.Failed code) taken told e = fits_greeted (Some (How.Failed code)) taken told refl e
fits_by How.OutOfMemory taken told (inl e) = fits_greeted (Some How.OutOfMemory) taken told refl e
fits_by How.OutOfMemory taken told (inr (inl e)) = subst (λ t. Fits (Some How.OutOfMemory) taken t) (sym e.1) (record { told_is = refl; items = inl (sym e.0) })
fits_by How.OutOfMemory taken told (inr (inr e)) =
    let f = fits_greeted (Some How.OutOfMemory) e.0 told refl e.3 in
    let items : items_of told ≡ e.0 = ap items_of e.3 ∙ ap items_of (ap (λ l. Subscribed ∷ l) (sym (append-nil (map Next e.0)))) ∙ items_then e.0 [] ∙ append-nil e.0 in
    record { told_is = f.told_is; items = inr (refl, (e.1, e.2 ∙ ap (λ (l : List Item). l ++ e.1 ∷ []) (sym items))) }

pub fits_at : (r : Runner) (taken : List Item) (told : List Signal) → (r ≡ Fresh → ⊥) → IsToldAt r taken told → Fits (how_of r) taken told
fits_at (Over how) taken told other e = fits_by how taken told e
fits_at Nobody taken told other e = fits_greeted None taken told refl e
fits_at Coming taken told other e = fits_greeted None taken told refl e
fits_at Ready taken told other e = fits_greeted None taken told refl e
fits_at (Looked c) taken told other e = fits_greeted None taken told refl e
fits_at (Saw c t) taken told other e = fits_greeted None taken told refl e
fits_at (Measured c t a) taken told other e = fits_greeted None taken told refl e
fits_at Taken taken told other e = fits_greeted None taken told refl e
fits_at Fresh taken told other e = absurd (other refl)
