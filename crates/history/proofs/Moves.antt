-- Each step keeps the rule of a history.
use Rattle.std.proofs.Common.{◌≡◌, ◌≢◌, ℕ, zero, suc, ◌+◌, ◌==◌, Bool, true, false, List, [], ◌∷◌, ◌++◌, length, set, refl, sym, ap, ◌∙◌, subst, ⊎_elim, arith, eq-eqb, ne_eqb, append-nil}
use mathlib.Core.Option.{some, none, some-injective, some-ne-none}
use lib.ListN.{get_elem?}
use Rattle.atomic_table.specs.Table.{State, Me, step, keeps, Allows, Splits, Joins}
use Rattle.atomic_table.proofs.Lists.{at_set}
use Rattle.history.specs.declared.rule.Entry.{Entry}
use Rattle.history.specs.declared.rule.View.{View}
use Rattle.history.specs.History.{entry, texts_of, is_in, keeper, writer, nobody, writer_part, keeper_part, together, written, returned, Fits, IsInterleaved, Writes, Returns, Looks, Recalls, StartsWith, receipt_of}
use Rattle.history.proofs.Seats.{fits_push, fits_set, is_in-other, off, starts_more, texts_of-other, texts_of-same}

-- the rule, of a table
abbrev pub Holds : State (Unit {0}) View → Type 0
Holds s = IsInterleaved s.views

-- at the start
pub begins : IsInterleaved (keeper [] 0 [] ∷ [])
begins = (0, (λ source. 0), [], 0, [], (λ source _. (refl, refl)), one)
  where
    one : (by : ℕ) (v : View) → get_elem? (keeper [] 0 [] ∷ []) by ≡ some v → Fits 0 (λ source. 0) [] 0 [] by v
    one zero v e = subst (Fits 0 (λ source. 0) [] 0 [] 0) (some-injective _ _ e) ((λ _. (refl, (refl, (refl, refl)))), ((λ c. absurd (off c)), (λ c. absurd (off c))))
    one (suc by) v e = absurd (some-ne-none v (sym e))

-- the keeper makes the seat of one more source
pub makes : (by : ℕ) (log : List Entry) (made : ℕ) (back : List ℕ) → Splits Holds by (keeper log made back) (keeper log (made + 1) back) (writer made [])
makes by log made back s h at =
    let kept = h.0 in
    let seat = h.1 in
    let all = h.2 in
    let count = h.3 in
    let gone = h.4 in
    let known = (h.6 by (keeper log made back) at).0 refl in
    let here : by ≡ kept = known.0 in
    let whole : log ≡ all = known.1.0 in
    let many : made ≡ count = known.1.1.0 in
    let views : List View = set s.views by (keeper log (made + 1) back) in
    let new : ℕ → ℕ = (λ source. if_at (source == made) (length views) (seat source)) in
    let fits_old : (j : ℕ) (u : View) → j ≢ by → get_elem? s.views j ≡ some u → Fits kept new all (made + 1) gone j u =
    λ j u apart e. (
      (λ k. absurd (apart (((h.6 j u e).0 k).0 ∙ sym here))),
      (
        (λ w. let t = (h.6 j u e).1.0 w in (
          omega (arith, t.0, many),
          (if_else (length views) (seat u.source) u.source made (λ is. omega (arith, t.0, many, is)) ∙ t.1.0, t.1.1),
        )),
        (h.6 j u e).1.1,
      ),
    ) in (
      kept,
      new,
      all,
      made + 1,
      gone,
      (λ source more. h.5 source (omega (arith, many, more))),
      fits_push kept new all (made + 1) gone views (writer made [])
          (λ j u _ e. fits_set kept new all (made + 1) gone s.views by (keeper log (made + 1) back) fits_old ((λ _. (here, (whole, (refl, known.1.1.1)))), ((λ w. absurd (off w)), (λ w. absurd (off w)))) j u e)
          ((λ k. absurd (off k)), ((λ _. let none = h.5 made (omega (arith, many)) in (omega arith, (if_here (length views) (seat made) made, (sym none.0, none.1)))), (λ c. absurd (off c)))),
    )
  where
    if_at : Bool → ℕ → ℕ → ℕ
    if_at true a b = a
    if_at false a b = b

    if_else : (a b x y : ℕ) → x ≢ y → if_at (x == y) a b ≡ b
    if_else a b x y apart = ap (λ (c : Bool). if_at c a b) (ne_eqb x y apart)

    if_here : (a b x : ℕ) → if_at (x == x) a b ≡ a
    if_here a b x = ap (λ (c : Bool). if_at c a b) (eq-eqb x x refl)

-- who keeps the history and may be a writer too parts into the two
pub parts : (by : ℕ) (v : View) → v.keeps ≡ true → Splits Holds by v (writer_part v) (keeper_part v)
parts by v kept_here s h at =
    let seat = h.1 in
    let all = h.2 in
    let count = h.3 in
    let gone = h.4 in
    let mine = h.6 by v at in
    let known = mine.0 kept_here in
    let views : List View = set s.views by (writer_part v) in
    let new : ℕ = length views in
    let fits_old : (j : ℕ) (u : View) → j ≢ by → get_elem? s.views j ≡ some u → Fits new seat all count gone j u =
    λ j u apart e. ((λ k. absurd (apart (((h.6 j u e).0 k).0 ∙ sym known.0))), (h.6 j u e).1) in (
      new,
      seat,
      all,
      count,
      gone,
      h.5,
      fits_push new seat all count gone views (keeper_part v)
          (λ j u _ e. fits_set new seat all count gone s.views by (writer_part v) fits_old ((λ k. absurd (off k)), mine.1) j u e)
          ((λ _. (refl, known.1)), ((λ w. absurd (off w)), (λ w. absurd (off w)))),
    )

-- a writer takes in the keeper's part
pub meets : (by : ℕ) (v : View) (other : ℕ) (w : View) → w.keeps ≡ true → Joins Holds by v other w (together v w) nobody
meets by v other w kept_there s h at apart there =
    let seat = h.1 in
    let all = h.2 in
    let count = h.3 in
    let gone = h.4 in
    let mine = h.6 by v at in
    let stood : get_elem? s.views other ≡ some w =
    ⊎_elim (λ (t : (other ≡ by) × (together v w ≡ w)). absurd (apart t.0)) (λ (t : (other ≢ by) × (get_elem? s.views other ≡ some w)). t.1) (at_set s.views by other (together v w) w there) in
    let known = (h.6 other w stood).0 kept_there in
    let mid : List View = set s.views by (together v w) in
    let fits_mid : (j : ℕ) (u : View) → j ≢ other → get_elem? mid j ≡ some u → Fits by seat all count gone j u =
    λ j u away e. ⊎_elim
    (λ (t : (j ≡ by) × (together v w ≡ u)). subst (λ (y : ℕ × View). Fits by seat all count gone y.0 y.1) (λ i. (sym t.0 i, t.1 i)) ((λ _. (refl, known.1)), mine.1))
    (λ (t : (j ≢ by) × (get_elem? s.views j ≡ some u)). ((λ k. absurd (away (((h.6 j u t.1).0 k).0 ∙ sym known.0))), (h.6 j u t.1).1))
    (at_set s.views by j (together v w) u e) in (
      by,
      seat,
      all,
      count,
      gone,
      h.5,
      fits_set by seat all count gone mid other nobody fits_mid ((λ k. absurd (off k)), ((λ c. absurd (off c)), (λ c. absurd (off c)))),
    )

-- the step that writes
pub writes : (slots by : ℕ) (me : Me (Unit {0}) View) (text : List ℕ) → me.0.keeps ≡ true → me.0.writes ≡ true
    → Allows Holds slots by me 0 (λ n. n) (Writes text (step slots 0 0 0 none) me)
writes slots by me text keeps_it writes_it s h _ at _ =
    let kept = h.0 in
    let seat = h.1 in
    let all = h.2 in
    let count = h.3 in
    let gone = h.4 in
    let v : View = me.0 in
    let mine = h.6 by v at in
    let known = mine.0 keeps_it in
    let own = mine.1.0 writes_it in
    let e : Entry = entry v.source text in
    let log : List Entry = all ++ e ∷ [] in
    let w : View = written v text in
    let fits_old : (j : ℕ) (u : View) → j ≢ by → get_elem? s.views j ≡ some u → Fits kept seat log count gone j u =
    λ j u apart is. (
      (λ k. absurd (apart (((h.6 j u is).0 k).0 ∙ sym known.0))),
      (
        (λ c. let t = (h.6 j u is).1.0 c in (
          t.0,
          (t.1.0, (t.1.1.0 ∙ sym (texts_of-other u.source v.source text all (λ same. apart (sym t.1.0 ∙ ap seat (sym same) ∙ own.1.0))), t.1.1.1)),
        )),
        (λ c. starts_more all e u.seen ((h.6 j u is).1.1 c)),
      ),
    ) in (
      w,
      keeps,
      tt,
      (
        kept,
        seat,
        log,
        count,
        gone,
        (λ source more. (texts_of-other source v.source text all (λ same. omega (arith, own.0, more, same)) ∙ (h.5 source more).0, (h.5 source more).1)),
        fits_set kept seat log count gone s.views by w fits_old (
          (λ _. (known.0, (ap (λ (l : List Entry). l ++ e ∷ []) known.1.0, known.1.1))),
          ((λ _. (own.0, (own.1.0, (ap (λ (l : List (List ℕ)). l ++ text ∷ []) own.1.1.0 ∙ sym (texts_of-same v.source text all), own.1.1.1)))), (λ c. starts_more all e v.seen (mine.1.1 c))),
        ),
      ),
      refl,
    )

-- the load that compares, and gives the right to write back
pub returns : (slots by : ℕ) (me : Me (Unit {0}) View) → me.0.keeps ≡ true → me.0.writes ≡ true
    → Allows Holds slots by me 0 (λ n. n) (Returns (step slots 0 0 0 none) me)
returns slots by me keeps_it writes_it s h _ at _ =
    let kept = h.0 in
    let seat = h.1 in
    let all = h.2 in
    let count = h.3 in
    let gone = h.4 in
    let v : View = me.0 in
    let mine = h.6 by v at in
    let known = mine.0 keeps_it in
    let own = mine.1.0 writes_it in
    let now : List ℕ = v.source ∷ gone in
    let fits_old : (j : ℕ) (u : View) → j ≢ by → get_elem? s.views j ≡ some u → Fits kept seat all count now j u =
    λ j u apart is. (
      (λ k. absurd (apart (((h.6 j u is).0 k).0 ∙ sym known.0))),
      (
        (λ c. let t = (h.6 j u is).1.0 c in (
          t.0,
          (t.1.0, (t.1.1.0, is_in-other u.source v.source gone (λ same. apart (sym t.1.0 ∙ ap seat (sym same) ∙ own.1.0)) ∙ t.1.1.1)),
        )),
        (h.6 j u is).1.1,
      ),
    ) in (
      returned v,
      keeps,
      tt,
      (
        kept,
        seat,
        all,
        count,
        now,
        (λ source more. ((h.5 source more).0, is_in-other source v.source gone (λ same. omega (arith, own.0, more, same)) ∙ (h.5 source more).1)),
        fits_set kept seat all count now s.views by (returned v) fits_old
            ((λ _. (known.0, (known.1.0, (known.1.1.0, ap (λ (l : List ℕ). v.source ∷ l) known.1.1.1)))), ((λ c. absurd (off c)), mine.1.1)),
      ),
      (refl, (omega (arith, own.0, known.1.1.0), (own.1.1.0 ∙ ap (texts_of v.source) (sym known.1.0), ap (is_in v.source) known.1.1.1 ∙ own.1.1.1))),
    )

-- the load that looks
pub looks : (slots by : ℕ) (me : Me (Unit {0}) View) → me.0.keeps ≡ true
    → Allows Holds slots by me 0 (λ n. n) (Looks (step slots 0 0 0 none) me)
looks slots by me keeps_it s h _ at _ =
    let v : View = me.0 in
    let mine = h.6 by v at in
    let known = mine.0 keeps_it in (
      v,
      keeps,
      tt,
      (h.0, h.1, h.2, h.3, h.4, h.5, fits_set h.0 h.1 h.2 h.3 h.4 s.views by v (λ j u _ e. h.6 j u e) mine),
      (refl, (λ source more. ap (texts_of source) known.1.0 ∙ (h.5 source (omega (arith, known.1.1.0, more))).0)),
    )

-- the keeper gives a receipt
pub gives : (by : ℕ) (v : View) → v.keeps ≡ true → Splits Holds by v v (receipt_of v)
gives by v keeps_it s h at =
    let mine = h.6 by v at in
    let known = mine.0 keeps_it in (
      h.0,
      h.1,
      h.2,
      h.3,
      h.4,
      h.5,
      fits_push h.0 h.1 h.2 h.3 h.4 (set s.views by v) (receipt_of v)
          (λ j u _ e. fits_set h.0 h.1 h.2 h.3 h.4 s.views by v (λ i w _ e'. h.6 i w e') mine j u e)
          ((λ k. absurd (off k)), ((λ c. absurd (off c)), (λ _. ([], sym known.1.0 ∙ sym (append-nil v.log))))),
    )

-- the load that compares a receipt
pub recalls : (slots by : ℕ) (me : Me (Unit {0}) View) → me.0.keeps ≡ true
    → Allows Holds slots by me 0 (λ n. n) (Recalls (step slots 0 0 0 none) me)
recalls slots by me keeps_it s h _ at _ =
    let v : View = me.0 in
    let mine = h.6 by v at in
    let known = mine.0 keeps_it in (
      v,
      keeps,
      tt,
      (h.0, h.1, h.2, h.3, h.4, h.5, fits_set h.0 h.1 h.2 h.3 h.4 s.views by v (λ j u _ e. h.6 j u e) mine),
      (refl, (λ c. subst (λ (l : List Entry). StartsWith l v.seen) (sym known.1.0) (mine.1.1 c))),
    )
