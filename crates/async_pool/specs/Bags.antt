-- Each step keeps the rule of the pool.
use Rattle.std.proofs.Common.{◌≡◌, ◌≢◌, ◌⊎◌, ℕ, zero, suc, ◌==◌, ◌<◌, ◌≤◌, Bool, true, false, if◌then◌else◌, List, [], ◌∷◌, ◌++◌, length, map, set, sym, refl, ap, ◌∙◌, subst, inl, inr, ⊎_elim, append_assoc, eq-eqb, ne_eqb, length-set, length-append, arith}
use Rattle.std.proofs.lemmas.List.{map-append, append-nil}
use mathlib.Core.Option.{some, some-ne-none, some-injective}
use lib.ListN.{get_elem?}
use Rattle.crossbeam_queue.proofs.Lists.{at_set, at_snoc}
use Rattle.async_pool.specs.declared.rule.Log.{Log}
use Rattle.async_pool.specs.Rule.{IsKept, Moment, log}
use Rattle.async_pool.specs.Bag.{Bag, job_of, jobs_by}

-- a pass with a view is one of the views
within : {V : Type 0} (views : List V) (pass : ℕ) (v : V) → get_elem? views pass ≡ some v → pass < length views
within [] pass v e = absurd (some-ne-none v (sym e))
within (x ∷ xs) zero v e = omega arith
within (x ∷ xs) (suc pass) v e = let h = within xs pass v e in omega arith

-- what stands in a list with one more at the end
at_end : {V : Type 0} (l : List V) (a b : V) (j : ℕ) → get_elem? (l ++ a ∷ []) j ≡ some b
    → (get_elem? l j ≡ some b) ⊎ ((j ≡ length l) × (a ≡ b))
at_end [] a b zero e = inr (refl, some-injective a b e)
at_end [] a b (suc j) e = absurd (some-ne-none b (sym e))
at_end (x ∷ xs) a b zero e = inl e
at_end (x ∷ xs) a b (suc j) e = ⊎_elim inl (λ t. inr (ap suc t.0, t.1)) (at_end xs a b j e)

module _ {J : Type 0} where
  -- steps of one pass with these jobs
  abbrev steps_of : ℕ → List J → List (ℕ × J)
  steps_of pass [] = []
  steps_of pass (x ∷ xs) = (pass, x) ∷ steps_of pass xs

  map_job_of_steps : (pass : ℕ) (xs : List J) → map job_of (steps_of pass xs) ≡ xs
  map_job_of_steps pass [] = refl
  map_job_of_steps pass (x ∷ xs) = ap (λ l. x ∷ l) (map_job_of_steps pass xs)

  if_append : (b : Bool) (x : J) (xs ys : List J) → (if b then x ∷ (xs ++ ys) else (xs ++ ys)) ≡ (if b then x ∷ xs else xs) ++ ys
  if_append true x xs ys = refl
  if_append false x xs ys = refl

  jobs_by-append : (pass : ℕ) (s t : List (ℕ × J)) → jobs_by pass (s ++ t) ≡ jobs_by pass s ++ jobs_by pass t
  jobs_by-append pass [] t = refl
  jobs_by-append pass (x ∷ s) t = ap (λ (l : List J). if pass == x.0 then x.1 ∷ l else l) (jobs_by-append pass s t) ∙ if_append (pass == x.0) x.1 (jobs_by pass s) (jobs_by pass t)

  jobs_by_own : (pass : ℕ) (xs : List J) → jobs_by pass (steps_of pass xs) ≡ xs
  jobs_by_own pass [] = refl
  jobs_by_own pass (x ∷ xs) = ap (λ (b : Bool). if b then x ∷ jobs_by pass (steps_of pass xs) else jobs_by pass (steps_of pass xs)) (eq-eqb pass pass refl) ∙ ap (λ l. x ∷ l) (jobs_by_own pass xs)

  jobs_by_another : (pass other : ℕ) (xs : List J) → pass ≢ other → jobs_by pass (steps_of other xs) ≡ []
  jobs_by_another pass other [] ne = refl
  jobs_by_another pass other (x ∷ xs) ne = ap (λ (b : Bool). if b then x ∷ jobs_by pass (steps_of other xs) else jobs_by pass (steps_of other xs)) (ne_eqb pass other ne) ∙ jobs_by_another pass other xs ne

  -- the jobs of a pass after more steps of its own
  jobs_by_more : (pass : ℕ) (steps : List (ℕ × J)) (xs : List J) → jobs_by pass (steps ++ steps_of pass xs) ≡ jobs_by pass steps ++ xs
  jobs_by_more pass steps xs = jobs_by-append pass steps (steps_of pass xs) ∙ ap (λ l. jobs_by pass steps ++ l) (jobs_by_own pass xs)

  -- and of another pass
  jobs_by_same : (pass other : ℕ) (steps : List (ℕ × J)) (xs : List J) → pass ≢ other
      → jobs_by pass (steps ++ steps_of other xs) ≡ jobs_by pass steps
  jobs_by_same pass other steps xs ne = jobs_by-append pass steps (steps_of other xs) ∙ ap (λ l. jobs_by pass steps ++ l) (jobs_by_another pass other xs ne) ∙ append-nil (jobs_by pass steps)

  abbrev Knows : List (ℕ × J) → List (ℕ × J) → ℕ → Log J → Type 0
  Knows puts takes pass v = (v.put ≡ jobs_by pass puts) × (v.taken ≡ jobs_by pass takes)

  -- what all passes know after a step of one
  each_after : (puts takes puts' takes' : List (ℕ × J)) (views : List (Log J)) (pass : ℕ) (w : Log J)
      → Knows puts' takes' pass w
      → ((other : ℕ) → other ≢ pass → (jobs_by other puts' ≡ jobs_by other puts) × (jobs_by other takes' ≡ jobs_by other takes))
      → ((other : ℕ) (u : Log J) → get_elem? views other ≡ some u → Knows puts takes other u)
      → (other : ℕ) (u : Log J) → get_elem? (set views pass w) other ≡ some u → Knows puts' takes' other u
  each_after puts takes puts' takes' views pass w own same each other u e = ⊎_elim
      (λ (x : (other ≡ pass) × (w ≡ u)). subst (λ (y : ℕ × Log J). Knows puts' takes' y.0 y.1) (λ i. (sym x.0 i, x.1 i)) own)
      (λ (x : (other ≢ pass) × (get_elem? views other ≡ some u)). let was = each other u x.1 in let is = same other x.0 in (was.0 ∙ sym is.0, was.1 ∙ sym is.1))
      (at_set views pass other w u e)

  -- jobs join at the back, by a step of one pass
  pub puts_more : (items xs : List J) (views : List (Log J)) (pass : ℕ) (v : Log J) → Bag items views → get_elem? views pass ≡ some v
      → Bag (items ++ xs) (set views pass (log (v.put ++ xs) v.taken))
  puts_more items xs views pass v b at =
      let w : Log J = log (v.put ++ xs) v.taken in
      let puts = b.puts ++ steps_of pass xs in
      let knows = b.each pass v at in
      record {
        puts = puts;
        takes = b.takes;
        in_order = map-append job_of b.puts (steps_of pass xs) ∙ ap (λ l. map job_of b.puts ++ l) (map_job_of_steps pass xs) ∙ ap (λ l. l ++ xs) b.in_order ∙ append_assoc (map job_of b.takes) items xs;
        each = each_after b.puts b.takes puts b.takes views pass w
            (ap (λ l. l ++ xs) knows.0 ∙ sym (jobs_by_more pass b.puts xs), knows.1)
            (λ other ne. (jobs_by_same other pass b.puts xs ne, refl))
            b.each;
        no_other = λ other far.
            let below = within views pass v at in
            let long = length-set views pass w in
            let far' : length views ≤ other = omega arith in
            let ne : other ≢ pass = (λ e. omega arith) in
            (jobs_by_same other pass b.puts xs ne ∙ (b.no_other other far').0, (b.no_other other far').1);
      }

  -- jobs leave at the front, by a step of one pass
  pub takes_more : (xs items : List J) (views : List (Log J)) (pass : ℕ) (v : Log J) → Bag (xs ++ items) views
      → get_elem? views pass ≡ some v → Bag items (set views pass (log v.put (v.taken ++ xs)))
  takes_more xs items views pass v b at =
      let w : Log J = log v.put (v.taken ++ xs) in
      let takes = b.takes ++ steps_of pass xs in
      let knows = b.each pass v at in
      record {
        puts = b.puts;
        takes = takes;
        in_order = b.in_order ∙ sym (append_assoc (map job_of b.takes) xs items) ∙ ap (λ l. (map job_of b.takes ++ l) ++ items) (sym (map_job_of_steps pass xs)) ∙ ap (λ l. l ++ items) (sym (map-append job_of b.takes (steps_of pass xs)));
        each = each_after b.puts b.takes b.puts takes views pass w
            (knows.0, ap (λ l. l ++ xs) knows.1 ∙ sym (jobs_by_more pass b.takes xs))
            (λ other ne. (refl, jobs_by_same other pass b.takes xs ne))
            b.each;
        no_other = λ other far.
            let below = within views pass v at in
            let long = length-set views pass w in
            let far' : length views ≤ other = omega arith in
            let ne : other ≢ pass = (λ e. omega arith) in
            ((b.no_other other far').0, jobs_by_same other pass b.takes xs ne ∙ (b.no_other other far').1);
      }

  empty_knows : (views : List (Log J)) (pass : ℕ) (v : Log J) → ((other : ℕ) (u : Log J) → get_elem? views other ≡ some u → u ≡ log [] [])
      → get_elem? views pass ≡ some v → Knows [] [] pass v
  empty_knows views pass v all e = let is = all pass v e in (ap (λ (u : Log J). u.put) is, ap (λ (u : Log J). u.taken) is)

  only_view : (other : ℕ) (u : Log J) → get_elem? (log [] [] ∷ []) other ≡ some u → u ≡ log [] []
  only_view other u e = ⊎_elim (λ (x : get_elem? [] other ≡ some u). absurd (some-ne-none u (sym x))) (λ (x : log [] [] ≡ u). sym x) (at_snoc [] (log [] []) u other e)

  -- a new queue, with one pass
  pub begins : Bag [] (log {J = J} [] [] ∷ [])
  begins = record {
    puts = [];
    takes = [];
    in_order = refl;
    each = λ pass v e. empty_knows (log [] [] ∷ []) pass v only_view e;
    no_other = λ pass far. (refl, refl);
  }

  new_knows : (views : List (Log J)) (pass : ℕ) (v : Log J) (puts takes : List (ℕ × J)) → get_elem? (views ++ log [] [] ∷ []) pass ≡ some v
      → ((other : ℕ) (u : Log J) → get_elem? views other ≡ some u → Knows puts takes other u)
      → ((other : ℕ) → length views ≤ other → (jobs_by other puts ≡ []) × (jobs_by other takes ≡ []))
      → Knows puts takes pass v
  new_knows views pass v puts takes e each no_other = ⊎_elim
      (λ (old : get_elem? views pass ≡ some v). each pass v old)
      (λ (new : (pass ≡ length views) × (log [] [] ≡ v)).
      let none = no_other pass (let is = new.0 in omega arith) in
      (ap (λ (u : Log J). u.put) (sym new.1) ∙ sym none.0, ap (λ (u : Log J). u.taken) (sym new.1) ∙ sym none.1))
      (at_end views (log [] []) v pass e)

  -- a pass enters
  pub admits : (items : List J) (views : List (Log J)) → Bag items views → Bag items (views ++ log [] [] ∷ [])
  admits items views b = record {
    puts = b.puts;
    takes = b.takes;
    in_order = b.in_order;
    each = λ pass v e. new_knows views pass v b.puts b.takes e b.each b.no_other;
    no_other = λ pass far. b.no_other pass (omega (arith, length-append views (log [] [] ∷ [])));
  }

  -- the rule of the pool is one that steps keep
  pub bag_is_kept : IsKept (Bag {J = J}) (Moment (Bag {J = J}))
  bag_is_kept = record { puts = puts_more; takes = takes_more; admits = admits; learns = λ items views pass v b at. (views, pass, b, at) }
