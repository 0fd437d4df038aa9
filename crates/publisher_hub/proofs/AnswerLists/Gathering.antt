-- Lists of answers that gather nothing.
use Rattle.std.proofs.Common.{◌≡◌, ℕ, zero, suc, ◌+◌, ◌≤◌, max, fold, Some, List, [], ◌∷◌, ◌++◌, length, refl, ap, subst, ◌∙◌, arith}
use Rattle.std.specs.Prelude.{slice_get}
use Rattle.std.proofs.lemmas.List.{length-append}
use Rattle.std.proofs.lemmas.List.Sums.{fold-append}
use Rattle.publisher_hub.specs.Lists.{gather}

-- if no answer gathers anything, all of them gather nothing
pub gather_nothing : {B C : Type 0} (each : ℕ → B → List C) (answers : List B) (place : ℕ)
    → ((i : ℕ) (answer : B) → slice_get answers i ≡ Some answer → each (place + i) answer ≡ []) → gather each place answers ≡ []
unfolding gather
gather_nothing each [] place none = refl
gather_nothing each (answer ∷ answers) place none =
    let first : each place answer ≡ [] = subst (λ p. each p answer ≡ []) (omega arith) (none 0 answer refl) in
    ap (λ cs. cs ++ gather each (suc place) answers) first
    ∙ gather_nothing each answers (suc place) (λ i a at. subst (λ p. each p a ≡ []) (omega arith) (none (suc i) a at))

-- two lists, one after the other, are empty only if both are
pub both_empty : {C : Type 0} (xs ys : List C) → xs ++ ys ≡ [] → (xs ≡ []) × (ys ≡ [])
both_empty [] ys e = (refl, e)
both_empty (x ∷ xs) ys e = cc

-- if all gather nothing, each answer gathers nothing
pub gathers_nothing : {B C : Type 0} (each : ℕ → B → List C) (answers : List B) (place i : ℕ) (answer : B) → gather each place answers ≡ []
    → slice_get answers i ≡ Some answer → each (place + i) answer ≡ []
unfolding gather
gathers_nothing each [] place i answer none at = cc
gathers_nothing each (first ∷ answers) place zero answer none at =
    let both = both_empty (each place first) (gather each (suc place) answers) none in
    subst (λ a. each (place + 0) a ≡ []) (cc) (subst (λ p. each p first ≡ []) (omega arith) both.0)
gathers_nothing each (first ∷ answers) place (suc i) answer none at =
    let both = both_empty (each place first) (gather each (suc place) answers) none in
    subst (λ p. each p answer ≡ []) (omega arith) (gathers_nothing each answers (suc place) i answer both.1 at)

-- what stands in the second of two lists stands in both together
stands_after : {C : Type 0} (xs ys : List C) (j : ℕ) (c : C) → slice_get ys j ≡ Some c → (i : ℕ) × (slice_get (xs ++ ys) i ≡ Some c)
stands_after [] ys j c at = (j, at)
stands_after (x ∷ xs) ys j c at = let found = stands_after xs ys j c at in (suc found.0, found.1)

-- what an answer gathers alone stands among what all gather
pub gathers_one : {B C : Type 0} (each : ℕ → B → List C) (answers : List B) (place i : ℕ) (answer : B) (c : C) → each (place + i) answer ≡ c ∷ []
    → slice_get answers i ≡ Some answer → (j : ℕ) × (slice_get (gather each place answers) j ≡ Some c)
unfolding gather
gathers_one each [] place i answer c one at = cc
gathers_one each (first ∷ answers) place zero answer c one at =
    let here : each place first ≡ c ∷ [] = subst (λ a. each place a ≡ c ∷ []) (cc) (subst (λ p. each p answer ≡ c ∷ []) (omega arith) one) in
    (0, ap (λ cs. slice_get (cs ++ gather each (suc place) answers) 0) here)
gathers_one each (first ∷ answers) place (suc i) answer c one at =
    let found = gathers_one each answers (suc place) i answer c (subst (λ p. each p answer ≡ c ∷ []) (omega arith) one) at in
    stands_after (each place first) (gather each (suc place) answers) found.0 c found.1

-- two lists gather the same if their elements do at each place
pub gather_same : {A B C : Type 0} (f : ℕ → A → List C) (g : ℕ → B → List C) (xs : List A) (ys : List B) (place : ℕ) → length xs ≡ length ys
    → ((i : ℕ) (x : A) (y : B) → slice_get xs i ≡ Some x → slice_get ys i ≡ Some y → f (place + i) x ≡ g (place + i) y)
    → gather f place xs ≡ gather g place ys
unfolding gather
gather_same f g [] [] place long same = refl
gather_same f g [] (y ∷ ys) place long same = cc
gather_same f g (x ∷ xs) [] place long same = cc
gather_same f g (x ∷ xs) (y ∷ ys) place long same =
    let first : f place x ≡ g place y = subst (λ p. f p x ≡ g p y) (omega arith) (same 0 x y refl refl) in
    let shorter : length xs ≡ length ys = omega arith in
    ap (λ cs. cs ++ gather f (suc place) xs) first
    ∙ ap (λ cs. g place y ++ cs) (gather_same f g xs ys (suc place) shorter (λ i a b at at'. subst (λ p. f p a ≡ g p b) (omega arith) (same (suc i) a b at at')))

-- if each answer gathers at most one element, no more are gathered than there are answers
pub gather_few : {B C : Type 0} (each : ℕ → B → List C) (answers : List B) (place : ℕ) → ((p : ℕ) (answer : B) → length (each p answer) ≤ 1)
    → length (gather each place answers) ≤ length answers
unfolding gather
gather_few each [] place few = omega arith
gather_few each (answer ∷ answers) place few =
    let first = few place answer in
    let later = gather_few each answers (suc place) few in
    let both = length-append (each place answer) (gather each (suc place) answers) in
    omega arith

-- folding from a number on is the greater of it and the greatest
fold_from : (b : ℕ) (ns : List ℕ) → fold max b ns ≡ max b (fold max 0 ns)
fold_from b [] = omega arith
fold_from b (n ∷ ns) = let here = fold_from (max b n) ns in let there = fold_from (max 0 n) ns in omega arith

pub greatest_from : (b m : ℕ) (ns : List ℕ) → b ≤ m → fold max 0 ns ≤ m → fold max b ns ≤ m
greatest_from b m ns low few = let is = fold_from b ns in omega arith

-- if what each answer gathers is at most this, then so is the greatest of all
pub greatest_below : {B : Type 0} (each : ℕ → B → List ℕ) (answers : List B) (place m : ℕ)
    → ((i : ℕ) (answer : B) → slice_get answers i ≡ Some answer → fold max 0 (each (place + i) answer) ≤ m)
    → fold max 0 (gather each place answers) ≤ m
unfolding gather
greatest_below each [] place m few = omega arith
greatest_below each (answer ∷ answers) place m few =
    let first : fold max 0 (each place answer) ≤ m = subst (λ p. fold max 0 (each p answer) ≤ m) (omega arith) (few 0 answer refl) in
    let later =
    greatest_below each answers (suc place) m (λ i a at. subst (λ p. fold max 0 (each p a) ≤ m) (omega arith) (few (suc i) a at)) in
    rw (fold-append max 0 (each place answer) (gather each (suc place) answers)) (greatest_from (fold max 0 (each place answer)) m (gather each (suc place) answers) first later)
