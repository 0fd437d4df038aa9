-- How the subscriptions are closed, one after the other.
use Rattle.std.proofs.Common.{◌≡◌, ◌⊎◌, inl, inr, ℕ, ◌+◌, ◌<◌, cond, not, Option, None, Some, List, [], ◌∷◌, ◌++◌, length, refl, sym, ap, subst, ◌∙◌, arith, rules}
use Rattle.feed_core.specs.AnsweredTurn.{Reply}
use Rattle.std.specs.Prelude.{slice_get}
use Rattle.std.proofs.lemmas.List.{length-append}
use Rattle.std.proofs.lemmas.List.Sums.{sum_by_push}
use Rattle.std.proofs.lemmas.Option.{slice_get_within}
use Rattle.feed_core.specs.Prelude.{Signal}
use Rattle.publisher_hub.proofs.AnswerLists.Updates.{get_grown}
use Rattle.publisher.proofs.BothEnds.LongerLists.{get_last, get_still}
use Rattle.publisher.specs.Finding.{ends_of, is_reclaimed}
use Rattle.publisher.specs.Leaving.{AreGiven, ClosesAll, ClosesOne, FindsFirst, IsLeftOfTaken}
use Rattle.publisher.specs.Outcome.{HasLane, IsAmong}
use Rattle.publisher.specs.declared.finishing.close.Closed.TheVariants as Closed
use Rattle.publisher.specs.declared.outcome.NamedLane.{NamedLane}
use Rattle.publisher.specs.declared.finishing.find.Found.{Found}
use Rattle.publisher.specs.declared.finishing.find.Taken.{Taken}

nothing_at : {X : Type 0} (k : ℕ) (x : X) → slice_get [] k ≡ Some x → ⊥
nothing_at k x at = cc

-- one more has an end, if it was not reclaimed
ends_more : {B : Type 0} (founds : List (Found B)) (found : Found B)
    → ends_of (founds ++ found ∷ []) ≡ ends_of founds + cond (not (is_reclaimed found)) 1 0
ends_more founds found = sum_by_push (λ f. cond (not (is_reclaimed f)) 1 0) founds found

module _ {B : Type 0} (told : B → List Signal) (replied : B → List Reply) where
  pub closes_none : (lanes : List (NamedLane B)) (held : List ℕ) → lanes ≡ [] → held ≡ []
      → ClosesAll told replied [] 0 lanes held None
  closes_none lanes held no_lanes none_held = record {
    each = λ i left at. absurd (no_lane i left at);
    apart = λ i j left other at on same. absurd (no_lane i left at);
    all = λ number taken less at. absurd (nothing_at number (Found.Both taken) at);
    held_are = λ number is_held. absurd (nothing_at is_held.0 number (sym (ap (λ hs. slice_get hs is_held.0) none_held) ∙ is_held.1));
    finds = (ap length no_lanes, (λ number less. absurd (omega arith), none_held));
    ends = let none = ap length no_lanes in let also = ap length none_held in omega arith;
    few_lanes = let none = ap length no_lanes in omega arith;
    few_held = let none = ap length none_held in omega arith;
  } where
    no_lane : (i : ℕ) (left : NamedLane B) → slice_get lanes i ≡ Some left → ⊥
    no_lane i left at = nothing_at i left (sym (ap (λ ls. slice_get ls i) no_lanes) ∙ at)

  module _ (founds : List (Found B)) (most : ℕ) (lanes : List (NamedLane B)) (held : List ℕ)
      (first : Option (List ℕ)) (closes : ClosesAll told replied founds most lanes held first)
      (is_most : most ≡ length founds) where
    -- a lane so far is that of a smaller number
    below : (number : ℕ) → HasLane number lanes → number < most
    below number has = let it = closes.each has.0 has.1 has.2.0 in let less = it.1.1.0 in let same = has.2.1 in omega arith

    lane_still : (left : NamedLane B) (number : ℕ) → HasLane number lanes → HasLane number (lanes ++ left ∷ [])
    lane_still left number has = (has.0, has.1, (get_still lanes left has.0 has.1 has.2.0, has.2.1))

    held_still : (more number : ℕ) → IsAmong number held → IsAmong number (held ++ more ∷ [])
    held_still more number is = (is.0, get_still held more is.0 number is.1)

    cases_of : (number many : ℕ) → number < many + 1 → (number < many) ⊎ (number ≡ many)
    cases_of number many less = search rules

    -- one more was closed, and the lanes are there still
    given_more : (found : Found B) (more : List (NamedLane B)) (many : ℕ) → ((number : ℕ) → HasLane number lanes → HasLane number more)
        → AreGiven founds many lanes → AreGiven (founds ++ found ∷ []) many more
    given_more found more many still given number less = by (given number less) where
      by : HasLane number lanes ⊎ (slice_get founds number ≡ Some Found.Reclaimed)
          → HasLane number more ⊎ (slice_get (founds ++ found ∷ []) number ≡ Some Found.Reclaimed)
      by (inl lane) = inl (still number lane)
      by (inr at) = inr (get_still founds found number Found.Reclaimed at)

    same_lanes : (number : ℕ) → HasLane number lanes → HasLane number lanes
    same_lanes number lane = lane

    -- what stands in the longer list, by its number
    before_or_last : (found it : Found B) (k : ℕ) → slice_get (founds ++ found ∷ []) k ≡ Some it
        → (slice_get founds k ≡ Some it) ⊎ ((k ≡ most) × (found ≡ it))
    before_or_last found it k at = by (get_grown founds found k it at) where
      by : (slice_get founds k ≡ Some it) ⊎ ((k ≡ length founds) × (found ≡ it))
          → (slice_get founds k ≡ Some it) ⊎ ((k ≡ most) × (found ≡ it))
      by (inl before) = inl before
      by (inr last) = inr (last.0 ∙ sym is_most, last.1)

    at_last : (found : Found B) → slice_get (founds ++ found ∷ []) most ≡ Some found
    at_last found = subst (λ n. slice_get (founds ++ found ∷ []) n ≡ Some found) (sym is_most) (get_last founds found)

    -- one more lane
    module _ (taken : Taken B) (left : NamedLane B) (is : IsLeftOfTaken told replied most taken left) where
      has_more : (number : ℕ) → HasLane number (lanes ++ left ∷ []) → HasLane number lanes ⊎ (number ≡ most)
      has_more number has = by (get_grown lanes left has.0 has.1 has.2.0) where
        by : (slice_get lanes has.0 ≡ Some has.1) ⊎ ((has.0 ≡ length lanes) × (left ≡ has.1)) → HasLane number lanes ⊎ (number ≡ most)
        by (inl before) = inl (has.0, has.1, (before, has.2.1))
        by (inr last) = inr (sym has.2.1 ∙ sym (ap (λ (l : NamedLane B). l.entry) last.1) ∙ is.of.number_is)

      finds_lane : (f : Option (List ℕ)) → FindsFirst told replied founds most lanes held f
          → FindsFirst told replied (founds ++ Found.Both taken ∷ []) (most + 1) (lanes ++ left ∷ []) held f
      finds_lane None finds = (
        let many = length-append lanes (left ∷ []) in let ends = ends_more founds (Found.Both taken) in let sum = finds.0 in
            omega arith,
        (λ number less. given number (cases_of number most less), finds.1.1),
      ) where
        given : (number : ℕ) → (number < most) ⊎ (number ≡ most) → HasLane number (lanes ++ left ∷ [])
            ⊎ (slice_get (founds ++ Found.Both taken ∷ []) number ≡ Some Found.Reclaimed)
        given number (inl less) = given_more (Found.Both taken) (lanes ++ left ∷ []) most (lane_still left) finds.1.0 number less
        given number (inr same) = inl (length lanes, left, (get_last lanes left, is.of.number_is ∙ sym same))
      finds_lane (Some name) finds = (
        finds.0,
        (
          (
            let less = finds.1.0.0 in omega arith,
            let few = finds.1.0.1 in let many = length-append lanes (left ∷ []) in
                let ends = ends_more founds (Found.Both taken) in omega arith,
          ),
          (
            given_more (Found.Both taken) (lanes ++ left ∷ []) finds.0 (lane_still left) finds.1.1.0,
            (λ has. never (has_more finds.0 has), missing finds.1.1.1.1),
          ),
        ),
      ) where
        never : HasLane finds.0 lanes ⊎ (finds.0 ≡ most) → ⊥
        never (inl lane) = finds.1.1.1.0 lane
        never (inr same) = let less = finds.1.0.0 in absurd (omega arith)

        missing : (slice_get founds finds.0 ≡ Some (Found.Missing name)) ⊎ IsAmong finds.0 held
            → (slice_get (founds ++ Found.Both taken ∷ []) finds.0 ≡ Some (Found.Missing name)) ⊎ IsAmong finds.0 held
        missing (inl at) = inl (get_still founds (Found.Both taken) finds.0 (Found.Missing name) at)
        missing (inr is_held) = inr is_held

      pub closes_lane : ClosesAll told replied (founds ++ Found.Both taken ∷ []) (most + 1) (lanes ++ left ∷ []) held first
      closes_lane = record {
        each = λ i it at. each i it (get_grown lanes left i it at);
        apart = λ i j it other at on same. apart i j it other same (get_grown lanes left i it at) (get_grown lanes left j other on);
        all = λ number other less at. all number other (before_or_last (Found.Both taken) (Found.Both other) number at);
        held_are = λ number is_held.
            let was = closes.held_are number is_held in (
              was.0,
              (
                get_still founds (Found.Both taken) number (Found.Both was.0) was.1.0,
                (let less = was.1.1.0 in omega arith, λ has. no_lane number was.1.1.0 was.1.1.1 (has_more number has)),
              ),
            );
        finds = finds_lane first closes.finds;
        ends = let few = closes.ends in let many = length-append lanes (left ∷ []) in
            let ends = ends_more founds (Found.Both taken) in omega arith;
        few_lanes = let few = closes.few_lanes in let many = length-append lanes (left ∷ []) in omega arith;
        few_held = let few = closes.few_held in omega arith;
      } where
        no_lane : (number : ℕ) → number < most → (HasLane number lanes → ⊥) → HasLane number lanes ⊎ (number ≡ most) → ⊥
        no_lane number less none (inl lane) = none lane
        no_lane number less none (inr same) = absurd (omega arith)

        each : (i : ℕ) (it : NamedLane B) → (slice_get lanes i ≡ Some it) ⊎ ((i ≡ length lanes) × (left ≡ it))
            → (other : Taken B) × ((slice_get (founds ++ Found.Both taken ∷ []) it.entry ≡ Some (Found.Both other))
            × ((it.entry < most + 1) × IsLeftOfTaken told replied it.entry other it))
        each i it (inl before) =
            let was = closes.each i it before in (
              was.0,
              (
                get_still founds (Found.Both taken) it.entry (Found.Both was.0) was.1.0,
                (let less = was.1.1.0 in omega arith, was.1.1.1),
              ),
            )
        each i it (inr last) = subst (λ (l : NamedLane B). (other : Taken B)
            × ((slice_get (founds ++ Found.Both taken ∷ []) l.entry ≡ Some (Found.Both other))
            × ((l.entry < most + 1) × IsLeftOfTaken told replied l.entry other l))) last.1 (
              taken,
              (
                ap (slice_get (founds ++ Found.Both taken ∷ [])) is.of.number_is
                    ∙ at_last (Found.Both taken),
                (
                  let same = is.of.number_is in
                      omega arith,
                  subst (λ n. IsLeftOfTaken told replied n taken left) (sym is.of.number_is) is,
                ),
              ),
            )

        apart : (i j : ℕ) (it other : NamedLane B) → it.entry ≡ other.entry
            → (slice_get lanes i ≡ Some it) ⊎ ((i ≡ length lanes) × (left ≡ it))
            → (slice_get lanes j ≡ Some other) ⊎ ((j ≡ length lanes) × (left ≡ other)) → i ≡ j
        apart i j it other same (inl at) (inl on) = closes.apart i j it other at on same
        apart i j it other same (inl at) (inr last) =
            let small = below it.entry (i, it, (at, refl)) in
            let its = ap (λ (l : NamedLane B). l.entry) last.1 in
            let number = is.of.number_is in absurd (omega arith)
        apart i j it other same (inr last) (inl on) =
            let small = below other.entry (j, other, (on, refl)) in
            let its = ap (λ (l : NamedLane B). l.entry) last.1 in
            let number = is.of.number_is in absurd (omega arith)
        apart i j it other same (inr last) (inr also) = last.0 ∙ sym also.0

        all : (number : ℕ) (other : Taken B) → (slice_get founds number ≡ Some (Found.Both other)) ⊎
            ((number ≡ most) × (Found.Both taken ≡ Found.Both other)) → HasLane number (lanes ++ left ∷ []) ⊎ IsAmong number held
        all number other (inl before) = by (closes.all number other
            (let within = slice_get_within founds number (Found.Both other) before in omega arith) before) where
              by : HasLane number lanes ⊎ IsAmong number held → HasLane number (lanes ++ left ∷ []) ⊎ IsAmong number held
              by (inl lane) = inl (lane_still left number lane)
              by (inr is_held) = inr is_held
        all number other (inr last) = inl (length lanes, left, (get_last lanes left, is.of.number_is ∙ sym last.0))

    -- this one has no lane
    no_lane_here : HasLane most lanes → ⊥
    no_lane_here has = let less = below most has in absurd (omega arith)

    -- one that a thread holds still
    module _ (taken : Taken B) (name : List ℕ) (first_then : Option (List ℕ))
        (none : first ≡ None → first_then ≡ Some name) (some : (it : List ℕ) → first ≡ Some it → first_then ≡ Some it) where
      finds_held : (f : Option (List ℕ)) → first ≡ f → FindsFirst told replied founds most lanes held f
          → FindsFirst told replied (founds ++ Found.Both taken ∷ []) (most + 1) lanes (held ++ most ∷ []) first_then
      finds_held None e finds = subst (λ f. FindsFirst told replied (founds ++ Found.Both taken ∷ []) (most + 1) lanes
          (held ++ most ∷ []) f) (sym (none e)) (
            most,
            (
              (omega arith, let ends = ends_more founds (Found.Both taken) in let sum = finds.0 in omega arith),
              (
                given_more (Found.Both taken) lanes most same_lanes finds.1.0,
                (no_lane_here, inr (length held, get_last held most)),
              ),
            ),
          )
      finds_held (Some it) e finds = subst (λ f. FindsFirst told replied (founds ++ Found.Both taken ∷ []) (most + 1)
          lanes (held ++ most ∷ []) f) (sym (some it e)) (
            finds.0,
            (
              (
                let less = finds.1.0.0 in omega arith,
                let few = finds.1.0.1 in let ends = ends_more founds (Found.Both taken) in omega arith,
              ),
              (
                given_more (Found.Both taken) lanes finds.0 same_lanes finds.1.1.0,
                (finds.1.1.1.0, missing finds.1.1.1.1),
              ),
            ),
          ) where
            missing : (slice_get founds finds.0 ≡ Some (Found.Missing it)) ⊎ IsAmong finds.0 held
                → (slice_get (founds ++ Found.Both taken ∷ []) finds.0 ≡ Some (Found.Missing it)) ⊎ IsAmong finds.0 (held ++ most ∷ [])
            missing (inl at) = inl (get_still founds (Found.Both taken) finds.0 (Found.Missing it) at)
            missing (inr is_held) = inr (held_still most finds.0 is_held)

      pub closes_held : ClosesAll told replied (founds ++ Found.Both taken ∷ []) (most + 1) lanes
          (held ++ most ∷ []) first_then
      closes_held = record {
        each = λ i it at. let was = closes.each i it at in (
          was.0,
          (
            get_still founds (Found.Both taken) it.entry (Found.Both was.0) was.1.0,
            (let less = was.1.1.0 in omega arith, was.1.1.1),
          ),
        );
        apart = closes.apart;
        all = λ number other less at. all number other (before_or_last (Found.Both taken) (Found.Both other) number at);
        held_are = λ number is_held. held_are number (get_grown held most is_held.0 number is_held.1) is_held;
        finds = finds_held first refl closes.finds;
        ends = let few = closes.ends in let many = length-append held (most ∷ []) in
            let ends = ends_more founds (Found.Both taken) in omega arith;
        few_lanes = let few = closes.few_lanes in omega arith;
        few_held = let few = closes.few_held in let many = length-append held (most ∷ []) in omega arith;
      } where
        all : (number : ℕ) (other : Taken B) → (slice_get founds number ≡ Some (Found.Both other)) ⊎
            ((number ≡ most) × (Found.Both taken ≡ Found.Both other)) → HasLane number lanes ⊎ IsAmong number (held ++ most ∷ [])
        all number other (inl before) = by (closes.all number other
            (let within = slice_get_within founds number (Found.Both other) before in omega arith) before) where
              by : HasLane number lanes ⊎ IsAmong number held → HasLane number lanes ⊎ IsAmong number (held ++ most ∷ [])
              by (inl lane) = inl lane
              by (inr is_held) = inr (held_still most number is_held)
        all number other (inr last) = inr (subst (λ n. IsAmong n (held ++ most ∷ [])) (sym last.0) (length held, get_last held most))

        held_are : (number : ℕ) {i : ℕ} → (slice_get held i ≡ Some number) ⊎ ((i ≡ length held) × (most ≡ number))
            → IsAmong number (held ++ most ∷ [])
            → (other : Taken B) × ((slice_get (founds ++ Found.Both taken ∷ []) number ≡ Some (Found.Both other))
            × ((number < most + 1) × (HasLane number lanes → ⊥)))
        held_are number {i} (inl before) is_held =
            let was = closes.held_are number (i, before) in (
              was.0,
              (
                get_still founds (Found.Both taken) number (Found.Both was.0) was.1.0,
                (let less = was.1.1.0 in omega arith, was.1.1.1),
              ),
            )
        held_are number (inr last) is_held = (
          taken,
          (
            subst (λ n. slice_get (founds ++ Found.Both taken ∷ []) n ≡ Some (Found.Both taken)) last.1
                (at_last (Found.Both taken)),
            (
              let same = last.1 in omega arith,
              λ has. let less = below number has in
                  let same = last.1 in absurd (omega arith),
            ),
          ),
        )

    -- one that was not handed in
    module _ (name : List ℕ) (first_then : Option (List ℕ)) (none : first ≡ None → first_then ≡ Some name)
        (some : (it : List ℕ) → first ≡ Some it → first_then ≡ Some it) where
      finds_missing : (f : Option (List ℕ)) → first ≡ f → FindsFirst told replied founds most lanes held f
          → FindsFirst told replied (founds ++ Found.Missing name ∷ []) (most + 1) lanes held first_then
      finds_missing None e finds = subst (λ f. FindsFirst told replied (founds ++ Found.Missing name ∷ []) (most + 1)
          lanes held f) (sym (none e)) (
            most,
            (
              (omega arith, let ends = ends_more founds (Found.Missing name) in let sum = finds.0 in omega arith),
              (
                given_more (Found.Missing name) lanes most same_lanes finds.1.0,
                (no_lane_here, inl (at_last (Found.Missing name))),
              ),
            ),
          )
      finds_missing (Some it) e finds = subst (λ f. FindsFirst told replied (founds ++ Found.Missing name ∷ [])
          (most + 1) lanes held f) (sym (some it e)) (
            finds.0,
            (
              (
                let less = finds.1.0.0 in omega arith,
                let few = finds.1.0.1 in let ends = ends_more founds (Found.Missing name) in omega arith,
              ),
              (
                given_more (Found.Missing name) lanes finds.0 same_lanes finds.1.1.0,
                (finds.1.1.1.0, missing finds.1.1.1.1),
              ),
            ),
          ) where
            missing : (slice_get founds finds.0 ≡ Some (Found.Missing it)) ⊎ IsAmong finds.0 held
                → (slice_get (founds ++ Found.Missing name ∷ []) finds.0 ≡ Some (Found.Missing it)) ⊎ IsAmong finds.0 held
            missing (inl at) = inl (get_still founds (Found.Missing name) finds.0 (Found.Missing it) at)
            missing (inr is_held) = inr is_held

      pub closes_missing : ClosesAll told replied (founds ++ Found.Missing name ∷ []) (most + 1) lanes held first_then
      closes_missing = record {
        each = λ i it at. let was = closes.each i it at in (
          was.0,
          (
            get_still founds (Found.Missing name) it.entry (Found.Both was.0) was.1.0,
            (let less = was.1.1.0 in omega arith, was.1.1.1),
          ),
        );
        apart = closes.apart;
        all = λ number other less at. all number other (before_or_last (Found.Missing name) (Found.Both other) number at);
        held_are = λ number is_held. let was = closes.held_are number is_held in (
          was.0,
          (
            get_still founds (Found.Missing name) number (Found.Both was.0) was.1.0,
            (let less = was.1.1.0 in omega arith, was.1.1.1),
          ),
        );
        finds = finds_missing first refl closes.finds;
        ends = let few = closes.ends in let ends = ends_more founds (Found.Missing name) in omega arith;
        few_lanes = let few = closes.few_lanes in omega arith;
        few_held = let few = closes.few_held in omega arith;
      } where
        all : (number : ℕ) (other : Taken B) → (slice_get founds number ≡ Some (Found.Both other)) ⊎
            ((number ≡ most) × (Found.Missing name ≡ Found.Both other)) → HasLane number lanes ⊎ IsAmong number held
        all number other (inl before) = closes.all number other
            (let within = slice_get_within founds number (Found.Both other) before in omega arith) before
        all number other (inr last) = let no = last.1 in cc

    -- one that was reclaimed before
    finds_reclaimed : (f : Option (List ℕ)) → FindsFirst told replied founds most lanes held f
        → FindsFirst told replied (founds ++ Found.Reclaimed ∷ []) (most + 1) lanes held f
    finds_reclaimed None finds = (
      let ends = ends_more founds Found.Reclaimed in let sum = finds.0 in
          omega arith,
      (λ number less. given number (cases_of number most less), finds.1.1),
    ) where
      given : (number : ℕ) → (number < most) ⊎ (number ≡ most)
          → HasLane number lanes ⊎ (slice_get (founds ++ Found.Reclaimed ∷ []) number ≡ Some Found.Reclaimed)
      given number (inl less) = given_more Found.Reclaimed lanes most same_lanes finds.1.0 number less
      given number (inr same) = inr (ap (slice_get (founds ++ Found.Reclaimed ∷ [])) same ∙ at_last Found.Reclaimed)
    finds_reclaimed (Some name) finds = (
      finds.0,
      (
        (
          let less = finds.1.0.0 in omega arith,
          let few = finds.1.0.1 in let ends = ends_more founds Found.Reclaimed in omega arith,
        ),
        (
          given_more Found.Reclaimed lanes finds.0 same_lanes finds.1.1.0,
          (finds.1.1.1.0, missing finds.1.1.1.1),
        ),
      ),
    ) where
      missing : (slice_get founds finds.0 ≡ Some (Found.Missing name)) ⊎ IsAmong finds.0 held
          → (slice_get (founds ++ Found.Reclaimed ∷ []) finds.0 ≡ Some (Found.Missing name)) ⊎ IsAmong finds.0 held
      missing (inl at) = inl (get_still founds Found.Reclaimed finds.0 (Found.Missing name) at)
      missing (inr is_held) = inr is_held

    closes_reclaimed : ClosesAll told replied (founds ++ Found.Reclaimed ∷ []) (most + 1) lanes held first
    closes_reclaimed = record {
      each = λ i it at. let was = closes.each i it at in
          (was.0, (get_still founds Found.Reclaimed it.entry (Found.Both was.0) was.1.0, (let less = was.1.1.0 in omega arith, was.1.1.1)));
      apart = closes.apart;
      all = λ number other less at. all number other (before_or_last Found.Reclaimed (Found.Both other) number at);
      held_are = λ number is_held. let was = closes.held_are number is_held in
          (was.0, (get_still founds Found.Reclaimed number (Found.Both was.0) was.1.0, (let less = was.1.1.0 in omega arith, was.1.1.1)));
      finds = finds_reclaimed first closes.finds;
      ends = let few = closes.ends in let ends = ends_more founds Found.Reclaimed in omega arith;
      few_lanes = let few = closes.few_lanes in omega arith;
      few_held = let few = closes.few_held in omega arith;
    } where
      all : (number : ℕ) (other : Taken B) → (slice_get founds number ≡ Some (Found.Both other)) ⊎
          ((number ≡ most) × (Found.Reclaimed ≡ Found.Both other)) → HasLane number lanes ⊎ IsAmong number held
      all number other (inl before) = closes.all number other
          (let within = slice_get_within founds number (Found.Both other) before in omega arith) before
      all number other (inr last) = let no = last.1 in cc

    -- one more was closed
    pub more_lane : (found : Found B) (left : NamedLane B) → ClosesOne told replied most found (Closed.Lane left)
        → ClosesAll told replied (founds ++ found ∷ []) (most + 1) (lanes ++ left ∷ []) held first
    more_lane (Found.Both taken) left is = closes_lane taken left is
    more_lane (Found.Missing name) left is = absurd is
    more_lane Found.Reclaimed left is = absurd is

    pub more_held : (found : Found B) (name : List ℕ) (first_then : Option (List ℕ))
        → (first ≡ None → first_then ≡ Some name) → ((it : List ℕ) → first ≡ Some it → first_then ≡ Some it)
        → ClosesOne told replied most found (Closed.Held name)
        → ClosesAll told replied (founds ++ found ∷ []) (most + 1) lanes (held ++ most ∷ []) first_then
    more_held (Found.Both taken) name first_then none some is = closes_held taken name first_then none some
    more_held (Found.Missing other) name first_then none some is = absurd is
    more_held Found.Reclaimed name first_then none some is = absurd is

    pub more_missing : (found : Found B) (name : List ℕ) (first_then : Option (List ℕ))
        → (first ≡ None → first_then ≡ Some name) → ((it : List ℕ) → first ≡ Some it → first_then ≡ Some it)
        → ClosesOne told replied most found (Closed.Missing name)
        → ClosesAll told replied (founds ++ found ∷ []) (most + 1) lanes held first_then
    more_missing (Found.Both taken) name first_then none some is = absurd is
    more_missing (Found.Missing other) name first_then none some is = closes_missing other first_then (λ e. none e ∙ ap Some is) some
    more_missing Found.Reclaimed name first_then none some is = absurd is

    pub more_reclaimed : (found : Found B) → ClosesOne told replied most found Closed.Reclaimed
        → ClosesAll told replied (founds ++ found ∷ []) (most + 1) lanes held first
    more_reclaimed Found.Reclaimed is = closes_reclaimed
    more_reclaimed (Found.Both taken) is = absurd is
    more_reclaimed (Found.Missing name) is = absurd is
