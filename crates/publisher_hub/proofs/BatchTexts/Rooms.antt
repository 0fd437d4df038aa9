-- The least room of all subscriptions.
use Rattle.std.proofs.Common.{◌≡◌, ◌||◌, ℕ, zero, suc, ◌+◌, ◌-◌, ◌<◌, ◌≤◌, Bool, true, false, Option, None, Some, List, [], ◌∷◌, ◌++◌, nat_lt, if◌then◌else◌, refl, ap, sym, subst, arith}
use Rattle.std.specs.Prelude.{fold, min, slice_get}
use Rattle.std.proofs.lemmas.Bool.{ltb-true}
use Rattle.flow_rules.specs.declared.feed.standing.Standing.{Standing}
use Rattle.publisher_hub.specs.Lists.{gather}
use Rattle.publisher_hub.specs.Looking.{full, full_by, room_by, rooms}
use Rattle.publisher_hub.proofs.AnswerLists.Gathering.{gathers_one}
use Rattle.publisher_hub.proofs.PartialRounds.Progress.{same_some}

-- the least of some numbers and another number is at most that
pub least_bounded : (b : ℕ) (ns : List ℕ) → fold min b ns ≤ b
least_bounded b [] = omega arith
least_bounded b (n ∷ ns) = let later = least_bounded (min b n) ns in omega arith

-- it is at most each of the numbers
least_at_most : (b : ℕ) (ns : List ℕ) (i n : ℕ) → slice_get ns i ≡ Some n → fold min b ns ≤ n
least_at_most b [] i n at = cc
least_at_most b (first ∷ ns) zero n at =
    let same : first ≡ n = same_some at in let later = least_bounded (min b first) ns in omega arith
least_at_most b (first ∷ ns) (suc i) n at = least_at_most (min b first) ns i n at

-- from a lesser number on, it is the lesser of that and of the least
pub least_from : (a b : ℕ) (ns : List ℕ) → a ≤ b → min a (fold min b ns) ≡ fold min a ns
least_from a b [] low = omega arith
least_from a b (n ∷ ns) low =
    let later = least_from (min a n) (min b n) ns (omega arith) in
    let bounded = least_bounded (min b n) ns in
    omega arith

-- each subscription that goes on has at least the least room
pub least_room : (b capacity : ℕ) (glances : List (Option Standing)) (k : ℕ) (standing : Standing) → standing.ended ≡ false
    → slice_get glances k ≡ Some (Some standing) → fold min b (rooms capacity glances) ≤ capacity - standing.held
least_room b capacity glances k standing goes_on at =
    let one : room_by capacity (0 + k) (Some standing) ≡ (capacity - standing.held) ∷ [] =
    ap (λ ended. if ended then [] else (capacity - standing.held) ∷ []) goes_on in
    let found = gathers_one (room_by capacity) glances 0 k (Some standing) (capacity - standing.held) one at in
    least_at_most b (rooms capacity glances) found.0 (capacity - standing.held) found.1

-- one more subscription that isn't full leaves some room
one_more_room : (capacity place b : ℕ) (standing : Standing) (fulls others : List ℕ)
    → ((c : ℕ) → 0 < c → fulls ≡ [] → 0 < fold min c others) → 0 < b → full_by capacity place (Some standing) ++ fulls ≡ []
    → 0 < fold min b (room_by capacity place (Some standing) ++ others)
one_more_room capacity place b standing fulls others later some none =
    by standing.ended (nat_lt standing.held capacity) refl refl where
      is_full : (ended has : Bool) → standing.ended ≡ ended → nat_lt standing.held capacity ≡ has
          → (if ended || has then [] else place ∷ []) ++ fulls ≡ []
      is_full ended has is is' =
          subst (λ e. (if e || has then [] else place ∷ []) ++ fulls ≡ []) is
          (subst (λ h. (if standing.ended || h then [] else place ∷ []) ++ fulls ≡ []) is' none)

      room_is : (ended : Bool) → standing.ended ≡ ended
          → room_by capacity place (Some standing) ≡ (if ended then [] else (capacity - standing.held) ∷ [])
      room_is ended is = ap (λ e. if e then [] else (capacity - standing.held) ∷ []) is

      by : (ended has : Bool) → standing.ended ≡ ended → nat_lt standing.held capacity ≡ has
          → 0 < fold min b (room_by capacity place (Some standing) ++ others)
      by true has is is' = subst (λ ns. 0 < fold min b (ns ++ others)) (sym (room_is true is)) (later b some (is_full true has is is'))
      by false true is is' = subst (λ ns. 0 < fold min b (ns ++ others)) (sym (room_is false is))
          (later (min b (capacity - standing.held)) (let below = ltb-true standing.held capacity is' in omega arith) (is_full false true is is'))
      by false false is is' = let e = is_full false false is is' in cc

-- if no look showed a full buffer, the least room is some
some_room_from : (capacity : ℕ) (glances : List (Option Standing)) (place b : ℕ) → 0 < b → gather (full_by capacity) place glances ≡ []
    → 0 < fold min b (gather (room_by capacity) place glances)
unfolding gather
some_room_from capacity [] place b some none = some
some_room_from capacity (None ∷ glances) place b some none = some_room_from capacity glances (suc place) b some none
some_room_from capacity (Some standing ∷ glances) place b some none =
    one_more_room capacity place b standing (gather (full_by capacity) (suc place) glances) (gather (room_by capacity) (suc place) glances)
    (λ c left nobody. some_room_from capacity glances (suc place) c left nobody) some none

pub some_room : (b capacity : ℕ) (glances : List (Option Standing)) → 0 < b → full capacity glances ≡ []
    → 0 < fold min b (rooms capacity glances)
some_room b capacity glances some none = some_room_from capacity glances 0 b some none
