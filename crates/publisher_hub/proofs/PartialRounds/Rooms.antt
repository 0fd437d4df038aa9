-- What looks show of room, as far as a round has come.
use Rattle.std.proofs.Common.{◌≡◌, ◌&&◌, ◌||◌, not, cond, ℕ, ◌<◌, Bool, true, false, Option, None, Some, List, [], ◌∷◌, ◌++◌, filter, length, replicate, refl, ap, sym, subst, ◌∙◌, arith}
use Rattle.std.specs.Prelude.{fold, min, slice_get}
use Rattle.std.proofs.lemmas.List.{append-nil, length-append}
use Rattle.std.proofs.lemmas.List.Elements.{filter-append}
use Rattle.std.proofs.lemmas.List.Sums.{fold-append}
use Rattle.flow_rules.specs.declared.feed.standing.Standing.{Standing}
use Rattle.flow_rules.specs.declared.item.TheConstants.{MOST_PUBLICATIONS}
use Rattle.publisher_hub.specs.Looking.{IsRoom, IsRoomForWaiters, ShowsRoom, full, full_by, full_waiters, room_by, rooms}
use Rattle.publisher_hub.specs.Overview.{CountsRoom}
use Rattle.publisher_hub.specs.Policy.{is_waited_for, waits}
use Rattle.publisher_hub.specs.declared.entry.Entry.{Entry}
use Rattle.publisher_hub.specs.declared.hub.room.Room.{Room}
use Rattle.publisher_hub.proofs.PartialRounds.Progress.{gather_none}

-- what a filtered list leaves of one number more
module _ (p : ℕ → Bool) (ns : List ℕ) (k : ℕ) where
  kept_one : p k ≡ true → 0 < length (filter p (ns ++ k ∷ []))
  kept_one passes =
      let one : filter p (k ∷ []) ≡ k ∷ [] = ap (λ b. cond b (k ∷ []) []) passes in
      let both : filter p (ns ++ k ∷ []) ≡ filter p ns ++ k ∷ [] = filter-append p ns (k ∷ []) ∙ ap (λ ms. filter p ns ++ ms) one in
      let many = ap length both ∙ length-append (filter p ns) (k ∷ []) in
      omega arith

  left_one : p k ≡ false → filter p ns ≡ [] → filter p (ns ++ k ∷ []) ≡ []
  left_one fails none =
      filter-append p ns (k ∷ []) ∙ ap (λ ms. ms ++ filter p (k ∷ [])) none ∙ ap (λ b. cond b (k ∷ []) []) fails

-- before any look there is room
pub room_none : {F : Type 0} (capacity : ℕ) (xs : List (Entry F))
    → ShowsRoom (record { everywhere = true; for_waiters = true; least = MOST_PUBLICATIONS }) capacity xs (replicate (length xs) None)
room_none capacity xs = record {
  all = record { there = λ _. none; missing = λ e. cc };
  waiters = record { there = λ _. ap (filter (is_waited_for xs)) none; missing = λ e. cc };
  least = sym (ap (λ ns. fold min MOST_PUBLICATIONS ns) (gather_none (room_by capacity) None (length xs) (λ p. refl)));
} where
  none : full capacity (replicate (length xs) None) ≡ []
  none = gather_none (full_by capacity) None (length xs) (λ p. refl)

-- one more look
pub room_next : {F : Type 0} (capacity k : ℕ) (room after : Room) (xs : List (Entry F)) (x : Entry F) (glance : Option Standing) (glances later : List (Option Standing))
    → slice_get xs k ≡ Some x → full capacity later ≡ full capacity glances ++ full_by capacity k glance
    → rooms capacity later ≡ rooms capacity glances ++ room_by capacity k glance
    → CountsRoom capacity (waits x.on_full) glance room after → ShowsRoom room capacity xs glances → ShowsRoom after capacity xs later
room_next capacity k room after xs x glance glances later at gathered more counts shows = record {
  all = subst (λ r. IsRoom r capacity later) (sym counts.everywhere)
      (everywhere room.everywhere counts.has shows.all counts.full counts.not_full);
  waiters = subst (λ r. IsRoomForWaiters r capacity xs later) (sym counts.for_waiters)
      (for_waiters room.for_waiters counts.has (waits x.on_full) shows.waiters waited counts.full counts.not_full);
  least = counts.least k ∙ ap (λ n. fold min n (room_by capacity k glance)) shows.least
      ∙ sym (fold-append min MOST_PUBLICATIONS (rooms capacity glances) (room_by capacity k glance))
      ∙ sym (ap (λ ns. fold min MOST_PUBLICATIONS ns) more);
} where
  waited : is_waited_for xs k ≡ waits x.on_full
  waited = rw at refl

  everywhere : (room has : Bool) → IsRoom room capacity glances
      → (has ≡ false → (number : ℕ) → full_by capacity number glance ≡ number ∷ [])
      → (has ≡ true → (number : ℕ) → full_by capacity number glance ≡ []) → IsRoom (room && has) capacity later
  everywhere true true was is_full not_full = record {
    there = λ _. gathered ∙ ap (λ ns. ns ++ full_by capacity k glance) (was.there refl) ∙ not_full refl k;
    missing = λ e. cc;
  }
  everywhere true false was is_full not_full = record {
    there = λ e. cc;
    missing = λ _. rw (gathered, was.there refl, is_full refl k) (omega arith);
  }
  everywhere false has was is_full not_full = record {
    there = λ e. cc;
    missing = λ _. let some = was.missing refl in let many = ap length gathered
        ∙ length-append (full capacity glances) (full_by capacity k glance) in omega arith;
  }

  is_gathered : (ns : List ℕ) → full_by capacity k glance ≡ ns
      → full_waiters capacity xs later ≡ filter (is_waited_for xs) (full capacity glances ++ ns)
  is_gathered ns is = ap (filter (is_waited_for xs)) (gathered ∙ ap (λ ms. full capacity glances ++ ms) is)

  for_waiters : (room has wait : Bool) → IsRoomForWaiters room capacity xs glances → is_waited_for xs k ≡ wait
      → (has ≡ false → (number : ℕ) → full_by capacity number glance ≡ number ∷ [])
      → (has ≡ true → (number : ℕ) → full_by capacity number glance ≡ [])
      → IsRoomForWaiters (room && (has || not wait)) capacity xs later
  for_waiters true true wait was is is_full not_full = record {
    there = λ _. is_gathered [] (not_full refl k) ∙ ap (filter (is_waited_for xs)) (append-nil (full capacity glances)) ∙ was.there refl;
    missing = λ e. cc;
  }
  for_waiters true false true was is is_full not_full = record {
    there = λ e. cc;
    missing = λ _. subst (λ (ns : List ℕ). 0 < length ns) (sym (is_gathered (k ∷ []) (is_full refl k)))
        (kept_one (is_waited_for xs) (full capacity glances) k is);
  }
  for_waiters true false false was is is_full not_full = record {
    there = λ _. is_gathered (k ∷ []) (is_full refl k) ∙ left_one (is_waited_for xs) (full capacity glances) k is (was.there refl);
    missing = λ e. cc;
  }
  for_waiters false has wait was is is_full not_full = record {
    there = λ e. cc;
    missing = λ _.
        let some = was.missing refl in
        let both = is_gathered (full_by capacity k glance) refl
        ∙ filter-append (is_waited_for xs) (full capacity glances) (full_by capacity k glance) in
        let many = ap length both
        ∙ length-append (full_waiters capacity xs glances) (filter (is_waited_for xs) (full_by capacity k glance)) in
        omega arith;
  }
