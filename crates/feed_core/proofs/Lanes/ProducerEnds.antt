-- What a put of a producer's end does, from what is so of the end.
use Rattle.std.proofs.Common.{◌≡◌, ℕ, ◌+◌, ◌-◌, ◌<◌, ◌≤◌, false, List, [], ◌∷◌, ◌++◌, length, length-append, Option, None, is_some, refl, ap, sym, ◌∙◌, arith}
use Rattle.flow_rules.specs.Feed.{End, Puts, PutsAll, held_count}
use Rattle.flow_rules.specs.declared.feed.put.Put.TheVariants.{Accepted}
use Rattle.flow_rules.specs.declared.feed.put_all.PutAll.TheVariants as Several
use Rattle.feed_core.specs.Prelude.{Item}
use Rattle.feed_core.specs.Desk.{DeskState, AcceptsItem, AcceptsItems}
use Rattle.feed_core.specs.Feed.{end_of}
use Rattle.feed_core.specs.LaneCalls.{lag_of}

-- an open end whose buffer has room looks, and takes the item
puts_accepted : (e f : End) (item : Item) (lag : ℕ) (start : Option (Unit {0})) → e.closing ≡ None → e.over ≡ false
    → e.seen ≤ length e.accepted → held_count e < e.capacity
    → f ≡ record e { accepted = e.accepted ++ item ∷ []; looks = e.looks + 1 }
    → lag ≡ held_count e + 1 → Puts e item (Accepted lag start) f
puts_accepted e f item lag start unclosed lives taken room grown counted =
    let longer = length-append e.accepted (item ∷ []) in
    let many : length f.accepted ≡ length e.accepted + 1 = ap (λ (end : End). length end.accepted) grown ∙ longer in
    let seen : f.seen ≡ e.seen = ap (λ (end : End). end.seen) grown in
    let ready : f.ready ≡ e.ready = ap (λ (end : End). end.ready) grown in (
      record e { looks = e.looks + 1 },
      record {
        unclosed = λ _. record { seen = omega arith; over = λ over. over; taken = taken; fits = omega arith; rest = refl };
        closed = λ some. cc;
      },
      record {
        open_before = rw (lives, unclosed) refl;
        room_before = room;
        taken = grown ∙ (λ k. record e { accepted = e.accepted ++ item ∷ []; looks = e.looks + 1; ready = sym ready k });
        lag_after = omega arith;
        ready = λ _. ready;
      },
    )

-- a subscription that took an item did so as its publisher sees it
pub accepted_puts : (old new : DeskState) (item : Item) (lag : ℕ) (start : Option (Unit {0})) → old.lane.given ≤ length old.lane.accepted
    → AcceptsItem old new item lag start → Puts (end_of old) item (Accepted lag start) (end_of new)
accepted_puts old new item lag start taken accepts =
    let longer = length-append old.lane.accepted (item ∷ []) in
    let held : lag_of new.lane ≡ length (old.lane.accepted ++ item ∷ []) - old.lane.given = ap (λ (desk : DeskState). lag_of desk.lane) accepts.taken in
    puts_accepted (end_of old) (end_of new) item lag start accepts.open_before.1 (ap is_some accepts.open_before.0) taken accepts.room_before
    (ap end_of accepts.taken) (accepts.lag_after ∙ held ∙ omega (arith, longer))

-- an open end whose buffer has room for several items looks, and takes them
puts_all_accepted : (e f : End) (items : List Item) (lag : ℕ) (start : Option (Unit {0})) → e.closing ≡ None → e.over ≡ false
    → e.seen ≤ length e.accepted → held_count e + length items ≤ e.capacity
    → f ≡ record e { accepted = e.accepted ++ items; looks = e.looks + 1 }
    → lag ≡ held_count e + length items → PutsAll e items (Several.Accepted lag start) f
puts_all_accepted e f items lag start unclosed lives taken room grown counted =
    let longer = length-append e.accepted items in
    let many : length f.accepted ≡ length e.accepted + length items = ap (λ (end : End). length end.accepted) grown ∙ longer in
    let seen : f.seen ≡ e.seen = ap (λ (end : End). end.seen) grown in
    let ready : f.ready ≡ e.ready = ap (λ (end : End). end.ready) grown in (
      record e { looks = e.looks + 1 },
      record {
        unclosed = λ _. record { seen = omega arith; over = λ over. over; taken = taken; fits = omega arith; rest = refl };
        closed = λ some. cc;
      },
      record {
        open_before = rw (lives, unclosed) refl;
        room_before = room;
        taken = grown ∙ (λ k. record e { accepted = e.accepted ++ items; looks = e.looks + 1; ready = sym ready k });
        lag_after = omega arith;
        ready = λ _. ready;
      },
    )

-- a subscription that took several items did so as its publisher sees it
pub accepted_puts_all : (old new : DeskState) (items : List Item) (lag : ℕ) (start : Option (Unit {0})) → old.lane.given ≤ length old.lane.accepted
    → AcceptsItems old new items lag start → PutsAll (end_of old) items (Several.Accepted lag start) (end_of new)
accepted_puts_all old new items lag start taken accepts =
    let longer = length-append old.lane.accepted items in
    let held : lag_of new.lane ≡ length (old.lane.accepted ++ items) - old.lane.given = ap (λ (desk : DeskState). lag_of desk.lane) accepts.taken in
    puts_all_accepted (end_of old) (end_of new) items lag start accepts.open_before.1 (ap is_some accepts.open_before.0) taken accepts.room_before
    (ap end_of accepts.taken) (accepts.lag_after ∙ held ∙ omega (arith, longer))
