-- A look at a producer's end, and the item that it accepts then.
use Rattle.std.proofs.Common.{◌≡◌, ℕ, ◌+◌, ◌<◌, ◌≤◌, Option, [], ◌∷◌, ◌++◌, length, ap, sym, ◌∙◌, arith}
use Rattle.std.proofs.lemmas.List.{length-append}
use Rattle.flow_rules.specs.Feed.{End, Looked, TakesItem, held_count}
use Rattle.flow_rules.specs.declared.item.Item.{Item}
use Rattle.publisher_hub.specs.Looking.{Follows}

-- an end that was looked at follows
pub follows_look : (e f : End) → Looked e f → Follows e f
follows_look e f look =
    let looks : f.looks ≡ e.looks + 1 = ap (λ (end : End). end.looks) look.rest in
    let ready : f.ready ≡ e.ready = ap (λ (end : End). end.ready) look.rest in
    record {
      seen = look.seen;
      over = look.over;
      looks = omega arith;
      rest = look.rest ∙ ap (λ l. record e { seen = f.seen; looks = l; over = f.over }) (sym looks)
          ∙ ap (λ r. record e { seen = f.seen; looks = f.looks; over = f.over; ready = r }) (sym ready);
    }

-- a look is counted
pub look_counted : (e f : End) → Looked e f → e.looks < f.looks
look_counted e f look = let looks : f.looks ≡ e.looks + 1 = ap (λ (end : End). end.looks) look.rest in omega arith

-- if there was room, another item fits
pub taken_fits : {T : Type 0} → (e f : End) (x : Item) (lag : ℕ) (start : Option T) → TakesItem e x lag start f → held_count f ≤ f.capacity
taken_fits e f x lag start takes =
    let lists : f.accepted ≡ e.accepted ++ x ∷ [] = ap (λ (end : End). end.accepted) takes.taken in
    let seen : f.seen ≡ e.seen = ap (λ (end : End). end.seen) takes.taken in
    let capacity : f.capacity ≡ e.capacity = ap (λ (end : End). end.capacity) takes.taken in
    let many : length f.accepted ≡ length e.accepted + 1 = ap length lists ∙ length-append e.accepted (x ∷ []) in
    let room : held_count e < e.capacity = takes.room_before in
    omega arith
