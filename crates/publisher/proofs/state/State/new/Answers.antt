use Rattle.std.proofs.Common.{◌≡◌, ℕ, ◌<◌, Some, arith, ap, subst, ◌∙◌}
use Rattle.close_count.specs.declared.opening.Opening.{Opening}
use Rattle.flow_rules.specs.Capacity.{IsCapacityOf, capacity_of}
use Rattle.feed_cell.specs.Parties.{ProducerState}
use Rattle.feed_core.specs.LaneCalls.{IsCapacity}
use Rattle.publisher_hub.specs.Hub.{HubState, hub_at_start, hub_of}
use Rattle.publisher_hub.specs.declared.hub.Hub.{Hub}
use Rattle.publisher.proofs.SoundStates.GrownStates.{state_at_start}
use Rattle.publisher.proofs.state.State.new.Goals as goal
use Rattle.publisher.specs.State.{producer_end}

-- the Hub of a new publisher holds its opening ticket
opened : (capacity : ℕ) (opening : Opening) (hub new : Hub ProducerState)
    → new ≡ record hub { opening = Some opening } → hub_of producer_end hub ≡ hub_at_start capacity 0
    → hub_of producer_end new ≡ record (hub_at_start capacity 0) { opening = Some opening }
opened capacity opening hub new set start = ap (hub_of producer_end) set ∙ ap (λ (h : HubState). record h { opening = Some opening }) start

-- a capacity that was not refused is not 0
is_some_number : (n : ℕ) → (n ≡ 0 → ⊥) → 0 < n
is_some_number n never = omega arith

pub invariant_of-result : goal.invariant_of-result
invariant_of-result g c =
    let asked = c.args.asked in
    let opening = c.in_ok-new.field-0 in
    let start = opened (capacity_of asked) opening c.in_ok-hub.hub c.set_opening.new.self
    c.set_opening.ensures.opening c.in_ok-hub.ensures.ok in
    let some : 0 < asked = is_some_number asked (λ zero. let contra = c.in_ok-hub.ensures.bad_capacity.1 zero in cc) in
    let sized : IsCapacity (capacity_of asked) =
    (asked, some, subst (IsCapacityOf asked) c.in_ok-capacity.ensures.value c.in_ok-capacity.ensures.least) in
    rw (c.open-published.ensures.total, c.open-published.ensures.amount, c.open-dropping.ensures.total, c.open-dropping.ensures.amount)
    (state_at_start (capacity_of asked) opening (hub_of producer_end c.set_opening.new.self)
    c.open-published.result.1.parts c.open-dropping.result.1.parts c.named.result start c.set_opening.ensures.sound sized
    c.open-published.ensures.parts c.open-dropping.ensures.parts c.named.ensures)
