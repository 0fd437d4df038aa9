use Rattle.std.proofs.Common.{◌≡◌, ◌≤◌, ◌+◌, ◌-◌, rules, arith, ap, ◌∙◌}
use Rattle.close_count.specs.declared.rule.TheConstants.{MOST_TICKETS}
use Rattle.close_count.proofs.Steps.{adds, hands_out}
use Rattle.close_count.proofs.opening.Opening.add.Goals as goal

pub fetch_add-requires : goal.fetch_add-requires
fetch_add-requires c =
    let self = c.args.self.now in
    let room : self.seat.me.0.room ≡ MOST_TICKETS - self.made = ap (λ me. me.0.room) self.knows in
    let held : self.seat.me.0.held ≡ 1 = ap (λ me. me.0.held) self.knows in
    let below : self.made ≤ MOST_TICKETS = self.bounded in
    (search rules, search rules, adds _ _ _ (omega (arith, c.if-self-eq-MOST_TICKETS.false)) (omega arith))

pub split_seat-seat-requires : goal.split_seat-seat-requires
split_seat-seat-requires c =
    let held : c.fetch_add.new.seat.me.0.held ≡ 2 = ap (λ me. me.0.held) c.fetch_add.ensures.2 ∙ ap (λ me. me.0.held + 1) c.args.self.now.knows in
    (search rules, search rules, hands_out _ _ (omega arith))
