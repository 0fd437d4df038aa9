-- The producer's seat takes in the handle's, if that is of the same subscription.
use Rattle.std.proofs.Common.{◌≡◌, true, ap, sym, ◌∙◌, None, Some}
use Rattle.feed_cell.proofs.Left.OneSeat.{gathers, still, in_it}
use Rattle.feed_cell.specs.Parties.{KnowsHandle, known_end}
use Rattle.feed_core.specs.World.Table.{MayBegin}
use Rattle.feed_cell.proofs.cell.close.close.Goals as goal

pub join_if_of_one_table-requires : goal.join_if_of_one_table-requires
join_if_of_one_table-requires g c = let may = c.in_ok-table.ensures.may in
    (c.in_ok-table.ensures.seat, λ _. gathers g.B.Listener.told _ _ _ _ _ may.is.0 may.is.2 c.step_out-asking.ensures.knows.is)

pub take_apart-requires-clause-table : goal.take_apart-requires-clause-table
take_apart-requires-clause-table g c = let here = c.in_ok-table.ensures in let stays = c.join_if_of_one_table.ensures.stays in
    (stays.0 ∙ here.seat, ap (λ z. z.words) stays.0 ∙ here.words)

pub take_apart-requires-clause-may : goal.take_apart-requires-clause-may
take_apart-requires-clause-may g c = let may = c.in_ok-table.ensures.may in
    still c.in_ok-table.seat.me c.step_out-asking.result.me.0 c.join_if_of_one_table.new.seat.me c.join_if_of_one_table.ensures.joined (λ v. (v.puts ≡ true) × MayBegin v.producing) (may.is.0, may.begins) (may.is.0, may.begins)

pub returns-clause-left : goal.returns-clause-left
returns-clause-left g c = let end = c.args.producer.end in let knows = c.in_ok-table.ensures.knows in
    c.take_apart.ensures.left end None (still c.in_ok-table.seat.me c.step_out-asking.result.me.0 c.join_if_of_one_table.new.seat.me c.join_if_of_one_table.ensures.joined (λ v. end ≡ known_end v end.ready) knows knows) tt

pub returns-clause-own : goal.returns-clause-own
returns-clause-own g c same =
    let end = c.args.producer.end in let knows = c.in_ok-table.ensures.knows in let here = c.in_ok-table.ensures in let asks = c.step_out-asking.ensures.knows in let joined = c.join_if_of_one_table.ensures.joined in
    let v = c.in_ok-table.seat.me in let w = c.step_out-asking.result.me.0 in let me = c.join_if_of_one_table.new.seat.me in
    c.take_apart.ensures.left end (Some c.args.handle) (still v w me joined (λ v. end ≡ known_end v end.ready) knows knows)
    (in_it v w me joined (KnowsHandle c.args.handle) (c.step_out-asking.ensures.seat.0 ∙ same ∙ sym here.table ∙ here.seat)
    (record { is = asks.is; left = asks.left; order = asks.order; asked = asks.asked; cancelled = asks.cancelled; argument = asks.argument }))
