use Rattle.std.proofs.Common.{rules, ◌∙◌, ap, [], bit_or}
use Rattle.feed_core.specs.Prelude.{ErrorOrder}
use Rattle.feed_cell.specs.Control.{cause_in}
use Rattle.feed_cell.specs.Views.{ready_view}
use Rattle.feed_cell.proofs.Signals.HandOver.{on_some}
use Rattle.feed_cell.proofs.Signals.Step.{signals}
use Rattle.feed_cell.proofs.Signals.Sent.{signalled, must_hand_over}
use Rattle.feed_cell.specs.declared.cell.words.Word.{Word}
use Rattle.feed_cell.proofs.Words.FourWords.{at_place}
use Rattle.feed_cell.proofs.Signals.Sent.{signals_part}
use Rattle.feed_cell.specs.Signals.{Signals}
use Rattle.feed_cell.proofs.cell.signal.signal.Goals as goal

pub fetch_or-found-requires : goal.fetch_or-found-requires
fetch_or-found-requires g c = (
  search rules,
  search rules,
  at_place g.B.Listener.told _ _ _ c.args.party.now.seat.me c.args.party.now.capacity _ Word.Control (λ n. bit_or n c.args.mask) (Signals (cause_in c.args.mask) c.args.party.now.seat.me) (signals_part (cause_in c.args.mask) c.args.party.now.seat.me.0 c.requires.may) c.args.party.now.sized c.place_of-at.ensures.place
      (signals g.B.Listener.told _ _ _ c.args.party.now.seat.me _ (cause_in c.args.mask) c.requires.may c.requires.mask),
)

pub hand_over-requires : goal.hand_over-requires
hand_over-requires g c = record { hands = must_hand_over (cause_in c.args.mask) c.fetch_or-found.result c.args.party.now.seat.me c.fetch_or-found.new.seat.me c.requires.may c.fetch_or-found.ensures.2 }

pub returns-clause-sent : goal.returns-clause-sent
returns-clause-sent g c =
    let there = c.hand_over.ensures.handed in
    ((there.0.0 ∙ c.fetch_or-found.ensures.0, there.0.1 ∙ c.fetch_or-found.ensures.1), signalled (cause_in c.args.mask) c.fetch_or-found.result c.hand_over.result c.args.party.now.seat.me c.fetch_or-found.new.seat.me c.hand_over.new.party.seat.me c.fetch_or-found.ensures.2 there.1)

pub returns-clause-starts : goal.returns-clause-starts
returns-clause-starts g c = on_some c.hand_over.result (λ task ready. (ready.0 ∙ c.fetch_or-found.ensures.0, ready.1 ∙ ap (λ (order : ErrorOrder). (ready_view c.args.party.now.capacity order, [])) c.fetch_or-found.ensures.2.ordered)) c.hand_over.ensures.starts
