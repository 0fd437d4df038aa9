use Rattle.std.proofs.Common.{rules, refl, sym, ap, ◌∙◌, [], ℕ}
use Rattle.feed_cell.specs.Views.{ready_view}
use Rattle.feed_cell.proofs.Signals.HandOver.{low_bit, low_set, hands_over}
use Rattle.feed_cell.proofs.Words.FourWords.{has_some_words}
use Rattle.feed_cell.proofs.cell.signal.hand_over.Goals as goal

pub split_seat-requires : goal.split_seat-requires
split_seat-requires g c = (search rules, has_some_words c.args.party.now.capacity c.args.party.now.seat.table_id c.deref-2.result.now.shared.table_id (search rules) c.args.party.now.its_words, hands_over g.B.Listener.told _ _ _ (c.requires.hands (sym (low_bit c.args.found) ∙ c.if-found-ne0.false)))

pub returns-then-found-ne0-clause-handed : goal.returns-then-found-ne0-clause-handed
returns-then-found-ne0-clause-handed g c = ((refl, refl), (low_set c.args.found c.if-found-ne0.true, refl))

pub returns-clause-handed : goal.returns-clause-handed
returns-clause-handed g c = ((c.split_seat.ensures.0, c.split_seat.ensures.1), (sym (low_bit c.args.found) ∙ c.if-found-ne0.false, c.split_seat.ensures.2))

pub returns-clause-starts : goal.returns-clause-starts
returns-clause-starts g c = (c.split_seat.ensures.3, c.split_seat.ensures.4 ∙ ap (λ (n : ℕ). (ready_view n c.args.party.now.seat.me.0.order, [])) c.args.party.now.sized)
