use Rattle.std.proofs.Common.{ℕ, rules, sym, ap, ◌∙◌, inr, inl}
use Rattle.feed_core.specs.Prelude.{total_after}
use Rattle.feed_cell.proofs.Table.HandleSteps.{asks_more}
use Rattle.feed_cell.specs.declared.cell.words.Word.{Word}
use Rattle.feed_cell.proofs.Words.FourWords.{at_place}
use Rattle.feed_cell.specs.HandleSteps.{IsAsk}
use Rattle.feed_cell.proofs.cell.handle.steps.ask_more.Goals as goal

pub store-requires : goal.store-requires
store-requires g c = (
  search rules,
  search rules,
  at_place g.B.Listener.told _ _ _ c.args.party.now.seat.me c.args.party.now.capacity _ Word.Asked (λ _. c.min-total.result) (λ _. IsAsk c.args.party.now.seat.me c.min-total.result) (inr (inl c.requires.may.is.1)) c.args.party.now.sized c.place_of-at.ensures.place
      (asks_more g.B.Listener.told _ _ _ c.args.party.now.seat.me _ c.args.more c.requires.may.is c.requires.may.idle c.requires.may.stays c.requires.some.0 (c.min-total.ensures ∙ ap (λ (n : ℕ). total_after n c.args.more) (sym c.requires.counted))),
)

pub returns-clause-asked : goal.returns-clause-asked
returns-clause-asked g c = c.min-total.ensures
