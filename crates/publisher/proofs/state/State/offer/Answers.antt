use Rattle.std.proofs.Common.{◌≡◌, ◌+◌, ◌++◌, length, w64, rules, sym, ap, ◌∙◌}
use mir.Val.{to_z, of_z}
use Rattle.publisher_hub.specs.Hub.{hub_of}
use Rattle.publisher_hub.specs.Lists.{greatest}
use Rattle.publisher_hub.specs.Gathering.{dropped, lags, lags_again}
use Rattle.publisher_hub.specs.Publishing.{offer_answer}
use Rattle.publisher.specs.Publishing.{drop_of}
use Rattle.publisher.proofs.SoundStates.GrownStates.{drop_is, state_offered}
use Rattle.publisher.proofs.SoundStates.Histories.{writes_of}
use Rattle.publisher.proofs.SoundStates.KeptStates.{state_stays, stays_looked}
use Rattle.publisher.proofs.state.State.offer.Goals as goal
use Rattle.publisher.specs.State.{producer_end}

pub invariant_of-self : goal.invariant_of-self
invariant_of-self g c =
    let old = hub_of producer_end c.self.inside.hub in
    let new = hub_of producer_end c.offer_with.new.self in
    state_stays old new _ c.self.invariant c.offer_with.ensures.sound (stays_looked old new c.in-Err.ensures.refusals.unchanged)

pub invariant_of-self-2 : goal.invariant_of-self-2
invariant_of-self-2 g c =
    let offered = c.in-Ok.ensures.ok in
    let n = length (dropped offered.seconds) in
    let lag = greatest (lags offered.puts ++ lags_again offered.seconds) in
    let fits = c.offer_with.type_inv in
    let same : to_z w64 (of_z w64 c.in-Ok.answer) ≡ c.in-Ok.answer = search rules in
    let counted = c.count_drop.ensures.total ∙ ap (λ a. c.self.inside.dropping.total + drop_of a) same
    ∙ ap (λ a. c.self.inside.dropping.total + drop_of a) offered.answers
    ∙ ap (λ d. d + drop_of (offer_answer n lag)) c.self.invariant.dropping_is
    ∙ sym (drop_is n lag c.self.inside.hub.dropping) ∙ sym offered.counted in
    state_offered (hub_of producer_end c.self.inside.hub) (hub_of producer_end c.offer_with.new.self) offered.item _
    c.add.new.self.total c.count_drop.new.dropping.total c.write.new.self c.args.own.now.pass.source c.args.text
    c.self.invariant c.offer_with.ensures.sound offered.reaches c.add.ensures.total counted
    (offered.from ∙ sym c.args.own.now.numbered) offered.words
    (writes_of c.self.inside.history c.write.new.self _ _ c.args.text c.write.ensures.history c.of-said.ensures)

pub returns-clause-one_more : goal.returns-clause-one_more
returns-clause-one_more g c = c.add.ensures.amount
