use Rattle.std.proofs.Common.{◌≡◌, [], ◌∷◌, ◌++◌, true, length, sym, ◌∙◌, rules}
use Rattle.std.proofs.lemmas.Bool.Decides.{Decides-eqb}
use Rattle.std.proofs.lemmas.List.{nil_from_length}
use Rattle.std.proofs.lemmas.List.Elements.{All-push}
use Rattle.lines_demo.proofs.script.standard_input.steady_and_untold.Goals as goal

pub loop-subscriber-preserved : goal.loop-subscriber-preserved
loop-subscriber-preserved g c = c.loop-subscriber.invariant

pub loop-subscriber-preserved-then-is_empty : goal.loop-subscriber-preserved-then-is_empty
loop-subscriber-preserved-then-is_empty g c =
    let nothing = sym c.told.ensures ∙ nil_from_length c.told.result.now ((Decides-eqb (length c.told.result.now) 0).0 (sym c.is_empty.ensures ∙ c.if-is_empty.true)) in
    let steady : g.B.Subscriber.is_steady c.in-Some.subscriber ≡ true = search rules in
    let pushed : c.push.new.self.items ≡ c.loop-subscriber.stock.items ++ c.in-Some.subscriber ∷ [] = search rules in
    rw pushed (
      All-push (λ b. g.B.Subscriber.told b ≡ []) c.loop-subscriber.stock.items c.in-Some.subscriber c.loop-subscriber.invariant.0 nothing,
      All-push (λ b. g.B.Subscriber.is_steady b ≡ true) c.loop-subscriber.stock.items c.in-Some.subscriber c.loop-subscriber.invariant.1 steady,
    )
