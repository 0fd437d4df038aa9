-- If no write failed, the text of the item was appended to those before it.
use Rattle.std.proofs.Common.{sym, ◌∙◌}
use Rattle.flow_rules.proofs.Items.{printed_more}
use Rattle.flow_rules.proofs.printer.PrinterListener.on_next.Goals as goal
use Rattle.flow_rules.proofs.printer.PrinterListener.on_next.Goals.{then-not-self, else-not-self}

pub invariant_of-self : goal.invariant_of-self
invariant_of-self g c =
    elim c.if-not-self.branch [
      | then-not-self w ↦ rw (c.tell_next.ensures.heard, w.self-inside-is) (λ unfailed. printed_more c.self.inside.told.signals c.args.item.now _ _ _ (c.self.invariant w.if-not-self.true) (w.fails_to_print-self-inside.ensures unfailed))
      | else-not-self w ↦ rw w.self-inside-is (λ unfailed. let e = sym w.if-not-self.false ∙ unfailed in cc)
    ]
