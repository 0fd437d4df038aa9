-- The terminal signal of the end that is owed is told, or its callback was refused memory.
use Rattle.std.proofs.Common.{◌++◌, length, ap, sym, ◌∙◌, subst, refl, arith}
use Rattle.std.proofs.lemmas.List.{append-nil}
use Rattle.feed_core.specs.Prelude.{How}
use Rattle.feed_core.specs.Desk.{DeskState}
use Rattle.feed_core.specs.Seen.{SeenState}
use Rattle.feed_core.specs.Steps.{IsMidTurn, OwesEnd}
use Rattle.feed_core.proofs.Lanes.Accounts.{accounts_ended, accounts_refused}
use Rattle.feed_core.proofs.Desks.Steps.{ended_items, in_order_owed, in_order_ended, still_greeted}
use Rattle.feed_core.proofs.Turns.Looks.{looks_ended, looks_missed}
use Rattle.feed_core.proofs.desk.Desk.finish.Goals as goal
use Rattle.feed_core.proofs.desk.Desk.finish.Goals.{in-Ok, in-Err}

pub invariant_of-self : goal.invariant_of-self
invariant_of-self g c =
    let mid = subst (λ (desk : DeskState). IsMidTurn desk) (sym c.self.view_is) c.requires.mid_turn in
    let owed = subst (λ (desk : DeskState). OwesEnd desk.lane c.args.how) (sym c.self.view_is) c.requires.owed in
    let held = c.self.inside.held.items in
    elim c.match-tell_terminal.branch [
      | in-Ok w ↦
          let grows = w.in-Ok.ensures.told in
          rw (c.end_as.ensures.causes, c.end_as.ensures.ended, w.how-is) ((
            record {
              in_order = in_order_owed c.self.invariant.0.in_order mid.owed.1 mid.owed.0 mid.begun c.args.how owed grows;
              counted = ap (λ items. length (items ++ held)) (ended_items _ _ c.args.how grows) ∙ c.self.invariant.0.counted;
              roomy = c.self.invariant.0.roomy;
              greeted = still_greeted _ _ _ _ c.self.invariant.0.greeted mid.begun grows;
            },
            accounts_ended c.self.invariant.1 mid.owed.1 c.args.how owed w.in-Ok.ensures.replied refl refl refl refl,
          ))
      | in-Err w ↦
          let grows = w.in-Err.ensures.untold ∙ sym (append-nil _) in
          rw (c.end_as.ensures.causes, c.end_as.ensures.ended, w.how-is) ((
            record {
              in_order = in_order_ended c.self.invariant.0.in_order mid.owed.1 mid.owed.0 mid.begun How.OutOfMemory tt grows;
              counted = ap (λ items. length (items ++ held)) (ended_items _ _ How.OutOfMemory grows) ∙ c.self.invariant.0.counted;
              roomy = c.self.invariant.0.roomy;
              greeted = still_greeted _ _ _ _ c.self.invariant.0.greeted mid.begun grows;
            },
            accounts_refused c.self.invariant.1 mid.owed.1 w.in-Err.ensures.refused (let enough = c.self.invariant.1.called in omega (arith, enough)) refl refl refl,
          ))
    ]

pub returns-clause-looks : goal.returns-clause-looks
returns-clause-looks g c =
    let mid = subst (λ (desk : DeskState). IsMidTurn desk) (sym c.self.view_is) c.requires.mid_turn in
    let owed = subst (λ (desk : DeskState). OwesEnd desk.lane c.args.how) (sym c.self.view_is) c.requires.owed in
    elim c.match-tell_terminal.branch [
      | in-Ok w ↦
          rw (← c.self.view_is, c.end_as.ensures.causes, c.end_as.ensures.ended, c.end_as.ensures.value, w.how-is)
          (looks_ended c.self.invariant.0.in_order c.self.invariant.1 mid.owed.1 mid.owed.0 mid.begun c.args.how owed c.tell_terminal.ensures.steady w.in-Ok.ensures.replied w.in-Ok.ensures.told (ap (λ (seen : SeenState). seen.signals) w.in-Ok.ensures.seen))
      | in-Err w ↦
          rw (← c.self.view_is, c.end_as.ensures.causes, c.end_as.ensures.ended, c.end_as.ensures.value, w.how-is)
          (looks_missed c.self.invariant.0.in_order c.self.invariant.1 mid.owed.1 mid.owed.0 mid.begun c.args.how owed c.tell_terminal.ensures.steady w.in-Err.ensures.refused w.in-Err.ensures.untold (ap (λ (seen : SeenState). seen.signals) w.in-Err.ensures.unseen) w.in-Err.ensures.missed)
    ]
