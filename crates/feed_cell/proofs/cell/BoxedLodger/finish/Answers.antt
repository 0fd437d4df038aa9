-- The answer of a terminal callback is not obeyed, and an end that was due adds no cause.
use Rattle.std.proofs.Common.{[], ◌∷◌, ◌++◌, refl, sym, ap, ◌∙◌, subst, inl, inr}
use Rattle.feed_core.specs.AnsweredTurn.{refused, replies_to}
use Rattle.feed_core.specs.PlainTurn.{terminal_of}
use Rattle.feed_cell.proofs.Tasks.Answered.{noted_last, noted_more, quiet}
use Rattle.feed_cell.specs.TaskAnswers.{IsNoted}
use Rattle.feed_cell.specs.declared.cell.Lodger.{Lodger}
use Rattle.feed_cell.proofs.cell.BoxedLodger.finish.Goals as goal
use Rattle.feed_cell.proofs.cell.BoxedLodger.finish.Goals.{in-Ok, in-Err}

pub returns-clause-replies : goal.returns-clause-replies
returns-clause-replies g c =
    let replied = g.B.Listener.replied in
    let same = c.deref_mut-guest.ensures.value ∙ c.self.view_is in
    let noted = subst (IsNoted replied) (sym c.deref_mut-guest.ensures.value) c.self.invariant in
    elim c.match-tell_terminal.branch [
      | in-Ok w ↦ rw (w.self-inside-is, w.result-is) (record {
        fresh = replies_to (terminal_of c.args.due);
        to_it = inl (refl, refl);
        replies = w.in-Ok.ensures.replied ∙ ap (λ (l : Lodger g.row.B.Denot). replied l.subscriber ++ replies_to (terminal_of c.args.due)) same;
        noted = noted_last replied c.deref_mut-guest.result.now _ c.args.due noted w.in-Ok.ensures.replied refl refl (quiet same c.requires.going) refl;
      })
      | in-Err w ↦
          let ended = w.end_as.ensures.ended in
          let more = ap (λ (l : Lodger g.row.B.Denot). replied l.subscriber) ended ∙ w.in-Err.ensures.refused in
          rw (w.self-inside-is, w.result-is) (record {
            fresh = refused ∷ [];
            to_it = inr (w.end_as.ensures.value, refl);
            replies = more ∙ ap (λ (l : Lodger g.row.B.Denot). replied l.subscriber ++ refused ∷ []) same;
            noted = noted_more replied c.deref_mut-guest.result.now w.end_as.new.guest refused noted more (ap (λ (l : Lodger g.row.B.Denot). l.own) ended) (ap (λ (l : Lodger g.row.B.Denot). l.answers) ended)
                (quiet same c.requires.going) (ap (λ (l : Lodger g.row.B.Denot). l.how) ended);
          })
    ]

pub invariant_of-self : goal.invariant_of-self
invariant_of-self g c = (returns-clause-replies g c).noted
