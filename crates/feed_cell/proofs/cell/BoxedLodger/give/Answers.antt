-- What lies beside the subscriber stays what it has replied: its answer is obeyed, or its callback was refused memory.
use Rattle.std.proofs.Common.{[], ◌∷◌, ◌++◌, Ok, Some, sym, ap, ◌∙◌, subst}
use Rattle.feed_core.specs.AnsweredTurn.{refused}
use Rattle.feed_cell.proofs.Tasks.Answered.{noted_more, quiet}
use Rattle.feed_cell.specs.TaskAnswers.{IsNoted}
use Rattle.feed_cell.specs.declared.cell.Lodger.{Lodger}
use Rattle.feed_cell.proofs.cell.BoxedLodger.give.Goals as goal
use Rattle.feed_cell.proofs.cell.BoxedLodger.give.Goals.{in-Ok, in-Err}

pub returns-clause-replies : goal.returns-clause-replies
returns-clause-replies g c =
    let replied = g.B.Listener.replied in
    let same = c.deref_mut-guest.ensures.value ∙ c.self.view_is in
    let noted = subst (IsNoted replied) (sym c.deref_mut-guest.ensures.value) c.self.invariant in
    elim c.match-tell_next.branch [
      | in-Ok w ↦
          let obeys = w.obey.ensures.obeys in
          let more = ap replied obeys.subscriber ∙ w.in-Ok.ensures.replied in
          rw (w.self-inside-is, w.result-is) (record {
            reply = Ok w.in-Ok.answer;
            asks = obeys.end;
            replies = more ∙ ap (λ (l : Lodger g.row.B.Denot). replied l.subscriber ++ Ok w.in-Ok.answer ∷ []) same;
            noted = noted_more replied c.deref_mut-guest.result.now w.obey.new.guest (Ok w.in-Ok.answer) noted more obeys.own obeys.answers (quiet same c.requires.going) obeys.how;
          })
      | in-Err w ↦
          let ended = w.end_as.ensures.ended in
          let more = ap (λ (l : Lodger g.row.B.Denot). replied l.subscriber) ended ∙ w.in-Err.ensures.refused in
          rw (w.self-inside-is, w.result-is) (record {
            reply = refused;
            asks = ap Some w.end_as.ensures.value;
            replies = more ∙ ap (λ (l : Lodger g.row.B.Denot). replied l.subscriber ++ refused ∷ []) same;
            noted = noted_more replied c.deref_mut-guest.result.now w.end_as.new.guest refused noted more (ap (λ (l : Lodger g.row.B.Denot). l.own) ended) (ap (λ (l : Lodger g.row.B.Denot). l.answers) ended)
                (quiet same c.requires.going) (ap (λ (l : Lodger g.row.B.Denot). l.how) ended);
          })
    ]

pub invariant_of-self : goal.invariant_of-self
invariant_of-self g c = (returns-clause-replies g c).noted
