-- What lies beside a subscriber stays what it has replied.
use Rattle.std.proofs.Common.{◌≡◌, Option, Some, None, List, [], ◌∷◌, ◌++◌, Ok, refl, sym, ap, ◌∙◌, subst, inl, inr, append-nil}
use Rattle.feed_core.specs.Answered.{own_on, causes_on, end_on, own_by, causes_by}
use Rattle.feed_core.specs.AnsweredTurn.{Reply, replies_to}
use Rattle.feed_core.specs.Cause.{no_causes_in}
use Rattle.feed_core.specs.PlainTurn.{terminal_of}
use Rattle.feed_core.specs.Prelude.{Answer, ErrorOrder, How}
use Rattle.feed_cell.specs.Types.{Causes}
use Rattle.feed_core.proofs.Lists.Replies.{all_more, causes_more, order_kept, own_more}
use Rattle.feed_core.specs.Replies.{AllGoOn}
use Rattle.feed_cell.specs.TaskAnswers.{EndsSo, later_end, IsNoted}
use Rattle.feed_cell.specs.declared.cell.Lodger.{Lodger}

-- one more reply of a subscriber that has not ended
ends_more : (xs : List Reply) (r : Reply) → AllGoOn xs → (end : Option How) → end_on r ≡ end → EndsSo (later_end end None) (xs ++ r ∷ [])
ends_more xs r all None is = all_more xs r all is
ends_more xs r all (Some how) is = inr (xs, r, refl, all, is)

-- the reply to a terminal signal, if there is one, changes nothing
own_last : (due : How) (xs : List Reply) → own_by (xs ++ replies_to (terminal_of due)) ≡ own_by xs
own_last How.Completed xs = own_more 0 xs (Ok Answer.Go)
own_last (How.Errored fault) xs = own_more 0 xs (Ok Answer.Go)
own_last How.Cancelled xs = ap own_by (append-nil xs)
own_last (How.Failed code) xs = ap own_by (append-nil xs)
own_last How.OutOfMemory xs = ap own_by (append-nil xs)

pub causes_last : (due : How) (order : ErrorOrder) (xs : List Reply)
    → causes_by order (xs ++ replies_to (terminal_of due)) ≡ causes_by order xs
causes_last How.Completed order xs = causes_more (no_causes_in order) xs (Ok Answer.Go)
causes_last (How.Errored fault) order xs = causes_more (no_causes_in order) xs (Ok Answer.Go)
causes_last How.Cancelled order xs = ap (causes_by order) (append-nil xs)
causes_last (How.Failed code) order xs = ap (causes_by order) (append-nil xs)
causes_last How.OutOfMemory order xs = ap (causes_by order) (append-nil xs)

goes_last : (due : How) (xs : List Reply) → AllGoOn xs → AllGoOn (xs ++ replies_to (terminal_of due))
goes_last How.Completed xs all = all_more xs (Ok Answer.Go) all refl
goes_last (How.Errored fault) xs all = all_more xs (Ok Answer.Go) all refl
goes_last How.Cancelled xs all = subst AllGoOn (sym (append-nil xs)) all
goes_last (How.Failed code) xs all = subst AllGoOn (sym (append-nil xs)) all
goes_last How.OutOfMemory xs all = subst AllGoOn (sym (append-nil xs)) all

module _ {B : Type 0} (replied : B → List Reply) where
  -- the end that was due was told, if it has a signal
  pub noted_last : (old new : Lodger B) (due : How) → IsNoted replied old
      → replied new.subscriber ≡ replied old.subscriber ++ replies_to (terminal_of due) → new.own ≡ old.own → new.answers ≡ old.answers
      → old.how ≡ None → new.how ≡ Some due → IsNoted replied new
  noted_last old new due n more own answers quiet is = record {
    own = own ∙ n.own ∙ sym (own_last due (replied old.subscriber)) ∙ ap own_by (sym more);
    answers = answers ∙ n.answers ∙ sym (causes_last due old.answers.order (replied old.subscriber)) ∙ ap (λ (l : List Reply). causes_by old.answers.order l) (sym more)
        ∙ ap (λ (c : Causes). causes_by c.order (replied new.subscriber)) (sym answers);
    ends = subst (λ (h : Option How). EndsSo h (replied new.subscriber)) (sym is) (inl (subst AllGoOn (sym more) (goes_last due (replied old.subscriber) (subst (λ (h : Option How). EndsSo h (replied old.subscriber)) quiet n.ends))));
  }

  -- one reply more, which is obeyed
  pub noted_more : (old new : Lodger B) (r : Reply) → IsNoted replied old → replied new.subscriber ≡ replied old.subscriber ++ r ∷ []
      → new.own ≡ own_on r old.own → new.answers ≡ causes_on r old.answers
      → old.how ≡ None → new.how ≡ later_end (end_on r) old.how → IsNoted replied new
  noted_more old new r n more own answers quiet is = record {
    own = own ∙ ap (own_on r) n.own ∙ sym (own_more 0 (replied old.subscriber) r) ∙ ap own_by (sym more);
    answers = answers ∙ ap (causes_on r) n.answers
        ∙ sym (causes_more (no_causes_in old.answers.order) (replied old.subscriber) r)
        ∙ ap (λ (l : List Reply). causes_by old.answers.order l) (sym more)
        ∙ ap (λ (o : ErrorOrder). causes_by o (replied new.subscriber)) (sym (ap (λ (c : Causes). c.order) answers ∙ order_kept r old.answers));
    ends = subst (λ (l : List Reply). EndsSo new.how l) (sym more) (subst (λ (h : Option How). EndsSo h (replied old.subscriber ++ r ∷ [])) (sym (is ∙ ap (later_end (end_on r)) quiet))
        (ends_more (replied old.subscriber) r (subst (λ (h : Option How). EndsSo h (replied old.subscriber)) quiet n.ends) (end_on r) refl));
  }

-- who has not ended, seen from its fields
pub quiet : {B : Type 0} {inside now : Lodger B} → inside ≡ now → now.how ≡ None → inside.how ≡ None
quiet {B = B} is none = ap (λ (l : Lodger B). l.how) is ∙ none
