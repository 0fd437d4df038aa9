-- What the task does after some peeks, and a look, as one.
use Rattle.std.proofs.Common.{◌≡◌, ℕ, ◌+◌, ◌<◌, List, [], ◌∷◌, ◌++◌, length, sym, ap, ◌∙◌, subst, inl, inr}
use Rattle.feed_core.specs.Answered.{own_by}
use Rattle.feed_core.specs.AnsweredTurn.{Reply}
use Rattle.feed_core.specs.Prelude.{Answer, ErrorOrder, Item, Signal, Next, total_after}
use Rattle.feed_core.specs.Seen.{SeenState}
use Rattle.feed_cell.specs.Cell.{greeted, IsToldAtEnd}
use Rattle.feed_cell.specs.Parties.{CanLook}
use Rattle.feed_cell.specs.TaskPauses.{told_out, replied_out}
use Rattle.feed_cell.specs.Seats.{SeatOf}
use Rattle.feed_core.specs.Replies.{AllGoOn}
use Rattle.feed_cell.specs.TaskSteps.{IsGranted, IsInOrder, HasLookedAt, KeepsCounts, KeepsSubscriber, grant_of}
use Rattle.feed_cell.specs.TaskLooks.{HasPassed, IsFoundBy, IsLastGrant, Serves, own_so_far}
use Rattle.feed_cell.specs.declared.cell.Grant.{Grant}
use Rattle.feed_cell.specs.declared.cell.Held.{Held}
use Rattle.feed_cell.specs.declared.cell.task.looks.Served.{Served}

module _ {B : Type 0} (told : B → List Signal) (replied : B → List Reply) where
  -- a task that found nothing to do after a peek may look
  pub may_look_again : (before me : SeatOf B) → HasPassed told replied before me → CanLook told me
  may_look_again before me h = record {
    guest = h.carries.guest;
    answer = Answer.Go;
    slot = h.carries.slot;
    away = h.carries.away;
    may = inl (inr h.measured);
    text = h.carries.text;
    given = h.carries.given;
    own = h.carries.own;
    answers = h.carries.answers;
    how = h.carries.how;
  }

  -- what it did after that look, or after another peek, it did after the peek, too
  module _ (before passed mid after : SeatOf B) (word : ℕ) (h : HasPassed told replied before passed) (looked : HasLookedAt told word mid) (counts : KeepsCounts passed.0 mid.0) (keeps : KeepsSubscriber passed mid) where
    taken_too : mid.0.taken ≡ before.0.taken
    taken_too = keeps.1 ∙ h.taken

    text_too : told_out told mid.1 ≡ told_out told before.1
    text_too = ap (told_out told) keeps.0 ∙ h.text

    replies_too : replied_out replied mid.1 ≡ replied_out replied before.1
    replies_too = ap (replied_out replied) keeps.0 ∙ h.replies

    misses_too : mid.0.misses ≡ before.0.misses
    misses_too = counts.0 ∙ h.misses

    grants_too : mid.0.grants ≡ before.0.grants
    grants_too = counts.1 ∙ h.grants

    order_too : mid.0.order ≡ before.0.order
    order_too = counts.2 ∙ h.ordered

    -- the subscriber's slot comes after those of the buffer
    abbrev size_in : List (ℕ × Held B) → ℕ
    size_in [] = 0
    size_in (slot ∷ more) = slot.0

    sized_too : mid.0.capacity ≡ before.0.capacity
    sized_too = sym (ap size_in looked.carries.slot) ∙ ap size_in keeps.0 ∙ ap size_in h.carries.slot ∙ h.sized

    in_order : IsInOrder mid.0.order mid.0.runner
    in_order = subst (IsInOrder mid.0.order) (sym looked.stage) looked.ordered

    abbrev granted_too : IsGranted (own_so_far replied mid) mid → IsGranted (own_so_far replied before) before
    granted_too g = record {
      causes = g.causes;
      asked = g.asked;
      requested = g.requested;
      counts = g.counts ∙ ap (λ (l : List Reply). total_after g.requested (own_by l)) replies_too;
      ordered = λ _. g.ordered in_order ∙ order_too;
      runs_on = g.runs_on;
      wanted = subst (λ (l : List Item). length l < g.asked) taken_too g.wanted;
    }

    last_too : (took : List Item) (each : List Reply) → IsLastGrant (own_so_far replied mid) mid after took each
        → IsLastGrant (own_so_far replied before) before after took each
    last_too took each (inl none_took) = inl (none_took.0, none_took.1, none_took.2 ∙ grants_too)
    last_too took each (inr one) = inr (one.0, (granted_too one.1.0, one.1.1 ∙ ap (λ (l : List Grant). l ++ grant_of mid one.1.0 ∷ []) grants_too), one.2)

    pub serves_too : (result : Served) (seen later : SeenState) → Serves told replied result mid after seen later
        → Serves told replied result before after seen later
    serves_too Served.Gave seen later s = record {
      item = s.item;
      granted = granted_too s.granted;
      grants = s.grants ∙ ap (λ (l : List Grant). l ++ grant_of mid s.granted ∷ []) grants_too;
      going = s.going;
      is = s.is;
      none_out = s.none_out;
      taken = s.taken ∙ ap (λ (l : List Item). l ++ s.item ∷ []) taken_too;
      text = s.text ∙ ap (λ (l : List Signal). l ++ Next s.item ∷ []) text_too;
      reply = s.reply;
      replies = s.replies ∙ ap (λ (l : List Reply). l ++ s.reply ∷ []) replies_too;
      all = s.all;
      saw = s.saw;
      misses = s.misses ∙ misses_too;
      sized = s.sized ∙ sized_too;
      ordered = s.ordered ∙ order_too;
    }
    serves_too Served.Rested seen later s = (
      record {
        text = sym text_too ∙ s.0.text ∙ ap greeted taken_too;
        replies = s.0.replies ∙ replies_too;
        taken = s.0.taken ∙ taken_too;
        misses = s.0.misses ∙ misses_too;
        grants = s.0.grants ∙ grants_too;
        ordered = s.0.ordered ∙ order_too;
        runs = s.0.runs;
        shown = s.0.shown;
        stage = s.0.stage;
      },
      s.1,
      subst AllGoOn replies_too s.2,
    )
    serves_too Served.Missed seen later s = (
      record {
        going = s.0.going;
        is = s.0.is;
        none_out = s.0.none_out;
        taken = s.0.taken ∙ taken_too;
        text = s.0.text ∙ text_too;
        replies = s.0.replies ∙ replies_too;
        misses = s.0.misses ∙ ap (λ (n : ℕ). n + 1) misses_too;
        grants = s.0.grants ∙ grants_too;
        sized = s.0.sized ∙ sized_too;
        ordered = s.0.ordered ∙ order_too;
      },
      s.1,
      subst AllGoOn replies_too s.2,
    )
    serves_too (Served.Ended how) seen later s = record {
      took = s.took;
      last = s.last;
      few = s.few;
      each = s.each;
      closing = s.closing;
      granted = last_too s.took s.each s.granted;
      to_it = s.to_it;
      replies = s.replies ∙ ap (λ (l : List Reply). l ++ (s.each ++ s.closing)) replies_too;
      ends = s.ends;
      found = λ all. subst (λ (order : ErrorOrder). IsFoundBy order after.0.replied how after.0.look after.0.runner) order_too (s.found all);
      text = subst (λ (l : List Signal). IsToldAtEnd how (before.0.taken ++ s.took) (l ++ s.last)) text_too (subst (λ (l : List Item). IsToldAtEnd how (l ++ s.took) (told_out told mid.1 ++ s.last)) taken_too s.text);
      saw = s.saw;
      taken = s.taken ∙ ap (λ (l : List Item). l ++ s.took) taken_too;
      misses = s.misses ∙ misses_too;
      ordered = (s.ordered.0 ∙ order_too, λ _. subst (λ (order : ErrorOrder). IsInOrder order after.0.runner) order_too (s.ordered.1 in_order));
      runs = s.runs;
      shown = s.shown;
      may = s.may;
      failed = s.failed;
    }
