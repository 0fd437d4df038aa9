-- How a turn opens: a task that was never run greets its subscriber.
use Rattle.std.proofs.Common.{◌≡◌, true, false, Some, List, [], ◌∷◌, ◌++◌, length, refl, ap, sym, ◌∙◌, subst, inl, inr, ⊎_elim, arith, append-nil}
use Rattle.feed_core.specs.AnsweredTurn.{Reply}
use Rattle.feed_core.specs.Prelude.{How, Item, Signal, Subscribed}
use Rattle.feed_core.specs.Seen.{SeenState}
use Rattle.feed_core.specs.World.Table.{MayEnd}
use Rattle.feed_core.specs.declared.turn.outlook.Outlook.TheVariants.{Ended}
use Rattle.feed_cell.specs.Cell.{greeted, IsToldAtEnd}
use Rattle.feed_cell.specs.Parties.{known_by_task, IsUngreeted}
use Rattle.feed_cell.specs.TaskPauses.{told_out, replied_out, IsPaused}
use Rattle.feed_cell.specs.Seats.{SeatOf}
use Rattle.feed_core.specs.Replies.{AllGoOn}
use Rattle.feed_cell.specs.TaskAnswers.{EndsSo}
use Rattle.feed_cell.specs.TaskSteps.{EndsThere, GoesOnThere, HasLeft, IsInOrder}
use Rattle.feed_cell.specs.TaskTurns.{IsBeforeLook, IsFoundIn, IsGreeting, MayEndIn, StopsAs}
use Rattle.feed_cell.specs.declared.cell.View.{View}
use Rattle.feed_cell.specs.declared.cell.task.Stage.{Stage}
use Rattle.feed_cell.proofs.Tasks.Looks.{ending_outlook, none_to_it, not_all}
use Rattle.feed_cell.proofs.Tasks.TurnSignals.{whole_turn}

-- no reply more
pub none_more : (past : List Reply) → past ≡ (past ++ []) ++ []
none_more past = sym (append-nil (past ++ []) ∙ append-nil past)

module _ {B : Type 0} (told : B → List Signal) (replied : B → List Reply) where
  -- a task whose subscriber was greeted before
  pub stays : (stage : Stage) (me : SeatOf B) (seen : List Signal) → (stage ≡ Stage.Fresh → ⊥) → seen ≡ [] → IsPaused told stage me
      → IsBeforeLook told replied stage 0 me me seen
  stays Stage.Fresh me seen other nothing paused = absurd (other refl)
  stays Stage.Home me seen other nothing paused = (refl, nothing, paused, refl, refl, refl, refl)
  stays Stage.Going me seen other nothing paused =
      let out : told_out told me.1 ≡ greeted me.0.taken = ap (told_out told) paused.slot ∙ paused.text in
      let same : told_out told me.1 ++ seen ≡ told_out told me.1 = ap (λ s. told_out told me.1 ++ s) nothing ∙ append-nil (told_out told me.1) in (
        paused,
        record {
          start = told_out told me.1;
          base = me.0.taken;
          knew = λ e. (refl, refl);
          met = λ e. (let clash : true ≡ false = sym paused.away ∙ e in cc);
          opened = inr out;
          took = [];
          counted = refl;
          text = same ∙ out ∙ ap greeted (sym (append-nil me.0.taken));
          ordered = refl;
          taken = sym (append-nil me.0.taken);
          told_is = sym same;
          grants = [];
          one_each = refl;
          past = replied_out replied me.1;
          had = λ e. refl;
          greeting = [];
          greets = subst (λ s. IsGreeting s []) (sym out) refl;
          each = [];
          granted = tt;
          replies = none_more (replied_out replied me.1);
          all = λ some. absurd (omega arith);
          grants_are = sym (append-nil me.0.grants);
          misses = refl;
        },
      )

  module _ (before after : SeatOf B) (seen later : SeenState) (nothing : seen.signals ≡ []) (fresh : IsUngreeted told before) where
    untold : told_out told before.1 ≡ []
    untold = ap (told_out told) fresh.slot ∙ fresh.untold

    -- it was greeted, and goes on
    pub greeted_on : GoesOnThere told replied Subscribed before after seen later
        → IsBeforeLook told replied Stage.Going 0 before after later.signals
    greeted_on goes =
        let saw : later.signals ≡ Subscribed ∷ [] = ap (λ (s : SeenState). s.signals) goes.tells.saw ∙ ap (λ s. s ++ Subscribed ∷ []) nothing in (
          goes.going,
          record {
            start = [];
            base = [];
            knew = λ e. (sym untold, sym fresh.taken);
            met = λ e. (let clash : true ≡ false = sym fresh.away ∙ e in cc);
            opened = inl (refl, refl);
            took = [];
            counted = refl;
            text = saw;
            ordered = ap (λ (v : View). v.order) goes.tells.view;
            taken = ap (λ (v : View). v.taken) goes.tells.view ∙ fresh.taken;
            told_is = goes.tells.text ∙ ap (λ s. s ++ Subscribed ∷ []) untold ∙ sym saw;
            grants = [];
            one_each = refl;
            past = replied_out replied before.1;
            had = λ e. refl;
            greeting = goes.reply ∷ [];
            greets = refl;
            each = [];
            granted = tt;
            replies = goes.tells.replies ∙ sym (append-nil (replied_out replied before.1 ++ goes.reply ∷ []));
            all = λ some. absurd (omega arith);
            grants_are = ap (λ (v : View). v.grants) goes.tells.view ∙ sym (append-nil before.0.grants);
            misses = ap (λ (v : View). v.misses) goes.tells.view;
          },
        )

    -- that was its end
    pub greeted_end : (how : How) (last : SeatOf B) → EndsThere told replied Subscribed how before after seen later
        → HasLeft replied after last
        → StopsAs (known_by_task before.0) (known_by_task last.0) (told_out told before.1) later.signals (replied_out replied before.1) last.0.replied (Ended how) × MayEndIn before.0.order how (length last.0.taken) last.0.runner × IsFoundIn before.0.order last.0.replied how last.0.look last.0.runner
    greeted_end how last ends left =
        let taken : after.0.taken ≡ [] = ap (λ (v : View). v.taken) ends.tells.view ∙ fresh.taken in
        let saw : later.signals ≡ ends.last = ap (λ (s : SeenState). s.signals) ends.tells.saw ∙ ap (λ s. s ++ ends.last) nothing in
        let text : told ends.ending.guest.subscriber ≡ later.signals =
        sym (ap (told_out told) ends.ending.slot) ∙ ends.tells.text ∙ ap (λ s. s ++ ends.last) untold ∙ sym saw
        in
        let at_end : last.0.replied ≡ replied_out replied after.1 = ap (λ (m : SeatOf B). m.0.replied) left in
        let replies : last.0.replied ≡ replied_out replied before.1 ++ ends.reply ∷ [] = at_end ∙ ends.tells.replies in (
          record {
            turned = whole_turn (known_by_task before.0) (told_out told before.1) later.signals [] [] [] (Ended how) (λ e. (sym untold, sym fresh.taken)) (λ e. (let clash : true ≡ false = sym fresh.away ∙ e in cc)) (inl (refl, refl)) (omega arith) [] refl
                (record {
                  past = replied_out replied before.1;
                  had = λ e. refl;
                  greeting = ends.reply ∷ [];
                  greets = refl;
                  each = [];
                  granted = tt;
                  closing = [];
                  closes = none_to_it how (⊎_elim (λ h. inl h.0) (λ h. inr h.0) ends.shape);
                  replies = replies ∙ sym (append-nil (replied_out replied before.1 ++ ends.reply ∷ []));
                  ends = subst (EndsSo (Some how)) (sym at_end) ends.ends;
                })
                (subst (λ (l : List Item). IsToldAtEnd how l later.signals) taken (subst (λ (s : List Signal). IsToldAtEnd how after.0.taken s) text ends.ending.text));
            order = ap (λ (m : SeatOf B). m.0.order) left ∙ ap (λ (v : View). v.order) ends.tells.view;
            taken = ap (λ (m : SeatOf B). m.0.taken) left ∙ taken;
            grants = ap (λ (m : SeatOf B). m.0.grants) left ∙ ap (λ (v : View). v.grants) ends.tells.view ∙ sym (append-nil before.0.grants);
            misses = ap (λ (m : SeatOf B). m.0.misses) left ∙ ap (λ (v : View). v.misses) ends.tells.view;
            runs = ap (λ (m : SeatOf B). m.0.runs) left;
            shown = ap (λ (m : SeatOf B). m.0.outlook) left ∙ ending_outlook told replied how after ends.ending;
          },
          (
            subst (λ (m : SeatOf B). MayEnd how (length m.0.taken) m.0.runner) (sym left) ends.ending.may,
            subst (IsInOrder before.0.order) (sym (ap (λ (m : SeatOf B). m.0.runner) left ∙ ap (λ (v : View). v.runner) ends.tells.view ∙ fresh.stage)) tt,
          ),
          λ all. absurd (not_all (replied_out replied before.1) ends.reply how ends.asks (subst AllGoOn replies all)),
        )
