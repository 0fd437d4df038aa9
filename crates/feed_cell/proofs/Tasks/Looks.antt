-- What the task does after a look: its steps, put together.
use Rattle.std.proofs.Common.{◌≡◌, ◌⊎◌, Option, Some, None, ℕ, ◌+◌, List, [], ◌∷◌, ◌++◌, length, sym, refl, ap, ◌∙◌, subst, inl, inr, ⊎_elim, append-nil, arith}
use Rattle.feed_core.specs.Answered.{end_on, causes_by}
use Rattle.feed_core.specs.AnsweredTurn.{Reply, refused, replies_to}
use Rattle.feed_core.specs.Cause.{IsNoFailure}
use Rattle.feed_core.specs.PlainTurn.{terminal_of}
use Rattle.feed_core.specs.Steps.{HasTerminal}
use Rattle.feed_core.specs.Turn.{EndsInObeyed}
use Rattle.feed_core.specs.Prelude.{Answer, ErrorOrder, How, Item, Signal, Next, total_after}
use Rattle.feed_core.specs.Seen.{SeenState}
use Rattle.feed_core.specs.World.Table.{MayEnd}
use Rattle.feed_core.specs.declared.turn.outlook.Outlook.TheVariants.{Ended}
use Rattle.feed_cell.specs.Types.{Causes, Ready, Looked, Taken}
use Rattle.feed_cell.specs.Cell.{greeted, IsToldAtEnd}
use Rattle.feed_cell.specs.TaskPauses.{told_out, replied_out}
use Rattle.feed_cell.specs.Seats.{SeatOf, how_out}
use Rattle.feed_cell.specs.TaskPlays.{outlook_by}
use Rattle.feed_cell.specs.Control.{Reads, causes_of}
use Rattle.feed_core.specs.Replies.{AllGoOn}
use Rattle.feed_cell.specs.TaskAnswers.{AreRepliesTo, AreShownAt, EndsSo}
use Rattle.feed_cell.specs.TaskSteps.{Carries, ComesToRest, HasLookedAt, IsEnding, IsFound, IsGranted, IsInOrder, IsQuietEnd, HasTaken, FindsNone, KeepsOrder, TakesNext, grant_of}
use Rattle.feed_cell.specs.TaskLooks.{HasPassed, IsNotedOut, MissesRest, RestsNow, Serves, ServesOnce, GivesAs, FinishesAs, EndsOrRests, own_so_far}
use Rattle.feed_cell.specs.Views.{IsRunner}
use Rattle.feed_cell.specs.declared.cell.task.looks.Served.{Served}
use Rattle.feed_cell.specs.declared.cell.View.{View}
use Rattle.feed_cell.proofs.Tasks.Answered.{causes_last}

-- an item's callback that failed told that item
failed_item : (item : Item) (how : How) (last : List Signal)
    → ((how ≡ How.OutOfMemory) × (last ≡ [])) ⊎ (IsQuietEnd how × (last ≡ Next item ∷ [])) → (code : ℕ) → how ≡ How.Failed code
    → EndsInObeyed last
failed_item item how last (inl h) code e = let none = h.0 in cc
failed_item item how last (inr h) code e = inr (item, ([], h.1))

-- an end that is due is no failure
failed_finish : (due how : How) (last : List Signal) → IsNoFailure (Some due)
    → ((how ≡ due) × (last ≡ terminal_of due)) ⊎ ((how ≡ How.OutOfMemory) × HasTerminal due × (last ≡ [])) → (code : ℕ)
    → how ≡ How.Failed code → EndsInObeyed last
failed_finish due how last is_other (inl h) code e = absurd (subst (λ (d : How). IsNoFailure (Some d)) (sym h.0 ∙ e) is_other)
failed_finish due how last is_other (inr h) code e = let none = h.0 in cc

-- an answer that is an end has no signal of its own, nor has an end by refused memory
pub none_to_it : (how : How) → (how ≡ How.OutOfMemory) ⊎ IsQuietEnd how → AreRepliesTo how how []
none_to_it How.Completed (inl e) = cc
none_to_it How.Completed (inr q) = absurd q
none_to_it (How.Errored fault) (inl e) = cc
none_to_it (How.Errored fault) (inr q) = absurd q
none_to_it How.Cancelled q = inl (refl, refl)
none_to_it (How.Failed code) q = inl (refl, refl)
none_to_it How.OutOfMemory q = inl (refl, refl)

-- if the last reply asks for an end, not all go on
pub not_all : (before : List Reply) (last : Reply) (how : How) → end_on last ≡ Some how → AllGoOn (before ++ last ∷ []) → ⊥
not_all [] last how asks all = let clash : None ≡ Some how = sym all.0 ∙ asks in cc
not_all (x ∷ xs) last how asks all = not_all xs last how asks all.1

-- the end that it is, by the replies to its signal
to_itself : (due how : How) (fresh : List Reply) → AreRepliesTo due how fresh → AreRepliesTo how how fresh
to_itself due how fresh (inl h) = inl (refl, h.1 ∙ ap (λ (d : How). replies_to (terminal_of d)) (sym h.0))
to_itself due how fresh (inr h) = inr h

-- if the reply to its signal goes on, if there is one, it is the end that was due
due_end : (due how : How) (past fresh : List Reply) → AreRepliesTo due how fresh → AllGoOn (past ++ fresh) → how ≡ due
due_end due how past fresh (inl h) all = h.0
due_end due how past fresh (inr h) all = absurd (not_all past refused How.OutOfMemory refl (subst (λ (l : List Reply). AllGoOn (past ++ l)) h.1 all))

-- and the replies bring about what they did before it
causes_at_end : (due how : How) (order : ErrorOrder) (past fresh : List Reply) → AreRepliesTo due how fresh → AllGoOn (past ++ fresh)
    → causes_by order (past ++ fresh) ≡ causes_by order past
causes_at_end due how order past fresh (inl h) all = ap (λ (l : List Reply). causes_by order (past ++ l)) h.1 ∙ causes_last due order past
causes_at_end due how order past fresh (inr h) all = absurd (not_all past refused How.OutOfMemory refl (subst (λ (l : List Reply). AllGoOn (past ++ l)) h.1 all))

module _ {B : Type 0} (told : B → List Signal) (replied : B → List Reply) where
  -- what a look showed is marks of the control word, and what the replies brought about
  pub look_shows : (word : ℕ) (me : SeatOf B) → HasLookedAt told word me → IsNotedOut replied me
      → AreShownAt me.0.look (causes_by me.0.order (replied_out replied me.1)) me.0.runner
  look_shows word me l n = subst (AreShownAt me.0.look (causes_by me.0.order (replied_out replied me.1))) (sym l.stage)
      (l.flags, subst (λ (w : ℕ). Reads w l.flags) (sym l.look) l.reads, ap (causes_of l.flags) (n.answers ∙ ap (λ (o : ErrorOrder). causes_by o (replied_out replied me.1)) l.ordered))

  -- a rest that was missed
  pub misses_rest : (before after : SeatOf B) → Carries told before
      → after ≡ (record before.0 { runner = Ready; misses = before.0.misses + 1 }, before.1) → MissesRest told replied before after
  misses_rest before after c e = subst (λ (m : SeatOf B). MissesRest told replied before m) (sym e) (record {
    going = record { guest = c.guest; answer = Answer.Go; slot = c.slot; away = c.away; may = inl refl; text = c.text; given = c.given; own = c.own; answers = c.answers; how = c.how };
    is = c.is;
    none_out = c.none_out;
    taken = refl;
    text = refl;
    replies = refl;
    misses = refl;
    grants = refl;
    sized = refl;
    ordered = refl;
  })

  -- a rest
  pub rests_now : (before after : SeatOf B) → Carries told before → ComesToRest replied before after → RestsNow told replied before after
  rests_now before after c e = record {
    text = ap (told_out told) c.slot ∙ c.text;
    replies = ap (λ (m : SeatOf B). m.0.replied) e;
    taken = ap (λ (m : SeatOf B). m.0.taken) e;
    misses = ap (λ (m : SeatOf B). m.0.misses) e;
    grants = ap (λ (m : SeatOf B). m.0.grants) e;
    ordered = ap (λ (m : SeatOf B). m.0.order) e;
    runs = ap (λ (m : SeatOf B). m.0.runs) e;
    shown = ap (λ (m : SeatOf B). m.0.outlook) e;
    stage = ap (λ (m : SeatOf B). m.0.runner) e;
  }

  -- after it found no item the subscriber is with it as before
  pub carries_on : (tail : ℕ) (before after : SeatOf B) → Carries told before → FindsNone tail before after → Carries told after
  carries_on tail before after c f = subst (λ (m : SeatOf B). Carries told m) (sym f.found)
      (record { guest = c.guest; slot = c.slot; is = c.is; away = c.away; none_out = refl; text = c.text; given = c.given; own = c.own; answers = c.answers; how = c.how })

  -- after it took one its subscriber has to be told
  pub has_taken : (x : Item) (before after : SeatOf B) → Carries told before → TakesNext x before after → HasTaken told x after
  has_taken x before after c t = subst (λ (m : SeatOf B). HasTaken told x m) (sym t.took)
      (record { guest = c.guest; slot = c.slot; is = c.is; away = c.away; none_out = refl; stage = refl; before = before.0.taken; taken = refl; text = c.text; given = c.given; own = c.own; answers = c.answers; how = c.how })

  -- the text of a seat that ends
  ending_text : (how : How) (me : SeatOf B) → IsEnding told how me → IsToldAtEnd how me.0.taken (told_out told me.1)
  ending_text how me e = subst (λ t. IsToldAtEnd how me.0.taken t) (sym (ap (told_out told) e.slot)) e.text

  -- what its seat shows after its end
  pub ending_outlook : (how : How) (me : SeatOf B) → IsEnding told how me → outlook_by (how_out me.1) ≡ Ended how
  ending_outlook how me e = ap (λ l. outlook_by (how_out l)) e.slot ∙ ap outlook_by e.how_is

  -- what the answers have requested is what the replies do
  abbrev by_replies : (me : SeatOf B) → IsNotedOut replied me → IsGranted me.0.own me → IsGranted (own_so_far replied me) me
  by_replies me n g = record { causes = g.causes; asked = g.asked; requested = g.requested; counts = g.counts ∙ ap (total_after g.requested) n.own; ordered = g.ordered; runs_on = g.runs_on; wanted = g.wanted }

  -- an item was given
  pub serves_give : (x : Item) (result : Served) (before middle after : SeatOf B) (seen later : SeenState) → Carries told before
      → IsNotedOut replied before → TakesNext x before middle → GivesAs told replied x result middle after seen later
      → Serves told replied result before after seen later
  serves_give x Served.Gave before middle after seen later c n t g =
      let view : after.0 ≡ record before.0 { runner = Taken; taken = before.0.taken ++ x ∷ []; item = []; grants = before.0.grants ++ grant_of before t.granted ∷ []; requested = t.granted.requested; known_put = t.known_put } = g.tells.view ∙ ap (λ (m : SeatOf B). m.0) t.took in
      record {
        item = x;
        granted = by_replies before n t.granted;
        grants = ap (λ (v : View). v.grants) view;
        going = g.going;
        is = subst (λ v. IsRunner v) (sym view) c.is;
        none_out = ap (λ (v : View). v.item) view;
        taken = ap (λ (v : View). v.taken) view;
        text = g.tells.text ∙ ap (λ (m : SeatOf B). told_out told m.1 ++ Next x ∷ []) t.took;
        reply = g.reply;
        replies = g.tells.replies ∙ ap (λ (m : SeatOf B). replied_out replied m.1 ++ g.reply ∷ []) t.took;
        all = g.all;
        saw = g.tells.saw;
        misses = ap (λ (v : View). v.misses) view;
        sized = ap (λ (v : View). v.capacity) view;
        ordered = ap (λ (v : View). v.order) view;
      }
  serves_give x Served.Rested before middle after seen later c n t g = absurd g
  serves_give x Served.Missed before middle after seen later c n t g = absurd g
  serves_give x (Served.Ended how) before middle after seen later c n t g =
      let e = g.1 in
      let taken : g.0.0.taken ≡ before.0.taken ++ x ∷ [] = ap (λ (v : View). v.taken) e.tells.view ∙ ap (λ (m : SeatOf B). m.0.taken) t.took in
      let text : told_out told g.0.1 ≡ told_out told before.1 ++ e.last = e.tells.text ∙ ap (λ (m : SeatOf B). told_out told m.1 ++ e.last) t.took in
      let at_end : after.0.replied ≡ replied_out replied g.0.1 = ap (λ (m : SeatOf B). m.0.replied) g.2 in
      let replies : after.0.replied ≡ replied_out replied before.1 ++ e.reply ∷ [] = at_end ∙ e.tells.replies ∙ ap (λ (m : SeatOf B). replied_out replied m.1 ++ e.reply ∷ []) t.took in
      record {
        took = x ∷ [];
        last = e.last;
        few = omega arith;
        each = e.reply ∷ [];
        closing = [];
        to_it = none_to_it how (⊎_elim (λ h. inl h.0) (λ h. inr h.0) e.shape);
        replies = replies;
        ends = subst (EndsSo (Some how)) (sym at_end) e.ends;
        found = λ all. absurd (not_all (replied_out replied before.1) e.reply how e.asks (subst AllGoOn replies all));
        granted = inr (refl, (by_replies before n t.granted, ap (λ (m : SeatOf B). m.0.grants) g.2 ∙ ap (λ (v : View). v.grants) e.tells.view ∙ ap (λ (m : SeatOf B). m.0.grants) t.took), (e.reply, refl));
        text = subst (λ l. IsToldAtEnd how l (told_out told before.1 ++ e.last)) taken (subst (λ z. IsToldAtEnd how g.0.0.taken z) text (ending_text how g.0 e.ending));
        saw = e.tells.saw;
        taken = ap (λ (m : SeatOf B). m.0.taken) g.2 ∙ taken;
        misses = ap (λ (m : SeatOf B). m.0.misses) g.2 ∙ ap (λ (v : View). v.misses) e.tells.view ∙ ap (λ (m : SeatOf B). m.0.misses) t.took;
        ordered = (
          ap (λ (m : SeatOf B). m.0.order) g.2 ∙ ap (λ (v : View). v.order) e.tells.view ∙ ap (λ (m : SeatOf B). m.0.order) t.took,
          λ _. subst (IsInOrder before.0.order) (sym (ap (λ (m : SeatOf B). m.0.runner) g.2 ∙ ap (λ (v : View). v.runner) e.tells.view ∙ ap (λ (m : SeatOf B). m.0.runner) t.took)) tt,
        );
        runs = ap (λ (m : SeatOf B). m.0.runs) g.2;
        shown = ap (λ (m : SeatOf B). m.0.outlook) g.2 ∙ ending_outlook how g.0 e.ending;
        may = subst (λ (m : SeatOf B). MayEnd how (length m.0.taken) m.0.runner) (sym g.2) e.ending.may;
        failed = failed_item x how e.last e.shape;
      }

  -- an end was told
  pub serves_finish : (due : How) (result : Served) (before middle after : SeatOf B) (seen later : SeenState) → middle.1 ≡ before.1
      → middle.0.taken ≡ before.0.taken → middle.0.misses ≡ before.0.misses → middle.0.grants ≡ before.0.grants
      → KeepsOrder before.0 middle.0 → AreShownAt middle.0.look (causes_by before.0.order (replied_out replied before.1)) middle.0.runner
      → IsNoFailure (Some due) → FinishesAs told replied due result middle after seen later
      → Serves told replied result before after seen later
  serves_finish due Served.Gave before middle after seen later slots items same still kept shown is_other f = absurd f
  serves_finish due Served.Rested before middle after seen later slots items same still kept shown is_other f = absurd f
  serves_finish due Served.Missed before middle after seen later slots items same still kept shown is_other f = absurd f
  serves_finish due (Served.Ended how) before middle after seen later slots items same still kept shown is_other f =
      let e = f.1 in
      let taken : f.0.0.taken ≡ before.0.taken ++ [] = ap (λ (v : View). v.taken) e.tells.view ∙ items ∙ sym (append-nil before.0.taken) in
      let text : told_out told f.0.1 ≡ told_out told before.1 ++ e.last = e.tells.text ∙ ap (λ l. told_out told l ++ e.last) slots in
      let at_end : after.0.replied ≡ replied_out replied f.0.1 = ap (λ (m : SeatOf B). m.0.replied) f.2 in
      let replies : after.0.replied ≡ replied_out replied before.1 ++ e.fresh = at_end ∙ e.tells.replies ∙ ap (λ l. replied_out replied l ++ e.fresh) slots in
      let word : after.0.look ≡ middle.0.look = ap (λ (m : SeatOf B). m.0.look) f.2 ∙ ap (λ (v : View). v.look) e.tells.view in
      let stage : after.0.runner ≡ middle.0.runner = ap (λ (m : SeatOf B). m.0.runner) f.2 ∙ ap (λ (v : View). v.runner) e.tells.view in
      record {
        took = [];
        last = e.last;
        few = omega arith;
        each = [];
        closing = e.fresh;
        to_it = to_itself due how e.fresh e.to_it;
        replies = replies;
        ends = subst (EndsSo (Some how)) (sym at_end) e.ends;
        found = λ all.
            let each : AllGoOn (replied_out replied before.1 ++ e.fresh) = subst AllGoOn replies all in
            let same : causes_by before.0.order after.0.replied ≡ causes_by before.0.order (replied_out replied before.1) = ap (causes_by before.0.order) replies ∙ causes_at_end due how before.0.order (replied_out replied before.1) e.fresh e.to_it each in (
              subst (IsFound how) (sym stage) (subst (λ (h : How). IsFound h middle.0.runner) (sym (due_end due how (replied_out replied before.1) e.fresh e.to_it each)) e.found),
              subst (λ (w : ℕ). AreShownAt w (causes_by before.0.order after.0.replied) after.0.runner) (sym word) (subst (AreShownAt middle.0.look (causes_by before.0.order after.0.replied)) (sym stage) (subst (λ (c : Causes). AreShownAt middle.0.look c middle.0.runner) (sym same) shown)),
            );
        granted = inl (refl, refl, ap (λ (m : SeatOf B). m.0.grants) f.2 ∙ ap (λ (v : View). v.grants) e.tells.view ∙ still);
        text = subst (λ l. IsToldAtEnd how l (told_out told before.1 ++ e.last)) taken (subst (λ z. IsToldAtEnd how f.0.0.taken z) text (ending_text how f.0 e.ending));
        saw = e.tells.saw;
        taken = ap (λ (m : SeatOf B). m.0.taken) f.2 ∙ taken;
        misses = ap (λ (m : SeatOf B). m.0.misses) f.2 ∙ ap (λ (v : View). v.misses) e.tells.view ∙ same;
        ordered = (
          ap (λ (m : SeatOf B). m.0.order) f.2 ∙ ap (λ (v : View). v.order) e.tells.view ∙ kept.0,
          λ stood. subst (IsInOrder before.0.order) (sym (ap (λ (m : SeatOf B). m.0.runner) f.2 ∙ ap (λ (v : View). v.runner) e.tells.view)) (kept.1 stood),
        );
        runs = ap (λ (m : SeatOf B). m.0.runs) f.2;
        shown = ap (λ (m : SeatOf B). m.0.outlook) f.2 ∙ ending_outlook how f.0 e.ending;
        may = subst (λ (m : SeatOf B). MayEnd how (length m.0.taken) m.0.runner) (sym f.2) e.ending.may;
        failed = failed_finish due how e.last is_other e.shape;
      }

  -- a measure keeps the causes of the look
  measured_order : (tail : ℕ) (before middle : SeatOf B) → FindsNone tail before middle → KeepsOrder before.0 middle.0
  measured_order tail before middle f = (
    ap (λ (m : SeatOf B). m.0.order) f.found,
    λ stood. (let looked : f.causes.order ≡ before.0.order = subst (IsInOrder before.0.order) f.stage stood in subst (IsInOrder before.0.order) (sym (ap (λ (m : SeatOf B). m.0.runner) f.found)) looked),
  )

  measured_shows : (tail : ℕ) (before middle : SeatOf B) → FindsNone tail before middle
      → AreShownAt before.0.look (causes_by before.0.order (replied_out replied before.1)) before.0.runner
      → AreShownAt middle.0.look (causes_by before.0.order (replied_out replied before.1)) middle.0.runner
  measured_shows tail before middle f shown =
      let answers : Causes = causes_by before.0.order (replied_out replied before.1) in
      let at_look : AreShownAt before.0.look answers (Looked f.causes) = subst (AreShownAt before.0.look answers) f.stage shown in
      subst (λ (m : SeatOf B). AreShownAt m.0.look answers m.0.runner) (sym f.found) at_look

  -- there was no item to give
  pub serves_none : (tail word : ℕ) (result : Option Served) (before middle after : SeatOf B) (seen later : SeenState)
      → Carries told middle → IsNotedOut replied before
      → AreShownAt before.0.look (causes_by before.0.order (replied_out replied before.1)) before.0.runner → FindsNone tail before middle
      → EndsOrRests told replied word result middle after seen later → ServesOnce told replied word result before after seen later
  serves_none tail word None before middle after seen later c n shown f t = (
    t.0.0,
    subst (λ (m : SeatOf B). HasPassed told replied before m) (sym t.0.1) (record {
      carries = c;
      measured = (f.causes, tail, f.asked, ap (λ (m : SeatOf B). m.0.runner) f.found);
      taken = ap (λ (m : SeatOf B). m.0.taken) f.found;
      text = ap (λ (m : SeatOf B). told_out told m.1) f.found;
      replies = ap (λ (m : SeatOf B). replied_out replied m.1) f.found;
      misses = ap (λ (m : SeatOf B). m.0.misses) f.found;
      grants = ap (λ (m : SeatOf B). m.0.grants) f.found;
      sized = ap (λ (m : SeatOf B). m.0.capacity) f.found;
      ordered = ap (λ (m : SeatOf B). m.0.order) f.found;
    }),
    t.1,
  )
  serves_none tail word (Some Served.Gave) before middle after seen later c n shown f t = absurd t
  serves_none tail word (Some Served.Rested) before middle after seen later c n shown f t = (
    record {
      text = sym (ap (λ (m : SeatOf B). told_out told m.1) f.found) ∙ t.0.text ∙ ap (λ (m : SeatOf B). greeted m.0.taken) f.found;
      replies = t.0.replies ∙ ap (λ (m : SeatOf B). replied_out replied m.1) f.found;
      taken = t.0.taken ∙ ap (λ (m : SeatOf B). m.0.taken) f.found;
      misses = t.0.misses ∙ ap (λ (m : SeatOf B). m.0.misses) f.found;
      grants = t.0.grants ∙ ap (λ (m : SeatOf B). m.0.grants) f.found;
      ordered = t.0.ordered ∙ ap (λ (m : SeatOf B). m.0.order) f.found;
      runs = t.0.runs;
      shown = t.0.shown;
      stage = t.0.stage;
    },
    t.1,
    n.all,
  )
  serves_none tail word (Some Served.Missed) before middle after seen later c n shown f t = (
    record {
      going = t.0.going;
      is = t.0.is;
      none_out = t.0.none_out;
      taken = t.0.taken ∙ ap (λ (m : SeatOf B). m.0.taken) f.found;
      text = t.0.text ∙ ap (λ (m : SeatOf B). told_out told m.1) f.found;
      replies = t.0.replies ∙ ap (λ (m : SeatOf B). replied_out replied m.1) f.found;
      misses = t.0.misses ∙ ap (λ (m : SeatOf B). m.0.misses + 1) f.found;
      grants = t.0.grants ∙ ap (λ (m : SeatOf B). m.0.grants) f.found;
      sized = t.0.sized ∙ ap (λ (m : SeatOf B). m.0.capacity) f.found;
      ordered = t.0.ordered ∙ ap (λ (m : SeatOf B). m.0.order) f.found;
    },
    t.1,
    n.all,
  )
  serves_none tail word (Some (Served.Ended how)) before middle after seen later c n shown f t = serves_finish t.0 (Served.Ended how) before middle after seen later (ap (λ (m : SeatOf B). m.1) f.found) (ap (λ (m : SeatOf B). m.0.taken) f.found) (ap (λ (m : SeatOf B). m.0.misses) f.found) (ap (λ (m : SeatOf B). m.0.grants) f.found) (measured_order tail before middle f) (measured_shows tail before middle f shown) t.1 t.2
