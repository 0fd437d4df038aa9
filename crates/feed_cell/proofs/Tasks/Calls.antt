-- What a callback does to a seat that has the subscriber with it.
use Rattle.std.proofs.Common.{◌≡◌, ℕ, ◌+◌, ◌⊎◌, List, [], ◌∷◌, ◌++◌, length, Option, None, Some, sym, refl, ap, ap₂, ◌∙◌, subst, inl, inr, ⊎_elim, append-nil, length-append}
use Rattle.std.proofs.lemmas.List.{map-append}
use Rattle.atomic_table.specs.Table.{rest}
use Rattle.feed_core.specs.AnsweredTurn.{Reply}
use Rattle.feed_core.specs.Cause.{with_cause_of}
use Rattle.feed_core.specs.PlainTurn.{terminal_of}
use Rattle.feed_core.specs.Prelude.{Answer, How, Item, Signal, Subscribed, Next}
use Rattle.feed_core.specs.Seen.{SeenState}
use Rattle.feed_core.specs.Steps.{HasTerminal}
use Rattle.feed_core.specs.World.Table.{MayEnd, IsAnswered}
use Rattle.feed_cell.specs.Types.{Causes, Runner, Fresh, Taken}
use Rattle.feed_cell.specs.Cell.{greeted, IsToldAtEnd}
use Rattle.feed_cell.specs.Parties.{GoesOnFrom, IsUngreeted}
use Rattle.feed_cell.specs.TaskPauses.{told_out, replied_out}
use Rattle.feed_cell.specs.Seats.{SeatOf}
use Rattle.feed_cell.specs.TaskSteps.{IsFound, IsGoOn, IsQuietEnd, Carries, GoesOnWith, EndsWith, FinishesWith, GoesOnThere, EndsThere, FinishesThere, HasTaken}
use Rattle.feed_core.specs.Answered.{own_after, own_by, causes_by}
use Rattle.feed_cell.specs.TaskLooks.{IsNotedOut}
use Rattle.feed_cell.specs.TaskAnswers.{answers_after, EndsSo, IsNoted, RepliesLast, RepliesOnce}
use Rattle.feed_cell.specs.Views.{IsRunner}
use Rattle.feed_cell.specs.declared.cell.Held.{Held}
use Rattle.feed_cell.specs.declared.cell.Lodger.{Lodger}

goes_on_from : (answer : Answer) (r : Runner) → IsGoOn answer → (r ≡ Fresh) ⊎ (r ≡ Taken) → GoesOnFrom answer r
goes_on_from Answer.Go r goes e = inr e
goes_on_from (Answer.Request n) r goes e = e
goes_on_from Answer.Cancel r goes e = absurd goes
goes_on_from (Answer.Fail code) r goes e = absurd goes

answered : (how : How) (quiet : (how ≡ How.OutOfMemory) ⊎ IsQuietEnd how) → IsAnswered how
answered How.Completed (inl e) = cc
answered How.Completed (inr q) = absurd q
answered (How.Errored fault) (inl e) = cc
answered (How.Errored fault) (inr q) = absurd q
answered How.Cancelled q = tt
answered (How.Failed code) q = tt
answered How.OutOfMemory q = tt

may_end : (how : How) (n : ℕ) (r : Runner) → IsAnswered how → (r ≡ Fresh) ⊎ (r ≡ Taken) → MayEnd how n r
may_end how n r a (inl e) = subst (MayEnd how n) (sym e) a
may_end how n r a (inr e) = subst (MayEnd how n) (sym e) a

quietly : (how : How) (taken : List Item) (text : List Signal) → IsQuietEnd how → text ≡ greeted taken → IsToldAtEnd how taken text
quietly How.Completed taken text q e = absurd q
quietly (How.Errored fault) taken text q e = absurd q
quietly How.Cancelled taken text q e = e
quietly (How.Failed code) taken text q e = e
quietly How.OutOfMemory taken text q e = absurd q

finally : (how : How) (taken : List Item) (text : List Signal) → text ≡ greeted taken ++ terminal_of how → IsToldAtEnd how taken text
finally How.Completed taken text e = e
finally (How.Errored fault) taken text e = e
finally How.Cancelled taken text e = e ∙ append-nil (greeted taken)
finally (How.Failed code) taken text e = e ∙ append-nil (greeted taken)
finally How.OutOfMemory taken text e = inl (e ∙ append-nil (greeted taken))

pub greeted_more : (before : List Item) (x : Item) → greeted before ++ Next x ∷ [] ≡ greeted (before ++ x ∷ [])
greeted_more before x = ap (λ l. Subscribed ∷ l) (sym (map-append Next before (x ∷ [])))

module _ {B : Type 0} (told : B → List Signal) where
  -- the slot that was lent holds the subscriber
  pub top : (slots : List (ℕ × Held B)) (i j : ℕ) (x : Held B) → slots ≡ (i, x) ∷ [] → i ≡ j → slots ≡ (j, x) ∷ rest slots
  top slots i j x is same = is ∙ ap (λ (k : ℕ). (k, x) ∷ []) same ∙ ap (λ (l : List (ℕ × Held B)). (j, x) ∷ l) (sym (ap rest is))

  abbrev guest_in : Lodger B → Held B → Lodger B
  guest_in other (Held.Guest g) = g
  guest_in other _ = other

  abbrev first_held : Held B → List (ℕ × Held B) → Held B
  first_held other [] = other
  first_held other (x ∷ xs) = x.1

  -- who was lent is who was there
  pub same_guest : (slots : List (ℕ × Held B)) (i j : ℕ) (g old : Lodger B) (held : Held B) → slots ≡ (i, Held.Guest g) ∷ []
      → slots ≡ (j, held) ∷ rest slots → held ≡ Held.Guest old → old ≡ g
  same_guest slots i j g old held is lent was = ap (guest_in old) (sym was ∙ sym (ap (first_held held) lent) ∙ ap (first_held held) is)

  -- the text of who is there
  text_of : (slots : List (ℕ × Held B)) (i : ℕ) (g : Lodger B) → slots ≡ (i, Held.Guest g) ∷ [] → told_out told slots ≡ told g.subscriber
  text_of slots i g is = ap (told_out told) is

  -- and its replies
  replies_of : (replied : B → List Reply) (slots : List (ℕ × Held B)) (i : ℕ) (g : Lodger B) → slots ≡ (i, Held.Guest g) ∷ []
      → replied_out replied slots ≡ replied g.subscriber
  replies_of replied slots i g is = ap (replied_out replied) is

  -- the slots after the call
  slot_after : (slots : List (ℕ × Held B)) (i j : ℕ) (g new : Lodger B) → slots ≡ (i, Held.Guest g) ∷ [] → i ≡ j
      → (j, Held.Guest new) ∷ rest slots ≡ (i, Held.Guest new) ∷ []
  slot_after slots i j g new is same = ap₂ (λ (k : ℕ) (l : List (ℕ × Held B)). (k, Held.Guest new) ∷ l) (sym same) (ap rest is)

  -- what lies beside who was lent is what it has replied
  pub noted_out : (replied : B → List Reply) (me : SeatOf B) (slot : ℕ) (old : Lodger B) (held : Held B) → Carries told me
      → me.1 ≡ (slot, held) ∷ rest me.1 → held ≡ Held.Guest old → IsNoted replied old → IsNotedOut replied me
  noted_out replied me slot old held c lent was noted =
      let n : IsNoted replied c.guest = subst (IsNoted replied) (same_guest me.1 me.0.capacity slot c.guest old held c.slot lent was) noted in
      let there : replied_out replied me.1 ≡ replied c.guest.subscriber = replies_of replied me.1 me.0.capacity c.guest c.slot in
      record {
        own = sym c.own ∙ n.own ∙ ap own_by (sym there);
        answers = sym c.answers ∙ n.answers ∙ ap (λ (a : Causes). causes_by a.order (replied c.guest.subscriber)) c.answers ∙ ap (causes_by me.0.answers.order) (sym there);
        all = subst (λ (h : Option How). EndsSo h (replied_out replied me.1)) c.how (subst (EndsSo c.guest.how) (sym there) n.ends);
      }

  module _ (replied : B → List Reply) (before : SeatOf B) (slot : ℕ) (old new : Lodger B) (held : Held B) (seen later : SeenState) (sized : before.0.capacity ≡ slot) (lent : before.1 ≡ (slot, held) ∷ rest before.1) (was : held ≡ Held.Guest old) where
    abbrev after : SeatOf B
    after = (before.0, (slot, Held.Guest new) ∷ rest before.1)

    -- what was replied before the call
    replied_before : (g : Lodger B) → before.1 ≡ (before.0.capacity, Held.Guest g) ∷ []
        → replied old.subscriber ≡ replied_out replied before.1
    replied_before g is = ap (λ (l : Lodger B). replied l.subscriber) (same_guest before.1 before.0.capacity slot g old held is lent was) ∙ sym (replies_of replied before.1 before.0.capacity g is)

    -- onSubscribe
    pub greets_on : IsUngreeted told before → GoesOnWith told Subscribed 0 old new seen later → RepliesOnce replied None old new
        → GoesOnThere told replied Subscribed before after seen later
    greets_on f w r =
        let same : old ≡ f.guest = same_guest before.1 before.0.capacity slot f.guest old held f.slot lent was in
        let text : told new.subscriber ≡ Subscribed ∷ [] = w.text ∙ ap (λ t. t ++ Subscribed ∷ []) (ap (λ (g : Lodger B). told g.subscriber) same ∙ f.untold) in
        let count : new.given ≡ 0 = w.given ∙ ap (λ (g : Lodger B). g.given + 0) same ∙ ap (λ (m : ℕ). m + 0) f.given in
        record {
          going = record {
            guest = new;
            answer = w.answer;
            slot = slot_after before.1 before.0.capacity slot f.guest new f.slot sized;
            away = f.away;
            may = goes_on_from w.answer before.0.runner w.goes (inl f.stage);
            text = text ∙ ap greeted (sym f.taken);
            given = count ∙ ap length (sym f.taken);
            own = w.own ∙ ap (own_after w.answer) (ap (λ (g : Lodger B). g.own) same ∙ f.own);
            answers = w.answers ∙ ap (answers_after w.answer) (ap (λ (g : Lodger B). g.answers) same ∙ f.answers);
            how = w.how ∙ ap (λ (g : Lodger B). g.how) same ∙ f.how;
          };
          tells = record { view = refl; text = w.text ∙ ap (λ (g : Lodger B). told g.subscriber ++ Subscribed ∷ []) same ∙ ap (λ t. t ++ Subscribed ∷ []) (sym (text_of before.1 before.0.capacity f.guest f.slot)); replies = r.replies ∙ ap (λ (l : List Reply). l ++ r.reply ∷ []) (replied_before f.guest f.slot); saw = w.saw };
          reply = r.reply;
          all = subst (λ (h : Option How). EndsSo h (replied new.subscriber)) (w.how ∙ ap (λ (g : Lodger B). g.how) same ∙ f.how) r.noted.ends;
        }

    pub greets_end : (how : How) → IsUngreeted told before → IsRunner before.0 → before.0.item ≡ []
        → EndsWith told Subscribed 0 how old new seen later → RepliesOnce replied (Some how) old new
        → EndsThere told replied Subscribed how before after seen later
    greets_end how f is none_out w r =
        let same : old ≡ f.guest = same_guest before.1 before.0.capacity slot f.guest old held f.slot lent was in
        let text : told new.subscriber ≡ w.last = w.text ∙ ap (λ t. t ++ w.last) (ap (λ (g : Lodger B). told g.subscriber) same ∙ f.untold) in
        let count : new.given ≡ 0 = w.given ∙ ap (λ (g : Lodger B). g.given + 0) same ∙ ap (λ (m : ℕ). m + 0) f.given in
        record {
          ending = record {
            guest = new;
            slot = slot_after before.1 before.0.capacity slot f.guest new f.slot sized;
            is = is;
            away = f.away;
            none_out = none_out;
            may = may_end how (length before.0.taken) before.0.runner (answered how (⊎_elim (λ e. inl e.0) (λ e. inr e.0) w.shape)) (inl f.stage);
            text = ⊎_elim
                (λ e. subst (λ h. IsToldAtEnd h before.0.taken (told new.subscriber)) (sym e.0) (inr (inl (f.taken, text ∙ e.1))))
                (λ e. quietly how before.0.taken (told new.subscriber) e.0 (text ∙ e.1 ∙ ap greeted (sym f.taken)))
                w.shape;
            given = count ∙ ap length (sym f.taken);
            own = w.own ∙ ap (λ (g : Lodger B). g.own) same ∙ f.own;
            answers = inl (w.answers ∙ ap (with_cause_of how) (ap (λ (g : Lodger B). g.answers) same ∙ f.answers));
            how_is = w.how_is;
          };
          last = w.last;
          shape = w.shape;
          tells = record { view = refl; text = w.text ∙ ap (λ (g : Lodger B). told g.subscriber ++ w.last) same ∙ ap (λ t. t ++ w.last) (sym (text_of before.1 before.0.capacity f.guest f.slot)); replies = r.replies ∙ ap (λ (l : List Reply). l ++ r.reply ∷ []) (replied_before f.guest f.slot); saw = w.saw };
          reply = r.reply;
          asks = sym r.asks;
          ends = subst (λ (h : Option How). EndsSo h (replied new.subscriber)) w.how_is r.noted.ends;
        }

    -- onNext
    pub gives_on : (x : Item) → HasTaken told x before → GoesOnWith told (Next x) 1 old new seen later → RepliesOnce replied None old new
        → GoesOnThere told replied (Next x) before after seen later
    gives_on x f w r =
        let same : old ≡ f.guest = same_guest before.1 before.0.capacity slot f.guest old held f.slot lent was in
        let text : told new.subscriber ≡ greeted before.0.taken = w.text ∙ ap (λ t. t ++ Next x ∷ []) (ap (λ (g : Lodger B). told g.subscriber) same ∙ f.text) ∙ greeted_more f.before x ∙ ap greeted (sym f.taken) in
        let longer : length before.0.taken ≡ length f.before + 1 = ap length f.taken ∙ length-append f.before (x ∷ []) in
        let count : new.given ≡ length f.before + 1 = w.given ∙ ap (λ (g : Lodger B). g.given + 1) same ∙ ap (λ (m : ℕ). m + 1) f.given in
        record {
          going = record {
            guest = new;
            answer = w.answer;
            slot = slot_after before.1 before.0.capacity slot f.guest new f.slot sized;
            away = f.away;
            may = goes_on_from w.answer before.0.runner w.goes (inr f.stage);
            text = text;
            given = count ∙ sym longer;
            own = w.own ∙ ap (own_after w.answer) (ap (λ (g : Lodger B). g.own) same ∙ f.own);
            answers = w.answers ∙ ap (answers_after w.answer) (ap (λ (g : Lodger B). g.answers) same ∙ f.answers);
            how = w.how ∙ ap (λ (g : Lodger B). g.how) same ∙ f.how;
          };
          tells = record { view = refl; text = w.text ∙ ap (λ (g : Lodger B). told g.subscriber ++ Next x ∷ []) same ∙ ap (λ t. t ++ Next x ∷ []) (sym (text_of before.1 before.0.capacity f.guest f.slot)); replies = r.replies ∙ ap (λ (l : List Reply). l ++ r.reply ∷ []) (replied_before f.guest f.slot); saw = w.saw };
          reply = r.reply;
          all = subst (λ (h : Option How). EndsSo h (replied new.subscriber)) (w.how ∙ ap (λ (g : Lodger B). g.how) same ∙ f.how) r.noted.ends;
        }

    pub gives_end : (x : Item) (how : How) → HasTaken told x before → EndsWith told (Next x) 1 how old new seen later
        → RepliesOnce replied (Some how) old new → EndsThere told replied (Next x) how before after seen later
    gives_end x how f w r =
        let same : old ≡ f.guest = same_guest before.1 before.0.capacity slot f.guest old held f.slot lent was in
        let text : told new.subscriber ≡ greeted f.before ++ w.last = w.text ∙ ap (λ t. t ++ w.last) (ap (λ (g : Lodger B). told g.subscriber) same ∙ f.text) in
        let longer : length before.0.taken ≡ length f.before + 1 = ap length f.taken ∙ length-append f.before (x ∷ []) in
        let count : new.given ≡ length f.before + 1 = w.given ∙ ap (λ (g : Lodger B). g.given + 1) same ∙ ap (λ (m : ℕ). m + 1) f.given in
        record {
          ending = record {
            guest = new;
            slot = slot_after before.1 before.0.capacity slot f.guest new f.slot sized;
            is = f.is;
            away = f.away;
            none_out = f.none_out;
            may = may_end how (length before.0.taken) before.0.runner (answered how (⊎_elim (λ e. inl e.0) (λ e. inr e.0) w.shape)) (inr f.stage);
            text = ⊎_elim
                (λ e. subst (λ h. IsToldAtEnd h before.0.taken (told new.subscriber)) (sym e.0) (inr (inr (f.before, x, f.taken, text ∙ ap (λ l. greeted f.before ++ l) e.1 ∙ append-nil (greeted f.before)))))
                (λ e. quietly how before.0.taken (told new.subscriber) e.0 (text ∙ ap (λ l. greeted f.before ++ l) e.1 ∙ greeted_more f.before x ∙ ap greeted (sym f.taken)))
                w.shape;
            given = count ∙ sym longer;
            own = w.own ∙ ap (λ (g : Lodger B). g.own) same ∙ f.own;
            answers = inl (w.answers ∙ ap (with_cause_of how) (ap (λ (g : Lodger B). g.answers) same ∙ f.answers));
            how_is = w.how_is;
          };
          last = w.last;
          shape = w.shape;
          tells = record { view = refl; text = w.text ∙ ap (λ (g : Lodger B). told g.subscriber ++ w.last) same ∙ ap (λ t. t ++ w.last) (sym (text_of before.1 before.0.capacity f.guest f.slot)); replies = r.replies ∙ ap (λ (l : List Reply). l ++ r.reply ∷ []) (replied_before f.guest f.slot); saw = w.saw };
          reply = r.reply;
          asks = sym r.asks;
          ends = subst (λ (h : Option How). EndsSo h (replied new.subscriber)) w.how_is r.noted.ends;
        }

    -- the terminal signal
    pub finishes : (due how : How) → Carries told before → MayEnd due (length before.0.taken) before.0.runner
        → (HasTerminal due → MayEnd How.OutOfMemory (length before.0.taken) before.0.runner) → IsFound due before.0.runner
        → FinishesWith told due how old new seen later → RepliesLast replied due how old new
        → FinishesThere told replied due how before after seen later
    finishes due how f may missed found w r =
        let same : old ≡ f.guest = same_guest before.1 before.0.capacity slot f.guest old held f.slot lent was in
        let text : told new.subscriber ≡ greeted before.0.taken ++ w.last = w.text ∙ ap (λ t. t ++ w.last) (ap (λ (g : Lodger B). told g.subscriber) same ∙ f.text) in
        record {
          ending = record {
            guest = new;
            slot = slot_after before.1 before.0.capacity slot f.guest new f.slot sized;
            is = f.is;
            away = f.away;
            none_out = f.none_out;
            may = ⊎_elim
                (λ e. subst (λ h. MayEnd h (length before.0.taken) before.0.runner) (sym e.0) may)
                (λ e. subst (λ h. MayEnd h (length before.0.taken) before.0.runner) (sym e.0) (missed e.1))
                w.shape;
            text = ⊎_elim
                (λ e. subst (λ h. IsToldAtEnd h before.0.taken (told new.subscriber)) (sym e.0) (finally due before.0.taken (told new.subscriber) (text ∙ ap (λ l. greeted before.0.taken ++ l) e.1)))
                (λ e. subst (λ h. IsToldAtEnd h before.0.taken (told new.subscriber)) (sym e.0) (inl (text ∙ ap (λ l. greeted before.0.taken ++ l) e.2 ∙ append-nil (greeted before.0.taken))))
                w.shape;
            given = w.given ∙ ap (λ (g : Lodger B). g.given) same ∙ f.given;
            own = w.own ∙ ap (λ (g : Lodger B). g.own) same ∙ f.own;
            answers = ⊎_elim
                (λ e. inl (e ∙ ap (with_cause_of how) (ap (λ (g : Lodger B). g.answers) same ∙ f.answers)))
                (λ e. inr (subst (λ h. IsFound h before.0.runner) (sym e.0) found, e.1 ∙ ap (λ (g : Lodger B). g.answers) same ∙ f.answers))
                w.answers;
            how_is = w.how_is;
          };
          last = w.last;
          shape = w.shape;
          tells = record { view = refl; text = w.text ∙ ap (λ (g : Lodger B). told g.subscriber ++ w.last) same ∙ ap (λ t. t ++ w.last) (sym (text_of before.1 before.0.capacity f.guest f.slot)); replies = r.replies ∙ ap (λ (l : List Reply). l ++ r.fresh) (replied_before f.guest f.slot); saw = w.saw };
          fresh = r.fresh;
          to_it = r.to_it;
          ends = subst (λ (h : Option How). EndsSo h (replied new.subscriber)) w.how_is r.noted.ends;
          found = found;
        }
