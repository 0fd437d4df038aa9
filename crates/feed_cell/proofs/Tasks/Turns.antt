-- A turn so far, from its first look on, and how it is over.
use Rattle.std.proofs.Common.{◌≡◌, ℕ, suc, ◌+◌, ◌<◌, true, false, Option, None, List, [], ◌∷◌, ◌++◌, map, length, refl, ap, sym, ◌∙◌, subst, inl, inr, arith, append-nil, length-append, append_assoc}
use Rattle.std.proofs.lemmas.List.{length-map, map-append}
use Rattle.feed_core.specs.Answered.{own_by}
use Rattle.feed_core.specs.AnsweredTurn.{Reply}
use Rattle.feed_core.specs.World.Table.{MayLook}
use Rattle.feed_core.specs.Prelude.{Answer, ErrorOrder, How, Item, Next, Signal, Subscribed, items_of, total_after}
use Rattle.feed_core.specs.Seen.{SeenState}
use Rattle.feed_core.specs.declared.turn.outlook.Outlook.{Outlook}
use Rattle.feed_core.specs.declared.turn.outlook.Outlook.TheVariants.{Again, Resting, Ended}
use Rattle.feed_cell.specs.Types.{Runner, Nobody}
use Rattle.feed_cell.specs.Cell.{greeted, IsToldAtEnd}
use Rattle.feed_cell.specs.Parties.{CanLook, GoesOnFrom, IsGoing, StandsBetween, known_by_task}
use Rattle.feed_cell.specs.TaskPauses.{told_out, replied_out}
use Rattle.feed_cell.specs.Seats.{SeatOf}
use Rattle.feed_core.specs.Replies.{AllGoOn}
use Rattle.feed_cell.specs.TaskAnswers.{EndsSo}
use Rattle.feed_cell.specs.TaskSteps.{HasLookedAt, IsGranted, IsInOrder, grant_of}
use Rattle.feed_cell.specs.TaskLooks.{EndsAs, GivesItem, IsFoundBy, IsLastGrant, MissesRest, RestsNow, own_so_far}
use Rattle.feed_cell.specs.TaskTurns.{AreGivenOf, AreGranted, AreLastReplies, GoesOnAs, IsBeforeLook, IsFoundIn, KeepsGoing, MayEndIn, MayLookNext, StopsAs, TellsSoFar, MayGoOn, end_in}
use Rattle.feed_cell.specs.declared.cell.Grant.{Grant}
use Rattle.feed_cell.specs.declared.cell.task.Stage.{Stage}
use Rattle.feed_cell.proofs.Tasks.Opens.{none_more}
use Rattle.feed_cell.proofs.Tasks.TurnSignals.{AreAnswered, base_length, granted_more, own_append, whole_turn}

-- no terminal signal has a reply if there is no end
none_last : (outlook : Outlook) → end_in outlook ≡ None → AreLastReplies outlook []
none_last Again goes = refl
none_last Resting goes = refl
none_last (Ended how) goes = cc

-- a task that goes on after this answer may look
looks_from : (answer : Answer) (r : Runner) → GoesOnFrom answer r → MayLook answer r
looks_from Answer.Go r (inl ready) = inl (inl ready)
looks_from Answer.Go r (inr called) = inr called
looks_from (Answer.Request n) r called = called
looks_from Answer.Cancel r never = absurd never
looks_from (Answer.Fail code) r never = absurd never

-- and stands between two turns
stands_from : (answer : Answer) (r : Runner) → GoesOnFrom answer r → StandsBetween r
stands_from Answer.Go r stands = stands
stands_from (Answer.Request n) r called = inr called
stands_from Answer.Cancel r never = absurd never
stands_from (Answer.Fail code) r never = absurd never

module _ {B : Type 0} (told : B → List Signal) where
  pub going_can_look : (me : SeatOf B) → IsGoing told me → CanLook told me
  going_can_look me g = record {
    guest = g.guest;
    answer = g.answer;
    slot = g.slot;
    away = g.away;
    may = looks_from g.answer me.0.runner g.may;
    text = g.text;
    given = g.given;
    own = g.own;
    answers = g.answers;
    how = g.how;
  }

module _ {B : Type 0} (told : B → List Signal) (replied : B → List Reply) where
  -- what its subscriber has replied in a turn so far
  answered_so_far : {count : ℕ} {before me : SeatOf B} {seen : List Signal} (t : TellsSoFar told replied count before me seen) (outlook : Outlook) (later : List Reply) → end_in outlook ≡ None → later ≡ replied_out replied me.1 → AllGoOn (replied_out replied me.1)
      → AreAnswered (known_by_task before.0) t.start t.base t.grants (replied_out replied before.1) later outlook
  answered_so_far t outlook later goes same all = record {
    past = t.past;
    had = t.had;
    greeting = t.greeting;
    greets = t.greets;
    each = t.each;
    granted = t.granted;
    closing = [];
    closes = none_last outlook goes;
    replies = same ∙ t.replies ∙ ap (λ l. (t.past ++ t.greeting) ++ l) (sym (append-nil t.each));
    ends = subst (λ (h : Option How). EndsSo h later) (sym goes) (subst AllGoOn (sym same) all);
  }

  -- a task may look in the middle of a turn
  pub may_look_next : (stage : Stage) (count : ℕ) (before me : SeatOf B) (seen : List Signal)
      → IsBeforeLook told replied stage count before me seen → MayLookNext told stage me
  may_look_next Stage.Fresh count before me seen mid = mid
  may_look_next Stage.Home count before me seen mid = mid.2
  may_look_next Stage.Going count before me seen mid = going_can_look told me mid.0

  -- it has looked: what its subscriber was told before is known now
  pub looked_on : (stage : Stage) (count word : ℕ) (before me mid : SeatOf B) (seen : List Signal)
      → IsBeforeLook told replied stage count before me seen
      → HasLookedAt told word mid → mid.0.misses ≡ me.0.misses → mid.0.grants ≡ me.0.grants → mid.0.order ≡ me.0.order → KeepsGoing stage me mid → TellsSoFar told replied count before mid seen
  looked_on Stage.Fresh count word before me mid seen so_far looked same still ordered keeps = absurd so_far
  looked_on Stage.Home count word before me mid seen so_far looked same still ordered keeps =
      let nothing = so_far.1 in
      let out : told_out told mid.1 ≡ greeted mid.0.taken = ap (told_out told) looked.carries.slot ∙ looked.carries.text in
      let again : greeted mid.0.taken ++ seen ≡ greeted mid.0.taken = ap (λ s. greeted mid.0.taken ++ s) nothing ∙ append-nil (greeted mid.0.taken) in
      record {
        start = greeted mid.0.taken;
        base = mid.0.taken;
        knew = λ e. let clash : true ≡ false = sym e ∙ so_far.3 ∙ so_far.2.home in cc;
        met = λ _. refl;
        opened = inr refl;
        took = [];
        counted = sym so_far.0;
        text = again ∙ ap greeted (sym (append-nil mid.0.taken));
        ordered = ordered ∙ so_far.6;
        taken = sym (append-nil mid.0.taken);
        told_is = out ∙ sym again;
        grants = [];
        one_each = sym so_far.0;
        past = replied_out replied mid.1;
        had = λ e. (let clash : true ≡ false = sym e ∙ so_far.3 ∙ so_far.2.home in cc);
        greeting = [];
        greets = refl;
        each = [];
        granted = tt;
        replies = none_more (replied_out replied mid.1);
        all = λ some. (let none_given = so_far.0 in absurd (omega arith));
        grants_are = still ∙ so_far.5 ∙ sym (append-nil before.0.grants);
        misses = same ∙ so_far.4;
      }
  looked_on Stage.Going count word before me mid seen so_far looked same still ordered keeps =
      let t = so_far.1 in
      record {
        start = t.start;
        base = t.base;
        knew = t.knew;
        met = t.met;
        opened = t.opened;
        took = t.took;
        counted = t.counted;
        text = t.text;
        ordered = ordered ∙ t.ordered;
        taken = keeps.1 ∙ t.taken;
        told_is = ap (told_out told) keeps.0 ∙ t.told_is;
        grants = t.grants;
        one_each = t.one_each;
        past = t.past;
        had = t.had;
        greeting = t.greeting;
        greets = t.greets;
        each = t.each;
        granted = t.granted;
        replies = ap (replied_out replied) keeps.0 ∙ t.replies;
        all = λ some. subst AllGoOn (sym (ap (replied_out replied) keeps.0)) (t.all some);
        grants_are = still ∙ t.grants_are;
        misses = same ∙ t.misses;
      }

  -- what it saw tells a closing error in the order that was known before
  pub looked_in_order : (order : ErrorOrder) (word : ℕ) (mid : SeatOf B) → HasLookedAt told word mid → mid.0.order ≡ order
      → IsInOrder order mid.0.runner
  looked_in_order order word mid looked same = subst (IsInOrder order) (sym looked.stage) (looked.ordered ∙ same)

  module _ (count : ℕ) (before mid after : SeatOf B) (seen later : SeenState) (t : TellsSoFar told replied count before mid seen.signals) (stood : IsInOrder before.0.order mid.0.runner) where
    -- there is room for one more signal
    pub room_so_far : count < 64 → length seen.signals < 66
    room_so_far short =
        let whole : length (t.start ++ seen.signals) ≡ suc (length (map Next (t.base ++ t.took))) = ap length t.text in
        let apart = length-append t.start seen.signals in
        let nexts = length-map (t.base ++ t.took) Next in
        let items = length-append t.base t.took in
        let first = base_length t.base t.start t.opened in
        let counted = t.counted in
        omega arith

    -- the next item is granted, too
    one_more : (granted : IsGranted (own_so_far replied mid) mid) (r : Reply)
        → AreGranted before.0.order (length t.base) (own_by (t.past ++ t.greeting)) (t.each ++ r ∷ []) (t.grants ++ grant_of mid granted ∷ [])
    one_more granted r =
        let items : length mid.0.taken ≡ length (t.base ++ t.took) = ap length t.taken in
        let apart = length-append t.base t.took in
        let counted = t.counted in
        let one_each = t.one_each in
        let wanted = granted.wanted in
        granted_more before.0.order (length t.base) (own_by (t.past ++ t.greeting)) t.each t.grants r (grant_of mid granted) t.granted
        (granted.ordered (subst (λ (order : ErrorOrder). IsInOrder order mid.0.runner) (sym t.ordered) stood) ∙ t.ordered)
        granted.runs_on
        (omega arith)
        (granted.counts ∙ ap (total_after granted.requested) (ap own_by t.replies ∙ own_append 0 (t.past ++ t.greeting) t.each))

    -- one more item was given
    pub gave_on : GivesItem told replied mid after seen later → IsBeforeLook told replied Stage.Going (count + 1) before after later.signals
    gave_on gives =
        let item = gives.item in
        let grant = grant_of mid gives.granted in
        let saw : later.signals ≡ seen.signals ++ Next item ∷ [] = ap (λ (s : SeenState). s.signals) gives.saw in
        let join : t.start ++ later.signals ≡ (t.start ++ seen.signals) ++ Next item ∷ [] = ap (λ s. t.start ++ s) saw ∙ sym (append_assoc t.start seen.signals (Next item ∷ [])) in (
          gives.going,
          record {
            start = t.start;
            base = t.base;
            knew = t.knew;
            met = t.met;
            opened = t.opened;
            took = t.took ++ item ∷ [];
            counted = length-append t.took (item ∷ []) ∙ ap (λ n. n + 1) t.counted;
            ordered = gives.ordered ∙ t.ordered;
            text = join ∙ ap (λ s. s ++ Next item ∷ []) t.text ∙ ap (λ l. Subscribed ∷ l) (sym (map-append Next (t.base ++ t.took) (item ∷ []))) ∙ ap greeted (append_assoc t.base t.took (item ∷ []));
            taken = gives.taken ∙ ap (λ l. l ++ item ∷ []) t.taken ∙ append_assoc t.base t.took (item ∷ []);
            told_is = gives.text ∙ ap (λ s. s ++ Next item ∷ []) t.told_is ∙ sym join;
            grants = t.grants ++ grant ∷ [];
            one_each = length-append t.grants (grant ∷ []) ∙ ap (λ n. n + 1) t.one_each;
            past = t.past;
            had = t.had;
            greeting = t.greeting;
            greets = t.greets;
            each = t.each ++ gives.reply ∷ [];
            granted = one_more gives.granted gives.reply;
            replies = gives.replies ∙ ap (λ l. l ++ gives.reply ∷ []) t.replies ∙ append_assoc (t.past ++ t.greeting) t.each (gives.reply ∷ []);
            all = λ some. gives.all;
            grants_are = gives.grants ∙ ap (λ l. l ++ grant ∷ []) t.grants_are ∙ append_assoc before.0.grants t.grants (grant ∷ []);
            misses = gives.misses ∙ t.misses;
          },
        )

    -- it rests
    pub rests_after : count < 64 → RestsNow told replied mid after → later ≡ seen → AllGoOn (replied_out replied mid.1)
        → StopsAs (known_by_task before.0) (known_by_task after.0) (told_out told before.1) later.signals (replied_out replied before.1) after.0.replied Resting × (after.0.runner ≡ Nobody)
    rests_after short rests same all = (
      subst (λ (s : SeenState). StopsAs (known_by_task before.0) (known_by_task after.0) (told_out told before.1) s.signals (replied_out replied before.1) after.0.replied Resting) (sym same)
          (record {
            turned = whole_turn (known_by_task before.0) (told_out told before.1) seen.signals t.start t.base t.took Resting t.knew t.met t.opened (let c = t.counted in omega arith) t.grants (t.one_each ∙ sym t.counted) (answered_so_far t Resting after.0.replied refl rests.replies all) t.text;
            order = rests.ordered ∙ t.ordered;
            taken = rests.taken ∙ t.taken;
            grants = rests.grants ∙ t.grants_are;
            misses = rests.misses ∙ t.misses;
            runs = rests.runs;
            shown = rests.shown;
          }),
      rests.stage,
    )

    -- it could not rest
    pub misses_after : count < 64 → MissesRest told replied mid after → later ≡ seen → AllGoOn (replied_out replied mid.1)
        → GoesOnAs (known_by_task before.0) (known_by_task after.0) (told_out told before.1) (told_out told after.1) later.signals (replied_out replied before.1) (replied_out replied after.1) × MayGoOn (known_by_task before.0) (known_by_task after.0) later.signals
    misses_after short missed same all = (
      subst (λ (s : SeenState). GoesOnAs (known_by_task before.0) (known_by_task after.0) (told_out told before.1) (told_out told after.1) s.signals (replied_out replied before.1) (replied_out replied after.1)) (sym same)
          (record {
            turned = whole_turn (known_by_task before.0) (told_out told before.1) seen.signals t.start t.base t.took Again t.knew t.met t.opened (let c = t.counted in omega arith) t.grants (t.one_each ∙ sym t.counted) (answered_so_far t Again (replied_out replied after.1) refl missed.replies all) t.text;
            order = missed.ordered ∙ t.ordered;
            taken = missed.taken ∙ t.taken;
            grants = missed.grants ∙ t.grants_are;
            away = missed.going.away;
            stands = stands_from missed.going.answer after.0.runner missed.going.may;
            told_is = missed.text ∙ t.told_is;
          }),
      inr (missed.misses ∙ ap (λ n. n + 1) t.misses),
    )

    -- all its grants, at its end
    all_granted : (took : List Item) (each : List Reply) → IsLastGrant (own_so_far replied mid) mid after took each
        → (grants : List Grant) × (length grants ≡ length (t.took ++ took)) × AreGranted before.0.order (length t.base) (own_by (t.past ++ t.greeting)) (t.each ++ each) grants × (after.0.grants ≡ before.0.grants ++ grants)
    all_granted took each (inl none) = (
      t.grants,
      t.one_each ∙ sym t.counted ∙ ap length (sym (append-nil t.took)) ∙ ap (λ l. length (t.took ++ l)) (sym none.0),
      subst (λ (l : List Reply). AreGranted before.0.order (length t.base) (own_by (t.past ++ t.greeting)) l t.grants) (sym (append-nil t.each) ∙ ap (λ l. t.each ++ l) (sym none.1)) t.granted,
      none.2 ∙ t.grants_are,
    )
    all_granted took each (inr one) =
        let grant = grant_of mid one.1.0 in
        let items = length-append t.took took in
        let grants = length-append t.grants (grant ∷ []) in
        let counted = t.counted in
        let one_each = t.one_each in
        let single = one.0 in (
          t.grants ++ grant ∷ [],
          omega arith,
          subst (λ (l : List Reply). AreGranted before.0.order (length t.base) (own_by (t.past ++ t.greeting)) (t.each ++ l) (t.grants ++ grant ∷ [])) (sym one.2.1) (one_more one.1.0 one.2.0),
          one.1.1 ∙ ap (λ l. l ++ grant ∷ []) t.grants_are ∙ append_assoc before.0.grants t.grants (grant ∷ []),
        )

    -- it ended
    pub ends_after : (how : How) → count < 64 → EndsAs told replied how mid after seen later
        → StopsAs (known_by_task before.0) (known_by_task after.0) (told_out told before.1) later.signals (replied_out replied before.1) after.0.replied (Ended how) × MayEndIn before.0.order how (length after.0.taken) after.0.runner × IsFoundIn before.0.order after.0.replied how after.0.look after.0.runner
    ends_after how short ends =
        let saw : later.signals ≡ seen.signals ++ ends.last = ap (λ (s : SeenState). s.signals) ends.saw in
        let items : mid.0.taken ++ ends.took ≡ t.base ++ (t.took ++ ends.took) = ap (λ l. l ++ ends.took) t.taken ∙ append_assoc t.base t.took ends.took in
        let signals : told_out told mid.1 ++ ends.last ≡ t.start ++ later.signals =
        ap (λ s. s ++ ends.last) t.told_is ∙ append_assoc t.start seen.signals ends.last ∙ ap (λ s. t.start ++ s) (sym saw)
        in
        let last = all_granted ends.took ends.each ends.granted in (
          record {
            turned = whole_turn (known_by_task before.0) (told_out told before.1) later.signals t.start t.base (t.took ++ ends.took) (Ended how) t.knew t.met t.opened
                (let c = t.counted in let few = ends.few in let l = length-append t.took ends.took in omega arith)
                last.0 last.1
                (record {
                  past = t.past;
                  had = t.had;
                  greeting = t.greeting;
                  greets = t.greets;
                  each = t.each ++ ends.each;
                  granted = last.2;
                  closing = ends.closing;
                  closes = ends.to_it;
                  replies = ends.replies ∙ ap (λ l. l ++ (ends.each ++ ends.closing)) t.replies ∙ append_assoc (t.past ++ t.greeting) t.each (ends.each ++ ends.closing)
                      ∙ ap (λ l. (t.past ++ t.greeting) ++ l) (sym (append_assoc t.each ends.each ends.closing));
                  ends = ends.ends;
                })
                (subst (λ (l : List Item). IsToldAtEnd how l (t.start ++ later.signals)) items (subst (λ (s : List Signal). IsToldAtEnd how (mid.0.taken ++ ends.took) s) signals ends.text));
            order = ends.ordered.0 ∙ t.ordered;
            taken = ends.taken ∙ items;
            grants = last.3;
            misses = ends.misses ∙ t.misses;
            runs = ends.runs;
            shown = ends.shown;
          },
          (ends.may, subst (λ (order : ErrorOrder). IsInOrder order after.0.runner) t.ordered (ends.ordered.1 (subst (λ (order : ErrorOrder). IsInOrder order mid.0.runner) (sym t.ordered) stood))),
          λ all. subst (λ (order : ErrorOrder). IsFoundBy order after.0.replied how after.0.look after.0.runner) t.ordered (ends.found all),
        )

  -- a turn is over after 64 items
  pub full : (before me : SeatOf B) (seen : List Signal) → IsGoing told me → TellsSoFar told replied 64 before me seen
      → GoesOnAs (known_by_task before.0) (known_by_task me.0) (told_out told before.1) (told_out told me.1) seen (replied_out replied before.1) (replied_out replied me.1) × MayGoOn (known_by_task before.0) (known_by_task me.0) seen
  full before me seen going t =
      let turned = whole_turn (known_by_task before.0) (told_out told before.1) seen t.start t.base t.took Again t.knew t.met t.opened (let c = t.counted in omega arith) t.grants (t.one_each ∙ sym t.counted) (answered_so_far t Again (replied_out replied me.1) refl refl (t.all (omega arith))) t.text in (
        record {
          turned = turned;
          order = t.ordered;
          taken = t.taken;
          grants = t.grants_are;
          away = going.away;
          stands = stands_from going.answer me.0.runner going.may;
          told_is = t.told_is;
        },
        inl (all (items_of seen) t.took turned.given ∙ t.counted, t.misses),
      )
    where
      all : (given took : List Item) → AreGivenOf Again given took → length given ≡ length took
      all given took (inl e) = ap length e
      all given took (inr h) = let clash = h.0 in cc

  -- a greeted task that was given items goes on
  pub going_on : (stage : Stage) (count : ℕ) (before me : SeatOf B) (seen : List Signal) → 0 < count
      → IsBeforeLook told replied stage count before me seen → IsGoing told me × TellsSoFar told replied count before me seen
  going_on Stage.Fresh count before me seen some so_far = absurd so_far
  going_on Stage.Home count before me seen some so_far = let none : count ≡ 0 = so_far.0 in absurd (omega arith)
  going_on Stage.Going count before me seen some so_far = so_far
