-- The task's end of the subscription.
use Rattle.std.proofs.Common.{◌≡◌, ℕ, ◌+◌, Bool, true, false, List, [], ◌∷◌, length, set, Option, Some, None, sym, refl, ap, ◌∙◌, subst, arith, inr, ⊎_elim, ◌++◌}
use mathlib.Core.Option.{some}
use Rattle.atomic_table.specs.Table.{gives, Allows}
use Rattle.feed_core.specs.AnsweredTurn.{Reply}
use Rattle.feed_core.specs.Cause.{with_cause_of, stops, closes, end_where, error_at_once, end_at_last}
use Rattle.feed_core.specs.Prelude.{Ending, ErrorOrder, Published, IllegalArgument, IllegalState, How, Item, Signal, Overtake, AfterItems}
use Rattle.feed_core.specs.World.Kept.{IsAt}
use Rattle.feed_core.specs.World.Table.{MayEnd, after}
use Rattle.feed_cell.specs.Types.{Causes, Parts, Runner, Nobody, Coming, Fresh, Ready, Looked, Saw, Measured, Taken, Over, End}
use Rattle.feed_cell.proofs.Table.Outlooks.{reached_end, reached_kept}
use Rattle.feed_cell.proofs.Table.Places.{lies_guest, changed}
use Rattle.feed_cell.proofs.Words.ControlWord.{or_true}
use Rattle.feed_cell.proofs.Table.Seats.{other, spent}
use Rattle.feed_cell.proofs.Tasks.Stages.{seated}
use Rattle.feed_cell.proofs.Table.Tallies.{has_none}
use Rattle.feed_cell.specs.Cell.{Lies, CellRule, IsToldAtEnd, words_by}
use Rattle.feed_cell.specs.Control.{Flags, MARK, causes_of, marked}
use Rattle.feed_cell.specs.TaskPlays.{outlook_by, IsEnd}
use Rattle.feed_cell.specs.TaskSteps.{IsFound, AreAfterEnd}
use Rattle.feed_cell.specs.Views.{IsRunner, has_put, has_ask, has_run}
use Rattle.feed_cell.specs.declared.cell.Held.{Held}
use Rattle.feed_cell.specs.declared.cell.Lodger.{Lodger}
use Rattle.feed_cell.specs.declared.cell.View.{View}
use Rattle.feed_cell.specs.WordPlaces.{place}
use Rattle.feed_cell.specs.declared.cell.words.Word.{Word}
use Rattle.feed_cell.proofs.Words.FourWords.{head_stored}

-- the cause of an end joins those of the answers
ends_causes : (how : How) (f : Flags) (answers : Causes) → with_cause_of how (causes_of f answers) ≡ causes_of f (with_cause_of how answers)
ends_causes How.Completed f answers = refl
ends_causes (How.Errored fault) f answers = refl
ends_causes How.Cancelled f answers = ap (λ b. record (causes_of f answers) { cancel = b }) (sym (or_true f.cancel))
ends_causes (How.Failed code) f answers = refl
ends_causes How.OutOfMemory f answers = refl

-- and no end changes the order of errors
ends_order : (how : How) (answers : Causes) → (with_cause_of how answers).order ≡ answers.order
ends_order How.Completed answers = refl
ends_order (How.Errored fault) answers = refl
ends_order How.Cancelled answers = refl
ends_order (How.Failed code) answers = refl
ends_order How.OutOfMemory answers = refl

-- an end at once that a look found has its cause there already
stops_same : (how : How) (causes all : Causes) → stops causes ≡ Some how → (causes.cancel ≡ true → all.cancel ≡ true)
    → with_cause_of how all ≡ all
stops_same how causes all = by causes.cancel causes.argument causes.state causes.closing causes.order where
  same : (due : How) → with_cause_of due all ≡ all → Some due ≡ Some how → with_cause_of how all ≡ all
  same due quiet e = (let is : due ≡ how = cc in subst (λ (h : How). with_cause_of h all ≡ all) is quiet)

  at_once : (closing : Option Ending) (order : ErrorOrder) → error_at_once closing order ≡ Some how → with_cause_of how all ≡ all
  at_once None order e = cc
  at_once (Some Ending.Normal) order e = cc
  at_once (Some (Ending.Failed code)) Overtake e = same (How.Errored (Published code)) refl e
  at_once (Some (Ending.Failed code)) AfterItems e = cc

  by : (cancel argument state : Bool) (closing : Option Ending) (order : ErrorOrder)
      → end_where cancel How.Cancelled (end_where argument (How.Errored IllegalArgument) (end_where state (How.Errored IllegalState) (error_at_once closing order))) ≡ Some how
      → (cancel ≡ true → all.cancel ≡ true) → with_cause_of how all ≡ all
  by true argument state closing order e within = same How.Cancelled (ap (λ (b : Bool). record all { cancel = b }) (sym (within refl))) e
  by false true state closing order e within = same (How.Errored IllegalArgument) refl e
  by false false true closing order e within = same (How.Errored IllegalState) refl e
  by false false false closing order e within = at_once closing order e

-- and so has an end that waits for the items
closes_same : (how : How) (causes all : Causes) → closes causes ≡ Some how → with_cause_of how all ≡ all
closes_same how causes all = by causes.closing causes.order where
  same : (due : How) → with_cause_of due all ≡ all → Some due ≡ Some how → with_cause_of how all ≡ all
  same due quiet e = (let is : due ≡ how = cc in subst (λ (h : How). with_cause_of h all ≡ all) is quiet)

  by : (closing : Option Ending) (order : ErrorOrder) → end_at_last closing order ≡ Some how → with_cause_of how all ≡ all
  by None order e = cc
  by (Some Ending.Normal) order e = same How.Completed refl e
  by (Some (Ending.Failed code)) Overtake e = cc
  by (Some (Ending.Failed code)) AfterItems e = same (How.Errored (Published code)) refl e

found_same : (how : How) (w : Parts) (r : Runner) → IsFound how r → IsAt r w → with_cause_of how w.causes ≡ w.causes
found_same how w Nobody found at = absurd found
found_same how w Coming found at = absurd found
found_same how w Fresh found at = absurd found
found_same how w Ready found at = absurd found
found_same how w (Looked c) found at = stops_same how c w.causes found at.within.cancel
found_same how w (Saw c t) found at = absurd found
found_same how w (Measured c t a) found at = closes_same how c w.causes found
found_same how w Taken found at = absurd found
found_same how w (Over other) found at = absurd found

module _ {B : Type 0} (told : B → List Signal) where
  -- a store of head with its mark gives the subscriber's slot back
  pub ends : (replied : B → List Reply) (cap n id : ℕ) (v : View) (g : Lodger B) (more : List (ℕ × Held B)) (new : ℕ) (how : How)
      → IsRunner v → v.away ≡ true → MayEnd how (length v.taken) v.runner → v.item ≡ [] → new ≡ length v.taken + MARK
      → g.given ≡ length v.taken → g.own ≡ v.own → AreAfterEnd how v.runner v.answers g.answers → g.how ≡ Some how → IsToldAtEnd how v.taken (told g.subscriber)
      → Allows (CellRule told cap) n id (v, (v.capacity, Held.Guest g) ∷ more) (place cap Word.Head) (λ _. new) (λ _. IsEnd replied (v, (v.capacity, Held.Guest g) ∷ more))
  ends replied cap n id v g more new how is out may none_out new_is given_is own_is answers_are how_is told_is s c wide at small =
      let k = (c.runners id v at is.2).1 in
      let p = c.cell.world in
      let know = k.knows (sym k.out ∙ out) in
      let seat = seated p.runner k.seated in
      let same : length v.taken ≡ p.given = ap length know.taken_is ∙ sym c.shows.given in
      let here : MayEnd how p.given p.runner = subst (MayEnd how p.given) k.stands (subst (λ (m : ℕ). MayEnd how m v.runner) same may) in
      let item_is : c.cell.item ≡ [] = sym k.item_is ∙ none_out in
      let causes_there : with_cause_of how p.causes ≡ causes_of c.cell.flags g.answers = ⊎_elim
      (λ e. ap (with_cause_of how) c.shows.causes ∙ ends_causes how c.cell.flags c.cell.answers ∙ ap (λ (a : Causes). causes_of c.cell.flags (with_cause_of how a)) (sym know.answers_are) ∙ ap (causes_of c.cell.flags) (sym e))
      (λ e. found_same how p p.runner (subst (IsFound how) k.stands e.0) (reached_kept c.reached).stage ∙ c.shows.causes ∙ ap (causes_of c.cell.flags) (sym know.answers_are ∙ sym e.1))
      answers_are in
      let order_there : c.cell.answers.order ≡ g.answers.order = ⊎_elim
      (λ e. ap (λ (z : Causes). z.order) (sym know.answers_are) ∙ sym (ends_order how v.answers) ∙ ap (λ (z : Causes). z.order) (sym e))
      (λ e. ap (λ (z : Causes). z.order) (sym know.answers_are ∙ sym e.1))
      answers_are in
      let w : View = record v { runs = false; away = false; outlook = outlook_by g.how; replied = replied g.subscriber } in (
        w,
        gives,
        tt,
        record {
          cell = record c.cell { world = after (End how) p; answers = g.answers; away = false };
          reached = reached_end how id v w c.reached here at (inr (inr is.2)) (ap outlook_by how_is) refl refl (has_none w is.0 is.1 refl) seat.over;
          lists = c.lists;
          shows = record { sized = c.shows.sized; accepted = c.shows.accepted; given = c.shows.given; none_out = λ _. item_is; started = c.shows.started ∙ seat.runs; new = c.shows.new; causes = causes_there; home = λ _. refl; settled = c.shows.settled };
          reads = c.reads;
          words = head_stored _ _ _ _ _ _ c.words new ∙ ap (λ (m : ℕ). words_by cap m p.accepted (marked c.cell.left p.asked) c.cell.control) (new_is ∙ ap (λ (m : ℕ). m + MARK) same);
          lies = subst (λ (j : ℕ). Lies cap (c.cell.log ++ c.cell.beyond.placed) (length c.cell.taken) (length c.cell.taken + length c.cell.item) c.cell.beyond.free (set s.homes j (some (Held.Guest g)))) (sym k.sized)
              (lies_guest cap (c.cell.log ++ c.cell.beyond.placed) s.homes (length c.cell.taken) (length c.cell.taken + length c.cell.item) c.cell.beyond.free (some (Held.Guest g)) c.lists.sized c.lies);
          lodges = λ _. record { guest = g; at = changed s.homes v.capacity cap (some (Held.Guest g)) (sym k.sized) (let wide = c.lies.wide in let sized : v.capacity ≡ cap = k.sized in omega arith); given_is = given_is ∙ ap length know.taken_is; own_is = own_is ∙ know.own_is; answers_are = refl; how_is = how_is; told_is = subst (λ (l : List Item). IsToldAtEnd how l (told g.subscriber)) know.taken_is told_is };
          producers = other has_put c.cell.producer _ _ s.views id w c.producers is.0 (λ d o. record { sized = o.sized; ordered = o.ordered ∙ order_there; put = o.put; seen = o.seen; laid = o.laid; places = o.places; over = λ _. refl; closed = o.closed; doubled = o.doubled; stands = o.stands });
          handles = other has_ask c.cell.handle _ _ s.views id w c.handles is.1
              (λ d h. record { sized = h.sized; ordered = h.ordered ∙ order_there; total = h.total; cancels = h.cancels; bad = h.bad; leaves = h.leaves; stands = h.stands });
          runners = spent has_run c.cell.runner _ _ s.views id v w c.runners at is.2 refl;
        },
        refl,
      )
