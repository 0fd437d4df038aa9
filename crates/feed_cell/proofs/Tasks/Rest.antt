-- The task's rest.
use Rattle.std.proofs.Common.{◌≡◌, ℕ, ◌+◌, ◌<◌, ◌==◌, Bool, true, false, List, [], ◌∷◌, length, slice_index, set, bit_and, None, sym, refl, ap, ◌∙◌, subst, arith, inr, ◌++◌}
use mathlib.Core.Option.{some}
use lib.ListN.{get_elem?}
use prog.Atomic.{either}
use Rattle.std.specs.Int.{bit_at}
use Rattle.atomic_table.proofs.Lists.{exchanged}
use Rattle.atomic_table.specs.Table.{State, Act, keeps, gives, Valid, stepped, carried_after, Allows}
use Rattle.feed_core.specs.AnsweredTurn.{Reply}
use Rattle.feed_core.specs.Prelude.{Signal}
use Rattle.feed_core.specs.declared.turn.outlook.Outlook.TheVariants.{Resting}
use Rattle.feed_core.specs.World.Table.{MayRest, is_started, resting_after}
use Rattle.feed_cell.specs.Types.{Nobody, Ready, Runner}
use Rattle.feed_cell.proofs.Tasks.Move.{knows_too, move_kept}
use Rattle.feed_cell.proofs.Table.Outlooks.{reached_miss, reached_rest}
use Rattle.feed_cell.proofs.Table.Places.{lies_guest, changed}
use Rattle.feed_cell.proofs.Words.ControlWord.{reads_rest}
use Rattle.feed_cell.proofs.Table.Seats.{other, spent}
use Rattle.feed_cell.proofs.Tasks.Stages.{seated}
use Rattle.feed_cell.proofs.Table.Tallies.{has_none}
use Rattle.feed_cell.specs.Cell.{Lies, CellRule, AsProducer, greeted, has_looked, words_by}
use Rattle.feed_cell.specs.Control.{Reads, number, marked, RESTING}
use Rattle.feed_cell.specs.Outlooks.{IsReachedBy, miss_between, hand_between}
use Rattle.feed_cell.specs.TaskPlays.{IsRest}
use Rattle.feed_cell.specs.Views.{IsRunner, has_put, has_ask, has_run}
use Rattle.feed_cell.specs.declared.cell.Held.{Held}
use Rattle.feed_cell.specs.declared.cell.Lodger.{Lodger}
use Rattle.feed_cell.specs.declared.cell.View.{View}
use Rattle.feed_cell.specs.WordPlaces.{place}
use Rattle.feed_cell.specs.declared.cell.words.Word.{Word}
use Rattle.feed_cell.proofs.Words.FourWords.{control_at, control_loaded, control_stored}

-- whether something is new, by the bit that was found
quiet_by : (b : Bool) (word : ℕ) → bit_at word 1 ≡ number b → bit_at word 1 ≡ 0 → b ≡ false
quiet_by false word e none_there = refl
quiet_by true word e none_there = absurd (omega arith)

module _ {B : Type 0} (told : B → List Signal) (replied : B → List Reply) (cap : ℕ) (s : State (Held B) View) (c : CellRule told cap s) (id : ℕ) (v : View) (g : Lodger B) (more : List (ℕ × Held B)) (look : ℕ) (at : get_elem? s.views id ≡ some v)
    (is : IsRunner v) (out : v.away ≡ true) (may : MayRest (length v.taken) v.runner) (none_out : v.item ≡ []) (look_is : look ≡ v.look) (small : slice_index s.words (place cap Word.Control) < 18446744073709551616) where
  there : MayRest c.cell.world.given c.cell.world.runner
  there =
      let k = (c.runners id v at is.2).1 in
      let know = k.knows (sym k.out ∙ out) in
      subst (MayRest c.cell.world.given) k.stands (subst (λ (m : ℕ). MayRest m v.runner) (ap length know.taken_is ∙ sym c.shows.given) may)

  abbrev Outcome : ℕ → Type 0
  Outcome new = (w : View) × (a : Act (Held B)) × Valid s.homes ((v.capacity, Held.Guest g) ∷ more) a × CellRule told cap (stepped s (place cap Word.Control) new id ((v.capacity, Held.Guest g) ∷ more) w a)
      × IsRest replied look (v, (v.capacity, Held.Guest g) ∷ more) (slice_index s.words (place cap Word.Control)) (w, carried_after ((v.capacity, Held.Guest g) ∷ more) a)

  found_is : slice_index s.words (place cap Word.Control) ≡ c.cell.control
  found_is = control_at _ _ _ _ _ _ c.words

  -- nothing is new: the task rests
  hit : (new : ℕ) → new ≡ bit_and look RESTING → bit_at look 1 ≡ 0 → g.given ≡ length v.taken → g.own ≡ v.own → g.answers ≡ v.answers
      → g.how ≡ None → told g.subscriber ≡ greeted v.taken → slice_index s.words (place cap Word.Control) ≡ look → Outcome new
  hit new new_is quiet given_is own_is answers_are how_is told_is same =
      let k = (c.runners id v at is.2).1 in
      let p = c.cell.world in
      let know = k.knows (sym k.out ∙ out) in
      let seat = seated p.runner k.seated in
      let look_here : look ≡ c.cell.control = sym same ∙ found_is in
      let idle : p.active ≡ false = sym c.shows.new ∙ quiet_by c.cell.flags.active c.cell.control c.reads.active (ap (λ (m : ℕ). bit_at m 1) (sym look_here) ∙ quiet) in
      let item_is : c.cell.item ≡ [] = sym k.item_is ∙ none_out in
      let w : View = record v { runner = Nobody; runs = false; away = false; outlook = Resting; replied = replied g.subscriber } in
      let reached : IsReachedBy (set s.views id w) (record p { runner = Nobody }) = subst (IsReachedBy (set s.views id w)) (ap (λ b. record p { runner = resting_after b }) idle)
      (reached_rest id v w c.reached there at (inr (inr is.2)) refl refl refl (has_none w is.0 is.1 refl) seat.runs seat.over (ap (λ b. is_started (resting_after b)) idle)) in (
        w,
        gives,
        tt,
        record {
          cell = record c.cell { world = record p { runner = Nobody }; control = new; flags = record c.cell.flags { run = false }; away = false };
          reached = reached;
          lists = c.lists;
          shows = record { sized = c.shows.sized; accepted = c.shows.accepted; given = c.shows.given; none_out = λ _. item_is; started = refl; new = c.shows.new; causes = c.shows.causes; home = λ _. refl; settled = c.shows.settled };
          reads = subst (λ (m : ℕ). Reads m (record c.cell.flags { run = false })) (ap (λ (m : ℕ). bit_and m RESTING) (sym look_here) ∙ sym new_is) (reads_rest (subst (λ (m : ℕ). m < 18446744073709551616) found_is small) c.reads);
          words = control_stored _ _ _ _ _ _ c.words new ∙ ap (λ b. words_by cap (marked b p.given) p.accepted (marked c.cell.left p.asked) new) seat.over;
          lies = subst (λ (j : ℕ). Lies cap (c.cell.log ++ c.cell.beyond.placed) (length c.cell.taken) (length c.cell.taken + length c.cell.item) c.cell.beyond.free (set s.homes j (some (Held.Guest g)))) (sym k.sized)
              (lies_guest cap (c.cell.log ++ c.cell.beyond.placed) s.homes (length c.cell.taken) (length c.cell.taken + length c.cell.item) c.cell.beyond.free (some (Held.Guest g)) c.lists.sized c.lies);
          lodges = λ _. record { guest = g; at = changed s.homes v.capacity cap (some (Held.Guest g)) (sym k.sized) (let wide = c.lies.wide in let sized : v.capacity ≡ cap = k.sized in omega arith); given_is = given_is ∙ ap length know.taken_is; own_is = own_is ∙ know.own_is; answers_are = answers_are ∙ know.answers_are; how_is = how_is; told_is = told_is ∙ ap greeted know.taken_is };
          producers = other has_put c.cell.producer _ _ s.views id w c.producers is.0 (λ d o. subst (λ b. AsProducer cap c.cell.answers.order c.cell.log p.given c.cell.beyond b c.cell.flags.closing c.cell.flags.state p.producer d) seat.over o);
          handles = other has_ask c.cell.handle _ _ s.views id w c.handles is.1 (λ d h. h);
          runners = spent has_run c.cell.runner _ _ s.views id v w c.runners at is.2 refl;
        },
        record { rested = λ _. refl; missed = λ differs. absurd (differs same); sized = refl },
      )

  -- something is new
  missed : (slice_index s.words (place cap Word.Control) ≡ look → ⊥) → Outcome (slice_index s.words (place cap Word.Control))
  missed differs =
      let k = (c.runners id v at is.2).1 in
      let p = c.cell.world in
      let know = k.knows (sym k.out ∙ out) in
      let stage = there.3 in
      let busy : p.active ≡ true = by p.active refl in
      let w : View = record v { runner = Ready; misses = v.misses + 1 } in
      let reached : IsReachedBy (set s.views id w) (record p { runner = Ready }) = subst (IsReachedBy (set s.views id w)) (ap (λ b. record p { runner = resting_after b }) busy)
      (reached_miss id v w c.reached there at (inr (inr is.2)) refl refl refl (seated p.runner k.seated).over (ap (λ b. is_started (resting_after b)) busy) (ap (λ b. miss_between p.runner (resting_after b)) busy ∙ ap (λ (r : Runner). miss_between r Ready) stage)
      (ap (λ b. hand_between p.runner (resting_after b)) busy ∙ ap (λ (r : Runner). hand_between r Ready) stage)) in
      let item_is : c.cell.item ≡ [] = sym k.item_is ∙ none_out in (
        w,
        keeps,
        tt,
        move_kept told cap s c id v w Ready p.known_put p.known_asked c.cell.item _ s.homes at is is.0 is.1 refl reached (λ _. item_is) c.lists c.lies (control_loaded _ _ _ _ _ _ c.words)
            (record { sized = k.sized; ordered = k.ordered; seated = refl; stands = refl; out = out; knows = λ _. knows_too c.cell.taken p.own c.cell.answers v w refl refl refl know; fresh = λ e. cc; item_is = k.item_is; latest = λ e. cc; saw_put = k.saw_put; saw_asked = k.saw_asked }),
        record { rested = λ same. absurd (differs same); missed = λ _. refl; sized = refl },
      )
    where
      by : (b : Bool) → c.cell.world.active ≡ b → c.cell.world.active ≡ true
      by true e = e
      by false e = (let k = (c.runners id v at is.2).1 in absurd (differs (found_is ∙ k.latest (ap has_looked there.3) e ∙ sym look_is)))

module _ {B : Type 0} (told : B → List Signal) where
  -- a compare-and-exchange of control, from the word after the last look to the same without the mark of the task
  pub rests : (replied : B → List Reply) (cap n id : ℕ) (v : View) (g : Lodger B) (more : List (ℕ × Held B)) (look new : ℕ) → IsRunner v
      → v.away ≡ true → MayRest (length v.taken) v.runner → v.item ≡ [] → look ≡ v.look → bit_at look 1 ≡ 0 → new ≡ bit_and look RESTING
      → g.given ≡ length v.taken → g.own ≡ v.own → g.answers ≡ v.answers → g.how ≡ None → told g.subscriber ≡ greeted v.taken
      → Allows (CellRule told cap) n id (v, (v.capacity, Held.Guest g) ∷ more) (place cap Word.Control) (λ (m : ℕ). either (m == look) new m) (IsRest replied look (v, (v.capacity, Held.Guest g) ∷ more))
  rests replied cap n id v g more look new is out may none_out look_is quiet new_is given_is own_is answers_are how_is told_is s c wide at small =
      exchanged (slice_index s.words (place cap Word.Control)) look new (Outcome told replied cap s c id v g more look at is out may none_out look_is small)
      (hit told replied cap s c id v g more look at is out may none_out look_is small new new_is quiet given_is own_is answers_are how_is told_is)
      (missed told replied cap s c id v g more look at is out may none_out look_is small)
