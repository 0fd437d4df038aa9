-- The task's looks and peeks at control.
use Rattle.std.proofs.Common.{◌≡◌, ℕ, zero, suc, pos, negsuc, ◌+◌, ◌≤◌, Bool, true, false, List, [], ◌∷◌, length, slice_index, set, bit_and, sym, refl, ap, ap₂, ◌∙◌, subst, inl, inr, arith, ◌++◌}
use mathlib.Core.Option as slot
use mathlib.Core.Option.{some, none}
use lib.ListN.{get_elem?}
use Rattle.atomic_table.specs.Table.{State, Act, keeps, takes, Valid, stepped, carried_after, Allows}
use Rattle.feed_core.specs.Prelude.{Answer, ErrorOrder, Item, Signal, UNBOUNDED, total_after}
use Rattle.feed_core.specs.World.Table.{MayLook, IsPossible, total_of, answered, after}
use Rattle.feed_cell.specs.Types.{Causes, Event, Look, Peek, Runner, Ready, Looked, Parts}
use Rattle.feed_cell.proofs.Table.Outlooks.{reached_more, reached_kept}
use Rattle.feed_cell.proofs.Table.Places.{lies_guest}
use Rattle.feed_cell.proofs.Words.ControlWord.{reads_look, or_true}
use Rattle.feed_cell.proofs.Table.Seats.{mine, other}
use Rattle.feed_cell.proofs.Tasks.Stages.{seated}
use Rattle.feed_cell.proofs.Table.Tallies.{Stays, stays_on}
use Rattle.feed_cell.specs.Cell.{Lies, CellRule, AsProducer, AsRunner, LodgesAt, may_hold, words_by}
use Rattle.feed_cell.specs.Control.{Flags, Reads, causes_of, marked, QUIET}
use Rattle.feed_cell.specs.Outlooks.{IsReachedBy}
use Rattle.feed_cell.specs.Seats.{SeatOf}
use Rattle.feed_cell.specs.TaskPlays.{after_causes, cleared, untouched, LooksOut, PeeksFirst}
use Rattle.feed_core.specs.Answered.{own_after}
use Rattle.feed_cell.specs.TaskAnswers.{answers_after}
use Rattle.feed_cell.specs.Views.{IsRunner, has_put, has_ask, has_run}
use Rattle.feed_cell.specs.declared.cell.Held.{Held}
use Rattle.feed_cell.specs.declared.cell.Lodger.{Lodger}
use Rattle.feed_cell.specs.declared.cell.View.{View}
use Rattle.feed_cell.specs.WordPlaces.{place}
use Rattle.feed_cell.specs.declared.cell.words.Word.{Word}
use Rattle.feed_cell.proofs.Words.FourWords.{control_at, control_stored}

-- what there is after a look or a peek, by what the answers brought about
abbrev pub looked_with : Bool → ℕ → Causes → Parts → Parts
looked_with active own causes p = record p { own = own; causes = causes; active = active; runner = Looked causes }

effect : (answer : Answer) (active : Bool) (p : Parts) (f : Flags) (answers : Causes) → p.causes ≡ causes_of f answers
    → record (answered answer p) { active = active; runner = Looked (answered answer p).causes } ≡ looked_with active (own_after answer p.own) (causes_of f (answers_after answer answers)) p
effect Answer.Go active p f answers e = ap (λ z. looked_with active p.own z p) e
effect Answer.Cancel active p f answers e = ap (λ z. looked_with active p.own z p) e
effect (Answer.Fail code) active p f answers e = ap (λ z. looked_with active p.own z p) e
effect (Answer.Request (pos (suc n))) active p f answers e = ap (λ z. looked_with active (total_after p.own (suc n)) z p) e
effect (Answer.Request (pos zero)) active p f answers e = ap (λ z. looked_with active p.own z p) (ap (λ (z : Causes). record z { argument = true }) e ∙ ap (λ b. record (causes_of f answers) { argument = b }) (sym (or_true f.argument)))
effect (Answer.Request (negsuc n)) active p f answers e = ap (λ z. looked_with active p.own z p) (ap (λ (z : Causes). record z { argument = true }) e ∙ ap (λ b. record (causes_of f answers) { argument = b }) (sym (or_true f.argument)))

-- no answer is a signal
answered_active : (answer : Answer) (p : Parts) → (answered answer p).active ≡ p.active
answered_active Answer.Go p = refl
answered_active Answer.Cancel p = refl
answered_active (Answer.Fail code) p = refl
answered_active (Answer.Request (pos (suc n))) p = refl
answered_active (Answer.Request (pos zero)) p = refl
answered_active (Answer.Request (negsuc n)) p = refl

look_effect : (answer : Answer) (p : Parts) (f : Flags) (answers : Causes) → p.causes ≡ causes_of f answers
    → after (Look answer) p ≡ looked_with false (own_after answer p.own) (causes_of f (answers_after answer answers)) p
look_effect answer p f answers e = effect answer false p f answers e

peek_effect : (answer : Answer) (p : Parts) (f : Flags) (answers : Causes) → p.causes ≡ causes_of f answers
    → after (Peek answer) p ≡ looked_with p.active (own_after answer p.own) (causes_of f (answers_after answer answers)) p
peek_effect answer p f answers e = effect answer (answered answer p).active p f answers e ∙ ap (λ (b : Bool). looked_with b (own_after answer p.own) (causes_of f (answers_after answer answers)) p) (answered_active answer p)

-- no answer changes the order of errors
answered_order : (answer : Answer) (answers : Causes) → (answers_after answer answers).order ≡ answers.order
answered_order Answer.Go answers = refl
answered_order Answer.Cancel answers = refl
answered_order (Answer.Fail code) answers = refl
answered_order (Answer.Request (pos (suc n))) answers = refl
answered_order (Answer.Request (pos zero)) answers = refl
answered_order (Answer.Request (negsuc n)) answers = refl

module _ {B : Type 0} (told : B → List Signal) (cap : ℕ) where
  -- the rule after a look or a peek that left this word, with its subscriber or for the first time
  look_kept : (s : State (Held B) View) (c : CellRule told cap s) (id : ℕ) (v w : View) (active : Bool) (word own : ℕ) (answers : Causes) (homes : List (slot.Option (Held B))) → c.cell.answers.order ≡ answers.order → get_elem? s.views id ≡ some v → IsRunner v → has_put w ≡ false → has_ask w ≡ false
      → c.cell.item ≡ [] → Reads word (record c.cell.flags { active = active }) → IsReachedBy (set s.views id w) (looked_with active own (causes_of c.cell.flags answers) c.cell.world) → Lies cap (c.cell.log ++ c.cell.beyond.placed) (length c.cell.taken) (length c.cell.taken + length c.cell.item) c.cell.beyond.free homes
      → AsRunner cap (Looked (causes_of c.cell.flags answers)) active word true c.cell.taken c.cell.item own answers c.cell.world.known_put c.cell.world.known_asked w
      → CellRule told cap (record { words = set s.words (place cap Word.Control) word; homes = homes; views = set s.views id w })
  look_kept s c id v w active word own answers homes same_order at is puts asks none_out reads reached lies knows =
      let p = c.cell.world in
      let k = (c.runners id v at is.2).1 in
      let seat = seated p.runner k.seated in
      record {
        cell = record c.cell {
          world = looked_with active own (causes_of c.cell.flags answers) p;
          control = word;
          flags = record c.cell.flags { active = active };
          answers = answers;
          away = true;
        };
        reached = reached;
        lists = c.lists;
        shows = record { sized = c.shows.sized; accepted = c.shows.accepted; given = c.shows.given; none_out = λ _. none_out; started = c.shows.started ∙ seat.runs; new = refl; causes = refl; home = λ e. cc; settled = c.shows.settled };
        reads = reads;
        words = control_stored _ _ _ _ _ _ c.words word ∙ ap (λ b. words_by cap (marked b p.given) p.accepted (marked c.cell.left p.asked) word) seat.over;
        lies = lies;
        lodges = λ e. cc;
        producers = other has_put c.cell.producer _ _ s.views id w c.producers puts (λ d o. subst (λ (order : ErrorOrder). AsProducer cap order c.cell.log p.given c.cell.beyond false c.cell.flags.closing c.cell.flags.state p.producer d) same_order (subst (λ b. AsProducer cap c.cell.answers.order c.cell.log p.given c.cell.beyond b c.cell.flags.closing c.cell.flags.state p.producer d) seat.over o));
        handles = other has_ask c.cell.handle _ _ s.views id w c.handles asks
            (λ d h. record { sized = h.sized; ordered = h.ordered ∙ same_order; total = h.total; cancels = h.cancels; bad = h.bad; leaves = h.leaves; stands = h.stands });
        runners = mine has_run c.cell.runner _ _ s.views id v w c.runners at is.2 knows;
      }

-- no more than the bound of demand was taken
few_taken : {B : Type 0} (told : B → List Signal) (cap : ℕ) (s : State (Held B) View) (c : CellRule told cap s) {taken : List Item}
    → taken ≡ c.cell.taken → length taken ≤ UNBOUNDED
few_taken told cap s c same =
    let kept = reached_kept c.reached in
    let requested : c.cell.world.given ≤ total_of c.cell.world = kept.requested in
    let given : c.cell.world.given ≡ length c.cell.taken = c.shows.given in
    let equal = ap length same in
    omega arith

-- what is found in control
control_found : {B : Type 0} {told : B → List Signal} {cap : ℕ} {s : State (Held B) View} (c : CellRule told cap s)
    → Reads (slice_index s.words (place cap Word.Control)) c.cell.flags
control_found c = subst (λ (m : ℕ). Reads m c.cell.flags) (sym (control_at _ _ _ _ _ _ c.words)) c.reads

module _ {B : Type 0} (told : B → List Signal) where
  -- a look or a peek with the subscriber
  looks_by : (cap id : ℕ) (v : View) (i : ℕ) (g : Lodger B) (more : List (ℕ × Held B)) (answer : Answer) (event : Event) (active : Bool) (left_of : ℕ → ℕ) → IsRunner v → v.away ≡ true → v.item ≡ [] → g.own ≡ own_after answer v.own → g.answers ≡ answers_after answer v.answers
      → (s : State (Held B) View) (c : CellRule told cap s) → get_elem? s.views id ≡ some v → IsPossible event c.cell.world → after event c.cell.world ≡ looked_with active (own_after answer c.cell.world.own) (causes_of c.cell.flags (answers_after answer c.cell.answers)) c.cell.world
      → Reads (left_of (slice_index s.words (place cap Word.Control))) (record c.cell.flags { active = active })
      → (w : View) × (a : Act (Held B)) × Valid s.homes ((i, Held.Guest g) ∷ more) a × CellRule told cap (stepped s (place cap Word.Control) (left_of (slice_index s.words (place cap Word.Control))) id ((i, Held.Guest g) ∷ more) w a) × LooksOut left_of (v, (i, Held.Guest g) ∷ more) (slice_index s.words (place cap Word.Control)) (w, carried_after ((i, Held.Guest g) ∷ more) a)
  looks_by cap id v i g more answer event active left_of is out none_out own_is answers_are s c at here effect reads =
      let k = (c.runners id v at is.2).1 in
      let p = c.cell.world in
      let know = k.knows (sym k.out ∙ out) in
      let own_there : own_after answer p.own ≡ g.own = ap (own_after answer) (sym know.own_is) ∙ sym own_is in
      let answers_there : answers_after answer c.cell.answers ≡ g.answers = ap (answers_after answer) (sym know.answers_are) ∙ sym answers_are in
      let word : ℕ = left_of (slice_index s.words (place cap Word.Control)) in
      let same_order : c.cell.answers.order ≡ g.answers.order = sym (answered_order answer c.cell.answers) ∙ ap (λ (z : Causes). z.order) answers_there in
      let w : View = after_causes v word c.cell.flags g.own g.answers v.taken in
      let there : after event p ≡ looked_with active g.own (causes_of c.cell.flags g.answers) p = effect ∙ ap₂ (λ (a : ℕ) (b : Causes). looked_with active a (causes_of c.cell.flags b) p) own_there answers_there in
      let stays : Stays p.runner (after event p).runner = subst (λ (q : Parts). Stays p.runner q.runner) (sym there) (stays_on p.runner (Looked (causes_of c.cell.flags g.answers)) (seated p.runner k.seated).over refl (λ e. cc)) in
      let reached : IsReachedBy (set s.views id w) (looked_with active g.own (causes_of c.cell.flags g.answers) p) =
      subst (IsReachedBy (set s.views id w)) there (reached_more event id v w c.reached here at (inr (inr is.2)) (refl, refl, refl) stays) in (
        w,
        keeps,
        tt,
        look_kept told cap s c id v w active word g.own g.answers s.homes same_order at is is.0 is.1 (sym k.item_is ∙ none_out) reads reached c.lies
            (record { sized = k.sized; ordered = k.ordered ∙ same_order; seated = refl; stands = refl; out = refl; knows = λ _. record { taken_is = know.taken_is; own_is = refl; answers_are = refl }; fresh = λ e. cc; item_is = k.item_is; latest = λ _ _. refl; saw_put = k.saw_put; saw_asked = k.saw_asked }),
        record { flags = record c.cell.flags { active = active }; reads = reads; started = c.shows.started ∙ (seated p.runner k.seated).runs; few = few_taken told cap s c know.taken_is; ordered = sym (k.ordered ∙ same_order); looked = refl },
      )

  pub looks : (cap n id : ℕ) (v : View) (i : ℕ) (g : Lodger B) (more : List (ℕ × Held B)) (answer : Answer) → IsRunner v → v.away ≡ true
      → v.item ≡ [] → MayLook answer v.runner → g.own ≡ own_after answer v.own → g.answers ≡ answers_after answer v.answers
      → Allows (CellRule told cap) n id (v, (i, Held.Guest g) ∷ more) (place cap Word.Control) (λ n. bit_and n QUIET) (LooksOut cleared (v, (i, Held.Guest g) ∷ more))
  looks cap n id v i g more answer is out none_out may own_is answers_are s c wide at small =
      let k = (c.runners id v at is.2).1 in
      looks_by cap id v i g more answer (Look answer) false cleared is out none_out own_is answers_are s c at (subst (MayLook answer) k.stands may) (look_effect answer c.cell.world c.cell.flags c.cell.answers c.shows.causes) (reads_look small (control_found c))

  pub peeks : (cap n id : ℕ) (v : View) (i : ℕ) (g : Lodger B) (more : List (ℕ × Held B)) (answer : Answer) → IsRunner v → v.away ≡ true
      → v.item ≡ [] → MayLook answer v.runner → g.own ≡ own_after answer v.own → g.answers ≡ answers_after answer v.answers
      → Allows (CellRule told cap) n id (v, (i, Held.Guest g) ∷ more) (place cap Word.Control) (λ n. n) (LooksOut untouched (v, (i, Held.Guest g) ∷ more))
  peeks cap n id v i g more answer is out none_out may own_is answers_are s c wide at small =
      let k = (c.runners id v at is.2).1 in
      let found : ℕ = slice_index s.words (place cap Word.Control) in
      looks_by cap id v i g more answer (Peek answer) c.cell.world.active untouched is out none_out own_is answers_are s c at (subst (MayLook answer) k.stands may) (peek_effect answer c.cell.world c.cell.flags c.cell.answers c.shows.causes)
      (subst (λ (b : Bool). Reads found (record c.cell.flags { active = b })) c.shows.new (control_found c))

  -- the first peek of a task that was handed over takes the subscriber's slot out
  pub peeks_first : (cap n id : ℕ) (me : SeatOf B) → IsRunner me.0 → me.0.away ≡ false → me.0.runner ≡ Ready
      → Allows (CellRule told cap) n id me (place cap Word.Control) (λ n. n) (PeeksFirst told me)
  peeks_first cap n id me is home ready s c wide at small =
      let v : View = me.0 in
      let k = (c.runners id v at is.2).1 in
      let p = c.cell.world in
      let inside : c.cell.away ≡ false = sym k.out ∙ home in
      let stage : p.runner ≡ Ready = sym k.stands ∙ ready in
      let lodge : LodgesAt told cap Ready c.cell.taken p.own c.cell.answers s.homes = subst (λ (r : Runner). LodgesAt told cap r c.cell.taken p.own c.cell.answers s.homes) stage (c.lodges inside) in
      let g = lodge.guest in
      let here : MayLook Answer.Go p.runner = inl (inl stage) in
      let none_out : c.cell.item ≡ [] = c.shows.none_out (ap may_hold stage) in
      let word : ℕ = slice_index s.words (place cap Word.Control) in
      let reads : Reads word (record c.cell.flags { active = p.active }) = subst (λ (b : Bool). Reads word (record c.cell.flags { active = b })) c.shows.new (control_found c) in
      let same_order : c.cell.answers.order ≡ g.answers.order = ap (λ (z : Causes). z.order) (sym lodge.answers_are) in
      let w : View = after_causes v word c.cell.flags g.own g.answers c.cell.taken in
      let reached : IsReachedBy (set s.views id w) (looked_with p.active g.own (causes_of c.cell.flags g.answers) p) =
      subst (IsReachedBy (set s.views id w)) (peek_effect Answer.Go p c.cell.flags c.cell.answers c.shows.causes ∙ ap₂ (λ (a : ℕ) (b : Causes). looked_with p.active a (causes_of c.cell.flags b) p) (sym lodge.own_is) (sym lodge.answers_are))
      (reached_more (Peek Answer.Go) id v w c.reached here at (inr (inr is.2)) (refl, refl, refl) (stays_on p.runner (after (Peek Answer.Go) p).runner (seated p.runner k.seated).over refl (λ e. cc))) in (
        w,
        takes v.capacity (Held.Guest g),
        ap (λ (j : ℕ). get_elem? s.homes j) k.sized ∙ lodge.at,
        look_kept told cap s c id v w p.active word g.own g.answers (set s.homes v.capacity none) same_order at is is.0 is.1 none_out reads reached
            (subst (λ (j : ℕ). Lies cap (c.cell.log ++ c.cell.beyond.placed) (length c.cell.taken) (length c.cell.taken + length c.cell.item) c.cell.beyond.free (set s.homes j none)) (sym k.sized)
            (lies_guest cap (c.cell.log ++ c.cell.beyond.placed) s.homes (length c.cell.taken) (length c.cell.taken + length c.cell.item) c.cell.beyond.free none c.lists.sized c.lies))
            (record { sized = k.sized; ordered = k.ordered ∙ same_order; seated = refl; stands = refl; out = refl; knows = λ _. record { taken_is = refl; own_is = refl; answers_are = refl }; fresh = λ e. cc; item_is = k.item_is; latest = λ _ _. refl; saw_put = k.saw_put; saw_asked = k.saw_asked }),
        record { flags = record c.cell.flags { active = p.active }; reads = reads; started = c.shows.started ∙ (seated p.runner k.seated).runs; guest = g; taken = c.cell.taken; told_is = lodge.told_is; given = lodge.given_is; how = lodge.how_is; few = few_taken told cap s c refl; ordered = sym (k.ordered ∙ same_order); looked = refl },
      )
