-- What became of the task, by the seats that ran it, after each step.
use Rattle.std.proofs.Common.{◌≡◌, ℕ, zero, suc, ◌+◌, true, false, None, List, [], ◌∷◌, ◌++◌, set, refl, sym, ap, ◌∙◌, subst, inl, ⊎_elim, arith, ◌≤◌, ◌<◌}
use mathlib.Core.Option.{some, some-injective, some-ne-none}
use lib.ListN.{get_elem?}
use Rattle.atomic_table.proofs.Lists.{at_set}
use Rattle.feed_core.specs.LaneCalls.{IsCapacity}
use Rattle.feed_core.specs.Prelude.{ErrorOrder, How}
use Rattle.feed_core.specs.declared.turn.outlook.Outlook.TheVariants.{Again, Resting, Ended}
use Rattle.feed_core.specs.World.Table.{is_started, is_over, IsPossible, after}
use Rattle.feed_core.specs.World.Runs.{nothing, world_of, made, cut_after}
use Rattle.feed_core.specs.World.Kept.{IsKeptParts}
use Rattle.feed_core.specs.World.Lawful.{IsLawful}
use Rattle.feed_core.proofs.Interleavings.Reaching as Reaching
use Rattle.feed_cell.proofs.Table.Lists.{at_end, set_same}
use Rattle.feed_cell.proofs.Table.Tallies.{Stays, stays_same, none_on, unmissed, unhanded, shown_count-set, shown_count-append, leads_more}
use Rattle.feed_cell.specs.Outlooks.{one_rest, rest_between, miss_between, hand_between, rest_in, rest_of, misses_of, starts_of, shown_count, HasPart, IsReachedBy}
use Rattle.feed_cell.specs.Types.{Event, Make, Put, PutMore, Rest, End, HasRoom, HasPut, Runner, Coming, Ready, Over, Parts}
use Rattle.feed_cell.specs.Views.{first_view}
use Rattle.feed_cell.specs.declared.cell.View.{View}

-- at first
pub reached_made : (n : ℕ) (order : ErrorOrder) → IsCapacity n → IsReachedBy (first_view n order ∷ []) (made n order)
reached_made n order sized = record { events = Make n order ∷ []; cut = None; leads = (world_of (made n order) None, inl (sized, refl), refl); rests = refl; misses = refl; hands = refl; ends = none_ends; goes = all_go }
  where
    none_ends : (j : ℕ) (d : View) (how : How) → get_elem? (first_view n order ∷ []) j ≡ some d → d.outlook ≡ Ended how
        → (made n order).runner ≡ Over how
    none_ends zero d how at shows = let clash : Again ≡ Ended how = ap (λ (v : View). v.outlook) (some-injective (first_view n order) d at) ∙ shows in cc
    none_ends (suc j) d how at shows = absurd (some-ne-none d (sym at))

    all_go : (j : ℕ) (d : View) → get_elem? (first_view n order ∷ []) j ≡ some d → HasPart d → d.outlook ≡ Again
    all_go zero d at part = ap (λ (v : View). v.outlook) (some-injective d (first_view n order) (sym at))
    all_go (suc j) d at part = absurd (some-ne-none d (sym at))

-- a seat shows what it showed before
abbrev pub ShowsSame : View → View → Type 0
ShowsSame v new = (new.outlook ≡ v.outlook) × (new.misses ≡ v.misses) × (new.started ≡ v.started)

-- an event, which is the step of a seat with a part
reached_step : (event : Event) {w : Parts} {views : List View} (id : ℕ) (v new : View) → IsReachedBy views w → IsPossible event w
    → get_elem? views id ≡ some v → HasPart v
    → rest_between w.runner (after event w).runner ≡ rest_of new → new.misses ≡ v.misses + miss_between w.runner (after event w).runner → new.started ≡ v.started + hand_between w.runner (after event w).runner
    → ((how : How) → new.outlook ≡ Ended how → (after event w).runner ≡ Over how)
    → ((how : How) → w.runner ≡ Over how → (after event w).runner ≡ Over how) → (HasPart new → new.outlook ≡ Again) → IsReachedBy (set views id new) (after event w)
reached_step event {w} {views} id v new r may at part rested missed handed ended over goes =
    let more = leads_more nothing r.events event (world_of w r.cut) (world_of (after event w) (cut_after event w r.cut)) r.leads (inl (may, refl)) in
    let went : rest_of v ≡ 0 = ap rest_in (r.goes id v at part) in
    let before = r.rests in
    let counted = more.1 rest_between in
    let later = shown_count-set rest_of views id v new at in
    let missed_before = r.misses in
    let missed_more = more.1 miss_between in
    let missed_later = shown_count-set misses_of views id v new at in
    let handed_before = r.hands in
    let handed_more = more.1 hand_between in
    let handed_later = shown_count-set starts_of views id v new at in
    record {
      events = r.events ++ event ∷ [];
      cut = cut_after event w r.cut;
      leads = more.0;
      rests = omega arith;
      misses = omega arith;
      hands = omega arith;
      ends = λ j d how there shows. ⊎_elim
          (λ here. ended how (ap (λ (x : View). x.outlook) here.1 ∙ shows))
          (λ else. over how (r.ends j d how else.1 shows))
          (at_set views id j new d there);
      goes = λ j d there has. ⊎_elim
          (λ here. subst (λ (x : View). HasPart x → x.outlook ≡ Again) here.1 goes has)
          (λ else. r.goes j d else.1 has)
          (at_set views id j new d there);
    }

-- a step after which nobody shows what nobody showed before
pub reached_more : (event : Event) {w : Parts} {views : List View} (id : ℕ) (v new : View) → IsReachedBy views w → IsPossible event w
    → get_elem? views id ≡ some v → HasPart v
    → ShowsSame v new → Stays w.runner (after event w).runner → IsReachedBy (set views id new) (after event w)
reached_more event {w} id v new r may at part same stays =
    let goes : new.outlook ≡ Again = same.0 ∙ r.goes id v at part in
    let missed = stays.none_missed in
    let handed = stays.none_handed in
    let kept = same.1 in
    let still = same.2 in
    reached_step event id v new r may at part (stays.none_rested ∙ sym (ap rest_in goes)) (omega arith) (omega arith) (λ how shows. (let clash : Again ≡ Ended how = sym goes ∙ shows in cc)) stays.over (λ _. goes)

-- the task comes to rest, and its seat shows it
pub reached_rest : {w : Parts} {views : List View} (id : ℕ) (v new : View) → IsReachedBy views w → IsPossible Rest w
    → get_elem? views id ≡ some v → HasPart v
    → new.outlook ≡ Resting → new.misses ≡ v.misses → new.started ≡ v.started → (HasPart new → ⊥) → is_started w.runner ≡ true → is_over w.runner ≡ false → is_started (after Rest w).runner ≡ false → IsReachedBy (set views id new) (after Rest w)
reached_rest {w} id v new r may at part shown kept still none on unended off =
    let missed = unmissed w.runner (after Rest w).runner (λ e. (let clash : true ≡ false = sym (ap is_started e) ∙ off in cc)) in
    let handed = unhanded w.runner (after Rest w).runner (λ e. (let clash : true ≡ false = sym (ap is_started e) ∙ off in cc)) in
    reached_step Rest id v new r may at part (ap (λ b. one_rest b (is_started (after Rest w).runner)) on ∙ ap (one_rest true) off ∙ sym (ap rest_in shown)) (omega arith) (omega arith)
    (λ how shows. (let clash : Resting ≡ Ended how = sym shown ∙ shows in cc)) (λ how e. (let clash : true ≡ false = sym (ap is_over e) ∙ unended in cc)) (λ has. absurd (none has))

-- the task tries to rest and can't, and its seat shows it
pub reached_miss : {w : Parts} {views : List View} (id : ℕ) (v new : View) → IsReachedBy views w → IsPossible Rest w
    → get_elem? views id ≡ some v → HasPart v
    → new.outlook ≡ v.outlook → new.misses ≡ v.misses + 1 → new.started ≡ v.started → is_over w.runner ≡ false → is_started (after Rest w).runner ≡ true → miss_between w.runner (after Rest w).runner ≡ 1
    → hand_between w.runner (after Rest w).runner ≡ 0 → IsReachedBy (set views id new) (after Rest w)
reached_miss {w} id v new r may at part same more still unended on missed handed =
    let goes : new.outlook ≡ Again = same ∙ r.goes id v at part in
    reached_step Rest id v new r may at part (ap (one_rest (is_started w.runner)) on ∙ none_on (is_started w.runner) ∙ sym (ap rest_in goes)) (omega arith) (omega arith)
    (λ how shows. (let clash : Again ≡ Ended how = sym goes ∙ shows in cc)) (λ how e. (let clash : true ≡ false = sym (ap is_over e) ∙ unended in cc)) (λ _. goes)

-- a side hands the task over that its signal has started, and shows it
pub reached_hand : (event : Event) {w : Parts} {views : List View} (id : ℕ) (v new : View) → IsReachedBy views w → IsPossible event w
    → get_elem? views id ≡ some v → HasPart v
    → new.outlook ≡ v.outlook → new.misses ≡ v.misses → new.started ≡ v.started + 1 → w.runner ≡ Coming → (after event w).runner ≡ Ready → IsReachedBy (set views id new) (after event w)
reached_hand event {w} id v new r may at part same kept more coming ready =
    let goes : new.outlook ≡ Again = same ∙ r.goes id v at part in
    let rested : rest_between w.runner (after event w).runner ≡ 0 = ap (λ (s : Runner). rest_between s (after event w).runner) coming ∙ ap (rest_between Coming) ready in
    let missed : miss_between w.runner (after event w).runner ≡ 0 = ap (λ (s : Runner). miss_between s (after event w).runner) coming in
    let handed : hand_between w.runner (after event w).runner ≡ 1 = ap (λ (s : Runner). hand_between s (after event w).runner) coming ∙ ap (hand_between Coming) ready in
    reached_step event id v new r may at part (rested ∙ sym (ap rest_in goes)) (omega arith) (omega arith)
    (λ how shows. (let clash : Again ≡ Ended how = sym goes ∙ shows in cc)) (λ how e. (let clash : Coming ≡ Over how = sym coming ∙ e in cc)) (λ _. goes)

-- the task ends the subscription, and its seat shows it
pub reached_end : (how : How) {w : Parts} {views : List View} (id : ℕ) (v new : View) → IsReachedBy views w → IsPossible (End how) w
    → get_elem? views id ≡ some v → HasPart v
    → new.outlook ≡ Ended how → new.misses ≡ v.misses → new.started ≡ v.started → (HasPart new → ⊥) → is_over w.runner ≡ false → IsReachedBy (set views id new) (after (End how) w)
reached_end how {w} id v new r may at part shown kept still none unended =
    let missed = unmissed w.runner (Over how) (λ e. cc) in
    let handed = unhanded w.runner (Over how) (λ e. cc) in
    reached_step (End how) id v new r may at part (none_on (is_started w.runner) ∙ sym (ap rest_in shown)) (omega arith) (omega arith)
    (λ other shows. (let same : Ended how ≡ Ended other = sym shown ∙ shows in same_end how other same)) (λ other e. (let clash : true ≡ false = sym (ap is_over e) ∙ unended in cc)) (λ has. absurd (none has))
  where
    same_end : (a b : How) → Ended a ≡ Ended b → Over a ≡ Over b
    same_end a b e = cc

-- the same events, and other seats that show as much
reached_by : {w : Parts} {views later : List View} → IsReachedBy views w → shown_count rest_of later ≡ shown_count rest_of views
    → shown_count misses_of later ≡ shown_count misses_of views → shown_count starts_of later ≡ shown_count starts_of views
    → ((j : ℕ) (d : View) (how : How) → get_elem? later j ≡ some d → d.outlook ≡ Ended how → w.runner ≡ Over how)
    → ((j : ℕ) (d : View) → get_elem? later j ≡ some d → HasPart d → d.outlook ≡ Again) → IsReachedBy later w
reached_by r same missed handed ends goes = record { events = r.events; cut = r.cut; leads = r.leads; rests = r.rests ∙ sym same; misses = r.misses ∙ sym missed; hands = r.hands ∙ sym handed; ends = ends; goes = goes }

-- a seat that goes on shows no end
goes_unended : {C : Type 0} (new d : View) (how : How) → new.outlook ≡ Again → new ≡ d → d.outlook ≡ Ended how → C
goes_unended new d how goes same shows = let clash : Again ≡ Ended how = sym goes ∙ ap (λ (x : View). x.outlook) same ∙ shows in cc

-- a step that is no event
pub reached_too : {w : Parts} {views : List View} (id : ℕ) (v new : View) → IsReachedBy views w → get_elem? views id ≡ some v → HasPart v
    → ShowsSame v new → IsReachedBy (set views id new) w
reached_too {w} {views} id v new r at part same =
    let goes : new.outlook ≡ Again = same.0 ∙ r.goes id v at part in
    let later = shown_count-set rest_of views id v new at in
    let quiet : rest_of new ≡ rest_of v = ap rest_in same.0 in
    let missed = shown_count-set misses_of views id v new at in
    let kept = same.1 in
    let handed = shown_count-set starts_of views id v new at in
    let still = same.2 in
    reached_by r (omega arith) (omega arith) (omega arith)
    (λ j d how there shows. ⊎_elim (λ here. goes_unended new d how goes here.1 shows) (λ else. r.ends j d how else.1 shows) (at_set views id j new d there))
    (λ j d there has. ⊎_elim (λ here. sym (ap (λ (x : View). x.outlook) here.1) ∙ goes) (λ else. r.goes j d else.1 has) (at_set views id j new d there))

-- an event that no seat shows
reached_unshown : (event : Event) {w : Parts} {views : List View} (id : ℕ) (v : View) → IsReachedBy views w → IsPossible event w
    → get_elem? views id ≡ some v → HasPart v → Stays w.runner (after event w).runner → IsReachedBy views (after event w)
reached_unshown event {w} {views} id v r may at part stays =
    subst (λ (l : List View). IsReachedBy l (after event w)) (set_same views id v at) (reached_more event id v v r may at part (refl, refl, refl) stays)

-- what there is after this many items were put
abbrev pub with_put : ℕ → Parts → Parts
with_put n w = record w { accepted = w.accepted + n; producer = HasPut }

-- one store of tail by several more is a put, and as many more as are left
puts_unshown : (m : ℕ) {w : Parts} {views : List View} (id : ℕ) (v : View) → IsReachedBy views w → w.producer ≡ HasRoom → w.causes.closing ≡ None
    → w.given ≤ w.accepted → w.accepted + m < w.given + w.capacity → get_elem? views id ≡ some v → HasPart v → IsReachedBy views (with_put (m + 1) w)
puts_unshown zero {w} id v r room open_now below within at part = reached_unshown Put id v r (room, open_now) at part (stays_same w.runner)
puts_unshown (suc m) {w} {views} id v r room open_now below within at part =
    let before = puts_unshown m id v r room open_now below (omega arith) at part in
    subst (λ (n : ℕ). IsReachedBy views (record w { accepted = n; producer = HasPut })) (omega arith)
    (reached_unshown PutMore id v before (refl, open_now, omega arith) at part (stays_same w.runner))

pub reached_puts : (m : ℕ) {w : Parts} {views : List View} (id : ℕ) (v new : View) → IsReachedBy views w → w.producer ≡ HasRoom
    → w.causes.closing ≡ None → w.accepted + m < w.given + w.capacity → get_elem? views id ≡ some v → HasPart v → ShowsSame v new
    → IsReachedBy (set views id new) (with_put (m + 1) w)
reached_puts m id v new r room open_now within at part same =
    reached_too id v new (puts_unshown m id v r room open_now (Reaching.reached_kept (record { events = r.events; cut = r.cut; leads = r.leads })).taken within at part) at part same

-- a seat takes in what another shows, and that shows nothing any more
pub reached_joined : {w : Parts} {views : List View} (id from : ℕ) (v both h spent : View) → IsReachedBy views w
    → get_elem? views id ≡ some v → HasPart v → get_elem? (set views id both) from ≡ some h → h.outlook ≡ Again
    → both.outlook ≡ v.outlook → both.misses ≡ v.misses + h.misses → both.started ≡ v.started + h.started → spent.outlook ≡ Again → spent.misses ≡ 0 → spent.started ≡ 0 → IsReachedBy (set (set views id both) from spent) w
reached_joined {w} {views} id from v both h spent r at part there quiet same sum all off empty none =
    let goes : both.outlook ≡ Again = same ∙ r.goes id v at part in
    let first = shown_count-set rest_of views id v both at in
    let second = shown_count-set rest_of (set views id both) from h spent there in
    let alike : rest_of both ≡ rest_of v = ap rest_in same in
    let nothing_there : rest_of h ≡ 0 = ap rest_in quiet in
    let nothing : rest_of spent ≡ 0 = ap rest_in off in
    let missed = shown_count-set misses_of views id v both at in
    let missed_later = shown_count-set misses_of (set views id both) from h spent there in
    let handed = shown_count-set starts_of views id v both at in
    let handed_later = shown_count-set starts_of (set views id both) from h spent there in
    reached_by r (omega arith) (omega arith) (omega arith)
    (λ j d how there shows. ⊎_elim (λ gone. goes_unended spent d how off gone.1 shows) (λ else. ⊎_elim (λ here. goes_unended both d how goes here.1 shows) (λ old. r.ends j d how old.1 shows) (at_set views id j both d else.1)) (at_set (set views id both) from j spent d there))
    (λ j d there has. ⊎_elim (λ gone. sym (ap (λ (x : View). x.outlook) gone.1) ∙ off) (λ else. ⊎_elim (λ here. sym (ap (λ (x : View). x.outlook) here.1) ∙ goes) (λ old. r.goes j d old.1 has) (at_set views id j both d else.1)) (at_set (set views id both) from j spent d there))

-- a seat comes
pub reached_with : {w : Parts} {views : List View} (new : View) → IsReachedBy views w → new.outlook ≡ Again → new.misses ≡ 0
    → new.started ≡ 0 → IsReachedBy (views ++ new ∷ []) w
reached_with {w} {views} new r goes none_missed none_started =
    let later = shown_count-append rest_of views new in
    let none : rest_of new ≡ 0 = ap rest_in goes in
    let missed = shown_count-append misses_of views new in
    let handed = shown_count-append starts_of views new in
    reached_by r (omega arith) (omega arith) (omega arith)
    (λ j d how there shows. ⊎_elim (λ old. r.ends j d how old shows) (λ here. goes_unended new d how goes here.1 shows) (at_end views new d j there))
    (λ j d there has. ⊎_elim (λ old. r.goes j d old has) (λ here. sym (ap (λ (x : View). x.outlook) here.1) ∙ goes) (at_end views new d j there))

-- what follows of any list of events
pub reached_kept : {w : Parts} {views : List View} → IsReachedBy views w → IsKeptParts w
reached_kept r = Reaching.reached_kept (record { events = r.events; cut = r.cut; leads = r.leads })

pub reached_lawful : {w : Parts} {views : List View} → IsReachedBy views w → IsLawful w
reached_lawful r = Reaching.reached_lawful (record { events = r.events; cut = r.cut; leads = r.leads })
