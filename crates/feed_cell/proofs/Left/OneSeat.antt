-- The producer's seat takes in the handle's.
use Rattle.std.proofs.Common.{◌≡◌, ◌⊎◌, ℕ, true, false, Bool, List, set, sym, refl, ◌∙◌, subst, ⊎_elim, inl, inr}
use mathlib.Core.Option.{some}
use lib.ListN.{get_elem?}
use Rattle.atomic_table.proofs.Lists.{at_set}
use Rattle.atomic_table.specs.Table.{Me, Joins}
use Rattle.feed_core.specs.Prelude.{Signal}
use Rattle.feed_cell.proofs.Table.Outlooks.{reached_joined}
use Rattle.feed_cell.proofs.Table.Seats.{lacks, mine, other}
use Rattle.feed_cell.specs.Cell.{Only, CellRule}
use Rattle.feed_cell.specs.Views.{has_put, has_ask, has_run, with_asking, no_part}
use Rattle.feed_cell.specs.declared.cell.View.{View}

-- of a seat that took in another if φ holds: what it had and has still, and what it has if it did
module _ {S φ : Type 0} (v : Me S View) (w : View) (me : Me S View) (joined : (φ × (me ≡ (with_asking v.0 w, v.1))) ⊎ ((¬ φ) × (me ≡ v))) (P : View → Type 0) where
  pub still : P v.0 → P (with_asking v.0 w) → P me.0
  still before after = ⊎_elim (λ here. subst (λ (m : Me S View). P m.0) (sym here.1) after) (λ else. subst (λ (m : Me S View). P m.0) (sym else.1) before) joined

  pub in_it : φ → P (with_asking v.0 w) → P me.0
  in_it same after = ⊎_elim (λ here. subst (λ (m : Me S View). P m.0) (sym here.1) after) (λ else. absurd (else.0 same)) joined

-- a part goes from one seat to another
taken_in : (part : View → Bool) (seat : ℕ) (Knows Later : View → Type 0) (views : List View) (id from : ℕ) (both w spent : View)
    → Only part seat Knows views → get_elem? views from ≡ some w → part w ≡ true
    → part spent ≡ false → (Knows w → Later both) → Only part id Later (set (set views id both) from spent)
taken_in part seat Knows Later views id from both w spent only at has without later j d there part_of = ⊎_elim
    (λ gone. lacks part spent d without gone.1 part_of)
    (λ else. ⊎_elim
    (λ here. (here.0, subst Later here.1 (later (only from w at has).1)))
    (λ old. absurd (else.0 ((only j d old.1 part_of).0 ∙ sym (only from w at has).0)))
    (at_set views id j both d else.1))
    (at_set (set views id both) from j spent d there)

module _ {B : Type 0} (told : B → List Signal) where
  pub gathers : (cap id from : ℕ) (v w : View) → v.puts ≡ true → v.runs ≡ false → w.asks ≡ true
      → Joins (CellRule told cap) id v from w (with_asking v w) no_part
  gathers cap id from v w puts runs asks s c at apart later =
      let p = (c.producers id v at puts).1 in
      let was : get_elem? s.views from ≡ some w = ⊎_elim (λ here. absurd (apart here.0)) (λ else. else.1) (at_set s.views id from (with_asking v w) w later) in
      let asked = (c.handles from w was asks).1 in
      record {
        cell = record c.cell { handle = id };
        reached = reached_joined id from v (with_asking v w) w no_part c.reached at (inl puts) later (c.reached.goes from w was (inr (inl asks))) refl refl refl refl refl refl;
        lists = c.lists;
        shows = c.shows;
        reads = c.reads;
        words = c.words;
        lies = c.lies;
        lodges = c.lodges;
        producers = other has_put c.cell.producer _ _ (set s.views id (with_asking v w)) from no_part
            (mine has_put c.cell.producer _ _ s.views id v (with_asking v w) c.producers at puts (record { sized = p.sized; ordered = asked.ordered; put = p.put; seen = p.seen; laid = p.laid; places = p.places; over = p.over; closed = p.closed; doubled = p.doubled; stands = p.stands }))
            refl (λ d k. k);
        handles = taken_in has_ask c.cell.handle _ _ s.views id from (with_asking v w) w no_part c.handles was asks refl
            (λ h. record { sized = p.sized; ordered = h.ordered; total = h.total; cancels = h.cancels; bad = h.bad; leaves = h.leaves; stands = h.stands });
        runners = other has_run c.cell.runner _ _ (set s.views id (with_asking v w)) from no_part (other has_run c.cell.runner _ _ s.views id (with_asking v w) c.runners runs (λ d k. k)) refl (λ d k. k);
      }
