-- What an event and a step of a seat count: rests, rests that were tried in vain, and tasks that were handed over.
use Rattle.std.proofs.Common.{◌≡◌, ℕ, zero, suc, ◌+◌, Bool, true, false, List, [], ◌∷◌, ◌++◌, set, refl, sym, ap, ◌∙◌, subst, inl, inr, arith}
use mathlib.Core.Option.{some, some-injective, some-ne-none}
use lib.ListN.{get_elem?}
use Rattle.feed_core.specs.Prelude.{How}
use Rattle.feed_core.specs.World.Table.{is_started, is_over, started}
use Rattle.feed_core.specs.World.Runs.{WorldState, Steps, Leads}
use Rattle.feed_core.proofs.Interleavings.Signalling.{started_by}
use Rattle.feed_cell.specs.Types.{Event, Runner, Nobody, Coming, Fresh, Ready, Looked, Saw, Measured, Taken, Over}
use Rattle.feed_cell.specs.Outlooks.{one_rest, rest_between, miss_between, hand_between, count_in, count_along, shown_count, HasPart}
use Rattle.feed_cell.specs.declared.cell.View.{View}

-- nothing is counted, and an end stays
pub record Stays (r later : Runner) : Type 0 where
  pub none_rested : rest_between r later ≡ 0
  pub none_missed : miss_between r later ≡ 0
  pub none_handed : hand_between r later ≡ 0
  pub over : (how : How) → r ≡ Over how → later ≡ Over how

none_where : (b : Bool) → one_rest b b ≡ 0
none_where true = refl
none_where false = refl

pub none_on : (b : Bool) → one_rest b true ≡ 0
none_on true = refl
none_on false = refl

-- no rest was tried in vain, and no task handed over, if the task is not ready afterwards
pub unmissed : (r later : Runner) → (later ≡ Ready → ⊥) → miss_between r later ≡ 0
unmissed Nobody later never = refl
unmissed Coming later never = refl
unmissed Fresh later never = refl
unmissed Ready later never = refl
unmissed (Looked c) later never = refl
unmissed (Saw c t) later never = refl
unmissed (Measured c t a) Nobody never = refl
unmissed (Measured c t a) Coming never = refl
unmissed (Measured c t a) Fresh never = refl
unmissed (Measured c t a) Ready never = absurd (never refl)
unmissed (Measured c t a) (Looked d) never = refl
unmissed (Measured c t a) (Saw d u) never = refl
unmissed (Measured c t a) (Measured d u b) never = refl
unmissed (Measured c t a) Taken never = refl
unmissed (Measured c t a) (Over how) never = refl
unmissed Taken later never = refl
unmissed (Over how) later never = refl

pub unhanded : (r later : Runner) → (later ≡ Ready → ⊥) → hand_between r later ≡ 0
unhanded Nobody later never = refl
unhanded Coming Nobody never = refl
unhanded Coming Coming never = refl
unhanded Coming Fresh never = refl
unhanded Coming Ready never = absurd (never refl)
unhanded Coming (Looked d) never = refl
unhanded Coming (Saw d u) never = refl
unhanded Coming (Measured d u b) never = refl
unhanded Coming Taken never = refl
unhanded Coming (Over how) never = refl
unhanded Fresh later never = refl
unhanded Ready later never = refl
unhanded (Looked c) later never = refl
unhanded (Saw c t) later never = refl
unhanded (Measured c t a) later never = refl
unhanded Taken later never = refl
unhanded (Over how) later never = refl

unmissed_same : (r : Runner) → miss_between r r ≡ 0
unmissed_same Nobody = refl
unmissed_same Coming = refl
unmissed_same Fresh = refl
unmissed_same Ready = refl
unmissed_same (Looked c) = refl
unmissed_same (Saw c t) = refl
unmissed_same (Measured c t a) = refl
unmissed_same Taken = refl
unmissed_same (Over how) = refl

unhanded_same : (r : Runner) → hand_between r r ≡ 0
unhanded_same Nobody = refl
unhanded_same Coming = refl
unhanded_same Fresh = refl
unhanded_same Ready = refl
unhanded_same (Looked c) = refl
unhanded_same (Saw c t) = refl
unhanded_same (Measured c t a) = refl
unhanded_same Taken = refl
unhanded_same (Over how) = refl

pub stays_same : (r : Runner) → Stays r r
stays_same r = record { none_rested = none_where (is_started r); none_missed = unmissed_same r; none_handed = unhanded_same r; over = λ how e. e }

pub stays_started : (r : Runner) → Stays r (started r)
stays_started r = started_by Stays r
    (record { none_rested = refl; none_missed = refl; none_handed = refl; over = λ how e. (let clash : false ≡ true = ap is_over e in cc) })
    (λ _. stays_same r)

-- of a task that goes on, and is not ready then
pub stays_on : (r later : Runner) → is_over r ≡ false → is_started later ≡ true → (later ≡ Ready → ⊥) → Stays r later
stays_on r later unended on never = record {
  none_rested = ap (one_rest (is_started r)) on ∙ none_on (is_started r);
  none_missed = unmissed r later never;
  none_handed = unhanded r later never;
  over = λ how e. (let clash : true ≡ false = sym (ap is_over e) ∙ unended in cc);
}

-- a seat with no part
pub has_none : (v : View) → v.puts ≡ false → v.asks ≡ false → v.runs ≡ false → HasPart v → ⊥
has_none v puts asks runs (inl e) = let clash : true ≡ false = sym e ∙ puts in cc
has_none v puts asks runs (inr (inl e)) = let clash : true ≡ false = sym e ∙ asks in cc
has_none v puts asks runs (inr (inr e)) = let clash : true ≡ false = sym e ∙ runs in cc

-- one seat makes a step
pub shown_count-set : (count : View → ℕ) (views : List View) (id : ℕ) (v new : View) → get_elem? views id ≡ some v
    → shown_count count (set views id new) + count v ≡ shown_count count views + count new
shown_count-set count [] id v new at = absurd (some-ne-none v (sym at))
shown_count-set count (x ∷ views) zero v new at = let same : count x ≡ count v = ap count (some-injective x v at) in omega arith
shown_count-set count (x ∷ views) (suc id) v new at = let later = shown_count-set count views id v new at in omega arith

-- a seat comes
pub shown_count-append : (count : View → ℕ) (views : List View) (new : View)
    → shown_count count (views ++ new ∷ []) ≡ shown_count count views + count new
shown_count-append count [] new = omega arith
shown_count-append count (x ∷ views) new = let later = shown_count-append count views new in omega arith

-- one event more, and what it counts
pub leads_more : (old : WorldState) (events : List Event) (event : Event) (between new : WorldState) (leads : Leads old events between)
    → Steps event between new
    → (more : Leads old (events ++ event ∷ []) new)
    × ((one : Runner → Runner → ℕ) → count_along one old (events ++ event ∷ []) new more ≡ count_along one old events between leads + count_in one between.parts new.parts)
leads_more old [] event between new e step = (
  (new, subst (λ (w : WorldState). Steps event w new) e step, refl),
  λ one. (let same : count_in one between.parts new.parts ≡ count_in one old.parts new.parts = ap (λ (w : WorldState). count_in one w.parts new.parts) e in omega arith),
)
leads_more old (first ∷ events) event between new leads step =
    let more = leads_more leads.0 events event between new leads.2 step in
    ((leads.0, leads.1, more.0), λ one. (let counted = more.1 one in omega arith))
