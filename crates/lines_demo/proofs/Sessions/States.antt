-- Where a script stands with its publisher, part by part.
use Rattle.std.proofs.Common.{◌≡◌, ℕ, ◌+◌, ◌≤◌, false, Option, None, Some, List, ◌++◌, length, map, refl, sym, ap, subst, ◌∙◌, arith}
use Rattle.std.specs.Prelude.{All, is_some, option_map, slice_get}
use Rattle.std.proofs.lemmas.Option.{slice_get-get_or, slice_get-map, slice_get_within}
use Rattle.std.proofs.lemmas.List.{length-append, length-map}
use Rattle.publisher_hub.specs.declared.hub.Hub.{Hub}
use Rattle.publisher_hub.specs.declared.work.Work.{Work}
use Rattle.lines_demo.specs.Prelude.{DeskState}
use Rattle.lines_demo.specs.Script.Session.{numbers_of, state_of, subscription_of}
use Rattle.lines_demo.specs.Script.Kept.{IsReachable}
use Rattle.lines_demo.specs.Script.State.{SessionState}
use Rattle.lines_demo.specs.Script.Subscribing.{USUAL_LIVE}
use Rattle.lines_demo.proofs.Woken.Few.{few_woken}
use Rattle.lines_demo.proofs.Scripts.Laws.{reached_few, reached_wakes}
use Rattle.lines_demo.specs.declared.script.session.beginning.Beginning.{Beginning}

-- it stands so if each part is so
pub state_of_is : (hub : Hub DeskState) (stock : ℕ) (woken : List ℕ) (beginning : Beginning) (state : SessionState)
    → hub.capacity ≡ state.capacity → beginning ≡ state.beginning → hub.ending ≡ state.closing
    → hub.next ≡ state.serial → stock ≡ state.stock → map subscription_of hub.entries.items ≡ state.subscriptions → woken ≡ state.woken → state_of hub stock woken beginning ≡ state
state_of_is hub stock woken beginning state capacity beginning_is closing serial stocked subscriptions woken_is = λ i. record {
  capacity = capacity i;
  beginning = beginning_is i;
  closing = closing i;
  serial = serial i;
  stock = stocked i;
  subscriptions = subscriptions i;
  woken = woken_is i;
}

-- what holds of all elements holds of the one at this place
pub all_at : {A : Type 0} (P : A → Type 0) (xs : List A) (k : ℕ) (x : A) → All P xs → slice_get xs k ≡ Some x → P x
all_at {A = A} P xs k x all at = subst P (value (sym (slice_get-get_or xs k x (slice_get_within xs k x at)) ∙ at)) (all k x (slice_get_within xs k x at)) where
  value : {a b : A} → Some a ≡ Some b → a ≡ b
  value e = cc

-- what holds of all that a script sees holds of what it sees of the one at this place
pub all_seen_at : {A C : Type 0} (P : C → Type 0) (see : A → C) (xs : List A) (k : ℕ) (x : A) → All P (map see xs)
    → slice_get xs k ≡ Some x → P (see x)
all_seen_at P see xs k x all at = all_at P (map see xs) k (see x) all (slice_get-map see xs k ∙ ap (option_map see) at)

-- no value is there
pub no_value : {A : Type 0} (value : Option A) → is_some value ≡ false → value ≡ None
no_value None none = refl
no_value (Some x) none = cc

-- whom a call starts has room among the woken
pub room_for : (state : SessionState) (woken : List ℕ) (due : List (Work Unit)) → IsReachable state
    → woken ++ numbers_of due ≡ state.woken → length woken + length due ≤ USUAL_LIVE
room_for state woken due is same =
    let few = few_woken state (reached_wakes state is) in
    let live = reached_few state is in
    let both = ap length same in
    let parts = length-append woken (numbers_of due) in
    let many = length-map due (λ (work : Work Unit). work.entry) in
    omega arith
