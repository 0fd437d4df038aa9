-- What holds of a session between two commands.
use Rattle.std.proofs.Common.{◌≡◌, ℕ, ◌<◌, true, false, None, Some, List, [], ◌∷◌, map, refl, sym, ap, subst, ◌∙◌, arith}
use Rattle.std.proofs.lemmas.List.Elements.{All-nil}
use Rattle.std.specs.Prelude.{slice_get}
use Rattle.flow_rules.specs.Capacity.{IsCapacityOf, capacity_of}
use Rattle.flow_rules.proofs.Sizes.{least_power, same_capacity}
use Rattle.feed_core.specs.Feed.{end_of}
use Rattle.feed_core.specs.LaneCalls.{IsCapacity}
use Rattle.publisher_hub.specs.Entry.{entry_of}
use Rattle.publisher_hub.specs.Hub.{HubState, hub_at_start, hub_of}
use Rattle.publisher_hub.specs.Sound.{IsSound}
use Rattle.publisher_hub.specs.declared.entry.Entry.{Entry}
use Rattle.publisher_hub.specs.declared.hub.Hub.{Hub}
use Rattle.lines_demo.specs.Prelude.{AfterItems, DeskState}
use Rattle.lines_demo.specs.Script.Kept.{IsKept, IsReachable}
use Rattle.lines_demo.specs.Script.Session.{IsScriptHub, IsSession, state_of, subscription_of}
use Rattle.lines_demo.specs.Script.State.{SessionState, beginning_at_start, state_at_start}
use Rattle.lines_demo.specs.Script.Obeying.{begun_state, late_state, state_at_command}
use Rattle.commands.specs.declared.command.Command.{Command}
use Rattle.commands.specs.declared.command.Command.TheVariants.{Cap, Late, Sub, Offer, Retry, Submit, Request, Cancel, Close, Fail, Run}
use Rattle.lines_demo.specs.declared.script.session.TheConstants.{DEFAULT_CAPACITY}
use Rattle.lines_demo.specs.declared.script.session.beginning.Beginning.{Beginning}

-- where a script starts, with another capacity and beginning
abbrev pub start_with : ℕ → ℕ → Beginning → SessionState
start_with stock capacity beginning = record (state_at_start stock) { capacity = capacity; beginning = beginning }

start_with_reached : (stock capacity : ℕ) (beginning : Beginning) → IsReachable (start_with stock capacity beginning)
start_with_reached stock capacity beginning = ((λ serial. []), record { subscriptions = All-nil (IsKept (λ serial. []) 0 beginning.order None); none_yet = λ unread. refl; woken = λ number. refl; few = omega arith; names = λ name. omega arith })

-- the default capacity is enforced as it is
default_least : IsCapacityOf DEFAULT_CAPACITY DEFAULT_CAPACITY
default_least = least_power 256 256 (8, refl) (omega arith) (omega arith) (omega arith)

default_same : DEFAULT_CAPACITY ≡ capacity_of DEFAULT_CAPACITY
default_same = same_capacity 256 256 default_least (omega arith)

-- if nothing is there, nothing was mapped
none_mapped : {A C : Type 0} (f : A → C) (xs : List A) → map f xs ≡ [] → xs ≡ []
none_mapped f [] none = refl
none_mapped f (x ∷ xs) none = cc

module _ (hub : Hub DeskState) (capacity : ℕ) (at_start : hub_of end_of hub ≡ hub_at_start capacity 0) where
  no_entries : hub.entries.items ≡ []
  no_entries = none_mapped (entry_of end_of) hub.entries.items (ap (λ (h : HubState). h.entries) at_start)

  -- a new publisher stands where a script starts
  pub state_of_new : (stock : ℕ) (beginning : Beginning) → state_of hub stock [] beginning ≡ start_with stock capacity beginning
  state_of_new stock beginning =
      let see : HubState → List (Entry DeskState) → SessionState = λ h entries. record {
        capacity = h.progress.capacity;
        beginning = beginning;
        closing = h.progress.ending;
        serial = h.progress.next;
        stock = stock;
        subscriptions = map subscription_of entries;
        woken = [];
      } in
      ap (λ h. see h hub.entries.items) at_start ∙ ap (see (hub_at_start capacity 0)) no_entries

  -- a session of a new publisher
  pub session_of_new : (stock : ℕ) (beginning : Beginning) → IsSound (hub_of end_of hub) → IsCapacity capacity
      → IsSession hub stock [] beginning
  session_of_new stock beginning sound sized = record {
    publisher = record {
      sound = sound;
      sized = subst IsCapacity (sym (ap (λ (h : HubState). h.progress.capacity) at_start)) sized;
      entries = λ k entry at. (let none = sym (ap (λ (entries : List (Entry DeskState)). slice_get entries k) no_entries) ∙ at in cc);
      numbered = ap (λ (h : HubState). slice_get h.progress.counts 0) at_start ∙ ap Some (sym (ap (λ (h : HubState). h.progress.next) at_start));
    };
    reached = subst IsReachable (sym (state_of_new stock beginning)) (start_with_reached stock capacity beginning);
    fresh = λ begun. state_of_new stock beginning ∙ ap (λ n. start_with stock n beginning) (sym (ap (λ (h : HubState). h.progress.capacity) at_start));
  }

-- a new publisher of the default capacity
pub session_of_default : (hub : Hub DeskState) (stock : ℕ) → hub_of end_of hub ≡ hub_at_start (capacity_of DEFAULT_CAPACITY) 0
    → IsSound (hub_of end_of hub) → IsSession hub stock [] beginning_at_start
session_of_default hub stock at_start sound =
    session_of_new hub (capacity_of DEFAULT_CAPACITY) at_start stock beginning_at_start sound (subst IsCapacity default_same (256, omega arith, default_least))

pub state_of_default : (hub : Hub DeskState) (stock : ℕ) → hub_of end_of hub ≡ hub_at_start (capacity_of DEFAULT_CAPACITY) 0
    → state_of hub stock [] beginning_at_start ≡ state_at_start stock
state_of_default hub stock at_start = state_of_new hub (capacity_of DEFAULT_CAPACITY) at_start stock beginning_at_start ∙ ap (λ n. start_with stock n beginning_at_start) (sym default_same)

-- another capacity
module _ (hub new : Hub DeskState) (stock asked : ℕ) (woken : List ℕ) (beginning : Beginning) (is : IsSession hub stock woken beginning) (fresh : beginning.is_over ≡ false)
    (at_start : hub_of end_of new ≡ hub_at_start (capacity_of asked) 0) where
  nobody : woken ≡ []
  nobody = ap (λ (s : SessionState). s.woken) (is.fresh fresh)

  pub session_resized : IsSound (hub_of end_of new) → 0 < asked → IsCapacityOf asked (capacity_of asked)
      → IsSession new stock woken beginning
  session_resized sound some least = rw nobody (session_of_new new (capacity_of asked) at_start stock beginning sound (asked, some, least))

  pub state_resized : state_of new stock woken beginning ≡ record (state_of hub stock woken beginning) { capacity = capacity_of asked }
  state_resized =
      let size : SessionState → SessionState = λ s. record s { capacity = capacity_of asked } in
      rw nobody (state_of_new new (capacity_of asked) at_start stock beginning) ∙ sym (ap size (is.fresh fresh))

-- errors that wait for the items
pub session_late : (hub : Hub DeskState) (stock : ℕ) (woken : List ℕ) (beginning : Beginning) → IsSession hub stock woken beginning
    → beginning.is_over ≡ false
    → IsSession hub stock woken (record beginning { order = AfterItems })
session_late hub stock woken beginning is fresh =
    let late : SessionState → SessionState = late_state in
    let same : state_of hub stock woken (record beginning { order = AfterItems }) ≡ start_with stock hub.capacity (record beginning { order = AfterItems }) = ap late (is.fresh fresh) in
    record {
      publisher = is.publisher;
      reached = subst IsReachable (sym same) (start_with_reached stock hub.capacity (record beginning { order = AfterItems }));
      fresh = λ unread. same;
    }

-- a command other than `cap` and `late` was read
pub session_begun : (hub : Hub DeskState) (stock : ℕ) (woken : List ℕ) (beginning : Beginning) → IsSession hub stock woken beginning
    → IsSession hub stock woken (record beginning { is_over = true })
session_begun hub stock woken beginning is = record {
  publisher = is.publisher;
  reached = (is.reached.0, record { subscriptions = is.reached.1.subscriptions; none_yet = λ never. cc; woken = is.reached.1.woken; few = is.reached.1.few; names = is.reached.1.names });
  fresh = λ never. cc;
}

-- any command but `cap` and `late` ends the beginning
pub begun_by : (command : Command) (state : SessionState) → ((capacity : ℕ) → command ≡ Cap capacity → ⊥) → (command ≡ Late → ⊥)
    → begun_state state ≡ state_at_command command state
begun_by (Cap capacity) state other another = absurd (other capacity refl)
begun_by Late state other another = absurd (another refl)
begun_by (Sub name number) state other another = refl
begun_by (Offer text) state other another = refl
begun_by (Retry text) state other another = refl
begun_by (Submit text) state other another = refl
begun_by (Request name number) state other another = refl
begun_by (Cancel name) state other another = refl
begun_by Close state other another = refl
begun_by (Fail code) state other another = refl
begun_by Run state other another = refl

-- a session that stands where a script may stand, after its beginning
pub session_at : (hub : Hub DeskState) (stock : ℕ) (woken : List ℕ) (beginning : Beginning) (state : SessionState) → IsScriptHub hub
    → state_of hub stock woken beginning ≡ state → IsReachable state → beginning.is_over ≡ true → IsSession hub stock woken beginning
session_at hub stock woken beginning state publisher is reached read = record {
  publisher = publisher;
  reached = subst IsReachable (sym is) reached;
  fresh = λ unread. (let never : true ≡ false = sym read ∙ unread in cc);
}
