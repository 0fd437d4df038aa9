-- What each command does, by the definition, under the refusals that the code met.
use Rattle.std.proofs.Common.{◌≡◌, ◌==◌, ℕ, zero, suc, ◌<◌, ◌≤◌, Bool, true, false, nat_lt, List, [], ◌∷◌, ◌++◌, length, refl, ap, subst, arith, Option, Some, None}
use Rattle.std.specs.Prelude.{is_some}
use Rattle.std.proofs.lemmas.Bool.Decides.{nat_tests}
use Rattle.lines_demo.specs.Prelude.{Item, Ending, Refusal, LONGEST_TEXT, capacity_of}
use Rattle.lines_demo.specs.Script.Kept.{IsReachable}
use Rattle.lines_demo.specs.Script.Obeying.{act_result, cap_result, late_state, late_result, closing_result, is_known, state_after_closing, subscriptions_after_act}
use Rattle.lines_demo.specs.Script.Playing.{Replies}
use Rattle.lines_demo.specs.Script.Publishing.{next_item, publication_result, state_after_publication}
use Rattle.lines_demo.specs.Script.State.{SubscriptionState, SessionState, CommandResult}
use Rattle.lines_demo.specs.Script.Subscribing.{is_subscribed, sub_result, state_after_duplicate, state_after_subscribing, subscribing_refusal}
use Rattle.lines_demo.specs.Script.Waking.{with_subscriptions}
use Rattle.commands.specs.declared.reply.Reply.{Reply}
use Rattle.lines_demo.specs.declared.script.session.acting.Act.{Act}
use Rattle.commands.specs.declared.reply.Reply.TheVariants.{Capacity, Done, Name, Refused, Ordered}

-- a number that is not 0 is above it
pub above_0 : (n : ℕ) → (n ≡ 0 → ⊥) → 0 < n
above_0 zero other = absurd (other refl)
above_0 (suc n) other = omega arith

-- what a reply leaves is where a script may stand, if each result of the command is
pub replies_reached : (results : List Bool → CommandResult) (reply : Reply) (state : SessionState) → Replies results reply state
    → ((refusals : List Bool) → IsReachable (results refusals).state) → IsReachable state
replies_reached results reply state replies reached =
    let state_of : CommandResult → SessionState = λ result. result.state in
    subst IsReachable (ap state_of (replies.replies [])) (reached (replies.used ++ []))

-- ---- `cap`

pub cap_late : (state : SessionState) (asked : ℕ) → state.beginning.is_over ≡ true
    → Replies (λ refusals. cap_result state refusals asked) (Refused Refusal.BadCommand) state
cap_late state asked begun = record { used = []; replies = λ more. rw begun refl }

-- errors may wait for the items only until then
pub late_over : (state : SessionState) → state.beginning.is_over ≡ true
    → Replies (λ refusals. late_result state refusals) (Refused Refusal.BadCommand) state
late_over state begun = record { used = []; replies = λ more. rw begun refl }

pub late_done : (state : SessionState) → state.beginning.is_over ≡ false
    → Replies (λ refusals. late_result state refusals) Ordered (late_state state)
late_done state fresh = record { used = []; replies = λ more. rw fresh refl }

pub cap_zero : (state : SessionState) (asked : ℕ) → state.beginning.is_over ≡ false → asked ≡ 0
    → Replies (λ refusals. cap_result state refusals asked) (Refused Refusal.BadCapacity) state
cap_zero state asked fresh none = record { used = []; replies = λ more. rw (fresh, none) refl }

pub cap_no_memory : (state : SessionState) (asked : ℕ) → state.beginning.is_over ≡ false → 0 < asked
    → Replies (λ refusals. cap_result state refusals asked) (Refused Refusal.NoMemory) state
cap_no_memory state asked fresh some =
    let test : (asked == 0) ≡ false = grind (arith, nat_tests) in
    record { used = true ∷ []; replies = λ more. rw (fresh, test) refl }

pub cap_done : (state : SessionState) (asked : ℕ) → state.beginning.is_over ≡ false → 0 < asked
    → Replies (λ refusals. cap_result state refusals asked) (Capacity (capacity_of asked)) (record state { capacity = capacity_of asked })
cap_done state asked fresh some =
    let test : (asked == 0) ≡ false = grind (arith, nat_tests) in
    record { used = false ∷ []; replies = λ more. rw (fresh, test) refl }

-- ---- `sub`

-- memory is refused for whom the call may wake, or, by then unseen, for the place of the new one
pub sub_no_memory : (state : SessionState) (name : List ℕ) (number : ℕ)
    → Replies (λ refusals. sub_result state refusals name number) (Refused Refusal.NoMemory) state
sub_no_memory state name number = record { used = true ∷ []; replies = λ more. refl }

-- a live subscription has the name, and gets its error
pub sub_duplicate : (state : SessionState) (name : List ℕ) (number : ℕ) → is_subscribed name state.subscriptions ≡ true
    → Replies (λ refusals. sub_result state refusals name number) (Refused Refusal.Duplicate) (state_after_duplicate name state)
sub_duplicate state name number live = record { used = false ∷ []; replies = λ more. rw live refl }

-- nobody may subscribe
pub sub_against : (state : SessionState) (name : List ℕ) (number : ℕ) (refusal : Refusal) → is_subscribed name state.subscriptions ≡ false
    → subscribing_refusal state ≡ Some refusal
    → Replies (λ refusals. sub_result state refusals name number) (Refused refusal) state
sub_against state name number refusal free why = record { used = false ∷ []; replies = λ more. rw (free, why) refl }

-- memory is refused for the buffer
pub sub_no_buffer : (state : SessionState) (name : List ℕ) (number : ℕ) → is_subscribed name state.subscriptions ≡ false
    → subscribing_refusal state ≡ None
    → Replies (λ refusals. sub_result state refusals name number) (Refused Refusal.NoMemory) state
sub_no_buffer state name number free allowed = record { used = false ∷ true ∷ []; replies = λ more. rw (free, allowed) refl }

-- the next subscriber of the stock subscribes
pub sub_done : (state : SessionState) (name : List ℕ) (number : ℕ) → is_subscribed name state.subscriptions ≡ false
    → subscribing_refusal state ≡ None
    → Replies (λ refusals. sub_result state refusals name number) (Name name) (state_after_subscribing name number state)
sub_done state name number free allowed = record { used = false ∷ false ∷ []; replies = λ more. rw (free, allowed) refl }

-- ---- publications

-- a text that is too long
pub publication_long : (refusal_of : SessionState → Option Refusal) (reply : Item → List SubscriptionState → Reply) (state : SessionState) (text : List ℕ) → LONGEST_TEXT < length text
    → Replies (λ refusals. publication_result refusal_of reply state refusals text) (Refused Refusal.LineTooLong) state
publication_long refusal_of reply state text long =
    let test : nat_lt LONGEST_TEXT (length text) ≡ true = grind (arith, nat_tests) in
    record { used = []; replies = λ more. rw test refl }

-- memory is refused for the item, its shares, or whom it may wake
pub publication_no_memory : (refusal_of : SessionState → Option Refusal) (reply : Item → List SubscriptionState → Reply) (state : SessionState) (text : List ℕ) → length text ≤ LONGEST_TEXT
    → Replies (λ refusals. publication_result refusal_of reply state refusals text) (Refused Refusal.NoMemory) state
publication_no_memory refusal_of reply state text short =
    let test : nat_lt LONGEST_TEXT (length text) ≡ false = grind (arith, nat_tests) in
    record { used = true ∷ []; replies = λ more. rw test refl }

-- it may not be published
pub publication_against : (refusal_of : SessionState → Option Refusal) (reply : Item → List SubscriptionState → Reply) (state : SessionState) (text : List ℕ) (refusal : Refusal) → length text ≤ LONGEST_TEXT
    → refusal_of state ≡ Some refusal → Replies (λ refusals. publication_result refusal_of reply state refusals text) (Refused refusal) state
publication_against refusal_of reply state text refusal short why =
    let test : nat_lt LONGEST_TEXT (length text) ≡ false = grind (arith, nat_tests) in
    record { used = false ∷ []; replies = λ more. rw (test, why) refl }

-- it is published
pub publication_done : (refusal_of : SessionState → Option Refusal) (reply : Item → List SubscriptionState → Reply) (state : SessionState) (text : List ℕ) → length text ≤ LONGEST_TEXT → refusal_of state ≡ None
    → Replies (λ refusals. publication_result refusal_of reply state refusals text) (reply (next_item state text) state.subscriptions) (state_after_publication text state)
publication_done refusal_of reply state text short nothing =
    let test : nat_lt LONGEST_TEXT (length text) ≡ false = grind (arith, nat_tests) in
    record { used = false ∷ []; replies = λ more. rw (test, nothing) refl }

-- ---- acts and closings

pub act_unknown : (state : SessionState) (name : List ℕ) (act : Act) → is_known name state.subscriptions ≡ false
    → Replies (λ refusals. act_result state refusals name act) (Refused Refusal.Unknown) state
act_unknown state name act unknown = record { used = []; replies = λ more. rw unknown refl }

pub act_done : (state : SessionState) (name : List ℕ) (act : Act) → is_known name state.subscriptions ≡ true
    → Replies (λ refusals. act_result state refusals name act) Done (with_subscriptions (subscriptions_after_act name act state.subscriptions) state)
act_done state name act known = record { used = []; replies = λ more. rw known refl }

pub closing_again : (ending : Ending) (state : SessionState) → is_some state.closing ≡ true
    → Replies (λ refusals. closing_result ending state refusals) Done state
closing_again ending state closed = record { used = []; replies = λ more. rw closed refl }

pub closing_no_memory : (ending : Ending) (state : SessionState) → is_some state.closing ≡ false
    → Replies (λ refusals. closing_result ending state refusals) (Refused Refusal.NoMemory) state
closing_no_memory ending state unclosed = record { used = true ∷ []; replies = λ more. rw unclosed refl }

pub closing_done : (ending : Ending) (state : SessionState) → is_some state.closing ≡ false
    → Replies (λ refusals. closing_result ending state refusals) Done (state_after_closing ending state)
closing_done ending state unclosed = record { used = false ∷ []; replies = λ more. rw unclosed refl }
