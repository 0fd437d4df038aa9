-- The turn of the first of the woken, as a session makes it.
use Rattle.std.proofs.Common.{◌≡◌, ℕ, ◌<◌, ◌≤◌, true, false, List, [], ◌∷◌, ◌++◌, length, get_or, refl, sym, ap, subst, ◌∙◌, arith, Option, Some, None}
use Rattle.std.specs.Prelude.{slice_get, option_to_list, IfNone, IsSome, count_by}
use Rattle.std.proofs.lemmas.Option.{slice_get-get_or}
use Rattle.feed_core.specs.Turn.{is_again}
use Rattle.lines_demo.specs.Prelude.{Signal, Outlook}
use Rattle.lines_demo.specs.Script.Kept.{IsLawful, IsReachable}
use Rattle.lines_demo.specs.Script.Laws.{places_of}
use Rattle.lines_demo.specs.Script.Playing.{MakesTurn}
use Rattle.lines_demo.specs.Script.State.{SubscriptionState, SessionState, LineResult}
use Rattle.lines_demo.specs.Script.Subscribing.{USUAL_LIVE}
use Rattle.lines_demo.specs.Script.Waking.{is_live, has_woken, owes_turn}
use Rattle.lines_demo.proofs.Woken.Few.{few_woken, owes_within}
use Rattle.lines_demo.proofs.Kept.Turns.{first_turn_lawful, woken_owes}
use Rattle.lines_demo.proofs.Scripts.Turns.{makes_known}

-- somebody is taken off the list if anybody is woken
pub somebody : (first : Option ℕ) (woken : List ℕ) → has_woken woken ≡ true → IfNone first (woken ≡ []) → IsSome first
somebody (Some number) woken some none = refl
somebody None woken some none = let never : false ≡ true = sym (ap has_woken none) ∙ some in cc

-- who was taken off was the first
pub first_of : (first : Option ℕ) (number : ℕ) (woken rest : List ℕ) → woken ≡ option_to_list first ++ rest → first ≡ Some number
    → woken ≡ number ∷ rest
first_of first number woken rest parts is = parts ∙ ap (λ o. option_to_list o ++ rest) is

-- the first of the woken owes a turn
pub first_owes : (state : SessionState) (number : ℕ) (rest : List ℕ) → IsReachable state → state.woken ≡ number ∷ rest
    → owes_turn state.subscriptions number ≡ true
first_owes state number rest is woken = woken_owes state.subscriptions number rest (ap (places_of number) (sym woken) ∙ is.1.woken number)

-- it is there
pub first_within : (state : SessionState) (number : ℕ) (rest : List ℕ) → IsReachable state → state.woken ≡ number ∷ rest
    → number < length state.subscriptions
first_within state number rest is woken = owes_within state.subscriptions number (first_owes state number rest is woken)

pub first_stands : (state : SessionState) (number : ℕ) (rest : List ℕ) (s : SubscriptionState) → IsReachable state
    → state.woken ≡ number ∷ rest → s ≡ get_or state.subscriptions number s
    → slice_get state.subscriptions number ≡ Some s
first_stands state number rest s is woken here = slice_get-get_or state.subscriptions number s (first_within state number rest is woken) ∙ ap Some (sym here)

-- there is room for it to be woken again
pub room_again : (state : SessionState) (number : ℕ) (rest : List ℕ) → IsReachable state → state.woken ≡ number ∷ rest
    → length rest < USUAL_LIVE
room_again state number rest is woken =
    let few = few_woken state is.1.woken in
    let live : count_by is_live state.subscriptions ≤ USUAL_LIVE = is.1.few in
    let long : length state.woken ≡ length (number ∷ rest) = ap length woken in
    omega (arith, long)

-- its turn leaves a script where it may stand
pub turn_reached : (old new : SessionState) (name : List ℕ) (told : List Signal) (outlook : Outlook) → IsReachable old
    → MakesTurn old new name told outlook → IsReachable new
turn_reached old new name told outlook is makes =
    let known = makes_known old new name told outlook makes in
    let state_of : LineResult → SessionState = λ result. result.state in
    (is.0, subst (IsLawful is.0) (ap state_of (known.so [])) (first_turn_lawful is.0 old (known.used ++ []) is.1))

-- an outlook other than Again
pub not_again : (outlook : Outlook) → (outlook ≡ Outlook.Again → ⊥) → is_again outlook ≡ false
not_again Outlook.Again other = absurd (other refl)
not_again Outlook.Resting other = refl
not_again (Outlook.Ended how) other = refl
