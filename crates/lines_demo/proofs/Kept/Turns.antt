-- Each turn of a `run` keeps what the subscriptions of a script keep, and that just those who owe a turn are woken.
use Rattle.std.proofs.Common.{◌≡◌, ◌==◌, ◌⊎◌, inl, inr, ℕ, zero, suc, ◌+◌, ◌<◌, Bool, true, false, ◌&&◌, if◌then◌else◌, List, [], ◌∷◌, ◌++◌, length, set, refl, sym, ap, subst, ◌∙◌, arith, Option, Some, None}
use Rattle.std.specs.Prelude.{is_none, slice_get}
use Rattle.std.proofs.lemmas.Bool.{cases_eq}
use Rattle.std.proofs.lemmas.List.{append-nil}
use Rattle.std.proofs.lemmas.List.Elements.{All-set}
use Rattle.std.proofs.lemmas.Option.{slice_get_within, get_or_from_slice_get}
use Rattle.feed_core.specs.Desk.{started_after}
use Rattle.feed_core.specs.PlainTurn.{plain_turn_of}
use Rattle.feed_core.specs.Turn.{MeetsPlainTurn, IsOutlookOf, how_after, is_again}
use Rattle.feed_core.proofs.Desks.Sound.{owes_live}
use Rattle.lines_demo.specs.Prelude.{Signal, How, Outlook, LaneState}
use Rattle.lines_demo.specs.Script.Kept.{IsKept, IsLawful, IsReachable}
use Rattle.lines_demo.specs.Script.State.{SubscriptionState, SessionState}
use Rattle.lines_demo.specs.Script.Turns.{parts_of_turn, outlook_where}
use Rattle.lines_demo.specs.Script.Waking.{owes_if_there, owes_turn}
use Rattle.lines_demo.specs.Script.Running.{subscription_after_turn, state_after_turn, turn_result, first_turn_result, turns_result, most_turns, run_turns}
use Rattle.lines_demo.specs.Script.Laws.{places_of, WakesWhoOwes}
use Rattle.lines_demo.proofs.Kept.Subscriptions.{kept_turn}
use Rattle.lines_demo.proofs.Kept.LiveSubscriptions.{live_after_turn}
use Rattle.lines_demo.proofs.Kept.OneName.{one_after_turn}
use Rattle.lines_demo.proofs.Woken.Lists.{bit, places_append, places_cons, same_test, other_test}

-- ---- what a turn tells

-- what was told and what was missed is what there was to tell
parts_whole : (refusals : List Bool) (signals : List Signal)
    → signals ≡ (parts_of_turn refusals signals).told ++ (parts_of_turn refusals signals).missed
parts_whole refusals [] = refl
parts_whole [] (signal ∷ signals) = ap (λ t. signal ∷ t) (parts_whole [] signals)
parts_whole (false ∷ refusals) (signal ∷ signals) = ap (λ t. signal ∷ t) (parts_whole refusals signals)
parts_whole (true ∷ refusals) (signal ∷ signals) = refl

-- the signals of a turn of this lane that are told, and its outlook
abbrev pub told_in : LaneState → List Bool → List Signal
told_in lane refusals = (parts_of_turn refusals (plain_turn_of lane).told).told

abbrev pub outlook_in : LaneState → List Bool → Outlook
outlook_in lane refusals = outlook_where (parts_of_turn refusals (plain_turn_of lane).told).missed (plain_turn_of lane).outlook

-- they meet the plain turn
pub turn_meets : (lane : LaneState) (refusals : List Bool)
    → MeetsPlainTurn (plain_turn_of lane) (told_in lane refusals) (outlook_in lane refusals)
turn_meets lane refusals =
    let parts = parts_of_turn refusals (plain_turn_of lane).told in
    record { missed = parts.missed; whole = parts_whole refusals (plain_turn_of lane).told; seen = seen parts.missed } where
      seen : (missed : List Signal) → IsOutlookOf (plain_turn_of lane) missed (outlook_where missed (plain_turn_of lane).outlook)
      seen [] = refl
      seen (_ ∷ _) = refl

-- a turn after which another is owed was told whole
pub told_whole : (lane : LaneState) (told missed : List Signal) (outlook : Outlook) → (plain_turn_of lane).told ≡ told ++ missed
    → IsOutlookOf (plain_turn_of lane) missed outlook → outlook ≡ Outlook.Again
    → ((plain_turn_of lane).told ≡ told) × ((plain_turn_of lane).outlook ≡ Outlook.Again)
told_whole lane told [] outlook whole seen again = (whole ∙ append-nil told, sym seen ∙ again)
told_whole lane told (next ∷ missed) outlook whole seen again = (let never : Outlook.Again ≡ Outlook.Ended How.OutOfMemory = sym again ∙ seen in cc)

-- ---- one place of a list

pub get_there : {X : Type 0} (xs : List X) (place : ℕ) (x : X) → place < length xs → slice_get (set xs place x) place ≡ Some x
get_there [] place x within = let low : place < 0 = within in absurd (omega arith)
get_there (first ∷ xs) zero x within = refl
get_there (first ∷ xs) (suc place) x within = get_there xs place x (omega arith)

get_elsewhere : {X : Type 0} (xs : List X) (place k : ℕ) (x : X) → (place ≡ k → ⊥) → slice_get (set xs place x) k ≡ slice_get xs k
get_elsewhere [] place k x other = refl
get_elsewhere (first ∷ xs) zero zero x other = absurd (other refl)
get_elsewhere (first ∷ xs) zero (suc k) x other = refl
get_elsewhere (first ∷ xs) (suc place) zero x other = refl
get_elsewhere (first ∷ xs) (suc place) (suc k) x other = get_elsewhere xs place k x (λ same. other (ap suc same))

-- ---- one turn

-- who is woken owes a turn
pub woken_owes : (subscriptions : List SubscriptionState) (number : ℕ) (rest : List ℕ)
    → places_of number (number ∷ rest) ≡ bit (owes_turn subscriptions number) → owes_turn subscriptions number ≡ true
woken_owes subscriptions number rest places = by (owes_turn subscriptions number) (sym (places_cons number number rest ∙ ap (λ b. bit b + places_of number rest) (same_test number number refl)) ∙ places) where
  by : (owed : Bool) → 1 + places_of number rest ≡ bit owed → owed ≡ true
  by true e = refl
  by false e = absurd (omega (arith, e))

-- after a turn it owes another if the outlook says so
owes_after : (outlook : Outlook) → (started_after outlook && is_none (how_after outlook)) ≡ is_again outlook
owes_after Outlook.Again = refl
owes_after Outlook.Resting = refl
owes_after (Outlook.Ended how) = refl

-- the places of a number in a list of one, or of none
places_again : (number k : ℕ) (again : Bool) → places_of k (if again then number ∷ [] else []) ≡ bit (again && (number == k))
places_again number k true = places_cons k number [] ∙ (omega arith)
places_again number k false = refl

-- the woken after a turn of the first of them are just those who owe a turn
woken_after : (number : ℕ) (rest : List ℕ) (s : SubscriptionState) (told : List Signal) (outlook : Outlook) (state : SessionState)
    → slice_get state.subscriptions number ≡ Some s
    → ((k : ℕ) → places_of k (number ∷ rest) ≡ bit (owes_turn state.subscriptions k)) → owes_turn state.subscriptions number ≡ true
    → WakesWhoOwes (state_after_turn number s told outlook (record state { woken = rest }))
woken_after number rest s told outlook state there places owed = λ k. by k (cases_eq number k) where
  after : List SubscriptionState
  after = set state.subscriptions number (subscription_after_turn told outlook s)

  by : (k : ℕ) → (number ≡ k) ⊎ (number ≡ k → ⊥)
      → places_of k (rest ++ (if is_again outlook then number ∷ [] else [])) ≡ bit (owes_turn (set state.subscriptions number (subscription_after_turn told outlook s)) k)
  by k (inl same) =
      let here : (number == k) ≡ true = same_test number k same in
      let owes_here : owes_turn state.subscriptions k ≡ true = ap (owes_turn state.subscriptions) (sym same) ∙ owed in
      let once : 1 + places_of k rest ≡ 1 = sym (places_cons k number rest ∙ ap (λ b. bit b + places_of k rest) here) ∙ places k ∙ ap bit owes_here in
      let again : (is_again outlook && true) ≡ is_again outlook = both (is_again outlook) in
      let now : owes_turn (set state.subscriptions number (subscription_after_turn told outlook s)) k ≡ is_again outlook =
      ap (owes_turn (set state.subscriptions number (subscription_after_turn told outlook s))) (sym same)
      ∙ ap owes_if_there (get_there state.subscriptions number (subscription_after_turn told outlook s) (slice_get_within state.subscriptions number s there)) ∙ owes_after outlook in
      places_append k rest (if is_again outlook then number ∷ [] else []) ∙ ap (λ n. places_of k rest + n) (places_again number k (is_again outlook))
      ∙ ap (λ b. places_of k rest + bit (is_again outlook && b)) here ∙ ap (λ b. places_of k rest + bit b) again ∙ (omega (arith, once)) ∙ ap bit (sym now) where
        both : (b : Bool) → (b && true) ≡ b
        both true = refl
        both false = refl
  by k (inr other) =
      let elsewhere : (number == k) ≡ false = other_test number k other in
      let as_often : 0 + places_of k rest ≡ bit (owes_turn state.subscriptions k) = sym (places_cons k number rest ∙ ap (λ b. bit b + places_of k rest) elsewhere) ∙ places k in
      let none : (is_again outlook && false) ≡ false = neither (is_again outlook) in
      let now : owes_turn (set state.subscriptions number (subscription_after_turn told outlook s)) k ≡ owes_turn state.subscriptions k =
      ap owes_if_there (get_elsewhere state.subscriptions number k (subscription_after_turn told outlook s) other) in
      places_append k rest (if is_again outlook then number ∷ [] else []) ∙ ap (λ n. places_of k rest + n) (places_again number k (is_again outlook))
      ∙ ap (λ b. places_of k rest + bit (is_again outlook && b)) elsewhere ∙ ap (λ b. places_of k rest + bit b) none ∙ (omega (arith, as_often)) ∙ ap bit (sym now) where
        neither : (b : Bool) → (b && false) ≡ false
        neither true = refl
        neither false = refl

-- one turn keeps all subscriptions, and who is woken
turn_lawful : (texts : ℕ → List ℕ) (number : ℕ) (rest : List ℕ) (state : SessionState) (refusals : List Bool) → IsLawful texts state
    → state.woken ≡ number ∷ rest
    → IsLawful texts (turn_result number (slice_get state.subscriptions number) (record state { woken = rest }) refusals).state
turn_lawful texts number rest state refusals lawful woken = by (slice_get state.subscriptions number) refl where
  places : (k : ℕ) → places_of k (number ∷ rest) ≡ bit (owes_turn state.subscriptions k)
  places k = ap (places_of k) (sym woken) ∙ lawful.woken k

  owed : owes_turn state.subscriptions number ≡ true
  owed = woken_owes state.subscriptions number rest (places number)

  by : (there : Option SubscriptionState) → slice_get state.subscriptions number ≡ there
      → IsLawful texts (turn_result number there (record state { woken = rest }) refusals).state
  by None is = let never : false ≡ true = sym (ap owes_if_there is) ∙ owed in cc
  by (Some s) is =
      let within = slice_get_within state.subscriptions number s is in
      let kept : IsKept texts state.serial state.beginning.order state.closing s =
      subst (IsKept texts state.serial state.beginning.order state.closing) (get_or_from_slice_get state.subscriptions number s s is) (lawful.subscriptions number s within) in
      let live : s.desk.lane.how ≡ None = owes_live s.desk (sym (ap owes_if_there is) ∙ owed) in
      let told = told_in s.desk.lane refusals in
      let outlook = outlook_in s.desk.lane refusals in
      record {
        subscriptions = All-set (IsKept texts state.serial state.beginning.order state.closing) state.subscriptions number (subscription_after_turn told outlook s)
            (kept_turn texts state.serial state.beginning.order state.closing s told outlook kept live (turn_meets s.desk.lane refusals)) lawful.subscriptions;
        none_yet = λ unread. ap (λ (l : List SubscriptionState). set l number (subscription_after_turn told outlook s)) (lawful.none_yet unread);
        woken = woken_after number rest s told outlook state is places owed;
        few = live_after_turn state number s (subscription_after_turn told outlook s) within (get_or_from_slice_get state.subscriptions number s s is) live lawful.few;
        names = one_after_turn state number s (subscription_after_turn told outlook s) within (get_or_from_slice_get state.subscriptions number s s is) live refl lawful.names;
      }

-- so does the turn of the first of the woken
pub first_turn_lawful : (texts : ℕ → List ℕ) (state : SessionState) (refusals : List Bool) → IsLawful texts state
    → IsLawful texts (first_turn_result state.woken state refusals).state
first_turn_lawful texts state refusals lawful = by state.woken refl where
  by : (woken : List ℕ) → state.woken ≡ woken → IsLawful texts (first_turn_result woken state refusals).state
  by [] e = lawful
  by (number ∷ rest) e = turn_lawful texts number rest state refusals lawful e

-- and any number of turns
turns_lawful : (texts : ℕ → List ℕ) (most : ℕ) (state : SessionState) (refusals : List Bool) → IsLawful texts state
    → IsLawful texts (turns_result most state refusals).state
turns_lawful texts zero state refusals lawful = lawful
turns_lawful texts (suc most) state refusals lawful =
    let first = first_turn_result state.woken state refusals in
    turns_lawful texts most first.state first.refusals (first_turn_lawful texts state refusals lawful)

-- a `run` leaves a script where it may stand
pub run_reached : (state : SessionState) (refusals : List Bool) → IsReachable state → IsReachable (run_turns state refusals).state
run_reached state refusals is = (is.0, turns_lawful is.0 (most_turns state) state refusals is.1)
