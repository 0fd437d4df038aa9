-- A `request` or a `cancel` means the latest subscription of its name.
use Rattle.std.proofs.Common.{◌≡◌, ℕ, zero, suc, ◌<◌, Bool, true, false, ◌||◌, List, [], ◌∷◌, set, refl, ap, ◌∙◌, arith, Some}
use Rattle.std.specs.Prelude.{slice_get}
use Rattle.commands.specs.Word.{is_word}
use Rattle.lines_demo.specs.Script.State.{SubscriptionState}
use Rattle.lines_demo.specs.Script.Obeying.{desk_after_act, is_known, subscriptions_after_act}
use Rattle.lines_demo.specs.declared.script.session.acting.Act.{Act}

-- nobody after this place has the name
abbrev pub NoneAfter : List ℕ → List SubscriptionState → ℕ → Type 0
NoneAfter name subscriptions place = (later : ℕ) (s : SubscriptionState) → place < later → slice_get subscriptions later ≡ Some s → is_word s.name name ≡ false

-- nobody has it
pub nobody_known : (name : List ℕ) (subscriptions : List SubscriptionState)
    → ((place : ℕ) (s : SubscriptionState) → slice_get subscriptions place ≡ Some s → is_word s.name name ≡ false)
    → is_known name subscriptions ≡ false
nobody_known name [] none = refl
nobody_known name (s ∷ later) none =
    ap (λ b. b || is_known name later) (none 0 s refl) ∙ nobody_known name later (λ place t at. none (suc place) t at)

-- somebody has it
pub somebody_known : (name : List ℕ) (subscriptions : List SubscriptionState) (place : ℕ) (s : SubscriptionState)
    → slice_get subscriptions place ≡ Some s → is_word s.name name ≡ true → is_known name subscriptions ≡ true
somebody_known name [] place s at named = cc
somebody_known name (other ∷ later) zero s at named = ap (λ b. b || is_known name later) (ap (λ (t : SubscriptionState). is_word t.name name) (value at) ∙ named) where
  value : {a b : SubscriptionState} → Some a ≡ Some b → a ≡ b
  value e = cc
somebody_known name (other ∷ later) (suc place) s at named = ap (λ b. is_word other.name name || b) (somebody_known name later place s at named) ∙ either (is_word other.name name) where
  either : (b : Bool) → (b || true) ≡ true
  either true = refl
  either false = refl

-- the act is done to the latest one of the name, and all others stay
pub act_latest : (name : List ℕ) (act : Act) (subscriptions : List SubscriptionState) (place : ℕ) (s : SubscriptionState)
    → slice_get subscriptions place ≡ Some s → is_word s.name name ≡ true
    → NoneAfter name subscriptions place
    → subscriptions_after_act name act subscriptions ≡ set subscriptions place (record s { desk = desk_after_act act s.desk })
act_latest name act [] place s at named none = cc
act_latest name act (other ∷ later) zero s at named none =
    let is : other ≡ s = value at in
    let unknown : is_known name later ≡ false = nobody_known name later (λ place t there. none (suc place) t (omega arith) there) in
    let this : is_word other.name name ≡ true = ap (λ (t : SubscriptionState). is_word t.name name) is ∙ named in
    rw (unknown, this) (ap (λ (t : SubscriptionState). (record t { desk = desk_after_act act t.desk }) ∷ later) is) where
      value : {a b : SubscriptionState} → Some a ≡ Some b → a ≡ b
      value e = cc
act_latest name act (other ∷ later) (suc place) s at named none =
    let known : is_known name later ≡ true = somebody_known name later place s at named in
    rw known (ap (λ rest. other ∷ rest) (act_latest name act later place s at named (λ k t after there. none (suc k) t (omega arith) there)))
