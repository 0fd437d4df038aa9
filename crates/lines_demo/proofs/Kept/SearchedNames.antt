-- The latest subscription of a name, as it is searched for from the first one on.
use Rattle.std.proofs.Common.{◌≡◌, ◌⊎◌, inl, inr, ℕ, ◌+◌, ◌<◌, ◌≤◌, Bool, true, false, if◌then◌else◌, Option, None, Some, List, length, map, get_or, refl, sym, ap, ◌∙◌, arith}
use Rattle.std.specs.Prelude.{option_map, slice_get}
use Rattle.std.proofs.lemmas.Bool.{cases_lt}
use Rattle.std.proofs.lemmas.Option.{slice_get-map, slice_get_cases, slice_get_within}
use Rattle.feed_core.specs.Feed.{end_of}
use Rattle.publisher_hub.specs.Entry.{EntryState, entry_of}
use Rattle.publisher_hub.specs.Facts.{facts_of}
use Rattle.publisher_hub.specs.declared.entry.Entry.{Entry}
use Rattle.publisher_hub.specs.declared.hub.Facts.{Facts}
use Rattle.lines_demo.specs.Prelude.{DeskState}
use Rattle.commands.specs.Word.{is_word}
use Rattle.lines_demo.specs.Script.Playing.{IsLatest}
use Rattle.lines_demo.specs.Script.Session.{subscription_of}
use Rattle.lines_demo.specs.Script.State.{SubscriptionState}

-- nobody with a number from this one on and below that one has the name
abbrev pub NobodyFrom : List ℕ → List SubscriptionState → ℕ → ℕ → Type 0
NobodyFrom name subscriptions first past = (k : ℕ) (s : SubscriptionState) → first ≤ k → k < past → slice_get subscriptions k ≡ Some s → is_word s.name name ≡ false

-- the latest one of the name below this number, if there is one
abbrev pub IsLatestBelow : List ℕ → List SubscriptionState → ℕ → Option ℕ → Type 0
IsLatestBelow name subscriptions past None = NobodyFrom name subscriptions 0 past
IsLatestBelow name subscriptions past (Some number) =
    (s : SubscriptionState) × ((slice_get subscriptions number ≡ Some s) × ((is_word s.name name ≡ true) × NobodyFrom name subscriptions (number + 1) past))

-- so far was searched
pub record Searched (name : List ℕ) (subscriptions : List SubscriptionState) (past : ℕ) (latest : Option ℕ) : Type 0 where
  pub within : past ≤ length subscriptions
  pub found : IsLatestBelow name subscriptions past latest

-- what a publisher knows of a subscription without its end
abbrev pub known_facts : List (Entry DeskState) → ℕ → Option Facts
known_facts entries k = option_map facts_of (slice_get (map (entry_of end_of) entries) k)

-- the name that a publisher knows of a subscription is the one that a script sees
pub known_name : (entries : List (Entry DeskState)) (k : ℕ)
    → option_map (λ (facts : Facts). facts.name) (known_facts entries k) ≡ option_map (λ (s : SubscriptionState). s.name) (slice_get (map subscription_of entries) k)
known_name entries k =
    ap (λ (found : Option EntryState). option_map (λ (facts : Facts). facts.name) (option_map facts_of found)) (slice_get-map (entry_of end_of) entries k)
    ∙ by (slice_get entries k) ∙ sym (ap (option_map (λ (s : SubscriptionState). s.name)) (slice_get-map subscription_of entries k)) where
      by : (entry : Option (Entry DeskState))
          → option_map (λ (facts : Facts). facts.name) (option_map facts_of (option_map (entry_of end_of) entry)) ≡ option_map (λ (s : SubscriptionState). s.name) (option_map subscription_of entry)
      by None = refl
      by (Some entry) = refl

-- a name that is there is that of a subscription
stands_named : (found : Option SubscriptionState) (name : List ℕ) → option_map (λ (s : SubscriptionState). s.name) found ≡ Some name
    → (s : SubscriptionState) × ((found ≡ Some s) × (s.name ≡ name))
stands_named None name is = cc
stands_named (Some s) name is = (s, (refl, value is)) where
  value : {a b : List ℕ} → Some a ≡ Some b → a ≡ b
  value e = cc

pub searched_none : (name : List ℕ) (subscriptions : List SubscriptionState) → Searched name subscriptions 0 None
searched_none name subscriptions = record { within = omega arith; found = λ k s first past at. absurd (omega arith) }

-- one more isn't of the name
nobody_more : (name : List ℕ) (subscriptions : List SubscriptionState) (first past : ℕ) (s : SubscriptionState)
    → slice_get subscriptions past ≡ Some s → is_word s.name name ≡ false
    → NobodyFrom name subscriptions first past → NobodyFrom name subscriptions first (past + 1)
nobody_more name subscriptions first past s stands other nobody k t low high at = by (cases_lt k past) where
  value : {a b : SubscriptionState} → Some a ≡ Some b → a ≡ b
  value e = cc

  by : (k < past) ⊎ (past ≤ k) → is_word t.name name ≡ false
  by (inl before) = nobody k t low before at
  by (inr after) =
      let same : k ≡ past = omega arith in
      let is : t ≡ s = value (sym at ∙ ap (slice_get subscriptions) same ∙ stands) in
      ap (λ (u : SubscriptionState). is_word u.name name) is ∙ other

pub searched_more : (name : List ℕ) (subscriptions : List SubscriptionState) (past : ℕ) (latest : Option ℕ) (other : List ℕ) (hit : Bool)
    → Searched name subscriptions past latest
    → option_map (λ (s : SubscriptionState). s.name) (slice_get subscriptions past) ≡ Some other → hit ≡ is_word other name → Searched name subscriptions (past + 1) (if hit then Some past else latest)
searched_more name subscriptions past latest other hit searched known test =
    let there = stands_named (slice_get subscriptions past) other known in
    let within = slice_get_within subscriptions past there.0 there.1.0 in
    record { within = omega arith; found = by hit latest searched.found (ap (λ n. is_word n name) there.1.1 ∙ sym test) } where
      s : SubscriptionState
      s = (stands_named (slice_get subscriptions past) other known).0

      stands : slice_get subscriptions past ≡ Some s
      stands = (stands_named (slice_get subscriptions past) other known).1.0

      by : (b : Bool) (before : Option ℕ) → IsLatestBelow name subscriptions past before → is_word s.name name ≡ b
          → IsLatestBelow name subscriptions (past + 1) (if b then Some past else before)
      by true before found e = (s, (stands, (e, (λ k t low high at. absurd (omega arith)))))
      by false None found e = nobody_more name subscriptions 0 past s stands e found
      by false (Some number) found e = (found.0, (found.1.0, (found.1.1.0, nobody_more name subscriptions (number + 1) past s stands e found.1.1.1)))

-- a name that is known stands within
pub known_within : (subscriptions : List SubscriptionState) (past : ℕ) (other : List ℕ)
    → option_map (λ (s : SubscriptionState). s.name) (slice_get subscriptions past) ≡ Some other → past < length subscriptions
known_within subscriptions past other known =
    let there = stands_named (slice_get subscriptions past) other known in
    slice_get_within subscriptions past there.0 there.1.0

-- if nobody has the next number all were searched
pub searched_all : (name : List ℕ) (subscriptions : List SubscriptionState) (past : ℕ) (latest : Option ℕ)
    → Searched name subscriptions past latest
    → option_map (λ (s : SubscriptionState). s.name) (slice_get subscriptions past) ≡ None → IsLatest name subscriptions latest
searched_all name subscriptions past latest searched nothing = by latest searched.found where
  none_there : (slice_get subscriptions past ≡ None) → length subscriptions ≤ past
  none_there e = either (slice_get_cases subscriptions past).1 where
    either : ((s : SubscriptionState) × (past < length subscriptions) × (slice_get subscriptions past ≡ Some s) × (get_or subscriptions past s ≡ s)) ⊎ ((length subscriptions ≤ past) × (slice_get subscriptions past ≡ None))
        → length subscriptions ≤ past
    either (inl there) = let never = sym e ∙ there.2 in cc
    either (inr past_all) = past_all.0

  all : (found : Option SubscriptionState) → slice_get subscriptions past ≡ found
      → option_map (λ (s : SubscriptionState). s.name) found ≡ None → length subscriptions ≤ past
  all None e none = none_there e
  all (Some s) e none = cc

  below : (k : ℕ) (s : SubscriptionState) → slice_get subscriptions k ≡ Some s → k < past
  below k s at =
      let whole = all (slice_get subscriptions past) refl nothing in
      let within = slice_get_within subscriptions k s at in omega arith

  by : (found : Option ℕ) → IsLatestBelow name subscriptions past found → IsLatest name subscriptions found
  by None is = λ k s at. is k s (omega arith) (below k s at) at
  by (Some number) is = (is.0, (is.1.0, (is.1.1.0, (λ k s later at. is.1.1.1 k s (omega arith) (below k s at) at))))
