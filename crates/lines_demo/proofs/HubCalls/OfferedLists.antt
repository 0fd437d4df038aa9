-- What an offer makes of all subscriptions of a script's publisher.
use Rattle.std.proofs.Common.{◌≡◌, ℕ, suc, ◌+◌, ◌<◌, Bool, true, false, if◌then◌else◌, Option, None, Some, IsSome, List, [], ◌∷◌, ◌++◌, length, map, fold, max, refl, sym, ap, subst, ◌∙◌, arith}
use Rattle.std.specs.Prelude.{count_by, slice_get}
use Rattle.std.proofs.lemmas.List.{length-append, map-id}
use Rattle.std.proofs.lemmas.List.Sums.{fold-append, sum_by-cons}
use Rattle.std.proofs.lemmas.Option.{slice_get_within}
use Rattle.flow_rules.specs.declared.feed.put.Put.{Put}
use Rattle.flow_rules.specs.declared.feed.put.Put.TheVariants.{Full}
use Rattle.flow_rules.specs.declared.feed.standing.Standing.{Standing}
use Rattle.feed_core.specs.Feed.{DoesCall, end_of}
use Rattle.publisher_hub.specs.Lists.{Each, EachBy, gather, greatest}
use Rattle.publisher_hub.specs.Looking.{Prepares}
use Rattle.publisher_hub.specs.Gathering.{AreRevisited, Second, dropped, dropped_by, lag_again_by, lag_by, lags, lags_again, missed, missed_by, started, started_again, started_again_by, started_by}
use Rattle.publisher_hub.specs.Offering.{PutsTo, PutsAgain}
use Rattle.publisher_hub.specs.declared.entry.Entry.{Entry}
use Rattle.publisher_hub.proofs.AnswerLists.Gathering.{gather_nothing}
use Rattle.publisher_hub.proofs.Publications.FullBuffers.{missed_at, missed_is}
use Rattle.publisher_hub.proofs.PartialRounds.Progress.{same_some}
use Rattle.publisher_hub.proofs.AnswerLists.Places.{answered_at, stood_by, there}
use Rattle.lines_demo.specs.Prelude.{Item, DeskState}
use Rattle.lines_demo.specs.Script.Publishing.{drop_count, greatest_lag, is_full, lag_with, subscription_after_offer}
use Rattle.lines_demo.specs.Script.Session.{AreScriptEntries, IsScriptEntry, desk_in, numbers_of, subscription_of}
use Rattle.lines_demo.specs.Script.State.{SubscriptionState}
use Rattle.lines_demo.specs.Script.Waking.{newly_woken}
use Rattle.lines_demo.proofs.HubCalls.EachMaps.{each_by_map, each_map}
use Rattle.lines_demo.proofs.HubCalls.Looks.{prepared_retired, prepared_same}
use Rattle.lines_demo.proofs.HubCalls.OfferedEntries.{BecomesOffered, MayBeOffered, StaysDropped, becomes_offered, stays_dropped}
use Rattle.lines_demo.proofs.Woken.StartedTasks.{gathered_woken}

-- ---- what answers gather

-- the places but for the first
rest_by : {B A : Type 0} (R : B → A → A → Type 0) (answer : B) (answers : List B) (x y : A) (xs ys : List A)
    → EachBy R (answer ∷ answers) (x ∷ xs) (y ∷ ys) → EachBy R answers xs ys
rest_by R answer answers x y xs ys places = record {
  answered = (let many = places.answered in omega arith);
  as_long = (let long = places.as_long in omega arith);
  each = λ k b a a' said at at'. places.each (suc k) b a a' said at at';
}

-- if each answer gathers one value, the greatest of all is the greatest of the values
fold_gathered : {B A C : Type 0} (each : ℕ → B → List ℕ) (value : C → ℕ) (see : A → C) (R : B → A → A → Type 0) (answers : List B) (xs ys : List A) → EachBy R answers xs ys
    → ((k : ℕ) (answer : B) (x y : A) → slice_get xs k ≡ Some x → R answer x y → (place most : ℕ) → fold max most (each place answer) ≡ max most (value (see x)))
    → (place most : ℕ) → fold max most (gather each place answers) ≡ fold max most (map value (map see xs))
unfolding gather
fold_gathered each value see R [] [] ys places says place most = refl
fold_gathered each value see R [] (x ∷ xs) ys places says place most = let many = places.answered in cc
fold_gathered each value see R (answer ∷ answers) [] ys places says place most = let many = places.answered in cc
fold_gathered each value see R (answer ∷ answers) (x ∷ xs) [] places says place most = let long = places.as_long in cc
fold_gathered each value see R (answer ∷ answers) (x ∷ xs) (y ∷ ys) places says place most =
    fold-append max most (each place answer) (gather each (suc place) answers)
    ∙ ap (λ n. fold max n (gather each (suc place) answers)) (says 0 answer x y refl (places.each 0 answer x y refl refl refl) place most)
    ∙ fold_gathered each value see R answers xs ys (rest_by R answer answers x y xs ys places) (λ k b a a' at r. says (suc k) b a a' at r) (suc place) (max most (value (see x)))

-- if each answer gathers its place where a test holds, they gather as many as pass it
pub count_gathered : {B A C : Type 0} (each : ℕ → B → List ℕ) (test : C → Bool) (see : A → C) (R : B → A → A → Type 0) (answers : List B) (xs ys : List A) → EachBy R answers xs ys
    → ((k : ℕ) (answer : B) (x y : A) → slice_get xs k ≡ Some x → R answer x y → (place : ℕ) → each place answer ≡ (if test (see x) then place ∷ [] else []))
    → (place : ℕ) → length (gather each place answers) ≡ count_by test (map see xs)
unfolding gather
count_gathered each test see R [] [] ys places says place = refl
count_gathered each test see R [] (x ∷ xs) ys places says place = let many = places.answered in cc
count_gathered each test see R (answer ∷ answers) [] ys places says place = let many = places.answered in cc
count_gathered each test see R (answer ∷ answers) (x ∷ xs) [] places says place = let long = places.as_long in cc
count_gathered each test see R (answer ∷ answers) (x ∷ xs) (y ∷ ys) places says place =
    let both = length-append (each place answer) (gather each (suc place) answers) in
    let here = ap length (says 0 answer x y refl (places.each 0 answer x y refl refl refl) place) ∙ one (test (see x)) in
    let later = count_gathered each test see R answers xs ys (rest_by R answer answers x y xs ys places) (λ k b a a' at r. says (suc k) b a a' at r) (suc place) in
    let whole = sum_by-cons (λ t. if test t then 1 else 0) (see x) (map see xs) in
    both ∙ ap (λ n. n + length (gather each (suc place) answers)) here ∙ ap (λ n. (if test (see x) then 1 else 0) + n) later ∙ sym whole where
      one : (holds : Bool) → length (if holds then place ∷ [] else []) ≡ (if holds then 1 else 0)
      one true = refl
      one false = refl

-- answers that gather the same, place by place
gather_same : {B D C : Type 0} (each : ℕ → B → List C) (other : ℕ → D → List C) (bs : List B) (ds : List D) → length bs ≡ length ds
    → ((k : ℕ) (b : B) (d : D) → slice_get bs k ≡ Some b → slice_get ds k ≡ Some d → (place : ℕ) → each place b ≡ other place d) → (place : ℕ) → gather each place bs ≡ gather other place ds
unfolding gather
gather_same each other [] [] long same place = refl
gather_same each other [] (d ∷ ds) long same place = cc
gather_same each other (b ∷ bs) [] long same place = cc
gather_same each other (b ∷ bs) (d ∷ ds) long same place =
    ap (λ cs. cs ++ gather each (suc place) bs) (same 0 b d refl refl place)
    ∙ ap (λ cs. other place d ++ cs) (gather_same each other bs ds (omega arith) (λ k x y at at'. same (suc k) x y at at') (suc place))

-- ---- the first pass

-- what an offer makes of all subscriptions: what a script sees of them, whom it starts, its greatest lag, and how many
-- missed it
pub record AllOffered (item : Item) (puts : List (Option (Put Unit))) (xs ys : List (Entry DeskState)) : Type 0 where
  pub same : map subscription_of ys ≡ map (subscription_after_offer item) (map subscription_of xs)
  pub entries : AreScriptEntries ys
  pub started : numbers_of (started puts) ≡ newly_woken (map subscription_of xs) (map subscription_of ys)
  pub lag : greatest (lags puts) ≡ greatest_lag item (map subscription_of xs)
  pub missed : length (missed puts) ≡ drop_count (map subscription_of xs)

pub all_offered : (item : Item) (puts : List (Option (Put Unit))) (xs ys : List (Entry DeskState))
    → ((k : ℕ) (x : Entry DeskState) → slice_get xs k ≡ Some x → MayBeOffered x)
    → EachBy (PutsTo end_of DoesCall item) puts xs ys → AllOffered item puts xs ys
all_offered item puts xs ys may given = record {
  same = each_by_map subscription_of (subscription_after_offer item) R puts xs ys given (λ k put x y at gives. (one k put x y at gives).same);
  entries = λ k y at. (let stood = stood_by R puts xs ys k y given at in (one k stood.answer stood.entry y stood.at stood.became).entry);
  started = gathered_woken started_by R puts xs ys given (λ k put x y at gives. (one k put x y at gives).started k);
  lag = fold_gathered lag_by (lag_with item) subscription_of R puts xs ys given (λ k put x y at gives place most. (one k put x y at gives).lag place most) 0 0;
  missed = count_gathered missed_by is_full subscription_of R puts xs ys given (λ k put x y at gives place. (one k put x y at gives).missed place) 0;
} where
  R : Option (Put Unit) → Entry DeskState → Entry DeskState → Type 0
  R = PutsTo end_of DoesCall item

  one : (k : ℕ) (put : Option (Put Unit)) (x y : Entry DeskState) → slice_get xs k ≡ Some x → PutsTo end_of DoesCall item put x y
      → BecomesOffered item put x y
  one k put x y at gives = becomes_offered item put x y (may k x at) gives

-- those that were looked at and made ready may be offered items
pub may_all_be_offered : (next : ℕ) (glances : List (Option Standing)) (xs ys : List (Entry DeskState)) → AreScriptEntries xs
    → ((k : ℕ) (x : Entry DeskState) → slice_get xs k ≡ Some x → (desk_in x.feed).lane.causes.closing ≡ None)
    → EachBy (Prepares end_of DoesCall next) glances xs ys → (k : ℕ) (y : Entry DeskState) → slice_get ys k ≡ Some y → MayBeOffered y
may_all_be_offered next glances xs ys are unclosed looked k y at =
    let stood = stood_by (Prepares end_of DoesCall next) glances xs ys k y looked at in
    let seen = prepared_same next stood.answer stood.entry y (are k stood.entry stood.at) stood.became in
    record {
      is = seen.entry;
      retired = prepared_retired next stood.answer stood.entry y (are k stood.entry stood.at) stood.became;
      unclosed = ap (λ (s : SubscriptionState). s.desk.lane.causes.closing) seen.same ∙ unclosed k stood.entry stood.at;
    }

-- ---- the second pass

-- a second pass in vain: every drop stands, and nothing else changes
pub record AllStay (puts : List (Option (Put Unit))) (seconds : List (Second Unit)) (ys zs : List (Entry DeskState)) : Type 0 where
  pub same : map subscription_of zs ≡ map subscription_of ys
  pub entries : AreScriptEntries zs
  pub started : started_again seconds ≡ []
  pub lag : lags_again seconds ≡ []
  pub drops : dropped seconds ≡ missed puts

-- what a second pass leaves at a place, and what was answered and stood there before
record StaysAt (puts : List (Option (Put Unit))) (second : Second Unit) (ys zs : List (Entry DeskState)) (k : ℕ) : Type 0 where
  put : Option (Put Unit)
  before : Entry DeskState
  after : Entry DeskState
  said : slice_get puts k ≡ Some put
  at : slice_get ys k ≡ Some before
  now : slice_get zs k ≡ Some after
  stays : StaysDropped put second before after

pub all_stay : (item : Item) (puts : List (Option (Put Unit))) (seconds : List (Second Unit)) (xs ys zs : List (Entry DeskState))
    → AreScriptEntries ys → EachBy (PutsTo end_of DoesCall item) puts xs ys
    → EachBy (PutsAgain end_of DoesCall item) seconds ys zs → AreRevisited (missed puts) seconds → AllStay puts seconds ys zs
all_stay item puts seconds xs ys zs are given again asked = record {
  same = each_map subscription_of (λ s. s) (λ y z. subscription_of z ≡ subscription_of y) ys zs each_same (λ k y z at same. same) ∙ map-id (map subscription_of ys);
  entries = λ k z at. (
      let stood = stood_by (PutsAgain end_of DoesCall item) seconds ys zs k z again at in
      let is = stays_at k stood.answer stood.said in
      subst IsScriptEntry (same_some (sym is.now ∙ at)) is.stays.entry
      );
  started = gather_nothing started_again_by seconds 0 (λ k second said. (stays_at k second said).stays.started (0 + k));
  lag = gather_nothing lag_again_by seconds 0 (λ k second said. (stays_at k second said).stays.lag (0 + k));
  drops = gather_same dropped_by missed_by seconds puts (again.answered ∙ given.as_long ∙ sym given.answered) (λ k second put said put_said place. drops_at k second put said put_said place) 0;
} where
  stays_at : (k : ℕ) (second : Second Unit) → slice_get seconds k ≡ Some second → StaysAt puts second ys zs k
  stays_at k second said =
      let within : k < length seconds = slice_get_within seconds k second said in
      let asked_all = again.answered in
      let as_long = again.as_long in
      let given_all = given.answered in
      let given_long = given.as_long in
      let x = there xs k (omega arith) in
      let y = there ys k (omega arith) in
      let z = there zs k (omega arith) in
      let put = there puts k (omega arith) in
      record {
        put = put.0;
        before = y.0;
        after = z.0;
        said = put.1;
        at = y.1;
        now = z.1;
        stays = stays_dropped item put.0 second x.0 y.0 z.0 (full put.0 put.1) (is_asked put.0 put.1) (are k y.0 y.1) (given.each k put.0 x.0 y.0 put.1 x.1 y.1) (again.each k second y.0 z.0 said y.1 z.1);
      } where
        full : (put : Option (Put Unit)) → slice_get puts k ≡ Some put → IsSome second → (back : Item) × (put ≡ Some (Full back))
        full put put_said some =
            let found = asked.others k second said some in
            let missed_there = missed_at 0 puts found.0 k found.1 in
            let here : missed_there.at ≡ k = let number = missed_there.number in omega arith in
            (missed_there.back, same_some (sym put_said ∙ subst (λ j. slice_get puts j ≡ Some (Some (Full missed_there.back))) here missed_there.full))

        is_asked : (put : Option (Put Unit)) → slice_get puts k ≡ Some put → (back : Item) → put ≡ Some (Full back) → IsSome second
        is_asked put put_said back is =
            let found = missed_is 0 puts k back (put_said ∙ ap Some is) in
            asked.revisited found.0 k second (found.1 ∙ ap Some (omega arith)) said

  each_same : Each (λ y z. subscription_of z ≡ subscription_of y) ys zs
  each_same = record {
    as_long = again.as_long;
    each = λ k y z at now. (
        let second = answered_at (PutsAgain end_of DoesCall item) seconds ys zs k y again at in
        let is = stays_at k second.0 second.1 in
        ap subscription_of (same_some (sym now ∙ is.now)) ∙ is.stays.same ∙ ap subscription_of (same_some (sym is.at ∙ at))
        );
  }

  drops_at : (k : ℕ) (second : Second Unit) (put : Option (Put Unit)) → slice_get seconds k ≡ Some second → slice_get puts k ≡ Some put
      → (place : ℕ) → dropped_by {T = Unit} place second ≡ missed_by {T = Unit} place put
  drops_at k second put said put_said place =
      let is = stays_at k second said in
      is.stays.drops place ∙ ap (λ (p : Option (Put Unit)). missed_by {T = Unit} place p) (same_some (sym is.said ∙ put_said))
