-- How a publisher's end is concluded: the lanes, and the answer.
use Rattle.std.proofs.Common.{◌≡◌, ◌⊎◌, inl, inr, ℕ, ◌+◌, ◌≤◌, ◌||◌, ◌&&◌, is_none, Bool, true, false, Option, None, Some, Result, Ok, Err, List, [], length, refl, sym, ap, subst, ◌∙◌, arith}
use Rattle.feed_core.specs.AnsweredTurn.{Reply}
use Rattle.std.specs.Prelude.{IsSome, slice_get}
use Rattle.std.specs.Option.{option_or}
use Rattle.std.proofs.lemmas.Option.{same_Some, slice_get_within}
use Rattle.feed_core.specs.Prelude.{Ending, How, Signal}
use Rattle.flow_rules.specs.declared.refusal.Refusal.{Refusal}
use Rattle.publisher_hub.proofs.AnswerLists.Places.{there}
use Rattle.publisher.specs.Finding.{IsHandedIn, ends_of}
use Rattle.history.specs.declared.rule.Entry.{Entry}
use Rattle.publisher.specs.Content.{ArePublished, AreSentIn}
use Rattle.publisher.specs.Finishing.{AreAudited, AreClosedWith, AreOfLog, AreTakenOut, IsNothing}
use Rattle.publisher.specs.Handles.{SubmitterState, SubscriptionState}
use Rattle.publisher.specs.Leaving.{ClosesAll, Concludes, FindsFirst}
use Rattle.publisher.specs.Outcome.{AnyKnows, AreDone, AreHandedIn, AreInOrder, AreReclaimed, Finishes, HasLane, IsAmong, IsMissing, IsOutcome, IsRestGiven, IsWhole, Judges, NamesUndone, is_undone, outcome_of}
use Rattle.publisher.specs.declared.outcome.NamedLane.{NamedLane}
use Rattle.publisher.specs.declared.outcome.Outcome.{Outcome}
use Rattle.publisher.specs.declared.finishing.find.Found.{Found}
use Rattle.publisher.specs.declared.finishing.find.Taken.{Taken}
use Rattle.publisher.specs.declared.finishing.judge.Books.{Books}
use Rattle.publisher.proofs.LeftLanes.Outcomes.{drops_at, is_outcome}

module _ {B H : Type 0} (submitters : List SubmitterState) (subscriptions : List SubscriptionState)
    (outcome : Outcome B H) (closed : Bool) where
  rests : (left : NamedLane B) → is_undone closed left ≡ false → left.lane.running ≡ false
  rests left done = by left.lane.running done where
    by : (running : Bool) → (running || (closed && is_none left.lane.ending)) ≡ false → running ≡ false
    by true e = cc
    by false e = refl

  ends : (left : NamedLane B) → closed ≡ true → is_undone closed left ≡ false → IsSome left.lane.ending
  ends left shut done = by left.lane.running closed left.lane.ending shut done where
    by : (running c : Bool) (ending : Option How) → c ≡ true → (running || (c && is_none ending)) ≡ false → IsSome ending
    by true c ending y e = cc
    by false true None y e = cc
    by false true (Some how) y e = refl
    by false false ending y e = cc

  pub judged_same : (result : Result (Outcome B H) (Refusal × Outcome B H)) → Judges outcome closed result → outcome_of result ≡ outcome
  judged_same (Ok same) judges = judges.0
  judged_same (Err (Refusal.Unsettled names, same)) judges = judges.0
  judged_same (Err (Refusal.BadCapacity, same)) judges = absurd judges
  judged_same (Err (Refusal.Closed ending, same)) judges = absurd judges
  judged_same (Err (Refusal.Duplicate, same)) judges = absurd judges
  judged_same (Err (Refusal.TooMany, same)) judges = absurd judges
  judged_same (Err (Refusal.NoMemory, same)) judges = absurd judges
  judged_same (Err (Refusal.LineTooLong, same)) judges = absurd judges
  judged_same (Err (Refusal.BadWorkers, same)) judges = absurd judges
  judged_same (Err (Refusal.StillHeld name, same)) judges = absurd judges
  judged_same (Err (Refusal.Unknown, same)) judges = absurd judges
  judged_same (Err (Refusal.WouldWait, same)) judges = absurd judges
  judged_same (Err (Refusal.BadCommand, same)) judges = absurd judges
  judged_same (Err (Refusal.Exhausted, same)) judges = absurd judges

  pub finishes : (result : Result (Outcome B H) (Refusal × Outcome B H)) → Judges outcome closed result
      → IsWhole submitters subscriptions outcome → (AnyKnows submitters → closed ≡ true) → (outcome.drained ≡ true → closed ≡ true)
      → Finishes submitters subscriptions result
  finishes (Ok same) judges whole knows drained =
      let done : AreDone submitters outcome = record {
        rests = λ i left at. rests left (judges.1 i left at);
        ended = λ any i left at. ends left (knows any) (judges.1 i left at);
        drained = λ last i left at. ends left (drained last) (judges.1 i left at);
      } in
      subst (λ (o : Outcome B H). IsWhole submitters subscriptions o × AreDone submitters o) (sym judges.0) (whole, done)
  finishes (Err (Refusal.Unsettled names, same)) judges whole knows drained =
      subst (λ (o : Outcome B H). IsWhole submitters subscriptions o
      × ((c : Bool) × ((AnyKnows submitters → c ≡ true) × NamesUndone c names.items o.lanes.items))) (sym judges.0)
      (whole, (closed, (knows, judges.1)))
  finishes (Err (Refusal.BadCapacity, same)) judges whole knows drained = absurd judges
  finishes (Err (Refusal.Closed ending, same)) judges whole knows drained = absurd judges
  finishes (Err (Refusal.Duplicate, same)) judges whole knows drained = absurd judges
  finishes (Err (Refusal.TooMany, same)) judges whole knows drained = absurd judges
  finishes (Err (Refusal.NoMemory, same)) judges whole knows drained = absurd judges
  finishes (Err (Refusal.LineTooLong, same)) judges whole knows drained = absurd judges
  finishes (Err (Refusal.BadWorkers, same)) judges whole knows drained = absurd judges
  finishes (Err (Refusal.StillHeld name, same)) judges whole knows drained = absurd judges
  finishes (Err (Refusal.Unknown, same)) judges whole knows drained = absurd judges
  finishes (Err (Refusal.WouldWait, same)) judges whole knows drained = absurd judges
  finishes (Err (Refusal.BadCommand, same)) judges whole knows drained = absurd judges
  finishes (Err (Refusal.Exhausted, same)) judges whole knows drained = absurd judges

module _ {B H : Type 0} (told : B → List Signal) (replied : B → List Reply) (submitters : List SubmitterState)
    (subscriptions : List SubscriptionState) (founds : List (Found B)) (dropping : ℕ) (drained : Bool)
    (outcome : Outcome B H) (first missing : Option (List ℕ))
    (out : AreTakenOut subscriptions founds outcome.published dropping drained) (same : outcome.drained ≡ drained)
    (counted : ends_of founds + outcome.reclaimed ≡ outcome.made) (closes : ClosesAll told replied founds (length founds)
    outcome.lanes.items outcome.held.items first)
    (audited : AreAudited submitters outcome.published dropping missing) where
  -- one whose two ends were there was handed in
  both_handed : (number : ℕ) (taken : Taken B) → slice_get founds number ≡ Some (Found.Both taken) → IsHandedIn subscriptions number
  both_handed number taken at = let handed = out.handed number taken at in (handed.0, handed.1, (handed.2.0, handed.2.1.0))

  pub are_handed_in : AreInOrder outcome.lanes.items → AreHandedIn subscriptions outcome.lanes.items
  are_handed_in ordered = record {
    apart = closes.apart;
    ordered = ordered;
    each = λ i left at.
        let it = closes.each i left at in
        let handed = out.handed left.entry it.0 it.1.0 in
        let owner = it.1.1.1.of.owner in (
          handed.0,
          handed.1,
          (
            handed.2.0,
            (
              handed.2.1.0,
              (
                ap (λ (s : SubscriptionState). s.made_before) handed.2.1.1 ∙ sym it.1.1.1.of.made_before,
                (
                  owner.0 ∙ ap (λ (s : SubscriptionState). s.handle.asked) (sym handed.2.1.1),
                  owner.1 ∙ ap (λ (s : SubscriptionState). s.handle.cancelled) (sym handed.2.1.1),
                ),
              ),
            ),
          ),
        );
  }

  -- none was counted twice
  pub are_reclaimed : AreReclaimed outcome
  are_reclaimed = let few = closes.ends in omega arith

  -- each that was handed in has its lane, or is held
  pub rest_given : IsRestGiven subscriptions outcome
  rest_given = record {
    given = λ number handed.
        let within = out.within number handed in
        let found = there founds number within in
        by number handed found.0 found.1;
    held = λ number is_held. let it = closes.held_are number is_held in (both_handed number it.0 it.1.0, it.1.1.1);
  } where
    by : (number : ℕ) → IsHandedIn subscriptions number → (found : Found B) → slice_get founds number ≡ Some found
        → HasLane number outcome.lanes.items ⊎ IsAmong number outcome.held.items
    by number handed (Found.Both taken) at = closes.all number taken (slice_get_within founds number (Found.Both taken) at) at
    by number handed (Found.Missing name) at = absurd (out.missing number name at handed)
    by number handed Found.Reclaimed at = absurd (out.reclaimed number at handed)

  pub is_missing_of : (name : List ℕ) → option_or first missing ≡ Some name → IsMissing name submitters subscriptions outcome
  is_missing_of name is = by first missing is closes.finds audited where
    away : (number : ℕ) (it : List ℕ) → (slice_get founds number ≡ Some (Found.Missing it)) ⊎ IsAmong number
        outcome.held.items → (IsHandedIn subscriptions number → ⊥) ⊎ IsAmong number outcome.held.items
    away number it (inl at) = inl (λ handed. out.missing number it at handed)
    away number it (inr is_held) = inr is_held

    by : (f m : Option (List ℕ)) → option_or f m ≡ Some name
        → FindsFirst told replied founds (length founds) outcome.lanes.items outcome.held.items f
        → AreAudited submitters outcome.published dropping m → IsMissing name submitters subscriptions outcome
    by (Some it) m e finds audit = inl (
      let few = finds.1.0.1 in omega arith,
      (finds.0, (finds.1.1.1.0, away finds.0 it finds.1.1.1.1)),
    )
    by None (Some it) e finds audit = inr (
      audit.0,
      (audit.1.0, (sym (same_Some it name e) ∙ audit.1.1.0, (audit.1.1.1, (let sum = finds.0 in omega arith, finds.1.1)))),
    )
    by None None e finds audit = cc

  pub is_whole_of : option_or first missing ≡ None → IsWhole submitters subscriptions outcome
  is_whole_of is = by first missing is closes.finds audited where
    held_none : (number : ℕ) → outcome.held.items ≡ [] → IsAmong number outcome.held.items → ⊥
    held_none number none is_held = let no : None ≡ Some number = sym (ap (λ held. slice_get held is_held.0) none) ∙ is_held.1 in cc

    given : outcome.held.items ≡ [] → (number : ℕ)
        → HasLane number outcome.lanes.items ⊎ IsAmong number outcome.held.items → HasLane number outcome.lanes.items
    given none number (inl lane) = lane
    given none number (inr is_held) = absurd (held_none number none is_held)

    by : (f m : Option (List ℕ)) → option_or f m ≡ None
        → FindsFirst told replied founds (length founds) outcome.lanes.items outcome.held.items f
        → AreAudited submitters outcome.published dropping m → IsWhole submitters subscriptions outcome
    by (Some it) m e finds audit = cc
    by None (Some it) e finds audit = cc
    by None None e finds audit = record {
      made = let sum = finds.0 in omega arith;
      none_left_out = λ number handed. given finds.1.1 number (rest_given.given number handed);
      none_held = finds.1.1;
      published = sym audit.0;
      dropped = λ i left at.
          let few = drops_at told replied subscriptions founds dropping drained outcome first out same closes i left at in
          let sum = audit.1 in omega arith;
    }

-- what the end of a publisher gives, by what was taken out from behind its lock
module _ {B H : Type 0} (told : B → List Signal) (replied : B → List Reply) (submitters : List SubmitterState)
    (subscriptions : List SubscriptionState) (books : Books B) (dropping : ℕ) (result : Result (Outcome B H) (Refusal × Outcome B H))
    (ends : AreTakenOut subscriptions books.founds.items books.published dropping books.drained)
    (counted : ends_of books.founds.items + books.reclaimed ≡ books.made)
    (audited : AreAudited submitters books.published dropping books.missing) (concludes : Concludes told replied books result) where
  counted_is : ends_of books.founds.items + (outcome_of result).reclaimed ≡ (outcome_of result).made
  counted_is = let made = concludes.made in let reclaimed = concludes.reclaimed in omega arith

  out : AreTakenOut subscriptions books.founds.items (outcome_of result).published dropping books.drained
  out = subst (λ n. AreTakenOut subscriptions books.founds.items n dropping books.drained) (sym concludes.published) ends

  audit : AreAudited submitters (outcome_of result).published dropping books.missing
  audit = subst (λ n. AreAudited submitters n dropping books.missing) (sym concludes.published) audited

  pub outcome_is : (log : List Entry) → length log ≡ books.published → AreSentIn log submitters → AreOfLog log books.founds.items
      → (closing : Option Ending) → AreClosedWith closing books.founds.items → IsOutcome told replied submitters (outcome_of result)
  outcome_is log long sent of_log closing closed = is_outcome told replied subscriptions books.founds.items dropping books.drained (outcome_of result)
      concludes.first out concludes.drained concludes.closes submitters log (long ∙ sym concludes.published) sent of_log
      closing closed

  pub handed_is : AreHandedIn subscriptions (outcome_of result).lanes.items
  handed_is = are_handed_in told replied submitters subscriptions books.founds.items dropping books.drained
      (outcome_of result) concludes.first books.missing out concludes.drained counted_is concludes.closes audit concludes.ordered

  pub reclaimed_is : AreReclaimed (outcome_of result)
  reclaimed_is = are_reclaimed told replied submitters subscriptions books.founds.items dropping books.drained
      (outcome_of result) concludes.first books.missing out concludes.drained counted_is concludes.closes audit

  pub finishes_is : (AnyKnows submitters → books.is_closed ≡ true) → (books.drained ≡ true → books.is_closed ≡ true)
      → Finishes submitters subscriptions result
  finishes_is knows closed = by (option_or concludes.first books.missing) refl where
    missing : (name : List ℕ) (other : Result (Outcome B H) (Refusal × Outcome B H)) (outcome : Outcome B H)
        → IsMissing name submitters subscriptions (outcome_of other) → IsRestGiven subscriptions (outcome_of other)
        → other ≡ Err (Refusal.StillHeld name, outcome)
        → Finishes submitters subscriptions other
    missing name other outcome is rest same = subst (λ r. Finishes submitters subscriptions r) (sym same) (
      subst (λ r. IsMissing name submitters subscriptions (outcome_of r)) same is,
      subst (λ r. IsRestGiven subscriptions (outcome_of r)) same rest,
    )

    by : (name : Option (List ℕ)) → option_or concludes.first books.missing ≡ name → Finishes submitters subscriptions result
    by (Some name) e =
        let held = concludes.missing name e in
        missing name result held.0 (is_missing_of told replied submitters subscriptions books.founds.items dropping
        books.drained (outcome_of result) concludes.first books.missing out concludes.drained counted_is concludes.closes audit name e)
        (rest_given told replied submitters subscriptions books.founds.items dropping books.drained
        (outcome_of result) concludes.first books.missing out concludes.drained counted_is concludes.closes audit) held.1
    by None e = finishes submitters subscriptions (outcome_of result) books.is_closed result (concludes.judged e)
        (is_whole_of told replied submitters subscriptions books.founds.items dropping books.drained
        (outcome_of result) concludes.first books.missing out concludes.drained counted_is concludes.closes audit e)
        knows (λ last. closed (sym concludes.drained ∙ last))

-- an outcome without lanes
pub nothing_is : {B H : Type 0} (told : B → List Signal) (replied : B → List Reply) (submitters : List SubmitterState)
    (outcome : Outcome B H) → IsNothing outcome → ArePublished submitters outcome.published → IsOutcome told replied submitters outcome
nothing_is told replied submitters outcome none sent = record {
  lanes = [];
  as_many = sym (ap length none.no_lanes);
  each = λ i left lane at on. cc;
  agreed = λ i j k n one other x y at. cc;
  log = sent.log;
  long = sent.long;
  sent = sent.sent;
  content = λ i k one x at. cc;
  closing = None;
  closed = λ i lane ending at. cc;
  drained = λ last i left at. let no : None ≡ Some left = sym (ap (λ lanes. slice_get lanes i) none.no_lanes) ∙ at in cc;
  late = λ i left at. let no : None ≡ Some left = sym (ap (λ lanes. slice_get lanes i) none.no_lanes) ∙ at in cc;
}

pub few_of_none : (lanes held reclaimed made : ℕ) → lanes ≡ 0 → held ≡ 0 → reclaimed ≤ made → (lanes + held) + reclaimed ≤ made
few_of_none lanes held reclaimed made no_lanes none_held few = omega arith

-- the answers of what was closed
module _ {B H : Type 0} (told : B → List Signal) (replied : B → List Reply) (books : Books B)
    (first : Option (List ℕ)) (outcome : Outcome B H)
    (closes : ClosesAll told replied books.founds.items (length books.founds.items) outcome.lanes.items
    outcome.held.items first) (ordered : AreInOrder outcome.lanes.items)
    (made : outcome.made ≡ books.made) (reclaimed : outcome.reclaimed ≡ books.reclaimed) (published : outcome.published ≡ books.published) (drained : outcome.drained ≡ books.drained) where
  pub concludes_held : (name : List ℕ) → option_or first books.missing ≡ Some name
      → Concludes told replied books (Err (Refusal.StillHeld name, outcome))
  concludes_held name is = record {
    first = first;
    closes = closes;
    ordered = ordered;
    made = made;
    reclaimed = reclaimed;
    published = published;
    drained = drained;
    missing = λ other e. (outcome, ap (λ (n : List ℕ). Err (Refusal.StillHeld n, outcome)) (same_Some name other (sym is ∙ e)));
    judged = λ none. let never : Some name ≡ None = sym is ∙ none in cc;
  }

  pub concludes_judged : (result : Result (Outcome B H) (Refusal × Outcome B H))
      → option_or first books.missing ≡ None → Judges outcome books.is_closed result → Concludes told replied books result
  concludes_judged result is judges =
      let same = judged_same [] [] outcome books.is_closed result judges in
      record {
        first = first;
        closes = subst (λ (o : Outcome B H). ClosesAll told replied books.founds.items (length books.founds.items)
            o.lanes.items o.held.items first) (sym same) closes;
        ordered = subst (λ (o : Outcome B H). AreInOrder o.lanes.items) (sym same) ordered;
        made = ap (λ (o : Outcome B H). o.made) same ∙ made;
        reclaimed = ap (λ (o : Outcome B H). o.reclaimed) same ∙ reclaimed;
        published = ap (λ (o : Outcome B H). o.published) same ∙ published;
        drained = ap (λ (o : Outcome B H). o.drained) same ∙ drained;
        missing = λ other e. let never : None ≡ Some other = sym is ∙ e in cc;
        judged = λ none. subst (λ o. Judges o books.is_closed result) (sym same) judges;
      }
