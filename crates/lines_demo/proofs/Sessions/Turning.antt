-- A session after the turn of the first of its woken.
use Rattle.std.proofs.Common.{◌≡◌, ℕ, ◌<◌, Bool, true, false, ◌&&◌, Option, None, Some, List, ◌∷◌, length, set, refl, sym, ap, subst, ◌∙◌, arith}
use Rattle.std.specs.Prelude.{is_none, is_some, option_map, slice_get}
use Rattle.feed_core.specs.declared.cause.Causes.{Causes}
use Rattle.feed_core.specs.Desk.{Owes}
use Rattle.feed_core.specs.Feed.{end_of}
use Rattle.feed_core.specs.Turn.{causes_after, is_again}
use Rattle.publisher_hub.specs.Lending.{MayBecome, feed_at}
use Rattle.publisher_hub.specs.declared.hub.Facts.{Facts}
use Rattle.publisher_hub.specs.declared.hub.Hub.{Hub}
use Rattle.lines_demo.specs.Prelude.{DeskState, How, Outlook, Signal, desk_after_turn, owes}
use Rattle.lines_demo.specs.Script.Acting.{OwesTurn, TurnsOn}
use Rattle.lines_demo.specs.Script.Playing.{MakesTurn}
use Rattle.lines_demo.specs.Script.Running.{most_turns}
use Rattle.lines_demo.specs.Script.Session.{IsScriptHub, IsSession, state_of}
use Rattle.lines_demo.specs.Script.State.{SessionState, SubscriptionState}
use Rattle.lines_demo.specs.Script.Waking.{owes_if_there, owes_turn}
use Rattle.lines_demo.specs.declared.script.session.Session.TheInside.{Inside}
use Rattle.lines_demo.proofs.HubCalls.Looks.{with_desk}
use Rattle.lines_demo.proofs.Sessions.Inside.{state_inside, woken_with}
use Rattle.lines_demo.proofs.Sessions.Lent.{end_there, lent_one, lent_publisher, lent_stands, lent_state, steady_there}
use Rattle.lines_demo.proofs.Kept.SearchedNames.{known_facts, known_name}
use Rattle.lines_demo.proofs.Sessions.Turns.{first_owes, turn_reached}
use Rattle.lines_demo.proofs.Scripts.Turns.{turn_fewer}
use Rattle.lines_demo.specs.declared.script.session.beginning.Beginning.{Beginning}

-- who owes a turn is there
pub owes_there : (subscriptions : List SubscriptionState) (number : ℕ) → owes_turn subscriptions number ≡ true
    → (s : SubscriptionState) × (slice_get subscriptions number ≡ Some s)
owes_there subscriptions number owed = by (slice_get subscriptions number) refl owed where
  by : (found : Option SubscriptionState) → slice_get subscriptions number ≡ found → owes_if_there found ≡ true
      → (s : SubscriptionState) × (slice_get subscriptions number ≡ Some s)
  by None is owes = cc
  by (Some s) is owes = (s, is)

-- what has a name is known
named_there : (found : Option Facts) (name : List ℕ) → option_map (λ (facts : Facts). facts.name) found ≡ Some name → is_some found ≡ true
named_there None name is = cc
named_there (Some facts) name is = refl

-- it owes it, as its call asks for it
owed_by : (desk : DeskState) → owes desk ≡ true → Owes desk
owed_by desk owed = (started desk.started owed, unended desk.started desk.lane.how owed) where
  started : (b : Bool) → (b && is_none desk.lane.how) ≡ true → b ≡ true
  started true e = refl
  started false e = cc

  unended : (b : Bool) (how : Option How) → (b && is_none how) ≡ true → how ≡ None
  unended true None e = refl
  unended true (Some how) e = cc
  unended false how e = cc

-- a turn closes nothing
same_closing : (outlook : Outlook) (causes : Causes) → (causes_after outlook causes).closing ≡ causes.closing
same_closing Outlook.Again causes = refl
same_closing Outlook.Resting causes = refl
same_closing (Outlook.Ended How.Completed) causes = refl
same_closing (Outlook.Ended (How.Errored fault)) causes = refl
same_closing (Outlook.Ended How.Cancelled) causes = refl
same_closing (Outlook.Ended (How.Failed code)) causes = refl
same_closing (Outlook.Ended How.OutOfMemory) causes = refl

-- a session after the turn of the first of its woken
pub record HasTurned (old : SessionState) (hub : Hub DeskState) (stock : ℕ) (woken : List ℕ) (beginning : Beginning) (name : List ℕ) (told : List Signal) (outlook : Outlook) : Type 0 where
  pub session : IsSession hub stock woken beginning
  pub makes : MakesTurn old (state_of hub stock woken beginning) name told outlook
  pub fewer : most_turns (state_of hub stock woken beginning) < most_turns old

module _ {B : Type 0} (session : Inside B) (is : IsSession session.hub (length session.stock.items) session.woken session.beginning) (number : ℕ) (rest : List ℕ) (first : session.woken ≡ number ∷ rest) where
  -- where it stood
  abbrev pub state : SessionState
  state = state_inside session

  -- the first of the woken is there
  there : (s : SubscriptionState) × (slice_get state.subscriptions number ≡ Some s)
  there = owes_there state.subscriptions number (first_owes state number rest is.reached first)

  -- it is known
  pub first_known : is_some (known_facts session.hub.entries.items number) ≡ true
  first_known =
      named_there (known_facts session.hub.entries.items number) there.0.name
      (known_name session.hub.entries.items number ∙ ap (option_map (λ (s : SubscriptionState). s.name)) there.1)

  owed : (before : DeskState) → feed_at session.hub number ≡ Some before → Owes before
  owed before at = owed_by before (sym (ap owes_if_there (lent_stands session.hub number before before at)) ∙ first_owes state number rest is.reached first)

  -- it owes a turn
  pub first_turn : OwesTurn number session.hub
  first_turn =
      let desk = end_there session.hub number there.0 is.publisher there.1 in
      record { desk = desk.0; stands = desk.1; owed = owed desk.0 desk.1; steady = steady_there session.hub number desk.0 is.publisher desk.1 }

  module _ (new : Hub DeskState) (told : List Signal) (outlook : Outlook) (name : List ℕ) (again : Bool) (turns : TurnsOn number session.hub told outlook new)
      (named : option_map (λ (facts : Facts). facts.name) (known_facts session.hub.entries.items number) ≡ Some name) (woken_again : again ≡ is_again outlook) where
    -- the desk of the subscription whose turn it was, before and after
    abbrev pub before : DeskState
    before = turns.before

    abbrev pub after : DeskState
    after = desk_after_turn before told outlook

    abbrev pub turner : DeskState → SubscriptionState
    turner = with_desk (lent_one session.hub number before after turns.stood).entry

    name_is : (turner before).name ≡ name
    name_is = value (ap (option_map (λ (s : SubscriptionState). s.name)) (sym (lent_stands session.hub number before after turns.stood)) ∙ sym (known_name session.hub.entries.items number) ∙ named) where
      value : {a b : List ℕ} → Some a ≡ Some b → a ≡ b
      value e = cc

    -- where it stands then
    abbrev pub turned_state : SessionState
    turned_state = state_of new (length session.stock.items) (woken_with rest number again) session.beginning

    makes_turn : MakesTurn state turned_state name told outlook
    makes_turn = record {
      number = number;
      rest = rest;
      before = turner before;
      woken = first;
      stands = lent_stands session.hub number before after turns.stood;
      named = name_is;
      plain = turns.plain;
      after =
          ap (λ hub. state_of hub (length session.stock.items) (woken_with rest number again) session.beginning) turns.left
          ∙ lent_state session.hub number before after turns.stood (length session.stock.items) (woken_with rest number again) session.beginning
          ∙ ap (λ b. record state { subscriptions = set state.subscriptions number (turner after); woken = woken_with rest number b }) woken_again;
    }

    becomes : MayBecome (end_of before) (end_of after)
    becomes = record {
      capacity = refl;
      accepted = refl;
      closing = same_closing outlook before.lane.causes;
      seen = omega arith;
      over = λ over. (let never : false ≡ true = ap is_some (sym (owed before turns.stood).1) ∙ over in cc);
    }

    -- what it leaves
    pub turned : HasTurned state new (length session.stock.items) (woken_with rest number again) session.beginning name told outlook
    turned = record {
      session = record {
        publisher = subst IsScriptHub (sym turns.left) (lent_publisher session.hub number before after turns.stood is.publisher becomes refl);
        reached = turn_reached state turned_state name told outlook is.reached makes_turn;
        fresh = λ unread. (let nobody = sym first ∙ ap (λ (s : SessionState). s.woken) (is.fresh unread) in cc);
      };
      makes = makes_turn;
      fewer = turn_fewer state turned_state name told outlook is.reached makes_turn;
    }
