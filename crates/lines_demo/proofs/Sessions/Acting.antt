-- A session after the owner of a subscription did something to it.
use Rattle.std.proofs.Common.{◌≡◌, ℕ, ◌<◌, Bool, true, if◌then◌else◌, Some, List, [], ◌∷◌, ◌++◌, length, map, set, sym, ap, subst, ◌∙◌, arith}
use Rattle.std.specs.Prelude.{IsSome, is_some, slice_get}
use Rattle.publisher_hub.specs.Lending.{feed_at}
use Rattle.publisher_hub.specs.declared.hub.Hub.{Hub}
use Rattle.publisher_hub.specs.declared.work.Work.{Work}
use Rattle.lines_demo.specs.Prelude.{DeskState}
use Rattle.lines_demo.specs.Script.Acting.{ActsOn}
use Rattle.commands.specs.Word.{is_word}
use Rattle.lines_demo.specs.Script.Obeying.{act_result, desk_after_act, subscriptions_after_act}
use Rattle.lines_demo.specs.Script.Playing.{IsLatest, Replies}
use Rattle.lines_demo.specs.Script.Session.{IsScriptHub, IsSession, state_of, subscription_of}
use Rattle.lines_demo.specs.Script.State.{SessionState, SubscriptionState}
use Rattle.lines_demo.specs.Script.Subscribing.{USUAL_LIVE}
use Rattle.lines_demo.specs.Script.Waking.{newly_woken, with_subscriptions}
use Rattle.commands.specs.declared.reply.Reply.TheVariants.{Done}
use Rattle.lines_demo.specs.declared.script.session.acting.Act.{Act}
use Rattle.lines_demo.specs.declared.script.session.Session.TheInside.{Inside}
use Rattle.lines_demo.proofs.Sessions.Acts.{act_becomes, act_steady, act_without_looks}
use Rattle.lines_demo.proofs.Sessions.Answered.{IsAnswered, answered}
use Rattle.lines_demo.proofs.HubCalls.Looks.{with_desk}
use Rattle.lines_demo.proofs.Sessions.Inside.{state_inside, woken_with}
use Rattle.lines_demo.proofs.Kept.Commands.{act_reached}
use Rattle.lines_demo.proofs.Kept.LatestNames.{act_latest, somebody_known}
use Rattle.lines_demo.proofs.Sessions.Lent.{end_there, lent_one, lent_publisher, lent_stands, lent_state}
use Rattle.lines_demo.proofs.Scripts.Replying.{act_done}
use Rattle.lines_demo.proofs.Sessions.States.{room_for}
use Rattle.lines_demo.proofs.Woken.StartedNumbers.{newly_woken_one}

-- the latest subscription of a name has its end
pub latest_there : (hub : Hub DeskState) (name : List ℕ) (k : ℕ) → IsScriptHub hub
    → IsLatest name (map subscription_of hub.entries.items) (Some k) → IsSome (feed_at hub k)
latest_there hub name k is latest = ap is_some (end_there hub k latest.0 is latest.1.0).1

module _ {B : Type 0} (session : Inside B) (new : Hub DeskState) (name : List ℕ) (act : Act) (k : ℕ) (is_started : Bool) (is : IsSession session.hub (length session.stock.items) session.woken session.beginning)
    (begun : session.beginning.is_over ≡ true) (latest : IsLatest name (state_inside session).subscriptions (Some k)) (acts : ActsOn act k session.hub is_started new) where
  -- where it stood
  abbrev pub state : SessionState
  state = state_inside session

  -- where it stands
  abbrev pub new_state : SessionState
  new_state = state_of new (length session.stock.items) (woken_with session.woken k is_started) session.beginning

  -- the subscription and its desk before and after
  abbrev pub before : DeskState
  before = acts.before

  abbrev pub after : DeskState
  after = desk_after_act act before

  abbrev pub owned : DeskState → SubscriptionState
  owned = with_desk (lent_one session.hub k before after acts.stood).entry

  stands : slice_get state.subscriptions k ≡ Some (owned before)
  stands = lent_stands session.hub k before after acts.stood

  named : is_word (owned before).name name ≡ true
  named = subst (λ (s : SubscriptionState). is_word s.name name ≡ true) (value (sym latest.1.0 ∙ stands)) latest.1.1.0 where
    value : {a b : SubscriptionState} → Some a ≡ Some b → a ≡ b
    value e = cc

  -- what the definition says of the subscriptions
  abbrev pub now : List SubscriptionState
  now = subscriptions_after_act name act state.subscriptions

  changed : now ≡ set state.subscriptions k (owned after)
  changed =
      act_latest name act state.subscriptions k (owned before) stands named (λ later s past there. latest.1.1.1 later s past there)
      ∙ ap (λ desk. set state.subscriptions k (record (owned before) { desk = desk })) (sym (act_without_looks act before))

  -- and of whom is woken
  woken_now : (if is_started then k ∷ [] else []) ≡ newly_woken state.subscriptions now
  woken_now =
      ap (λ b. if b then k ∷ [] else []) acts.starts ∙ sym (newly_woken_one state.subscriptions k (owned before) (owned after) stands) ∙ ap (newly_woken state.subscriptions) (sym changed)

  acted_state : new_state ≡ with_subscriptions now state
  acted_state =
      let build : List SubscriptionState → List ℕ → SessionState = λ subscriptions numbers. record state { subscriptions = subscriptions; woken = numbers } in
      ap (λ hub. state_of hub (length session.stock.items) (woken_with session.woken k is_started) session.beginning) acts.left
      ∙ lent_state session.hub k before after acts.stood (length session.stock.items) (woken_with session.woken k is_started) session.beginning
      ∙ (λ i. build (sym changed i) (session.woken ++ woken_now i))

  acted_publisher : IsScriptHub new
  acted_publisher = subst IsScriptHub (sym acts.left) (lent_publisher session.hub k before after acts.stood is.publisher (act_becomes act before) (act_steady act before))

  acted_replies : Replies (λ refusals. act_result state refusals name act) Done new_state
  acted_replies = subst (Replies (λ refusals. act_result state refusals name act) Done) (sym acted_state) (act_done state name act (somebody_known name state.subscriptions k latest.0 latest.1.0 latest.1.1.0))

  -- what it leaves
  pub acted : IsAnswered (λ refusals. act_result state refusals name act) Done new (length session.stock.items) (woken_with session.woken k is_started) session.beginning
  acted =
      answered (λ refusals. act_result state refusals name act) Done new (length session.stock.items) (woken_with session.woken k is_started) session.beginning begun acted_publisher acted_replies
      (λ refusals. act_reached state refusals name act is.reached)

  -- and there is room for it to be woken
  pub acted_room : is_started ≡ true → length session.woken < USUAL_LIVE
  acted_room some =
      let one : Work Unit = record { entry = k; task = tt } in
      let room = room_for new_state session.woken (one ∷ []) acted.session.reached (ap (λ b. woken_with session.woken k b) (sym some)) in
      omega arith
