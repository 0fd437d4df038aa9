-- What `sub` leaves of a session.
use Rattle.std.proofs.Common.{◌≡◌, inl, inr, ℕ, ◌+◌, ◌-◌, ◌<◌, ◌≤◌, true, false, None, List, [], ◌∷◌, ◌++◌, length, length-append, length-drop, drop, refl, sym, ap, subst, ◌∙◌, arith}
use Rattle.std.specs.Prelude.{All, count_by, Vec}
use Rattle.std.specs.declared.alloc.Global.{Global}
use Rattle.std.proofs.lemmas.List.{append-nil, length-map}
use Rattle.std.proofs.lemmas.List.Elements.{All-head, All-push, All-tail}
use Rattle.feed_core.specs.Feed.{DoesCall, end_of}
use Rattle.publisher_hub.specs.Hub.{hub_of}
use Rattle.publisher_hub.specs.Sound.{IsSound}
use Rattle.publisher_hub.specs.Subscribing.{Admits, CanAdmit, IsPrepared, Refuses}
use Rattle.publisher_hub.specs.declared.hub.Hub.{Hub}
use Rattle.publisher_hub.specs.declared.work.Work.{Work}
use Rattle.lines_demo.specs.Prelude.{DeskState, Refusal, desk_after_demand}
use Rattle.lines_demo.specs.Script.Kept.{IsReachable}
use Rattle.lines_demo.specs.Script.Playing.{Replies}
use Rattle.lines_demo.specs.Script.Session.{IsScriptHub, IsSession, numbers_of, state_of, subscription_of}
use Rattle.lines_demo.specs.Script.State.{SubscriptionState, SessionState}
use Rattle.lines_demo.specs.Script.Subscribing.{USUAL_LIVE, MOST_ENTRIES, desk_at_start, is_subscribed, state_after_subscribing, sub_result}
use Rattle.lines_demo.specs.Script.Waking.{is_live}
use Rattle.commands.specs.declared.reply.Reply.{Reply}
use Rattle.commands.specs.declared.reply.Reply.TheVariants.{Name, Refused}
use Rattle.lines_demo.proofs.Sessions.Answered.{IsAnswered, answered}
use Rattle.lines_demo.proofs.Sessions.Admissions.{admitted_due, admitted_publisher, admitted_state, may_subscribe, refused_exhausted, refused_full, refused_stock}
use Rattle.lines_demo.proofs.Sessions.Duplicates.{told_publisher, told_state, told_subscribed}
use Rattle.lines_demo.proofs.Woken.Few.{few_woken}
use Rattle.lines_demo.proofs.Kept.Commands.{sub_reached}
use Rattle.lines_demo.proofs.Sessions.Looked.{IsSameSession, session_looked}
use Rattle.lines_demo.proofs.Scripts.Replying.{sub_against, sub_done, sub_duplicate, sub_no_buffer, sub_no_memory}
use Rattle.lines_demo.proofs.Sessions.SeenPublishers.{seen_as_far, seen_count, seen_in_part_as_far, seen_in_part_same, seen_same, seen_unnamed}
use Rattle.lines_demo.proofs.Sessions.States.{room_for}
use Rattle.lines_demo.specs.declared.script.session.beginning.Beginning.{Beginning}

-- nobody is left if the first can't be taken
pub nobody : {A : Type 0} (stock rest : List A) → stock ≡ rest → rest ≡ drop 1 stock → length stock ≡ 0
nobody stock rest same dropped = let fewer : length stock ≡ length stock - 1 = ap length (same ∙ dropped) ∙ length-drop 1 stock in omega (arith, fewer)

-- one fewer is left if it is
pub one_fewer : {A : Type 0} (first : A) (stock rest : List A) → stock ≡ first ∷ rest
    → (0 < length stock) × (length rest ≡ length stock - 1)
one_fewer first stock rest cut = let more : length stock ≡ length rest + 1 = ap length cut ∙ omega arith in (omega (arith, more), omega (arith, more))

-- and as many as before if one goes to the end
pub one_back : {A : Type 0} (first last : A) (stock rest now : List A) → stock ≡ first ∷ rest → now ≡ rest ++ last ∷ []
    → length now ≡ length stock
one_back first last stock rest now cut back =
    let more : length stock ≡ length rest + 1 = ap length cut ∙ omega arith in
    let again : length now ≡ length rest + 1 = ap length back ∙ length-append rest (last ∷ []) in
    omega (arith, more, again)

-- what held of all holds of all then
pub all_back : {A : Type 0} (P : A → Type 0) (first last : A) (stock rest now : List A) → stock ≡ first ∷ rest → last ≡ first
    → now ≡ rest ++ last ∷ [] → All P stock → All P now
all_back P first last stock rest now cut same back all =
    let cut_all : All P (first ∷ rest) = subst (All P) cut all in
    subst (All P) (sym back) (All-push P rest last (All-tail P first rest cut_all) (subst P (sym same) (All-head P first rest cut_all)))

-- a session after `sub` was answered so
abbrev pub AnswersSub : SessionState → List ℕ → ℕ → Reply → Hub DeskState → ℕ → List ℕ → Type 0
AnswersSub old name number reply hub stock woken = IsAnswered (λ refusals. sub_result old refusals name number) reply hub stock woken old.beginning

-- a reply that the definition gives leaves a session
answers : (old : SessionState) (name : List ℕ) (number : ℕ) (reply : Reply) (hub : Hub DeskState) (stock : ℕ) (woken : List ℕ)
    → old.beginning.is_over ≡ true → IsReachable old → IsScriptHub hub
    → Replies (λ refusals. sub_result old refusals name number) reply (state_of hub stock woken old.beginning) → AnswersSub old name number reply hub stock woken
answers old name number reply hub stock woken begun reached publisher replies =
    answered (λ refusals. sub_result old refusals name number) reply hub stock woken old.beginning begun publisher replies (λ refusals. sub_reached old refusals name number begun reached)

module _ (old : Hub DeskState) (stock : ℕ) (woken : List ℕ) (beginning : Beginning) (name : List ℕ) (number : ℕ) (is : IsSession old stock woken beginning) (begun : beginning.is_over ≡ true) where
  -- where the script stands before
  abbrev start : SessionState
  start = state_of old stock woken beginning

  -- ---- the publisher refuses

  -- a script sees nothing of what has changed
  unseen : (new : Hub DeskState) (due : List (Work Unit)) (refusal : Refusal) → IsSameSession old new stock woken beginning → due ≡ []
      → Replies (λ refusals. sub_result start refusals name number) (Refused refusal) start → AnswersSub start name number (Refused refusal) new stock (woken ++ numbers_of due)
  unseen new due refusal same none replies =
      let woken_same : woken ++ numbers_of due ≡ woken = ap (λ d. woken ++ numbers_of d) none ∙ append-nil woken in
      rw woken_same (answers start name number (Refused refusal) new stock woken begun is.reached same.session.publisher
      (subst (λ (s : SessionState). Replies (λ refusals. sub_result start refusals name number) (Refused refusal) s) (sym same.state) replies))

  -- looks leave the script where it stood
  seen_session : (new : Hub DeskState) → IsPrepared end_of DoesCall old new → IsSound (hub_of end_of new)
      → IsSameSession old new stock woken beginning
  seen_session new seen sound = session_looked old new stock woken beginning is sound (seen_as_far old new seen) (seen_same old new is.publisher seen)

  -- as many were made as are stored
  seen_made : (new : Hub DeskState) → IsPrepared end_of DoesCall old new → length new.entries.items ≡ length start.subscriptions
  seen_made new seen =
      sym (length-map new.entries.items subscription_of) ∙ ap (λ (s : List SubscriptionState). length s) (seen_same old new is.publisher seen).same

  -- whatever the refusal, it is answered, and leaves what the definition says
  pub refused : (new : Hub DeskState) (due : List (Work Unit)) (refusal : Refusal) → IsSound (hub_of end_of new)
      → Refuses end_of DoesCall name USUAL_LIVE refusal [] due old new
      → AnswersSub start name number (Refused refusal) new stock (woken ++ numbers_of due)
  refused new due Refusal.Duplicate sound (middle, (seen, tells)) =
      let replies = sub_duplicate start name number (told_subscribed old middle new name due is.publisher seen tells) in
      answers start name number (Refused Refusal.Duplicate) new stock (woken ++ numbers_of due) begun is.reached (told_publisher old middle new name due is.publisher seen tells sound)
      (subst (λ (s : SessionState). Replies (λ refusals. sub_result start refusals name number) (Refused Refusal.Duplicate) s) (sym (told_state old middle new name due is.publisher seen tells stock woken beginning is.reached)) replies)
  refused new due Refusal.NoMemory sound (inl part, none) =
      let same = session_looked old new stock woken beginning is sound (seen_in_part_as_far old new part) (seen_in_part_same old new is.publisher part) in
      unseen new due Refusal.NoMemory same none (sub_no_memory start name number)
  refused new due Refusal.NoMemory sound (inr finds, none) =
      unseen new due Refusal.NoMemory (seen_session new finds.seen sound) none (sub_no_memory start name number)
  refused new due Refusal.TooMany sound (finds, none) =
      let full : USUAL_LIVE ≤ count_by is_live start.subscriptions = subst (λ n. USUAL_LIVE ≤ n) (seen_count old new is.publisher finds.seen) finds.why in
      unseen new due Refusal.TooMany (seen_session new finds.seen sound) none
      (sub_against start name number Refusal.TooMany (seen_unnamed old new name is.publisher finds.seen finds.unnamed) (refused_full start full))
  refused new due Refusal.Exhausted sound (finds, none) =
      let few : count_by is_live start.subscriptions < USUAL_LIVE = subst (λ n. n < USUAL_LIVE) (seen_count old new is.publisher finds.seen) finds.why.0 in
      let made : length start.subscriptions ≡ MOST_ENTRIES = sym (seen_made new finds.seen) ∙ finds.why.1 in
      unseen new due Refusal.Exhausted (seen_session new finds.seen sound) none
      (sub_against start name number Refusal.Exhausted (seen_unnamed old new name is.publisher finds.seen finds.unnamed) (refused_exhausted start few made))
  refused new due Refusal.BadCapacity sound refuses = absurd refuses.0.why
  refused new due (Refusal.Closed ending) sound refuses = absurd refuses.0.why
  refused new due Refusal.LineTooLong sound refuses = absurd refuses.0.why
  refused new due Refusal.BadWorkers sound refuses = absurd refuses.0.why
  refused new due (Refusal.StillHeld held) sound refuses = absurd refuses.0.why
  refused new due (Refusal.Unsettled names) sound refuses = absurd refuses.0.why
  refused new due Refusal.Unknown sound refuses = absurd refuses.0.why
  refused new due Refusal.WouldWait sound refuses = absurd refuses.0.why
  refused new due Refusal.BadCommand sound refuses = absurd refuses.0.why

  -- ---- the publisher allows it

  module _ (new : Hub DeskState) (due : Vec (Work Unit) Global) (seen : IsPrepared end_of DoesCall old new) (can : CanAdmit end_of name USUAL_LIVE new due) (sound : IsSound (hub_of end_of new)) where
    -- nobody live has the name
    free : is_subscribed name start.subscriptions ≡ false
    free = seen_unnamed old new name is.publisher seen can.unnamed

    -- fewer are live than may be
    few : count_by is_live start.subscriptions < USUAL_LIVE
    few = subst (λ n. n < USUAL_LIVE) (seen_count old new is.publisher seen) can.place.few_live

    -- fewer were made than may be
    made : length start.subscriptions < MOST_ENTRIES
    made = subst (λ n. n < MOST_ENTRIES) (seen_made new seen) can.place.few_entries

    -- fewer are woken than may be live
    pub few_are_woken : length woken < USUAL_LIVE
    few_are_woken = let woken_few = few_woken start is.reached.1.woken in let live_few = few in omega (arith, woken_few, live_few)

    -- nobody is left who could subscribe
    pub finds_nobody : stock ≡ 0 → AnswersSub start name number (Refused Refusal.TooMany) new stock woken
    finds_nobody none =
        answers start name number (Refused Refusal.TooMany) new stock woken begun is.reached (seen_session new seen sound).session.publisher
        (subst (λ (s : SessionState). Replies (λ refusals. sub_result start refusals name number) (Refused Refusal.TooMany) s) (sym (seen_session new seen sound).state)
        (sub_against start name number Refusal.TooMany free (refused_stock start few made none)))

    -- memory is refused for the buffer
    pub gets_no_buffer : 0 < stock → AnswersSub start name number (Refused Refusal.NoMemory) new stock woken
    gets_no_buffer some =
        answers start name number (Refused Refusal.NoMemory) new stock woken begun is.reached (seen_session new seen sound).session.publisher
        (subst (λ (s : SessionState). Replies (λ refusals. sub_result start refusals name number) (Refused Refusal.NoMemory) s) (sym (seen_session new seen sound).state)
        (sub_no_buffer start name number free (may_subscribe start few made some)))

    -- the next one subscribes
    pub admitted : (after : Hub DeskState) (entry : ℕ) (feed : DeskState) (started : List (Work Unit)) → 0 < stock
        → feed ≡ desk_after_demand number (desk_at_start beginning.order new.capacity)
        → Admits end_of DoesCall name feed None USUAL_LIVE entry [] started new after → IsSound (hub_of end_of after)
        → AnswersSub start name number (Name name) after (stock - 1) (woken ++ entry ∷ [])
    admitted after entry feed started some requested admits sound_after =
        let publisher = (seen_session new seen sound).session.publisher in
        let state = admitted_state new after beginning name number entry feed started publisher requested admits stock woken in
        let same = (seen_session new seen sound).state in
        let replies = sub_done start name number free (may_subscribe start few made some) in
        answers start name number (Name name) after (stock - 1) (woken ++ entry ∷ []) begun is.reached (admitted_publisher new after beginning name number entry feed started publisher requested admits sound_after)
        (subst (λ (s : SessionState). Replies (λ refusals. sub_result start refusals name number) (Name name) s)
        (ap (λ (s : SessionState). state_after_subscribing name number s) (sym same) ∙ sym state) replies)

    -- nothing is due then
    pub admitted_starts_nothing : (after : Hub DeskState) (entry : ℕ) (feed : DeskState) (started : List (Work Unit))
        → feed ≡ desk_after_demand number (desk_at_start beginning.order new.capacity)
        → Admits end_of DoesCall name feed None USUAL_LIVE entry [] started new after → started ≡ []
    admitted_starts_nothing after entry feed started requested admits = admitted_due new after beginning name number entry feed started (seen_session new seen sound).session.publisher requested admits

-- there is room for all whom it woke
pub room_after : (old : SessionState) (name : List ℕ) (number : ℕ) (reply : Reply) (hub : Hub DeskState) (stock : ℕ) (woken : List ℕ) (due : List (Work Unit)) → AnswersSub old name number reply hub stock (woken ++ numbers_of due)
    → length woken + length due ≤ USUAL_LIVE
room_after old name number reply hub stock woken due answer =
    room_for (state_of hub stock (woken ++ numbers_of due) old.beginning) woken due answer.session.reached refl
