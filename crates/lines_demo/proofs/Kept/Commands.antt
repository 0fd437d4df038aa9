-- Each command of a script keeps what its subscriptions keep, and that just those who owe a turn are woken.
use Rattle.std.proofs.Common.{◌≡◌, ◌==◌, ℕ, zero, suc, ◌+◌, ◌-◌, Bool, true, false, not, ◌&&◌, if◌then◌else◌, nat_lt, List, [], ◌∷◌, ◌++◌, length, map, refl, sym, ap, subst, ◌∙◌, Option, Some, None, ◌<◌, ◌≤◌}
use Rattle.std.specs.Prelude.{All, is_some, is_none, count_by}
use Rattle.std.specs.List.{list_any}
use Rattle.std.proofs.lemmas.List.Elements.{All-nil, All-cons, All-head, All-tail, All-push, All-map, All-weaker}
use Rattle.feed_core.specs.Desk.{desk_after_signal, desk_after_duplicate}
use Rattle.feed_core.specs.LaneCalls.{lane_with_item, lane_with_closing}
use Rattle.feed_core.proofs.Desks.Sound.{owes_live}
use Rattle.lines_demo.specs.Prelude.{Item, Ending, ErrorOrder, AfterItems, Refusal, LONGEST_TEXT, owes, is_gone, lag_of}
use Rattle.commands.specs.Word.{is_word}
use Rattle.lines_demo.specs.Script.State.{SubscriptionState, SessionState, CommandResult, refused_result, unchanged_result, result_unless_no_memory}
use Rattle.lines_demo.specs.Script.Waking.{is_live, owes_turn, with_subscriptions}
use Rattle.lines_demo.specs.Script.Subscribing.{USUAL_LIVE, new_subscription, is_live_as, is_subscribed, subscription_after_duplicate, subscribing_refusal, subscribing_unless, duplicate_result, sub_result}
use Rattle.lines_demo.specs.Script.Publishing.{next_item, subscription_after_offer, state_after_publication, publication_refusal, refusal_or_wait, submit_refusal, publication_unless, publication_result, is_full, offered_reply, retried_reply, submitted_reply}
use Rattle.lines_demo.specs.Script.Obeying.{cap_result, late_state, late_result, begun_state, desk_after_act, is_known, subscriptions_after_act, act_result, subscription_after_closing, state_after_closing, closing_result, command_result}
use Rattle.lines_demo.specs.Script.Kept.{IsKept, IsLawful, IsReachable}
use Rattle.lines_demo.specs.Script.Laws.{WakesWhoOwes}
use Rattle.commands.specs.declared.command.Command.{Command}
use Rattle.commands.specs.declared.command.Command.TheVariants.{Cap, Late, Sub, Offer, Retry, Submit, Request, Cancel, Close, Fail, Run}
use Rattle.lines_demo.specs.declared.script.session.acting.Act.{Act}
use Rattle.commands.specs.declared.reply.Reply.{Reply}
use Rattle.commands.specs.declared.reply.Reply.TheVariants.{Done, Ordered}
use Rattle.lines_demo.proofs.Sessions.Acts.{act_owes}
use Rattle.lines_demo.proofs.Kept.Subscriptions.{kept_act, kept_duplicate, kept_closing, kept_offer, kept_new, texts_with}
use Rattle.lines_demo.proofs.Kept.LiveSubscriptions.{duplicate_live, offer_live, closing_live, live_map, acts_live, room_for_one, live_push}
use Rattle.lines_demo.proofs.Kept.OneName.{duplicate_named, offer_named, closing_named, one_map, one_act, one_push}
use Rattle.lines_demo.proofs.Woken.Lists.{wakes_with, owes_map, owes_append}

-- a call that keeps each subscription and forgets nobody's turn
lawful_with : (texts : ℕ → List ℕ) (state : SessionState) (now : List SubscriptionState) → (state.beginning.is_over ≡ false → now ≡ [])
    → WakesWhoOwes state → All (IsKept texts state.serial state.beginning.order state.closing) now
    → ((number : ℕ) → owes_turn state.subscriptions number ≡ true → owes_turn now number ≡ true) → count_by is_live now ≤ USUAL_LIVE → ((name : List ℕ) → count_by (is_live_as name) now ≤ 1) → IsLawful texts (with_subscriptions now state)
lawful_with texts state now none woken kept owed few names = record { subscriptions = kept; none_yet = none; woken = wakes_with state now woken owed; few = few; names = names }

-- a test keeps it if both of its answers do
either : (b : Bool) (p q : CommandResult) → IsReachable p.state → IsReachable q.state → IsReachable (if b then p else q).state
either true p q is_p is_q = is_p
either false p q is_p is_q = is_q

-- a point at which memory may be refused keeps it if the call does
unless_reached : (state : SessionState) (refusals : List Bool) (call : List Bool → CommandResult) → IsReachable state
    → ((left : List Bool) → IsReachable (call left).state)
    → IsReachable (result_unless_no_memory state refusals call).state
unless_reached state [] call is calls = calls []
unless_reached state (false ∷ refusals) call is calls = calls refusals
unless_reached state (true ∷ refusals) call is calls = is

-- ---- whose turn is kept

duplicate_owes : (name : List ℕ) (s : SubscriptionState) → owes s.desk ≡ true → owes (subscription_after_duplicate name s).desk ≡ true
duplicate_owes name s owed = by (is_live_as name s) where
  by : (live : Bool) → owes (if live then record s { desk = desk_after_duplicate s.desk } else s).desk ≡ true
  by true = ap is_none (owes_live s.desk owed)
  by false = owed

offer_owes : (item : Item) (s : SubscriptionState) → owes s.desk ≡ true → owes (subscription_after_offer item s).desk ≡ true
offer_owes item s owed = by (is_gone s.desk.lane) (lag_of s.desk.lane == s.desk.capacity) where
  by : (gone full : Bool) → owes (if not gone && not full then desk_after_signal s.desk (lane_with_item item s.desk.lane) else s.desk) ≡ true
  by true full = owed
  by false true = owed
  by false false = ap is_none (owes_live s.desk owed)

closing_owes : (ending : Ending) (s : SubscriptionState) → owes s.desk ≡ true → owes (subscription_after_closing ending s).desk ≡ true
closing_owes ending s owed = by (is_live s) (is_some s.desk.lane.causes.closing) where
  by : (live closed : Bool) → owes (if live then record s { desk = if closed then s.desk else desk_after_signal s.desk (lane_with_closing ending s.desk.lane) } else s).desk ≡ true
  by false closed = owed
  by true true = owed
  by true false = ap is_none (owes_live s.desk owed)

acts_owe : (name : List ℕ) (act : Act) (subscriptions : List SubscriptionState) (k : ℕ) → owes_turn subscriptions k ≡ true
    → owes_turn (subscriptions_after_act name act subscriptions) k ≡ true
acts_owe name act [] k owed = owed
acts_owe name act (s ∷ later) k owed = by (is_known name later) (is_word s.name name) k owed (acts_owe name act later) where
  by : (known named : Bool) (k : ℕ) → owes_turn (s ∷ later) k ≡ true
      → ((j : ℕ) → owes_turn later j ≡ true → owes_turn (subscriptions_after_act name act later) j ≡ true)
      → owes_turn (if known then s ∷ subscriptions_after_act name act later else (if named then (record s { desk = desk_after_act act s.desk }) ∷ later else s ∷ later)) k ≡ true
  by true named zero owed rest = owed
  by true named (suc j) owed rest = rest j owed
  by false true zero owed rest = act_owes act s.desk owed
  by false true (suc j) owed rest = owed
  by false false k owed rest = owed

-- ---- `sub`

subscribing_reached : (state : SessionState) (refusals : List Bool) (name : List ℕ) (number : ℕ) (why : Option Refusal)
    → state.beginning.is_over ≡ true → is_subscribed name state.subscriptions ≡ false
    → (why ≡ None → count_by is_live state.subscriptions < USUAL_LIVE)
    → IsReachable state → IsReachable (subscribing_unless why state refusals name number).state
subscribing_reached state refusals name number (Some refusal) begun free room is = is
subscribing_reached state refusals name number None begun free room is =
    let texts = is.0 in
    let lawful = is.1 in
    let new = new_subscription state name number in
    let left : SessionState = record state { stock = state.stock - 1 } in
    let kept = All-push (IsKept texts state.serial state.beginning.order state.closing) state.subscriptions new lawful.subscriptions (kept_new texts state name number) in
    unless_reached state refusals _ is (λ more. (texts, lawful_with texts left (state.subscriptions ++ new ∷ []) (λ unread. (let never : true ≡ false = sym begun ∙ unread in cc)) lawful.woken kept (owes_append state.subscriptions (new ∷ [])) (live_push state.subscriptions new (room refl)) (one_push state.subscriptions new free lawful.names)))

duplicate_reached : (state : SessionState) (refusals : List Bool) (name : List ℕ) → IsReachable state
    → IsReachable (duplicate_result state refusals name).state
duplicate_reached state refusals name is =
    let texts = is.0 in
    let lawful = is.1 in
    let change = subscription_after_duplicate name in (
      texts,
      lawful_with texts state (map change state.subscriptions) (λ unread. ap (map change) (lawful.none_yet unread)) lawful.woken
          (All-map (IsKept texts state.serial state.beginning.order state.closing) change state.subscriptions
          (All-weaker (IsKept texts state.serial state.beginning.order state.closing) (λ s. IsKept texts state.serial state.beginning.order state.closing (change s)) (one texts) state.subscriptions lawful.subscriptions))
          (owes_map change (duplicate_owes name) state.subscriptions)
          (subst (λ n. n ≤ USUAL_LIVE) (sym (live_map change (duplicate_live name) state.subscriptions)) lawful.few)
          (one_map change state.subscriptions (λ other s. duplicate_named other name s) lawful.names),
    ) where
      one : (texts : ℕ → List ℕ) (s : SubscriptionState) → IsKept texts state.serial state.beginning.order state.closing s
          → IsKept texts state.serial state.beginning.order state.closing (subscription_after_duplicate name s)
      one texts s kept = by (is_live_as name s) where
        by : (live : Bool) → IsKept texts state.serial state.beginning.order state.closing (if live then record s { desk = desk_after_duplicate s.desk } else s)
        by true = kept_duplicate texts state.serial state.beginning.order state.closing s kept
        by false = kept

pub sub_reached : (state : SessionState) (refusals : List Bool) (name : List ℕ) (number : ℕ) → state.beginning.is_over ≡ true
    → IsReachable state → IsReachable (sub_result state refusals name number).state
sub_reached state refusals name number begun is =
    unless_reached state refusals _ is
    (λ left. by left (is_subscribed name state.subscriptions) refl) where
      by : (left : List Bool) (live : Bool) → is_subscribed name state.subscriptions ≡ live
          → IsReachable (if live then duplicate_result state left name else subscribing_unless (subscribing_refusal state) state left name number).state
      by left true e = duplicate_reached state left name is
      by left false e = subscribing_reached state left name number (subscribing_refusal state) begun e (room_for_one state) is

-- ---- publications

pub published_reached : (state : SessionState) (text : List ℕ) → state.closing ≡ None → IsReachable state
    → IsReachable (state_after_publication text state)
published_reached state text unclosed is =
    let texts = is.0 in
    let lawful = is.1 in
    let change = subscription_after_offer (next_item state text) in
    let more = texts_with state.serial text texts in
    let open_kept : All (IsKept texts state.serial state.beginning.order None) state.subscriptions = subst (λ closing. All (IsKept texts state.serial state.beginning.order closing) state.subscriptions) unclosed lawful.subscriptions in
    let kept : All (IsKept more (state.serial + 1) state.beginning.order None) (map change state.subscriptions) =
    All-map (IsKept more (state.serial + 1) state.beginning.order None) change state.subscriptions
    (All-weaker (IsKept texts state.serial state.beginning.order None) (λ s. IsKept more (state.serial + 1) state.beginning.order None (change s)) (kept_offer texts state.serial state.beginning.order text) state.subscriptions open_kept) in (
      more,
      lawful_with more (record state { serial = state.serial + 1 }) (map change state.subscriptions) (λ unread. ap (map change) (lawful.none_yet unread)) lawful.woken
          (subst (λ closing. All (IsKept more (state.serial + 1) state.beginning.order closing) (map change state.subscriptions)) (sym unclosed) kept)
          (owes_map change (offer_owes (next_item state text)) state.subscriptions)
          (subst (λ n. n ≤ USUAL_LIVE) (sym (live_map change (offer_live (next_item state text)) state.subscriptions)) lawful.few)
          (one_map change state.subscriptions (λ name s. offer_named name (next_item state text) s) lawful.names),
    )

-- nothing is published by a closed publisher
pub unclosed_if : (state : SessionState) → publication_refusal state ≡ None → state.closing ≡ None
unclosed_if state allowed = by state.closing refl allowed where
  by : (closing : Option Ending) → state.closing ≡ closing → publication_refusal (record state { closing = closing }) ≡ None
      → state.closing ≡ None
  by None e allowed = e
  by (Some ending) e allowed = cc

unless_refused_reached : (why : Option Refusal) (reply : Item → List SubscriptionState → Reply) (state : SessionState) (refusals : List Bool) (text : List ℕ) → (why ≡ None → publication_refusal state ≡ None)
    → IsReachable state → IsReachable (publication_unless why reply state refusals text).state
unless_refused_reached (Some refusal) reply state refusals text allowed is = is
unless_refused_reached None reply state refusals text allowed is = published_reached state text (unclosed_if state (allowed refl)) is

publication_reached : (refusal_of : SessionState → Option Refusal) (reply : Item → List SubscriptionState → Reply) (state : SessionState) (refusals : List Bool) (text : List ℕ)
    → (refusal_of state ≡ None → publication_refusal state ≡ None) → IsReachable state → IsReachable (publication_result refusal_of reply state refusals text).state
publication_reached refusal_of reply state refusals text allowed is =
    either (nat_lt LONGEST_TEXT (length text)) _ _ is (unless_reached state refusals _ is (λ left. unless_refused_reached (refusal_of state) reply state left text allowed is))

-- what may be submitted may be published
submit_allowed : (state : SessionState) → submit_refusal state ≡ None → publication_refusal state ≡ None
submit_allowed state allowed = by (publication_refusal state) (list_any is_full state.subscriptions) allowed where
  by : (why : Option Refusal) (waits : Bool) → refusal_or_wait why waits ≡ None → why ≡ None
  by None waits e = refl
  by (Some refusal) waits e = cc

-- ---- acts, closings, `cap` and `late`

acts_kept : (texts : ℕ → List ℕ) (next : ℕ) (order : ErrorOrder) (closed : Option Ending) (name : List ℕ) (act : Act) (subscriptions : List SubscriptionState) → All (IsKept texts next order closed) subscriptions
    → All (IsKept texts next order closed) (subscriptions_after_act name act subscriptions)
acts_kept texts next order closed name act [] kept = kept
acts_kept texts next order closed name act (s ∷ later) kept =
    by (is_known name later) (is_word s.name name) (acts_kept texts next order closed name act later (All-tail (IsKept texts next order closed) s later kept)) where
      first : IsKept texts next order closed s
      first = All-head (IsKept texts next order closed) s later kept

      rest : All (IsKept texts next order closed) later
      rest = All-tail (IsKept texts next order closed) s later kept

      by : (known named : Bool) → All (IsKept texts next order closed) (subscriptions_after_act name act later)
          → All (IsKept texts next order closed) (if known then s ∷ subscriptions_after_act name act later else (if named then (record s { desk = desk_after_act act s.desk }) ∷ later else s ∷ later))
      by true named after = All-cons (IsKept texts next order closed) s (subscriptions_after_act name act later) first after
      by false true after = All-cons (IsKept texts next order closed) (record s { desk = desk_after_act act s.desk }) later (kept_act texts next order closed s act first) rest
      by false false after = kept

pub act_reached : (state : SessionState) (refusals : List Bool) (name : List ℕ) (act : Act) → IsReachable state
    → IsReachable (act_result state refusals name act).state
act_reached state refusals name act is =
    let texts = is.0 in
    let lawful = is.1 in
    either (is_known name state.subscriptions) _ _ (
      texts,
      lawful_with texts state (subscriptions_after_act name act state.subscriptions) (λ unread. ap (subscriptions_after_act name act) (lawful.none_yet unread)) lawful.woken
          (acts_kept texts state.serial state.beginning.order state.closing name act state.subscriptions lawful.subscriptions)
          (acts_owe name act state.subscriptions)
          (subst (λ n. n ≤ USUAL_LIVE) (sym (acts_live name act state.subscriptions)) lawful.few)
          (one_act name act state.subscriptions lawful.names),
    )
    is

pub closing_reached : (ending : Ending) (state : SessionState) (refusals : List Bool) → IsReachable state
    → IsReachable (closing_result ending state refusals).state
closing_reached ending state refusals is = by state.closing refl where
  open_kept : state.closing ≡ None → All (IsKept is.0 state.serial state.beginning.order None) state.subscriptions
  open_kept e = subst (λ closing. All (IsKept is.0 state.serial state.beginning.order closing) state.subscriptions) e is.1.subscriptions

  by : (closing : Option Ending) → state.closing ≡ closing
      → IsReachable (if is_some closing then unchanged_result state refusals Done
      else result_unless_no_memory state refusals (λ left. record { reply = Done; state = state_after_closing ending state; refusals = left })).state
  by (Some other) e = is
  by None e =
      let change = subscription_after_closing ending in
      unless_reached state refusals (λ left. record { reply = Done; state = state_after_closing ending state; refusals = left }) is
      (λ left. (
        is.0,
        lawful_with is.0 (record state { closing = Some ending }) (map change state.subscriptions) (λ unread. ap (map change) (is.1.none_yet unread)) is.1.woken
            (All-map (IsKept is.0 state.serial state.beginning.order (Some ending)) change state.subscriptions
            (All-weaker (IsKept is.0 state.serial state.beginning.order None) (λ s. IsKept is.0 state.serial state.beginning.order (Some ending) (change s)) (kept_closing is.0 state.serial state.beginning.order ending) state.subscriptions (open_kept e)))
            (owes_map change (closing_owes ending) state.subscriptions)
            (subst (λ n. n ≤ USUAL_LIVE) (sym (live_map change (closing_live ending) state.subscriptions)) is.1.few)
            (one_map change state.subscriptions (λ name s. closing_named name ending s) is.1.names),
      ))

cap_reached : (state : SessionState) (refusals : List Bool) (capacity : ℕ) → IsReachable state
    → IsReachable (cap_result state refusals capacity).state
cap_reached state refusals capacity is =
    either state.beginning.is_over _ _ is
    (either (capacity == 0) _ _ is (unless_reached state refusals _ is (λ left. (is.0, record { subscriptions = is.1.subscriptions; none_yet = is.1.none_yet; woken = is.1.woken; few = is.1.few; names = is.1.names }))))

-- nobody has subscribed who would be told errors in another order
late_reached : (state : SessionState) (refusals : List Bool) → IsReachable state → IsReachable (late_result state refusals).state
late_reached state refusals is = by state.beginning.is_over refl where
  by : (over : Bool) → state.beginning.is_over ≡ over
      → IsReachable (if over then refused_result state refusals Refusal.BadCommand else record { reply = Ordered; state = late_state state; refusals = refusals }).state
  by true e = is
  by false e = (
    is.0,
    record {
      subscriptions = subst (λ (l : List SubscriptionState). All (IsKept is.0 state.serial AfterItems state.closing) l) (sym (is.1.none_yet e)) (All-nil (IsKept is.0 state.serial AfterItems state.closing));
      none_yet = is.1.none_yet;
      woken = is.1.woken;
      few = is.1.few;
      names = is.1.names;
    },
  )

-- ---- commands

-- the end of the beginning changes no subscription
begun_reached : (state : SessionState) → IsReachable state → IsReachable (begun_state state)
begun_reached state is = (is.0, record { subscriptions = is.1.subscriptions; none_yet = λ never. cc; woken = is.1.woken; few = is.1.few; names = is.1.names })

-- each command leaves a script where it may stand
pub command_reached : (command : Command) (state : SessionState) (refusals : List Bool) → IsReachable state
    → IsReachable (command_result command state refusals).state
command_reached (Cap capacity) state refusals is = cap_reached state refusals capacity is
command_reached Late state refusals is = late_reached state refusals is
command_reached (Sub name number) state refusals is = sub_reached (begun_state state) refusals name number refl (begun_reached state is)
command_reached (Offer text) state refusals is = publication_reached publication_refusal offered_reply (begun_state state) refusals text (λ allowed. allowed) (begun_reached state is)
command_reached (Retry text) state refusals is = publication_reached publication_refusal retried_reply (begun_state state) refusals text (λ allowed. allowed) (begun_reached state is)
command_reached (Submit text) state refusals is = publication_reached submit_refusal submitted_reply (begun_state state) refusals text (submit_allowed (begun_state state)) (begun_reached state is)
command_reached (Request name number) state refusals is = act_reached (begun_state state) refusals name (Act.Request number) (begun_reached state is)
command_reached (Cancel name) state refusals is = act_reached (begun_state state) refusals name Act.Cancel (begun_reached state is)
command_reached Close state refusals is = closing_reached Ending.Normal (begun_state state) refusals (begun_reached state is)
command_reached (Fail code) state refusals is = closing_reached (Ending.Failed code) (begun_state state) refusals (begun_reached state is)
command_reached Run state refusals is = begun_reached state is
