-- The greeting is the first step of the turn that its callbacks' answers make.
use Rattle.std.proofs.Common.{◌≡◌, ℕ, ◌≤◌, Bool, true, false, List, [], ◌∷◌, ◌++◌, length, Option, None, Some, Ok, refl, ap, sym, ◌∙◌, subst, inl, arith}
use Rattle.std.proofs.lemmas.List.{append-nil}
use Rattle.feed_core.specs.Prelude.{Answer, Item, Signal, Subscribed, How, Causes, Outlook, Again, Resting, Ended, ITEMS_IN_A_TURN, items_of}
use Rattle.feed_core.specs.Accounts.{AccountsFor, IsAccounted}
use Rattle.feed_core.specs.AnsweredTurn.{Reply, refused, obeyed, ended_as, called, and_then, looks_within, turn_after}
use Rattle.feed_core.specs.Cause.{with_cause_of}
use Rattle.feed_core.specs.Desk.{DeskState, Owes, started_after}
use Rattle.feed_core.specs.Lane.{LaneState, IsFlow}
use Rattle.feed_core.specs.PlainTurn.{greeting}
use Rattle.feed_core.specs.Sound.{is_begun, terminal_part, lane_of, IsInOrder}
use Rattle.feed_core.specs.Steps.{Greets, IsGreetedBy, Obeys}
use Rattle.feed_core.proofs.Lanes.Accounts.{accounts_answered, accounts_refused, gives_none}
use Rattle.feed_core.proofs.Lanes.FlowRules.{all_counted, flow_kept}
use Rattle.feed_core.proofs.Desks.Steps.{has_cause, no_cause}
use Rattle.feed_core.proofs.Turns.Looks.{desk_of, part_refused}
use Rattle.feed_core.proofs.Lanes.ObeyedAnswers.{in_order_obeying, obeying_goes_on, obeying_greeted, obeying_how, obeying_loss}

-- nothing was told to a subscriber that was not greeted
pub untold : (told : List Signal) → is_begun told ≡ false → told ≡ []
untold [] e = refl
untold (s ∷ told) e = cc

-- who was told something is not greeted again
no_greeting : (told : List Signal) → is_begun told ≡ true → [] ≡ greeting told
no_greeting [] e = cc
no_greeting (s ∷ told) e = refl

-- and his turn begins with the looks
begun_turn : (told : List Signal) (lane : LaneState) (replies : List Reply) → is_begun told ≡ true
    → turn_after told lane replies ≡ looks_within ITEMS_IN_A_TURN replies lane
begun_turn [] lane replies e = cc
begun_turn (s ∷ told) lane replies e = refl

-- the subscriber was greeted before
pub greets_begun : (desk : DeskState) (seen : List Signal) → Owes desk → is_begun desk.lane.told ≡ true → IsFlow desk.lane
    → IsAccounted desk → Greets desk desk seen seen Again
greets_begun desk seen owed begun flow accounted = record {
  last = [];
  replies = [];
  shape = no_greeting desk.lane.told begun;
  seen_after = sym (append-nil seen);
  part = record {
    recorded = sym (append-nil desk.lane.told);
    answered = refl;
    replied = sym (append-nil desk.replied);
    accepted = refl;
    grows = omega arith;
    how = owed.1;
    started = owed.0;
    capacity = refl;
    looks = refl;
    requested = refl;
    badly = refl;
    cancelled = refl;
    steady = λ steady. steady;
    plain = λ steady. tt;
    goes_on = λ steady. refl;
    flow = flow;
    accounted = accounted;
    below = gives_none desk desk refl;
  };
  given = refl;
  left = λ more. begun_turn desk.lane.told desk.lane more begun;
}

-- the task of a subscription that was greeted runs on
runs_on : (outlook : Outlook) (told last : List Signal) → IsGreetedBy outlook told last → true ≡ started_after outlook
runs_on Again told last shape = refl
runs_on Resting told last shape = absurd shape
runs_on (Ended how) told last shape = refl

module _ {told : List Signal} {held : List Item} {given asked capacity : ℕ} {causes : Causes} {how : Option How} {started : Bool}
    (kept : IsInOrder (lane_of told held given asked causes how) held capacity started) (unended : how ≡ None) (runs : started ≡ true) (nothing : told ≡ []) where
  -- nothing was given to a subscriber that was not greeted
  none_given : given ≡ 0
  none_given = all_counted kept.sound unended ∙ ap (λ text. length (items_of text)) nothing

  -- onSubscribe adds no item
  pub greeted_items : {told' : List Signal} → told' ≡ told ++ Subscribed ∷ [] → items_of told' ++ held ≡ items_of told ++ held
  greeted_items grows = ap (λ text. items_of text ++ held) (grows ∙ ap (λ text. text ++ Subscribed ∷ []) nothing) ∙ ap (λ text. items_of text ++ held) (sym nothing)

  -- onSubscribe keeps a Desk in order
  pub in_order_greeted : {told' : List Signal} → told' ≡ told ++ Subscribed ∷ []
      → IsInOrder (lane_of told' held given asked causes how) held capacity started
  in_order_greeted {told'} grows =
      let whole : told' ≡ Subscribed ∷ [] = grows ∙ ap (λ text. text ++ Subscribed ∷ []) nothing in
      let none = none_given in
      let long : length (items_of told ++ held) ≡ length held = ap (λ text. length (items_of text ++ held)) nothing in
      let fits = kept.fits in
      let requested = kept.sound.counts.requested in
      subst (λ text. IsInOrder (lane_of text held given asked causes how) held capacity started) (sym whole) (record {
        sound = record {
          told_is = ap (λ h. Subscribed ∷ terminal_part h) (sym unended);
          in_order = (held, refl);
          counts = record { tells = omega arith; loses = omega arith; taken = omega arith; requested = requested };
          cause = no_cause (lane_of (Subscribed ∷ []) held given asked causes how) unended;
          unfailed = kept.sound.unfailed;
          remembered = kept.sound.remembered;
        };
        holds = refl;
        fits = omega arith;
        rests = λ e. cc;
      })

  -- so does the end if it was refused memory
  pub in_order_ungreeted : {told' : List Signal} → told' ≡ told
      → IsInOrder (lane_of told' held given asked (with_cause_of How.OutOfMemory causes) (Some How.OutOfMemory)) held capacity started
  in_order_ungreeted {told'} same =
      let whole : told' ≡ [] = same ∙ nothing in
      let none = none_given in
      let long : length (items_of told ++ held) ≡ length held = ap (λ text. length (items_of text ++ held)) nothing in
      let fits = kept.fits in
      let requested = kept.sound.counts.requested in
      subst (λ text. IsInOrder (lane_of text held given asked (with_cause_of How.OutOfMemory causes) (Some How.OutOfMemory)) held capacity started) (sym whole) (record {
        sound = record {
          told_is = refl;
          in_order = (held, refl);
          counts = record { tells = omega arith; loses = omega arith; taken = omega arith; requested = requested };
          cause = has_cause (lane_of [] held given asked causes how) How.OutOfMemory [] held refl tt;
          unfailed = λ e. cc;
          remembered = λ e. cc;
        };
        holds = refl;
        fits = omega arith;
        rests = λ e. cc;
      })

  module _ {requested : ℕ} {badly cancelled : Bool} {replied : List Reply} (accounts : AccountsFor requested badly cancelled (lane_of told held given asked causes how) replied) where
    -- no reply came before
    none_replied : replied ≡ []
    none_replied = accounts.fresh unended (ap is_begun nothing)

    -- onSubscribe was told, and its answer was obeyed
    pub accounts_greeted : {told' : List Signal} {replied' : List Reply} {asked' : ℕ} {causes' : Causes} {how' : Option How} {outlook : Outlook} (answer : Answer)
        → replied' ≡ replied ++ Ok answer ∷ [] → told' ≡ told ++ Subscribed ∷ [] → Obeys answer asked asked' causes causes' how how' outlook
        → AccountsFor requested badly cancelled (lane_of told' held given asked' causes' how') replied'
    accounts_greeted answer replies grows obeys =
        accounts_answered accounts unended answer obeys replies (ap is_begun (grows ∙ ap (λ text. text ++ Subscribed ∷ []) nothing)) (ap length none_replied ∙ sym none_given)

    pub greets_told : {told' : List Signal} {seen seen' : List Signal} {steady steady' : Bool} {looks : ℕ} {replied' : List Reply}
        {asked' : ℕ} {causes' : Causes} {how' : Option How} {outlook : Outlook} (answer : Answer)
        → replied' ≡ replied ++ Ok answer ∷ [] → told' ≡ told ++ Subscribed ∷ [] → seen' ≡ seen ++ Subscribed ∷ []
        → asked ≤ asked' → Obeys answer asked asked' causes causes' how how' outlook
        → (steady ≡ true → steady' ≡ true) → (steady ≡ true → answer ≡ Answer.Go)
        → Greets (desk_of (lane_of told held given asked causes how) capacity started steady looks requested badly cancelled replied)
        (desk_of (lane_of told' held given asked' causes' how') capacity started steady' looks requested badly cancelled replied') seen seen' outlook
    greets_told {told'} {steady = steady} {steady' = steady'} {looks = looks} {replied' = replied'} {asked' = asked'} {causes' = causes'} {how' = how'} {outlook = outlook} answer replies grows seen_grows more_asked obeys stays goes =
        let old : LaneState = lane_of told held given asked causes how in
        let mid : LaneState = lane_of told' held given asked causes how in
        let new : LaneState = lane_of told' held given asked' causes' how' in
        let same : obeyed answer mid ≡ record { lane = new; outlook = outlook } = obeys mid in
        let accepted : new.accepted ≡ old.accepted = greeted_items grows in
        let begun : is_begun told' ≡ true = ap is_begun (grows ∙ ap (λ text. text ++ Subscribed ∷ []) nothing) in
        let shape = obeying_greeted answer mid _ same in
        let call : called Subscribed (Ok answer) old ≡ record { lane = new; outlook = outlook } =
        (λ k. obeyed answer (record old { accepted = sym accepted k; told = sym grows k })) ∙ same in
        record {
          last = Subscribed ∷ [];
          replies = Ok answer ∷ [];
          shape = subst (λ text. IsGreetedBy outlook text (Subscribed ∷ [])) (sym nothing) shape;
          seen_after = seen_grows;
          part = record {
            recorded = grows;
            answered = let none = obeying_loss answer mid _ same in omega (arith, none);
            replied = replies;
            accepted = accepted;
            grows = more_asked;
            how = obeying_how answer mid _ unended same;
            started = runs ∙ runs_on outlook [] (Subscribed ∷ []) shape;
            capacity = refl;
            looks = refl;
            requested = refl;
            badly = refl;
            cancelled = refl;
            steady = stays;
            plain = λ steady. (goes steady, tt);
            goes_on = λ steady. obeying_goes_on answer mid Subscribed _ same (goes steady);
            flow = flow_kept (in_order_obeying (in_order_greeted grows) unended runs begun answer more_asked obeys).sound;
            accounted = accounts_greeted answer replies grows obeys;
            below = gives_none (desk_of old capacity started steady looks requested badly cancelled replied) (desk_of new capacity started steady' looks requested badly cancelled replied') refl;
          };
          given = refl;
          left = λ more. ap (λ text. turn_after text old (Ok answer ∷ more)) nothing ∙ ap (λ after. and_then after (looks_within ITEMS_IN_A_TURN more)) call;
        }

    -- onSubscribe was refused memory
    pub greets_refused : {told' : List Signal} {seen seen' : List Signal} {steady steady' : Bool} {looks : ℕ} {replied' : List Reply}
        → replied' ≡ replied ++ refused ∷ [] → told' ≡ told → seen' ≡ seen → (steady ≡ true → steady' ≡ true)
        → Greets (desk_of (lane_of told held given asked causes how) capacity started steady looks requested badly cancelled replied)
        (desk_of (lane_of told' held given asked (with_cause_of How.OutOfMemory causes) (Some How.OutOfMemory)) capacity started steady' looks requested badly cancelled replied') seen seen' (Ended How.OutOfMemory)
    greets_refused {told'} {seen} {steady = steady} {steady' = steady'} {looks = looks} {replied' = replied'} replies same_told same_seen stays =
        let old : LaneState = lane_of told held given asked causes how in
        let new : LaneState = lane_of told' held given asked (with_cause_of How.OutOfMemory causes) (Some How.OutOfMemory) in
        let accepted : items_of told' ++ held ≡ items_of told ++ held = ap (λ text. items_of text ++ held) same_told in
        record {
          last = [];
          replies = refused ∷ [];
          shape = (inl refl, refl);
          seen_after = same_seen ∙ sym (append-nil seen);
          part = part_refused replies (accounts_refused accounts unended replies (let enough = accounts.called in omega (arith, enough)) refl refl refl)
              (gives_none (desk_of old capacity started steady looks requested badly cancelled replied) (desk_of new capacity started steady' looks requested badly cancelled replied') refl)
              same_told accepted (omega arith) refl (flow_kept (in_order_ungreeted same_told).sound) runs stays;
          given = refl;
          left = λ more.
              ap (λ text. turn_after text old (refused ∷ more)) nothing
              ∙ ap (λ after. and_then after (looks_within ITEMS_IN_A_TURN more)) (λ k. ended_as How.OutOfMemory (record old { accepted = sym accepted k; told = sym same_told k }));
        }
