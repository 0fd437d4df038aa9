-- What publications leave of a session.
use Rattle.std.proofs.Common.{◌≡◌, ℕ, ◌+◌, ◌<◌, ◌≤◌, true, ℤ, pos, Ok, List, ◌++◌, length, map, sym, ap, subst, arith}
use Rattle.std.specs.Prelude.{All}
use Rattle.std.proofs.lemmas.List.Elements.{All-weaker}
use Rattle.flow_rules.specs.declared.item.TheConstants.{MOST_PUBLICATIONS}
use Rattle.feed_core.specs.Feed.{end_of}
use Rattle.publisher_hub.specs.Hub.{hub_of}
use Rattle.publisher_hub.specs.Sound.{IsSound}
use Rattle.publisher_hub.specs.declared.hub.Hub.{Hub}
use Rattle.publisher_hub.specs.declared.work.Work.{Work}
use Rattle.lines_demo.specs.Prelude.{Refusal, DeskState}
use Rattle.lines_demo.specs.Script.Kept.{IsKept, IsReachable}
use Rattle.lines_demo.specs.Script.Playing.{IsTextOf, OffersText, RefusesText, Replies}
use Rattle.lines_demo.specs.Script.Publishing.{next_item, state_after_publication, submit_refusal, submit_result, submitted_reply}
use Rattle.lines_demo.specs.Script.Session.{IsSession, numbers_of, state_of, subscription_of}
use Rattle.lines_demo.specs.Script.State.{SubscriptionState, SessionState}
use Rattle.commands.specs.declared.reply.Reply.TheVariants.{Refused, Submitted}
use Rattle.lines_demo.specs.Script.Subscribing.{USUAL_LIVE}
use Rattle.lines_demo.proofs.HubCalls.Offers.{HubOffered, HubPublished, OfferRefused}
use Rattle.lines_demo.proofs.HubCalls.Submits.{HubSubmitted, SubmitRefused, greatest_lag_few}
use Rattle.lines_demo.proofs.Kept.Commands.{published_reached, unclosed_if}
use Rattle.lines_demo.proofs.Sessions.Looked.{session_looked}
use Rattle.lines_demo.proofs.HubCalls.RepliedTexts.{replies_against, replies_submitted}
use Rattle.lines_demo.proofs.Sessions.States.{room_for}
use Rattle.lines_demo.proofs.Sessions.Between.{session_at}
use Rattle.lines_demo.specs.declared.script.session.beginning.Beginning.{Beginning}

module _ (old new : Hub DeskState) (stock : ℕ) (woken : List ℕ) (beginning : Beginning) (is : IsSession old stock woken beginning) where
  module _ (text : List ℕ) (due : List (Work Unit)) (published : HubPublished text old new due) where
    -- where a publication leaves a session, a script may stand
    published_is_reached : IsReachable (state_after_publication text (state_of old stock woken beginning))
    published_is_reached = published_reached (state_of old stock woken beginning) text (unclosed_if (state_of old stock woken beginning) (published.allowed stock woken beginning)) is.reached

    pub published_session : beginning.is_over ≡ true → IsSession new stock (woken ++ numbers_of due) beginning
    published_session begun =
        session_at new stock (woken ++ numbers_of due) beginning (state_after_publication text (state_of old stock woken beginning)) published.script (published.after stock woken beginning) published_is_reached begun

    -- whom it wakes has room among the woken
    pub published_room : length woken + length due ≤ USUAL_LIVE
    published_room =
        room_for (state_after_publication text (state_of old stock woken beginning)) woken due published_is_reached (ap (λ (s : SessionState). s.woken) (published.after stock woken beginning))

  -- a text that was offered, and one that was not
  pub text_offered : (text : List ℕ) (due : List (Work Unit)) (answer : ℤ) → HubOffered text old new due answer
      → OffersText (state_of old stock woken beginning) text answer (state_of new stock (woken ++ numbers_of due) beginning)
  text_offered text due answer offered = record {
    allowed = offered.published.allowed stock woken beginning;
    answers = offered.answers stock woken beginning;
    after = offered.published.after stock woken beginning;
  }

  pub text_refused : (refusal : Refusal) → IsSound (hub_of end_of new) → OfferRefused old new refusal
      → RefusesText (state_of old stock woken beginning) refusal (state_of new stock woken beginning)
  text_refused refusal sound refused = record {
    why = refused.why stock woken beginning;
    same = (session_looked old new stock woken beginning is sound refused.far refused.sees).state;
  }

  -- the lag of a submission is small
  pub lag_small : (text : List ℕ) (due : List (Work Unit)) (lag : ℕ) → HubSubmitted text old new due lag → lag ≤ MOST_PUBLICATIONS + 1
  lag_small text due lag submitted =
      let item = next_item (state_of old stock woken beginning) text in
      let kept = is.reached.1.subscriptions in
      let few = is.publisher.sound.few_items in
      let short : All (λ (s : SubscriptionState). length s.desk.lane.accepted < old.next + 1) (map subscription_of old.entries.items) =
      All-weaker (IsKept is.reached.0 old.next beginning.order old.ending) (λ s. length s.desk.lane.accepted < old.next + 1) (λ s keeps. (let most = keeps.most in omega arith)) (map subscription_of old.entries.items) kept in
      let great = greatest_lag_few item (map subscription_of old.entries.items) (old.next + 1) 0 (omega arith) short in
      let same = submitted.answers stock woken beginning in
      omega arith

  -- what a submission is answered
  pub submitted_replies : (text made : List ℕ) (due : List (Work Unit)) (lag : ℕ) → IsTextOf text (Ok made)
      → HubSubmitted made old new due lag → (state : SessionState) → state_of old stock woken beginning ≡ state
      → (now : List ℕ) → now ≡ woken ++ numbers_of due → (answer : ℤ) → answer ≡ pos lag → Replies (λ refusals. submit_result state refusals text) (Submitted answer) (state_of new stock now beginning)
  submitted_replies text made due lag is_text submitted state at now woken_now answer said =
      subst (λ (s : SessionState). Replies (λ refusals. submit_result s refusals text) (Submitted answer) (state_of new stock now beginning)) at
      (subst (λ numbers. Replies (λ refusals. submit_result (state_of old stock woken beginning) refusals text) (Submitted answer) (state_of new stock numbers beginning)) (sym woken_now)
      (subst (λ (z : ℤ). Replies (λ refusals. submit_result (state_of old stock woken beginning) refusals text) (Submitted z) (state_of new stock (woken ++ numbers_of due) beginning)) (sym said)
      (replies_submitted (state_of old stock woken beginning) (state_of new stock (woken ++ numbers_of due) beginning) text made lag is_text (submitted.allowed stock woken beginning) (submitted.answers stock woken beginning)
      (submitted.published.after stock woken beginning))))

  -- what one is answered that was refused
  pub not_submitted_replies : (text made : List ℕ) (refusal : Refusal) → IsTextOf text (Ok made) → IsSound (hub_of end_of new)
      → SubmitRefused old new refusal → (state : SessionState) → state_of old stock woken beginning ≡ state
      → Replies (λ refusals. submit_result state refusals text) (Refused refusal) (state_of new stock woken beginning)
  not_submitted_replies text made refusal is_text sound refused state at =
      subst (λ (s : SessionState). Replies (λ refusals. submit_result s refusals text) (Refused refusal) (state_of new stock woken beginning)) at
      (replies_against submit_refusal submitted_reply (state_of old stock woken beginning) text (state_of new stock woken beginning) made refusal is_text (refused.why stock woken beginning)
      (session_looked old new stock woken beginning is sound refused.far refused.sees).state)
