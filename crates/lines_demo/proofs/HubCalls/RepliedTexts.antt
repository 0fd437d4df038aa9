-- What a publication is answered, from what became of its text.
use Rattle.std.proofs.Common.{◌≡◌, ◌⊎◌, inl, inr, ℕ, zero, suc, Bool, ℤ, pos, Option, None, Some, Ok, Err, List, refl, sym, ap, subst, ◌∙◌}
use Rattle.lines_demo.specs.Prelude.{Item, Refusal}
use Rattle.lines_demo.specs.Script.Playing.{IsTextOf, OffersText, RefusesText, Replies}
use Rattle.lines_demo.specs.Script.Publishing.{drop_count, drops_in, drops_or_lag, greatest_lag, next_item, offer_answer, publication_refusal, publication_result, offer_result, retry_result, state_after_publication, submit_refusal, submit_result}
use Rattle.lines_demo.specs.Script.State.{SubscriptionState, SessionState}
use Rattle.commands.specs.declared.reply.Reply.{Reply}
use Rattle.commands.specs.declared.reply.Reply.TheVariants.{Offered, Refused, Retried, Submitted}
use Rattle.lines_demo.proofs.Scripts.Replying.{publication_against, publication_done, publication_long, publication_no_memory}

module _ (refusal_of : SessionState → Option Refusal) (reply : Item → List SubscriptionState → Reply) (state : SessionState) (text : List ℕ) where
  -- there is no text
  pub replies_no_text : (refusal : Refusal) → IsTextOf text (Err refusal)
      → Replies (λ refusals. publication_result refusal_of reply state refusals text) (Refused refusal) state
  replies_no_text Refusal.LineTooLong why = publication_long refusal_of reply state text why
  replies_no_text Refusal.NoMemory why = publication_no_memory refusal_of reply state text why
  replies_no_text (Refusal.Closed ending) why = absurd why
  replies_no_text Refusal.Exhausted why = absurd why
  replies_no_text Refusal.BadCapacity why = absurd why
  replies_no_text Refusal.Duplicate why = absurd why
  replies_no_text Refusal.TooMany why = absurd why
  replies_no_text Refusal.BadWorkers why = absurd why
  replies_no_text (Refusal.StillHeld name) why = absurd why
  replies_no_text (Refusal.Unsettled names) why = absurd why
  replies_no_text Refusal.Unknown why = absurd why
  replies_no_text Refusal.WouldWait why = absurd why
  replies_no_text Refusal.BadCommand why = absurd why

  -- it was refused, by a refusal of memory or by the publisher
  pub replies_against : (new : SessionState) (made : List ℕ) (refusal : Refusal) → IsTextOf text (Ok made)
      → (refusal ≡ Refusal.NoMemory) ⊎ (refusal_of state ≡ Some refusal) → new ≡ state
      → Replies (λ refusals. publication_result refusal_of reply state refusals text) (Refused refusal) new
  replies_against new made refusal is why same = subst (Replies (λ refusals. publication_result refusal_of reply state refusals text) (Refused refusal)) (sym same) (by why) where
    by : (refusal ≡ Refusal.NoMemory) ⊎ (refusal_of state ≡ Some refusal)
        → Replies (λ refusals. publication_result refusal_of reply state refusals text) (Refused refusal) state
    by (inl memory) = subst (λ (r : Refusal). Replies (λ refusals. publication_result refusal_of reply state refusals text) (Refused r) state) (sym memory) (publication_no_memory refusal_of reply state text is.0)
    by (inr against) = publication_against refusal_of reply state text refusal is.0 against

-- a text that was not offered
pub replies_refused : (reply : Item → List SubscriptionState → Reply) (old new : SessionState) (text made : List ℕ) (refusal : Refusal)
    → IsTextOf text (Ok made) → RefusesText old refusal new
    → Replies (λ refusals. publication_result publication_refusal reply old refusals text) (Refused refusal) new
replies_refused reply old new text made refusal is refuses = replies_against publication_refusal reply old text new made refusal is refuses.why refuses.same

-- a text that was offered
pub replies_offered : (old new : SessionState) (text made : List ℕ) (answer : ℤ) → IsTextOf text (Ok made)
    → OffersText old made answer new → Replies (λ refusals. offer_result old refusals text) (Offered answer) new
replies_offered old new text made answer is offers =
    let results = λ (refusals : List Bool). offer_result old refusals text in
    let said : answer ≡ offer_answer (next_item old text) old.subscriptions = offers.answers ∙ ap (λ words. offer_answer (next_item old words) old.subscriptions) is.1 in
    let now : new ≡ state_after_publication text old = offers.after ∙ ap (λ words. state_after_publication words old) is.1 in
    subst (Replies results (Offered answer)) (sym now) (subst (λ (a : ℤ). Replies results (Offered a) (state_after_publication text old)) (sym said) (publication_done publication_refusal _ old text is.0 offers.allowed))

-- an answer tells the drops
answered_drops : (drops lag : ℕ) → drops_in (drops_or_lag drops lag) ≡ drops
answered_drops zero lag = refl
answered_drops (suc drops) lag = refl

-- a text that was offered once more if it was dropped
pub replies_retried : (old new : SessionState) (text made : List ℕ) (answer : ℤ) → IsTextOf text (Ok made) → OffersText old made answer new
    → Replies (λ refusals. retry_result old refusals text) (Retried answer (drops_in answer)) new
replies_retried old new text made answer is offers =
    let results = λ (refusals : List Bool). retry_result old refusals text in
    let said : answer ≡ offer_answer (next_item old text) old.subscriptions = offers.answers ∙ ap (λ words. offer_answer (next_item old words) old.subscriptions) is.1 in
    let now : new ≡ state_after_publication text old = offers.after ∙ ap (λ words. state_after_publication words old) is.1 in
    let drops : drop_count old.subscriptions ≡ drops_in (offer_answer (next_item old text) old.subscriptions) =
    sym (answered_drops (drop_count old.subscriptions) (greatest_lag (next_item old text) old.subscriptions)) in
    let plain : Replies results (Retried (offer_answer (next_item old text) old.subscriptions) (drop_count old.subscriptions)) (state_after_publication text old) =
    publication_done publication_refusal _ old text is.0 offers.allowed in
    subst (Replies results (Retried answer (drops_in answer))) (sym now)
    (subst (λ (a : ℤ). Replies results (Retried a (drops_in a)) (state_after_publication text old)) (sym said)
    (subst (λ n. Replies results (Retried (offer_answer (next_item old text) old.subscriptions) n) (state_after_publication text old)) drops plain))

-- a text that was submitted
pub replies_submitted : (old new : SessionState) (text made : List ℕ) (lag : ℕ) → IsTextOf text (Ok made) → submit_refusal old ≡ None
    → lag ≡ greatest_lag (next_item old made) old.subscriptions
    → new ≡ state_after_publication made old → Replies (λ refusals. submit_result old refusals text) (Submitted (pos lag)) new
replies_submitted old new text made lag is allowed answers after =
    let results = λ (refusals : List Bool). submit_result old refusals text in
    let said : lag ≡ greatest_lag (next_item old text) old.subscriptions = answers ∙ ap (λ words. greatest_lag (next_item old words) old.subscriptions) is.1 in
    let now : new ≡ state_after_publication text old = after ∙ ap (λ words. state_after_publication words old) is.1 in
    subst (Replies results (Submitted (pos lag))) (sym now)
    (subst (λ n. Replies results (Submitted (pos n)) (state_after_publication text old)) (sym said) (publication_done submit_refusal _ old text is.0 allowed))
