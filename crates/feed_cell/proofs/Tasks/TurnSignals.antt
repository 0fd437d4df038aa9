-- What a turn did, by what its subscriber was told in all.
use Rattle.std.proofs.Common.{◌↔◌, ◌≡◌, ℕ, suc, ◌+◌, ◌≤◌, ◌<◌, ◌⊎◌, None, true, false, List, [], ◌∷◌, ◌++◌, map, length, Contains, refl, ap, sym, ◌∙◌, subst, inl, inr, arith, append-nil, length-append, append_assoc}
use Rattle.std.proofs.lemmas.List.{append_cancel_left, length-map, map-append}
use Rattle.flow_rules.proofs.Items.{items_of_append}
use Rattle.feed_core.specs.Answered.{own_on, own_since, own_by}
use Rattle.feed_core.specs.AnsweredTurn.{Reply}
use Rattle.feed_core.specs.Cause.{stops}
use Rattle.feed_core.specs.PlainTurn.{terminal_of}
use Rattle.feed_core.specs.Prelude.{Complete, Error, ErrorOrder, Fault, How, IsFlowText, IsTerminalPart, Item, Next, Signal, Subscribed, items_of, total_after}
use Rattle.feed_core.specs.declared.turn.outlook.Outlook.{Outlook}
use Rattle.feed_core.specs.declared.turn.outlook.Outlook.TheVariants.{Again, Resting, Ended}
use Rattle.feed_core.specs.Turn.{EndsIn}
use Rattle.feed_core.proofs.Lists.Signals.{IsTerminal, complete_last, contains_none, error_last, items_of_nexts, terminal_last}
use Rattle.feed_core.proofs.Turns.Loop.{last_contained}
use Rattle.feed_cell.specs.Cell.{greeted}
use Rattle.feed_cell.specs.Parties.{TaskKnows}
use Rattle.feed_cell.specs.TaskAnswers.{EndsSo}
use Rattle.feed_cell.specs.TaskTurns.{IsTextAfter, AreGivenOf, IsToldBefore, AreGranted, AreLastReplies, IsGreeting, IsTurnOf, end_in}
use Rattle.feed_cell.specs.declared.cell.Grant.{Grant}

-- the terminal signal of an outlook, if it has one
abbrev last_of : Outlook → List Signal
last_of Again = []
last_of Resting = []
last_of (Ended how) = terminal_of how

-- a text is empty, at an end by a refusal of memory, or onSubscribe, items and the outlook's terminal signal; the items
-- are those that were taken, or all but the last
abbrev IsShaped : Outlook → List Item → List Signal → Type 0
IsShaped outlook taken text =
    ((text ≡ []) × (taken ≡ []))
    ⊎ ((items : List Item) × (text ≡ greeted items ++ last_of outlook) × AreGivenOf outlook items taken)

pub shaped : (outlook : Outlook) (taken : List Item) (text : List Signal) → IsTextAfter outlook taken text → IsShaped outlook taken text
shaped Again taken text e = inr (taken, e ∙ sym (append-nil (greeted taken)), inl refl)
shaped Resting taken text e = inr (taken, e ∙ sym (append-nil (greeted taken)), inl refl)
shaped (Ended How.Completed) taken text e = inr (taken, e, inl refl)
shaped (Ended (How.Errored fault)) taken text e = inr (taken, e, inl refl)
shaped (Ended How.Cancelled) taken text e = inr (taken, e ∙ sym (append-nil (greeted taken)), inl refl)
shaped (Ended (How.Failed code)) taken text e = inr (taken, e ∙ sym (append-nil (greeted taken)), inl refl)
shaped (Ended How.OutOfMemory) taken text (inl e) = inr (taken, e ∙ sym (append-nil (greeted taken)), inl refl)
shaped (Ended How.OutOfMemory) taken text (inr (inl h)) = inl (h.1, h.0)
shaped (Ended How.OutOfMemory) taken text (inr (inr h)) = inr (h.0, h.3 ∙ sym (append-nil (greeted h.0)), inr (refl, (h.1, h.2)))

-- a terminal part
terminal_is : (outlook : Outlook) → IsTerminalPart (last_of outlook)
terminal_is Again = inl refl
terminal_is Resting = inl refl
terminal_is (Ended How.Completed) = inr (inl refl)
terminal_is (Ended (How.Errored fault)) = inr (inr (fault, refl))
terminal_is (Ended How.Cancelled) = inl refl
terminal_is (Ended (How.Failed _)) = inl refl
terminal_is (Ended How.OutOfMemory) = inl refl

-- it is no item, and one signal at most
last_items : (outlook : Outlook) → items_of (last_of outlook) ≡ []
last_items Again = refl
last_items Resting = refl
last_items (Ended How.Completed) = refl
last_items (Ended (How.Errored fault)) = refl
last_items (Ended How.Cancelled) = refl
last_items (Ended (How.Failed _)) = refl
last_items (Ended How.OutOfMemory) = refl

last_one : (outlook : Outlook) → length (last_of outlook) ≤ 1
last_one Again = omega arith
last_one Resting = omega arith
last_one (Ended How.Completed) = omega arith
last_one (Ended (How.Errored fault)) = omega arith
last_one (Ended How.Cancelled) = omega arith
last_one (Ended (How.Failed _)) = omega arith
last_one (Ended How.OutOfMemory) = omega arith

-- onComplete and onError tell the end
pub completes_by : (outlook : Outlook) → Contains (last_of outlook) Complete → outlook ≡ Ended How.Completed
completes_by Again h = absurd (contains_none Complete h)
completes_by Resting h = absurd (contains_none Complete h)
completes_by (Ended how) h = ap Ended (complete_last how h)

pub errs_by : (outlook : Outlook) (fault : Fault) → Contains (last_of outlook) (Error fault) → outlook ≡ Ended (How.Errored fault)
errs_by Again fault h = absurd (contains_none (Error fault) h)
errs_by Resting fault h = absurd (contains_none (Error fault) h)
errs_by (Ended how) fault h = ap Ended (error_last how fault h)

-- the Flow rules allow it
pub allowed_by : (outlook : Outlook) (taken : List Item) (text : List Signal) → IsShaped outlook taken text → IsFlowText text
allowed_by outlook taken text (inl h) = inl h.0
allowed_by outlook taken text (inr h) = inr (h.0, last_of outlook, h.1, terminal_is outlook)

-- its items
pub items_by : (outlook : Outlook) (taken : List Item) (text : List Signal) → IsShaped outlook taken text
    → AreGivenOf outlook (items_of text) taken
items_by outlook taken text (inl h) = inl (ap items_of h.0 ∙ sym h.1)
items_by outlook taken text (inr h) =
    let items = ap items_of h.1 ∙ items_of_append (map Next h.0) (last_of outlook) ∙ ap (λ l. items_of (map Next h.0) ++ l) (last_items outlook) ∙ append-nil (items_of (map Next h.0)) ∙ items_of_nexts h.0 in
    subst (λ (l : List Item). AreGivenOf outlook l taken) (sym items) h.2

-- a terminal signal in it is the last
pub last_by : (outlook : Outlook) (taken : List Item) (text : List Signal) (s : Signal) → IsTerminal s → IsShaped outlook taken text
    → Contains text s → Contains (last_of outlook) s
last_by outlook taken text s terminal (inl h) inside = absurd (contains_none s (subst (λ t. Contains t s) h.0 inside))
last_by outlook taken text s terminal (inr h) inside = terminal_last true h.0 (last_of outlook) s terminal (subst (λ t. Contains t s) h.1 inside)

-- the items of what was told before
pub base_items : (base : List Item) (start : List Signal) → IsToldBefore base start → items_of start ≡ base
base_items base start (inl h) = ap items_of h.0 ∙ sym h.1
base_items base start (inr e) = ap items_of e ∙ items_of_nexts base

-- how many signals they are
pub base_length : (base : List Item) (start : List Signal) → IsToldBefore base start → length base ≤ length start
base_length base start (inl h) = let a = ap length h.0 in let b = ap length h.1 in omega arith
base_length base start (inr e) = let a : length start ≡ suc (length (map Next base)) = ap length e in let b = length-map base Next in omega arith

-- without what came before
pub after_base : (base took : List Item) (start seen last : List Signal) → IsToldBefore base start
    → start ++ seen ≡ greeted (base ++ took) ++ last
    → (first : List Signal) × (seen ≡ first ++ last)
after_base base took start seen last (inl h) e = (greeted (base ++ took), ap (λ s. s ++ seen) (sym h.0) ∙ e)
after_base base took start seen last (inr s) e = (
  map Next took,
  append_cancel_left (greeted base) seen (map Next took ++ last)
      (ap (λ z. z ++ seen) (sym s) ∙ e ∙ ap (λ z. (Subscribed ∷ z) ++ last) (map-append Next base took) ∙ append_assoc (greeted base) (map Next took) last),
)

-- how many items were told
given_length : (outlook : Outlook) (given took : List Item) → AreGivenOf outlook given took → length given ≤ length took
given_length outlook given took (inl e) = let a = ap length e in omega arith
given_length outlook given took (inr h) = let a = ap length h.1.1 in let b = length-append given (h.1.0 ∷ []) in omega arith

-- how many signals a turn saw, with one for its greeting and one for its end
pub few_by : (outlook : Outlook) (taken : List Item) (text : List Signal) → IsShaped outlook taken text → length text ≤ length taken + 2
few_by outlook taken text (inl h) = let a = ap length h.0 in omega arith
few_by outlook taken text (inr h) =
    let whole : length text ≡ suc (length (map Next h.0 ++ last_of outlook)) = ap length h.1 in
    let apart = length-append (map Next h.0) (last_of outlook) in
    let nexts = length-map h.0 Next in
    let one = last_one outlook in
    let most = given_length outlook h.0 taken h.2 in
    omega arith

-- without the items before
pub given_by : (outlook : Outlook) (base took given : List Item) → AreGivenOf outlook (base ++ given) (base ++ took)
    → AreGivenOf outlook given took
given_by outlook base took given (inl e) = inl (append_cancel_left base given took e)
given_by outlook base took given (inr h) = inr (h.0, (h.1.0, append_cancel_left base took (given ++ h.1.0 ∷ []) (h.1.1 ∙ append_assoc base given (h.1.0 ∷ []))))

-- one more item that was taken after these, and its reply
pub granted_more : (order : ErrorOrder) (given own : ℕ) (replies : List Reply) (grants : List Grant) (r : Reply) (x : Grant)
    → AreGranted order given own replies grants
    → x.causes.order ≡ order → stops x.causes ≡ None → given + length grants < x.asked → x.asked ≡ total_after x.requested (own_since own replies)
    → AreGranted order given own (replies ++ r ∷ []) (grants ++ x ∷ [])
granted_more order given own [] [] r x a in_order runs_on wanted counts = (in_order, runs_on, omega arith, counts, tt)
granted_more order given own [] (y ∷ grants) r x a in_order runs_on wanted counts = absurd a
granted_more order given own (q ∷ replies) [] r x a in_order runs_on wanted counts = absurd a
granted_more order given own (q ∷ replies) (y ∷ grants) r x a in_order runs_on wanted counts = (
  a.0,
  a.1,
  a.2,
  a.3,
  granted_more order (given + 1) (own_on q own) replies grants r x a.4 in_order runs_on (omega arith) counts,
)

-- what the replies of a turn so far request, by those before it
pub own_append : (own : ℕ) (xs ys : List Reply) → own_since own (xs ++ ys) ≡ own_since (own_since own xs) ys
own_append own [] ys = refl
own_append own (x ∷ xs) ys = own_append (own_on x own) xs ys

-- what the subscriber of a turn has replied
pub record AreAnswered (old : TaskKnows) (start : List Signal) (base : List Item) (grants : List Grant) (replied later : List Reply) (outlook : Outlook) : Type 0 where
  pub past : List Reply
  pub had : old.away ≡ true → past ≡ replied
  pub greeting : List Reply
  pub greets : IsGreeting start greeting
  pub each : List Reply
  pub granted : AreGranted old.order (length base) (own_by (past ++ greeting)) each grants
  pub closing : List Reply
  pub closes : AreLastReplies outlook closing
  pub replies : later ≡ (past ++ greeting) ++ (each ++ closing)
  pub ends : EndsSo (end_in outlook) later

-- the whole of a turn
abbrev pub whole_turn : (old : TaskKnows) (known seen start : List Signal) (base took : List Item) (outlook : Outlook)
    → (old.away ≡ true → (start ≡ known) × (base ≡ old.taken)) → (old.away ≡ false → start ≡ greeted base) → IsToldBefore base start → length took ≤ 64
    → (grants : List Grant) → length grants ≡ length took → {replied later : List Reply} → AreAnswered old start base grants replied later outlook
    → IsTextAfter outlook (base ++ took) (start ++ seen) → IsTurnOf old known seen replied later outlook
whole_turn old known seen start base took outlook knew met before at_most grants one_each a text =
    let shape = shaped outlook (base ++ took) (start ++ seen) text in
    let items : items_of (start ++ seen) ≡ base ++ items_of seen = items_of_append start seen ∙ ap (λ l. l ++ items_of seen) (base_items base start before) in
    record {
      start = start;
      base = base;
      knew = knew;
      met = met;
      before = before;
      took = took;
      at_most = at_most;
      grants = grants;
      one_each = one_each;
      past = a.past;
      had = a.had;
      greeting = a.greeting;
      greets = a.greets;
      each = a.each;
      granted = a.granted;
      closing = a.closing;
      closes = a.closes;
      replies = a.replies;
      ends = a.ends;
      text = text;
      allowed = allowed_by outlook (base ++ took) (start ++ seen) shape;
      given = given_by outlook base took (items_of seen) (subst (λ (l : List Item). AreGivenOf outlook l (base ++ took)) items (items_by outlook (base ++ took) (start ++ seen) shape));
    }

-- what follows from that for the signals that it saw
module _ {old : TaskKnows} {known seen : List Signal} {replied later : List Reply} {outlook : Outlook} (t : IsTurnOf old known seen replied later outlook) where
  shape : IsShaped outlook (t.base ++ t.took) (t.start ++ seen)
  shape = shaped outlook (t.base ++ t.took) (t.start ++ seen) t.text

  -- they are few
  pub few_seen : length seen ≤ 66
  few_seen =
      let all = few_by outlook (t.base ++ t.took) (t.start ++ seen) shape in
      let apart = length-append t.base t.took in
      let told = length-append t.start seen in
      let first = base_length t.base t.start t.before in
      let most = t.at_most in
      omega arith

  -- and so are their items
  pub few_items : length (items_of seen) ≤ 64
  few_items = let given = given_length outlook (items_of seen) t.took t.given in let most = t.at_most in omega arith

  inside : (s : Signal) → EndsIn seen s → Contains (t.start ++ seen) s
  inside s ends = last_contained (t.start ++ seen) s (t.start ++ ends.0, ap (λ l. t.start ++ l) ends.1 ∙ sym (append_assoc t.start ends.0 (s ∷ [])))

  -- the last one tells the end
  pub completed_by : EndsIn seen Complete ↔ (outlook ≡ Ended How.Completed)
  completed_by = (
    λ ends. completes_by outlook (last_by outlook (t.base ++ t.took) (t.start ++ seen) Complete tt shape (inside Complete ends)),
    λ e. after_base t.base t.took t.start seen (Complete ∷ []) t.before (subst (λ (o : Outlook). IsTextAfter o (t.base ++ t.took) (t.start ++ seen)) e t.text),
  )

  pub errored_by : (fault : Fault) → EndsIn seen (Error fault) ↔ (outlook ≡ Ended (How.Errored fault))
  errored_by fault = (
    λ ends. errs_by outlook fault (last_by outlook (t.base ++ t.took) (t.start ++ seen) (Error fault) tt shape (inside (Error fault) ends)),
    λ e. after_base t.base t.took t.start seen (Error fault ∷ []) t.before (subst (λ (o : Outlook). IsTextAfter o (t.base ++ t.took) (t.start ++ seen)) e t.text),
  )
