-- A turn that the answer to its greeting ended.
use Rattle.std.proofs.Common.{◌≡◌, ◌≤◌, ◌↔◌, true, false, List, [], ◌∷◌, ◌++◌, length, drop, Contains, refl, ap, sym, ◌∙◌, subst, inl, inr, arith}
use Rattle.std.proofs.lemmas.List.{append-nil}
use mathlib.Core.List.{IsPrefix}
use Rattle.feed_core.specs.Prelude.{Signal, Complete, Error, Fault, How, Outlook, Again, Resting, Ended, ITEMS_IN_A_TURN, items_of}
use Rattle.feed_core.specs.AnsweredTurn.{Reply, looks_within, turn_of}
use Rattle.feed_core.specs.Desk.{DeskState}
use Rattle.feed_core.specs.PlainTurn.{terminal_of}
use Rattle.feed_core.specs.Steps.{Greets, IsGreetedBy, IsPart, TurnsAs}
use Rattle.feed_core.specs.Turn.{EndsIn}
use Rattle.feed_core.proofs.Lists.Signals.{IsTerminal, opening_open}
use Rattle.feed_core.proofs.Turns.Loop.{last_contained, over, turns_as}

-- it told onSubscribe at most, and no terminal signal
greeting_quiet : (outlook : Outlook) (told last : List Signal) → (outlook ≡ Again → ⊥) → IsGreetedBy outlook told last
    → (items_of last ≡ []) × (length last ≤ 1) × ((s : Signal) → IsTerminal s → Contains last s → ⊥)
greeting_quiet Again told last other shape = absurd (other refl)
greeting_quiet Resting told last other shape = absurd shape
greeting_quiet (Ended how) told last other (inl none, quiet) = (ap items_of none, (let few = ap length none in omega (arith, few)), λ s terminal h. opening_open false s terminal (subst (λ text. Contains text s) none h))
greeting_quiet (Ended how) told last other (inr one, quiet) = (ap items_of one, (let few = ap length one in omega (arith, few)), λ s terminal h. opening_open true s terminal (subst (λ text. Contains text s) one h))

-- and ended so that there is none
greeting_silent : (how : How) (told last : List Signal) (s : Signal) → terminal_of how ≡ s ∷ [] → IsGreetedBy (Ended how) told last → ⊥
greeting_silent how told last s terminal shape = let clash : s ∷ [] ≡ [] = sym terminal ∙ shape.1 in cc

module _ {old new : DeskState} {seen seen' : List Signal} {outlook : Outlook} (greets : Greets old new seen seen' outlook) (other : outlook ≡ Again → ⊥) (nothing : seen ≡ []) where
  greeted_seen : seen' ≡ greets.last
  greeted_seen = greets.seen_after ∙ ap (λ before. before ++ greets.last) nothing

  pub turns_greeted : (replies : List Reply) × TurnsAs old new seen' outlook replies
  turns_greeted = (
    greets.replies,
    turns_as old new seen' outlook greets.replies (subst (λ text. IsPart old new text outlook greets.replies) (sym greeted_seen) greets.part)
        (ap (turn_of old.lane) (sym (append-nil greets.replies)) ∙ greets.left [] ∙ over outlook new.lane (looks_within ITEMS_IN_A_TURN []) other),
  )

  pub in_order_greeted : IsPrefix (items_of seen') (drop old.lane.given old.lane.accepted)
  in_order_greeted =
      let rest = drop old.lane.given old.lane.accepted in
      (rest, ap (λ text. items_of text ++ rest) greeted_seen ∙ ap (λ items. items ++ rest) (greeting_quiet outlook old.lane.told greets.last other greets.shape).0)

  pub few_greeted : length seen' ≤ 66
  few_greeted =
      let one = (greeting_quiet outlook old.lane.told greets.last other greets.shape).1 in
      let long : length seen' ≡ length greets.last = ap length greeted_seen in
      omega arith

  -- it ends in no terminal signal
  open_greeted : (s : Signal) → IsTerminal s → EndsIn seen' s → ⊥
  open_greeted s terminal ends = (greeting_quiet outlook old.lane.told greets.last other greets.shape).2 s terminal (subst (λ text. Contains text s) greeted_seen (last_contained seen' s ends))

  pub completes_greeted : EndsIn seen' Complete ↔ (outlook ≡ Ended How.Completed)
  completes_greeted = (
    λ ends. absurd (open_greeted Complete tt ends),
    λ e. absurd (greeting_silent How.Completed old.lane.told greets.last Complete refl (subst (λ o. IsGreetedBy o old.lane.told greets.last) e greets.shape)),
  )

  pub errs_greeted : (fault : Fault) → EndsIn seen' (Error fault) ↔ (outlook ≡ Ended (How.Errored fault))
  errs_greeted fault = (
    λ ends. absurd (open_greeted (Error fault) tt ends),
    λ e. absurd (greeting_silent (How.Errored fault) old.lane.told greets.last (Error fault) refl (subst (λ o. IsGreetedBy o old.lane.told greets.last) e greets.shape)),
  )
