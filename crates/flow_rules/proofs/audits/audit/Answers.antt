-- If the machine stops, the list is not allowed; at the end it has gone through all of it.
use Rattle.std.proofs.Common.{◌≡◌, ◌∷◌, [], List, refl, arith, drop, false, ◌∙◌, true}
use Rattle.std.proofs.lemmas.List.{drop_all}
use Rattle.flow_rules.specs.declared.signal.Signal.{Signal}
use Rattle.flow_rules.specs.declared.audits.Stage.TheVariants.{Fresh}
use Rattle.flow_rules.proofs.Machine.{passes, passes_iff, passes_end, stopped, only_subscribed}
use Rattle.flow_rules.proofs.audits.audit.Goals as goal

pub returns-in_default : goal.returns-in_default
returns-in_default c =
    let stuck : (rest : List Signal) → passes c.loop-signal.stage (c.signal-item.result ∷ rest) ≡ false =
    λ rest. rw c.in_default.is-0 (only_subscribed c.signal-item.result c.in_default.not-Subscribed-1 rest) in
    stopped _ _ _ _ c.loop-signal.invariant c.loop-signal-test.true c.signal-item.is stuck

pub returns-in_default-2 : goal.returns-in_default-2
returns-in_default-2 c =
    let stuck : (rest : List Signal) → passes c.loop-signal.stage (c.signal-item.result ∷ rest) ≡ false =
    λ rest. rw (c.in_default.is-0, c.in_default.is-1) refl in
    stopped _ _ _ _ c.loop-signal.invariant c.loop-signal-test.true c.signal-item.is stuck

pub returns-in_default-3 : goal.returns-in_default-3
returns-in_default-3 c =
    let stuck : (rest : List Signal) → passes c.loop-signal.stage (c.signal-item.result ∷ rest) ≡ false =
    λ rest. rw c.in_default.is-0 refl in
    stopped _ _ _ _ c.loop-signal.invariant c.loop-signal-test.true c.signal-item.is stuck

pub returns : goal.returns
returns c =
    let all : drop c.loop-signal.signal-index c.args.signals.now ≡ [] = drop_all c.loop-signal.signal-index c.args.signals.now (omega arith) in
    let accepted : passes Fresh c.args.signals.now ≡ true = c.loop-signal.invariant ∙ passes_end _ _ all in
    (λ _. (passes_iff c.args.signals.now).0 accepted, λ _. refl)
