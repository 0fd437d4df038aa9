-- The machine of `audit` decides whether a list of signals is one that the rules allow.
use Rattle.std.proofs.Common.{◌≡◌, ℕ, ◌<◌, drop, length, get_or, drop-cons, ◌↔◌, Bool, true, false, List, [], ◌∷◌, ◌++◌, map, refl, ap, inl, inr, sym, suc, ◌∙◌}
use Rattle.flow_rules.specs.declared.item.Item.{Item}
use Rattle.flow_rules.specs.declared.signal.Signal.{Signal}
use Rattle.flow_rules.specs.declared.signal.Signal.TheVariants.{Subscribed, Next, Complete, Error}
use Rattle.flow_rules.specs.declared.audits.Stage.{Stage}
use Rattle.flow_rules.specs.declared.audits.Stage.TheVariants.{Fresh, Opened, Ended}
use Rattle.flow_rules.specs.Signals.{IsTerminalPart, IsFlowText}

-- whether the machine, at a stage, goes through these signals
abbrev pub passes : Stage → List Signal → Bool
passes stage [] = true
passes Fresh (Subscribed ∷ signals) = passes Opened signals
passes Fresh (Next _ ∷ signals) = false
passes Fresh (Complete ∷ signals) = false
passes Fresh (Error _ ∷ signals) = false
passes Opened (Subscribed ∷ signals) = false
passes Opened (Next _ ∷ signals) = passes Opened signals
passes Opened (Complete ∷ signals) = passes Ended signals
passes Opened (Error _ ∷ signals) = passes Ended signals
passes Ended (_ ∷ signals) = false

-- what may follow once a list is open
abbrev Follows : List Signal → Type 0
Follows signals = (items : List Item) × (last : List Signal) × (signals ≡ map Next items ++ last) × IsTerminalPart last

-- nothing follows a terminal signal
ended_passes : (signals : List Signal) → passes Ended signals ≡ true → signals ≡ []
ended_passes [] h = refl
ended_passes (s ∷ signals) h = cc

-- what passes once a list is open may follow
opened_passes : (signals : List Signal) → passes Opened signals ≡ true → Follows signals
opened_passes [] h = ([], [], refl, inl refl)
opened_passes (Subscribed ∷ signals) h = cc
opened_passes (Next item ∷ signals) h =
    let rest = opened_passes signals h in
    (item ∷ rest.0, rest.1, ap (λ t. Next item ∷ t) rest.2, rest.3)
opened_passes (Complete ∷ signals) h =
    ([], Complete ∷ signals, refl, inr (inl (ap (λ t. Complete ∷ t) (ended_passes signals h))))
opened_passes (Error fault ∷ signals) h =
    ([], Error fault ∷ signals, refl, inr (inr (fault, ap (λ t. Error fault ∷ t) (ended_passes signals h))))

-- what may follow once a list is open passes
opened_follows : (items : List Item) (last : List Signal) → IsTerminalPart last → passes Opened (map Next items ++ last) ≡ true
opened_follows [] last (inl e) = rw e refl
opened_follows [] last (inr (inl e)) = rw e refl
opened_follows [] last (inr (inr f)) = rw f.1 refl
opened_follows (item ∷ items) last h = opened_follows items last h

-- the machine goes through exactly the lists that the rules allow
pub passes_iff : (signals : List Signal) → (passes Fresh signals ≡ true) ↔ IsFlowText signals
passes_iff signals = (allowed signals, passed signals) where
  allowed : (signals : List Signal) → passes Fresh signals ≡ true → IsFlowText signals
  allowed [] h = inl refl
  allowed (Subscribed ∷ signals) h =
      let rest = opened_passes signals h in
      inr (rest.0, rest.1, ap (λ t. Subscribed ∷ t) rest.2, rest.3)
  allowed (Next _ ∷ signals) h = cc
  allowed (Complete ∷ signals) h = cc
  allowed (Error _ ∷ signals) h = cc

  passed : (signals : List Signal) → IsFlowText signals → passes Fresh signals ≡ true
  passed signals (inl e) = rw e refl
  passed signals (inr h) = rw h.2 (opened_follows h.0 h.1 h.3)

-- no stage has signals left to refuse at the end of the list
pub passes_end : (stage : Stage) (signals : List Signal) → signals ≡ [] → passes stage signals ≡ true
passes_end Fresh signals e = rw e refl
passes_end Opened signals e = rw e refl
passes_end Ended signals e = rw e refl

-- if the machine stops at a signal, the list is not allowed
pub stopped : (signals : List Signal) (stage : Stage) (i : ℕ) (s : Signal) → passes Fresh signals ≡ passes stage (drop i signals) → i < length signals → s ≡ get_or signals i s → ((rest : List Signal) → passes stage (s ∷ rest) ≡ false) → (false ≡ true → IsFlowText signals) × (IsFlowText signals → (false ≡ true))
stopped signals stage i s so_far more at stuck =
    let next : drop i signals ≡ s ∷ drop (suc i) signals = drop-cons signals i s more ∙ ap (λ x. x ∷ drop (suc i) signals) (sym at) in
    let refused : passes Fresh signals ≡ false = so_far ∙ ap (passes stage) next ∙ stuck (drop (suc i) signals) in
    (λ accepted. cc, λ allowed. let accepted : passes Fresh signals ≡ true = (passes_iff signals).1 allowed in cc)

-- at the first stage only onSubscribe may come
pub only_subscribed : (s : Signal) → (s ≡ Subscribed → ⊥) → (rest : List Signal) → passes Fresh (s ∷ rest) ≡ false
only_subscribed Subscribed other rest = absurd (other refl)
only_subscribed (Next _) other rest = refl
only_subscribed Complete other rest = refl
only_subscribed (Error _) other rest = refl
