use Rattle.std.proofs.Common.{◌≡◌, ℕ, ◌+◌, if◌then◌else◌, Option, Some, List, sym, ap, subst, ◌∙◌, arith}
use Rattle.std.specs.Prelude.{option_map, slice_get}
use Rattle.publisher_hub.specs.declared.hub.Facts.{Facts}
use Rattle.lines_demo.specs.Script.State.{SessionState, SubscriptionState}
use Rattle.lines_demo.proofs.Kept.SearchedNames.{Searched, known_name, known_within, searched_all, searched_more, searched_none}
use Rattle.lines_demo.proofs.script.session.Session.latest.Given.{Over}
use Rattle.lines_demo.proofs.script.session.Session.latest.Goals as goal
use Rattle.lines_demo.proofs.script.session.Session.latest.Goals.{then-eq, else-eq}

pub loop-other-init : goal.loop-other-init
loop-other-init g c = searched_none c.args.name c.args.self.now.subscriptions

-- the next name is that of the next subscription that a script sees
next_name : (g : Over) (c : goal.Joined-eq g)
    → option_map (λ (s : SubscriptionState). s.name) (slice_get c.args.self.now.subscriptions c.loop-other.entry) ≡ Some c.in-Some.other.name
next_name g c =
    let name_of : SessionState → Option (List ℕ) = λ state. option_map (λ (s : SubscriptionState). s.name) (slice_get state.subscriptions c.loop-other.entry) in
    sym (ap name_of c.self.view_is) ∙ sym (known_name c.self.inside.hub.entries.items c.loop-other.entry) ∙ ap (option_map (λ (facts : Facts). facts.name)) (sym c.facts.ensures ∙ c.in-Some.is)

pub loop-other-smaller : goal.loop-other-smaller
loop-other-smaller g c =
    let within = known_within c.args.self.now.subscriptions c.loop-other.entry c.in-Some.other.name (next_name g c) in
    omega arith

pub loop-other-preserved : goal.loop-other-preserved
loop-other-preserved g c =
    let so_far : Option ℕ → Type 0 = Searched c.args.name c.args.self.now.subscriptions (c.loop-other.entry + 1) in
    let more = searched_more c.args.name c.args.self.now.subscriptions c.loop-other.entry c.loop-other.latest c.in-Some.other.name c.eq.result c.loop-other.invariant (next_name g c) c.eq.ensures in
    elim c.if-eq.branch [
      | then-eq w ↦ subst so_far (sym w.latest-is) (subst (λ hit. so_far (if hit then Some c.loop-other.entry else c.loop-other.latest)) w.if-eq.true more)
      | else-eq w ↦ subst so_far (sym w.latest-is) (subst (λ hit. so_far (if hit then Some c.loop-other.entry else c.loop-other.latest)) w.if-eq.false more)
    ]

pub returns : goal.returns
returns g c =
    let name_of : SessionState → Option (List ℕ) = λ state. option_map (λ (s : SubscriptionState). s.name) (slice_get state.subscriptions c.loop-other.entry) in
    searched_all c.args.name c.args.self.now.subscriptions c.loop-other.entry c.loop-other.latest c.loop-other.invariant
    (sym (ap name_of c.self.view_is) ∙ sym (known_name c.self.inside.hub.entries.items c.loop-other.entry) ∙ ap (option_map (λ (facts : Facts). facts.name)) (sym c.facts.ensures ∙ c.in_default.is))
