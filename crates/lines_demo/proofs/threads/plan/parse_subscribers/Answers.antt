use Rattle.std.proofs.Common.{◌≡◌, ◌∙◌, [], ◌∷◌, ◌++◌, refl, sym, ap, inl, inr, rules}
use Rattle.lines_demo.specs.Threads.Plan.{spelled_subscriber}
use Rattle.lines_demo.proofs.Inputs.PlannedSubscribers.{reads_none, reads_more, reads_wrong, reads_all, texts_from, texts_past}
use Rattle.lines_demo.proofs.threads.plan.parse_subscribers.Goals as goal

pub loop-word-init : goal.loop-word-init
loop-word-init c = rw c.new-subscribers.ensures.items (reads_none _)

pub returns-in_default-clause-refusals : goal.returns-in_default-clause-refusals
returns-in_default-clause-refusals c =
    let wrong = sym (ap (λ text. spelled_subscriber text) c.as_bytes.ensures.value) ∙ sym c.parse_subscriber.ensures ∙ c.in_default.is in
    inr (refl, reads_wrong _ _ _ _ c.loop-word.subscribers.items c.loop-word.invariant (texts_from c.args.words.now c.loop-word.word-index _ c.loop-word-test.true) wrong)

pub loop-word-preserved : goal.loop-word-preserved
loop-word-preserved c =
    let spelled = sym (ap (λ text. spelled_subscriber text) c.as_bytes.ensures.value) ∙ sym c.parse_subscriber.ensures ∙ c.in-Some.is in
    let pushed : c.push.new.self.items ≡ c.loop-word.subscribers.items ++ c.in-Some.subscriber ∷ [] = search rules in
    rw pushed (reads_more _ _ _ _ c.loop-word.subscribers.items _ c.loop-word.invariant (texts_from c.args.words.now c.loop-word.word-index _ c.loop-word-test.true) spelled)

pub returns-clause-ok : goal.returns-clause-ok
returns-clause-ok c = reads_all _ _ _ c.loop-word.invariant (texts_past _ _ c.loop-word-test.false)

pub returns-then-is_err-clause-refusals : goal.returns-then-is_err-clause-refusals
returns-then-is_err-clause-refusals c = inl refl
