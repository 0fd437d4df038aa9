use Rattle.std.proofs.Common.{◌∷◌, ◌++◌, [], ap, ◌∙◌, length, take, slice_index_or, append_assoc, arith, sym}
use Rattle.std.proofs.lemmas.List.{append-nil, length-append}
use Rattle.lines_demo.specs.Script.Session.{numbers_of}
use Rattle.lines_demo.proofs.Woken.Tasks.{numbers_more, numbers_few, numbers_all}
use Rattle.lines_demo.proofs.script.woken.Woken.push_all.Goals as goal

pub loop-work-init : goal.loop-work-init
loop-work-init c = sym (append-nil c.args.self.now)

pub push-requires : goal.push-requires
push-requires c =
    let room = c.requires.room in
    let due = ap length c.as_slice-work-items.ensures.value in
    let before = c.loop-work-test.true in
    let woken = ap length c.loop-work.invariant in
    let many = length-append c.args.self.now (numbers_of (take c.loop-work.work-index c.as_slice-work-items.result.now)) in
    let few = numbers_few c.as_slice-work-items.result.now c.loop-work.work-index (omega arith) in
    record { room = omega arith }

pub loop-work-preserved : goal.loop-work-preserved
loop-work-preserved c =
    c.push.ensures ∙ ap (λ numbers. numbers ++ (slice_index_or c.as_slice-work-items.result.now c.loop-work.work-index (record { entry = 0; task = tt })).entry ∷ []) c.loop-work.invariant
    ∙ append_assoc c.args.self.now _ _ ∙ ap (λ numbers. c.args.self.now ++ numbers) (sym (numbers_more c.as_slice-work-items.result.now c.loop-work.work-index _ c.loop-work-test.true))

pub returns-clause-woken : goal.returns-clause-woken
returns-clause-woken c =
    let past = c.loop-work-test.false in
    c.loop-work.invariant ∙ ap (λ numbers. c.args.self.now ++ numbers) (numbers_all c.as_slice-work-items.result.now c.loop-work.work-index (omega arith) ∙ ap numbers_of c.as_slice-work-items.ensures.value)
