use Rattle.std.proofs.Common.{length, subst, sym, ap, ◌∙◌, ◌<◌, get_or}
use Rattle.std.proofs.lemmas.Result.{IfOk-weaker}
use Rattle.lines_demo.specs.Threads.Sending.{AreSubmittersOf}
use Rattle.lines_demo.proofs.Runs.Sending.{all_sent, all_written, sends_as}
use Rattle.lines_demo.proofs.threads.sending.send_lines.Goals as goal

pub returns : goal.returns
returns g c =
    let publications = c.args.publications.now in
    let senders = c.args.senders.items in
    let sent = c.for_each_mut.new.s in
    let as_many = c.for_each_mut.auto.s ∙ ap length c.deref_mut.ensures.value in
    IfOk-weaker c.take_back.result _ _
    (λ submitters back.
    let theirs = subst (λ senders. AreSubmittersOf senders submitters.items) (all_written c.args.senders.len senders sent c.args.senders.ok.0 as_many) back in
    rw theirs.theirs (all_sent publications senders sent as_many
    (λ i d less.
    let there = (c.for_each_mut.ensures i d (subst (λ s. i < length s) (sym c.deref_mut.ensures.value) less)).1 in
    let before = ap (λ s. get_or s i d) c.deref_mut.ensures.value in
    sends_as publications there.argument.now there.after_call.now _ _ there.call (there.argument_is ∙ before) there.left)
    theirs.none_refused))
    c.take_back.ensures
