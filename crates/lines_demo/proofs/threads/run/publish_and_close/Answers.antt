use Rattle.std.proofs.Common.{length, get_or, take, ap, ◌∙◌, subst, ◌<◌, ◌≤◌}
use Rattle.std.specs.List.{AllZip}
use Rattle.std.proofs.lemmas.List.{take_all, take_more}
use Rattle.std.proofs.lemmas.Slice.Zip.{all_zipped_more}
use Rattle.lines_demo.specs.Threads.Sending.{IsSenderOf, Publishes, texts_from}
use Rattle.lines_demo.proofs.Runs.Sending.{all_published}
use Rattle.lines_demo.proofs.threads.run.publish_and_close.Goals as goal

pub loop-source-preserved : goal.loop-source-preserved
loop-source-preserved g c =
    let sources = c.args.input.now.sources in
    let i = c.loop-source.source-index in
    let less = subst (λ s. i < length s) c.sources-source-items.ensures c.loop-source-test.true in
    rw (c.in_ok-push.ensures.items, take_more sources i 0 less)
    (all_zipped_more IsSenderOf (take i sources) c.loop-source.senders.items (get_or sources i 0) _ c.loop-source.invariant
    (record {
      source_is = c.new.ensures.source ∙ ap (λ s. get_or s i 0) c.sources-source-items.ensures;
      unsent = ap (λ s. s.sent) c.new.ensures.submitter ∙ c.in_ok-submitter.ensures.unsent;
      lossless = ap (λ s. s.dropping) c.new.ensures.submitter ∙ c.in_ok-submitter.ensures.nothing.1;
    }))

pub returns : goal.returns
returns g c =
    let sources = c.args.input.now.sources in
    let over = subst (λ s. length s ≤ c.loop-source.source-index) c.sources-source-items.ensures c.loop-source-test.false in
    let senders = subst (λ s. AllZip IsSenderOf s c.loop-source.senders.items) (take_all c.loop-source.source-index sources over) c.loop-source.invariant in
    let sent = subst (λ publications. AllZip (λ sender. Publishes (texts_from sender.source publications) sender.submitter) c.loop-source.senders.items c.in_ok-submitters.submitters.items)
    c.publications.ensures c.in_ok-submitters.ensures in
    all_published c.args.input.now.publications sources c.loop-source.senders.items c.in_ok-submitters.submitters.items senders sent
