use Rattle.std.proofs.Common.{[], ◌∷◌, ◌++◌, ap, sym, ◌∙◌}
use Rattle.std.proofs.lemmas.List.{append-nil}
use Rattle.lines_demo.proofs.Runs.Sending.{texts_from_more, one_more_text, no_more_text}
use Rattle.lines_demo.proofs.Woken.Lists.{same_test, other_test}
use Rattle.lines_demo.proofs.threads.sending.Sender.send_all.Goals as goal
use Rattle.lines_demo.proofs.threads.sending.Sender.send_all.Goals.{then-publication-self+in_ok-text_of+in_ok-push+then-len-eq-AT_ONCE+in_ok-publish, then-publication-self+in_ok-text_of+in_ok-push+else-len-eq-AT_ONCE, else-publication-self}

pub loop-publication-preserved : goal.loop-publication-preserved
loop-publication-preserved g c =
    let so_far = c.loop-publication in
    let source = so_far.invariant.0 in
    let sent = so_far.self.submitter.sent in
    let more = texts_from_more c.args.self.now.source c.args.publications.now so_far.publication-index c.publication-item.result c.loop-publication-test.true c.publication-item.is in
    elim c.if-publication-self.branch [
      | then-publication-self+in_ok-text_of+in_ok-push+then-len-eq-AT_ONCE+in_ok-publish w ↦
          let own = same_test _ _ (w.if-publication-self.true ∙ source) in
          let added = one_more_text sent so_far.texts.items _ _ _ _ _ so_far.invariant.1.0 more own in
          let full = w.in_ok-push.ensures.items ∙ ap (λ text. so_far.texts.items ++ text ∷ []) w.in_ok-text_of.ensures in
          let published = w.in_ok-publish.ensures.published in
          rw (w.self-is, w.texts-is, w.in_ok-publish.ensures.empty) (
            w.in_ok-publish.ensures.source ∙ source,
            (
              append-nil w.publish.new.self.submitter.sent ∙ published.sent ∙ ap (λ texts. sent ++ texts) full ∙ added,
              published.lossless ∙ so_far.invariant.1.1,
            ),
          )
      | then-publication-self+in_ok-text_of+in_ok-push+else-len-eq-AT_ONCE w ↦
          let own = same_test _ _ (w.if-publication-self.true ∙ source) in
          let added = one_more_text sent so_far.texts.items _ _ _ _ _ so_far.invariant.1.0 more own in
          let full = w.in_ok-push.ensures.items ∙ ap (λ text. so_far.texts.items ++ text ∷ []) w.in_ok-text_of.ensures in
          rw (w.self-is, w.texts-is) (source, (ap (λ texts. sent ++ texts) full ∙ added, so_far.invariant.1.1))
      | else-publication-self w ↦
          let other = other_test _ _ (λ same. w.if-publication-self.false (same ∙ sym source)) in
          let same = no_more_text sent so_far.texts.items _ _ _ _ _ so_far.invariant.1.0 more other in
          rw (w.self-is, w.texts-is) (source, (same, so_far.invariant.1.1))
    ]
