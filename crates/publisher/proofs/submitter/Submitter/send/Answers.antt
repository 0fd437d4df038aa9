use Rattle.std.proofs.Common.{◌≡◌, ◌∙◌, ℕ, ◌+◌, ◌++◌, length, take, ap, arith, subst}
use Rattle.std.proofs.Math.Seq.{take-length}
use Rattle.publisher.specs.Handles.{SubmitterState}
use Rattle.publisher.proofs.Shares.SentTexts.{counts_all, counts_first, sent_up_to}
use Rattle.publisher.proofs.submitter.Submitter.send.Goals as goal

pub returns-in-Ok-clause-ok : goal.returns-in-Ok-clause-ok
returns-in-Ok-clause-ok g c =
    let (_, (_, (source, (amount, (drops, (within, (few, (none, (alone, sent))))))))) = c.loop.invariant in
    let texts = c.args.texts.now in
    let whole : c.publish-tried.new.done.many ≡ length texts = c.in-Ok.ensures.whole in
    let more = c.in-Ok.ensures.more in
    let lost = c.in-Ok.ensures.lost in
    counts_all c.args.self.now _ texts c.publish-tried.new.done.lost (◌∙◌ {A = ℕ} c.in-Ok.ensures.source source)
    (ap (λ (s : SubmitterState). s.closing) c.self.view_is) (ap (λ (s : SubmitterState). s.known) c.self.view_is) (omega arith)
    (sent_up_to c.args.self.now.sent texts c.loop.done.many c.loop.own.pass.sent _ c.publish-tried.new.done.many
    c.in-Ok.ensures.goes_on sent c.in-Ok.ensures.sent
    ∙ ap (λ k. c.args.self.now.sent ++ take k texts) whole ∙ ap (λ l. c.args.self.now.sent ++ l) (take-length texts)) (omega arith)

pub returns-in-Err-no_room-clause-partly : goal.returns-in-Err-no_room-clause-partly
returns-in-Err-no_room-clause-partly g c =
    let (_, (_, (source, (amount, (drops, (within, (few, (none, (alone, sent))))))))) = c.loop.invariant in
    let more = c.in-Err.ensures.more in
    let lost = c.in-Err.ensures.lost in
    counts_first c.args.self.now _ c.args.texts.now c.publish-tried.new.done.many c.publish-tried.new.done.lost
    (◌∙◌ {A = ℕ} c.in-Err.ensures.source source)
    (ap (λ (s : SubmitterState). s.closing) c.self.view_is) (ap (λ (s : SubmitterState). s.known) c.self.view_is) (omega arith)
    (sent_up_to c.args.self.now.sent c.args.texts.now c.loop.done.many c.loop.own.pass.sent _ c.publish-tried.new.done.many
    c.in-Err.ensures.goes_on sent c.in-Err.ensures.sent) (omega arith)

pub loop-preserved : goal.loop-preserved
loop-preserved g c =
    let (_, (_, (source, (amount, (drops, (within, (few, (none, (alone, sent))))))))) = c.loop.invariant in
    let less = c.in-Err.ensures.stopped.less in
    let more = c.in-Err.ensures.more in
    let lost = c.in-Err.ensures.lost in (
      tt,
      (
        tt,
        (
          ◌∙◌ {A = ℕ} c.in-Err.ensures.source source,
          (
            omega arith,
            (
              omega arith,
              (
                omega arith,
                (
                  c.in-Err.ensures.few,
                  (
                    λ all. let before = none all in let now = c.in-Err.ensures.none_lost all in omega arith,
                    (
                      λ one. omega arith,
                      sent_up_to c.args.self.now.sent c.args.texts.now c.loop.done.many c.loop.own.pass.sent _ c.publish-tried.new.done.many
                          c.in-Err.ensures.goes_on sent c.in-Err.ensures.sent,
                    ),
                  ),
                ),
              ),
            ),
          ),
        ),
      ),
    )
