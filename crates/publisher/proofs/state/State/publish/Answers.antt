use Rattle.std.proofs.Common.{◌∙◌, ◌≡◌, ◌+◌, ◌-◌, ◌++◌, take, ◌<◌, ◌≤◌, ℕ, List, ap, arith, drop, length, refl, subst, sym}
use Rattle.std.proofs.lemmas.List.{length-drop, take_rest}
use Rattle.feed_cell.specs.Offering.{DoesCall}
use Rattle.publisher_hub.specs.Publishing.{PublishesTexts, loss_of}
use Rattle.publisher_hub.specs.declared.hub.publish.Publication.{Publication}
use Rattle.publisher.proofs.Shares.Batches.{loss_is_at_most_one, no_more, one_more}
use Rattle.publisher.proofs.Shares.SentTexts.{more_sent, none_sent}
use Rattle.publisher.specs.Publishing.{PublishesNext}
use Rattle.publisher.specs.State.{producer_end}
use Rattle.publisher.proofs.state.State.publish.Goals as goal

pub loop-done-init : goal.loop-done-init
loop-done-init g c =
    let texts = c.args.texts.now in
    let sent = c.args.own.now.pass.sent in
    let within = c.requires.within in
    let few = c.requires.few in (
      no_more c.args.need c.args.own.now.source texts c.args.done.now c.args.self.now.hub c.args.due.now.items,
      (
        refl,
        (
          refl,
          (
            refl,
            (
              omega arith,
              (
                within,
                (
                  few,
                  (
                    λ all. refl,
                    (
                      λ none one. let no : c.args.done.now.many ≡ 0 = none in let some : c.args.done.now.many ≡ 1 = one in omega arith,
                      none_sent sent texts c.args.done.now.many,
                    ),
                  ),
                ),
              ),
            ),
          ),
        ),
      ),
    )

pub loop-done-preserved : goal.loop-done-preserved
loop-done-preserved g c =
    let (so_far, (amount, (source, (drops, (begun, (within, (few, (none, (loss, sent))))))))) = c.loop-done.invariant in
    let texts = c.args.texts.now in
    let n = c.loop-done.done.many in
    let first = c.in-Ok.first in
    let added = c.add.ensures in
    let many : c.add.new.self.many ≡ n + first.many = ap (λ (p : Publication). p.many) added in
    let lost : c.add.new.self.lost ≡ c.loop-done.done.lost + first.lost = ap (λ (p : Publication). p.lost) added in
    let dropped : c.add.new.self.dropped ≡ first.dropped = ap (λ (p : Publication). p.dropped) added in
    let left : take (length texts - n) (drop n texts) ≡ drop n texts = take_rest texts n in
    let long : length (take (length texts - n) (drop n texts)) ≡ length texts - n = ap length left ∙ length-drop n texts in
    let publishes = subst (λ s. PublishesTexts producer_end DoesCall c.args.need s (drop n texts) c.loop-done.self.hub
    c.publish_first.new.self.hub c.loop-done.due.items c.publish_first.new.due.items first) source
    (subst (λ (l : List (List ℕ)). PublishesTexts producer_end DoesCall c.args.need c.loop-done.own.source l c.loop-done.self.hub
    c.publish_first.new.self.hub c.loop-done.due.items c.publish_first.new.due.items first) left c.in-Ok.ensures.ok) in
    let more = c.in-Ok.ensures.more in
    let more_lost = c.in-Ok.ensures.lost in
    let fits = c.in-Ok.ensures.within in
    let any = c.in-Ok.ensures.any in
    let at_most = loss_is_at_most_one first.dropped in
    let counts : first.lost ≡ loss_of first.dropped = c.in-Ok.ensures.loss in (
      subst (λ (d : Publication). PublishesNext c.args.need c.args.own.now.source texts c.args.done.now d c.args.self.now.hub
          c.publish_first.new.self.hub c.args.due.now.items c.publish_first.new.due.items) (sym added)
          (one_more c.args.need c.args.own.now.source texts c.args.done.now c.loop-done.done first c.args.self.now.hub c.loop-done.self.hub
          c.publish_first.new.self.hub c.args.due.now.items c.loop-done.due.items c.publish_first.new.due.items so_far publishes),
      (
        omega arith,
        (
          ◌∙◌ {A = ℕ} c.in-Ok.ensures.source source,
          (
            omega arith,
            (
              omega arith,
              (
                omega arith,
                (
                  omega arith,
                  (
                    λ all. let before = none all in let now = c.in-Ok.ensures.none_lost all in omega arith,
                    (
                      λ no one. let alone : c.add.new.self.lost ≡ first.lost = omega arith in
                          alone ∙ counts ∙ sym (ap loss_of dropped),
                      more_sent c.args.own.now.pass.sent texts c.args.done.now.many c.loop-done.own.pass.sent _ n first.many
                          c.add.new.self.many begun many sent
                          (subst (λ (l : List (List ℕ)). c.publish_first.new.own.pass.sent ≡ c.loop-done.own.pass.sent ++ take first.many l)
                          left c.in-Ok.ensures.sent),
                    ),
                  ),
                ),
              ),
            ),
          ),
        ),
      ),
    )

pub returns-in-Err-clause-stopped : goal.returns-in-Err-clause-stopped
returns-in-Err-clause-stopped g c = record {
  less = c.loop-done-test.true;
  middle = c.loop-done.self;
  next = subst (λ due. PublishesNext c.args.need c.args.own.now.source c.args.texts.now c.args.done.now c.loop-done.done c.args.self.now.hub
      c.loop-done.self.hub c.args.due.now.items due) (sym c.in-Err.ensures.nothing_due) c.loop-done.invariant.0;
  why_not = c.in-Err.ensures.refusals;
  needs = c.in-Err.ensures.need;
}
