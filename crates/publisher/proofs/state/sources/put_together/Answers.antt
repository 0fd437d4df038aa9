use Rattle.std.proofs.Common.{◌≡◌, ◌∙◌, List, [], ap, subst, refl, rules}
use Rattle.history.specs.History.{Kept}
use Rattle.publisher.specs.Handles.{SubmitterState}
use Rattle.publisher.specs.Together.{AreBack, AreTogether}
use Rattle.publisher.proofs.Shares.GivenBack.{all_back, back_more, back_none, whole_in}
use Rattle.publisher.proofs.Shares.TogetherSums.{stands_last, together_more, together_none}
use Rattle.publisher.proofs.state.sources.put_together.Goals as goal

pub loop-submitter-preserved : goal.loop-submitter-preserved
loop-submitter-preserved g c =
    let t = c.loop-submitter.together in
    let (together, (log, (made, back))) = c.loop-submitter.invariant in
    let s = c.in-Some.submitter in
    let rest = c.pop.new.self.items in
    let are = subst (λ (rest : List SubmitterState). AreTogether c.args.submitters.items rest t.publications.amount
    t.drops.amount t.publications.parts t.drops.parts t.sources t.knows) c.in-Some.ensures.items together in
    let own = c.give_up-own.ensures in
    let wrote = c.take_in.ensures.back in
    let whole = whole_in c.args.history.now.log c.loop-submitter.history.log s _ _ _ log own.source own.published own.sent
    c.take_in.ensures.texts c.take_in.ensures.many in (
      rw (
        c.take_in.ensures.publications,
        own.published,
        c.take_in.ensures.drops,
        own.dropping,
        c.take_in.ensures.parts,
        c.take_in.ensures.drop_parts,
        c.take_in.ensures.sources,
        own.source,
        c.take_in.ensures.knows,
        own.knows,
      )
          (together_more c.args.submitters.items rest s t.publications.amount
          t.drops.amount t.publications.parts t.drops.parts t.sources t.knows are),
      (
        ap (λ (h : Kept). h.log) wrote ∙ log,
        (
          ap (λ (h : Kept). h.made) wrote ∙ made,
          back_more c.args.history.now.log c.args.submitters.items rest s c.loop-submitter.history.back
              c.take_in.new.history.back _ (subst (λ (rest : List SubmitterState). AreBack c.args.history.now.log c.args.submitters.items
              rest c.loop-submitter.history.back) c.in-Some.ensures.items back)
              (stands_last c.args.submitters.items rest s _ _ _ _ _ _ are) whole own.source c.take_in.ensures.first
              (ap (λ (h : Kept). h.back) wrote),
        ),
      ),
    )

pub loop-submitter-init : goal.loop-submitter-init
loop-submitter-init g c = (
  rw (
    c.empty.ensures.amount,
    c.empty.ensures.parts,
    c.empty-2.ensures.amount,
    c.empty-2.ensures.parts,
  ) (together_none c.args.submitters.items _ refl refl),
  (refl, (refl, back_none c.args.history.now.log c.args.submitters.items c.args.history.now.back)),
)

pub returns-clause-sent : goal.returns-clause-sent
returns-clause-sent g c =
    let none : c.loop-submitter.submitters.items ≡ [] = search rules in
    all_back c.args.history.now.log c.args.submitters.items c.loop-submitter.history.back
    (subst (λ (rest : List SubmitterState). AreBack c.args.history.now.log c.args.submitters.items rest
    c.loop-submitter.history.back) none c.loop-submitter.invariant.1.1.1)
