use Rattle.std.proofs.Common.{◌≡◌, None, [], ◌∷◌, ◌++◌, ap, sym, ◌∙◌}
use Rattle.std.proofs.lemmas.List.{map-append}
use Rattle.std.proofs.lemmas.List.Elements.{All-push}
use Rattle.lines_demo.proofs.threads.sending.take_back.Goals as goal

pub loop-sender-preserved : goal.loop-sender-preserved
loop-sender-preserved g c =
    let so_far = c.loop-sender in
    record {
      none_refused = All-push (λ sender. sender.refused ≡ None) so_far.yielded c.in-Some.sender so_far.invariant.none_refused c.in-None-refused.is;
      theirs = c.in_ok-push-in-None-refused.ensures.items ∙ ap (λ s. s ++ c.in-Some.sender.submitter ∷ []) so_far.invariant.theirs
          ∙ sym (map-append (λ sender. sender.submitter) so_far.yielded (c.in-Some.sender ∷ []));
    }
