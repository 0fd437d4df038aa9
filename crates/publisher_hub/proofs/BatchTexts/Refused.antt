-- Memory was refused after all looks.
use Rattle.std.proofs.Common.{Option, List, inl, inr}
use Rattle.flow_rules.specs.Call.{Call}
use Rattle.flow_rules.specs.Feed.{End}
use Rattle.flow_rules.specs.declared.feed.standing.Standing.{Standing}
use Rattle.publisher_hub.specs.Looking.{Prepares, PreparesAll, PreparesInPart}
use Rattle.publisher_hub.specs.declared.hub.Hub.{Hub}
use Rattle.publisher_hub.proofs.AnswerLists.Places.{answered_at}

module _ {F T : Type 0} (meaning : F → End) (does : F → Call T → F → Type 0) (old seen : Hub F) (glances : List (Option Standing))
    (prepared : PreparesAll meaning does glances old seen) where
  -- if all were prepared, some were
  pub prepared_in_part : PreparesInPart meaning does old seen
  prepared_in_part = record {
    as_long = prepared.as_long;
    each = λ k x y at at'.
        let answer = answered_at (Prepares meaning does old.next) glances old.entries.items seen.entries.items k x prepared at in
        inr (inl (answer.0, prepared.each k answer.0 x y answer.1 at at'));
  }
