-- A session whose publisher's subscriptions were looked at.
use Rattle.std.proofs.Common.{◌≡◌, ℕ, Some, List, refl, sym, ap, subst, ◌∙◌}
use Rattle.std.specs.Prelude.{slice_get}
use Rattle.feed_core.specs.Feed.{end_of}
use Rattle.feed_core.specs.LaneCalls.{IsCapacity}
use Rattle.publisher_hub.specs.Hub.{Progress, hub_of}
use Rattle.publisher_hub.specs.Sound.{IsSound}
use Rattle.publisher_hub.specs.declared.hub.Hub.{Hub}
use Rattle.lines_demo.specs.Prelude.{DeskState}
use Rattle.lines_demo.specs.Script.Kept.{IsReachable}
use Rattle.lines_demo.specs.Script.Session.{IsSession, state_of}
use Rattle.lines_demo.specs.Script.State.{state_at_start}
use Rattle.lines_demo.proofs.HubCalls.Looks.{ListSeesSame}
use Rattle.lines_demo.proofs.Sessions.States.{state_of_is}
use Rattle.lines_demo.specs.declared.script.session.beginning.Beginning.{Beginning}

-- it stands where it stood
pub record IsSameSession (old new : Hub DeskState) (stock : ℕ) (woken : List ℕ) (beginning : Beginning) : Type 0 where
  pub session : IsSession new stock woken beginning
  pub state : state_of new stock woken beginning ≡ state_of old stock woken beginning

pub session_looked : (old new : Hub DeskState) (stock : ℕ) (woken : List ℕ) (beginning : Beginning) → IsSession old stock woken beginning
    → IsSound (hub_of end_of new)
    → (hub_of end_of new).progress ≡ (hub_of end_of old).progress → ListSeesSame old.entries.items new.entries.items → IsSameSession old new stock woken beginning
session_looked old new stock woken beginning is sound progress looked = record {
  session = record {
    publisher = record {
      sound = sound;
      sized = subst IsCapacity (sym capacity) is.publisher.sized;
      entries = looked.entries;
      numbered = ap (λ (p : Progress). slice_get p.counts 0) progress ∙ is.publisher.numbered ∙ ap Some (sym (ap (λ (p : Progress). p.next) progress));
    };
    reached = subst IsReachable (sym same) is.reached;
    fresh = λ e. same ∙ is.fresh e ∙ ap (λ n. record (state_at_start stock) { capacity = n; beginning = beginning }) (sym capacity);
  };
  state = same;
} where
  capacity : new.capacity ≡ old.capacity
  capacity = ap (λ (p : Progress). p.capacity) progress

  same : state_of new stock woken beginning ≡ state_of old stock woken beginning
  same = state_of_is new stock woken beginning (state_of old stock woken beginning) capacity refl (ap (λ (p : Progress). p.ending) progress) (ap (λ (p : Progress). p.next) progress) refl looked.same refl
