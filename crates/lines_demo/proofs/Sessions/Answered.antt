-- A session after a command was answered.
use Rattle.std.proofs.Common.{◌≡◌, ℕ, Bool, true, List, refl}
use Rattle.publisher_hub.specs.declared.hub.Hub.{Hub}
use Rattle.lines_demo.specs.Prelude.{DeskState}
use Rattle.lines_demo.specs.Script.Kept.{IsReachable}
use Rattle.lines_demo.specs.Script.Playing.{Replies}
use Rattle.lines_demo.specs.Script.Session.{IsScriptHub, IsSession, state_of}
use Rattle.lines_demo.specs.Script.State.{CommandResult}
use Rattle.commands.specs.declared.reply.Reply.{Reply}
use Rattle.lines_demo.proofs.Scripts.Replying.{replies_reached}
use Rattle.lines_demo.proofs.Sessions.Between.{session_at}
use Rattle.lines_demo.specs.declared.script.session.beginning.Beginning.{Beginning}

-- a session that a command leaves with this reply, as the definition says
pub record IsAnswered (results : List Bool → CommandResult) (reply : Reply) (hub : Hub DeskState) (stock : ℕ) (woken : List ℕ) (beginning : Beginning) : Type 0 where
  pub session : IsSession hub stock woken beginning
  pub replies : Replies results reply (state_of hub stock woken beginning)

-- what the definition gives is a session, if each result of the command is where a script may stand
pub answered : (results : List Bool → CommandResult) (reply : Reply) (hub : Hub DeskState) (stock : ℕ) (woken : List ℕ) (beginning : Beginning) → beginning.is_over ≡ true → IsScriptHub hub
    → Replies results reply (state_of hub stock woken beginning) → ((refusals : List Bool) → IsReachable (results refusals).state) → IsAnswered results reply hub stock woken beginning
answered results reply hub stock woken beginning read publisher replies reached = record {
  session = session_at hub stock woken beginning (state_of hub stock woken beginning) publisher refl (replies_reached results reply (state_of hub stock woken beginning) replies reached) read;
  replies = replies;
}
