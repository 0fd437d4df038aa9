use Rattle.std.proofs.Common.{◌≡◌, true, false, sym, ◌∙◌}
use Rattle.std.proofs.lemmas.Result.{err_from_is_err_and}
use Rattle.commands.specs.declared.command.Command.TheVariants.{Run}
use Rattle.lines_demo.proofs.Scripts.Lines.{command_called, run_called, run_fault}
use Rattle.lines_demo.proofs.script.player.Player.play_command.Goals as goal
use Rattle.lines_demo.proofs.script.player.Player.play_command.Goals.{in-Run, in_default, then-matches+in_ok-play_turns, else-matches}

pub returns-in_err-play_turns : goal.returns-in_err-play_turns
returns-in_err-play_turns g c =
    let failed = err_from_is_err_and c.from_residual.result c.from_residual.ensures.1 in
    let run : c.args.command ≡ Run = elim c.match-matches.branch [
      | in-Run m ↦ m.in-Run.is
      | in_default m ↦ (let never : true ≡ false = sym c.if-matches.true ∙ m.matches-is in cc)
    ] in
    rw (failed.1, run) (run_fault c.args.self.now.session c.play_turns.new.self.session c.play_turns.new.self.session _ _ c.in_err-play_turns.ensures.turns)

pub returns : goal.returns
returns g c =
    elim c.if-matches.branch [
      | then-matches+in_ok-play_turns w ↦
          let run : c.args.command ≡ Run = elim c.match-matches.branch [
            | in-Run m ↦ m.in-Run.is
            | in_default m ↦ (let never : true ≡ false = sym w.if-matches.true ∙ m.matches-is in cc)
          ] in
          let replies = rw (w.self-is, run) at c.obey-reply.ensures in
          let line = rw w.writer-is at c.answer.ensures.line in
          rw (run, c.answer.ensures.kept) (run_called c.args.self.now.session w.play_turns.new.self.session c.obey-reply.new.self c.obey-reply.result _ _ _ _ w.in_ok-play_turns.ensures.turns replies line)
      | else-matches w ↦
          let other : c.args.command ≡ Run → ⊥ = elim c.match-matches.branch [
            | in-Run m ↦ λ e. (let never : true ≡ false = sym m.matches-is ∙ w.if-matches.false in cc)
            | in_default m ↦ m.in_default.not-Run
          ] in
          let replies = rw w.self-is at c.obey-reply.ensures in
          let line = rw w.writer-is at c.answer.ensures.line in
          rw c.answer.ensures.kept (command_called c.args.command c.args.self.now.session c.obey-reply.new.self c.obey-reply.result _ _ _ other replies line)
    ]
