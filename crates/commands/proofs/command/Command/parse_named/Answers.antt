use Rattle.std.proofs.Common.{◌≡◌, true, false, Some, codes, refl, rules}
use Rattle.commands.specs.Command.{named_command_of}
use Rattle.commands.specs.Word.{is_word, spelled_name}
use Rattle.commands.proofs.command.Command.parse_named.Goals as goal

pub returns-then-eq-3-clause-value : goal.returns-then-eq-3-clause-value
unfolding named_command_of
returns-then-eq-3-clause-value c =
    let sub : is_word c.args.word.now (codes "sub") ≡ false = search rules in
    let request : is_word c.args.word.now (codes "request") ≡ false = search rules in
    let is : is_word c.args.word.now (codes "cancel") ≡ true = search rules in
    let name : spelled_name c.args.rest.now ≡ Some c.in_ok-new-3.field-0 = search rules in
    rw (sub, request, is, name) refl
