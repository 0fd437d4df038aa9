use Rattle.std.proofs.Common.{◌≡◌, true, false, Some, codes, refl, rules}
use Rattle.commands.specs.Command.{command_of}
use Rattle.commands.specs.Word.{is_word, first_word, after_space, spelled_text}
use Rattle.commands.proofs.command.Command.parse.Goals as goal

pub returns-then-eq-7-clause-value : goal.returns-then-eq-7-clause-value
unfolding command_of
returns-then-eq-7-clause-value c =
    let run : is_word c.args.line.now (codes "run") ≡ false = search rules in
    let close : is_word c.args.line.now (codes "close") ≡ false = search rules in
    let late : is_word c.args.line.now (codes "late") ≡ false = search rules in
    let fail : is_word (first_word c.args.line.now) (codes "fail") ≡ false = search rules in
    let offer : is_word (first_word c.args.line.now) (codes "offer") ≡ false = search rules in
    let retry : is_word (first_word c.args.line.now) (codes "retry") ≡ false = search rules in
    let is : is_word (first_word c.args.line.now) (codes "submit") ≡ true = search rules in
    let text : spelled_text (after_space c.args.line.now) ≡ Some c.in_ok-parse_text-3.field-0 = search rules in
    rw (run, close, late, fail, offer, retry, is, text) refl
