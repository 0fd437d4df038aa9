-- The commands of a script.
use Rattle.std.specs.Prelude.{ℕ, ◌≤◌, ⊤, if◌then◌else◌, Option, Some, None, option_map, List, codes}
use Rattle.flow_rules.specs.declared.demand.TheConstants.{UNBOUNDED}
use Rattle.commands.specs.Number.{spelled_number, spelled_code, spelled_signed}
use Rattle.commands.specs.Word.{is_word, first_word, after_space, spelled_name, spelled_text}
use Rattle.commands.specs.declared.command.Command.{Command}
use Rattle.commands.specs.declared.command.Command.TheVariants.{Cap, Late, Sub, Offer, Retry, Submit, Request, Cancel, Close, Fail, Run}

-- a command of a name and a number, if both are there
abbrev pub with_name : {N : Type 0} → (List ℕ → N → Command) → Option (List ℕ) → Option N
    → Option Command
with_name command None number = None
with_name command (Some name) number = option_map (command name) number

-- the command that a word and what follows it spell, if it begins with a name
unfoldable pub named_command_of : List ℕ → List ℕ → Option Command
named_command_of word rest =
    if is_word word (codes "sub")
    then with_name Sub (spelled_name (first_word rest)) (spelled_number (after_space rest))
    else (if is_word word (codes "request")
    then with_name Request (spelled_name (first_word rest)) (spelled_signed (after_space rest))
    else (if is_word word (codes "cancel") then option_map Cancel (spelled_name rest)
    else None))

-- the command that a line spells, if it spells one
unfoldable pub command_of : List ℕ → Option Command
command_of line =
    let word = first_word line in
    let rest = after_space line in
    if is_word line (codes "run") then Some Run
    else (if is_word line (codes "close") then Some Close
    else (if is_word line (codes "late") then Some Late
    else (if is_word word (codes "fail") then option_map Fail (spelled_code rest)
    else (if is_word word (codes "offer") then option_map Offer (spelled_text rest)
    else (if is_word word (codes "retry") then option_map Retry (spelled_text rest)
    else (if is_word word (codes "submit") then option_map Submit (spelled_text rest)
    else (if is_word word (codes "cap") then option_map Cap (spelled_number rest)
    else named_command_of word rest)))))))

-- the numbers of a command are in range
abbrev pub IsInRange : Command → Type 0
IsInRange (Cap capacity) = capacity ≤ UNBOUNDED
IsInRange Late = ⊤
IsInRange (Sub name number) = number ≤ UNBOUNDED
IsInRange (Offer text) = ⊤
IsInRange (Retry text) = ⊤
IsInRange (Submit text) = ⊤
IsInRange (Request name number) = ⊤
IsInRange (Cancel name) = ⊤
IsInRange Close = ⊤
IsInRange (Fail code) = ⊤
IsInRange Run = ⊤
