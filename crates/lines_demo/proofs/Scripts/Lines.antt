-- The lines of a script, and what comes of them, line after line.
use Rattle.std.proofs.Common.{◌≡◌, ◌==◌, ℕ, suc, ◌+◌, ◌<◌, ◌≤◌, Bool, true, false, not, cond, if◌then◌else◌, nat_lt, List, [], ◌∷◌, length, take, drop, refl, sym, ap, ◌∙◌, arith, Option, Some, None}
use Rattle.std.specs.List.{before_first, after_first, position_or_len}
use Rattle.std.proofs.lemmas.Bool.Decides.{nat_tests}
use Rattle.lines_demo.specs.Prelude.{Refusal}
use Rattle.commands.specs.Line.{is_line_feed, with_first_byte, lines_of, without_return}
use Rattle.commands.specs.Writing.{Writes, line_of}
use Rattle.commands.specs.Command.{command_of}
use Rattle.commands.specs.Reply.{reply_text}
use Rattle.lines_demo.specs.Script.State.{SessionState, LineResult, empty_result, result_then}
use Rattle.lines_demo.specs.Script.Obeying.{command_result}
use Rattle.lines_demo.specs.Script.Running.{run_turns}
use Rattle.lines_demo.specs.Script.Answering.{reply_result, turns_before, spelled_result, line_result, lines_result}
use Rattle.lines_demo.specs.Script.Playing.{Replies, Answers}
use Rattle.commands.specs.declared.command.Command.{Command}
use Rattle.commands.specs.declared.command.Command.TheVariants.{Cap, Late, Sub, Offer, Retry, Submit, Request, Cancel, Close, Fail, Run}
use Rattle.commands.specs.declared.line.TheConstants.{LONGEST_LINE}
use Rattle.commands.specs.declared.reply.Reply.{Reply}
use Rattle.commands.specs.declared.reply.Reply.TheVariants.{Refused}
use Rattle.lines_demo.proofs.Scripts.Results.{Progress, answers_known, answers_reply, answers_empty, answers_same, answers_cut, progress_start, progress_more, progress_last, progress_end}

-- ---- one command

-- any command but `run` makes no turn
no_turns : (command : Command) (state : SessionState) → (command ≡ Run → ⊥) → (refusals : List Bool)
    → turns_before command state refusals ≡ empty_result state refusals
no_turns (Cap capacity) state other refusals = refl
no_turns Late state other refusals = refl
no_turns (Sub name number) state other refusals = refl
no_turns (Offer text) state other refusals = refl
no_turns (Retry text) state other refusals = refl
no_turns (Submit text) state other refusals = refl
no_turns (Request name number) state other refusals = refl
no_turns (Cancel name) state other refusals = refl
no_turns Close state other refusals = refl
no_turns (Fail code) state other refusals = refl
no_turns Run state other refusals = absurd (other refl)

-- a command other than `run` is answered by its reply alone
pub command_called : (command : Command) (old new : SessionState) (reply : Reply) (done : Bool) (a b : Option (List ℕ))
    → (command ≡ Run → ⊥)
    → Replies (λ refusals. command_result command old refusals) reply new → Writes done a b (line_of (reply_text reply)) → Answers done (λ refusals. spelled_result (Some command) old refusals) a b new
command_called command old new reply done a b other replies w =
    let later : SessionState → List Bool → LineResult = λ state left. reply_result (command_result command state left) in
    let go_on : LineResult → LineResult = λ result. result_then result later in
    answers_same done (λ refusals. spelled_result (Some command) old refusals) (λ refusals. reply_result (command_result command old refusals)) a b new
    (λ refusals. ap go_on (no_turns command old other refusals)) (answers_reply done (λ refusals. command_result command old refusals) reply new a b replies w)

-- a `run` is answered by its turns, and then by its reply
pub run_called : (old middle new : SessionState) (reply : Reply) (done : Bool) (a b c : Option (List ℕ))
    → Answers true (λ refusals. run_turns old refusals) a b middle
    → Replies (λ refusals. command_result Run middle refusals) reply new → Writes done b c (line_of (reply_text reply)) → Answers done (λ refusals. spelled_result (Some Run) old refusals) a c new
run_called old middle new reply done a b c turns replies w =
    let whole : List Bool → LineResult = λ refusals. spelled_result (Some Run) old refusals in
    let later : SessionState → List Bool → LineResult = λ state left. reply_result (command_result Run state left) in
    progress_last done whole (later middle) new a b c (progress_more whole whole (λ refusals. run_turns old refusals) later middle a a b (progress_start whole a) (λ refusals. refl) turns)
    (answers_reply done (λ refusals. command_result Run middle refusals) reply new b c replies w)

-- the writing failed within the turns of a `run`
pub run_fault : (old middle new : SessionState) (a b : Option (List ℕ)) → Answers false (λ refusals. run_turns old refusals) a b middle
    → Answers false (λ refusals. spelled_result (Some Run) old refusals) a b new
run_fault old middle new a b turns =
    answers_cut (λ refusals. run_turns old refusals) (λ refusals. spelled_result (Some Run) old refusals) (λ state left. reply_result (command_result Run state left)) a b middle new (λ refusals. refl) turns

-- ---- one line

-- an empty line is answered with nothing
pub line_empty : (state : SessionState) (line : List ℕ) (a : Option (List ℕ)) → true ≡ (length line == 0)
    → Answers true (λ refusals. line_result state refusals line) a a state
unfolding line_result
line_empty state line a empty =
    answers_same true (λ refusals. line_result state refusals line) (empty_result state) a a state (λ refusals. rw (← empty) refl) (answers_empty state a)

-- a line that is too long is refused
pub line_long : (state : SessionState) (line : List ℕ) (done : Bool) (a b : Option (List ℕ)) → false ≡ (length line == 0)
    → LONGEST_LINE < length line
    → Writes done a b (line_of (reply_text (Refused Refusal.LineTooLong))) → Answers done (λ refusals. line_result state refusals line) a b state
unfolding line_result
line_long state line done a b some long w =
    let test : nat_lt LONGEST_LINE (length line) ≡ true = grind (arith, nat_tests) in
    answers_known done (λ refusals. line_result state refusals line) _ state [] a b (λ more. rw (← some, test) refl) w

-- a line that is no command is refused
pub line_wrong : (state : SessionState) (line : List ℕ) (done : Bool) (a b : Option (List ℕ)) → false ≡ (length line == 0)
    → length line ≤ LONGEST_LINE → command_of line ≡ None
    → Writes done a b (line_of (reply_text (Refused Refusal.BadCommand))) → Answers done (λ refusals. line_result state refusals line) a b state
unfolding line_result
line_wrong state line done a b some short wrong w =
    let test : nat_lt LONGEST_LINE (length line) ≡ false = grind (arith, nat_tests) in
    answers_known done (λ refusals. line_result state refusals line) _ state [] a b (λ more. rw (← some, test, wrong) refl) w

-- a line that spells a command
pub line_command : (state later : SessionState) (line : List ℕ) (command : Command) (done : Bool) (a b : Option (List ℕ))
    → false ≡ (length line == 0) → length line ≤ LONGEST_LINE → command_of line ≡ Some command
    → Answers done (λ refusals. spelled_result (Some command) state refusals) a b later → Answers done (λ refusals. line_result state refusals line) a b later
unfolding line_result
line_command state later line command done a b some short is answers =
    let test : nat_lt LONGEST_LINE (length line) ≡ false = grind (arith, nat_tests) in
    answers_same done (λ refusals. line_result state refusals line) (λ refusals. spelled_result (Some command) state refusals) a b later (λ refusals. rw (← some, test, is) refl) answers

-- ---- the lines of a script

-- the lines of bytes, cut after this many bytes of them and a line feed
abbrev cut_at : ℕ → List ℕ → List (List ℕ)
cut_at n bytes = take n bytes ∷ lines_of (drop (n + 1) bytes)

-- one more byte before the cut
cut_more : (n byte : ℕ) (rest : List ℕ) → (byte ∷ take n rest) ∷ lines_of (drop (n + 1) rest) ≡ cut_at (1 + n) (byte ∷ rest)
cut_more n byte rest =
    let next : 1 + n ≡ suc n = omega arith in
    let after : suc n + 1 ≡ suc (n + 1) = omega arith in
    rw (next, after) refl

-- the last byte: a line of its own, or the end of an empty one
cut_last : (byte : ℕ) (feed : Bool) → (if feed then [] ∷ [] else with_first_byte byte []) ≡ cut_at (cond (not feed) (1 + 0) 0) (byte ∷ [])
cut_last byte true = refl
cut_last byte false = refl

-- a byte before others: the first of their first line, or the end of an empty one
cut_next : (byte next : ℕ) (others : List ℕ) (feed : Bool)
    → lines_of (next ∷ others) ≡ cut_at (position_or_len is_line_feed (next ∷ others)) (next ∷ others)
    → (if feed then [] ∷ lines_of (next ∷ others) else with_first_byte byte (lines_of (next ∷ others))) ≡ cut_at (cond (not feed) (1 + position_or_len is_line_feed (next ∷ others)) 0) (byte ∷ (next ∷ others))
cut_next byte next others true first = refl
cut_next byte next others false first = ap (with_first_byte byte) first ∙ cut_more (position_or_len is_line_feed (next ∷ others)) byte (next ∷ others)

-- the lines of bytes that are there: the first line, and the lines of what follows it
pub lines_first : (byte : ℕ) (rest : List ℕ) → lines_of (byte ∷ rest) ≡ cut_at (position_or_len is_line_feed (byte ∷ rest)) (byte ∷ rest)
lines_first byte [] = cut_last byte (is_line_feed byte)
lines_first byte (next ∷ others) = cut_next byte next others (is_line_feed byte) (lines_first next others)

-- bytes that are there are their first line, and the lines of what follows it
pub lines_split : (before line rest : List ℕ) → 0 < length before → line ≡ before_first is_line_feed before
    → rest ≡ after_first is_line_feed before → lines_of before ≡ line ∷ lines_of rest
lines_split [] line rest some is left = absurd (omega arith)
lines_split (byte ∷ others) line rest some is left =
    lines_first byte others ∙ sym (ap (λ l. l ∷ lines_of rest) is ∙ ap (λ r. before_first is_line_feed (byte ∷ others) ∷ lines_of r) left)

-- what comes of some bytes
abbrev pub bytes_result : List ℕ → SessionState → List Bool → LineResult
bytes_result bytes state refusals = lines_result (lines_of bytes) state refusals

-- what comes of bytes that are there: of their first line, and then of the others
bytes_split : (state : SessionState) (before line rest : List ℕ) → 0 < length before → line ≡ before_first is_line_feed before
    → rest ≡ after_first is_line_feed before
    → (refusals : List Bool) → bytes_result before state refusals ≡ result_then (line_result state refusals (without_return line)) (bytes_result rest)
bytes_split state before line rest some is left refusals = ap (λ lines. lines_result lines state refusals) (lines_split before line rest some is left)

-- one line more was played
pub lines_more : (whole : List Bool → LineResult) (before line rest : List ℕ) (state later : SessionState) (a b c : Option (List ℕ))
    → Progress whole (bytes_result before state) a b → 0 < length before
    → line ≡ before_first is_line_feed before → rest ≡ after_first is_line_feed before
    → Answers true (λ refusals. line_result state refusals (without_return line)) b c later → Progress whole (bytes_result rest later) a c
lines_more whole before line rest state later a b c progress some is left answers =
    progress_more whole (bytes_result before state) (λ refusals. line_result state refusals (without_return line)) (bytes_result rest) later a b c progress (bytes_split state before line rest some is left) answers

-- the writing failed within a line
pub lines_fault : (whole : List Bool → LineResult) (before line rest : List ℕ) (state later final : SessionState) (a b c : Option (List ℕ)) → Progress whole (bytes_result before state) a b → 0 < length before
    → line ≡ before_first is_line_feed before → rest ≡ after_first is_line_feed before
    → Answers false (λ refusals. line_result state refusals (without_return line)) b c later → Answers false whole a c final
lines_fault whole before line rest state later final a b c progress some is left answers =
    progress_last false whole (bytes_result before state) final a b c progress
    (answers_cut (λ refusals. line_result state refusals (without_return line)) (bytes_result before state) (bytes_result rest) b c later final (bytes_split state before line rest some is left) answers)

-- all lines were played
pub lines_end : (whole : List Bool → LineResult) (rest : List ℕ) (state : SessionState) (a b : Option (List ℕ))
    → Progress whole (bytes_result rest state) a b → rest ≡ [] → Answers true whole a b state
lines_end whole rest state a b progress none =
    progress_end whole (bytes_result rest state) state a b progress (λ refusals. ap (λ bytes. bytes_result bytes state refusals) none)
