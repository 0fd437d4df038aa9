-- What is written under some refusals, piece after piece.
use Rattle.std.proofs.Common.{◌≡◌, ℕ, Bool, true, false, List, [], ◌++◌, refl, sym, ap, ◌∙◌, append_assoc, Option}
use Rattle.std.proofs.lemmas.List.{append-nil}
use Rattle.std.specs.Io.KnownBytes.{Appends}
use Rattle.std.proofs.KnownBytes.{Appends-nil, Appends-trans}
use Rattle.commands.specs.Writing.{Writes, line_of}
use Rattle.commands.specs.Reply.{reply_text}
use Rattle.lines_demo.specs.Script.State.{SessionState, CommandResult, LineResult, empty_result, result_after_bytes, result_then}
use Rattle.lines_demo.specs.Script.Answering.{reply_result}
use Rattle.lines_demo.specs.Script.Playing.{Replies, Answers}
use Rattle.commands.specs.declared.reply.Reply.{Reply}

-- ---- one result

-- under these refusals this is the output, and it was written
pub answers_known : (done : Bool) (results : List Bool → LineResult) (output : List ℕ) (state : SessionState) (used : List Bool) (a b : Option (List ℕ))
    → ((more : List Bool) → results (used ++ more) ≡ record { output = output; state = state; refusals = more }) → Writes done a b output → Answers done results a b state
answers_known done results output state used a b known w =
    let alone : results used ≡ record { output = output; state = state; refusals = [] } = ap results (sym (append-nil used)) ∙ known [] in
    let bytes_of : LineResult → List ℕ = λ result. result.output in
    record {
      used = used;
      written = w.written;
      appended = w.appended;
      prefix = (w.prefix.0, w.prefix.1 ∙ ap bytes_of (sym alone));
      whole = λ all more.
          let build : List ℕ → LineResult = λ bytes. record { output = bytes; state = state; refusals = more } in
          known more ∙ ap build (sym (w.whole all));
    }

-- a reply was written
pub answers_reply : (done : Bool) (results : List Bool → CommandResult) (reply : Reply) (state : SessionState) (a b : Option (List ℕ))
    → Replies results reply state
    → Writes done a b (line_of (reply_text reply)) → Answers done (λ refusals. reply_result (results refusals)) a b state
answers_reply done results reply state a b replies w =
    answers_known done (λ refusals. reply_result (results refusals)) (line_of (reply_text reply)) state replies.used a b (λ more. ap reply_result (replies.replies more)) w

-- nothing is to be written
pub answers_empty : (state : SessionState) (a : Option (List ℕ)) → Answers true (empty_result state) a a state
answers_empty state a = record { used = []; written = []; appended = Appends-nil a; prefix = ([], refl); whole = λ all more. refl }

-- two ways to state a result
pub answers_same : (done : Bool) (f g : List Bool → LineResult) (a b : Option (List ℕ)) (state : SessionState)
    → ((refusals : List Bool) → f refusals ≡ g refusals)
    → Answers done g a b state → Answers done f a b state
answers_same done f g a b state same answers =
    let bytes_of : LineResult → List ℕ = λ result. result.output in
    record {
      used = answers.used;
      written = answers.written;
      appended = answers.appended;
      prefix = (answers.prefix.0, answers.prefix.1 ∙ ap bytes_of (sym (same answers.used)));
      whole = λ all more. same (answers.used ++ more) ∙ answers.whole all more;
    }

-- the writing failed within the first of two results
pub answers_cut : (first results : List Bool → LineResult) (later : SessionState → List Bool → LineResult) (a b : Option (List ℕ)) (state state' : SessionState)
    → ((refusals : List Bool) → results refusals ≡ result_then (first refusals) later) → Answers false first a b state → Answers false results a b state'
answers_cut first results later a b state state' two answers =
    let bytes_of : LineResult → List ℕ = λ result. result.output in
    let tail = (later (first answers.used).state (first answers.used).refusals).output in
    record {
      used = answers.used;
      written = answers.written;
      appended = answers.appended;
      prefix = (
        answers.prefix.0 ++ tail,
        sym (append_assoc answers.written answers.prefix.0 tail) ∙ ap (λ bytes. bytes ++ tail) answers.prefix.1 ∙ ap bytes_of (sym (two answers.used)),
      );
      whole = λ e. cc;
    }

-- ---- several results

-- some of the results were written, and the rest is left
pub record Progress (whole rest : List Bool → LineResult) (old new : Option (List ℕ)) : Type 0 where
  pub used : List Bool
  pub written : List ℕ
  pub appended : Appends old new written
  pub so_far : (more : List Bool) → whole (used ++ more) ≡ result_after_bytes written (rest more)

-- nothing was written yet
pub progress_start : (whole : List Bool → LineResult) (a : Option (List ℕ)) → Progress whole whole a a
progress_start whole a = record { used = []; written = []; appended = Appends-nil a; so_far = λ more. refl }

-- the first of the results that were left was written
pub progress_more : (whole rest first : List Bool → LineResult) (later : SessionState → List Bool → LineResult) (state : SessionState) (a b c : Option (List ℕ))
    → Progress whole rest a b → ((refusals : List Bool) → rest refusals ≡ result_then (first refusals) later) → Answers true first b c state → Progress whole (later state) a c
progress_more whole rest first later state a b c progress two answers =
    let u = progress.used in
    let v = answers.used in
    let w = progress.written in
    record {
      used = u ++ v;
      written = w ++ answers.written;
      appended = Appends-trans a b c w answers.written progress.appended answers.appended;
      so_far = λ more.
          let last = later state more in
          let go_on : LineResult → LineResult = λ result. result_then result later in
          let build : List ℕ → LineResult = λ bytes. record { output = bytes; state = last.state; refusals = last.refusals } in
          ap whole (append_assoc u v more) ∙ progress.so_far (v ++ more)
          ∙ ap (result_after_bytes w) (two (v ++ more) ∙ ap go_on (answers.whole refl more))
          ∙ ap build (sym (append_assoc w answers.written last.output));
    }

-- what was left was written, or a prefix of it
pub progress_last : (done : Bool) (whole rest : List Bool → LineResult) (state : SessionState) (a b c : Option (List ℕ))
    → Progress whole rest a b → Answers done rest b c state → Answers done whole a c state
progress_last done whole rest state a b c progress answers =
    let u = progress.used in
    let v = answers.used in
    let w = progress.written in
    let bytes_of : LineResult → List ℕ = λ result. result.output in
    record {
      used = u ++ v;
      written = w ++ answers.written;
      appended = Appends-trans a b c w answers.written progress.appended answers.appended;
      prefix = (
        answers.prefix.0,
        append_assoc w answers.written answers.prefix.0 ∙ ap (λ bytes. w ++ bytes) answers.prefix.1 ∙ ap bytes_of (sym (progress.so_far v)),
      );
      whole = λ all more. ap whole (append_assoc u v more) ∙ progress.so_far (v ++ more) ∙ ap (result_after_bytes w) (answers.whole all more);
    }

-- nothing is left
pub progress_end : (whole rest : List Bool → LineResult) (state : SessionState) (a b : Option (List ℕ)) → Progress whole rest a b
    → ((refusals : List Bool) → rest refusals ≡ empty_result state refusals) → Answers true whole a b state
progress_end whole rest state a b progress ends =
    progress-plus (answers_same true rest (empty_result state) b b state ends (answers_empty state b)) where
      progress-plus : Answers true rest b b state → Answers true whole a b state
      progress-plus last = progress_last true whole rest state a b b progress last
