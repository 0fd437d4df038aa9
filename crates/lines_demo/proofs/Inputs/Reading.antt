-- What was read is all that the reader had.
use Rattle.std.proofs.Common.{◌≡◌, ℕ, ◌<◌, ◌≤◌, List, length, take, refl, sym, ap, ◌∙◌, arith, [], inl, inr, Option, Some, None, Err, Bool, true, false, ◌++◌}
use mathlib.Core.List.{IsPrefix}
use Rattle.std.specs.Prelude.{IfSome, option_map, Result, Ok, ⊤}
use Rattle.std.proofs.lemmas.List.{append-nil, length-take, take_all}
use Rattle.std.proofs.KnownBytes.{Appends-nil}
use Rattle.lines_demo.specs.declared.script.fault.ScriptFault.{ScriptFault}
use Rattle.lines_demo.specs.declared.script.fault.ScriptFault.TheVariants.{Read, TooLong, Write, Gone, Memory}
use Rattle.lines_demo.specs.declared.reader.InputFault.{InputFault}
use Rattle.commands.specs.declared.writing.OutputFault.{OutputFault}
use Rattle.lines_demo.specs.Script.Fault.{reading_fault, script_fault}
use Rattle.lines_demo.specs.Script.RunScript.{PlaysScript, IsScriptOf, IsAsMuch}
use Rattle.lines_demo.specs.Script.State.{SessionState, LineResult}
use Rattle.lines_demo.specs.Script.Playing.{Answers}
use Rattle.lines_demo.specs.declared.reader.TheConstants.{LONGEST_INPUT}
use Rattle.lines_demo.specs.Script.Answering.{script_output, script_result}

-- the result of a script of which all lines were played, or the writing failed
abbrev pub IsPlayed : Result (Unit {0}) ScriptFault → Bool → Type 0
IsPlayed (Ok _) done = done ≡ true
IsPlayed (Err Read) done = ⊥
IsPlayed (Err TooLong) done = ⊥
IsPlayed (Err Write) done = ⊤
IsPlayed (Err Gone) done = ⊤
IsPlayed (Err Memory) done = ⊤

-- a fault of writing is one of a script that was played
pub fault_played : (fault : OutputFault) → IsPlayed (Err (script_fault fault)) false
fault_played OutputFault.Write = tt
fault_played OutputFault.Gone = tt
fault_played OutputFault.Memory = tt

-- a fault at which nothing may have been written yet
abbrev pub IsBeforeWriting : ScriptFault → Type 0
IsBeforeWriting Read = ⊤
IsBeforeWriting TooLong = ⊤
IsBeforeWriting Write = ⊥
IsBeforeWriting Gone = ⊥
IsBeforeWriting Memory = ⊤

-- a fault of reading is none of writing
pub reading_writes_nothing : (fault : InputFault) → IsBeforeWriting (reading_fault fault)
reading_writes_nothing InputFault.Read = tt
reading_writes_nothing InputFault.TooLong = tt
reading_writes_nothing InputFault.Memory = tt

-- a read that stopped short of its limit has taken all
pub all_read : (known : Option (List ℕ)) (limit : ℕ) (items : List ℕ) → IfSome (option_map (take limit) known) (λ xs. items ≡ xs)
    → length items < limit → IfSome known (λ all. all ≡ items)
all_read None limit items read short = tt
all_read (Some all) limit items read short =
    let cut : length items ≡ length (take limit all) = ap length read in
    let whole : length all ≤ limit = omega (arith, cut, length-take limit all) in
    sym (read ∙ take_all limit all whole)

-- the reading stopped: nothing was written
pub reading_stopped : (fault : ScriptFault) (stock : ℕ) (known a : Option (List ℕ)) → IsBeforeWriting fault
    → PlaysScript (Err fault) stock known a a
reading_stopped fault stock known a before = record {
  bytes = [];
  refusals = [];
  written = [];
  given = by_fault fault before known;
  bounded = omega arith;
  appended = Appends-nil a;
  as_much = nothing fault;
} where
  by_fault : (fault : ScriptFault) → IsBeforeWriting fault → (known : Option (List ℕ))
      → IfSome known (λ all. IsScriptOf (Err fault) all [] [])
  by_fault fault before None = tt
  by_fault Read before (Some all) = refl
  by_fault TooLong before (Some all) = refl
  by_fault Write before (Some all) = absurd before
  by_fault Gone before (Some all) = absurd before
  by_fault Memory before (Some all) = inr refl

  nothing : (fault : ScriptFault) → IsAsMuch (Err fault) [] (script_output stock [] [])
  nothing Read = refl
  nothing TooLong = refl
  nothing Write = (script_output stock [] [], refl)
  nothing Gone = (script_output stock [] [], refl)
  nothing Memory = (script_output stock [] [], refl)

-- all lines were played, or the writing failed within them
pub script_played : (result : Result (Unit {0}) ScriptFault) (done : Bool) (stock : ℕ) (bytes : List ℕ) (state : SessionState) (known a b : Option (List ℕ)) → IsPlayed result done
    → IfSome known (λ all. all ≡ bytes) → length bytes ≤ LONGEST_INPUT → Answers done (λ refusals. script_result stock refusals bytes) a b state → PlaysScript result stock known a b
script_played result done stock bytes state known a b played given short answers = record {
  bytes = bytes;
  refusals = answers.used;
  written = answers.written;
  given = by_known known given;
  bounded = short;
  appended = answers.appended;
  as_much = by_result result done played answers.prefix answers.whole;
} where
  by_known : (known : Option (List ℕ)) → IfSome known (λ all. all ≡ bytes)
      → IfSome known (λ all. IsScriptOf result all bytes answers.written)
  by_known None given = tt
  by_known (Some all) given = script result played given where
    script : (r : Result (Unit {0}) ScriptFault) → IsPlayed r done → all ≡ bytes → IsScriptOf r all bytes answers.written
    script (Ok _) played e = e
    script (Err Read) played e = absurd played
    script (Err TooLong) played e = absurd played
    script (Err Write) played e = e
    script (Err Gone) played e = e
    script (Err Memory) played e = inl e

  all-written : (done : Bool) → done ≡ true
      → (done ≡ true → (more : List Bool) → script_result stock (answers.used ++ more) bytes ≡ record { output = answers.written; state = state; refusals = more })
      → answers.written ≡ script_output stock answers.used bytes
  all-written done all whole =
      let bytes_of : LineResult → List ℕ = λ result. result.output in
      sym (ap (λ refusals. script_output stock refusals bytes) (sym (append-nil answers.used)) ∙ ap bytes_of (whole all []))

  by_result : (r : Result (Unit {0}) ScriptFault) (done : Bool) → IsPlayed r done
      → IsPrefix answers.written (script_output stock answers.used bytes)
      → (done ≡ true → (more : List Bool) → script_result stock (answers.used ++ more) bytes ≡ record { output = answers.written; state = state; refusals = more })
      → IsAsMuch r answers.written (script_output stock answers.used bytes)
  by_result (Ok _) done played prefix whole = all-written done played whole
  by_result (Err Read) done played prefix whole = absurd played
  by_result (Err TooLong) done played prefix whole = absurd played
  by_result (Err Write) done played prefix whole = prefix
  by_result (Err Gone) done played prefix whole = prefix
  by_result (Err Memory) done played prefix whole = prefix
