-- An input, checked after its lines were read.
use Rattle.std.proofs.Common.{◌≡◌, ◌<◌, ◌≤◌, ℕ, Bool, true, false, nat_lt, List, [], ◌∷◌, length, refl, sym, ap, inl, inr, arith, Ok, Err}
use Rattle.std.specs.Prelude.{◌⊎◌}
use Rattle.std.specs.List.{list_any}
use Rattle.std.proofs.lemmas.Bool.Decides.{nat_tests}
use Rattle.lines_demo.specs.Prelude.{Refusal, capacity_of}
use Rattle.commands.specs.Line.{lines_of}
use Rattle.lines_demo.specs.Threads.Plan.{PlanState, IsOrLacksMemory}
use Rattle.lines_demo.specs.Threads.Input.{input_after, input_of, sources_of, spelled_publications, would_block}
use Rattle.lines_demo.specs.declared.threads.input.Publication.{Publication}
use Rattle.lines_demo.specs.declared.threads.input.TheConstants.{MOST_SOURCES}
use Rattle.lines_demo.specs.declared.threads.plan.NamedDemand.{NamedDemand}

-- no list has more elements that pass one test than another that is the same
pub any_same : (p q : NamedDemand → Bool) → ((s : NamedDemand) → p s ≡ q s) → (l : List NamedDemand) → list_any p l ≡ list_any q l
any_same p q same [] = refl
any_same p q same (s ∷ l) = rw (same s, any_same p q same l) refl

-- a line was refused
pub line_refused : (plan : PlanState) (bytes : List ℕ) (refusal : Refusal)
    → (refusal ≡ Refusal.NoMemory) ⊎ (spelled_publications (lines_of bytes) ≡ Err refusal)
    → IsOrLacksMemory (Err refusal) (input_of plan bytes)
unfolding input_of
line_refused plan bytes refusal (inl memory) = inr (ap (λ r. Err r) memory)
line_refused plan bytes refusal (inr wrong) = inl (sym (ap (λ r. input_after plan r) wrong))

-- there are too many sources
pub sources_refused : (plan : PlanState) (bytes : List ℕ) (ps : List Publication) (refusal : Refusal)
    → spelled_publications (lines_of bytes) ≡ Ok ps
    → (refusal ≡ Refusal.NoMemory) ⊎ ((refusal ≡ Refusal.BadCommand) × (MOST_SOURCES < length (sources_of ps))) → IsOrLacksMemory (Err refusal) (input_of plan bytes)
unfolding input_of
sources_refused plan bytes ps refusal read (inl memory) = inr (ap (λ r. Err r) memory)
sources_refused plan bytes ps refusal read (inr many) =
    let test : nat_lt MOST_SOURCES (length (sources_of ps)) ≡ true = let more = many.1 in grind (arith, nat_tests) in
    inl (rw (read, test, many.0) refl)

-- a publication might wait for ever
pub blocking_refused : (plan : PlanState) (bytes : List ℕ) (ps : List Publication) → spelled_publications (lines_of bytes) ≡ Ok ps
    → length (sources_of ps) ≤ MOST_SOURCES
    → list_any (would_block (capacity_of plan.capacity) (length ps)) plan.subscribers ≡ true → input_of plan bytes ≡ Err Refusal.WouldWait
unfolding input_of
blocking_refused plan bytes ps read few blocks =
    let test : nat_lt MOST_SOURCES (length (sources_of ps)) ≡ false = grind (arith, nat_tests) in
    rw (read, test, blocks) refl

-- nothing is refused
pub input_passes : (plan : PlanState) (bytes : List ℕ) (ps : List Publication) → spelled_publications (lines_of bytes) ≡ Ok ps
    → length (sources_of ps) ≤ MOST_SOURCES
    → list_any (would_block (capacity_of plan.capacity) (length ps)) plan.subscribers ≡ false → input_of plan bytes ≡ Ok (record { publications = ps; sources = sources_of ps })
unfolding input_of
input_passes plan bytes ps read few passes =
    let test : nat_lt MOST_SOURCES (length (sources_of ps)) ≡ false = grind (arith, nat_tests) in
    rw (read, test, passes) refl
