-- The bytes are followed by as many zeros as the array has left.
use Rattle.std.proofs.Common.{◌≡◌, ◌≤◌, ◌++◌, List, ℕ, length, take, drop, replicate, true, ap, ◌∙◌, arith, refl, rules}
use Rattle.std.proofs.lemmas.List.{drop_at, drop-replicate, length-append, length-replicate}
use Rattle.std.proofs.Math.Seq.{take-append_seam}
use Rattle.flow_rules.specs.Name.{IsPadded, is_name}
use Rattle.flow_rules.proofs.name.Name.new.Goals as goal

padded_is : (name copied : List ℕ) → copied ≡ name → length name ≤ 32 → IsPadded (copied ++ drop (length name) (replicate 32 0)) (length name)
padded_is name copied same short = record {
  whole = rw (same, drop-replicate {X = ℕ} (length name) 32 0, length-append, length-replicate) (omega arith);
  within = short;
  zeros = rw same (rw (drop_at name (drop (length name) (replicate 32 0)) (length name) refl) (drop-replicate {X = ℕ} (length name) 32 0));
}

-- the fields of a new name keep what each name keeps
kept : (name copied : List ℕ) → copied ≡ name → length name ≤ 32 → is_name name ≡ true
    → IsPadded (copied ++ drop (length name) (replicate 32 0)) (length name) × (is_name (take (length name) (copied ++ drop (length name) (replicate 32 0))) ≡ true)
kept name copied same short named =
    let front : take (length name) (copied ++ drop (length name) (replicate 32 0)) ≡ name = rw same (take-append_seam name (drop (length name) (replicate 32 0))) in
    (padded_is name copied same short, ap is_name front ∙ named)

pub invariant_of-result : goal.invariant_of-result
invariant_of-result c = kept _ _ (search rules) (search rules) (search rules)
