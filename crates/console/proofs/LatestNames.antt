-- The latest subscription of a name, as it is searched for from the last one on.
use Rattle.std.proofs.Common.{◌≡◌, ◌⊎◌, inl, inr, ℕ, ◌-◌, ◌<◌, ◌≤◌, true, false, Some, List, length, get_or, sym, ap, ◌∙◌, arith}
use Rattle.std.specs.Prelude.{slice_get}
use Rattle.std.proofs.lemmas.Bool.{cases_lt}
use Rattle.std.proofs.lemmas.Option.{slice_get-get_or}
use Rattle.commands.specs.Word.{is_word}
use Rattle.console.specs.Leaving.{IsLatestOf, NoneIsNamed}
use Rattle.console.specs.declared.terminal.Named.{Named}

-- the one before this place isn't of the name either
pub none_more : {L R : Type 0} (name : List ℕ) (named : List (Named L R)) (place : ℕ) (d : Named L R) → 0 < place → place ≤ length named
    → is_word (get_or named (place - 1) d).name name ≡ false → NoneIsNamed name named place → NoneIsNamed name named (place - 1)
none_more {L} {R} name named place d some within other none k it low at = by (cases_lt k place) where
  value : {a b : Named L R} → Some a ≡ Some b → a ≡ b
  value e = cc

  by : (k < place) ⊎ (place ≤ k) → is_word it.name name ≡ false
  by (inl before) =
      let same : k ≡ place - 1 = omega arith in
      let is : it ≡ get_or named (place - 1) d = value (sym at ∙ ap (slice_get named) same ∙ slice_get-get_or named (place - 1) d (omega arith)) in
      ap (λ (u : Named L R). is_word u.name name) is ∙ other
  by (inr after) = none k it after at

-- the first of the name that is met from the end is the latest
pub latest_found : {L R : Type 0} (name : List ℕ) (named : List (Named L R)) (place : ℕ) (d : Named L R) → 0 < place → place ≤ length named
    → is_word (get_or named (place - 1) d).name name ≡ true → NoneIsNamed name named place → IsLatestOf name named (place - 1)
latest_found name named place d some within is none = record {
  it = get_or named (place - 1) d;
  stands = slice_get-get_or named (place - 1) d (omega arith);
  name_is = is;
  latest = λ k it low at. none k it (omega arith) at;
}
