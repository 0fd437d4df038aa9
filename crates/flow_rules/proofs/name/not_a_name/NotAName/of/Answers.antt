-- The loop stops at the first byte that may not stand in a name.
use Rattle.std.proofs.Common.{◌≡◌, ◌<◌, ◌≤◌, ◌&&◌, ◌==◌, List, [], ◌∷◌, ℕ, true, false, take, drop, zero, suc, length, arith, sym, ap, ◌∙◌}
use Rattle.std.proofs.lemmas.Bool.{and_parts}
use Rattle.std.proofs.lemmas.Bool.Decides.{nat_tests}
use Rattle.std.proofs.lemmas.List.{length-take-le}
use Rattle.std.proofs.Math.Seq.{split_at}
use Rattle.std.specs.List.{list_all}
use Rattle.flow_rules.specs.Name.{is_name, is_name_byte}
use Rattle.flow_rules.proofs.name.not_a_name.NotAName.of.Goals as goal

-- if not all bytes may stand in a name, those that may before one that is looked at are not all
not_all : (xs : List ℕ) (at : ℕ) → at ≤ length xs → list_all is_name_byte (take at xs) ≡ true → list_all is_name_byte xs ≡ false → at < length xs
not_all [] zero le all none = absurd (let clash : true ≡ false = none in cc)
not_all [] (suc at) le all none = absurd (omega arith)
not_all (x ∷ xs) zero le all none = omega arith
not_all (x ∷ xs) (suc at) le all none =
    let both = and_parts (is_name_byte x) (list_all is_name_byte (take at xs)) all in
    let more = not_all xs at (omega arith) both.1 (ap (λ b. b && list_all is_name_byte xs) (sym both.0) ∙ none) in
    omega arith

some_may_not : (xs : List ℕ) → is_name xs ≡ false → 1 ≤ length xs → length xs ≤ 32 → list_all is_name_byte xs ≡ false
some_may_not xs none some few = grind (arith, nat_tests)

not_empty : (xs : List ℕ) → (length xs == 0) ≡ false → 1 ≤ length xs
not_empty [] other = let clash : true ≡ false = other in cc
not_empty (x ∷ xs) other = omega arith

pub returns : goal.returns
returns c =
    let some = not_empty c.args.bytes.now (sym c.is_empty.ensures ∙ c.if-is_empty.false) in
    let none = some_may_not c.args.bytes.now c.requires some c.if-bytes-gt-LONGEST.false in
    let within = not_all c.args.bytes.now c.loop-at.at c.loop-at.invariant.0 c.loop-at.invariant.1 none in
    (take c.loop-at.at c.args.bytes.now, _, drop (suc c.loop-at.at) c.args.bytes.now, split_at c.args.bytes.now c.loop-at.at 0 within, length-take-le c.loop-at.at c.args.bytes.now c.loop-at.invariant.0, c.loop-at.invariant.1, sym c.may_stand.ensures ∙ c.loop-at-test.false)
