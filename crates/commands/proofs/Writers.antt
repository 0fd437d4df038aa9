-- What was written, piece after piece.
use Rattle.std.proofs.Common.{◌≡◌, ◌==◌, arith, ℕ, Bool, true, false, List, [], ◌∷◌, ◌++◌, length, take, drop, refl, sym, ap, ◌∙◌, append_assoc, subst, Option, Some, None}
use Rattle.std.proofs.lemmas.List.{append-nil, take-append-drop}
use Rattle.std.proofs.lemmas.Bool.Decides.{nat_tests}
use Rattle.std.specs.Io.KnownBytes.{Appends, Keeps}
use Rattle.std.proofs.KnownBytes.{Appends-nil, Appends-trans}
use Rattle.commands.specs.Writing.{Writes}

-- what is kept has what was appended before
pub appends_kept : (a b c : Option (List ℕ)) (bs : List ℕ) → Appends a b bs → Keeps b c → Appends a c bs
appends_kept None b c bs p q = tt
appends_kept (Some x) None c bs p q = absurd p
appends_kept (Some x) (Some y) None bs p q = absurd q
appends_kept (Some x) (Some y) (Some z) bs p q = q ∙ p

-- nothing was written
pub writes_none : (a : Option (List ℕ)) (bytes : List ℕ) → Writes false a a bytes
writes_none a bytes = record { written = []; appended = Appends-nil a; prefix = (bytes, refl); whole = λ e. cc }

-- all was written
pub writes_all : (a b : Option (List ℕ)) (bytes : List ℕ) → Appends a b bytes → Writes true a b bytes
writes_all a b bytes p = record { written = bytes; appended = p; prefix = ([], append-nil bytes); whole = λ _. refl }

-- a prefix was written
pub writes_prefix : (a b : Option (List ℕ)) (written rest bytes : List ℕ) → Appends a b written → bytes ≡ written ++ rest → Writes false a b bytes
writes_prefix a b written rest bytes p e = record { written = written; appended = p; prefix = (rest, sym e); whole = λ f. cc }

-- where all was written, it was appended
pub writes_done : (a b : Option (List ℕ)) (bytes : List ℕ) → Writes true a b bytes → Appends a b bytes
writes_done a b bytes w = let P : List ℕ → Type 0 = λ x. Appends a b x in subst P (w.whole refl) w.appended

-- a piece after what was appended before
pub writes_after : (done : Bool) (a b c : Option (List ℕ)) (before bytes : List ℕ) → Appends a b before → Writes done b c bytes → Writes done a c (before ++ bytes)
writes_after done a b c before bytes p w = record {
  written = before ++ w.written;
  appended = Appends-trans a b c before w.written p w.appended;
  prefix = (w.prefix.0, append_assoc before w.written w.prefix.0 ∙ ap (λ x. before ++ x) w.prefix.1);
  whole = λ e. ap (λ x. before ++ x) (w.whole e);
}

-- what was not written whole is a prefix of more
pub writes_less : (a b : Option (List ℕ)) (bytes more : List ℕ) → Writes false a b bytes → Writes false a b (bytes ++ more)
writes_less a b bytes more w =
    writes_prefix a b w.written (w.prefix.0 ++ more) (bytes ++ more) w.appended (ap (λ x. x ++ more) (sym w.prefix.1) ∙ append_assoc w.written w.prefix.0 more)

-- one more write of what was left
pub writes_more : (a b c : Option (List ℕ)) (n : ℕ) (written rest bytes : List ℕ) → Appends a b written → bytes ≡ written ++ rest → Appends b c (take n rest)
    → (written' : List ℕ) × Appends a c written' × (bytes ≡ written' ++ drop n rest)
writes_more a b c n written rest bytes p e q = (
  written ++ take n rest,
  Appends-trans a b c written (take n rest) p q,
  e ∙ ap (λ x. written ++ x) (sym (take-append-drop n rest)) ∙ sym (append_assoc written (take n rest) (drop n rest)),
)

-- a list of no elements is empty
pub empty_is : (xs : List ℕ) → true ≡ (length xs == 0) → xs ≡ []
empty_is [] e = refl
empty_is (x ∷ xs) e =
    let none : length (x ∷ xs) ≡ 0 = grind (arith, nat_tests) in
    absurd (omega arith)
