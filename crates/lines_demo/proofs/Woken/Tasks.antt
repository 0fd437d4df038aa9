-- The numbers of the first tasks that are due.
use Rattle.std.proofs.Common.{◌≡◌, ℕ, suc, ◌+◌, ◌<◌, ◌≤◌, List, [], ◌∷◌, ◌++◌, length, take, slice_index_or, ap, ◌∙◌, arith}
use Rattle.std.proofs.Math.Seq.{take-suc}
use Rattle.std.proofs.lemmas.List.{length-map, length-take-le, map-append, take_all}
use Rattle.publisher_hub.specs.declared.work.Work.{Work}
use Rattle.lines_demo.specs.Script.Session.{numbers_of}

-- with one more
pub numbers_more : (due : List (Work Unit)) (i : ℕ) (none : Work Unit) → i < length due
    → numbers_of (take (i + 1) due) ≡ numbers_of (take i due) ++ (slice_index_or due i none).entry ∷ []
numbers_more due i none within =
    let next : i + 1 ≡ suc i = omega arith in
    ap (λ n. numbers_of (take n due)) next ∙ ap numbers_of (take-suc due i none within)
    ∙ map-append (λ (work : Work Unit). work.entry) (take i due) (slice_index_or due i none ∷ [])

-- there are this many
pub numbers_few : (due : List (Work Unit)) (i : ℕ) → i ≤ length due → length (numbers_of (take i due)) ≡ i
numbers_few due i within = length-map (take i due) (λ (work : Work Unit). work.entry) ∙ length-take-le i due within

-- and all of them
pub numbers_all : (due : List (Work Unit)) (i : ℕ) → length due ≤ i → numbers_of (take i due) ≡ numbers_of due
numbers_all due i all = ap numbers_of (take_all i due all)
