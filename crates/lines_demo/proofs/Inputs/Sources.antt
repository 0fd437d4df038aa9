-- The sources of publications, one after another.
use Rattle.std.proofs.Common.{◌≡◌, ◌==◌, ◌<◌, ◌≤◌, ◌+◌, ℕ, Bool, true, false, if◌then◌else◌, not, nat_le, List, [], ◌∷◌, length, take, drop, sym, ap, ◌∙◌, get_or, arith}
use Rattle.std.specs.Prelude.{fold, insert}
use Rattle.std.specs.List.{list_any}
use Rattle.std.proofs.lemmas.List.{take_more, take-append-drop}
use Rattle.std.proofs.lemmas.List.Edits.{length-insert}
use Rattle.std.proofs.lemmas.List.Sums.{fold-append, prefix_len-le-length}
use Rattle.lines_demo.specs.Threads.Input.{place_of, sources_of, with_source}
use Rattle.lines_demo.specs.declared.threads.input.Publication.{Publication}

-- the sources with that of one more publication
abbrev pub with_one : List ℕ → Publication → List ℕ
with_one sources p = with_source p.source sources

-- a place is within
pub place_within : (source : ℕ) (sources : List ℕ) → place_of source sources ≤ length sources
place_within source sources = prefix_len-le-length (λ other. not (nat_le source other)) sources

-- one more source is not fewer
with_grows : (source : ℕ) (sources : List ℕ) → length sources ≤ length (with_source source sources)
with_grows source sources = by (list_any (λ other. other == source) sources) where
  by : (b : Bool) → length sources ≤ length (if b then sources else insert sources (place_of source sources) source)
  by true = omega arith
  by false =
      let more : length (insert sources (place_of source sources) source) ≡ length sources + 1 = length-insert sources (place_of source sources) source (place_within source sources) in
      omega arith

-- nor are those of more publications
all_grow : (sources : List ℕ) (ps : List Publication) → length sources ≤ length (fold with_one sources ps)
all_grow sources [] = omega arith
all_grow sources (p ∷ ps) =
    let one : length sources ≤ length (with_one sources p) = with_grows p.source sources in
    let rest : length (with_one sources p) ≤ length (fold with_one (with_one sources p) ps) = all_grow (with_one sources p) ps in
    omega arith

-- the sources of the first publications and of the next one
pub sources_more : (ps : List Publication) (i : ℕ) (p : Publication) (sources new : List ℕ) → i < length ps → p ≡ get_or ps i p
    → sources ≡ sources_of (take i ps) → new ≡ with_source p.source sources
    → new ≡ sources_of (take (i + 1) ps)
sources_more ps i p sources new more at so_far added =
    added ∙ ap (λ (q : Publication). with_source q.source sources) at ∙ ap (λ l. with_source (get_or ps i p).source l) so_far
    ∙ sym (ap (λ (l : List Publication). sources_of l) (take_more ps i p more) ∙ fold-append with_one [] (take i ps) (get_or ps i p ∷ []))

-- the first publications have no more sources than all
pub sources_fewer : (ps : List Publication) (i : ℕ) → length (sources_of (take i ps)) ≤ length (sources_of ps)
sources_fewer ps i =
    let whole : sources_of ps ≡ fold with_one (sources_of (take i ps)) (drop i ps) = ap (λ (l : List Publication). sources_of l) (sym (take-append-drop i ps)) ∙ fold-append with_one [] (take i ps) (drop i ps) in
    rw whole (all_grow (sources_of (take i ps)) (drop i ps))
