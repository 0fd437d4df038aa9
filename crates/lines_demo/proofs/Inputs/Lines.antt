-- The publications that lines spell, line after line.
use Rattle.std.proofs.Common.{◌≡◌, ℕ, List, [], ◌∷◌, ◌++◌, refl, sym, ap, ◌∙◌, append_assoc, Ok, Err, inl, inr}
use Rattle.std.specs.Prelude.{◌⊎◌, Result}
use Rattle.std.proofs.lemmas.List.{append-nil}
use Rattle.lines_demo.specs.Prelude.{Refusal}
use Rattle.commands.specs.Line.{lines_of, without_return}
use Rattle.lines_demo.specs.Threads.Input.{AddsLine, joined, line_publications, spelled_publications}
use Rattle.lines_demo.specs.declared.threads.input.Publication.{Publication}

-- the lines spell those that were read, and then what the rest spells
abbrev pub Spells : List ℕ → List Publication → List ℕ → Type 0
Spells bytes read rest = spelled_publications (lines_of bytes) ≡ joined (Ok read) (spelled_publications (lines_of rest))

-- nothing was read yet
pub spells_none : (bytes : List ℕ) → Spells bytes [] bytes
spells_none bytes = by (spelled_publications (lines_of bytes)) where
  by : (r : Result (List Publication) Refusal) → r ≡ joined (Ok []) r
  by (Err refusal) = refl
  by (Ok later) = refl

-- what the first line spells stands before the others
abbrev pub SpellsFirst : List ℕ → List Publication → List ℕ → List ℕ → Type 0
SpellsFirst bytes read line rest = spelled_publications (lines_of bytes) ≡ joined (Ok read) (joined (line_publications (without_return line)) (spelled_publications (lines_of rest)))

-- a line was split off
pub spells_first : (bytes before line rest : List ℕ) (read : List Publication) → Spells bytes read before
    → lines_of before ≡ line ∷ lines_of rest → SpellsFirst bytes read line rest
spells_first bytes before line rest read spells is = spells ∙ ap (λ lines. joined (Ok read) (spelled_publications lines)) is

-- the publications of a line were read
pub spells_more : (bytes line stripped rest : List ℕ) (read new : List Publication) → SpellsFirst bytes read line rest
    → stripped ≡ without_return line → AddsLine stripped read new → Spells bytes new rest
spells_more bytes line stripped rest read new spells is adds =
    let ok = ap (λ l. line_publications l) (sym is) ∙ adds.1.0 in
    rw adds.1.1 (spells ∙ ap (λ first. joined (Ok read) (joined first (spelled_publications (lines_of rest)))) ok ∙ by (spelled_publications (lines_of rest))) where
      by : (r : Result (List Publication) Refusal) → joined (Ok read) (joined (Ok adds.0) r) ≡ joined (Ok (read ++ adds.0)) r
      by (Err refusal) = refl
      by (Ok later) = ap (λ ps. Ok ps) (sym (append_assoc read adds.0 later))

-- a line is refused
pub spells_wrong : (bytes line stripped rest : List ℕ) (read : List Publication) (refusal : Refusal) → SpellsFirst bytes read line rest
    → stripped ≡ without_return line → line_publications stripped ≡ Err refusal
    → spelled_publications (lines_of bytes) ≡ Err refusal
spells_wrong bytes line stripped rest read refusal spells is wrong =
    spells ∙ ap (λ first. joined (Ok read) (joined first (spelled_publications (lines_of rest)))) (ap (λ l. line_publications l) (sym is) ∙ wrong)

-- the reading stops at a line that is refused, or by a refusal of memory
pub refused_line : (bytes line stripped rest : List ℕ) (read : List Publication) (refusal : Refusal) → SpellsFirst bytes read line rest
    → stripped ≡ without_return line
    → (refusal ≡ Refusal.NoMemory) ⊎ (line_publications stripped ≡ Err refusal) → (refusal ≡ Refusal.NoMemory) ⊎ (spelled_publications (lines_of bytes) ≡ Err refusal)
refused_line bytes line stripped rest read refusal spells is (inl memory) = inl memory
refused_line bytes line stripped rest read refusal spells is (inr wrong) = inr (spells_wrong bytes line stripped rest read refusal spells is wrong)

-- all was read
pub spells_all : (bytes rest : List ℕ) (read : List Publication) → Spells bytes read rest → rest ≡ []
    → spelled_publications (lines_of bytes) ≡ Ok read
spells_all bytes rest read spells none =
    spells ∙ ap (λ left. joined (Ok read) (spelled_publications (lines_of left))) none ∙ ap (λ ps. Ok ps) (append-nil read)
