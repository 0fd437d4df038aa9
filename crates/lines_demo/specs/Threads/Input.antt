-- The input of `threads`: lines `SOURCE TEXT`, and why they are refused.
use Rattle.std.specs.Prelude.{◌≡◌, ℕ, ◌+◌, ◌==◌, Bool, if◌then◌else◌, nat_lt, nat_le, Option, Some, None, Result, Ok, Err, List, [], ◌∷◌, ◌++◌, length, fold, insert}
use Rattle.std.specs.List.{list_any, position_or_len}
use Rattle.lines_demo.specs.Prelude.{Refusal, LONGEST_TEXT, capacity_of}
use Rattle.commands.specs.Line.{lines_of, without_return}
use Rattle.commands.specs.Number.{spelled_code}
use Rattle.commands.specs.Word.{first_word, after_space, spelled_text}
use Rattle.lines_demo.specs.Threads.Plan.{PlanState}
use Rattle.lines_demo.specs.declared.threads.plan.NamedDemand.{NamedDemand}
use Rattle.lines_demo.specs.declared.threads.input.Publication.{Publication}
use Rattle.lines_demo.specs.declared.threads.input.TheConstants.{MOST_SOURCES}

-- the publication of this source and text, if both are there and the text isn't too long
abbrev pub publication_of : Option ℕ → Option (List ℕ) → Result Publication Refusal
publication_of None text = Err Refusal.BadCommand
publication_of (Some source) None = Err Refusal.BadCommand
publication_of (Some source) (Some text) =
    if nat_lt LONGEST_TEXT (length text) then Err Refusal.LineTooLong
    else Ok (record { source = source; text = text })

-- the publication that a line spells, or why it is refused
unfoldable pub spelled_publication : List ℕ → Result Publication Refusal
spelled_publication line =
    publication_of (spelled_code (first_word line)) (spelled_text (after_space line))

-- a publication alone, if it is there
abbrev pub alone : Result Publication Refusal → Result (List Publication) Refusal
alone (Err refusal) = Err refusal
alone (Ok publication) = Ok (publication ∷ [])

-- the publication that a line spells, and none if it is empty; or why it is refused
abbrev pub line_publications : List ℕ → Result (List Publication) Refusal
line_publications line = if length line == 0 then Ok [] else alone (spelled_publication line)

-- publications before others, if all are there; else the first refusal
abbrev pub joined : Result (List Publication) Refusal → Result (List Publication) Refusal
    → Result (List Publication) Refusal
joined (Err refusal) later = Err refusal
joined (Ok first) (Err refusal) = Err refusal
joined (Ok first) (Ok later) = Ok (first ++ later)

-- the publications that the lines spell, or the refusal of the first line that is refused
abbrev pub spelled_publications : List (List ℕ) → Result (List Publication) Refusal
spelled_publications [] = Ok []
spelled_publications (line ∷ lines) =
    joined (line_publications (without_return line)) (spelled_publications lines)

-- the publications of a line were added
abbrev pub AddsLine : List ℕ → List Publication → List Publication → Type 0
AddsLine line old new =
    (added : List Publication) × ((line_publications line ≡ Ok added) × (new ≡ old ++ added))

-- the place of a source among those that ascend: before the first that isn't less
abbrev pub place_of : ℕ → List ℕ → ℕ
place_of source sources = position_or_len (λ other. nat_le source other) sources

-- the sources with this one at its place, if it isn't among them
abbrev pub with_source : ℕ → List ℕ → List ℕ
with_source source sources =
    if list_any (λ other. other == source) sources then sources
    else insert sources (place_of source sources) source

-- the sources of these publications, in ascending order
abbrev pub sources_of : List Publication → List ℕ
sources_of publications =
    fold (λ sources (p : Publication). with_source p.source sources) [] publications

-- what is published, and by whom
pub record InputState : Type 0 where
  pub publications : List Publication
  pub sources : List ℕ

-- a publication might wait for ever for this subscriber, if this many items are published
abbrev pub would_block : ℕ → ℕ → NamedDemand → Bool
would_block capacity many subscriber = nat_lt (subscriber.demand + capacity) many

-- what is published by this plan, or why it is refused
abbrev pub checked_input : PlanState → List Publication → Result InputState Refusal
checked_input plan publications =
    if nat_lt MOST_SOURCES (length (sources_of publications)) then Err Refusal.BadCommand
    else (if list_any
    (would_block (capacity_of plan.capacity) (length publications)) plan.subscribers
    then Err Refusal.WouldWait
    else Ok (record { publications = publications; sources = sources_of publications }))

abbrev pub input_after : PlanState → Result (List Publication) Refusal → Result InputState Refusal
input_after plan (Err refusal) = Err refusal
input_after plan (Ok publications) = checked_input plan publications

-- what these bytes have published by this plan, or the first of their refusals
unfoldable pub input_of : PlanState → List ℕ → Result InputState Refusal
input_of plan bytes = input_after plan (spelled_publications (lines_of bytes))
