-- What was published, what each source wrote of it, and what the seats know of that.
use Rattle.std.specs.Prelude.{◌≡◌, ℕ, ◌+◌, ◌<◌, ◌≤◌, ◌==◌, Bool, true, false, List, [], ◌∷◌, ◌++◌}
use mathlib.Core.Option.{some}
use lib.ListN.{get_elem?}
use Rattle.atomic_table.specs.Seated.{TableId}
use Rattle.atomic_table.specs.Table.{Me, Step}
use Rattle.history.specs.declared.rule.Entry.{Entry}
use Rattle.history.specs.declared.rule.View.{View}

-- the name of no table
abbrev pub no_table : TableId
no_table = record { words = 0; slots = 0; views_name = 0; atom = 0; block = 0; offset = 0; slot_names = [] }

abbrev pub entry : ℕ → List ℕ → Entry
entry source text = record { source = source; text = text }

-- a text before others, if it counts
abbrev pub add_if : Bool → List ℕ → List (List ℕ) → List (List ℕ)
add_if true text texts = text ∷ texts
add_if false text texts = texts

-- the texts of one source, in order
abbrev pub texts_of : ℕ → List Entry → List (List ℕ)
texts_of source [] = []
texts_of source (e ∷ es) = add_if (e.source == source) e.text (texts_of source es)

-- it stands there too, or is it
abbrev pub or_else : Bool → Bool → Bool
or_else true b = true
or_else false b = b

-- whether a number is among these
abbrev pub is_in : ℕ → List ℕ → Bool
is_in x [] = false
is_in x (y ∷ ys) = or_else (y == x) (is_in x ys)

-- a source and what it wrote
pub record Written : Type 0 where
  pub source : ℕ
  pub sent : List (List ℕ)

-- the history, how many sources were made, and which of them gave their passes back
pub record Kept : Type 0 where
  pub log : List Entry
  pub made : ℕ
  pub back : List ℕ

-- what the keeper knows
abbrev pub keeper : List Entry → ℕ → List ℕ → View
keeper log made back = record { keeps = true; log = log; made = made; back = back; writes = false; source = 0; sent = []; claims = false; seen = [] }

-- what the seat of a source knows
abbrev pub writer : ℕ → List (List ℕ) → View
writer source sent = record { keeps = false; log = []; made = 0; back = []; writes = true; source = source; sent = sent; claims = false; seen = [] }

-- what a seat knows that knows nothing
abbrev pub nobody : View
nobody = record { keeps = false; log = []; made = 0; back = []; writes = false; source = 0; sent = []; claims = false; seen = [] }

-- what a seat knows that has a beginning of the history
abbrev pub claimer : List Entry → View
claimer seen = record nobody { claims = true; seen = seen }

abbrev pub receipt_of : View → View
receipt_of v = claimer v.log

-- the list begins with these
abbrev pub StartsWith : List Entry → List Entry → Type 0
StartsWith log seen = (rest : List Entry) × (log ≡ seen ++ rest)

abbrev pub after_making : View → View
after_making v = record v { made = v.made + 1 }

abbrev pub made_source : View → View
made_source v = writer v.made []

abbrev pub writer_part : View → View
writer_part v = record v { keeps = false; log = []; made = 0; back = [] }

abbrev pub keeper_part : View → View
keeper_part v = record v { writes = false; source = 0; sent = []; claims = false; seen = [] }

-- the first as a writer and the second as a keeper
abbrev pub together : View → View → View
together v w = record v { keeps = w.keeps; log = w.log; made = w.made; back = w.back }

abbrev pub written : View → List ℕ → View
written v text = record v { log = v.log ++ entry v.source text ∷ []; sent = v.sent ++ text ∷ [] }

-- one seat at most keeps the history, and knows it whole; and each source has one seat, which knows its texts in the history
abbrev pub Fits : ℕ → (ℕ → ℕ) → List Entry → ℕ → List ℕ → ℕ → View → Type 0
Fits keeps seat log made back by v =
    (v.keeps ≡ true → (by ≡ keeps) × ((v.log ≡ log) × ((v.made ≡ made) × (v.back ≡ back))))
    × ((v.writes ≡ true → (v.source < made) × ((seat v.source ≡ by) × ((v.sent ≡ texts_of v.source log) × (is_in v.source back ≡ false))))
    × (v.claims ≡ true → StartsWith log v.seen))

-- there is one history, which has texts of the sources that were made
abbrev pub IsInterleaved : List View → Type 0
IsInterleaved views =
    (keeps : ℕ) × (seat : ℕ → ℕ) × (log : List Entry) × (made : ℕ) × (back : List ℕ)
    × ((source : ℕ) → made ≤ source → (texts_of source log ≡ []) × (is_in source back ≡ false))
    × ((by : ℕ) (v : View) → get_elem? views by ≡ some v → Fits keeps seat log made back by v)

-- the text is the next of the source
abbrev pub Writes : List ℕ → Step (Unit {0}) → Me (Unit {0}) View → ℕ → Me (Unit {0}) View → Type 0
Writes text step before found after = after ≡ (written before.0 text, before.1)

-- what the seat wrote are the texts of its source in the history; and the source gives its pass back, for the first time
abbrev pub returned : View → View
returned v = record v { back = v.source ∷ v.back; writes = false; source = 0; sent = [] }

abbrev pub Returns : Step (Unit {0}) → Me (Unit {0}) View → ℕ → Me (Unit {0}) View → Type 0
Returns step before found after =
    (after ≡ (returned before.0, before.1)) × ((before.0.source < before.0.made)
    × ((before.0.sent ≡ texts_of before.0.source before.0.log)
    × (is_in before.0.source before.0.back ≡ false)))

-- the history begins with what the seat has
abbrev pub Recalls : Step (Unit {0}) → Me (Unit {0}) View → ℕ → Me (Unit {0}) View → Type 0
Recalls step before found after =
    (after ≡ before) × (before.0.claims ≡ true → StartsWith before.0.log before.0.seen)

-- no text of the history is of a source that was not made
abbrev pub Looks : Step (Unit {0}) → Me (Unit {0}) View → ℕ → Me (Unit {0}) View → Type 0
Looks step before found after =
    (after ≡ before) × ((source : ℕ) → before.0.made ≤ source → texts_of source before.0.log ≡ [])
