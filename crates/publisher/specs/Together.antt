-- What the submitters that were handed in have together.
use Rattle.std.specs.Prelude.{◌≡◌, ◌⊎◌, ℕ, suc, ◌+◌, ◌<◌, ◌≤◌, Bool, true, false, Option, None, Some, List, [], ◌∷◌, length, slice_get, sum_by}
use Rattle.history.specs.History.{is_in}
use Rattle.history.specs.declared.rule.Entry.{Entry}
use Rattle.publisher.specs.Content.{IsWholeIn}
use Rattle.publisher.specs.Handles.{SubmitterState}
use Rattle.publisher.specs.Outcome.{AnyKnows, IsAway, IsSourceThere, source_name}
use Rattle.publisher_hub.specs.declared.hub.TheConstants.{MOST_SOURCES}

-- how many marks are set
abbrev pub marks : List Bool → ℕ
marks [] = 0
marks (true ∷ bits) = suc (marks bits)
marks (false ∷ bits) = marks bits

-- what all of these submitters but the rest have together: how much they published, and how many of their offers found
-- a buffer full; their parts of both ledgers; the marks of their numbers; and whether one of them knows that the
-- publisher is closed
pub record AreTogether (submitters rest : List SubmitterState)
    (published dropping parts drop_parts : ℕ) (sources : List Bool) (knows : Bool) : Type 0 where
  pub published_are : published + sum_by (λ (s : SubmitterState). s.published) rest
      ≡ sum_by (λ (s : SubmitterState). s.published) submitters
  pub dropping_are : dropping + sum_by (λ (s : SubmitterState). s.dropping) rest
      ≡ sum_by (λ (s : SubmitterState). s.dropping) submitters
  pub parts_are : parts + length rest ≡ length submitters
  pub drop_parts_are : drop_parts + length rest ≡ length submitters
  pub long : length sources ≡ MOST_SOURCES
  pub few : marks sources + length rest ≤ length submitters
  pub kept : (i : ℕ) (s : SubmitterState) → slice_get rest i ≡ Some s
      → slice_get submitters i ≡ Some s
  pub there : (source : ℕ) → slice_get sources source ≡ Some true
      → IsSourceThere source submitters
  pub away : (source : ℕ) → slice_get sources source ≡ Some false → IsAway source rest
      → IsAway source submitters
  pub knows_is : AnyKnows submitters → (knows ≡ true) ⊎ AnyKnows rest

-- all of these submitters but the rest gave their passes back, and their sources are among these, which were given back:
-- what each sent are its texts among these publications, and no two of them are one source
pub record AreBack (log : List Entry) (submitters rest : List SubmitterState) (back : List ℕ)
    : Type 0 where
  pub each : (i : ℕ) (s : SubmitterState) → slice_get submitters i ≡ Some s → length rest ≤ i
      → IsWholeIn log s
  pub marked : (i : ℕ) (s : SubmitterState) → slice_get submitters i ≡ Some s → length rest ≤ i
      → is_in s.source back ≡ true
  pub apart : (i j : ℕ) (s other : SubmitterState) → slice_get submitters i ≡ Some s
      → slice_get submitters j ≡ Some other → length rest ≤ i → i < j → s.source ≡ other.source → ⊥

-- this source is missing, and each before it is there
abbrev pub IsFirstUnmarked : List Bool → ℕ → Type 0
IsFirstUnmarked sources source = (slice_get sources source ≡ Some false)
    × ((other : ℕ) → other < source → slice_get sources other ≡ Some true)

-- the first of this many sources that is missing, if one is
abbrev pub FindsMissing : List Bool → ℕ → Option ℕ → Type 0
FindsMissing sources many None = (source : ℕ) → source < many → slice_get sources source ≡ Some true
FindsMissing sources many (Some source) = (source < many) × IsFirstUnmarked sources source

-- the shares of the submitters were compared with the totals: all is there, or one is missing, the first
abbrev pub Audits : List Bool → ℕ → ℕ → ℕ → ℕ → Option (List ℕ) → Type 0
Audits sources published dropping next dropped None = (published ≡ next) × (dropping ≡ dropped)
Audits sources published dropping next dropped (Some name) =
    (source : ℕ) × ((name ≡ source_name source) × IsFirstUnmarked sources source)
