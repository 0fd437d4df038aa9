-- The report of a run: what each subscriber was told, source by source, and how its subscription ended.
use Rattle.std.specs.Prelude.{◌≡◌, ℕ, ◌+◌, ◌-◌, ◌^◌, ◌==◌, min, Bool, true, false, Option, Some, None, List, [], ◌∷◌, ◌++◌, length, if◌then◌else◌, codes, decimal}
use Rattle.std.specs.List.{list_all}
use Rattle.flow_rules.specs.declared.item.Item.{Item}
use Rattle.flow_rules.specs.declared.signal.Signal.{Signal}
use Rattle.flow_rules.specs.Callback.{Reply}
use Rattle.flow_rules.specs.Signals.{items_of}
use Rattle.flow_rules.specs.declared.how.How.{How}
use Rattle.commands.specs.Writing.{line_of}
use Rattle.publisher.specs.declared.outcome.NamedLane.{NamedLane}
use Rattle.publisher.specs.declared.outcome.Outcome.{Outcome}
use Rattle.lines_demo.specs.declared.threads.reporter.SourceLines.{SourceLines}

-- how the lines of a source begin that a subscriber of this name was told
abbrev pub beginning_of : List ℕ → ℕ → List ℕ
beginning_of name source = name ++ codes " " ++ decimal source ++ codes " "

-- what an item adds to the lines of a submitter that begin so
abbrev pub line_from : ℕ → List ℕ → Item → List ℕ
line_from submitter beginning item = if item.source == submitter then line_of (beginning ++ item.text) else []

-- the lines of a submitter's items among these, which begin so
abbrev pub lines_from : ℕ → List ℕ → List Item → List ℕ
lines_from submitter beginning [] = []
lines_from submitter beginning (item ∷ items) = line_from submitter beginning item ++ lines_from submitter beginning items

-- the lines of these items, submitter by submitter from this one on, by how those of each begin
abbrev pub lines_by_source : ℕ → List (List ℕ) → List Item → List ℕ
lines_by_source submitter [] items = []
lines_by_source submitter (beginning ∷ beginnings) items = lines_from submitter beginning items ++ lines_by_source (submitter + 1) beginnings items

-- a subscriber of a run: what it heard, and how its lines begin, for each source
pub record ReporterState : Type 0 where
  pub signals : List Signal
  pub replies : List Reply
  pub beginnings : List (List ℕ)

-- what is kept for the submitters from this one on are the lines of these items
abbrev pub AreLines : ℕ → List SourceLines → List Item → Type 0
AreLines submitter [] items = Unit {0}
AreLines submitter (kept ∷ rest) items = (kept.lines.items ≡ lines_from submitter kept.beginning.items items) × AreLines (submitter + 1) rest items

-- the items that a subscriber was told, if it is there
abbrev pub items_told : Option ReporterState → List Item
items_told None = []
items_told (Some reporter) = items_of reporter.signals

-- the lines of the items that a subscriber was told, if it is there
abbrev pub lines_told : Option ReporterState → List ℕ
lines_told None = []
lines_told (Some reporter) = lines_by_source 0 reporter.beginnings (items_of reporter.signals)

-- what is said of how a subscription ended
abbrev pub end_text : Option How → List ℕ
end_text None = codes "open"
end_text (Some How.Completed) = codes "complete"
end_text (Some How.OutOfMemory) = codes "memory"
end_text (Some (How.Failed code)) = codes "failed " ++ decimal code
end_text (Some (How.Errored _)) = codes "open"
end_text (Some How.Cancelled) = codes "open"

-- the lines of a subscription: what its subscriber was told, source by source, and how it ended after how many items
abbrev pub lane_lines : NamedLane ReporterState → List ℕ
lane_lines left = lines_told left.lane.subscriber
    ++ line_of (left.name ++ codes " " ++ end_text left.lane.ending ++ codes " " ++ decimal (min (length (items_told left.lane.subscriber)) (2 ^ 64 - 1)))

-- the lines of several subscriptions
abbrev pub lines_of_lanes : List (NamedLane ReporterState) → List ℕ
lines_of_lanes [] = []
lines_of_lanes (left ∷ lanes) = lane_lines left ++ lines_of_lanes lanes

-- the failure that a handler has heard of last, if there is a handler and it has heard of one
abbrev pub heard_of : {F : Type 0} → (F → Option (List ℕ × ℕ)) → Option F → Option (List ℕ × ℕ)
heard_of last None = None
heard_of last (Some handler) = last handler

-- the line of the failure that was heard of last, if there is one
abbrev pub handled_line : Option (List ℕ × ℕ) → List ℕ
handled_line None = []
handled_line (Some (name, code)) = line_of (codes "handled " ++ name ++ codes " " ++ decimal code)

-- the line that says whether the publisher was drained
abbrev pub drained_line : Bool → List ℕ
drained_line drained = line_of (codes "drained " ++ decimal (if drained then 1 else 0))

-- whether a subscription was completed
abbrev pub is_completed : Option How → Bool
is_completed None = false
is_completed (Some How.Completed) = true
is_completed (Some How.OutOfMemory) = false
is_completed (Some (How.Failed _)) = false
is_completed (Some (How.Errored _)) = false
is_completed (Some How.Cancelled) = false

-- the report of what a publisher left
abbrev pub report_of : {F : Type 0} → (F → Option (List ℕ × ℕ)) → Outcome ReporterState F → List ℕ
report_of last outcome = lines_of_lanes outcome.lanes.items ++ handled_line (heard_of last outcome.handler) ++ drained_line outcome.drained

-- whether each subscription that is left was completed
abbrev pub all_completed : {F : Type 0} → Outcome ReporterState F → Bool
all_completed outcome = list_all (λ left. is_completed left.lane.ending) outcome.lanes.items
