-- What was published, text by text: what each submitter sent of it, and what subscriptions accepted of it.
use Rattle.std.specs.Prelude.{◌≡◌, ℕ, ◌<◌, Some, List, length, map, slice_get}
use Rattle.flow_rules.specs.declared.item.Item.{Item}
use Rattle.history.specs.History.{entry, texts_of}
use Rattle.history.specs.declared.rule.Entry.{Entry}
use Rattle.publisher_hub.specs.Hub.{HubState}
use Rattle.publisher_hub.specs.Sound.{IsAccepted}
use Rattle.publisher.specs.Handles.{SubmitterState}

-- these texts as publications of one source
abbrev pub pages_of : ℕ → List (List ℕ) → List Entry
pages_of source texts = map (entry source) texts

-- the item is the publication that stands at its serial number: of that source, with that text
abbrev pub StandsIn : List Entry → Item → Type 0
StandsIn log x = slice_get log x.serial ≡ Some (entry x.source x.text)

-- a history of a Hub's publications: all that a subscription accepted is one of them
pub record IsLogged (hub : HubState) (log : List Entry) (made : ℕ) : Type 0 where
  pub long : length log ≡ hub.progress.next
  pub made_are : made ≡ hub.sources
  pub content : (x : Item) → IsAccepted hub.entries x → StandsIn log x

-- what a submitter sent are the texts of its source among these publications, in their order
pub record IsWholeIn (log : List Entry) (submitter : SubmitterState) : Type 0 where
  pub texts : submitter.sent ≡ texts_of submitter.source log
  pub many : length submitter.sent ≡ submitter.published

-- the same of each of these, of which no two are one source
pub record AreSentIn (log : List Entry) (submitters : List SubmitterState) : Type 0 where
  pub each : (i : ℕ) (s : SubmitterState) → slice_get submitters i ≡ Some s → IsWholeIn log s
  pub apart : (i j : ℕ) (s other : SubmitterState) → slice_get submitters i ≡ Some s
      → slice_get submitters j ≡ Some other → i < j → s.source ≡ other.source → ⊥

-- this many publications were made, among which is what these submitters sent
pub record ArePublished (submitters : List SubmitterState) (published : ℕ) : Type 0 where
  pub log : List Entry
  pub long : length log ≡ published
  pub sent : AreSentIn log submitters
