-- What a publication of texts did, as a caller reads it.
use Rattle.std.proofs.Common.{◌≡◌, ℕ, ◌-◌, ◌≤◌, Some, List, [], ◌∷◌, ◌++◌, length, take, refl, ap, sym, subst, ◌∙◌, arith}
use Rattle.std.specs.Prelude.{min, slice_get}
use Rattle.std.proofs.lemmas.Option.{slice_get_within}
use Rattle.flow_rules.specs.Call.{Call}
use Rattle.flow_rules.specs.Feed.{End}
use Rattle.flow_rules.specs.declared.item.Item.{Item}
use Rattle.flow_rules.specs.declared.item.TheConstants.{MOST_PUBLICATIONS}
use Rattle.publisher_hub.specs.Gathering.{started}
use Rattle.publisher_hub.specs.Hub.{hub_of}
use Rattle.publisher_hub.specs.Lists.{Each, greatest}
use Rattle.publisher_hub.specs.Looking.{rooms}
use Rattle.publisher_hub.specs.Offering.{Counts, backlogs}
use Rattle.publisher_hub.specs.Policy.{LosesNothing}
use Rattle.publisher_hub.specs.Publishing.{PublishesOne}
use Rattle.publisher_hub.specs.Batch.{PublishesBatch, ReachesAllBy, ReachesAllFromTexts, items_from, started_all}
use Rattle.publisher_hub.specs.declared.hub.Hub.{Hub}
use Rattle.publisher_hub.specs.declared.hub.publish.Publication.{Publication}
use Rattle.publisher_hub.specs.declared.policy.Need.{Need}
use Rattle.publisher_hub.specs.declared.policy.Need.TheVariants.{All}
use Rattle.publisher_hub.specs.declared.work.Work.{Work}
use Rattle.publisher_hub.proofs.PartialRounds.Progress.{same_some}
use Rattle.publisher_hub.proofs.Publications.Backlogs.{counts_one}
use Rattle.publisher_hub.proofs.Publications.Backlogs as OneText
use Rattle.publisher_hub.proofs.BatchTexts.AllSubscriptions.{nothing_lost}
use Rattle.publisher_hub.proofs.BatchTexts.Backlogs as Texts
use Rattle.publisher_hub.proofs.BatchTexts.Items.{item_at}
use Rattle.publisher_hub.proofs.BatchTexts.Rooms.{least_bounded}

-- the first of some texts, alone
first_alone : (texts : List (List ℕ)) (many : ℕ) (text : List ℕ) → many ≡ 1 → slice_get texts 0 ≡ Some text → take many texts ≡ text ∷ []
first_alone [] many text one at = cc
first_alone (first ∷ texts) many text one at = ap (λ n. take n (first ∷ texts)) one ∙ ap (λ t. t ∷ []) (same_some at)

module _ {F T : Type 0} (meaning : F → End) (does : F → Call T → F → Type 0) where
  -- what a caller reads of a publication
  pub record Shown (need : Need) (source : ℕ) (texts : List (List ℕ)) (old new : Hub F) (due_old due_new : List (Work T)) (publication : Publication) : Type 0 where
    pub within : publication.many ≤ length texts
    pub reached : ReachesAllFromTexts source (take publication.many texts) (hub_of meaning old) (hub_of meaning new)
    pub waiters : Each LosesNothing (hub_of meaning old).entries (hub_of meaning new).entries
    pub lag : need ≡ All → publication.lag ≡ greatest (backlogs (hub_of meaning new).entries)
    pub due : (works : List (Work T)) × (due_new ≡ due_old ++ works)

  pub one_shown : (need : Need) (source : ℕ) (texts : List (List ℕ)) (old new : Hub F) (due_old due_new : List (Work T)) (publication : Publication)
      → PublishesOne meaning does need source texts old new due_old due_new publication → Shown need source texts old new due_old due_new publication
  one_shown need source texts old new due_old due_new publication one =
      let some = slice_get_within texts 0 one.item.text one.words in
      let many = one.many in
      let items : items_from source one.item.seq old.next (take publication.many texts) ≡ one.item ∷ [] =
      ap (items_from source one.item.seq old.next) (first_alone texts publication.many one.item.text one.many one.words)
      ∙ ap (λ n. item_at source one.item.seq n one.item.text ∷ []) (sym one.reaches.next.serial)
      ∙ ap (λ s. item_at s one.item.seq one.item.serial one.item.text ∷ []) (sym one.from) in
      record {
        within = omega arith;
        reached = (
          one.item.seq,
          (
            subst (λ s. slice_get old.counts.items s ≡ Some one.item.seq) one.from one.reaches.next.seq,
            subst (λ (xs : List Item). ReachesAllBy xs (hub_of meaning old) (hub_of meaning new)) (sym items) (hub_of meaning new, (one.reaches, refl)),
          ),
        );
        waiters = one.waiters;
        lag = λ all. one.greatest_lag ∙ ap greatest (OneText.lags_are_backlogs meaning does one.item one.puts one.middle new.entries.items one.each_put (one.no_drop all));
        due = (started one.puts, one.due);
      }

  pub one_counted : (need : Need) (source : ℕ) (texts : List (List ℕ)) (old new : Hub F) (due_old due_new : List (Work T)) (publication : Publication)
      → PublishesOne meaning does need source texts old new due_old due_new publication
      → Counts source publication.many (hub_of meaning old).progress (hub_of meaning new).progress
  one_counted need source texts old new due_old due_new publication one =
      subst (λ many. Counts source many (hub_of meaning old).progress (hub_of meaning new).progress) (sym one.many)
      (counts_one source one.item (hub_of meaning old) (hub_of meaning new) one.from one.reaches)

  pub batch_shown : (need : Need) (source : ℕ) (texts : List (List ℕ)) (old new : Hub F) (due_old due_new : List (Work T)) (publication : Publication)
      → PublishesBatch meaning does source texts old new due_old due_new publication → Shown need source texts old new due_old due_new publication
  batch_shown need source texts old new due_old due_new publication batch =
      let bounded = least_bounded (min (length texts) (MOST_PUBLICATIONS - old.next)) (rooms old.capacity batch.glances) in
      let many = batch.as_many in
      record {
        within = omega arith;
        reached = (batch.seq, (batch.counted, subst (λ (items : List Item). ReachesAllBy items (hub_of meaning old) (hub_of meaning new)) batch.are batch.reaches));
        waiters = nothing_lost meaning does old.next batch.items batch.glances batch.puts old.entries.items batch.middle new.entries.items batch.looked batch.each_put;
        lag = λ _. batch.greatest_lag ∙ ap greatest (Texts.lags_are_backlogs meaning does old.next batch.items batch.puts batch.middle new.entries.items batch.each_put);
        due = (started_all batch.puts, batch.due);
      }
