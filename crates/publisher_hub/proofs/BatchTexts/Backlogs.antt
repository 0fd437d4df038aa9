-- The longest backlog after a publication of a batch of texts.
use Rattle.std.proofs.Common.{◌≡◌, ℕ, ◌+◌, Option, None, Some, List, [], ◌∷◌, if◌then◌else◌, map, ap, sym, subst, ◌∙◌, arith}
use Rattle.std.proofs.lemmas.List.{length-map}
use Rattle.std.proofs.lemmas.Option.{slice_get_within}
use Rattle.flow_rules.specs.Call.{Call}
use Rattle.flow_rules.specs.Feed.{End, held_count}
use Rattle.flow_rules.specs.declared.feed.put_all.PutAll.{PutAll}
use Rattle.flow_rules.specs.declared.feed.put_all.PutAll.TheVariants.{Accepted, Gone}
use Rattle.flow_rules.specs.declared.item.Item.{Item}
use Rattle.publisher_hub.specs.Entry.{EntryState, entry_of}
use Rattle.publisher_hub.specs.Lists.{EachBy}
use Rattle.publisher_hub.specs.Offering.{backlog_by, backlogs}
use Rattle.publisher_hub.specs.Batch.{PutsBatchTo, lag_all_by, lags_all}
use Rattle.publisher_hub.specs.declared.entry.Entry.{Entry}
use Rattle.publisher_hub.proofs.AnswerLists.Gathering.{gather_same}
use Rattle.publisher_hub.proofs.AnswerLists.Places.{there}
use Rattle.publisher_hub.proofs.PartialRounds.Next.{get_before_map}
use Rattle.publisher_hub.proofs.Publications.Backlogs.{retired_has_none}

module _ {F T : Type 0} (meaning : F → End) (does : F → Call T → F → Type 0) (next : ℕ) (items : List Item) where
  -- the lag that a put of a batch of items answered is what waits for that subscription then
  lag_is_backlog : (k : ℕ) (put : Option (PutAll T)) (old new : Entry F) → PutsBatchTo meaning does next items put old new
      → lag_all_by k put ≡ backlog_by k (entry_of meaning new)
  lag_is_backlog k None old new stays =
      sym (retired_has_none k (entry_of meaning new) (ap (λ (entry : Entry F). entry.retired) stays.1 ∙ stays.0))
  lag_is_backlog k (Some (Accepted lag start)) old new offered =
      let now : backlog_by k (entry_of meaning new) ≡ backlog_by k (entry_of meaning (record old { feed = Some offered.after })) =
      ap (λ (entry : Entry F). backlog_by k (entry_of meaning entry)) offered.now in
      let live : backlog_by k (entry_of meaning (record old { feed = Some offered.after })) ≡ held_count (meaning offered.after) ∷ [] =
      ap (λ is. if is then [] else held_count (meaning offered.after) ∷ []) offered.live in
      ap (λ n. n ∷ []) offered.means.2.lag_after ∙ sym (now ∙ live)
  lag_is_backlog k (Some (Gone back)) old new offered =
      sym (retired_has_none k (entry_of meaning new) (ap (λ (entry : Entry F). entry.retired) offered.now))

  -- the lags that the puts of a round answered are the backlogs that it leaves
  pub lags_are_backlogs : (puts : List (Option (PutAll T))) (xs ys : List (Entry F)) → EachBy (PutsBatchTo meaning does next items) puts xs ys
      → lags_all puts ≡ backlogs (map (entry_of meaning) ys)
  lags_are_backlogs puts xs ys each =
      gather_same lag_all_by backlog_by puts (map (entry_of meaning) ys) 0 (each.answered ∙ sym each.as_long ∙ sym (length-map ys (entry_of meaning))) (λ k put entry said at.
      let raw = get_before_map (entry_of meaning) ys k entry at in
      let old = there xs k (let within = slice_get_within puts k put said in let long = each.answered in omega arith) in
      subst (λ (e : EntryState). lag_all_by (0 + k) put ≡ backlog_by (0 + k) e) raw.1.1
      (lag_is_backlog (0 + k) put old.0 raw.0 (each.each k put old.0 raw.0 said old.1 raw.1.0)))
