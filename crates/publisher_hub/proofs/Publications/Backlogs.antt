-- What a publication leaves that a caller asks for: the longest backlog, and the counts.
use Rattle.std.proofs.Common.{◌≡◌, ℕ, ℤ, Bool, ◌+◌, true, Option, None, Some, List, [], ◌∷◌, if◌then◌else◌, map, ap, sym, subst, ◌∙◌, arith}
use Rattle.std.specs.Prelude.{slice_get, slice_set}
use Rattle.std.proofs.lemmas.List.{length-map}
use Rattle.std.proofs.lemmas.Option.{slice_get_within}
use Rattle.flow_rules.specs.Call.{Call}
use Rattle.flow_rules.specs.Feed.{End, held_count}
use Rattle.flow_rules.specs.declared.feed.put.Put.{Put}
use Rattle.flow_rules.specs.declared.feed.put.Put.TheVariants.{Accepted, Full, Gone}
use Rattle.flow_rules.specs.declared.item.Item.{Item}
use Rattle.publisher_hub.specs.Entry.{EntryState, entry_of}
use Rattle.publisher_hub.specs.Hub.{HubState, Progress, hub_of}
use Rattle.publisher_hub.specs.Lists.{EachBy}
use Rattle.publisher_hub.specs.Gathering.{lag_by, lags, missed, missed_by}
use Rattle.publisher_hub.specs.Offering.{Counts, PutsTo, ReachesAll, ReachesAllFrom, backlog_by, backlogs, held_in, progress_after}
use Rattle.publisher_hub.specs.Publishing.{OffersItem}
use Rattle.publisher_hub.specs.declared.entry.Entry.{Entry}
use Rattle.publisher_hub.specs.declared.hub.Hub.{Hub}
use Rattle.publisher_hub.specs.declared.work.Work.{Work}
use Rattle.publisher_hub.proofs.AnswerLists.Gathering.{gather_same, gathers_nothing}
use Rattle.publisher_hub.proofs.AnswerLists.Places.{there}
use Rattle.publisher_hub.proofs.PartialRounds.Next.{get_before_map}
use Rattle.publisher_hub.proofs.PartialRounds.Progress.{same_some}

-- a retired subscription has no backlog
pub retired_has_none : (k : ℕ) (entry : EntryState) → entry.retired ≡ true → backlog_by k entry ≡ []
retired_has_none k entry retired = ap (λ is. if is then [] else held_in entry.feed) retired

module _ {F T : Type 0} (meaning : F → End) (does : F → Call T → F → Type 0) (x : Item) where
  -- the lag that a put answered is what waits for that subscription then, unless it missed the item
  lag_is_backlog : (k : ℕ) (put : Option (Put T)) (old new : Entry F) → PutsTo meaning does x put old new → missed_by k put ≡ []
      → lag_by k put ≡ backlog_by k (entry_of meaning new)
  lag_is_backlog k None old new stays none =
      sym (retired_has_none k (entry_of meaning new) (ap (λ (entry : Entry F). entry.retired) stays.1 ∙ stays.0))
  lag_is_backlog k (Some (Accepted lag start)) old new offered none =
      let now : backlog_by k (entry_of meaning new) ≡ backlog_by k (entry_of meaning (record old { feed = Some offered.after })) =
      ap (λ (entry : Entry F). backlog_by k (entry_of meaning entry)) offered.now in
      let live : backlog_by k (entry_of meaning (record old { feed = Some offered.after })) ≡ held_count (meaning offered.after) ∷ [] =
      ap (λ is. if is then [] else held_count (meaning offered.after) ∷ []) offered.live in
      ap (λ n. n ∷ []) offered.means.2.lag_after ∙ sym (now ∙ live)
  lag_is_backlog k (Some (Full back)) old new offered none = cc
  lag_is_backlog k (Some (Gone back)) old new offered none =
      sym (retired_has_none k (entry_of meaning new) (ap (λ (entry : Entry F). entry.retired) offered.now))

  -- the lags that the puts of a round answered are the backlogs that it leaves, if no buffer was full
  pub lags_are_backlogs : (puts : List (Option (Put T))) (xs ys : List (Entry F)) → EachBy (PutsTo meaning does x) puts xs ys
      → missed puts ≡ [] → lags puts ≡ backlogs (map (entry_of meaning) ys)
  lags_are_backlogs puts xs ys each none =
      gather_same lag_by backlog_by puts (map (entry_of meaning) ys) 0 (each.answered ∙ sym each.as_long ∙ sym (length-map ys (entry_of meaning))) (λ k put entry said at.
      let raw = get_before_map (entry_of meaning) ys k entry at in
      let old = there xs k (let within = slice_get_within puts k put said in let long = each.answered in omega arith) in
      subst (λ (e : EntryState). lag_by (0 + k) put ≡ backlog_by (0 + k) e) raw.1.1
      (lag_is_backlog (0 + k) put old.0 raw.0 (each.each k put old.0 raw.0 said old.1 raw.1.0) (gathers_nothing missed_by puts 0 k put none said)))

-- an item that reached all was counted, and nothing else of the numbers changed but that of the drops
pub counts_one : (source : ℕ) (x : Item) (old new : HubState) → x.source ≡ source → ReachesAll x old new
    → Counts source 1 old.progress new.progress
counts_one source x old new from reaches =
    let progress_is : new.progress ≡ progress_after x new.progress.dropping old.progress = ap (λ (s : HubState). s.progress) reaches.rest in
    record {
      next = ap (λ (p : Progress). p.next) progress_is;
      counts = λ count at.
          let at_x : slice_get old.progress.counts x.source ≡ Some count =
          subst (λ s. slice_get old.progress.counts s ≡ Some count) (sym from) at in
          let same : x.seq ≡ count = same_some (sym reaches.next.seq ∙ at_x) in
          ap (λ (p : Progress). p.counts) progress_is ∙ ap (λ s. slice_set old.progress.counts s (x.seq + 1)) from
          ∙ ap (λ n. slice_set old.progress.counts source (n + 1)) same;
      capacity = ap (λ (p : Progress). p.capacity) progress_is;
      ending = ap (λ (p : Progress). p.ending) progress_is;
    }

-- what an offer did, as a caller asks for it
pub offer_shows : {F T : Type 0} (meaning : F → End) (does : F → Call T → F → Type 0) {source : ℕ} {text : List ℕ} {declines : Bool} {old new : Hub F} {due_old due_new : List (Work T)} {answer : ℤ}
    → OffersItem meaning does source text declines old new due_old due_new answer
    → ReachesAllFrom source text (hub_of meaning old) (hub_of meaning new) × Counts source 1 (hub_of meaning old).progress (hub_of meaning new).progress
offer_shows meaning does {source} {text} {declines} {old} {new} offers = (
  (offers.item, ((offers.from, offers.words), offers.reaches)),
  counts_one source offers.item (hub_of meaning old) (hub_of meaning new) offers.from offers.reaches,
)
