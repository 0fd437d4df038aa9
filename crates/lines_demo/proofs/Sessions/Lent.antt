-- A session whose publisher lent its end of one subscription, as for what its owner does or for a turn.
use Rattle.std.proofs.Common.{◌≡◌, ℕ, true, Option, None, Some, List, map, set, refl, sym, ap, subst, ◌∙◌}
use Rattle.std.specs.Prelude.{is_some, IsSome, option_map, slice_get}
use Rattle.std.specs.Borrow.{MutBor}
use Rattle.std.specs.Option.{option_and_then, option_copied_mut}
use Rattle.std.proofs.lemmas.List.{map-set}
use Rattle.std.proofs.lemmas.Option.{slice_get-map}
use Rattle.feed_core.specs.Feed.{end_of}
use Rattle.publisher_hub.specs.Hub.{hub_of}
use Rattle.publisher_hub.specs.Sound.{IsSound}
use Rattle.publisher_hub.specs.Lending.{MayBecome, feed_at, with_feed}
use Rattle.publisher_hub.specs.declared.entry.Entry.{Entry}
use Rattle.publisher_hub.specs.declared.hub.Hub.{Hub}
use Rattle.publisher_hub.proofs.Soundness.Lending.{sound_with_feed}
use Rattle.lines_demo.specs.Prelude.{DeskState}
use Rattle.lines_demo.specs.Script.Session.{IsScriptEntry, IsScriptHub, state_of, subscription_of}
use Rattle.lines_demo.specs.Script.State.{SubscriptionState}
use Rattle.lines_demo.proofs.Sessions.Duplicates.{set_entries}
use Rattle.lines_demo.proofs.HubCalls.Looks.{same_desk, seen_with, with_desk}
use Rattle.lines_demo.specs.declared.script.session.beginning.Beginning.{Beginning}

-- the publisher after its end of this number was left as this
abbrev pub lent : Hub DeskState → ℕ → DeskState → Hub DeskState
lent hub number after = with_feed hub number (slice_get hub.entries.items number) after

-- the subscription whose end is lent, as a script sees it
pub record IsLent (hub : Hub DeskState) (number : ℕ) (before : DeskState) : Type 0 where
  pub entry : Entry DeskState
  pub stands : slice_get hub.entries.items number ≡ Some entry
  pub there : entry.feed ≡ Some before

-- an end that is lent is that of a subscription
pub lent_of : (hub : Hub DeskState) (number : ℕ) (before : DeskState) → feed_at hub number ≡ Some before → IsLent hub number before
lent_of hub number before at = by (slice_get hub.entries.items number) refl at where
  by : (found : Option (Entry DeskState)) → slice_get hub.entries.items number ≡ found
      → option_and_then (λ (entry : Entry DeskState). entry.feed) found ≡ Some before → IsLent hub number before
  by None is feed = cc
  by (Some entry) is feed = record { entry = entry; stands = is; there = feed }

-- each subscription of a script has its end
pub end_there : (hub : Hub DeskState) (number : ℕ) (s : SubscriptionState) → IsScriptHub hub
    → slice_get (map subscription_of hub.entries.items) number ≡ Some s → (desk : DeskState) × (feed_at hub number ≡ Some desk)
end_there hub number s is stands = by (slice_get hub.entries.items number) refl (sym (slice_get-map subscription_of hub.entries.items number) ∙ stands) where
  by : (found : Option (Entry DeskState)) → slice_get hub.entries.items number ≡ found → option_map subscription_of found ≡ Some s
      → (desk : DeskState) × (feed_at hub number ≡ Some desk)
  by None e at = cc
  by (Some entry) e at =
      let own = is.entries number entry e in
      (own.desk, ap (option_and_then (λ (it : Entry DeskState). it.feed)) e ∙ own.there)

-- what was lent is there if its end is
pub lends_some : {D : Type 0} (r : Option (MutBor D)) (desk : D) → option_copied_mut r ≡ Some desk → IsSome r
lends_some None desk is = cc
lends_some (Some r) desk is = refl

module _ (hub : Hub DeskState) (number : ℕ) (before after : DeskState) (at : feed_at hub number ≡ Some before) where
  pub lent_one : IsLent hub number before
  lent_one = lent_of hub number before at

  lent_is : lent hub number after ≡ with_feed hub number (Some lent_one.entry) after
  lent_is = ap (λ found. with_feed hub number found after) lent_one.stands

  -- what a script sees of it
  pub lent_stands : slice_get (map subscription_of hub.entries.items) number ≡ Some (with_desk lent_one.entry before)
  lent_stands = slice_get-map subscription_of hub.entries.items number ∙ ap (option_map subscription_of) lent_one.stands ∙ ap Some (seen_with lent_one.entry before lent_one.there)

  -- where a script stands then
  pub lent_state : (stock : ℕ) (woken : List ℕ) (beginning : Beginning)
      → state_of (lent hub number after) stock woken beginning
      ≡ record (state_of hub stock woken beginning) { subscriptions = set (map subscription_of hub.entries.items) number (with_desk lent_one.entry after) }
  lent_state stock woken beginning =
      ap (λ h. state_of h stock woken beginning) lent_is
      ∙ ap (λ subscriptions. record (state_of hub stock woken beginning) { subscriptions = subscriptions }) (map-set subscription_of hub.entries.items number (record lent_one.entry { feed = Some after }))

  -- a script's publisher is one still
  pub lent_publisher : IsScriptHub hub → MayBecome (end_of before) (end_of after) → after.is_steady ≡ before.is_steady
      → IsScriptHub (lent hub number after)
  lent_publisher is becomes steady =
      let sound = sound_with_feed end_of hub number before after is.sound at becomes in
      subst IsScriptHub (sym lent_is) (record {
        sound = subst (λ h. IsSound (hub_of end_of h)) lent_is sound;
        sized = is.sized;
        entries = set_entries hub.entries.items number lent_one.entry (record lent_one.entry { feed = Some after }) is.entries lent_one.stands mended;
        numbered = is.numbered;
      }) where
        own : IsScriptEntry lent_one.entry
        own = is.entries number lent_one.entry lent_one.stands

        same : own.desk ≡ before
        same = same_desk lent_one.entry before own lent_one.there

        mended : IsScriptEntry (record lent_one.entry { feed = Some after })
        mended = record {
          desk = after;
          there = refl;
          steady = steady ∙ ap (λ (d : DeskState). d.is_steady) (sym same) ∙ own.steady;
          ended = λ retired. becomes.over (ap (λ (d : DeskState). is_some d.lane.how) (sym same) ∙ own.ended retired);
        }

-- the subscriber of an end that is there is steady
pub steady_there : (hub : Hub DeskState) (number : ℕ) (desk : DeskState) → IsScriptHub hub → feed_at hub number ≡ Some desk
    → desk.is_steady ≡ true
steady_there hub number desk is at =
    let one = lent_one hub number desk desk at in
    let own = is.entries number one.entry one.stands in
    ap (λ (d : DeskState). d.is_steady) (sym (same_desk one.entry desk own one.there)) ∙ own.steady
