-- The producer's end of one subscription of a Hub.
use Rattle.std.proofs.Common.{◌≡◌, ◌||◌, ℕ, ◌<◌, Bool, true, false, Option, None, Some, is_some, length, option_map, refl, ap, sym, subst, ◌∙◌, slice_index_or}
use Rattle.std.specs.Prelude.{IsSome, slice_get}
use Rattle.std.specs.Option.{option_and_then}
use Rattle.std.proofs.lemmas.List.{map-set}
use Rattle.std.proofs.lemmas.Option.{slice_get-get_or, slice_get_within}
use Rattle.flow_rules.specs.Feed.{End, is_gone}
use Rattle.publisher_hub.specs.Entry.{EntryState, entry_of}
use Rattle.publisher_hub.specs.Hub.{HubState, hub_of}
use Rattle.publisher_hub.specs.Lending.{MayBecome, feed_at, with_end, with_feed}
use Rattle.publisher_hub.specs.Sound.{IsSound}
use Rattle.publisher_hub.specs.declared.entry.Entry.{Entry}
use Rattle.publisher_hub.specs.declared.hub.Hub.{Hub}
use Rattle.publisher_hub.proofs.PartialRounds.Next.{get_mapped}
use Rattle.publisher_hub.proofs.Soundness.Replacing.{sound_replaced}

-- if an end is there, the number is that of a subscription
pub feed_within : {F : Type 0} (hub : Hub F) (number : ℕ) → IsSome (feed_at hub number) → number < length hub.entries.items
feed_within {F} hub number some = by (slice_get hub.entries.items number) refl some where
  by : (at : Option (Entry F)) → slice_get hub.entries.items number ≡ at → IsSome (option_and_then (λ (entry : Entry F). entry.feed) at)
      → number < length hub.entries.items
  by None is some = cc
  by (Some entry) is some = slice_get_within hub.entries.items number entry is

-- the subscription that stands there
pub entry_there : {F : Type 0} (hub : Hub F) (number : ℕ) (entry : Entry F) → IsSome (feed_at hub number)
    → entry ≡ slice_index_or hub.entries.items number entry → slice_get hub.entries.items number ≡ Some entry
entry_there hub number entry some is = slice_get-get_or hub.entries.items number entry (feed_within hub number some) ∙ ap Some (sym is)

-- an end that takes no more items still takes none, whatever it becomes
pub still_gone : (e f : End) → MayBecome e f → is_gone e ≡ true → is_gone f ≡ true
still_gone e f becomes gone = by e.over f.over refl refl where
  by : (was now : Bool) → e.over ≡ was → f.over ≡ now → is_gone f ≡ true
  by was true a b = rw b refl
  by true false a b = let over = becomes.over a in let no : false ≡ true = sym b ∙ over in cc
  by false false a b =
      let closed : is_some e.closing ≡ true = sym (ap (λ over. over || is_some e.closing) a) ∙ gone in
      ap (λ over. over || is_some f.closing) b ∙ ap is_some becomes.closing ∙ closed

-- a sound Hub whose producer's end was lent is sound
pub sound_lent : (hub : HubState) (number : ℕ) (entry : EntryState) (before after : End) → IsSound hub
    → slice_get hub.entries number ≡ Some entry → entry.feed ≡ Some before
    → MayBecome before after → IsSound (with_end hub number entry after)
sound_lent hub number entry before after sound stands was becomes = sound_replaced hub number entry (record entry { feed = Some after }) sound stands (record {
  before = before;
  after = after;
  was = was;
  now = refl;
  since = refl;
  dropped = refl;
  until = refl;
  gone = λ retired. still_gone before after becomes (((sound.entries number entry stands).counted before was).gone retired);
  lives = λ lives. lives;
  capacity = becomes.capacity;
  accepted = becomes.accepted;
  closing = becomes.closing;
})

-- what a Hub stores whose producer's end was lent
hub_with_feed : {F : Type 0} (meaning : F → End) (hub : Hub F) (number : ℕ) (entry : Entry F) (feed : F)
    → hub_of meaning (with_feed hub number (Some entry) feed) ≡ with_end (hub_of meaning hub) number (entry_of meaning entry) (meaning feed)
hub_with_feed meaning hub number entry feed =
    ap (λ entries. record (hub_of meaning hub) { entries = entries }) (map-set (entry_of meaning) hub.entries.items number (record entry { feed = Some feed }))

-- hence it is sound as it was
pub sound_with_feed : {F : Type 0} (meaning : F → End) (hub : Hub F) (number : ℕ) (before after : F) → IsSound (hub_of meaning hub)
    → feed_at hub number ≡ Some before
    → MayBecome (meaning before) (meaning after)
    → IsSound (hub_of meaning (with_feed hub number (slice_get hub.entries.items number) after))
sound_with_feed {F} meaning hub number before after sound at becomes = by (slice_get hub.entries.items number) refl at where
  by : (stands : Option (Entry F)) → slice_get hub.entries.items number ≡ stands
      → option_and_then (λ (entry : Entry F). entry.feed) stands ≡ Some before
      → IsSound (hub_of meaning (with_feed hub number stands after))
  by None is was = sound
  by (Some entry) is was = subst (λ (state : HubState). IsSound state) (sym (hub_with_feed meaning hub number entry after))
      (sound_lent (hub_of meaning hub) number (entry_of meaning entry) (meaning before) (meaning after) sound (get_mapped (entry_of meaning) hub.entries.items number entry is)
      (ap (λ feed. option_map meaning feed) was) becomes)
