-- A subscribing that is refused takes no name.
use Rattle.std.proofs.Common.{◌≡◌, ◌⊎◌, inl, inr, ℕ, false, Some, List, map, sym, ap, subst, ◌∙◌}
use Rattle.std.specs.Prelude.{slice_get, slice_set}
use Rattle.std.proofs.lemmas.List.{map-set}
use Rattle.feed_cell.specs.Offering.{DoesCall}
use Rattle.feed_cell.specs.Parties.{ProducerState, TaskState}
use Rattle.flow_rules.specs.declared.refusal.Refusal.{Refusal}
use Rattle.publisher_hub.specs.Entry.{EntryState, entry_of}
use Rattle.publisher_hub.specs.Hub.{hub_of}
use Rattle.publisher_hub.specs.Lists.{Each}
use Rattle.publisher_hub.specs.Looking.{IsKept}
use Rattle.publisher_hub.specs.Names.{IsSubscribed}
use Rattle.publisher_hub.specs.Subscribing.{IsPrepared, Refuses, DoublesAt, WasDoubled}
use Rattle.publisher_hub.specs.declared.hub.Hub.{Hub}
use Rattle.publisher_hub.specs.declared.work.Work.{Work}
use Rattle.publisher_hub.proofs.AnswerLists.Places.{stood_at}
use Rattle.publisher_hub.proofs.PartialRounds.Next.{get_mapped}
use Rattle.publisher_hub.proofs.Soundness.Replacing.{set_or_stood}
use Rattle.publisher_hub.proofs.Soundness.Doubling.{was_doubled}
use Rattle.publisher.specs.State.{producer_end}
use Rattle.publisher.specs.Subscribing.{AddsNone, TakesNoName}
use Rattle.publisher.proofs.SoundStates.KeptStates.{IsLookedThrough, looked_through, stays_refused, stays_seen}

-- a subscription keeps its name, and one that was retired doesn't live again
record KeepsName (old new : EntryState) : Type 0 where
  pub name : new.name ≡ old.name
  pub live : new.retired ≡ false → old.retired ≡ false

looked_name : (next : ℕ) (old new : EntryState) → IsKept next old new → KeepsName old new
looked_name next old new (inl stays) = record {
  name = ap (λ (e : EntryState). e.name) stays.same;
  live = λ live. ap (λ (e : EntryState). e.retired) (sym stays.same) ∙ live;
}
looked_name next old new (inr (inl stays)) = record { name = ap (λ (e : EntryState). e.name) stays.now; live = λ _. stays.live }
looked_name next old new (inr (inr retired)) = record { name = ap (λ (e : EntryState). e.name) retired.now; live = λ _. retired.live }

pub looks_take_none : (next : ℕ) (xs ys : List EntryState) → Each (IsKept next) xs ys → TakesNoName xs ys
looks_take_none next xs ys kept name is =
    let stood = stood_at (IsKept next) xs ys is.number is.entry kept is.stands in
    let keeps = looked_name next stood.entry is.entry stood.became in
    record { number = is.number; entry = stood.entry; stands = stood.at; live = keeps.live is.live; named = sym keeps.name ∙ is.named }

-- one of them was told of a second subscribing
told_takes_none : (xs : List EntryState) (number : ℕ) (old new : EntryState) → slice_get xs number ≡ Some old
    → WasDoubled old new → TakesNoName xs (slice_set xs number new)
told_takes_none xs number old new stood told name is = by (set_or_stood xs number new is.number is.entry is.stands) where
  by : ((number ≡ is.number) × (new ≡ is.entry)) ⊎ (slice_get xs is.number ≡ Some is.entry) → IsSubscribed name xs
  by (inl now) = record {
    number = number;
    entry = old;
    stands = stood;
    live = told.live;
    named = sym (ap (λ (e : EntryState). e.name) told.now) ∙ ap (λ (e : EntryState). e.name) now.1 ∙ is.named;
  }
  by (inr before) = record { number = is.number; entry = is.entry; stands = before; live = is.live; named = is.named }

tell_takes_none : (due_before due_after : List (Work TaskState)) (number : ℕ) (old new : Hub ProducerState)
    → DoublesAt producer_end DoesCall number due_before due_after old new
    → TakesNoName (hub_of producer_end old).entries (hub_of producer_end new).entries
tell_takes_none due_before due_after number old new tells = subst (λ entries. TakesNoName (hub_of producer_end old).entries entries)
    (sym (ap (map (entry_of producer_end)) tells.entries ∙ map-set (entry_of producer_end) old.entries.items number tells.after))
    (told_takes_none (hub_of producer_end old).entries number (entry_of producer_end tells.before)
    (entry_of producer_end tells.after) (get_mapped (entry_of producer_end) old.entries.items number tells.before tells.there)
    (was_doubled producer_end DoesCall tells.start tells.before tells.after tells.doubled))

module _ (name : List ℕ) (most : ℕ) (due_before due_after : List (Work TaskState)) (old new : Hub ProducerState) where
  looked_through_takes_none : IsLookedThrough name most due_before due_after old new
      → TakesNoName (hub_of producer_end old).entries (hub_of producer_end new).entries
  looked_through_takes_none (inl told) other is =
      let middle = told.0 in
      let seen = told.1.0 in
      let tells = told.1.1 in
      looks_take_none old.next (hub_of producer_end old).entries (hub_of producer_end middle).entries seen.kept other
      (tell_takes_none due_before due_after tells.number middle new tells.doubles other is)
  looked_through_takes_none (inr (inl seen)) other is =
      looks_take_none old.next (hub_of producer_end old).entries (hub_of producer_end new).entries seen.kept other is
  looked_through_takes_none (inr (inr seen)) other is =
      looks_take_none old.next (hub_of producer_end old).entries (hub_of producer_end new).entries seen.kept other is

  -- a refused subscribing adds none
  pub refused_adds_none : (refusal : Refusal)
      → Refuses producer_end DoesCall name most refusal due_before due_after old new
      → AddsNone (hub_of producer_end old) (hub_of producer_end new)
  refused_adds_none refusal refuses = let stays = stays_refused name most due_before due_after old new refusal refuses in record {
    as_many = stays.keep.as_long;
    names = looked_through_takes_none (looked_through name most due_before due_after old new refusal refuses);
    progress = stays.progress;
    sources = stays.sources;
  }

-- nor do looks alone
pub seen_adds_none : (old new : Hub ProducerState) → IsPrepared producer_end DoesCall old new
    → AddsNone (hub_of producer_end old) (hub_of producer_end new)
seen_adds_none old new seen = let stays = stays_seen (hub_of producer_end old) (hub_of producer_end new) seen.rest seen.kept in record {
  as_many = stays.keep.as_long;
  names = looks_take_none old.next (hub_of producer_end old).entries (hub_of producer_end new).entries seen.kept;
  progress = stays.progress;
  sources = stays.sources;
}

-- a ticket that was made, or refused, changes none of that
pub ticket_adds_none : (old middle new : Hub ProducerState) → new ≡ record middle { opening = new.opening }
    → AddsNone (hub_of producer_end old) (hub_of producer_end middle) → AddsNone (hub_of producer_end old) (hub_of producer_end new)
ticket_adds_none old middle new rest adds =
    subst (λ (h : Hub ProducerState). AddsNone (hub_of producer_end old) (hub_of producer_end h)) (sym rest)
    (record { as_many = adds.as_many; names = adds.names; progress = adds.progress; sources = adds.sources })
