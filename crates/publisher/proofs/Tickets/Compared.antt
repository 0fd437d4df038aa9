-- What is left of the last ticket, compared with the tickets of all subscriptions.
use Rattle.std.proofs.Common.{◌≡◌, ◌⊎◌, inl, inr, ℕ, ◌+◌, ◌<◌, Option, None, Some, refl, sym, ap, subst, ◌∙◌}
use Rattle.std.specs.Prelude.{IsSome, slice_get}
use Rattle.std.specs.Option.{option_and_then}
use Rattle.close_count.specs.Ticket.{count_of_ticket}
use Rattle.close_count.specs.declared.spent.Spent.{Spent}
use Rattle.feed_cell.specs.Parties.{ProducerState}
use Rattle.publisher_hub.specs.Entry.{EntryState, entry_of}
use Rattle.publisher_hub.specs.Hub.{HubState, hub_of}
use Rattle.publisher_hub.specs.Tickets.{ticket_at}
use Rattle.publisher_hub.specs.declared.entry.Entry.{Entry}
use Rattle.publisher_hub.specs.declared.hub.Hub.{Hub}
use Rattle.publisher_hub.proofs.PartialRounds.Next.{get_mapped}
use Rattle.publisher_hub.proofs.PartialRounds.Progress.{below_or_last}
use Rattle.publisher.specs.Tickets.{AreOfOneCountOf, AreSpent, IsBeside}
use Rattle.publisher.specs.State.{producer_end}

-- how far the comparing has come: nothing changed, and none so far has a ticket if the last one was spent
pub record AreCompared (old new : Hub ProducerState) (was last : Option Spent) (most : ℕ) : Type 0 where
  pub hub : hub_of producer_end new ≡ hub_of producer_end old
  pub last_is : last ≡ was
  pub none : IsSome was → AreSpent most (hub_of producer_end new)

-- a ticket of a subscription is one of the count of the last
pub is_beside : (old new : Hub ProducerState) (was last : Option Spent) (number : ℕ)
    → hub_of producer_end new ≡ hub_of producer_end old → last ≡ was → AreOfOneCountOf (hub_of producer_end old) was
    → IsBeside last (ticket_at new number)
is_beside old new was last number same last_is are spent ticket is there =
    let left = are.1.1.last_is spent (sym last_is ∙ is) in
    (left.0 ∙ sym (by (slice_get new.entries.items number) refl there), left.1) where
      by : (at : Option (Entry ProducerState)) → slice_get new.entries.items number ≡ at
          → option_and_then (λ (entry : Entry ProducerState). entry.ticket) at ≡ Some ticket → count_of_ticket ticket ≡ are.1.0
      by None at has = cc
      by (Some entry) at has =
          (are.1.1.entries number (entry_of producer_end entry)
          (sym (ap (λ (h : HubState). slice_get h.entries number) same)
          ∙ get_mapped (entry_of producer_end) new.entries.items number entry at)).of_count ticket has

-- one more was compared
pub one_compared : (old now new : Hub ProducerState) (was last after : Option Spent) (most : ℕ)
    → AreCompared old now was last most → hub_of producer_end new ≡ hub_of producer_end now → after ≡ last
    → (IsSome last → (entry : EntryState) → slice_get (hub_of producer_end now).entries most ≡ Some entry
    → entry.ticket ≡ None) → AreCompared old new was after (most + 1)
one_compared old now new was last after most are same kept none = record {
  hub = same ∙ are.hub;
  last_is = kept ∙ are.last_is;
  none = λ some k entry below at. by some k entry (sym (ap (λ (h : HubState). slice_get h.entries k) same) ∙ at)
      (below_or_last k most below);
} where
  by : IsSome was → (k : ℕ) (entry : EntryState) → slice_get (hub_of producer_end now).entries k ≡ Some entry
      → (k < most) ⊎ (k ≡ most) → entry.ticket ≡ None
  by some k entry at (inl less) = are.none some k entry less at
  by some k entry at (inr same) = none (subst IsSome (sym are.last_is) some) entry
      (subst (λ n. slice_get (hub_of producer_end now).entries n ≡ Some entry) same at)
