-- A sound Hub stays sound if the producer's end of a subscription that has ended is taken out.
use Rattle.std.proofs.Common.{◌≡◌, ℕ, Option, None, Some, map, refl, sym, subst, ◌∙◌, set}
use Rattle.std.specs.Prelude.{slice_get}
use Rattle.std.specs.Vec.{with_item}
use Rattle.std.proofs.lemmas.List.{map-set}
use Rattle.close_count.specs.declared.ticket.Ticket.{Ticket}
use Rattle.flow_rules.specs.Call.{Call}
use Rattle.flow_rules.specs.Feed.{End}
use Rattle.flow_rules.specs.declared.feed.standing.Standing.{Standing}
use Rattle.publisher_hub.specs.Adding.{live_of}
use Rattle.publisher_hub.specs.Entry.{entry_of}
use Rattle.publisher_hub.specs.Hub.{hub_of}
use Rattle.publisher_hub.specs.Reclaiming.{TakesEnded, TakesEndedAt}
use Rattle.publisher_hub.specs.Sound.{IsSound}
use Rattle.publisher_hub.specs.Taking.{entry_without_feed}
use Rattle.publisher_hub.specs.Tickets.{RetiresIfEnded}
use Rattle.publisher_hub.specs.declared.entry.Entry.{Entry}
use Rattle.publisher_hub.specs.declared.hub.Hub.{Hub}
use Rattle.publisher_hub.proofs.PartialRounds.Next.{get_mapped}
use Rattle.publisher_hub.proofs.PartialRounds.Progress.{same_some}
use Rattle.publisher_hub.proofs.Soundness.Replacing.{replaces_taken, sound_with}
use Rattle.publisher_hub.proofs.Soundness.Tickets.{sound_asked}

module _ {F T : Type 0} (meaning : F → End) (does : F → Call T → F → Type 0) where
  -- the subscription that stands there lost its end, and the numbers of the retired ones were left out
  pub ended_there : (number : ℕ) (taken : F × Option Ticket) (hub new : Hub F) (before after : Entry F) (glance : Option Standing)
      → slice_get hub.entries.items number ≡ Some before
      → TakesEnded meaning does hub.next glance (Some taken) before after
      → new.live.items ≡ live_of (map (entry_of meaning) (with_item hub.entries number after).items) hub.live.items
      → new ≡ record hub { entries = with_item hub.entries number after; live = new.live }
      → TakesEndedAt meaning does number (Some taken) hub new
  ended_there number taken hub new before after glance at takes left is = subst (λ (other : Hub F). TakesEndedAt meaning does number (Some taken) hub other) (sym is) (record {
    rest = refl;
    live = left;
    none = λ none. let no : None ≡ Some before = sym none ∙ at in cc;
    there = λ entry on. (glance, after, (subst (λ (old : Entry F). TakesEnded meaning does hub.next glance (Some taken) old after) (same_some (sym at ∙ on)) takes, refl));
  })

  -- a subscription that goes on was looked at as if it were asked for its ticket
  asks_of : (next : ℕ) (glance : Option Standing) (before after : Entry F) → TakesEnded meaning does next glance None before after
      → RetiresIfEnded meaning does next glance None before after
  asks_of next None before after left = (left.0, (refl, left.1))
  asks_of next (Some standing) before after on = record {
    before = on.before;
    after = on.after;
    was = on.was;
    stands = on.stands;
    spent = λ ended. let goes_on = on.goes_on in cc;
    ended = λ ended. let goes_on = on.goes_on in cc;
    kept = λ _. refl;
    stays = λ _. on.now;
  }

  -- a sound Hub stays sound if a subscription was looked at, or lost its end
  pub sound_ended : (number : ℕ) (taken : Option (F × Option Ticket)) (hub : Hub F) (before after : Entry F) (glance : Option Standing)
      → IsSound (hub_of meaning hub) → slice_get hub.entries.items number ≡ Some before
      → TakesEnded meaning does hub.next glance taken before after
      → IsSound (hub_of meaning (record hub { entries = with_item hub.entries number after }))
  sound_ended number None hub before after glance sound at takes = sound_asked meaning does number None hub (record hub { entries = with_item hub.entries number after }) sound (record {
    rest = refl;
    none = λ none. let no : None ≡ Some before = sym none ∙ at in cc;
    there = λ entry is. (glance, after, (subst (λ (old : Entry F). RetiresIfEnded meaning does hub.next glance None old after) (same_some (sym at ∙ is)) (asks_of hub.next glance before after takes), refl));
  })
  sound_ended number (Some (feed, ticket)) hub before after None sound at both = elim both [ ]
  sound_ended number (Some (feed, ticket)) hub before after (Some standing) sound at both =
      let there = get_mapped (entry_of meaning) hub.entries.items number before at in
      let now = entry_of meaning (entry_without_feed hub.next before) in
      subst (λ (entry : Entry F). IsSound (record (hub_of meaning hub) { entries = map (entry_of meaning) (set hub.entries.items number entry) })) (sym both.now)
      (subst (λ entries. IsSound (record (hub_of meaning hub) { entries = entries })) (sym (map-set (entry_of meaning) hub.entries.items number (entry_without_feed hub.next before)))
      (sound_with (hub_of meaning hub) number (entry_of meaning before) now sound there (replaces_taken (hub_of meaning hub).progress (entry_of meaning before) now refl refl refl)))
