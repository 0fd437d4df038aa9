-- A sound Hub stays sound if a subscription is asked for its ticket, or its ticket is taken out.
use Rattle.std.proofs.Common.{◌≡◌, ◌||◌, ℕ, ◌≤◌, Bool, true, false, Option, None, Some, is_some, List, map, option_map, length, refl, ap, sym, subst, ◌∙◌, set, arith}
use Rattle.std.specs.Prelude.{if◌then◌else◌, slice_get}
use Rattle.std.specs.Vec.{with_item}
use Rattle.std.proofs.lemmas.List.{map-set}
use Rattle.std.proofs.lemmas.Option.{slice_get_within}
use Rattle.close_count.specs.declared.ticket.Ticket.{Ticket}
use Rattle.flow_rules.specs.Call.{Call}
use Rattle.flow_rules.specs.Feed.{End, Looked, is_gone}
use Rattle.flow_rules.specs.declared.feed.standing.Standing.{Standing}
use Rattle.publisher_hub.specs.Entry.{EntryState, entry_of, until_of}
use Rattle.publisher_hub.specs.Hub.{HubState, Progress, hub_of}
use Rattle.publisher_hub.specs.Sound.{IsCounted, IsEntry, IsSound}
use Rattle.publisher_hub.specs.Tickets.{RetiresIfEnded, RetiresIfEndedAt, HandsOut, without_ticket}
use Rattle.publisher_hub.specs.declared.entry.Entry.{Entry}
use Rattle.publisher_hub.specs.declared.hub.Hub.{Hub}
use Rattle.publisher_hub.proofs.PartialRounds.Next.{get_mapped}
use Rattle.publisher_hub.proofs.PartialRounds.Progress.{same_some}
use Rattle.publisher_hub.proofs.Soundness.Replacing.{Replaces, Succeeds, set_same, sound_replaced, sound_with}

-- an end that took no more items before a look takes none after it
gone_looked : (e f : End) → Looked e f → is_gone e ≡ true → is_gone f ≡ true
gone_looked e f look gone = by e.over f.over refl refl where
  by : (was now : Bool) → e.over ≡ was → f.over ≡ now → is_gone f ≡ true
  by was true a b = rw b refl
  by true false a b = let over = look.over a in let no : false ≡ true = sym b ∙ over in cc
  by false false a b =
      let closed : is_some e.closing ≡ true = sym (ap (λ over. over || is_some e.closing) a) ∙ gone in
      ap (λ over. over || is_some f.closing) b ∙ ap (λ (end : End). is_some end.closing) look.rest ∙ closed

module _ {F T : Type 0} (meaning : F → End) (does : F → Call T → F → Type 0) where
  -- a subscription that was asked for its ticket accepted and dropped the same
  asked_succeeds : (p : Progress) (standing : Standing) (ticket : Option Ticket) (old new : Entry F) → IsEntry p (entry_of meaning old)
      → HandsOut meaning does p.next standing ticket old new
      → Succeeds p (entry_of meaning old) (entry_of meaning new)
  asked_succeeds p standing ticket old new is asked = by standing.ended refl where
    was : option_map meaning old.feed ≡ Some (meaning asked.before)
    was = ap (λ feed. option_map meaning feed) asked.was

    look : Looked (meaning asked.before) (meaning asked.after)
    look = asked.stands.look

    until : (retired : Bool) → old.retired ≡ retired
        → until_of p.next (entry_of meaning (record old { feed = Some asked.after; retired = true; until = if old.retired then old.until else p.next; ticket = None })) ≡ until_of p.next (entry_of meaning old)
    until true live = rw live refl
    until false live = rw live refl

    by : (ended : Bool) → standing.ended ≡ ended → Succeeds p (entry_of meaning old) (entry_of meaning new)
    by true ended = subst (λ (entry : Entry F). Succeeds p (entry_of meaning old) (entry_of meaning entry)) (sym (asked.ended ended)) (record {
      before = meaning asked.before;
      after = meaning asked.after;
      was = was;
      now = refl;
      since = refl;
      dropped = refl;
      until = until old.retired refl;
      gone = λ _. let over : (meaning asked.after).over ≡ true = sym asked.stands.ended
          ∙ ended in ap (λ over. over || is_some (meaning asked.after).closing) over;
      lives = λ lives. cc;
      capacity = ap (λ (end : End). end.capacity) look.rest;
      accepted = ap (λ (end : End). end.accepted) look.rest;
      closing = ap (λ (end : End). end.closing) look.rest;
    })
    by false on = subst (λ (entry : Entry F). Succeeds p (entry_of meaning old) (entry_of meaning entry)) (sym (asked.stays on)) (record {
      before = meaning asked.before;
      after = meaning asked.after;
      was = was;
      now = refl;
      since = refl;
      dropped = refl;
      until = refl;
      gone = λ retired. gone_looked (meaning asked.before) (meaning asked.after) look ((is.counted (meaning asked.before) was).gone retired);
      lives = λ lives. lives;
      capacity = ap (λ (end : End). end.capacity) look.rest;
      accepted = ap (λ (end : End). end.accepted) look.rest;
      closing = ap (λ (end : End). end.closing) look.rest;
    })

  -- the subscription that stands there was asked for its ticket
  pub asks_there : (number : ℕ) (ticket : Option Ticket) (hub : Hub F) (before after : Entry F) (glance : Option Standing)
      → slice_get hub.entries.items number ≡ Some before
      → RetiresIfEnded meaning does hub.next glance ticket before after
      → RetiresIfEndedAt meaning does number ticket hub (record hub { entries = with_item hub.entries number after })
  asks_there number ticket hub before after glance at asked = record {
    rest = refl;
    none = λ none. let no : None ≡ Some before = sym none ∙ at in cc;
    there = λ entry is. (glance, after, (subst (λ (old : Entry F). RetiresIfEnded meaning does hub.next glance ticket old after) (same_some (sym at ∙ is)) asked, refl));
  }

  -- none stands there
  pub asks_nobody : (number : ℕ) (hub : Hub F) → length hub.entries.items ≤ number → RetiresIfEndedAt meaning does number None hub hub
  asks_nobody number hub above = record {
    rest = refl;
    none = λ _. (refl, refl);
    there = λ entry is. let below = slice_get_within hub.entries.items number entry is in absurd (omega arith);
  }

  -- a sound Hub stays sound
  pub sound_asked : (number : ℕ) (ticket : Option Ticket) (old new : Hub F) → IsSound (hub_of meaning old)
      → RetiresIfEndedAt meaning does number ticket old new → IsSound (hub_of meaning new)
  sound_asked number ticket old new sound asks =
      subst (λ (hub : HubState). IsSound hub) (sym asks.rest) (by (slice_get old.entries.items number) refl) where
        with_items : List (Entry F) → HubState
        with_items items = record (hub_of meaning old) { entries = map (entry_of meaning) items }

        asked : (before after : Entry F) (glance : Option Standing) → slice_get old.entries.items number ≡ Some before
            → RetiresIfEnded meaning does old.next glance ticket before after
            → IsSound (with_items (set old.entries.items number after))
        asked before after None at left = subst (λ items. IsSound (with_items items))
            (sym (ap (λ (entry : Entry F). set old.entries.items number entry) left.1.1 ∙ set_same old.entries.items number before at)) sound
        asked before after (Some standing) at hands =
            let there = get_mapped (entry_of meaning) old.entries.items number before at in
            subst (λ entries. IsSound (record (hub_of meaning old) { entries = entries })) (sym (map-set (entry_of meaning) old.entries.items number after))
            (sound_replaced (hub_of meaning old) number (entry_of meaning before) (entry_of meaning after) sound there
            (asked_succeeds (hub_of meaning old).progress standing ticket before after (sound.entries number (entry_of meaning before) there) hands))

        by : (at : Option (Entry F)) → slice_get old.entries.items number ≡ at → IsSound (with_items new.entries.items)
        by None at = subst (λ items. IsSound (with_items items)) (sym (asks.none at).1) sound
        by (Some before) at =
            let there = asks.there before at in
            subst (λ items. IsSound (with_items items)) (sym there.2.1) (asked before there.1 there.0 at there.2.0)

-- a subscription without its ticket is counted as with it
counted_without : (p : Progress) (entry : EntryState) (e : End) → IsCounted p entry e → IsCounted p (record entry { ticket = None }) e
counted_without p entry e is = record {
  capacity = is.capacity;
  ordered = is.ordered;
  items = λ i x at. let item = is.items i x at in record { since = item.since; until = item.until; seq = item.seq; source = item.source };
  count = is.count;
  until = is.until;
  gone = is.gone;
  closed = is.closed;
  closed_as = is.closed_as;
}

replaces_ticketed : (p : Progress) (entry : EntryState) → Replaces p entry (record entry { ticket = None })
replaces_ticketed p entry = record {
  entry = λ is. record { here = is.here; counted = λ e was. counted_without p entry e (is.counted e was); drops = is.drops };
  lives = λ lives. lives;
  had = λ f is. (f, is, refl);
}

-- a sound Hub stays sound if a ticket is taken out
pub sound_unticketed : {F : Type 0} (meaning : F → End) (hub : Hub F) (number : ℕ) (entry : Entry F) → IsSound (hub_of meaning hub)
    → slice_get hub.entries.items number ≡ Some entry
    → IsSound (hub_of meaning (without_ticket hub number (Some entry)))
sound_unticketed meaning hub number entry sound at =
    let stored = entry_of meaning entry in
    subst (λ entries. IsSound (record (hub_of meaning hub) { entries = entries })) (sym (map-set (entry_of meaning) hub.entries.items number (record entry { ticket = None })))
    (sound_with (hub_of meaning hub) number stored (record stored { ticket = None }) sound (get_mapped (entry_of meaning) hub.entries.items number entry at) (replaces_ticketed (hub_of meaning hub).progress stored))

-- if there was no ticket, what is stored stays
pub unticketed_same : {F : Type 0} (meaning : F → End) (hub : Hub F) (number : ℕ) (entry : Entry F)
    → slice_get hub.entries.items number ≡ Some entry → entry.ticket ≡ None
    → hub_of meaning (without_ticket hub number (Some entry)) ≡ hub_of meaning hub
unticketed_same {F} meaning hub number entry at none =
    ap (λ ticket. record (hub_of meaning hub) { entries = map (entry_of meaning) (set hub.entries.items number (record entry { ticket = ticket })) }) (sym none)
    ∙ ap (λ items. record (hub_of meaning hub) { entries = map (entry_of meaning) items }) (set_same hub.entries.items number entry at)
