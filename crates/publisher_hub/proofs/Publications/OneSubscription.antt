-- What a publication does to one subscription: it is looked at, and then offered the item.
use Rattle.std.proofs.Common.{◌≡◌, ◌||◌, ℕ, ◌+◌, ◌-◌, ◌<◌, Bool, true, false, Option, None, Some, option_map, Result, Ok, Err, IsOk, is_some, refl, ap, sym, subst, ◌∙◌, inl, inr, arith}
use Rattle.flow_rules.specs.Call.{Call}
use Rattle.flow_rules.specs.Feed.{End, Looked, LookedIfOpen, MayStart, Puts, held_count, is_gone}
use Rattle.flow_rules.specs.declared.feed.put.Put.{Put}
use Rattle.flow_rules.specs.declared.feed.put.Put.TheVariants.{Accepted, Full, Gone}
use Rattle.flow_rules.specs.declared.feed.standing.Standing.{Standing}
use Rattle.flow_rules.specs.declared.item.Item.{Item}
use Rattle.flow_rules.specs.declared.refusal.NoMemory.{NoMemory}
use Rattle.publisher_hub.specs.Entry.{entry_of}
use Rattle.publisher_hub.specs.Looking.{Follows, IsReadied, Prepares}
use Rattle.publisher_hub.specs.Offering.{PutsTo, IsOffered, Offered, entry_after_put}
use Rattle.publisher_hub.specs.Steps.{CanTake}
use Rattle.publisher_hub.specs.declared.entry.Entry.{Entry}
use Rattle.publisher_hub.proofs.Subscribed.Ends.{follows_look, look_counted, taken_fits}
use Rattle.publisher_hub.proofs.Subscribed.AfterLooks.{follows_on, follows_ready}
use Rattle.publisher_hub.proofs.PartialRounds.Progress.{same_some}

-- a subscription can't be retired and not
pub not_both : {X : Type 0} {b : Bool} → b ≡ true → b ≡ false → X
not_both yes_it no_it = let e = sym yes_it ∙ no_it in cc

module _ {F T : Type 0} (meaning : F → End) (does : F → Call T → F → Type 0) (next : ℕ) where
  -- what is ready may start a task
  ready_starts : (answer : Result Unit NoMemory) (old new : Entry F) → IsOk answer → IsReadied meaning does answer old new
      → CanTake (entry_of meaning new)
  ready_starts (Ok x) old new ok readied live = (
    meaning readied.after,
    (
      ap (λ (entry : Entry F). option_map meaning entry.feed) readied.now,
      ap (λ ready. ready || is_some (meaning readied.after).closing) (ap (λ (end : End). end.ready) readied.readies.ok),
    ),
  )
  ready_starts (Err e) old new ok readied live = cc

  -- what was prepared may be offered an item
  pub prepared_can_take : (glance : Option Standing) (old new : Entry F) → Prepares meaning does next glance old new
      → CanTake (entry_of meaning new)
  prepared_can_take None old new stays live = not_both (ap (λ (entry : Entry F). entry.retired) stays.1 ∙ stays.0) live
  prepared_can_take (Some standing) old new sees live = by standing.ended refl where
    by : (ended : Bool) → standing.ended ≡ ended → (end : End) × (((entry_of meaning new).feed ≡ Some end) × MayStart end)
    by true is = not_both (ap (λ (entry : Entry F). entry.retired) (sees.ended is ∙ sees.sees.ended is)) live
    by false is = let readied = sees.stays is in ready_starts readied.0 sees.middle new readied.1.0 readied.1.1 live

  -- a subscription goes on after it was looked at and made ready
  pub record IsReadyFor (old ready : Entry F) : Type 0 where
    pub before : F
    pub after : F
    pub live : old.retired ≡ false
    pub was : old.feed ≡ Some before
    pub follows : Follows (meaning before) (meaning after)
    pub now : ready ≡ record old { feed = Some after }

  pub prepared_live : (glance : Option Standing) (old ready : Entry F) → Prepares meaning does next glance old ready → ready.retired ≡ false
      → IsReadyFor old ready
  prepared_live None old ready stays live = not_both (ap (λ (entry : Entry F). entry.retired) stays.1 ∙ stays.0) live
  prepared_live (Some standing) old ready sees live = by standing.ended refl where
    by : (ended : Bool) → standing.ended ≡ ended → IsReadyFor old ready
    by true is = not_both (ap (λ (entry : Entry F). entry.retired) (sees.ended is ∙ sees.sees.ended is)) live
    by false is =
        let readied = (sees.stays is).1.1 in
        let seen_is : sees.middle ≡ record old { feed = Some sees.sees.after } = sees.sees.stays is in
        let middle_is : readied.before ≡ sees.sees.after = same_some (sym readied.was ∙ ap (λ (entry : Entry F). entry.feed) seen_is) in
        record {
          before = sees.sees.before;
          after = readied.after;
          live = sees.sees.live;
          was = sees.sees.was;
          follows = follows_on (meaning sees.sees.before) (meaning sees.sees.after) (meaning readied.after) (follows_look (meaning sees.sees.before) (meaning sees.sees.after) sees.sees.stands.look)
              (subst (λ (f : F). Follows (meaning f) (meaning readied.after)) middle_is (follows_ready meaning does (sees.stays is).0 readied.before readied.after readied.readies));
          now = readied.now ∙ ap (λ (entry : Entry F). record entry { feed = Some readied.after }) seen_is;
        }

  module _ (x : Item) where
    -- a subscription that goes on was offered the item
    pub offered_live : (answer : Put T) (old ready new : Entry F) → IsReadyFor old ready → Offered meaning does x answer ready new
        → ((e : End) → (entry_of meaning old).feed ≡ Some e → e.closing ≡ None) → IsOffered x (entry_of meaning old) (entry_of meaning new)
    offered_live answer old ready new goes_on offered unclosed =
        by answer offered.means (ap (λ (entry : Entry F). entry_of meaning entry) offered.now) where
          was : (entry_of meaning old).feed ≡ Some (meaning goes_on.before)
          was = ap (λ feed. option_map meaning feed) goes_on.was

          before_is : offered.before ≡ goes_on.after
          before_is = same_some (sym offered.was ∙ ap (λ (entry : Entry F). entry.feed) goes_on.now)

          follows : Follows (meaning goes_on.before) (meaning offered.before)
          follows = subst (λ (f : F). Follows (meaning goes_on.before) (meaning f)) (sym before_is) goes_on.follows

          is_unclosed : (meaning offered.before).closing ≡ None
          is_unclosed = ap (λ (end : End). end.closing) follows.rest ∙ unclosed (meaning goes_on.before) was

          look : (m : End) → LookedIfOpen (meaning offered.before) m → Looked (meaning offered.before) m
          look m looked = looked.unclosed is_unclosed

          follows_put : (m : End) → Looked (meaning offered.before) m → Follows (meaning goes_on.before) m
          follows_put m looked = follows_on (meaning goes_on.before) (meaning offered.before) m follows (follows_look (meaning offered.before) m looked)

          counted_put : (m : End) → Looked (meaning offered.before) m → (meaning goes_on.before).looks < m.looks
          counted_put m looked = let later = look_counted (meaning offered.before) m looked in let first = follows.looks in omega arith

          by : (answer : Put T) → Puts (meaning offered.before) x answer (meaning offered.after)
              → entry_of meaning new ≡ entry_of meaning (entry_after_put x answer offered.after ready)
              → IsOffered x (entry_of meaning old) (entry_of meaning new)
          by (Accepted lag start) means now = inr (inl (record {
            before = meaning goes_on.before;
            seen = means.0;
            after = meaning offered.after;
            live = goes_on.live;
            was = was;
            follows = follows_put means.0 (look means.0 means.1);
            looked = counted_put means.0 (look means.0 means.1);
            taking = means.2.open_before;
            grown = means.2.taken;
            fits = taken_fits means.0 (meaning offered.after) x lag start means.2;
            now = now ∙ ap (λ (entry : Entry F). entry_of meaning (record entry { feed = Some offered.after })) goes_on.now;
          }))
          by (Full back) means now =
              let same : meaning offered.after ≡ means.0 = means.2.unchanged in
              inr (inr (inr (record {
                before = meaning goes_on.before;
                after = meaning offered.after;
                live = goes_on.live;
                was = was;
                follows = subst (λ (end : End). Follows (meaning goes_on.before) end) (sym same) (follows_put means.0 (look means.0 means.1));
                looked = subst (λ (end : End). (meaning goes_on.before).looks < end.looks) (sym same) (counted_put means.0 (look means.0 means.1));
                full = subst (λ (end : End). held_count end ≡ end.capacity) (sym same) means.2.full;
                now = now
                    ∙ ap (λ (entry : Entry F). entry_of meaning (record entry { feed = Some offered.after; dropped = entry.dropped + 1 })) goes_on.now;
              })))
          by (Gone back) means now =
              let same : meaning offered.after ≡ means.0 = means.2.unchanged in
              inr (inr (inl (record {
                before = meaning goes_on.before;
                after = meaning offered.after;
                live = goes_on.live;
                was = was;
                follows = subst (λ (end : End). Follows (meaning goes_on.before) end) (sym same) (follows_put means.0 (look means.0 means.1));
                looked = subst (λ (end : End). (meaning goes_on.before).looks < end.looks) (sym same) (counted_put means.0 (look means.0 means.1));
                gone = subst (λ (end : End). is_gone end ≡ true) (sym same) means.2.gone;
                now = now
                    ∙ ap (λ (entry : Entry F). entry_of meaning (record entry { feed = Some offered.after; retired = true; until = x.serial })) goes_on.now;
              })))

    -- a subscription that missed the item goes on as before, once its drop is taken back
    pub missed_goes_on : (back : Item) (old ready new : Entry F) → IsReadyFor old ready → Offered meaning does x (Full back) ready new
        → ((e : End) → (entry_of meaning old).feed ≡ Some e → e.closing ≡ None) → IsReadyFor old (record new { dropped = new.dropped - 1 })
    missed_goes_on back old ready new goes_on offered unclosed =
        let was : (entry_of meaning old).feed ≡ Some (meaning goes_on.before) = ap (λ feed. option_map meaning feed) goes_on.was in
        let before_is : offered.before ≡ goes_on.after = same_some (sym offered.was ∙ ap (λ (entry : Entry F). entry.feed) goes_on.now) in
        let follows : Follows (meaning goes_on.before) (meaning offered.before) =
        subst (λ (f : F). Follows (meaning goes_on.before) (meaning f)) (sym before_is) goes_on.follows in
        let is_unclosed : (meaning offered.before).closing ≡ None =
        ap (λ (end : End). end.closing) follows.rest ∙ unclosed (meaning goes_on.before) was in
        let look : Looked (meaning offered.before) offered.means.0 = offered.means.1.unclosed is_unclosed in
        let now : new ≡ record old { feed = Some offered.after; dropped = old.dropped + 1 } =
        offered.now ∙ ap (λ (entry : Entry F). record entry { feed = Some offered.after; dropped = entry.dropped + 1 }) goes_on.now in
        let back_to : old.dropped + 1 - 1 ≡ old.dropped = omega arith in
        record {
          before = goes_on.before;
          after = offered.after;
          live = goes_on.live;
          was = goes_on.was;
          follows = subst (λ (end : End). Follows (meaning goes_on.before) end) (sym offered.means.2.unchanged)
              (follows_on (meaning goes_on.before) (meaning offered.before) offered.means.0 follows (follows_look (meaning offered.before) offered.means.0 look));
          now = ap (λ (entry : Entry F). record entry { dropped = entry.dropped - 1 }) now
              ∙ ap (λ n. record old { feed = Some offered.after; dropped = n }) back_to;
        }

    -- a subscription was looked at, and offered the item unless it had ended
    pub prepared_offered : (serial : x.serial ≡ next) (glance : Option Standing) (put : Option (Put T)) (old middle new : Entry F)
        → ((e : End) → (entry_of meaning old).feed ≡ Some e → e.closing ≡ None)
        → Prepares meaning does next glance old middle → PutsTo meaning does x put middle new
        → IsOffered x (entry_of meaning old) (entry_of meaning new)
    prepared_offered serial glance (Some answer) old middle new unclosed prepared offered =
        offered_live answer old middle new (prepared_live glance old middle prepared offered.live) offered unclosed
    prepared_offered serial None None old middle new unclosed stays puts_to =
        inl (record { retired = stays.0; same = ap (λ (entry : Entry F). entry_of meaning entry) (puts_to.1 ∙ stays.1) })
    prepared_offered serial (Some standing) None old middle new unclosed sees puts_to = by standing.ended refl where
      by : (ended : Bool) → standing.ended ≡ ended → IsOffered x (entry_of meaning old) (entry_of meaning new)
      by true is = inr (inr (inl (record {
        before = meaning sees.sees.before;
        after = meaning sees.sees.after;
        live = sees.sees.live;
        was = ap (λ feed. option_map meaning feed) sees.sees.was;
        follows = follows_look (meaning sees.sees.before) (meaning sees.sees.after) sees.sees.stands.look;
        looked = look_counted (meaning sees.sees.before) (meaning sees.sees.after) sees.sees.stands.look;
        gone = let over : (meaning sees.sees.after).over ≡ true = sym sees.sees.stands.ended
            ∙ is in ap (λ b. b || is_some (meaning sees.sees.after).closing) over;
        now = ap (λ (entry : Entry F). entry_of meaning entry) (puts_to.1 ∙ sees.ended is ∙ sees.sees.ended is)
            ∙ ap (λ until. entry_of meaning (record old { feed = Some sees.sees.after; retired = true; until = until })) (sym serial);
      })))
      by false is = not_both puts_to.0 (ap (λ (entry : Entry F). entry.retired) ((sees.stays is).1.1.now ∙ ap (λ (entry : Entry F). record entry { feed = Some (sees.stays is).1.1.after }) (sees.sees.stays is)) ∙ sees.sees.live)
