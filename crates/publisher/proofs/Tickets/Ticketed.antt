-- Each subscription has its ticket until it has ended, whatever is asked of a Hub.
use Rattle.std.proofs.Common.{◌≡◌, ◌⊎◌, inl, inr, ℕ, ◌<◌, ◌&&◌, Bool, true, false, if◌then◌else◌, Option, None, Some, List, [], ◌∷◌, ◌++◌, length, set, refl, sym, ap, subst, ◌∙◌, arith}
use Rattle.std.specs.Prelude.{IsSome, slice_get}
use Rattle.std.proofs.lemmas.List.{length-set}
use Rattle.std.proofs.lemmas.Option.{slice_get_within}
use Rattle.close_count.specs.Count.{CountId}
use Rattle.close_count.specs.Opening.{count_of_opening}
use Rattle.close_count.specs.Spent.{count_of_spent, was_last}
use Rattle.close_count.specs.Ticket.{count_of_ticket}
use Rattle.close_count.specs.declared.opening.Opening.{Opening}
use Rattle.close_count.specs.declared.spent.Spent.{Spent}
use Rattle.close_count.specs.declared.ticket.Ticket.{Ticket}
use Rattle.flow_rules.specs.Feed.{End}
use Rattle.flow_rules.specs.declared.ending.Ending.{Ending}
use Rattle.flow_rules.specs.declared.item.Item.{Item}
use Rattle.publisher_hub.specs.Closing.{IsClosedBy}
use Rattle.publisher_hub.specs.Entry.{EntryState}
use Rattle.publisher_hub.specs.Hub.{HubState}
use Rattle.publisher_hub.specs.Lists.{Each}
use Rattle.publisher_hub.specs.Looking.{IsKept}
use Rattle.publisher_hub.specs.Offering.{IsOffered}
use Rattle.publisher_hub.specs.Batch.{IsGivenAnother}
use Rattle.publisher_hub.specs.Sound.{IsAccepted}
use Rattle.publisher_hub.specs.Subscribing.{WasDoubled}
use Rattle.publisher_hub.proofs.PartialRounds.Progress.{same_some}
use Rattle.publisher_hub.proofs.AnswerLists.Places.{stood_at}
use Rattle.publisher_hub.proofs.Soundness.Replacing.{set_or_stood}
use Rattle.publisher_hub.proofs.Soundness.SameLists.{accepted_before}
use Rattle.publisher.specs.Spending.{last_after}
use Rattle.publisher.specs.Tickets.{IsLate, IsOfCount, IsOver, IsTicketed}

-- what each call leaves of a subscription: its ticket, or none once it has ended; it was subscribed when it was; and it
-- stays ended
pub record KeepsTicket (old new : EntryState) : Type 0 where
  pub since : new.since ≡ old.since
  pub ticket : (new.ticket ≡ old.ticket) ⊎ ((new.ticket ≡ None) × IsOver new)
  pub over : IsOver old → IsOver new

-- what a call leaves of it that publishes nothing: that, and what it has accepted it had accepted before
pub record KeepsEntry (old new : EntryState) : Type 0 where
  pub keeps : KeepsTicket old new
  pub had : (f : End) → new.feed ≡ Some f → (e : End) × (old.feed ≡ Some e) × (f.accepted ≡ e.accepted)

-- so it has its ticket until it has ended, still. Nothing was published meanwhile if the publisher was closed
pub ticketed_still : (count : CountId) (counted : Option ℕ) (next later number : ℕ) (old new : EntryState)
    → KeepsTicket old new → (IsLate counted number → later ≡ next)
    → IsTicketed count counted next number old → IsTicketed count counted later number new
ticketed_still count counted next later number old new keeps same is = record {
  of_count = λ t at. has_of keeps.ticket t at;
  spent = λ none. has_spent keeps.ticket none;
  late = λ late. keeps.since ∙ is.late late ∙ sym (same late);
} where
  has_of : (new.ticket ≡ old.ticket) ⊎ ((new.ticket ≡ None) × IsOver new) → (t : Ticket) → new.ticket ≡ Some t → count_of_ticket t ≡ count
  has_of (inl kept) t at = is.of_count t (sym kept ∙ at)
  has_of (inr gone) t at = let no : None ≡ Some t = sym gone.0 ∙ at in cc

  still : IsOver old ⊎ IsLate counted number → IsOver new ⊎ IsLate counted number
  still (inl over) = inl (keeps.over over)
  still (inr late) = inr late

  has_spent : (new.ticket ≡ old.ticket) ⊎ ((new.ticket ≡ None) × IsOver new) → new.ticket ≡ None → IsOver new ⊎ IsLate counted number
  has_spent (inl kept) none = still (is.spent (sym kept ∙ none))
  has_spent (inr gone) none = inl gone.1

-- one that stands as it stood, with the same ticket
keeps_ticket : (old new : EntryState) → new.ticket ≡ old.ticket → new.since ≡ old.since → (IsOver old → IsOver new) → KeepsTicket old new
keeps_ticket old new ticket since over = record { since = since; ticket = inl ticket; over = over }

pub keeps_same : (entry : EntryState) → KeepsEntry entry entry
keeps_same entry = record { keeps = keeps_ticket entry entry refl refl (λ is. is); had = λ f at. (f, at, refl) }

ticket_then : (one two three : EntryState) → KeepsTicket one two → KeepsTicket two three → KeepsTicket one three
ticket_then one two three a b = record { since = b.since ∙ a.since; ticket = by a.ticket b.ticket; over = λ is. b.over (a.over is) } where
  by : (two.ticket ≡ one.ticket) ⊎ ((two.ticket ≡ None) × IsOver two)
      → (three.ticket ≡ two.ticket) ⊎ ((three.ticket ≡ None) × IsOver three)
      → (three.ticket ≡ one.ticket) ⊎ ((three.ticket ≡ None) × IsOver three)
  by (inl first) (inl later) = inl (later ∙ first)
  by (inr first) (inl later) = inr (later ∙ first.0, b.over first.1)
  by first (inr later) = inr later

keeps_then : (one two three : EntryState) → KeepsEntry one two → KeepsEntry two three → KeepsEntry one three
keeps_then one two three a b = record {
  keeps = ticket_then one two three a.keeps b.keeps;
  had = λ f at. let later = b.had f at in let first = a.had later.0 later.1 in (first.0, first.1, later.2 ∙ first.2);
}

-- one that has ended, or whose producer's end was taken out, needs none
pub keeps_over : (old new : EntryState) → new.ticket ≡ None → IsOver new → new.since ≡ old.since
    → ((f : End) → new.feed ≡ Some f → (e : End) × (old.feed ≡ Some e) × (f.accepted ≡ e.accepted)) → KeepsEntry old new
keeps_over old new none over since had =
    record { keeps = record { since = since; ticket = inr (none, over); over = λ _. over }; had = had }

-- an end that had ended stays so
ticket_ended : (old new : EntryState) (before after : End) → old.feed ≡ Some before → new.feed ≡ Some after
    → new.ticket ≡ old.ticket → new.since ≡ old.since
    → (before.over ≡ true → after.over ≡ true) → KeepsTicket old new
ticket_ended old new before after was now ticket since over = keeps_ticket old new ticket since
    (λ is e at. subst (λ (end : End). end.over ≡ true) (same_some (sym now ∙ at)) (over (is before was)))

-- and if it accepted nothing more, the subscription stays
pub keeps_ended : (old new : EntryState) (before after : End) → old.feed ≡ Some before → new.feed ≡ Some after
    → new.ticket ≡ old.ticket → new.since ≡ old.since
    → (before.over ≡ true → after.over ≡ true) → after.accepted ≡ before.accepted → KeepsEntry old new
keeps_ended old new before after was now ticket since over accepted = record {
  keeps = ticket_ended old new before after was now ticket since over;
  had = λ f at. (before, was, ap (λ (e : End). e.accepted) (same_some (sym at ∙ now)) ∙ accepted);
}

same_kept : (old new : EntryState) → new ≡ old → KeepsEntry old new
same_kept old new same = subst (λ (entry : EntryState). KeepsEntry old entry) (sym same) (keeps_same old)

-- a look
pub looked_kept : (next : ℕ) (old new : EntryState) → IsKept next old new → KeepsEntry old new
looked_kept next old new (inl stays) = same_kept old new stays.same
looked_kept next old new (inr (inl stays)) = keeps_ended old new stays.before stays.after stays.was
    (ap (λ (e : EntryState). e.feed) stays.now) (ap (λ (e : EntryState). e.ticket) stays.now)
    (ap (λ (e : EntryState). e.since) stays.now) stays.became.over (ap (λ (e : End). e.accepted) stays.became.rest)
looked_kept next old new (inr (inr retired)) = keeps_ended old new retired.before retired.after retired.was
    (ap (λ (e : EntryState). e.feed) retired.now) (ap (λ (e : EntryState). e.ticket) retired.now)
    (ap (λ (e : EntryState). e.since) retired.now) retired.follows.over (ap (λ (e : End). e.accepted) retired.follows.rest)

-- a publication
offered_kept : (x : Item) (old new : EntryState) → IsOffered x old new → KeepsTicket old new
offered_kept x old new (inl stays) = (same_kept old new stays.same).keeps
offered_kept x old new (inr (inl grown)) = ticket_ended old new grown.before grown.after grown.was
    (ap (λ (e : EntryState). e.feed) grown.now) (ap (λ (e : EntryState). e.ticket) grown.now) (ap (λ (e : EntryState). e.since) grown.now)
    (λ over. ap (λ (e : End). e.over) grown.grown ∙ grown.follows.over over)
offered_kept x old new (inr (inr (inl ended))) = ticket_ended old new ended.before ended.after ended.was
    (ap (λ (e : EntryState). e.feed) ended.now) (ap (λ (e : EntryState). e.ticket) ended.now)
    (ap (λ (e : EntryState). e.since) ended.now) ended.follows.over
offered_kept x old new (inr (inr (inr dropped))) = ticket_ended old new dropped.before dropped.after dropped.was
    (ap (λ (e : EntryState). e.feed) dropped.now) (ap (λ (e : EntryState). e.ticket) dropped.now)
    (ap (λ (e : EntryState). e.since) dropped.now) dropped.follows.over

-- another publication of the same call
another_kept : (x : Item) (old new : EntryState) → IsGivenAnother x old new → KeepsTicket old new
another_kept x old new (inl stays) = (same_kept old new stays.same).keeps
another_kept x old new (inr takes) = ticket_ended old new takes.before
    (record takes.before { accepted = takes.before.accepted ++ x ∷ [] }) takes.was
    (ap (λ (e : EntryState). e.feed) takes.now) (ap (λ (e : EntryState). e.ticket) takes.now)
    (ap (λ (e : EntryState). e.since) takes.now) (λ over. over)

-- a close
closed_kept : (ending : Ending) (old new : EntryState) → IsClosedBy ending old new → KeepsEntry old new
closed_kept ending old new (inl stays) = same_kept old new stays.same
closed_kept ending old new (inr closed) = keeps_ended old new closed.before closed.after closed.was
    (ap (λ (e : EntryState). e.feed) closed.now) (ap (λ (e : EntryState). e.ticket) closed.now)
    (ap (λ (e : EntryState). e.since) closed.now)
    (λ over. ap (λ (e : End). e.over) closed.became ∙ over) (ap (λ (e : End). e.accepted) closed.became)

-- a second subscribing
told_kept : (old new : EntryState) → WasDoubled old new → KeepsEntry old new
told_kept old new told = keeps_ended old new told.before told.after told.was
    (ap (λ (e : EntryState). e.feed) told.now) (ap (λ (e : EntryState). e.ticket) told.now) (ap (λ (e : EntryState). e.since) told.now)
    (λ over. ap (λ (e : End). e.over) told.became ∙ over) (ap (λ (e : End). e.accepted) told.became)

-- the same of all subscriptions
abbrev pub AllKeep : List EntryState → List EntryState → Type 0
AllKeep xs ys = Each KeepsEntry xs ys

-- of their tickets alone
abbrev pub AllKeepTickets : List EntryState → List EntryState → Type 0
AllKeepTickets xs ys = Each KeepsTicket xs ys

pub all_tickets : (xs ys : List EntryState) → AllKeep xs ys → AllKeepTickets xs ys
all_tickets xs ys all = record { as_long = all.as_long; each = λ k x y at on. (all.each k x y at on).keeps }

-- and what they have accepted they had accepted before
pub accepted_still : (xs ys : List EntryState) → AllKeep xs ys → (x : Item) → IsAccepted ys x → IsAccepted xs x
accepted_still xs ys all x is = accepted_before KeepsEntry xs ys all (λ old new f keeps at. keeps.had f at) x is

all_keep : (R : EntryState → EntryState → Type 0) → ((x y : EntryState) → R x y → KeepsEntry x y)
    → (xs ys : List EntryState) → Each R xs ys → AllKeep xs ys
all_keep R so xs ys each = record { as_long = each.as_long; each = λ k x y at on. so x y (each.each k x y at on) }

pub all_same : (xs : List EntryState) → AllKeep xs xs
all_same xs = record { as_long = refl; each = λ k x y at on. same_kept x y (same_some (sym on ∙ at)) }

pub all_then : (xs ys zs : List EntryState) → AllKeep xs ys → AllKeep ys zs → AllKeep xs zs
all_then xs ys zs one other = record {
  as_long = other.as_long ∙ one.as_long;
  each = λ k x z at on.
      let middle = stood_at KeepsEntry ys zs k z other on in
      keeps_then x middle.entry z (one.each k x middle.entry at middle.at) middle.became;
}

pub all_looked : (next : ℕ) (xs ys : List EntryState) → Each (IsKept next) xs ys → AllKeep xs ys
all_looked next xs ys each = all_keep (IsKept next) (looked_kept next) xs ys each

pub all_offered : (x : Item) (xs ys : List EntryState) → Each (IsOffered x) xs ys → AllKeepTickets xs ys
all_offered x xs ys each = record { as_long = each.as_long; each = λ k y z at on. offered_kept x y z (each.each k y z at on) }

pub all_given : (x : Item) (xs ys : List EntryState) → Each (IsGivenAnother x) xs ys → AllKeepTickets xs ys
all_given x xs ys each = record { as_long = each.as_long; each = λ k y z at on. another_kept x y z (each.each k y z at on) }

pub all_tickets_then : (xs ys zs : List EntryState) → AllKeepTickets xs ys → AllKeepTickets ys zs → AllKeepTickets xs zs
all_tickets_then xs ys zs one other = record {
  as_long = other.as_long ∙ one.as_long;
  each = λ k x z at on.
      let middle = stood_at KeepsTicket ys zs k z other on in
      ticket_then x middle.entry z (one.each k x middle.entry at middle.at) middle.became;
}

pub all_closed : (ending : Ending) (xs ys : List EntryState) → Each (IsClosedBy ending) xs ys → AllKeep xs ys
all_closed ending xs ys each = all_keep (IsClosedBy ending) (closed_kept ending) xs ys each

-- one of them was replaced
pub all_but_one : (xs : List EntryState) (number : ℕ) (old new : EntryState) → slice_get xs number ≡ Some old
    → KeepsEntry old new → AllKeep xs (set xs number new)
all_but_one xs number old new stood keeps = record {
  as_long = length-set xs number new;
  each = λ k x y at on. by k x y at (set_or_stood xs number new k y on);
} where
  by : (k : ℕ) (x y : EntryState) → slice_get xs k ≡ Some x → ((number ≡ k) × (new ≡ y)) ⊎ (slice_get xs k ≡ Some y) → KeepsEntry x y
  by k x y at (inl now) =
      let same : old ≡ x = same_some (sym stood ∙ subst (λ j. slice_get xs j ≡ Some x) (sym now.0) at) in
      subst (λ (entry : EntryState). KeepsEntry x entry) now.1 (subst (λ (entry : EntryState). KeepsEntry entry new) same keeps)
  by k x y at (inr before) = same_kept x y (same_some (sym before ∙ at))

pub one_told : (xs : List EntryState) (number : ℕ) (old new : EntryState) → slice_get xs number ≡ Some old
    → WasDoubled old new → AllKeep xs (set xs number new)
one_told xs number old new stood told = all_but_one xs number old new stood (told_kept old new told)

-- so the tickets stay those of one count
pub of_count_still : (count : CountId) (v w : HubState) (counted : Option ℕ) (last : Option Spent)
    → IsOfCount count v counted last → ((opening : Opening) → w.opening ≡ Some opening → count_of_opening opening ≡ count)
    → (IsSome v.progress.ending → IsSome w.progress.ending) → (IsSome counted → w.progress.next ≡ v.progress.next)
    → AllKeepTickets v.entries w.entries → IsOfCount count w counted last
of_count_still count v w counted last is opening closed same keep = record {
  opening = opening;
  entries = λ k entry at.
      let stood = stood_at KeepsTicket v.entries w.entries k entry keep at in
      ticketed_still count counted v.progress.next w.progress.next k stood.entry entry stood.became
      (λ late. same (rw late.1.0 refl)) (is.entries k stood.entry stood.at);
  last_is = is.last_is;
  closed = λ some. closed (is.closed some);
}

-- a ticket of the count was spent, and what is left of it is kept if it was the last
pub of_count_after : (count : CountId) (v : HubState) (spent : Spent) (closed : Bool) (counted : Option ℕ)
    (last : Option Spent) → IsOfCount count v counted last → count_of_spent spent ≡ count
    → (closed ≡ true → IsSome v.progress.ending) → IsOfCount count v counted (last_after spent closed last)
of_count_after count v spent closed counted last is same shut = by (was_last spent) closed refl refl where
  by : (was now : Bool) → was_last spent ≡ was → closed ≡ now → IsOfCount count v counted (if was && now then Some spent else last)
  by true true was now = record {
    opening = is.opening;
    entries = is.entries;
    last_is = λ other e. subst (λ (s : Spent). (count_of_spent s ≡ count) × (was_last s ≡ true)) (same_some e) (same, was);
    closed = λ _. shut now;
  }
  by true false was now = is
  by false now was e = is

-- the publisher was closed: until then no subscription was late, and of those that there are none is
pub of_count_counted : (count : CountId) (v : HubState) (many : ℕ) (last : Option Spent) → many ≡ length v.entries
    → IsOfCount count v None last → IsOfCount count v (Some many) last
of_count_counted count v many last all is = record {
  opening = is.opening;
  entries = λ k entry at.
      let was = is.entries k entry at in
      let before : k < length v.entries = slice_get_within v.entries k entry at in
      record {
        of_count = was.of_count;
        spent = λ none. by entry k (was.spent none);
        late = λ late. let beyond = late.1.1 in let same = same_some late.1.0 in absurd (omega arith);
      };
  last_is = is.last_is;
  closed = is.closed;
} where
  by : (entry : EntryState) (k : ℕ) → IsOver entry ⊎ IsLate None k → IsOver entry ⊎ IsLate (Some many) k
  by entry k (inl over) = inl over
  by entry k (inr late) = let never : None ≡ Some late.0 = late.1.0 in cc

-- what is left of the last ticket stays
pub last_stays : (spent : Spent) (closed : Bool) (last : Option Spent) → IsSome last → IsSome (last_after spent closed last)
last_stays spent closed last some = by (was_last spent) closed where
  by : (was now : Bool) → IsSome (if was && now then Some spent else last)
  by true true = refl
  by true false = some
  by false now = some
