-- A subscribing is refused in this order: a live subscription has the name, or there is no place.
use Rattle.std.proofs.Common.{rules, ◌≡◌, ℕ, None, Some, List, sym, subst}
use Rattle.std.specs.Prelude.{slice_get}
use Rattle.publisher_hub.specs.Hub.{hub_of}
use Rattle.publisher_hub.specs.Subscribing.{IsNamed, IsNotNamed, IsPrepared, IsUnnamed, DoublesAt}
use Rattle.publisher_hub.specs.declared.entry.Entry.{Entry}
use Rattle.publisher_hub.proofs.Subscribed.Admission.{can_admit, found_none, live_at, on_ok, refused_place, seen_with_place, still_place, unnamed_of}
use Rattle.publisher_hub.proofs.hub.Hub.may_subscribe.Goals as goal

pub double-requires-clause-live : goal.double-requires-clause-live
double-requires-clause-live g c =
    let found = c.in-Some.ensures.found in
    let at : slice_get c.see_all.new.self.live.items found.0 ≡ Some c.in-Some.number =
    subst (λ (l : List ℕ). slice_get l found.0 ≡ Some c.in-Some.number) c.deref-2.ensures.value found.1.0 in
    live_at g.F.Feed.meaning g.F.Feed.does c.see_all.new.self found.0 c.in-Some.number c.in_ok-see_all.ensures.seen.all_live at

pub returns-in-Some-clause-refusals : goal.returns-in-Some-clause-refusals
returns-in-Some-clause-refusals g c =
    let found = c.in-Some.ensures.found in (
      c.see_all.new.self,
      (
        c.in_ok-see_all.ensures.seen,
        record {
          number = c.in-Some.number;
          named = subst (λ (l : List (Entry g.row.F.Denot)). IsNamed c.args.name c.in-Some.number l) c.deref.ensures.value found.1.1;
          doubles = subst (λ (due : _). DoublesAt g.F.Feed.meaning g.F.Feed.does c.in-Some.number due c.double.new.due.items c.see_all.new.self c.double.new.self) c.see_all.ensures.due c.double.ensures.doubles;
        },
      ),
    )

pub returns-in-Some-clause-not_refused : goal.returns-in-Some-clause-not_refused
returns-in-Some-clause-not_refused g c can =
    let found = c.in-Some.ensures.found in
    let at : slice_get c.see_all.new.self.live.items found.0 ≡ Some c.in-Some.number =
    subst (λ (l : List ℕ). slice_get l found.0 ≡ Some c.in-Some.number) c.deref-2.ensures.value found.1.0 in
    let named : IsNamed c.args.name c.in-Some.number c.see_all.new.self.entries.items =
    subst (λ (l : List (Entry g.row.F.Denot)). IsNamed c.args.name c.in-Some.number l) c.deref.ensures.value found.1.1 in
    absurd (found_none g.F.Feed.meaning g.F.Feed.does c.args.name c.args.self.now c.see_all.new.self found.0 c.in-Some.number c.in_ok-see_all.ensures.seen can.unnamed at named)

unnamed : (g : _) (c : goal.After-make_place g) → IsUnnamed c.args.name (hub_of g.F.Feed.meaning c.see_all.new.self).entries
unnamed g c =
    let none : c.find_named.result ≡ None = search rules in
    unnamed_of g.F.Feed.meaning g.F.Feed.does c.args.name c.see_all.new.self c.in_ok-see_all.ensures.seen.all_live (λ i number at.
    subst (λ (l : List (Entry g.row.F.Denot)). IsNotNamed c.args.name number l) c.deref.ensures.value
    (c.find_named.ensures.none none i number (subst (λ (l : List ℕ). slice_get l i ≡ Some number) (sym c.deref-2.ensures.value) at)))

seen : (g : _) (c : goal.After-make_place g) → IsPrepared g.F.Feed.meaning g.F.Feed.does c.args.self.now c.make_place.new.self
seen g c =
    seen_with_place g.F.Feed.meaning g.F.Feed.does c.args.self.now c.see_all.new.self c.make_place.new.self c.in_ok-see_all.ensures.seen
    c.make_place.ensures.entries c.make_place.ensures.live c.make_place.ensures.same

pub returns-clause-can : goal.returns-clause-can
returns-clause-can g c =
    can_admit g.F.Feed.meaning g.F.Feed.does c.args.name c.args.most c.make_place.result c.see_all.new.self c.make_place.new.self c.see_all.new.due
    c.make_place.ensures.ok c.in_ok-see_all.ensures.due_place c.in_ok-see_all.ensures.ready (unnamed g c) c.make_place.ensures.same

pub returns-clause-seen : goal.returns-clause-seen
returns-clause-seen g c = on_ok c.make_place.result _ (seen g c)

pub returns-clause-refusals : goal.returns-clause-refusals
returns-clause-refusals g c =
    refused_place g.F.Feed.meaning g.F.Feed.does c.args.name c.args.most c.make_place.result c.args.due.now.items c.see_all.new.due.items c.args.self.now c.make_place.new.self (seen g c)
    (subst (λ (hub : Rattle.publisher_hub.specs.Hub.HubState). IsUnnamed c.args.name hub.entries) (sym c.make_place.ensures.same) (unnamed g c)) c.see_all.ensures.due c.make_place.ensures.refusals

pub returns-clause-not_refused : goal.returns-clause-not_refused
returns-clause-not_refused g c can =
    c.make_place.ensures.not_refused (still_place g.F.Feed.meaning g.F.Feed.does c.args.most c.args.self.now c.see_all.new.self c.in_ok-see_all.ensures.seen
    c.see_all.ensures.entry_places c.see_all.ensures.number_places can.place)

-- a refusal says nothing of a yes
pub returns-in-Some-clause-can : goal.returns-in-Some-clause-can
returns-in-Some-clause-can g c = tt

pub returns-in-Some-clause-seen : goal.returns-in-Some-clause-seen
returns-in-Some-clause-seen g c = tt

pub returns-in-Some-clause-nothing_due : goal.returns-in-Some-clause-nothing_due
returns-in-Some-clause-nothing_due g c = tt
