-- What looks leave of a subscription, from what its producer's end answered.
use Rattle.std.proofs.Common.{◌≡◌, ◌⊎◌, ◌||◌, ℕ, Bool, true, false, Option, None, Some, option_map, Result, Ok, Err, List, map, refl, ap, sym, subst, ◌∙◌, inl, inr, arith, is_some, IfOk, IsSome, OnErr}
use Rattle.std.proofs.lemmas.List.{length-map}
use Rattle.flow_rules.specs.Call.{Call}
use Rattle.flow_rules.specs.Feed.{End}
use Rattle.flow_rules.specs.declared.feed.standing.Standing.{Standing}
use Rattle.flow_rules.specs.declared.refusal.NoMemory.{NoMemory}
use Rattle.publisher_hub.specs.Entry.{EntryState, entry_of}
use Rattle.publisher_hub.specs.Lists.{Each, EachBy}
use Rattle.publisher_hub.specs.Looking.{Follows, Glances, IsKept, IsReadied, MayPrepare, Prepares, Readies, Sees, ShowsRoom}
use Rattle.publisher_hub.specs.Steps.{AreHere, IsHere}
use Rattle.publisher_hub.specs.declared.entry.Entry.{Entry}
use Rattle.publisher_hub.specs.declared.hub.room.Room.{Room}
use Rattle.publisher_hub.proofs.Subscribed.Ends.{follows_look}
use Rattle.publisher_hub.proofs.PartialRounds.Next.{get_before_map}
use Rattle.publisher_hub.proofs.AnswerLists.Places.{answered_at}

-- an end that follows an end that follows another
pub follows_on : (e f h : End) → Follows e f → Follows f h → Follows e h
follows_on e f h first second =
    let seen = first.seen in
    let seen' = second.seen in
    let looks = first.looks in
    let looks' = second.looks in
    record {
      seen = omega arith;
      over = λ over. second.over (first.over over);
      looks = omega arith;
      rest = second.rest ∙ ap (λ (end : End). record end { seen = h.seen; looks = h.looks; over = h.over; ready = h.ready }) first.rest;
    }

-- an end that was to be made ready
pub follows_ready : {F T : Type 0} (meaning : F → End) (does : F → Call T → F → Type 0) (answer : Result Unit NoMemory) (f g : F)
    → Readies meaning does answer f g → Follows (meaning f) (meaning g)
follows_ready meaning does (Ok x) f g readies =
    let now = readies.ok in
    let seen : (meaning g).seen ≡ (meaning f).seen = ap (λ (end : End). end.seen) now in
    let looks : (meaning g).looks ≡ (meaning f).looks = ap (λ (end : End). end.looks) now in
    let over : (meaning g).over ≡ (meaning f).over = ap (λ (end : End). end.over) now in
    record { seen = omega arith; over = λ was. over ∙ was; looks = omega arith; rest = rw (now) refl }
follows_ready meaning does (Err e) f g readies =
    let now = readies.err in
    let seen : (meaning g).seen ≡ (meaning f).seen = ap (λ (end : End). end.seen) now in
    let looks : (meaning g).looks ≡ (meaning f).looks = ap (λ (end : End). end.looks) now in
    let over : (meaning g).over ≡ (meaning f).over = ap (λ (end : End). end.over) now in
    record { seen = omega arith; over = λ was. over ∙ was; looks = omega arith; rest = rw (now) refl }

module _ {F T : Type 0} (meaning : F → End) (does : F → Call T → F → Type 0) (next : ℕ) where
  -- what was looked at is kept
  pub sees_kept : (standing : Standing) (old new : Entry F) → Sees meaning does next standing old new
      → IsKept next (entry_of meaning old) (entry_of meaning new)
  sees_kept standing old new sees = by standing.ended refl where
    by : (ended : Bool) → standing.ended ≡ ended → IsKept next (entry_of meaning old) (entry_of meaning new)
    by true is = inr (inr (record {
      before = meaning sees.before;
      after = meaning sees.after;
      live = sees.live;
      was = ap (λ feed. option_map meaning feed) sees.was;
      follows = follows_look (meaning sees.before) (meaning sees.after) sees.stands.look;
      gone = let over : (meaning sees.after).over ≡ true = sym sees.stands.ended
          ∙ is in ap (λ b. b || is_some (meaning sees.after).closing) over;
      now = ap (λ (entry : Entry F). entry_of meaning entry) (sees.ended is);
    }))
    by false is = inr (inl (record {
      before = meaning sees.before;
      after = meaning sees.after;
      live = sees.live;
      was = ap (λ feed. option_map meaning feed) sees.was;
      became = follows_look (meaning sees.before) (meaning sees.after) sees.stands.look;
      now = ap (λ (entry : Entry F). entry_of meaning entry) (sees.stays is);
    }))

  pub glance_kept : (glance : Option Standing) (old new : Entry F) → Glances meaning does next glance old new
      → IsKept next (entry_of meaning old) (entry_of meaning new)
  glance_kept None old new stays = inl (record { retired = stays.0; same = ap (λ (entry : Entry F). entry_of meaning entry) stays.1 })
  glance_kept (Some standing) old new sees = sees_kept standing old new sees

  -- what was looked at, and then to be made ready, is kept
  pub readied_kept : (standing : Standing) (answer : Result Unit NoMemory) (old middle new : Entry F) → standing.ended ≡ false
      → Sees meaning does next standing old middle
      → IsReadied meaning does answer middle new → IsKept next (entry_of meaning old) (entry_of meaning new)
  readied_kept standing answer old middle new goes_on sees readied =
      let stays : middle ≡ record old { feed = Some sees.after } = sees.stays goes_on in
      let same : sees.after ≡ readied.before =
      Rattle.publisher_hub.proofs.PartialRounds.Progress.same_some (sym (ap (λ (entry : Entry F). entry.feed) stays) ∙ readied.was) in
      inr (inl (record {
        before = meaning sees.before;
        after = meaning readied.after;
        live = sees.live;
        was = ap (λ feed. option_map meaning feed) sees.was;
        became = follows_on (meaning sees.before) (meaning sees.after) (meaning readied.after) (follows_look (meaning sees.before) (meaning sees.after) sees.stands.look)
            (subst (λ (f : F). Follows (meaning f) (meaning readied.after)) (sym same) (follows_ready meaning does answer readied.before readied.after readied.readies));
        now = ap (λ (entry : Entry F). entry_of meaning entry) (readied.now ∙ ap (λ (entry : Entry F). record entry { feed = Some readied.after }) stays);
      }))

  pub prepares_kept : (glance : Option Standing) (old new : Entry F) → Prepares meaning does next glance old new
      → IsKept next (entry_of meaning old) (entry_of meaning new)
  prepares_kept None old new stays = inl (record { retired = stays.0; same = ap (λ (entry : Entry F). entry_of meaning entry) stays.1 })
  prepares_kept (Some standing) old new sees = by standing.ended refl where
    by : (ended : Bool) → standing.ended ≡ ended → IsKept next (entry_of meaning old) (entry_of meaning new)
    by true is =
        subst (λ (entry : Entry F). IsKept next (entry_of meaning old) (entry_of meaning entry)) (sym (sees.ended is)) (sees_kept standing old sees.middle sees.sees)
    by false is = let readied = sees.stays is in readied_kept standing readied.0 old sees.middle new is sees.sees readied.1.1

  -- if a subscription could not be prepared, each is kept, or as it was
  pub may_prepare_kept : (old new : Entry F) → MayPrepare meaning does next old new
      → (entry_of meaning new ≡ entry_of meaning old) ⊎ IsKept next (entry_of meaning old) (entry_of meaning new)
  may_prepare_kept old new (inl same) = inl (ap (λ (entry : Entry F). entry_of meaning entry) same)
  may_prepare_kept old new (inr (inl prepared)) = inr (prepares_kept prepared.0 old new prepared.1)
  may_prepare_kept old new (inr (inr fails)) =
      inr (readied_kept fails.standing fails.answer old fails.middle new fails.goes_on fails.sees fails.readied)

-- what holds of the entries, place by place, of what is stored of them
pub each_mapped : {B F : Type 0} (meaning : F → End) (R : B → Entry F → Entry F → Type 0) (S : EntryState → EntryState → Type 0) (answers : List B) (xs ys : List (Entry F))
    → ((answer : B) (x y : Entry F) → R answer x y → S (entry_of meaning x) (entry_of meaning y)) → EachBy R answers xs ys
    → Each S (map (entry_of meaning) xs) (map (entry_of meaning) ys)
each_mapped meaning R S answers xs ys so each = record {
  as_long = length-map ys (entry_of meaning) ∙ each.as_long ∙ sym (length-map xs (entry_of meaning));
  each = λ k x y at at'.
      let old = get_before_map (entry_of meaning) xs k x at in
      let new = get_before_map (entry_of meaning) ys k y at' in
      let answer = answered_at R answers xs ys k old.0 each old.1.0 in
      subst (λ (entry : EntryState). S entry y) old.1.1 (subst (λ (entry : EntryState). S (entry_of meaning old.0) entry) new.1.1
      (so answer.0 old.0 new.0 (each.each k answer.0 old.0 new.0 answer.1 old.1.0 new.1.0)));
}

-- a subscription that was not looked at is kept
pub untouched_kept : (next : ℕ) (entry : EntryState) → IsHere entry → IsKept next entry entry
untouched_kept next entry here = by entry.retired refl where
  live : (feed : Option End) → entry.feed ≡ feed → entry.retired ≡ false → IsSome feed → IsKept next entry entry
  live None was goes_on some = cc
  live (Some e) was goes_on some = inr (inl (record {
    before = e;
    after = e;
    live = goes_on;
    was = was;
    became = record { seen = omega arith; over = λ over. over; looks = omega arith; rest = refl };
    now = ap (λ feed. record entry { feed = feed }) was;
  }))

  by : (retired : Bool) → entry.retired ≡ retired → IsKept next entry entry
  by true is = inl (record { retired = is; same = refl })
  by false is = live entry.feed refl is (here is)

-- what a refused round leaves is kept
pub each_may_prepare : {F T : Type 0} (meaning : F → End) (does : F → Call T → F → Type 0) (next : ℕ) (xs ys : List (Entry F))
    → AreHere (map (entry_of meaning) xs)
    → Each (MayPrepare meaning does next) xs ys → Each (IsKept next) (map (entry_of meaning) xs) (map (entry_of meaning) ys)
each_may_prepare meaning does next xs ys here each = record {
  as_long = length-map ys (entry_of meaning) ∙ each.as_long ∙ sym (length-map xs (entry_of meaning));
  each = λ k x y at at'.
      let old = get_before_map (entry_of meaning) xs k x at in
      let new = get_before_map (entry_of meaning) ys k y at' in
      by x y (here k x at) (subst (λ (entry : EntryState). (y ≡ entry) ⊎ IsKept next entry y) old.1.1
      (subst (λ (entry : EntryState). (entry ≡ entry_of meaning old.0) ⊎ IsKept next (entry_of meaning old.0) entry) new.1.1
      (may_prepare_kept meaning does next old.0 new.0 (each.each k old.0 new.0 old.1.0 new.1.0))));
} where
  by : (x y : EntryState) → IsHere x → (y ≡ x) ⊎ IsKept next x y → IsKept next x y
  by x y here (inl same) = subst (λ (entry : EntryState). IsKept next x entry) (sym same) (untouched_kept next x here)
  by x y here (inr kept) = kept

-- subscriptions that were not looked at are kept
pub each_untouched : (next : ℕ) (entries : List EntryState) → AreHere entries → Each (IsKept next) entries entries
each_untouched next entries here = record {
  as_long = refl;
  each = λ k x y at at'. subst (λ (entry : EntryState). IsKept next x entry) (Rattle.publisher_hub.proofs.PartialRounds.Progress.same_some (sym at ∙ at')) (untouched_kept next x (here k x at));
}

-- what the round leaves that prepares all is kept, whatever it answered
pub round_kept : {F T : Type 0} (meaning : F → End) (does : F → Call T → F → Type 0) (next capacity : ℕ) (xs ys : List (Entry F)) (result : Result Room NoMemory) → AreHere (map (entry_of meaning) xs)
    → IfOk result (λ room. (glances : List (Option Standing)) × (EachBy (Prepares meaning does next) glances xs ys × ShowsRoom room capacity xs glances))
    → OnErr result (Each (MayPrepare meaning does next) xs ys) → Each (IsKept next) (map (entry_of meaning) xs) (map (entry_of meaning) ys)
round_kept meaning does next capacity xs ys (Ok room) here ok err =
    each_mapped meaning (Prepares meaning does next) (IsKept next) ok.0 xs ys (prepares_kept meaning does next) ok.1.0
round_kept meaning does next capacity xs ys (Err e) here ok err = each_may_prepare meaning does next xs ys here err
