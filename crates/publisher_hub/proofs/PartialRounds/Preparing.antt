-- The round that looks at the live subscriptions and makes them ready, as far as it has come.
use Rattle.std.proofs.Common.{◌≡◌, ℕ, ◌+◌, true, Option, None, Some, List, ◌++◌, length, get_or, replicate, set, refl, inl, inr, arith}
use Rattle.std.specs.Prelude.{slice_get}
use Rattle.std.proofs.lemmas.List.{length-set}
use Rattle.std.proofs.lemmas.Option.{slice_get-get_or, slice_get_within}
use Rattle.flow_rules.specs.Call.{Call}
use Rattle.flow_rules.specs.Feed.{End}
use Rattle.flow_rules.specs.declared.feed.standing.Standing.{Standing}
use Rattle.flow_rules.specs.declared.item.TheConstants.{MOST_PUBLICATIONS}
use Rattle.publisher_hub.specs.Lists.{Each}
use Rattle.publisher_hub.specs.Looking.{FailsToPrepare, MayPrepare, Prepares, ShowsRoom, full, full_by, room_by, rooms}
use Rattle.publisher_hub.specs.Overview.{CountsRoom}
use Rattle.publisher_hub.specs.Policy.{waits}
use Rattle.publisher_hub.specs.Sound.{AreNumbers}
use Rattle.publisher_hub.specs.declared.entry.Entry.{Entry}
use Rattle.publisher_hub.specs.declared.hub.room.Room.{Room}
use Rattle.publisher_hub.proofs.PartialRounds.Rooms.{room_next, room_none}
use Rattle.publisher_hub.proofs.PartialRounds.Progress.{Upto, gather_next, upto_each, upto_next, upto_none}

module _ {F T : Type 0} (meaning : F → End) (does : F → Call T → F → Type 0) (next capacity : ℕ) (live : List ℕ) where
  pub record IsPreparing (n : ℕ) (room : Room) (xs ys : List (Entry F)) : Type 0 where
    pub glances : List (Option Standing)
    pub upto : Upto (Prepares meaning does next) None live n glances xs ys
    pub shows : ShowsRoom room capacity xs glances

  -- at first nothing is done
  pub preparing_none : (xs : List (Entry F)) → IsPreparing 0 (record { everywhere = true; for_waiters = true; least = MOST_PUBLICATIONS }) xs xs
  preparing_none xs = record {
    glances = replicate (length xs) None;
    upto = upto_none (Prepares meaning does next) None live xs;
    shows = room_none capacity xs;
  }

  -- the next subscription was looked at
  pub preparing_next : (n k : ℕ) (room after : Room) (xs ys : List (Entry F)) (glance : Option Standing) (x y : Entry F)
      → AreNumbers live (length xs) → slice_get live n ≡ Some k
      → slice_get xs k ≡ Some x → Prepares meaning does next glance x y
      → CountsRoom capacity (waits x.on_full) glance room after → IsPreparing n room xs ys
      → IsPreparing (n + 1) after xs (set ys k y)
  preparing_next n k room after xs ys glance x y numbers number at became counts so_far = record {
    glances = set so_far.glances k glance;
    upto = upto_next (Prepares meaning does next) None live n k so_far.glances xs ys glance x y numbers number at became so_far.upto;
    shows = room_next capacity k room after xs x glance so_far.glances (set so_far.glances k glance) at gathered more counts so_far.shows;
  } where
    gathered : full capacity (set so_far.glances k glance) ≡ full capacity so_far.glances ++ full_by capacity k glance
    gathered =
        gather_next (full_by capacity) (Prepares meaning does next) None live n k so_far.glances xs ys glance (λ p. refl) numbers number so_far.upto

    more : rooms capacity (set so_far.glances k glance) ≡ rooms capacity so_far.glances ++ room_by capacity k glance
    more =
        gather_next (room_by capacity) (Prepares meaning does next) None live n k so_far.glances xs ys glance (λ p. refl) numbers number so_far.upto

  -- if a subscription can't be prepared, some were looked at
  pub stopped : (n k : ℕ) (room : Room) (xs ys : List (Entry F)) (x y : Entry F) → AreNumbers live (length xs) → slice_get live n ≡ Some k
      → slice_get xs k ≡ Some x → FailsToPrepare meaning does next x y → IsPreparing n room xs ys
      → Each (MayPrepare meaning does next) xs (set ys k y)
  stopped n k room xs ys x y numbers number at fails so_far =
      let some : Upto (λ _. MayPrepare meaning does next) None live n so_far.glances xs ys = record {
        answered = so_far.upto.answered;
        as_long = so_far.upto.as_long;
        done = λ i m glance old new before at at' at'' at'''. inr (inl (glance, so_far.upto.done i m glance old new before at at' at'' at'''));
        rest = so_far.upto.rest;
        quiets = so_far.upto.quiets;
      } in
      let all =
      upto_next (λ _. MayPrepare meaning does next) None live n k so_far.glances xs ys None x y numbers number at (inr (inr fails)) some in
      let each =
      upto_each (λ _. MayPrepare meaning does next) None live (n + 1) (set so_far.glances k None) xs (set ys k y) (λ _ _ _ _. inl refl) all in
      record { as_long = each.as_long; each = λ m old new at at'. each.each m (get_or (set so_far.glances k None) m None) old new (said m old at) at at' } where
        said : (m : ℕ) (old : Entry F) → slice_get xs m ≡ Some old
            → slice_get (set so_far.glances k None) m ≡ Some (get_or (set so_far.glances k None) m None)
        said m old at =
            let within = slice_get_within xs m old at in
            let answered = so_far.upto.answered in
            let many : length (set so_far.glances k None) ≡ length so_far.glances = length-set so_far.glances k None in
            slice_get-get_or (set so_far.glances k None) m None (omega arith)
