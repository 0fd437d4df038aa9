-- The round that looks at the live subscriptions, as far as it has come.
use Rattle.std.proofs.Common.{◌≡◌, ℕ, ◌+◌, ◌≤◌, true, Option, None, Some, List, ◌++◌, length, replicate, set, refl, ap, sym, ◌∙◌, arith}
use Rattle.std.specs.Prelude.{max, fold, slice_get}
use Rattle.std.proofs.lemmas.List.{length-append}
use Rattle.std.proofs.lemmas.List.Sums.{fold-append}
use Rattle.flow_rules.specs.Call.{Call}
use Rattle.flow_rules.specs.Feed.{End}
use Rattle.flow_rules.specs.declared.feed.standing.Standing.{Standing}
use Rattle.flow_rules.specs.declared.item.TheConstants.{MOST_PUBLICATIONS}
use Rattle.publisher_hub.specs.Lists.{greatest}
use Rattle.publisher_hub.specs.Looking.{Glances, full, full_by, living, living_by, room_by, rooms, waiting, waiting_by}
use Rattle.publisher_hub.specs.Overview.{CountsLook, Shows}
use Rattle.publisher_hub.specs.Policy.{waits}
use Rattle.publisher_hub.specs.Sound.{AreNumbers}
use Rattle.publisher_hub.specs.declared.entry.Entry.{Entry}
use Rattle.publisher_hub.specs.declared.hub.look.Overview.{Overview}
use Rattle.publisher_hub.proofs.PartialRounds.Rooms.{room_next, room_none}
use Rattle.publisher_hub.proofs.PartialRounds.Progress.{Upto, gather_next, gather_none, upto_next, upto_none}

module _ {F T : Type 0} (meaning : F → End) (does : F → Call T → F → Type 0) (next capacity : ℕ) (live : List ℕ) where
  pub record IsLooking (n : ℕ) (overview : Overview) (xs ys : List (Entry F)) : Type 0 where
    pub glances : List (Option Standing)
    pub upto : Upto (Glances meaning does next) None live n glances xs ys
    pub shows : Shows capacity xs glances overview
    pub few : overview.living ≤ n

  -- at first nothing is done
  pub looking_none : (xs : List (Entry F)) → IsLooking 0 (record { living = 0; most_waiting = 0; room = record { everywhere = true; for_waiters = true; least = MOST_PUBLICATIONS } }) xs xs
  looking_none xs = record {
    glances = replicate (length xs) None;
    upto = upto_none (Glances meaning does next) None live xs;
    shows = record {
      living = sym (ap length (gather_none living_by None (length xs) (λ p. refl)));
      most_waiting = sym (ap greatest (gather_none waiting_by None (length xs) (λ p. refl)));
      room = room_none capacity xs;
    };
    few = omega arith;
  }

  -- the next subscription was looked at
  pub looking_next : (n k : ℕ) (old new : Overview) (xs ys : List (Entry F)) (glance : Option Standing) (x y : Entry F)
      → AreNumbers live (length xs) → slice_get live n ≡ Some k
      → slice_get xs k ≡ Some x → Glances meaning does next glance x y → CountsLook capacity (waits x.on_full) glance old new → IsLooking n old xs ys
      → IsLooking (n + 1) new xs (set ys k y)
  looking_next n k old new xs ys glance x y numbers number at became counts so_far = record {
    glances = set so_far.glances k glance;
    upto = upto_next (Glances meaning does next) None live n k so_far.glances xs ys glance x y numbers number at became so_far.upto;
    shows = record {
      living = counts.living k ∙ ap (λ m. m + length (living_by k glance)) so_far.shows.living
          ∙ sym (length-append (living so_far.glances) (living_by k glance)) ∙ sym (ap length lives);
      most_waiting = counts.most_waiting k ∙ ap (λ m. fold max m (waiting_by k glance)) so_far.shows.most_waiting
          ∙ sym (fold-append max 0 (waiting so_far.glances) (waiting_by k glance)) ∙ sym (ap greatest waits);
      room = room_next capacity k old.room new.room xs x glance so_far.glances (set so_far.glances k glance) at is_full more counts.room so_far.shows.room;
    };
    few = let few = so_far.few in let few' = counts.few in omega arith;
  } where
    lives : living (set so_far.glances k glance) ≡ living so_far.glances ++ living_by k glance
    lives =
        gather_next living_by (Glances meaning does next) None live n k so_far.glances xs ys glance (λ p. refl) numbers number so_far.upto

    waits : waiting (set so_far.glances k glance) ≡ waiting so_far.glances ++ waiting_by k glance
    waits =
        gather_next waiting_by (Glances meaning does next) None live n k so_far.glances xs ys glance (λ p. refl) numbers number so_far.upto

    is_full : full capacity (set so_far.glances k glance) ≡ full capacity so_far.glances ++ full_by capacity k glance
    is_full =
        gather_next (full_by capacity) (Glances meaning does next) None live n k so_far.glances xs ys glance (λ p. refl) numbers number so_far.upto

    more : rooms capacity (set so_far.glances k glance) ≡ rooms capacity so_far.glances ++ room_by capacity k glance
    more =
        gather_next (room_by capacity) (Glances meaning does next) None live n k so_far.glances xs ys glance (λ p. refl) numbers number so_far.upto
