-- The round that closes the live subscriptions, as far as it has come.
use Rattle.std.proofs.Common.{◌≡◌, ℕ, ◌+◌, ◌≤◌, Some, List, ◌++◌, append_assoc, length, replicate, set, refl, ap, sym, ◌∙◌, arith}
use Rattle.std.specs.Prelude.{Vec, slice_get, vec_len}
use Rattle.std.specs.Vec.{vec_capacity}
use Rattle.std.proofs.lemmas.List.{append-nil}
use Rattle.std.specs.declared.alloc.Global.{Global}
use Rattle.flow_rules.specs.Call.{Call}
use Rattle.flow_rules.specs.Feed.{End}
use Rattle.flow_rules.specs.declared.ending.Ending.{Ending}
use Rattle.publisher_hub.specs.Closing.{Closes, started_by_end, started_by_ends}
use Rattle.publisher_hub.specs.Sound.{AreNumbers}
use Rattle.publisher_hub.specs.declared.entry.AtClose.{AtClose}
use Rattle.publisher_hub.specs.declared.entry.Entry.{Entry}
use Rattle.publisher_hub.specs.declared.work.Work.{Work}
use Rattle.publisher_hub.proofs.PartialRounds.Progress.{Upto, gather_next, gather_none, upto_next, upto_none}

module _ {F T : Type 0} (meaning : F → End) (does : F → Call T → F → Type 0) (ending : Ending) (live : List ℕ) where
  pub record IsClosing (n : ℕ) (xs ys : List (Entry F)) (due_old due_new : Vec (Work T) Global) : Type 0 where
    pub answers : List (AtClose T)
    pub upto : Upto (Closes meaning does ending) AtClose.Retired live n answers xs ys
    pub due : due_new.items ≡ due_old.items ++ started_by_ends answers
    pub room : vec_len due_new + length live ≤ vec_capacity due_new + n

  -- at first none is closed
  pub closing_none : (xs : List (Entry F)) (due : Vec (Work T) Global) → vec_len due + length live ≤ vec_capacity due
      → IsClosing 0 xs xs due due
  closing_none xs due room = record {
    answers = replicate (length xs) AtClose.Retired;
    upto = upto_none (Closes meaning does ending) AtClose.Retired live xs;
    due = sym (append-nil due.items)
        ∙ ap (λ works. due.items ++ works) (sym (gather_none {C = Work T} started_by_end AtClose.Retired (length xs) (λ p. refl)));
    room = omega arith;
  }

  -- the next subscription is closed
  pub closing_next : (n k : ℕ) (xs ys : List (Entry F)) (answer : AtClose T) (x y : Entry F) (due_old due_before due_after : Vec (Work T) Global) → AreNumbers live (length xs)
      → slice_get live n ≡ Some k → slice_get xs k ≡ Some x → Closes meaning does ending answer x y
      → due_after.items ≡ due_before.items ++ started_by_end k answer
      → vec_len due_after ≤ vec_len due_before + 1 → vec_capacity due_after ≡ vec_capacity due_before → IsClosing n xs ys due_old due_before
      → IsClosing (n + 1) xs (set ys k y) due_old due_after
  closing_next n k xs ys answer x y due_old due_before due_after numbers number at closes due len capacity so_far =
      let answers = so_far.answers in
      let upto = so_far.upto in
      let before = so_far.due in
      let room = so_far.room in
      record {
        answers = set answers k answer;
        upto = upto_next (Closes meaning does ending) AtClose.Retired live n k answers xs ys answer x y numbers number at closes upto;
        due = rw (due, before, gather_next started_by_end (Closes meaning does ending) AtClose.Retired live n k answers xs ys answer (λ p. refl) numbers number upto)
            (append_assoc due_old.items (started_by_ends answers) (started_by_end k answer));
        room = omega arith;
      }
