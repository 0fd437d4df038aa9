-- Lists of signals: their items, and what they contain.
use Rattle.std.proofs.Common.{◌≡◌, ℕ, zero, suc, ◌<◌, Bool, true, false, List, [], ◌∷◌, ◌++◌, map, length, slice_index_or, Contains, Option, None, Some, refl, ap, inl, inr, arith}
use Rattle.std.proofs.lemmas.List.Elements.{Contains-append_cases}
use Rattle.feed_core.specs.Prelude.{Item, Signal, Subscribed, Next, Complete, Error, Fault, How, IsTerminalPart, items_of}
use Rattle.feed_core.specs.PlainTurn.{terminal_of}
use Rattle.feed_core.specs.Sound.{terminal_part, opening}

-- the items of onNexts
pub items_of_nexts : (items : List Item) → items_of (map Next items) ≡ items
items_of_nexts [] = refl
items_of_nexts (item ∷ items) = ap (λ rest. item ∷ rest) (items_of_nexts items)

-- onComplete and onError are terminal signals, the others are not
abbrev pub IsTerminal : Signal → Type 0
IsTerminal Subscribed = ⊥
IsTerminal (Next _) = ⊥
IsTerminal Complete = Unit {0}
IsTerminal (Error _) = Unit {0}

-- no onNext at any place is a terminal signal
open_at : (items : List Item) (s : Signal) (k : ℕ) → IsTerminal s → k < length (map Next items) → slice_index_or (map Next items) k s ≡ s
    → ⊥
open_at [] s k last lt is = omega arith
open_at (item ∷ items) Subscribed zero last lt is = last
open_at (item ∷ items) (Next _) zero last lt is = last
open_at (item ∷ items) Complete zero last lt is = cc
open_at (item ∷ items) (Error _) zero last lt is = cc
open_at (item ∷ items) s (suc k) last lt is = open_at items s k last (omega arith) is

-- no onNext is a terminal signal
pub nexts_open : (items : List Item) (s : Signal) → IsTerminal s → Contains (map Next items) s → ⊥
nexts_open items s last h = open_at items s h.0 last h.1 h.2

-- a list of one element contains no other
pub contains_one : (s x : Signal) → Contains (s ∷ []) x → s ≡ x
contains_one s x h = by h.0 h.1 h.2 where
  by : (k : ℕ) → k < 1 → slice_index_or (s ∷ []) k x ≡ x → s ≡ x
  by zero lt is = is
  by (suc k) lt is = absurd (omega arith)

-- an empty list contains nothing
pub contains_none : (s : Signal) → Contains [] s → ⊥
contains_none s h = let lt : h.0 < 0 = h.1 in omega arith

-- no onSubscribe is a terminal signal
pub opening_open : (begun : Bool) (s : Signal) → IsTerminal s → Contains (opening begun) s → ⊥
opening_open false s last h = contains_none s h
opening_open true Subscribed last h = last
opening_open true (Next _) last h = last
opening_open true Complete last h = let e = contains_one Subscribed Complete h in cc
opening_open true (Error f) last h = let e = contains_one Subscribed (Error f) h in cc

-- a terminal signal is in a list only as its last one
pub terminal_last : (begun : Bool) (items : List Item) (ending : List Signal) (s : Signal) → IsTerminal s
    → Contains (opening begun ++ (map Next items ++ ending)) s → Contains ending s
terminal_last begun items ending s last h =
    elim (Contains-append_cases (opening begun) (map Next items ++ ending) s h) [
      | inl first ↦ absurd (opening_open begun s last first)
      | inr later ↦ elim (Contains-append_cases (map Next items) ending s later) [
        | inl inside ↦ absurd (nexts_open items s last inside)
        | inr ends ↦ ends
      ]
    ]

-- onComplete is the terminal signal of a completed subscription alone
pub complete_last : (how : How) → Contains (terminal_of how) Complete → how ≡ How.Completed
complete_last How.Completed h = refl
complete_last (How.Errored f) h = let e = contains_one (Error f) Complete h in cc
complete_last How.Cancelled h = absurd (contains_none Complete h)
complete_last (How.Failed _) h = absurd (contains_none Complete h)
complete_last How.OutOfMemory h = absurd (contains_none Complete h)

-- onError is the terminal signal of a subscription that ended with that error alone
pub error_last : (how : How) (fault : Fault) → Contains (terminal_of how) (Error fault) → how ≡ How.Errored fault
error_last How.Completed fault h = let e = contains_one Complete (Error fault) h in cc
error_last (How.Errored f) fault h = let e = contains_one (Error f) (Error fault) h in cc
error_last How.Cancelled fault h = absurd (contains_none (Error fault) h)
error_last (How.Failed _) fault h = absurd (contains_none (Error fault) h)
error_last How.OutOfMemory fault h = absurd (contains_none (Error fault) h)

-- onComplete is the terminal signal of a completed lane alone
pub complete_ending : (how : Option How) → Contains (terminal_part how) Complete → how ≡ Some How.Completed
complete_ending None h = absurd (contains_none Complete h)
complete_ending (Some how) h = ap Some (complete_last how h)

pub error_ending : (how : Option How) (fault : Fault) → Contains (terminal_part how) (Error fault) → how ≡ Some (How.Errored fault)
error_ending None fault h = absurd (contains_none (Error fault) h)
error_ending (Some how) fault h = ap Some (error_last how fault h)

-- the terminal part of a lane is none, one onComplete or one onError
pub is_terminal_part : (how : Option How) → IsTerminalPart (terminal_part how)
is_terminal_part None = inl refl
is_terminal_part (Some How.Completed) = inr (inl refl)
is_terminal_part (Some (How.Errored fault)) = inr (inr (fault, refl))
is_terminal_part (Some How.Cancelled) = inl refl
is_terminal_part (Some (How.Failed _)) = inl refl
is_terminal_part (Some How.OutOfMemory) = inl refl
