-- How the owners' ends of the subscriptions are laid at the places of their numbers.
use Rattle.std.proofs.Common.{◌≡◌, ◌⊎◌, inl, inr, ℕ, zero, suc, ◌<◌, ◌&&◌, Bool, true, false, Option, None, Some, List, [], ◌∷◌, ◌++◌, length, replicate, refl, sym, ap, subst, ◌∙◌}
use Rattle.std.specs.Prelude.{slice_get, slice_set}
use Rattle.std.proofs.lemmas.List.{length-set}
use Rattle.std.proofs.lemmas.Option.{slice_get_within}
use Rattle.publisher_hub.proofs.AnswerLists.Updates.{get_grown, get_there}
use Rattle.publisher_hub.proofs.Soundness.Replacing.{set_or_stood}
use Rattle.publisher.specs.Finding.{AreNone, ArePlaced, IsHandedIn, IsHandedAs}
use Rattle.publisher.specs.Handles.{SubscriptionState}
use Rattle.publisher.proofs.BothEnds.LongerLists.{get_last}

-- new places have no owner
pub none_placed : (n : ℕ) (owners : List (Option SubscriptionState)) → owners ≡ replicate n None → AreNone owners
none_placed n owners is number owner at = by n number (sym (ap (λ hs. slice_get hs number) is) ∙ at) where
  by : (n number : ℕ) → slice_get (replicate n None) number ≡ Some (Some owner) → ⊥
  by zero number at = cc
  by (suc n) zero at = cc
  by (suc n) (suc number) at = by n number at

-- all but the rest of the subscriptions were laid
pub record IsPlacing (subscriptions rest : List SubscriptionState) (owners : List (Option SubscriptionState)) (all : Bool) : Type 0 where
  pub placed : (number : ℕ) (owner : SubscriptionState) → slice_get owners number ≡ Some (Some owner)
      → IsHandedAs subscriptions number owner
  pub empty : (number : ℕ) → slice_get owners number ≡ Some None → IsHandedIn subscriptions number → IsHandedIn rest number
  pub within : all ≡ true → (number : ℕ) → IsHandedIn subscriptions number → IsHandedIn rest number ⊎ (number < length owners)
  pub are : (i : ℕ) (s : SubscriptionState) → slice_get rest i ≡ Some s → slice_get subscriptions i ≡ Some s

-- one that was handed in is one of those before the last, or the last
one_less : (rest : List SubscriptionState) (s : SubscriptionState) (number : ℕ) → IsHandedIn (rest ++ s ∷ []) number
    → IsHandedIn rest number ⊎ (s.entry ≡ number)
one_less rest s number handed = by (get_grown rest s handed.0 handed.1 handed.2.0) where
  by : (slice_get rest handed.0 ≡ Some handed.1) ⊎ ((handed.0 ≡ length rest) × (s ≡ handed.1)) → IsHandedIn rest number ⊎ (s.entry ≡ number)
  by (inl before) = inl (handed.0, handed.1, (before, handed.2.1))
  by (inr last) = inr (ap (λ (u : SubscriptionState). u.entry) last.1 ∙ handed.2.1)

get_before : (rest : List SubscriptionState) (s : SubscriptionState) (i : ℕ) (it : SubscriptionState)
    → slice_get rest i ≡ Some it → slice_get (rest ++ s ∷ []) i ≡ Some it
get_before [] s i it at = cc
get_before (first ∷ rest) s zero it at = at
get_before (first ∷ rest) s (suc i) it at = get_before rest s i it at

module _ (subscriptions : List SubscriptionState) where
  pub placing_none : (owners : List (Option SubscriptionState)) → AreNone owners → IsPlacing subscriptions subscriptions owners true
  placing_none owners none = record {
    placed = λ number owner at. absurd (none number owner at);
    empty = λ number at handed. handed;
    within = λ all number handed. inl handed;
    are = λ i s at. at;
  }

  pub placing_more : (rest : List SubscriptionState) (s : SubscriptionState) (owners : List (Option SubscriptionState))
      (all there : Bool) → IsPlacing subscriptions (rest ++ s ∷ []) owners all → (there ≡ true → s.entry < length owners)
      → IsPlacing subscriptions rest (slice_set owners s.entry (Some s)) (all && there)
  placing_more rest s owners all there is inside = record {
    placed = λ number owner at. placed number owner (set_or_stood owners s.entry (Some s) number (Some owner) at);
    empty = λ number at handed. empty number at handed (set_or_stood owners s.entry (Some s) number None at);
    within = λ both number handed. subst (λ n. IsHandedIn rest number ⊎ (number < n))
        (sym (length-set owners s.entry (Some s))) (within all there is.within inside both number handed);
    are = λ i it at. is.are i it (get_before rest s i it at);
  } where
    placed : (number : ℕ) (owner : SubscriptionState)
        → ((s.entry ≡ number) × (Some s ≡ Some owner)) ⊎ (slice_get owners number ≡ Some (Some owner))
        → IsHandedAs subscriptions number owner
    placed number owner (inl now) = (length rest, s, (is.are (length rest) s (get_last rest s), (now.0, cc)))
    placed number owner (inr before) = is.placed number owner before

    empty : (number : ℕ) → slice_get (slice_set owners s.entry (Some s)) number ≡ Some None
        → IsHandedIn subscriptions number → ((s.entry ≡ number) × (Some s ≡ None)) ⊎
        (slice_get owners number ≡ Some None) → IsHandedIn rest number
    empty number at handed (inl now) = let no = now.1 in cc
    empty number at handed (inr before) = by (one_less rest s number (is.empty number before handed)) where
      by : IsHandedIn rest number ⊎ (s.entry ≡ number) → IsHandedIn rest number
      by (inl rest) = rest
      by (inr same) =
          let set : slice_get (slice_set owners s.entry (Some s)) s.entry ≡ Some (Some s) =
          get_there owners s.entry (Some s)
          (subst (λ n. n < length owners) (sym same) (slice_get_within owners number None before)) in
          let no : Some (Some s) ≡ Some None = sym set ∙ ap (slice_get (slice_set owners s.entry (Some s))) same ∙ at in cc

    within : (a t : Bool) → (a ≡ true → (number : ℕ) → IsHandedIn subscriptions number
        → IsHandedIn (rest ++ s ∷ []) number ⊎ (number < length owners)) → (t ≡ true → s.entry < length owners) → (a && t) ≡ true
        → (number : ℕ) → IsHandedIn subscriptions number → IsHandedIn rest number ⊎ (number < length owners)
    within true true before here both number handed = by (before refl number handed) where
      last : IsHandedIn rest number ⊎ (s.entry ≡ number) → IsHandedIn rest number ⊎ (number < length owners)
      last (inl rest) = inl rest
      last (inr same) = inr (subst (λ n. n < length owners) same (here refl))

      by : IsHandedIn (rest ++ s ∷ []) number ⊎ (number < length owners) → IsHandedIn rest number ⊎ (number < length owners)
      by (inl there) = last (one_less rest s number there)
      by (inr less) = inr less
    within true false before here both number handed = cc
    within false t before here both number handed = cc

  pub placing_all : (owners : List (Option SubscriptionState)) (all : Bool) → IsPlacing subscriptions [] owners all
      → ArePlaced subscriptions owners all
  placing_all owners all is = record {
    placed = is.placed;
    empty = λ number at handed. let no = (is.empty number at handed).2.0 in cc;
    within = λ all number handed. by number (is.within all number handed);
  } where
    by : (number : ℕ) → IsHandedIn [] number ⊎ (number < length owners) → number < length owners
    by number (inl none) = let no = none.2.0 in cc
    by number (inr less) = less
