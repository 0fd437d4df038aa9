-- The items of what was told, as it grows.
use Rattle.std.proofs.Common.{◌≡◌, ℕ, ◌+◌, Option, None, Some, List, [], ◌∷◌, ◌++◌, length, append_assoc, refl, ap, sym, subst, ◌∙◌}
use Rattle.std.proofs.lemmas.List.{append-nil, length-append}
use Rattle.std.specs.Io.KnownBytes.{Appends}
use Rattle.flow_rules.specs.declared.item.Item.{Item}
use Rattle.flow_rules.specs.declared.signal.Fault.{Fault}
use Rattle.flow_rules.specs.declared.signal.Signal.{Signal}
use Rattle.flow_rules.specs.declared.signal.Signal.TheVariants.{Subscribed, Next, Complete, Error}
use Rattle.flow_rules.specs.Printed.{contents_of, numbers_of, printed_lines}
use Rattle.flow_rules.specs.Signals.{items_of}

-- the items of two lists, one after the other
pub items_of_append : (s t : List Signal) → items_of (s ++ t) ≡ items_of s ++ items_of t
items_of_append [] t = refl
items_of_append (Subscribed ∷ s) t = items_of_append s t
items_of_append (Next item ∷ s) t = ap (λ items. item ∷ items) (items_of_append s t)
items_of_append (Complete ∷ s) t = items_of_append s t
items_of_append (Error _ ∷ s) t = items_of_append s t

-- an onNext is one item more
pub one_item_more : (told : List Signal) (item : Item) → length (items_of (told ++ Next item ∷ [])) ≡ length (items_of told) + 1
one_item_more told item = ap length (items_of_append told (Next item ∷ [])) ∙ length-append (items_of told) (item ∷ [])

-- an onSubscribe is no item
pub subscribed_no_item : (told : List Signal) → items_of (told ++ Subscribed ∷ []) ≡ items_of told
subscribed_no_item told = items_of_append told (Subscribed ∷ []) ∙ append-nil (items_of told)

-- an onComplete is no item
pub complete_no_item : (told : List Signal) → items_of (told ++ Complete ∷ []) ≡ items_of told
complete_no_item told = items_of_append told (Complete ∷ []) ∙ append-nil (items_of told)

-- an onError is no item
pub error_no_item : (told : List Signal) (fault : Fault) → items_of (told ++ Error fault ∷ []) ≡ items_of told
error_no_item told fault = items_of_append told (Error fault ∷ []) ∙ append-nil (items_of told)

-- a signal that is no item
pub other_no_item : (told : List Signal) (signal : Signal) → items_of (signal ∷ []) ≡ [] → items_of (told ++ signal ∷ []) ≡ items_of told
other_no_item told signal none = items_of_append told (signal ∷ []) ∙ ap (λ items. items_of told ++ items) none ∙ append-nil (items_of told)

-- the lines of one item more
lines_grow : (told : List Signal) (item : Item) → printed_lines (items_of (told ++ Next item ∷ [])) ≡ printed_lines (items_of told) ++ (item.text ++ 10 ∷ [])
lines_grow told item = ap printed_lines (items_of_append told (Next item ∷ [])) ∙ by (items_of told) where
  by : (items : List Item) → printed_lines (items ++ item ∷ []) ≡ printed_lines items ++ (item.text ++ 10 ∷ [])
  by [] = refl
  by (first ∷ items) = ap (λ rest. first.text ++ (10 ∷ rest)) (by items) ∙ sym (append_assoc first.text (10 ∷ printed_lines items) (item.text ++ 10 ∷ []))

-- what was appended twice was appended
appended_twice : (a b c : Option (List ℕ)) (first second : List ℕ) → Appends a b first → Appends b c second → Appends a c (first ++ second)
appended_twice None b c first second p q = tt
appended_twice (Some x) None c first second p q = absurd p
appended_twice (Some x) (Some y) None first second p q = absurd q
appended_twice (Some x) (Some y) (Some z) first second p q = q ∙ ap (λ bytes. bytes ++ second) p ∙ append_assoc x first second

-- the text of an item was appended, and the item was told
pub printed_more : (told : List Signal) (item : Item) (before now after : Option (List ℕ)) → Appends before now (printed_lines (items_of told))
    → Appends now after (item.text ++ 10 ∷ []) → Appends before after (printed_lines (items_of (told ++ Next item ∷ [])))
printed_more told item before now after printed more =
    subst (λ bytes. Appends before after bytes) (sym (lines_grow told item)) (appended_twice before now after _ _ printed more)

-- a tag keeps what a writer holds
pub contents_kept : (contents : Option (List ℕ)) → contents_of (numbers_of contents) ≡ contents
contents_kept None = refl
contents_kept (Some bytes) = refl
