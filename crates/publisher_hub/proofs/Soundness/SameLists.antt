-- Subscriptions whose accepted items are those that they had before.
use Rattle.std.proofs.Common.{◌≡◌, ℕ, ◌<◌, false, Some, List, sym, subst}
use Rattle.std.specs.Prelude.{slice_get}
use Rattle.flow_rules.specs.Feed.{End}
use Rattle.flow_rules.specs.declared.item.Item.{Item}
use Rattle.publisher_hub.specs.Entry.{EntryState}
use Rattle.publisher_hub.specs.Lists.{Each}
use Rattle.publisher_hub.specs.Sound.{AreAgreed, AreLive, IsAccepted}
use Rattle.publisher_hub.proofs.AnswerLists.Places.{stood_at}

-- what a subscription that became another has accepted it had accepted before
abbrev pub KeepsLists : (EntryState → EntryState → Type 0) → Type 0
KeepsLists R =
    (old new : EntryState) (f : End) → R old new → new.feed ≡ Some f → (e : End) × (old.feed ≡ Some e) × (f.accepted ≡ e.accepted)

-- a subscription that isn't retired was not before
abbrev pub RetiresNoLess : (EntryState → EntryState → Type 0) → Type 0
RetiresNoLess R = (old new : EntryState) → R old new → new.retired ≡ false → old.retired ≡ false

module _ (R : EntryState → EntryState → Type 0) (xs ys : List EntryState) (each : Each R xs ys) where
  -- an item that is accepted was accepted before
  pub accepted_before : KeepsLists R → (x : Item) → IsAccepted ys x → IsAccepted xs x
  accepted_before keeps x is =
      let stood = stood_at R xs ys is.number is.entry each is.stands in
      let before = keeps stood.entry is.entry is.feed stood.became is.end_of in
      record {
        number = is.number;
        place = is.place;
        entry = stood.entry;
        feed = before.0;
        stands = stood.at;
        end_of = before.1;
        item = subst (λ (items : List Item). slice_get items is.place ≡ Some x) before.2 is.item;
      }

  -- items with the same serial number still are the same item
  pub agreed_same : KeepsLists R → AreAgreed xs → AreAgreed ys
  agreed_same keeps agreed x y a b same = agreed x y (accepted_before keeps x a) (accepted_before keeps y b) same

  -- the numbers of those that may be live still cover those that are
  pub live_same : RetiresNoLess R → (live : List ℕ) → AreLive live xs → AreLive live ys
  live_same goes_on live are = record {
    numbers = record {
      rising = are.numbers.rising;
      within = λ i n at. subst (λ many. n < many) (sym each.as_long) (are.numbers.within i n at);
    };
    covers = λ k entry at lives. let stood = stood_at R xs ys k entry each at in are.covers k stood.entry stood.at (goes_on stood.entry entry stood.became lives);
  }
