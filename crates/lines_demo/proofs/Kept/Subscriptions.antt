-- What each subscription of a script keeps, whatever is done to it.
use Rattle.std.proofs.Common.{◌≡◌, ◌==◌, ℕ, ◌+◌, ◌<◌, ◌≤◌, Bool, true, false, not, ◌&&◌, ◌||◌, if◌then◌else◌, List, [], ◌∷◌, ◌++◌, length, refl, sym, ap, subst, ◌∙◌, length-append, arith, Option, Some, None}
use Rattle.std.specs.Prelude.{All, is_some, is_none}
use Rattle.std.proofs.lemmas.List.Elements.{All-nil, All-push, All-weaker}
use Rattle.std.proofs.lemmas.List.Quantifiers.{all_pairs_push}
use Rattle.feed_core.specs.Desk.{desk_after_signal, desk_after_duplicate}
use Rattle.feed_core.specs.LaneCalls.{lane_with_item, lane_with_closing}
use Rattle.feed_core.specs.PlainTurn.{plain_turn_of}
use Rattle.feed_core.specs.Turn.{MeetsPlainTurn, how_after, causes_after}
use Rattle.feed_core.proofs.Desks.Sound.{sound_new_desk, sound_desk_put, sound_desk_demand, sound_desk_end, sound_desk_duplicate, sound_desk_turn}
use Rattle.lines_demo.specs.Prelude.{Item, Signal, Ending, ErrorOrder, How, Outlook, desk_after_demand, desk_after_end, is_gone, lag_of}
use Rattle.lines_demo.specs.Script.State.{SubscriptionState, SessionState}
use Rattle.lines_demo.specs.Script.Subscribing.{desk_at_start, desk_at_subscribing, new_subscription}
use Rattle.lines_demo.specs.Script.Publishing.{subscription_after_offer}
use Rattle.lines_demo.specs.Script.Obeying.{desk_after_act, subscription_after_closing}
use Rattle.lines_demo.specs.Script.Running.{subscription_after_turn}
use Rattle.lines_demo.specs.Script.Kept.{IsPublished, IsKept}
use Rattle.lines_demo.specs.Script.Laws.{SerialsRise}
use Rattle.feed_core.specs.Sound.{IsSoundDesk}
use Rattle.lines_demo.specs.declared.script.session.acting.Act.{Act}
use Rattle.lines_demo.proofs.Sessions.Acts.{act_sound, by_act}
use Rattle.lines_demo.proofs.Woken.Lists.{same_test, other_test}

-- ---- acts and duplicates

pub kept_act : (texts : ℕ → List ℕ) (next : ℕ) (order : ErrorOrder) (closed : Option Ending) (s : SubscriptionState) (act : Act)
    → IsKept texts next order closed s
    → IsKept texts next order closed (record s { desk = desk_after_act act s.desk })
kept_act texts next order closed s act kept =
    by_act act s.desk (λ desk. IsSoundDesk desk → IsKept texts next order closed (record s { desk = desk })) (λ asked requested cancel argument started badly cancelled goes_on sound.
    record { sound = sound; rise = kept.rise; published = kept.published; most = kept.most; all = kept.all; closing = kept.closing; ordered = kept.ordered }) (act_sound act s.desk kept.sound)

pub kept_duplicate : (texts : ℕ → List ℕ) (next : ℕ) (order : ErrorOrder) (closed : Option Ending) (s : SubscriptionState)
    → IsKept texts next order closed s
    → IsKept texts next order closed (record s { desk = desk_after_duplicate s.desk })
kept_duplicate texts next order closed s kept =
    record { sound = sound_desk_duplicate s.desk kept.sound; rise = kept.rise; published = kept.published; most = kept.most; all = kept.all; closing = kept.closing; ordered = kept.ordered }

-- ---- closing

pub kept_closing : (texts : ℕ → List ℕ) (next : ℕ) (order : ErrorOrder) (ending : Ending) (s : SubscriptionState)
    → IsKept texts next order None s
    → IsKept texts next order (Some ending) (subscription_after_closing ending s)
kept_closing texts next order ending s kept = by s.desk.lane.how refl where
  unclosed : (closing : Option Ending) → s.desk.lane.causes.closing ≡ closing → closing ≡ None → s.desk.lane.how ≡ None
      → IsKept texts next order (Some ending) (record s { desk = if is_some closing then s.desk else desk_after_signal s.desk (lane_with_closing ending s.desk.lane) })
  unclosed (Some other) is none live = cc
  unclosed None is none live = record {
    sound = closed_sound;
    rise = kept.rise;
    published = kept.published;
    most = kept.most;
    all = kept.all;
    closing = λ e. refl;
    ordered = kept.ordered;
  } where
    closed_sound : IsSoundDesk (desk_after_signal s.desk (lane_with_closing ending s.desk.lane))
    closed_sound = subst (λ closing. IsSoundDesk (if is_some closing then s.desk else desk_after_signal s.desk (lane_with_closing ending s.desk.lane))) is (sound_desk_end s.desk ending kept.sound)

  by : (how : Option How) → s.desk.lane.how ≡ how
      → IsKept texts next order (Some ending) (if is_none how then record s { desk = desk_after_end ending s.desk } else s)
  by None live = unclosed s.desk.lane.causes.closing refl (kept.closing live) live
  by (Some how) ended = record {
    sound = kept.sound;
    rise = kept.rise;
    published = kept.published;
    most = kept.most;
    all = λ live. (let never : Some how ≡ None = sym ended ∙ live in cc);
    closing = λ live. (let never : Some how ≡ None = sym ended ∙ live in cc);
    ordered = kept.ordered;
  }

-- ---- publications

-- the texts, with this one published next
abbrev pub texts_with : ℕ → List ℕ → (ℕ → List ℕ) → ℕ → List ℕ
texts_with next text texts serial = if serial == next then text else texts serial

-- what was published stays so
published_later : (texts : ℕ → List ℕ) (first next : ℕ) (text : List ℕ) (item : Item) → IsPublished texts first next item
    → IsPublished (texts_with next text texts) first (next + 1) item
published_later texts first next text item was =
    let below : item.serial < next = was.before in
    let other : (item.serial == next) ≡ false = other_test item.serial next (λ same. omega arith) in
    let build : List ℕ → Item = λ t. record { source = 0; seq = item.serial; serial = item.serial; text = t } in
    record {
      is = was.is ∙ ap (λ b. build (if b then text else texts item.serial)) (sym other);
      since = was.since;
      before = omega arith;
    }

-- the next item is published
published_now : (texts : ℕ → List ℕ) (first next : ℕ) (text : List ℕ) → first ≤ next
    → IsPublished (texts_with next text texts) first (next + 1) (record { source = 0; seq = next; serial = next; text = text })
published_now texts first next text low =
    let build : List ℕ → Item = λ t. record { source = 0; seq = next; serial = next; text = t } in
    record {
      is = ap (λ b. build (if b then text else texts next)) (sym (same_test next next refl));
      since = low;
      before = omega arith;
    }

-- so the serial numbers rise with it
rise_more : (texts : ℕ → List ℕ) (first next : ℕ) (text : List ℕ) (items : List Item) → SerialsRise items
    → All (IsPublished texts first next) items
    → SerialsRise (items ++ (record { source = 0; seq = next; serial = next; text = text }) ∷ [])
rise_more texts first next text items rise published =
    all_pairs_push (λ item later. item.serial < later.serial) items (record { source = 0; seq = next; serial = next; text = text }) rise (λ k d within. (published k d within).before)

pub kept_offer : (texts : ℕ → List ℕ) (next : ℕ) (order : ErrorOrder) (text : List ℕ) (s : SubscriptionState)
    → IsKept texts next order None s
    → IsKept (texts_with next text texts) (next + 1) order None (subscription_after_offer (record { source = 0; seq = next; serial = next; text = text }) s)
kept_offer texts next order text s kept = by (is_gone s.desk.lane) (lag_of s.desk.lane == s.desk.capacity) refl refl where
  item : Item
  item = record { source = 0; seq = next; serial = next; text = text }

  later : All (IsPublished (texts_with next text texts) s.since (next + 1)) s.desk.lane.accepted
  later = All-weaker (IsPublished texts s.since next) (IsPublished (texts_with next text texts) s.since (next + 1)) (published_later texts s.since next text) s.desk.lane.accepted kept.published

  -- one that takes no more items was closed with its publisher, or has ended
  ended : is_gone s.desk.lane ≡ true → s.desk.lane.how ≡ None → ⊥
  ended gone live =
      let never : false ≡ true = sym (ap (λ (how : Option How). is_some how || is_some s.desk.lane.causes.closing) live ∙ ap is_some (kept.closing live)) ∙ gone in cc

  by : (gone full : Bool) → is_gone s.desk.lane ≡ gone → (lag_of s.desk.lane == s.desk.capacity) ≡ full
      → IsKept (texts_with next text texts) (next + 1) order None (record s {
        dropped = if not gone && full then s.dropped + 1 else s.dropped;
        desk = if not gone && not full then desk_after_signal s.desk (lane_with_item item s.desk.lane) else s.desk;
      })
  by true full g f = record {
    sound = kept.sound;
    rise = kept.rise;
    published = later;
    most = (let most = kept.most in omega arith);
    all = λ live. absurd (ended g live);
    closing = kept.closing;
    ordered = kept.ordered;
  }
  by false true g f = record {
    sound = kept.sound;
    rise = kept.rise;
    published = later;
    most = (let most = kept.most in omega arith);
    all = λ live. (let all = kept.all live in omega arith);
    closing = kept.closing;
    ordered = kept.ordered;
  }
  by false false g f = record {
    sound = taken;
    rise = rise_more texts s.since next text s.desk.lane.accepted kept.rise kept.published;
    published = All-push (IsPublished (texts_with next text texts) s.since (next + 1)) s.desk.lane.accepted item later (published_now texts s.since next text (let most = kept.most in omega arith));
    most = (let most = kept.most in omega (arith, grown));
    all = λ live. (let all = kept.all live in omega (arith, grown));
    closing = kept.closing;
    ordered = kept.ordered;
  } where
    grown : length (s.desk.lane.accepted ++ item ∷ []) ≡ length s.desk.lane.accepted + 1
    grown = length-append s.desk.lane.accepted (item ∷ [])

    taken : IsSoundDesk (desk_after_signal s.desk (lane_with_item item s.desk.lane))
    taken =
        subst (λ gone. IsSoundDesk (if not gone && not false then desk_after_signal s.desk (lane_with_item item s.desk.lane) else s.desk)) g
        (subst (λ full. IsSoundDesk (if not (is_gone s.desk.lane) && not full then desk_after_signal s.desk (lane_with_item item s.desk.lane) else s.desk)) f (sound_desk_put s.desk item kept.sound))

-- ---- new subscriptions

pub kept_new : (texts : ℕ → List ℕ) (state : SessionState) (name : List ℕ) (number : ℕ)
    → IsKept texts state.serial state.beginning.order state.closing (new_subscription state name number)
kept_new texts state name number = by state.closing where
  order : ErrorOrder
  order = state.beginning.order

  fresh : IsSoundDesk (desk_at_start order state.capacity)
  fresh = sound_new_desk order state.capacity true true 0 refl

  by : (closing : Option Ending)
      → IsKept texts state.serial order closing (record { name = name; since = state.serial; dropped = 0; desk = desk_after_demand number (desk_at_subscribing closing order state.capacity) })
  by None = record {
    sound = sound_desk_demand (desk_at_start order state.capacity) number fresh;
    rise = λ i j d less within. absurd (omega arith);
    published = All-nil (IsPublished texts state.serial state.serial);
    most = omega arith;
    all = λ live. omega arith;
    closing = λ live. refl;
    ordered = refl;
  }
  by (Some ending) = record {
    sound = sound_desk_demand (desk_after_end ending (desk_at_start order state.capacity)) number (sound_desk_end (desk_at_start order state.capacity) ending fresh);
    rise = λ i j d less within. absurd (omega arith);
    published = All-nil (IsPublished texts state.serial state.serial);
    most = omega arith;
    all = λ live. omega arith;
    closing = λ live. refl;
    ordered = refl;
  }

-- ---- turns

pub kept_turn : (texts : ℕ → List ℕ) (next : ℕ) (order : ErrorOrder) (closed : Option Ending) (s : SubscriptionState) (told : List Signal) (outlook : Outlook) → IsKept texts next order closed s → s.desk.lane.how ≡ None
    → MeetsPlainTurn (plain_turn_of s.desk.lane) told outlook → IsKept texts next order closed (subscription_after_turn told outlook s)
kept_turn texts next order closed s told outlook kept live meets = record {
  sound = sound_desk_turn s.desk told outlook kept.sound live meets;
  rise = kept.rise;
  published = kept.published;
  most = kept.most;
  all = λ still. kept.all live;
  closing = closing outlook;
  ordered = ordered outlook ∙ kept.ordered;
} where
  closing : (o : Outlook) → how_after o ≡ None → (causes_after o s.desk.lane.causes).closing ≡ closed
  closing Outlook.Again still = kept.closing live
  closing Outlook.Resting still = kept.closing live
  closing (Outlook.Ended how) still = cc

  ordered : (o : Outlook) → (causes_after o s.desk.lane.causes).order ≡ s.desk.lane.causes.order
  ordered Outlook.Again = refl
  ordered Outlook.Resting = refl
  ordered (Outlook.Ended How.Completed) = refl
  ordered (Outlook.Ended (How.Errored fault)) = refl
  ordered (Outlook.Ended How.Cancelled) = refl
  ordered (Outlook.Ended (How.Failed code)) = refl
  ordered (Outlook.Ended How.OutOfMemory) = refl
