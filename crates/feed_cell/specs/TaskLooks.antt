-- What the task does after a look.
use Rattle.std.specs.Prelude.{◌≡◌, ℕ, Option, Some, None, ◌+◌, ◌≤◌, ◌⊎◌, false, List, [], ◌∷◌, ◌++◌, length}
use Rattle.std.specs.Int.{bit_at}
use Rattle.feed_core.specs.Answered.{own_by, causes_by}
use Rattle.feed_core.specs.AnsweredTurn.{Reply}
use Rattle.feed_core.specs.Cause.{IsNoFailure}
use Rattle.feed_core.specs.Prelude.{ErrorOrder, How, Item, Signal, Next}
use Rattle.feed_core.specs.Seen.{SeenState, seen_with}
use Rattle.feed_core.specs.Turn.{EndsInObeyed}
use Rattle.feed_core.specs.World.Table.{HasMeasuredAll, MayEnd}
use Rattle.feed_core.specs.declared.turn.outlook.Outlook.TheVariants.{Resting, Ended}
use Rattle.feed_cell.specs.Types.{Runner, Nobody}
use Rattle.feed_cell.specs.declared.cell.task.looks.Served.{Served}
use Rattle.feed_cell.specs.Cell.{greeted, IsToldAtEnd}
use Rattle.feed_cell.specs.Control.{NEW}
use Rattle.feed_cell.specs.Parties.{IsGoing}
use Rattle.feed_cell.specs.TaskPauses.{told_out, replied_out}
use Rattle.feed_cell.specs.Seats.{SeatOf}
use Rattle.feed_core.specs.Replies.{AllGoOn}
use Rattle.feed_cell.specs.TaskAnswers.{AreRepliesTo, AreShownAt, EndsSo}
use Rattle.feed_cell.specs.TaskSteps.{Carries, HasLeft, IsFound, IsGranted, KeepsOrder, grant_of, EndsThere, FinishesThere, GoesOnThere}
use Rattle.feed_cell.specs.Views.{IsRunner}

-- the last item, if one was taken, and by what, if the answers had requested this many; and the reply to it
abbrev pub IsLastGrant : {B : Type 0} → ℕ → SeatOf B → SeatOf B → List Item → List Reply → Type 0
IsLastGrant own before after took replies =
    ((took ≡ []) × (replies ≡ []) × (after.0.grants ≡ before.0.grants))
    ⊎ ((length took ≡ 1)
    × ((granted : IsGranted own before) × (after.0.grants ≡ before.0.grants ++ grant_of before granted ∷ []))
    × ((reply : Reply) × (replies ≡ reply ∷ [])))

-- the last look, which left this word, found this end, by the word's marks and by what the replies had brought about
abbrev pub IsFoundBy : ErrorOrder → List Reply → How → ℕ → Runner → Type 0
IsFoundBy order replies how word runner = IsFound how runner × AreShownAt word (causes_by order replies) runner

-- if the turn goes on, this holds
abbrev pub OnGoing : Option Served → Type 0 → Type 0
OnGoing None P = P
OnGoing (Some Served.Gave) P = P
OnGoing (Some Served.Rested) P = Unit {0}
OnGoing (Some Served.Missed) P = Unit {0}
OnGoing (Some (Served.Ended how)) P = Unit {0}

module _ {B : Type 0} (replied : B → List Reply) where
  -- what the answers have requested by now
  abbrev pub own_so_far : SeatOf B → ℕ
  own_so_far me = own_by (replied_out replied me.1)

  -- what lies beside the subscriber that is with the task is what it has replied, and each of its replies goes on
  pub record IsNotedOut (me : SeatOf B) : Type 0 where
    pub own : me.0.own ≡ own_so_far me
    pub answers : me.0.answers ≡ causes_by me.0.answers.order (replied_out replied me.1)
    pub all : AllGoOn (replied_out replied me.1)

module _ {B : Type 0} (told : B → List Signal) (replied : B → List Reply) where
  -- it found nothing to do after a peek, and has to look before it may rest
  pub record HasPassed (before after : SeatOf B) : Type 0 where
    pub carries : Carries told after
    pub measured : HasMeasuredAll after.0.runner
    pub taken : after.0.taken ≡ before.0.taken
    pub text : told_out told after.1 ≡ told_out told before.1
    pub replies : replied_out replied after.1 ≡ replied_out replied before.1
    pub misses : after.0.misses ≡ before.0.misses
    pub grants : after.0.grants ≡ before.0.grants
    pub sized : after.0.capacity ≡ before.0.capacity
    pub ordered : after.0.order ≡ before.0.order

  -- it gave this item, and goes on
  pub record GivesItem (before after : SeatOf B) (seen later : SeenState) : Type 0 where
    pub item : Item
    pub granted : IsGranted (own_so_far replied before) before
    pub grants : after.0.grants ≡ before.0.grants ++ grant_of before granted ∷ []
    pub reply : Reply
    pub replies : replied_out replied after.1 ≡ replied_out replied before.1 ++ reply ∷ []
    pub all : AllGoOn (replied_out replied after.1)
    pub going : IsGoing told after
    pub is : IsRunner after.0
    pub none_out : after.0.item ≡ []
    pub taken : after.0.taken ≡ before.0.taken ++ item ∷ []
    pub text : told_out told after.1 ≡ told_out told before.1 ++ Next item ∷ []
    pub saw : later ≡ seen_with (Next item ∷ []) seen
    pub misses : after.0.misses ≡ before.0.misses
    pub sized : after.0.capacity ≡ before.0.capacity
    pub ordered : after.0.order ≡ before.0.order

  -- it could not rest, and goes on
  pub record MissesRest (before after : SeatOf B) : Type 0 where
    pub going : IsGoing told after
    pub is : IsRunner after.0
    pub none_out : after.0.item ≡ []
    pub taken : after.0.taken ≡ before.0.taken
    pub text : told_out told after.1 ≡ told_out told before.1
    pub replies : replied_out replied after.1 ≡ replied_out replied before.1
    pub misses : after.0.misses ≡ before.0.misses + 1
    pub grants : after.0.grants ≡ before.0.grants
    pub sized : after.0.capacity ≡ before.0.capacity
    pub ordered : after.0.order ≡ before.0.order

  -- it rests, and was told all that was taken
  pub record RestsNow (before after : SeatOf B) : Type 0 where
    pub text : told_out told before.1 ≡ greeted before.0.taken
    pub replies : after.0.replied ≡ replied_out replied before.1
    pub taken : after.0.taken ≡ before.0.taken
    pub misses : after.0.misses ≡ before.0.misses
    pub grants : after.0.grants ≡ before.0.grants
    pub ordered : after.0.order ≡ before.0.order
    pub runs : after.0.runs ≡ false
    pub shown : after.0.outlook ≡ Resting
    pub stage : after.0.runner ≡ Nobody

  -- it ended the subscription: these items were taken and these signals told before
  pub record EndsAs (how : How) (before after : SeatOf B) (seen later : SeenState) : Type 0 where
    pub took : List Item
    pub last : List Signal
    pub few : length took ≤ 1
    pub each : List Reply
    pub closing : List Reply
    pub granted : IsLastGrant (own_so_far replied before) before after took each
    pub to_it : AreRepliesTo how how closing
    pub replies : after.0.replied ≡ replied_out replied before.1 ++ (each ++ closing)
    pub ends : EndsSo (Some how) after.0.replied
    pub found : AllGoOn after.0.replied → IsFoundBy before.0.order after.0.replied how after.0.look after.0.runner
    pub text : IsToldAtEnd how (before.0.taken ++ took) (told_out told before.1 ++ last)
    pub saw : later ≡ seen_with last seen
    pub taken : after.0.taken ≡ before.0.taken ++ took
    pub misses : after.0.misses ≡ before.0.misses
    pub ordered : KeepsOrder before.0 after.0
    pub runs : after.0.runs ≡ false
    pub shown : after.0.outlook ≡ Ended how
    pub may : MayEnd how (length after.0.taken) after.0.runner
    pub failed : (code : ℕ) → how ≡ How.Failed code → EndsInObeyed last

  -- what it did after a look, or after some peeks and a look
  abbrev pub Serves : Served → SeatOf B → SeatOf B → SeenState → SeenState → Type 0
  Serves Served.Gave before after seen later = GivesItem before after seen later
  Serves Served.Rested before after seen later = RestsNow before after × (later ≡ seen) × AllGoOn (replied_out replied before.1)
  Serves Served.Missed before after seen later = MissesRest before after × (later ≡ seen) × AllGoOn (replied_out replied before.1)
  Serves (Served.Ended how) before after seen later = EndsAs how before after seen later

  -- what it did after a look or a peek that left this word: it may find nothing to do only after a peek that found
  -- something new
  abbrev pub ServesOnce : ℕ → Option Served → SeatOf B → SeatOf B → SeenState → SeenState → Type 0
  ServesOnce word None before after seen later = (bit_at word NEW ≡ 1) × HasPassed before after × (later ≡ seen)
  ServesOnce word (Some served) before after seen later = Serves served before after seen later

  -- what it did after a peek, or after one of those that it made in the moment after that: it may find nothing to do at
  -- all of them
  abbrev pub ServesSoon : Option Served → SeatOf B → SeatOf B → SeenState → SeenState → Type 0
  ServesSoon None before after seen later = HasPassed before after × (later ≡ seen)
  ServesSoon (Some served) before after seen later = Serves served before after seen later

  -- by the answer of the callback for an item that was taken
  abbrev pub GivesAs : Item → Served → SeatOf B → SeatOf B → SeenState → SeenState → Type 0
  GivesAs item Served.Gave before after seen later = GoesOnThere told replied (Next item) before after seen later
  GivesAs item Served.Rested before after seen later = ⊥
  GivesAs item Served.Missed before after seen later = ⊥
  GivesAs item (Served.Ended how) before after seen later = (ending : SeatOf B)
      × EndsThere told replied (Next item) how before ending seen later × HasLeft replied ending after

  -- by the end that was due
  abbrev pub FinishesAs : How → Served → SeatOf B → SeatOf B → SeenState → SeenState → Type 0
  FinishesAs due (Served.Ended how) before after seen later = (ending : SeatOf B)
      × FinishesThere told replied due how before ending seen later × HasLeft replied ending after
  FinishesAs due _ before after seen later = ⊥

  -- by its rest
  abbrev pub TriesRest : Served → SeatOf B → SeatOf B → Type 0
  TriesRest Served.Rested before after = RestsNow before after
  TriesRest Served.Missed before after = MissesRest before after
  TriesRest _ before after = ⊥

  -- if it is not known that nothing is new, it does not try to
  abbrev pub RestsIfQuiet : ℕ → Option Served → SeatOf B → SeatOf B → Type 0
  RestsIfQuiet word None before after = (bit_at word NEW ≡ 1) × (after ≡ before)
  RestsIfQuiet word (Some served) before after = TriesRest served before after

  -- if there was no item to give
  abbrev pub EndsOrRests : ℕ → Option Served → SeatOf B → SeatOf B → SeenState → SeenState → Type 0
  EndsOrRests word None before after seen later = RestsIfQuiet word None before after × (later ≡ seen)
  EndsOrRests word (Some Served.Gave) before after seen later = ⊥
  EndsOrRests word (Some Served.Rested) before after seen later = TriesRest Served.Rested before after × (later ≡ seen)
  EndsOrRests word (Some Served.Missed) before after seen later = TriesRest Served.Missed before after × (later ≡ seen)
  EndsOrRests word (Some (Served.Ended how)) before after seen later = (due : How)
      × IsNoFailure (Some due)
      × FinishesAs due (Served.Ended how) before after seen later
