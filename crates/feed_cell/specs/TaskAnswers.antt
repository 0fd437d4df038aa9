-- What the task brings to its next look, by what a callback answered.
use Rattle.std.specs.Prelude.{◌≡◌, ℕ, ◌⊎◌, zero, pos, negsuc, true, None, Some, Option, List, [], ◌∷◌, ◌++◌}
use Rattle.feed_core.specs.Answered.{own_after, causes_after, end_of, end_on, own_by, causes_by}
use Rattle.feed_core.specs.AnsweredTurn.{Reply, refused, replies_to}
use Rattle.feed_core.specs.Cause.{no_causes_in, with_cause_of}
use Rattle.feed_core.specs.PlainTurn.{terminal_of}
use Rattle.feed_core.specs.Prelude.{Answer, ErrorOrder, How}
use Rattle.feed_core.specs.Replies.{AllGoOn}
use Rattle.feed_cell.specs.Control.{Flags, Reads, causes_of}
use Rattle.feed_cell.specs.Types.{Causes, Runner, Looked, Measured}
use Rattle.feed_cell.specs.declared.cell.Lodger.{Lodger}

-- the causes that the answers have brought about, after one more that goes on: a request of a number that is not
-- positive is one
abbrev pub answers_after : Answer → Causes → Causes
answers_after (Answer.Request (pos zero)) answers = record answers { argument = true }
answers_after (Answer.Request (negsuc n)) answers = record answers { argument = true }
answers_after _ answers = answers

-- what lies beside a subscriber after its answer, which goes on
abbrev pub after_answer : {B : Type 0} → Answer → Lodger B → Lodger B
after_answer answer guest = record guest { own = own_after answer guest.own; answers = answers_after answer guest.answers }

-- and after an end
abbrev pub after_end : {B : Type 0} → How → Lodger B → Lodger B
after_end how guest = record guest { answers = with_cause_of how guest.answers; how = Some how }

-- a subscriber that was told nothing, with what lies beside it: a closing error is told in this order
abbrev pub new_lodger : {B : Type 0} → ErrorOrder → B → Lodger B
new_lodger order subscriber = record { subscriber = subscriber; given = 0; own = 0; answers = no_causes_in order; how = None }

-- of all that a subscriber replied, each goes on but for the last, if that is the end
abbrev pub EndsSo : Option How → List Reply → Type 0
EndsSo None replies = AllGoOn replies
EndsSo (Some how) replies = AllGoOn replies
    ⊎ ((before : List Reply) × (last : Reply) × (replies ≡ before ++ last ∷ []) × AllGoOn before × (end_on last ≡ Some how))

-- the replies to the signal of an end, by the end that was due and the end that it is: one that goes on, if it has a
-- signal; or its callback was refused memory
abbrev pub AreRepliesTo : How → How → List Reply → Type 0
AreRepliesTo due how replies = ((how ≡ due) × (replies ≡ replies_to (terminal_of due)))
    ⊎ ((how ≡ How.OutOfMemory) × (replies ≡ refused ∷ []))

-- the causes that a look showed which left this control word: its marks, which the handle and the publisher have set,
-- and those of the answers
abbrev pub AreShown : ℕ → Causes → Causes → Type 0
AreShown word answers causes = (marks : Flags) × Reads word marks × (causes ≡ causes_of marks answers)

-- those of the last look, by where the task stands
abbrev pub AreShownAt : ℕ → Causes → Runner → Type 0
AreShownAt word answers (Looked causes) = AreShown word answers causes
AreShownAt word answers (Measured causes tail asked) = AreShown word answers causes
AreShownAt word answers _ = ⊥

-- the end, if a reply asks for one
abbrev pub later_end : Option How → Option How → Option How
later_end None how = how
later_end (Some end) how = Some end

-- what lies beside a subscriber is what it has replied: what that requests, the causes that it brings about, and the
-- end
pub record IsNoted {B : Type 0} (replied : B → List Reply) (guest : Lodger B) : Type 0 where
  pub own : guest.own ≡ own_by (replied guest.subscriber)
  pub answers : guest.answers ≡ causes_by guest.answers.order (replied guest.subscriber)
  pub ends : EndsSo guest.how (replied guest.subscriber)

-- a callback has replied: its answer, or that it was refused memory, is the end or goes on
pub record RepliesOnce {B : Type 0} (replied : B → List Reply) (result : Option How) (old new : Lodger B) : Type 0 where
  pub reply : Reply
  pub asks : result ≡ end_on reply
  pub replies : replied new.subscriber ≡ replied old.subscriber ++ reply ∷ []
  pub noted : IsNoted replied new

-- the callback of an end that was due has replied, if there is one
pub record RepliesLast {B : Type 0} (replied : B → List Reply) (due how : How) (old new : Lodger B) : Type 0 where
  pub fresh : List Reply
  pub to_it : AreRepliesTo due how fresh
  pub replies : replied new.subscriber ≡ replied old.subscriber ++ fresh
  pub noted : IsNoted replied new

-- what an answer does to what lies beside its subscriber, and the end that it asks for
pub record IsObeyed {B : Type 0} (answer : Answer) (result : Option How) (old new : Lodger B) : Type 0 where
  pub subscriber : new.subscriber ≡ old.subscriber
  pub own : new.own ≡ own_after answer old.own
  pub answers : new.answers ≡ causes_after answer old.answers
  pub how : new.how ≡ later_end (end_of answer) old.how
  pub end : result ≡ end_of answer
