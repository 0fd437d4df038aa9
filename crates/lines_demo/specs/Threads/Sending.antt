-- What the sources of a run publish.
use Rattle.std.specs.Prelude.{◌≡◌, ℕ, ◌==◌, if◌then◌else◌, None, All, map, List, [], ◌∷◌, ◌++◌}
use Rattle.publisher.specs.Handles.{SubmitterState}
use Rattle.publisher.specs.declared.submitter.Submitter.{Submitter}
use Rattle.lines_demo.specs.declared.threads.input.Publication.{Publication}
use Rattle.lines_demo.specs.declared.threads.sending.Sender.{Sender}

-- what a publication adds to the texts of a source
abbrev pub text_from : ℕ → Publication → List (List ℕ)
text_from source publication = if publication.source == source then publication.text ∷ [] else []

-- the texts of a source among these publications, in order
abbrev pub texts_from : ℕ → List Publication → List (List ℕ)
texts_from source [] = []
texts_from source (first ∷ rest) = text_from source first ++ texts_from source rest

-- a submitter published these texts, in order, and none of them was lost
pub record Publishes (texts : List (List ℕ)) (old new : SubmitterState) : Type 0 where
  pub sent : new.sent ≡ old.sent ++ texts
  pub lossless : new.dropping ≡ old.dropping

-- a sender goes on with the same source, and its submitter published the texts of that, unless one was refused
pub record Sends {L B F : Type 0} (publications : List Publication) (old new : Sender L B F) : Type 0 where
  pub source_is : new.source ≡ old.source
  pub published : new.refused ≡ None → Publishes (texts_from old.source publications) old.submitter new.submitter

-- these are the submitters of these senders, none of which was refused a line
pub record AreSubmittersOf {L B F : Type 0} (senders : List (Sender L B F)) (submitters : List (Submitter L B F)) : Type 0 where
  pub none_refused : All (λ sender. sender.refused ≡ None) senders
  pub theirs : submitters ≡ map (λ sender. sender.submitter) senders

-- a submitter published the texts of this source among these publications, in order and nothing else, and none of them was lost
pub record HasPublished (publications : List Publication) (source : ℕ) (submitter : SubmitterState) : Type 0 where
  pub sent : submitter.sent ≡ texts_from source publications
  pub lossless : submitter.dropping ≡ 0

-- a sender of this source, whose submitter published nothing yet
pub record IsSenderOf {L B F : Type 0} (source : ℕ) (sender : Sender L B F) : Type 0 where
  pub source_is : sender.source ≡ source
  pub unsent : sender.submitter.sent ≡ []
  pub lossless : sender.submitter.dropping ≡ 0
