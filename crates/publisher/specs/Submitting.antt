-- What a publication answers to its submitter, and what it changes of that.
use Rattle.std.specs.Prelude.{◌≡◌, ℕ, ℤ, ◌+◌, ◌<◌, ◌↔◌, None, IfSome, Result, Err, List, [], ◌∷◌, ◌++◌, length, take}
use Rattle.flow_rules.specs.declared.refusal.Refusal.{Refusal}
use Rattle.flow_rules.specs.declared.refusal.Refusal.TheVariants.{Closed, LineTooLong}
use Rattle.flow_rules.specs.declared.text.TheConstants.Text.{LONGEST}
use Rattle.publisher.specs.Handles.{SubmitterState, after_refusal}
use Rattle.publisher_hub.specs.Publishing.{loss_of}
use Rattle.publisher.specs.Publishing.{drop_of}
use Rattle.publisher.specs.declared.submitter.batch.PublishedPart.{PublishedPart}

-- a submitter that knows of the close is refused with that ending, and nothing has changed
abbrev pub RefusesKnown : {A : Type 0} → Result A Refusal → SubmitterState → SubmitterState → Type 0
RefusesKnown result old new =
    IfSome old.known (λ ending. (result ≡ Err (Closed ending)) × (new ≡ old))

-- one that doesn't know of the close is refused for the length of the text exactly if that has more bytes than the
-- longest
abbrev pub RefusesLong : {A : Type 0} → Result A Refusal → SubmitterState → List ℕ → Type 0
RefusesLong result old text =
    old.known ≡ None → (result ≡ Err LineTooLong) ↔ (LONGEST < length text)

-- an offer of this text with this answer counts as a publication, and as a drop if it found a buffer full
abbrev pub CountsOffer : List ℕ → ℤ → SubmitterState → SubmitterState → Type 0
CountsOffer text answer old new = new ≡ record old {
  published = old.published + 1;
  sent = old.sent ++ text ∷ [];
  dropping = old.dropping + drop_of answer;
}

-- a publication of this text that this many subscriptions lost counts as a publication, and as a drop if any lost it
abbrev pub CountsPublished : List ℕ → ℕ → SubmitterState → SubmitterState → Type 0
CountsPublished text dropped old new = new ≡ record old {
  published = old.published + 1;
  sent = old.sent ++ text ∷ [];
  dropping = old.dropping + loss_of dropped;
}

-- each of these texts counts as a publication, and each of those that at least one subscription lost as a drop
abbrev pub CountsAll : List (List ℕ) → ℕ → SubmitterState → SubmitterState → Type 0
CountsAll texts lost old new = new ≡ record old {
  published = old.published + length texts;
  sent = old.sent ++ texts;
  dropping = old.dropping + lost;
}

-- the first of these texts, this many, count in this way
abbrev pub CountsFirst : List (List ℕ) → ℕ → ℕ → SubmitterState → SubmitterState → Type 0
CountsFirst texts many lost old new = new ≡ record old {
  published = old.published + many;
  sent = old.sent ++ take many texts;
  dropping = old.dropping + lost;
}

-- a list of which a text was refused: those before it count in this way, and the submitter knows what the refusal tells
-- of the close
abbrev pub CountsPart : List (List ℕ) → PublishedPart → SubmitterState → SubmitterState → Type 0
CountsPart texts part old new = new ≡ after_refusal part.refusal (record old {
  published = old.published + part.published;
  sent = old.sent ++ take part.published texts;
  dropping = old.dropping + part.lost;
})
