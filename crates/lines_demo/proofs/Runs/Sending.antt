-- The texts of a source, one after the other.
use Rattle.std.proofs.Common.{◌≡◌, ℕ, Bool, true, false, if◌then◌else◌, List, [], ◌∷◌, ◌++◌, length, take, drop, get_or, refl, sym, ap, ◌∙◌, append_assoc, ◌+◌, ◌<◌, All, None, map, subst, suc, arith, suc-ne-zero}
use Rattle.std.specs.List.{AllZip}
use Rattle.std.proofs.lemmas.List.{append-nil, drop_all, get_or-map, length-map, take_all, take_more}
use Rattle.lines_demo.specs.declared.threads.input.Publication.{Publication}
use Rattle.lines_demo.specs.declared.threads.sending.Sender.{Sender}
use Rattle.publisher.specs.Handles.{SubmitterState}
use Rattle.lines_demo.specs.Threads.Sending.{HasPublished, IsSenderOf, Publishes, Sends, text_from, texts_from}

-- the texts of a source among some publications and others
texts_from_append : (source : ℕ) (s t : List Publication) → texts_from source (s ++ t) ≡ texts_from source s ++ texts_from source t
texts_from_append source [] t = refl
texts_from_append source (first ∷ s) t = ap (λ rest. text_from source first ++ rest) (texts_from_append source s t) ∙ sym (append_assoc (text_from source first) (texts_from source s) (texts_from source t))

-- the texts of a source among the first publications, and the next one
pub texts_from_more : (source : ℕ) (publications : List Publication) (i : ℕ) (publication : Publication)
    → i < length publications → publication ≡ get_or publications i publication
    → texts_from source (take (i + 1) publications) ≡ texts_from source (take i publications) ++ text_from source publication
texts_from_more source publications i publication more at =
    ap (texts_from source) (take_more publications i publication more)
    ∙ texts_from_append source (take i publications) (get_or publications i publication ∷ [])
    ∙ ap (λ s. texts_from source (take i publications) ++ s) (append-nil (text_from source (get_or publications i publication)))
    ∙ ap (λ it. texts_from source (take i publications) ++ text_from source it) (sym at)

-- one more text
pub one_more_text : (sent texts old before after : List (List ℕ)) (own : Bool) (text : List ℕ)
    → sent ++ texts ≡ old ++ before → after ≡ before ++ (if own then text ∷ [] else []) → own ≡ true
    → sent ++ (texts ++ text ∷ []) ≡ old ++ after
one_more_text sent texts old before after own text is more of_it =
    sym (append_assoc sent texts (text ∷ [])) ∙ ap (λ s. s ++ text ∷ []) is ∙ append_assoc old before (text ∷ [])
    ∙ ap (λ own. old ++ (before ++ (if own then text ∷ [] else []))) (sym of_it) ∙ ap (λ s. old ++ s) (sym more)

-- no more text
pub no_more_text : (sent texts old before after : List (List ℕ)) (own : Bool) (text : List ℕ)
    → sent ++ texts ≡ old ++ before → after ≡ before ++ (if own then text ∷ [] else []) → own ≡ false
    → sent ++ texts ≡ old ++ after
no_more_text sent texts old before after own text is more not_own =
    is ∙ ap (λ s. old ++ s) (sym (append-nil before))
    ∙ ap (λ own. old ++ (before ++ (if own then text ∷ [] else []))) (sym not_own) ∙ ap (λ s. old ++ s) (sym more)

-- what holds place by place holds of two lists
pub zip_of_each : {X Y : Type 0} (R : X → Y → Type 0) (xs : List X) (ys : List Y) → length ys ≡ length xs
    → ((i : ℕ) (d : X) (e : Y) → i < length xs → R (get_or xs i d) (get_or ys i e)) → AllZip R xs ys
zip_of_each R [] [] long each = tt
zip_of_each R [] (y ∷ ys) long each = absurd (suc-ne-zero _ long)
zip_of_each R (x ∷ xs) [] long each = absurd (suc-ne-zero _ (sym long))
zip_of_each R (x ∷ xs) (y ∷ ys) long each =
    (each 0 x y (omega arith), zip_of_each R xs ys (omega arith) (λ i d e less. each (suc i) d e (omega arith)))

-- what holds of a sender before and after holds of what is the same
pub sends_as : {L B F : Type 0} (publications : List Publication) (a b x y : Sender L B F) → Sends publications a b → a ≡ x → b ≡ y → Sends publications x y
sends_as publications a b x y sends before after = subst (λ it. Sends publications it y) before (subst (λ it. Sends publications a it) after sends)

-- all senders sent, and none was refused a line
pub all_sent : {L B F : Type 0} (publications : List Publication) (old new : List (Sender L B F)) → length new ≡ length old
    → ((i : ℕ) (d : Sender L B F) → i < length old → Sends publications (get_or old i d) (get_or new i d))
    → All (λ sender. sender.refused ≡ None) new
    → AllZip (λ sender. Publishes (texts_from sender.source publications) sender.submitter) old (map (λ sender. sender.submitter) new)
all_sent publications old new as_many sends none =
    zip_of_each (λ sender. Publishes (texts_from sender.source publications) sender.submitter) old (map (λ sender. sender.submitter) new)
    (length-map new (λ sender. sender.submitter) ∙ as_many)
    (λ i d e less.
    let within = subst (λ many. i < many) (sym as_many) less in
    subst (Publishes (texts_from (get_or old i d).source publications) (get_or old i d).submitter)
    (sym (get_or-map (λ sender. sender.submitter) new i d e within)) ((sends i d less).published (none i d within)))

-- what a sender published that had published nothing before
published_of : {L B F : Type 0} (publications : List Publication) (source : ℕ) (sender : Sender L B F) (submitter : SubmitterState)
    → IsSenderOf source sender → Publishes (texts_from sender.source publications) sender.submitter submitter → HasPublished publications source submitter
published_of publications source sender submitter of_it published = record {
  sent = published.sent ∙ ap (λ s. s ++ texts_from sender.source publications) of_it.unsent ∙ ap (λ source. texts_from source publications) of_it.source_is;
  lossless = published.lossless ∙ of_it.lossless;
}

-- the same of all senders of some sources
pub all_published : {L B F : Type 0} (publications : List Publication) (sources : List ℕ) (senders : List (Sender L B F)) (submitters : List SubmitterState)
    → AllZip IsSenderOf sources senders → AllZip (λ sender. Publishes (texts_from sender.source publications) sender.submitter) senders submitters
    → AllZip (HasPublished publications) sources submitters
all_published publications [] [] [] of_them published = tt
all_published publications [] [] (_ ∷ _) of_them published = published
all_published publications [] (_ ∷ _) submitters of_them published = absurd of_them
all_published publications (_ ∷ _) [] submitters of_them published = absurd of_them
all_published publications (_ ∷ _) (_ ∷ _) [] of_them published = published
all_published publications (source ∷ sources) (sender ∷ senders) (submitter ∷ submitters) of_them published =
    (published_of publications source sender submitter of_them.0 published.0, all_published publications sources senders submitters of_them.1 published.1)

-- a list whose parts were all written anew is what was written
pub all_written : {X : Type 0} (many : ℕ) (old new : List X) → many ≡ length old → length new ≡ length old → take many (new ++ drop (length new) old) ≡ new
all_written many old new whole as_many =
    ap (λ s. take many (new ++ s)) (drop_all (length new) old (omega arith)) ∙ ap (take many) (append-nil new) ∙ take_all many new (omega arith)
