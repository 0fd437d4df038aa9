-- The subscribers that words spell, word after word.
use Rattle.std.proofs.Common.{◌≡◌, ◌<◌, ◌≤◌, ◌+◌, ℕ, suc, List, [], ◌∷◌, ◌++◌, length, drop, map, refl, sym, ap, ◌∙◌, append_assoc, Option, Some, None, get_or, add-one, Bor}
use Rattle.std.specs.Prelude.{option_map, slice_get}
use Rattle.std.proofs.lemmas.Option.{slice_get-get_or, slice_get-map, slice_get_within, get_or_from_slice_get}
use Rattle.std.proofs.Math.Seq.{drop-cons}
use Rattle.std.proofs.lemmas.List.{append-nil, drop_all, length-map}
use Rattle.lines_demo.specs.Threads.Plan.{spelled_subscriber, spelled_subscribers, before_others}
use Rattle.lines_demo.specs.declared.threads.plan.NamedDemand.{NamedDemand}

-- the texts from a place on
pub texts_from : (words : List (Bor (List ℕ))) (i : ℕ) (d : Bor (List ℕ)) → i < length words
    → drop i (map (λ w. w.now) words) ≡ (get_or words i d).now ∷ drop (i + 1) (map (λ w. w.now) words)
texts_from words i d more =
    let texts = map (λ (w : Bor (List ℕ)). w.now) words in
    let text = (get_or words i d).now in
    let there : slice_get texts i ≡ Some text = slice_get-map (λ (w : Bor (List ℕ)). w.now) words i ∙ ap (λ o. option_map (λ (w : Bor (List ℕ)). w.now) o) (slice_get-get_or words i d more) in
    let within : i < length texts = slice_get_within texts i text there in
    rw add-one (drop-cons texts i text within ∙ ap (λ t. t ∷ drop (suc i) texts) (get_or_from_slice_get texts i text text there))

-- no text is left past the last
pub texts_past : (words : List (Bor (List ℕ))) (i : ℕ) → length words ≤ i → drop i (map (λ w. w.now) words) ≡ []
texts_past words i past = let texts = map (λ (w : Bor (List ℕ)). w.now) words in drop_all i texts (rw (length-map words (λ (w : Bor (List ℕ)). w.now)) past)

-- the words spell those that were read, and then what the rest spells
abbrev pub Reads : List (List ℕ) → List NamedDemand → List (List ℕ) → Type 0
Reads words read rest = spelled_subscribers words ≡ option_map (λ (later : List NamedDemand). read ++ later) (spelled_subscribers rest)

-- one more was read
pub reads_more : (words rest others : List (List ℕ)) (word : List ℕ) (read : List NamedDemand) (s : NamedDemand) → Reads words read rest
    → rest ≡ word ∷ others → spelled_subscriber word ≡ Some s
    → Reads words (read ++ s ∷ []) others
reads_more words rest others word read s reads is spelled =
    reads ∙ ap (λ ws. option_map (λ (later : List NamedDemand). read ++ later) (spelled_subscribers ws)) is
    ∙ ap (λ o. option_map (λ (later : List NamedDemand). read ++ later) (before_others o (spelled_subscribers others))) spelled ∙ by (spelled_subscribers others) where
      by : (o : Option (List NamedDemand))
          → option_map (λ (later : List NamedDemand). read ++ later) (before_others (Some s) o) ≡ option_map (λ (later : List NamedDemand). (read ++ s ∷ []) ++ later) o
      by None = refl
      by (Some later) = ap (λ xs. Some xs) (sym (append_assoc read (s ∷ []) later))

-- a word spells none
pub reads_wrong : (words rest others : List (List ℕ)) (word : List ℕ) (read : List NamedDemand) → Reads words read rest
    → rest ≡ word ∷ others → spelled_subscriber word ≡ None → spelled_subscribers words ≡ None
reads_wrong words rest others word read reads is wrong =
    reads ∙ ap (λ ws. option_map (λ (later : List NamedDemand). read ++ later) (spelled_subscribers ws)) is
    ∙ ap (λ o. option_map (λ (later : List NamedDemand). read ++ later) (before_others o (spelled_subscribers others))) wrong

-- nothing was read yet
pub reads_none : (words : List (List ℕ)) → Reads words [] words
reads_none words = by (spelled_subscribers words) where
  by : (o : Option (List NamedDemand)) → o ≡ option_map (λ (later : List NamedDemand). [] ++ later) o
  by None = refl
  by (Some later) = refl

-- all was read
pub reads_all : (words rest : List (List ℕ)) (read : List NamedDemand) → Reads words read rest → rest ≡ []
    → spelled_subscribers words ≡ Some read
reads_all words rest read reads none =
    reads ∙ ap (λ ws. option_map (λ (later : List NamedDemand). read ++ later) (spelled_subscribers ws)) none ∙ ap (λ xs. Some xs) (append-nil read)
