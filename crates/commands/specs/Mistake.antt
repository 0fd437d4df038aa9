-- What is said of a line that spells no command, or of words that don't have a form.
use Rattle.std.specs.Prelude.{ℕ, ⊤, ◌≡◌, ◌≢◌, ◌⊎◌, Bool, true, false, if◌then◌else◌, is_some, Option, Some, None, List, [], length, codes}
use Rattle.flow_rules.specs.Name.{is_name}
use Rattle.commands.specs.Number.{spelled_number, spelled_code, spelled_signed}
use Rattle.commands.specs.declared.form.Part.{Part}
use Rattle.commands.specs.declared.form.Part.TheVariants as part
use Rattle.commands.specs.declared.mistake.Mistake.{Mistake}
use Rattle.commands.specs.declared.mistake.Mistake.TheVariants as mistake
use Rattle.commands.specs.Word.{after_space, first_word, is_word, spelled_text}

-- whether the bytes may stand for this part
abbrev pub fits : Part → List ℕ → Bool
fits part.Name bytes = is_name bytes
fits part.Number bytes = is_some (spelled_number bytes)
fits part.Signed bytes = is_some (spelled_signed bytes)
fits part.Code bytes = is_some (spelled_code bytes)
fits part.Source bytes = is_some (spelled_code bytes)
fits part.Text bytes = is_some (spelled_text bytes)

-- the parts of a form: the one that another one follows, and the last one
abbrev pub Parts : Type 0
Parts = Option Part × Option Part

-- the parts of the command that begins with this word, if a name follows
unfoldable pub named_parts_of : List ℕ → Option Parts
named_parts_of word =
    if is_word word (codes "sub") then Some (Some part.Name, Some part.Number)
    else (if is_word word (codes "request") then Some (Some part.Name, Some part.Signed)
    else (if is_word word (codes "cancel") then Some (None, Some part.Name)
    else None))

-- the parts of the command of scripts that begins with this word, if there is one
unfoldable pub parts_of : List ℕ → Option Parts
parts_of word =
    if is_word word (codes "cap") then Some (None, Some part.Number)
    else (if is_word word (codes "late") then Some (None, None)
    else (if is_word word (codes "offer") then Some (None, Some part.Text)
    else (if is_word word (codes "retry") then Some (None, Some part.Text)
    else (if is_word word (codes "submit") then Some (None, Some part.Text)
    else (if is_word word (codes "fail") then Some (None, Some part.Code)
    else (if is_word word (codes "close") then Some (None, None)
    else (if is_word word (codes "run") then Some (None, None)
    else named_parts_of word)))))))

-- no word stands here: nothing does, or a space
abbrev pub HasNoWord : List ℕ → Type 0
HasNoWord bytes = first_word bytes ≡ []

-- they begin with a space
abbrev pub BeginsWithSpace : List ℕ → Type 0
BeginsWithSpace bytes = HasNoWord bytes × (bytes ≢ [])

-- a space follows the first word
abbrev pub HasSpace : List ℕ → Type 0
HasSpace bytes = length (first_word bytes) ≢ length bytes

-- this is so of words after a space that are to be none
abbrev pub IsTrueOfNone : List ℕ → Mistake → Type 0
IsTrueOfNone words mistake.Space = HasNoWord words
IsTrueOfNone words (mistake.Surplus form rest) = (rest.now ≡ words) × (first_word words ≢ [])
IsTrueOfNone words _ = ⊥

-- this is so of words that are to be this part
abbrev pub IsTrueOfOne : Part → List ℕ → Mistake → Type 0
IsTrueOfOne part words (mistake.Missing form it) = (it ≡ part) × (words ≡ [])
IsTrueOfOne part words (mistake.Wrong word it) =
    (it ≡ part) × ((word.now ≡ words) × (fits part words ≡ false))
IsTrueOfOne part words mistake.Space =
    BeginsWithSpace words ⊎ (HasSpace words × HasNoWord (after_space words))
IsTrueOfOne part words (mistake.Surplus form rest) =
    (rest.now ≡ after_space words) × (first_word (after_space words) ≢ [])
IsTrueOfOne part words (mistake.Form form) = fits part words ≡ true
IsTrueOfOne part words _ = ⊥

-- this is so of words of which the first is to be this part
abbrev pub IsTrueOfFirst : Part → List ℕ → Mistake → Type 0
IsTrueOfFirst part words (mistake.Missing form it) = (it ≡ part) × (words ≡ [])
IsTrueOfFirst part words (mistake.Wrong word it) =
    (it ≡ part) × ((word.now ≡ first_word words) × (fits part (first_word words) ≡ false))
IsTrueOfFirst part words mistake.Space = BeginsWithSpace words
IsTrueOfFirst part words _ = ⊥

-- this is so of words that are to be these two parts: of the first word, or, as that fits, of those after it
abbrev pub IsTrueOfTwo : Part → Part → List ℕ → Mistake → Type 0
IsTrueOfTwo first last words mistake = IsTrueOfFirst first words mistake
    ⊎ ((fits first (first_word words) ≡ true) × IsTrueOfOne last (after_space words) mistake)

-- this is so of words that are to be these parts
abbrev pub IsTrueOf : Option Part → Option Part → List ℕ → Mistake → Type 0
IsTrueOf None None words mistake = IsTrueOfNone words mistake
IsTrueOf None (Some last) words mistake = IsTrueOfOne last words mistake
IsTrueOf (Some first) None words mistake = IsTrueOfOne first words mistake
IsTrueOf (Some first) (Some last) words mistake = IsTrueOfTwo first last words mistake

-- this is so of a line that begins with no command
abbrev pub IsTrueOfStart : List ℕ → Mistake → Type 0
IsTrueOfStart line (mistake.NoCommand word commands) =
    (word.now ≡ first_word line) × (first_word line ≢ [])
IsTrueOfStart line mistake.Space = BeginsWithSpace line
IsTrueOfStart line mistake.Empty = line ≡ []
IsTrueOfStart line _ = ⊥

-- this is so of a line whose first word asks for these parts, or for none since it is no command
abbrev pub IsTrueOfLine : Option Parts → List ℕ → Mistake → Type 0
IsTrueOfLine None line mistake = IsTrueOfStart line mistake
IsTrueOfLine (Some parts) line mistake = IsTrueOf parts.0 parts.1 (after_space line) mistake

-- a form that is named is this one
abbrev pub NamesForm : List ℕ → Mistake → Type 0
NamesForm text (mistake.Missing form it) = form.now ≡ text
NamesForm text (mistake.Surplus form rest) = form.now ≡ text
NamesForm text (mistake.Form form) = form.now ≡ text
NamesForm text _ = ⊤
