-- Where the words of a subscription lie in its table.
use Rattle.std.specs.Prelude.{◌≡◌, ℕ, nat_lt, Bool, true, false, List, [], ◌∷◌, refl}
use Rattle.atomic_table.specs.Seated.{TableId}
use Rattle.feed_cell.specs.declared.cell.words.Word.{Word}

-- with a small buffer they lie side by side, else apart
abbrev pub lie_close : ℕ → Bool
lie_close capacity = nat_lt capacity 32

abbrev pub place_in : Bool → Word → ℕ
place_in true Word.Head = 6
place_in true Word.Tail = 7
place_in true Word.Asked = 8
place_in true Word.Control = 9
place_in false Word.Head = 6
place_in false Word.Tail = 22
place_in false Word.Control = 38
place_in false Word.Asked = 39

abbrev pub count_in : Bool → ℕ
count_in true = 16
count_in false = 48

abbrev pub words_in : Bool → ℕ → ℕ → ℕ → ℕ → List ℕ
words_in true head tail asked control =
    0 ∷ 0 ∷ 0 ∷ 0 ∷ 0 ∷ 0 ∷ head ∷ tail ∷ asked ∷ control ∷ 0 ∷ 0 ∷ 0 ∷ 0 ∷ 0 ∷ 0 ∷ []
words_in false head tail asked control =
    0 ∷ 0 ∷ 0 ∷ 0 ∷ 0 ∷ 0 ∷ head ∷ 0 ∷ 0 ∷ 0 ∷ 0 ∷ 0 ∷ 0 ∷ 0 ∷ 0 ∷ 0
    ∷ 0 ∷ 0 ∷ 0 ∷ 0 ∷ 0 ∷ 0 ∷ tail ∷ 0 ∷ 0 ∷ 0 ∷ 0 ∷ 0 ∷ 0 ∷ 0 ∷ 0 ∷ 0
    ∷ 0 ∷ 0 ∷ 0 ∷ 0 ∷ 0 ∷ 0 ∷ control ∷ asked ∷ 0 ∷ 0 ∷ 0 ∷ 0 ∷ 0 ∷ 0 ∷ 0 ∷ 0 ∷ []

-- the place of a word, by the capacity
pub place : ℕ → Word → ℕ
place capacity word = place_in (lie_close capacity) word

pub place_is : (capacity : ℕ) (word : Word) → place capacity word ≡ place_in (lie_close capacity) word
unfolding place
place_is capacity word = refl

-- how many words the table has, with those that nobody touches
pub word_count : ℕ → ℕ
word_count capacity = count_in (lie_close capacity)

pub count_is : (capacity : ℕ) → word_count capacity ≡ count_in (lie_close capacity)
unfolding word_count
count_is capacity = refl

-- all words, by what the four are
pub words_by : ℕ → ℕ → ℕ → ℕ → ℕ → List ℕ
words_by capacity head tail asked control = words_in (lie_close capacity) head tail asked control

pub words_are : (capacity head tail asked control : ℕ)
    → words_by capacity head tail asked control ≡ words_in (lie_close capacity) head tail asked control
unfolding words_by
words_are capacity head tail asked control = refl

-- a subscription's table has as many words
abbrev pub HasItsWords : ℕ → TableId → Type 0
HasItsWords capacity table = table.words ≡ word_count capacity
