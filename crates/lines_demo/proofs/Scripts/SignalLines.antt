-- The lines of signals, one after the other.
use Rattle.std.proofs.Common.{◌≡◌, ℕ, List, [], ◌∷◌, ◌++◌, length, take, drop, refl, sym, ap, ◌∙◌, append_assoc, get_or, ◌+◌, ◌<◌}
use Rattle.std.proofs.lemmas.List.{append-nil, take-append-drop, take_more}
use Rattle.lines_demo.specs.Prelude.{Signal}
use Rattle.lines_demo.specs.Script.Turns.{signal_line, signal_lines}

-- the lines of some signals and of one more
pub signal_lines_append : (name : List ℕ) (s t : List Signal) → signal_lines name (s ++ t) ≡ signal_lines name s ++ signal_lines name t
signal_lines_append name [] t = refl
signal_lines_append name (x ∷ s) t = ap (λ r. signal_line name x ++ r) (signal_lines_append name s t) ∙ sym (append_assoc (signal_line name x) (signal_lines name s) (signal_lines name t))

-- the lines of the first signals, and of the next one
pub signal_lines_more : (name : List ℕ) (signals : List Signal) (i : ℕ) (signal : Signal) → i < length signals
    → signal ≡ get_or signals i signal
    → signal_lines name (take (i + 1) signals) ≡ signal_lines name (take i signals) ++ signal_line name signal
signal_lines_more name signals i signal more at =
    ap (λ s. signal_lines name s) (take_more signals i signal more)
    ∙ signal_lines_append name (take i signals) (get_or signals i signal ∷ [])
    ∙ ap (λ s. signal_lines name (take i signals) ++ s) (append-nil (signal_line name (get_or signals i signal)))
    ∙ ap (λ s. signal_lines name (take i signals) ++ signal_line name s) (sym at)

-- the lines of all signals, cut at a place
pub signal_lines_rest : (name : List ℕ) (signals : List Signal) (i : ℕ)
    → signal_lines name signals ≡ signal_lines name (take i signals) ++ signal_lines name (drop i signals)
signal_lines_rest name signals i = ap (λ s. signal_lines name s) (sym (take-append-drop i signals)) ∙ signal_lines_append name (take i signals) (drop i signals)
