-- The lines of subscriptions, one after the other.
use Rattle.std.proofs.Common.{◌≡◌, ℕ, List, [], ◌∷◌, ◌++◌, length, take, drop, refl, sym, ap, ◌∙◌, append_assoc, get_or, ◌+◌, ◌<◌}
use Rattle.std.proofs.lemmas.List.{append-nil, take-append-drop, take_more}
use Rattle.publisher.specs.declared.outcome.NamedLane.{NamedLane}
use Rattle.lines_demo.specs.Threads.Report.{ReporterState, lane_lines, lines_of_lanes}

-- the lines of some subscriptions and of others
lines_of_lanes_append : (s t : List (NamedLane ReporterState)) → lines_of_lanes (s ++ t) ≡ lines_of_lanes s ++ lines_of_lanes t
lines_of_lanes_append [] t = refl
lines_of_lanes_append (left ∷ s) t = ap (λ rest. lane_lines left ++ rest) (lines_of_lanes_append s t) ∙ sym (append_assoc (lane_lines left) (lines_of_lanes s) (lines_of_lanes t))

-- the lines of the first subscriptions, and of the next one
pub lines_of_lanes_more : (lanes : List (NamedLane ReporterState)) (i : ℕ) (left : NamedLane ReporterState) → i < length lanes → left ≡ get_or lanes i left
    → lines_of_lanes (take (i + 1) lanes) ≡ lines_of_lanes (take i lanes) ++ lane_lines left
lines_of_lanes_more lanes i left more at =
    ap lines_of_lanes (take_more lanes i left more)
    ∙ lines_of_lanes_append (take i lanes) (get_or lanes i left ∷ [])
    ∙ ap (λ s. lines_of_lanes (take i lanes) ++ s) (append-nil (lane_lines (get_or lanes i left)))
    ∙ ap (λ it. lines_of_lanes (take i lanes) ++ lane_lines it) (sym at)

-- the lines of all subscriptions, cut at a place
pub lines_of_lanes_rest : (lanes : List (NamedLane ReporterState)) (i : ℕ) → lines_of_lanes lanes ≡ lines_of_lanes (take i lanes) ++ lines_of_lanes (drop i lanes)
lines_of_lanes_rest lanes i = ap lines_of_lanes (sym (take-append-drop i lanes)) ∙ lines_of_lanes_append (take i lanes) (drop i lanes)
