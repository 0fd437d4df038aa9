-- The lines of a report, as items are told.
use Rattle.std.proofs.Common.{◌≡◌, ◌<◌, ◌≤◌, ◌+◌, ℕ, zero, suc, List, [], ◌∷◌, ◌++◌, length, append_assoc, append-nil, refl, ap, sym, ◌∙◌, slice_index_or, slice_set, get_or, map, take, drop, if◌then◌else◌, arith}
use Rattle.std.proofs.lemmas.List.{map-append, take-append-drop, take_more}
use Rattle.std.proofs.lemmas.Bool.{eq-eqb, ne_eqb}
use Rattle.flow_rules.specs.declared.item.Item.{Item}
use Rattle.commands.specs.Writing.{line_of}
use Rattle.lines_demo.specs.declared.threads.reporter.SourceLines.{SourceLines}
use Rattle.lines_demo.specs.Threads.Report.{AreLines, beginning_of, line_from, lines_by_source, lines_from}

-- an item adds its line to those of its submitter
own_line : (submitter : ℕ) (beginning : List ℕ) (item : Item) → item.source ≡ submitter → line_from submitter beginning item ≡ line_of (beginning ++ item.text)
own_line submitter beginning item own = ap (λ is. if is then line_of (beginning ++ item.text) else []) (eq-eqb item.source submitter own)

-- an item adds nothing to those of another submitter
no_line : (submitter : ℕ) (beginning : List ℕ) (item : Item) → (item.source ≡ submitter → ⊥) → line_from submitter beginning item ≡ []
no_line submitter beginning item other = ap (λ is. if is then line_of (beginning ++ item.text) else []) (ne_eqb item.source submitter other)

-- the lines of a submitter, as one more item is told
lines_grow : (submitter : ℕ) (beginning : List ℕ) (items : List Item) (item : Item)
    → lines_from submitter beginning (items ++ item ∷ []) ≡ lines_from submitter beginning items ++ line_from submitter beginning item
lines_grow submitter beginning [] item = append-nil (line_from submitter beginning item)
lines_grow submitter beginning (first ∷ items) item =
    ap (λ rest. line_from submitter beginning first ++ rest) (lines_grow submitter beginning items item)
    ∙ sym (append_assoc (line_from submitter beginning first) (lines_from submitter beginning items) (line_from submitter beginning item))

-- an item of another submitter changes no line
pub others_stay : (submitter : ℕ) (beginning : List ℕ) (items : List Item) (item : Item) → (item.source ≡ submitter → ⊥)
    → lines_from submitter beginning items ≡ lines_from submitter beginning (items ++ item ∷ [])
others_stay submitter beginning items item other =
    sym (lines_grow submitter beginning items item ∙ ap (λ line. lines_from submitter beginning items ++ line) (no_line submitter beginning item other)
    ∙ append-nil (lines_from submitter beginning items))

-- an item of a submitter before these changes nothing
pub earlier_changes_nothing : (submitter : ℕ) (kept : List SourceLines) (items : List Item) (item : Item) → item.source < submitter
    → AreLines submitter kept items → AreLines submitter kept (items ++ item ∷ [])
earlier_changes_nothing submitter [] items item earlier are = tt
earlier_changes_nothing submitter (first ∷ kept) items item earlier are = (
  are.0 ∙ others_stay submitter first.beginning.items items item (λ own. grind (arith)),
  earlier_changes_nothing (submitter + 1) kept items item (grind (arith)) are.1,
)

-- an item of a submitter behind these changes nothing
pub later_changes_nothing : (submitter : ℕ) (kept : List SourceLines) (items : List Item) (item : Item) → submitter + length kept ≤ item.source
    → AreLines submitter kept items → AreLines submitter kept (items ++ item ∷ [])
later_changes_nothing submitter [] items item later are = tt
later_changes_nothing submitter (first ∷ kept) items item later are = (
  are.0 ∙ others_stay submitter first.beginning.items items item (λ own. grind (arith)),
  later_changes_nothing (submitter + 1) kept items item (grind (arith)) are.1,
)

-- the line of an item is added to those of its submitter
pub line_is_added : (submitter : ℕ) (kept : List SourceLines) (items : List Item) (item : Item) (at : ℕ) (new old : SourceLines)
    → item.source ≡ submitter + at → at < length kept → slice_index_or kept at old ≡ old
    → new.beginning.items ≡ old.beginning.items → new.lines.items ≡ old.lines.items ++ line_of (old.beginning.items ++ item.text)
    → AreLines submitter kept items → AreLines submitter (slice_set kept at new) (items ++ item ∷ [])
line_is_added submitter [] items item at new old own within is same added are = absurd (grind (arith))
line_is_added submitter (first ∷ kept) items item zero new old own within is same added are =
    let line = line_of (old.beginning.items ++ item.text) in
    let before = ap (λ (it : SourceLines). it.lines.items) (sym is) ∙ are.0 ∙ ap (λ (it : SourceLines). lines_from submitter it.beginning.items items) is in
    let grown = lines_grow submitter old.beginning.items items item ∙ ap (λ more. lines_from submitter old.beginning.items items ++ more) (own_line submitter old.beginning.items item (grind (arith))) in (
      added ∙ ap (λ lines. lines ++ line) before ∙ sym grown ∙ ap (λ beginning. lines_from submitter beginning (items ++ item ∷ [])) (sym same),
      earlier_changes_nothing (submitter + 1) kept items item (grind (arith)) are.1,
    )
line_is_added submitter (first ∷ kept) items item (suc at) new old own within is same added are = (
  are.0 ∙ others_stay submitter first.beginning.items items item (λ same. grind (arith)),
  line_is_added (submitter + 1) kept items item at new old (grind (arith)) (grind (arith)) is same added are.1,
)

-- lines that stay as they were are those of the same items
pub same_lines : (submitter : ℕ) (kept : List SourceLines) (items : List Item) (at : ℕ) (new old : SourceLines) → slice_index_or kept at old ≡ old
    → new.beginning.items ≡ old.beginning.items → new.lines.items ≡ old.lines.items
    → AreLines submitter kept items → AreLines submitter (slice_set kept at new) items
same_lines submitter [] items at new old is same lines are = tt
same_lines submitter (first ∷ kept) items zero new old is same lines are =
    (lines ∙ ap (λ (it : SourceLines). it.lines.items) (sym is) ∙ are.0 ∙ ap (λ beginning. lines_from submitter beginning items) (ap (λ (it : SourceLines). it.beginning.items) is ∙ sym same), are.1)
same_lines submitter (first ∷ kept) items (suc at) new old is same lines are =
    (are.0, same_lines (submitter + 1) kept items at new old is same lines are.1)

-- lines that were not made up yet are those of no item
pub no_lines_more : (submitter : ℕ) (kept : List SourceLines) (more : SourceLines) → more.lines.items ≡ [] → AreLines submitter kept [] → AreLines submitter (kept ++ more ∷ []) []
no_lines_more submitter [] more none are = (none, tt)
no_lines_more submitter (first ∷ kept) more none are = (are.0, no_lines_more (submitter + 1) kept more none are.1)

-- how the lines of the first sources begin, and those of the next one
pub begin_more : (name : List ℕ) (kept : List SourceLines) (more : SourceLines) (sources : List ℕ) (i : ℕ) → i < length sources
    → more.beginning.items ≡ beginning_of name (get_or sources i 0) → map (λ it. it.beginning.items) kept ≡ map (beginning_of name) (take i sources)
    → map (λ it. it.beginning.items) (kept ++ more ∷ []) ≡ map (beginning_of name) (take (i + 1) sources)
begin_more name kept more sources i within begins before =
    rw (take_more sources i 0 within, map-append (λ it. it.beginning.items) kept (more ∷ []), map-append (beginning_of name) (take i sources) (get_or sources i 0 ∷ []), before, begins) refl

-- all lines that are kept
abbrev pub kept_lines : List SourceLines → List ℕ
kept_lines [] = []
kept_lines (first ∷ kept) = first.lines.items ++ kept_lines kept

-- they are those of the items
pub kept_lines_are : (submitter : ℕ) (kept : List SourceLines) (items : List Item) → AreLines submitter kept items
    → kept_lines kept ≡ lines_by_source submitter (map (λ it. it.beginning.items) kept) items
kept_lines_are submitter [] items are = refl
kept_lines_are submitter (first ∷ kept) items are = rw (are.0, kept_lines_are (submitter + 1) kept items are.1) refl

kept_lines_append : (s t : List SourceLines) → kept_lines (s ++ t) ≡ kept_lines s ++ kept_lines t
kept_lines_append [] t = refl
kept_lines_append (first ∷ s) t = ap (λ rest. first.lines.items ++ rest) (kept_lines_append s t) ∙ sym (append_assoc first.lines.items (kept_lines s) (kept_lines t))

-- those of the first sources, and of the next one
pub kept_lines_more : (kept : List SourceLines) (i : ℕ) (next : SourceLines) → i < length kept → next ≡ get_or kept i next
    → kept_lines (take (i + 1) kept) ≡ kept_lines (take i kept) ++ next.lines.items
kept_lines_more kept i next more at =
    ap kept_lines (take_more kept i next more)
    ∙ kept_lines_append (take i kept) (get_or kept i next ∷ [])
    ∙ ap (λ s. kept_lines (take i kept) ++ s) (append-nil (get_or kept i next).lines.items)
    ∙ ap (λ (it : SourceLines). kept_lines (take i kept) ++ it.lines.items) (sym at)

-- those of all sources, cut at a place
pub kept_lines_rest : (kept : List SourceLines) (i : ℕ) → kept_lines kept ≡ kept_lines (take i kept) ++ kept_lines (drop i kept)
kept_lines_rest kept i = ap kept_lines (sym (take-append-drop i kept)) ∙ kept_lines_append (take i kept) (drop i kept)
