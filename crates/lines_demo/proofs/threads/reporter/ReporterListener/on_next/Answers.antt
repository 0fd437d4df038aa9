use Rattle.std.proofs.Common.{rules, arith, ◌≡◌, ◌<◌, ◌≤◌, ◌+◌, ◌∷◌, ◌++◌, [], sym, ℕ, List, length, min}
use Rattle.std.proofs.lemmas.List.{length-append}
use Rattle.flow_rules.specs.declared.item.Item.{Item}
use Rattle.flow_rules.specs.declared.signal.Signal.TheVariants.{Next}
use Rattle.flow_rules.specs.Signals.{items_of}
use Rattle.flow_rules.proofs.Items.{items_of_append}
use Rattle.commands.specs.Writing.{line_of}
use Rattle.lines_demo.proofs.Reports.Sources.{same_lines, line_is_added, later_changes_nothing}
use Rattle.lines_demo.proofs.threads.reporter.ReporterListener.on_next.Goals as goal
use Rattle.lines_demo.proofs.threads.reporter.ReporterListener.on_next.Goals.{in-Some+else-is_err, in_default}

pub invariant_of-self : goal.invariant_of-self
invariant_of-self c =
    let unchanged : c.add.new.self.lines.items ≡ c.in-Some.source.now.lines.items = search rules in
    rw (c.refuse.ensures.heard) (
      (same_lines 0 c.self.inside.sources.items (items_of c.self.inside.told.signals) c.args.item.now.source c.add.new.self c.in-Some.source.now
          (sym c.in-Some.ensures.value) c.add.ensures.beginning unchanged c.self.invariant.0),
      c.self.invariant.1,
    )

-- one item more is counted
counted : (items : List Item) (item : Item) (before after : ℕ) → before ≡ min (length items) 18446744073709551615 → after ≡ min (before + 1) 18446744073709551615
    → after ≡ min (length (items ++ item ∷ [])) 18446744073709551615
counted items item before after old new = rw (length-append items (item ∷ [])) (grind (arith))

pub invariant_of-self-2 : goal.invariant_of-self-2
invariant_of-self-2 c =
    let items = items_of c.self.inside.told.signals in
    let item = c.args.item.now in
    let more = items_of_append c.self.inside.told.signals (Next item ∷ []) in
    elim c.match-get_mut.branch [
      | in-Some+else-is_err w ↦
          let added : w.add.new.self.lines.items ≡ w.in-Some.source.now.lines.items ++ line_of (w.in-Some.source.now.beginning.items ++ item.text) = search rules in
          let within : item.source < length c.self.inside.sources.items = search rules in
          let are = line_is_added 0 c.self.inside.sources.items items item item.source w.add.new.self w.in-Some.source.now
          (grind (arith)) within (sym w.in-Some.ensures.value) w.add.ensures.beginning added c.self.invariant.0 in
          let after : c.saturating_add-self-inside.result ≡ min (c.self.inside.items + 1) 18446744073709551615 = search rules in
          rw (c.tell_next.ensures.heard, w.self-inside-is, more) (are, counted items item _ _ c.self.invariant.1 after)
      | in_default w ↦
          let behind : length c.self.inside.sources.items ≤ item.source = search rules in
          let after : c.saturating_add-self-inside.result ≡ min (c.self.inside.items + 1) 18446744073709551615 = search rules in
          rw (c.tell_next.ensures.heard, w.self-inside-is, more)
          (later_changes_nothing 0 c.self.inside.sources.items items item (grind (arith)) c.self.invariant.0, counted items item _ _ c.self.invariant.1 after)
    ]
