use Rattle.std.proofs.Common.{rules}
use Rattle.fanout.proofs.Cuts.{cuts_view}
use Rattle.fanout.proofs.intake.Intake.cut.Goals as goal

pub returns-clause-some : goal.returns-clause-some
returns-clause-some c =
    cuts_view c.self.inside.room.items c.self.inside.start c.self.inside.end c.next_length-length.result
    c.self.inside.is_in_line c.ends_line.result c.is_marked.result c.in_ok-text.text c.args.self.now c.self.view_is
    (search rules) (search rules)
    (rw (← c.deref.ensures.value) c.is_marked.ensures)
    (rw (← c.deref.ensures.value) c.in_ok-text.ensures)
    (rw (← c.deref.ensures.value) c.ends_line.ensures)
    (record {
      some = search rules;
      within = c.next_length-length.ensures.within;
      whole = c.next_length-length.ensures.whole;
      one = c.next_length-length.ensures.one;
      longest = c.next_length-length.ensures.longest;
    })
