-- A live subscription is doubled, and its task is due.
use Rattle.std.proofs.Common.{rules, refl}
use Rattle.publisher_hub.specs.Entry.{entry_of}
use Rattle.publisher_hub.proofs.PartialRounds.Next.{get_mapped}
use Rattle.publisher_hub.proofs.Soundness.Doubling.{read_at, sound_doubles}
use Rattle.publisher_hub.proofs.hub.Hub.double.Goals as goal

pub double-start-requires-clause-ready : goal.double-start-requires-clause-ready
double-start-requires-clause-ready g c =
    c.requires.ready c.args.number (entry_of g.F.Feed.meaning c.index_mut.result.now) (get_mapped (entry_of g.F.Feed.meaning) c.args.self.now.entries.items c.args.number c.index_mut.result.now
    (read_at c.args.self.now.entries.items c.args.number c.index_mut.result.now c.requires.live.0 c.requires.live.1.0 c.index_mut.ensures.value))

pub returns-clause-doubles : goal.returns-clause-doubles
returns-clause-doubles g c = record {
  start = c.double-start.result;
  before = c.index_mut.result.now;
  after = c.double-start.new.self;
  there = read_at c.args.self.now.entries.items c.args.number c.index_mut.result.now c.requires.live.0 c.requires.live.1.0 c.index_mut.ensures.value;
  doubled = c.double-start.ensures;
  entries = search rules;
  due = c.push_started.ensures.due;
  rest = refl;
}

pub returns-clause-sound : goal.returns-clause-sound
returns-clause-sound g c =
    sound_doubles g.F.Feed.meaning g.F.Feed.does c.args.self.now _ c.args.number c.double-start.result c.index_mut.result.now c.double-start.new.self c.requires.sound
    (read_at c.args.self.now.entries.items c.args.number c.index_mut.result.now c.requires.live.0 c.requires.live.1.0 c.index_mut.ensures.value) c.double-start.ensures (search rules)
