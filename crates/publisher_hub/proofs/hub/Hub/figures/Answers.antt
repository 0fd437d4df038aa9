-- What was listed is sound still, and the list is of all.
use Rattle.std.proofs.Common.{refl, ◌∙◌, arith}
use Rattle.std.specs.Vec.{with_items}
use Rattle.std.proofs.lemmas.List.{with_items_is}
use Rattle.publisher_hub.specs.Hub.{hub_of}
use Rattle.publisher_hub.specs.Looking.{LooksAtAll}
use Rattle.publisher_hub.specs.Stats.{SurveysAll}
use Rattle.publisher_hub.proofs.PartialRounds.Surveying.{all_tallied}
use Rattle.publisher_hub.proofs.Soundness.Surveying.{all_bounded}
use Rattle.publisher_hub.proofs.Soundness.LookingAtAll.{sound_looks}
use Rattle.publisher_hub.proofs.hub.Hub.figures.Goals as goal

pub survey_all-requires-clause-live : goal.survey_all-requires-clause-live
survey_all-requires-clause-live g c = rw (c.deref.ensures.value, c.deref_mut.ensures.value) c.requires.sound.live

pub survey_all-requires-clause-tallied : goal.survey_all-requires-clause-tallied
survey_all-requires-clause-tallied g c = rw c.deref_mut.ensures.value (all_tallied (hub_of g.F.Feed.meaning c.args.self.now) c.requires.sound)

looks : (g : _) (c : goal.After-self-1 g) → LooksAtAll g.F.Feed.meaning g.F.Feed.does c.survey_all.ensures.survey.glances c.args.self.now (record c.args.self.now { entries = with_items c.args.self.now.entries c.survey_all.new.entries })
looks g c =
    let items = with_items_is c.args.self.now.entries c.survey_all.new.entries (c.survey_all.auto.entries ∙ c.deref_mut.ensures.len) in
    record { rest = refl; entries = rw (items, ← c.deref_mut.ensures.value) c.survey_all.ensures.survey.looked }

surveys : (g : _) (c : goal.After-self-1 g) → SurveysAll g.F.Feed.meaning g.F.Feed.does c.survey_all.new.figures.items c.args.self.now (record c.args.self.now { entries = with_items c.args.self.now.entries c.survey_all.new.entries })
surveys g c =
    let items = with_items_is c.args.self.now.entries c.survey_all.new.entries (c.survey_all.auto.entries ∙ c.deref_mut.ensures.len) in
    record {
      glances = c.survey_all.ensures.survey.glances;
      lists = c.survey_all.ensures.survey.lists;
      looks = looks g c;
      listed = rw (items, ← c.deref_mut.ensures.value) c.survey_all.ensures.survey.listed;
      all = c.survey_all.ensures.survey.all;
    }

pub returns-clause-ok : goal.returns-clause-ok
returns-clause-ok g c = surveys g c

pub returns-clause-few : goal.returns-clause-few
returns-clause-few g c =
    let few = c.survey_all.ensures.few in
    let live = c.requires.sound.few_live in
    let same = c.deref.ensures.len in
    omega arith

pub returns-clause-bounded : goal.returns-clause-bounded
returns-clause-bounded g c = all_bounded g.F.Feed.meaning g.F.Feed.does _ c.args.self.now _
    (sound_looks g.F.Feed.meaning g.F.Feed.does c.survey_all.ensures.survey.glances c.args.self.now _ c.requires.sound (looks g c)) (surveys g c)

pub returns-clause-sound : goal.returns-clause-sound
returns-clause-sound g c = sound_looks g.F.Feed.meaning g.F.Feed.does c.survey_all.ensures.survey.glances c.args.self.now _ c.requires.sound (looks g c)
