use Rattle.std.proofs.Common.{◌≡◌, true, Some, sym, ap, subst, ◌∙◌}
use Rattle.std.specs.Prelude.{slice_get}
use Rattle.std.specs.Option.{option_copied_mut}
use Rattle.std.proofs.lemmas.Option.{same_Some}
use Rattle.feed_core.specs.Desk.{Owes}
use Rattle.publisher_hub.specs.Lending.{feed_at, with_feed}
use Rattle.lines_demo.specs.Prelude.{DeskState}
use Rattle.lines_demo.proofs.Sessions.Lent.{lends_some}
use Rattle.lines_demo.proofs.script.session.turning.turn_at.Goals as goal

pub unwrap-requires : goal.unwrap-requires
unwrap-requires g c = lends_some c.feed_mut.result c.requires.owed.desk (c.feed_mut.ensures.value ∙ c.requires.owed.stands)

pub turn-requires : goal.turn-requires
turn-requires g c =
    let same = same_Some c.requires.owed.desk c.unwrap.result.now (sym c.requires.owed.stands ∙ sym c.feed_mut.ensures.value ∙ ap option_copied_mut c.unwrap.ensures) in
    record { owed = subst Owes same c.requires.owed.owed }

pub returns : goal.returns
returns g c =
    let stands : feed_at c.args.hub.now c.args.entry ≡ Some c.unwrap.result.now = sym c.feed_mut.ensures.value ∙ ap option_copied_mut c.unwrap.ensures in
    let same = same_Some c.requires.owed.desk c.unwrap.result.now (sym c.requires.owed.stands ∙ stands) in
    let steady : c.unwrap.result.now.is_steady ≡ true = subst (λ (d : DeskState). d.is_steady ≡ true) same c.requires.owed.steady in
    record {
      before = c.unwrap.result.now;
      stood = stands;
      left = ap (with_feed c.args.hub.now c.args.entry (slice_get c.args.hub.now.entries.items c.args.entry)) (c.turn.ensures.after steady);
      plain = c.turn.ensures.plain steady;
    }
