use Rattle.std.proofs.Common.{◌∙◌, refl, sym}
use Rattle.std.specs.Option.{option_or}
use Rattle.publisher.proofs.LeftLanes.Concluding.{concludes_held, concludes_judged}
use Rattle.publisher.proofs.LeftLanes.Ordering.{closes_moved}
use Rattle.publisher.proofs.finishing.judge.Books.conclude.Goals as goal

pub returns-in-Some : goal.returns-in-Some
returns-in-Some g c = concludes_held g.B.Listener.told g.B.Listener.replied c.args.self c.close_all-lanes.result.first
    _ (closes_moved g.B.Listener.told g.B.Listener.replied c.args.self.founds.items _ c.close_all-lanes.result.lanes.items
    c.put_in_order.new.lanes.items _ c.close_all-lanes.result.first c.put_in_order.ensures.same c.close_all-lanes.ensures)
    c.put_in_order.ensures.ordered refl refl refl refl c.in-Some.name
    (◌∙◌ {a = option_or c.close_all-lanes.result.first c.args.self.missing} (sym c.or.ensures) c.in-Some.is)

pub returns-in-None : goal.returns-in-None
returns-in-None g c = concludes_judged g.B.Listener.told g.B.Listener.replied c.args.self
    c.close_all-lanes.result.first _
    (closes_moved g.B.Listener.told g.B.Listener.replied c.args.self.founds.items _ c.close_all-lanes.result.lanes.items
    c.put_in_order.new.lanes.items _ c.close_all-lanes.result.first c.put_in_order.ensures.same c.close_all-lanes.ensures)
    c.put_in_order.ensures.ordered refl refl refl refl c.judge.result
    (◌∙◌ {a = option_or c.close_all-lanes.result.first c.args.self.missing} (sym c.or.ensures) c.in-None.is) c.judge.ensures
