-- Texts are published at once or alone, and a caller reads the same of both.
use Rattle.std.proofs.lemmas.Result.{IfOk-weaker}
use Rattle.std.proofs.Common.{inl, inr}
use Rattle.publisher_hub.proofs.BatchTexts.Shown.{one_counted, one_shown, batch_shown}
use Rattle.publisher_hub.proofs.hub.Hub.publish.Goals as goal

pub returns-then-go_at_once-clause-ok : goal.returns-then-go_at_once-clause-ok
returns-then-go_at_once-clause-ok g c = IfOk-weaker c.publish_batch.result _ _ (λ publication batch. inr (c.go_at_once.ensures.yes c.if-go_at_once.true, batch)) c.publish_batch.ensures.ok

pub returns-then-go_at_once-clause-within : goal.returns-then-go_at_once-clause-within
returns-then-go_at_once-clause-within g c = IfOk-weaker c.publish_batch.result _ _ (λ publication batch. (batch_shown g.F.Feed.meaning g.F.Feed.does c.args.need c.args.source c.args.texts.now c.args.self.now c.publish_batch.new.self c.args.due.now.items c.publish_batch.new.due.items publication batch).within) c.publish_batch.ensures.ok

pub returns-then-go_at_once-clause-reached : goal.returns-then-go_at_once-clause-reached
returns-then-go_at_once-clause-reached g c = IfOk-weaker c.publish_batch.result _ _ (λ publication batch. (batch_shown g.F.Feed.meaning g.F.Feed.does c.args.need c.args.source c.args.texts.now c.args.self.now c.publish_batch.new.self c.args.due.now.items c.publish_batch.new.due.items publication batch).reached) c.publish_batch.ensures.ok

pub returns-then-go_at_once-clause-waiters : goal.returns-then-go_at_once-clause-waiters
returns-then-go_at_once-clause-waiters g c = IfOk-weaker c.publish_batch.result _ _ (λ publication batch. (batch_shown g.F.Feed.meaning g.F.Feed.does c.args.need c.args.source c.args.texts.now c.args.self.now c.publish_batch.new.self c.args.due.now.items c.publish_batch.new.due.items publication batch).waiters) c.publish_batch.ensures.ok

pub returns-then-go_at_once-clause-lag : goal.returns-then-go_at_once-clause-lag
returns-then-go_at_once-clause-lag g c = IfOk-weaker c.publish_batch.result _ _ (λ publication batch. (batch_shown g.F.Feed.meaning g.F.Feed.does c.args.need c.args.source c.args.texts.now c.args.self.now c.publish_batch.new.self c.args.due.now.items c.publish_batch.new.due.items publication batch).lag) c.publish_batch.ensures.ok

pub returns-then-go_at_once-clause-due : goal.returns-then-go_at_once-clause-due
returns-then-go_at_once-clause-due g c = IfOk-weaker c.publish_batch.result _ _ (λ publication batch. (batch_shown g.F.Feed.meaning g.F.Feed.does c.args.need c.args.source c.args.texts.now c.args.self.now c.publish_batch.new.self c.args.due.now.items c.publish_batch.new.due.items publication batch).due) c.publish_batch.ensures.ok

pub returns-else-go_at_once-clause-ok : goal.returns-else-go_at_once-clause-ok
returns-else-go_at_once-clause-ok g c = IfOk-weaker c.publish_one.result _ _ (λ publication one. inl (c.go_at_once.ensures.no c.if-go_at_once.false, one)) c.publish_one.ensures.ok

pub returns-else-go_at_once-clause-within : goal.returns-else-go_at_once-clause-within
returns-else-go_at_once-clause-within g c = IfOk-weaker c.publish_one.result _ _ (λ publication one. (one_shown g.F.Feed.meaning g.F.Feed.does c.args.need c.args.source c.args.texts.now c.args.self.now c.publish_one.new.self c.args.due.now.items c.publish_one.new.due.items publication one).within) c.publish_one.ensures.ok

pub returns-else-go_at_once-clause-reached : goal.returns-else-go_at_once-clause-reached
returns-else-go_at_once-clause-reached g c = IfOk-weaker c.publish_one.result _ _ (λ publication one. (one_shown g.F.Feed.meaning g.F.Feed.does c.args.need c.args.source c.args.texts.now c.args.self.now c.publish_one.new.self c.args.due.now.items c.publish_one.new.due.items publication one).reached) c.publish_one.ensures.ok

pub returns-else-go_at_once-clause-waiters : goal.returns-else-go_at_once-clause-waiters
returns-else-go_at_once-clause-waiters g c = IfOk-weaker c.publish_one.result _ _ (λ publication one. (one_shown g.F.Feed.meaning g.F.Feed.does c.args.need c.args.source c.args.texts.now c.args.self.now c.publish_one.new.self c.args.due.now.items c.publish_one.new.due.items publication one).waiters) c.publish_one.ensures.ok

pub returns-else-go_at_once-clause-lag : goal.returns-else-go_at_once-clause-lag
returns-else-go_at_once-clause-lag g c = IfOk-weaker c.publish_one.result _ _ (λ publication one. (one_shown g.F.Feed.meaning g.F.Feed.does c.args.need c.args.source c.args.texts.now c.args.self.now c.publish_one.new.self c.args.due.now.items c.publish_one.new.due.items publication one).lag) c.publish_one.ensures.ok

pub returns-else-go_at_once-clause-due : goal.returns-else-go_at_once-clause-due
returns-else-go_at_once-clause-due g c = IfOk-weaker c.publish_one.result _ _ (λ publication one. (one_shown g.F.Feed.meaning g.F.Feed.does c.args.need c.args.source c.args.texts.now c.args.self.now c.publish_one.new.self c.args.due.now.items c.publish_one.new.due.items publication one).due) c.publish_one.ensures.ok

pub returns-else-go_at_once-clause-counted : goal.returns-else-go_at_once-clause-counted
returns-else-go_at_once-clause-counted g c = IfOk-weaker c.publish_one.result _ _ (λ publication one. one_counted g.F.Feed.meaning g.F.Feed.does c.args.need c.args.source c.args.texts.now c.args.self.now c.publish_one.new.self c.args.due.now.items c.publish_one.new.due.items publication one) c.publish_one.ensures.ok
