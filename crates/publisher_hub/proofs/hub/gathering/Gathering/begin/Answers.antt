-- Nothing is gathered, whatever is refused.
use Rattle.std.proofs.Common.{◌∙◌}
use Rattle.publisher_hub.proofs.Subscribed.Readiness.{on_err}
use Rattle.publisher_hub.proofs.hub.gathering.Gathering.begin.Goals as goal

pub returns-in_err-reserve-clause-no_share : goal.returns-in_err-reserve-clause-no_share
returns-in_err-reserve-clause-no_share c = on_err c.from_residual.result _ c.requires.no_share

pub returns-in_err-reserve-clause-lag : goal.returns-in_err-reserve-clause-lag
returns-in_err-reserve-clause-lag c = c.requires.no_lag

pub returns-in_err-reserve-clause-drops : goal.returns-in_err-reserve-clause-drops
returns-in_err-reserve-clause-drops c = c.requires.no_drops

pub returns-then-is_err-clause-no_share : goal.returns-then-is_err-clause-no_share
returns-then-is_err-clause-no_share c = on_err c.share_out-made.result _ c.drop_shares.ensures.shares

pub returns-then-is_err-clause-lag : goal.returns-then-is_err-clause-lag
returns-then-is_err-clause-lag c = c.drop_shares.ensures.lag ∙ c.requires.no_lag

pub returns-then-is_err-clause-drops : goal.returns-then-is_err-clause-drops
returns-then-is_err-clause-drops c = c.drop_shares.ensures.drops ∙ c.requires.no_drops

pub returns-else-is_err-clause-lag : goal.returns-else-is_err-clause-lag
returns-else-is_err-clause-lag c = c.requires.no_lag

pub returns-else-is_err-clause-drops : goal.returns-else-is_err-clause-drops
returns-else-is_err-clause-drops c = c.requires.no_drops

pub returns-else-is_err-clause-shares : goal.returns-else-is_err-clause-shares
returns-else-is_err-clause-shares c = c.share_out-made.ensures.shares

pub returns-else-is_err-clause-as_many : goal.returns-else-is_err-clause-as_many
returns-else-is_err-clause-as_many c = c.share_out-made.ensures.as_many
