use Rattle.std.proofs.Common.{◌≡◌, ◌-◌, ◌≤◌, vec_len}
use Rattle.publisher_hub.specs.Gathering.{HasRoomAgain}
use Rattle.publisher_hub.proofs.PartialRounds.Retrying.{IsRetrying}
use Rattle.publisher_hub.proofs.hub.offer.retry_all.Given as goal

abbrev pub invariant-loop-place : goal.invariant-loop-place
invariant-loop-place g l = record {
  puts : IsRetrying g.F.Feed.meaning g.F.Feed.does l.item l.initial.gathering.missed.items l.place l.initial.entries l.entries l.initial.gathering l.gathering l.initial.due l.due;
  room : HasRoomAgain (l.place-end - l.place) l.gathering l.due;
  missed : l.gathering.missed ≡ l.initial.gathering.missed;
  drops : l.gathering.drops ≤ l.place;
  end : l.place-end ≡ vec_len l.initial.gathering.missed;
}
