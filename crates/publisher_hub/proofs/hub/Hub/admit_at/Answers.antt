-- A subscription gets a vacant place of a Hub that was looked at, or is added after all others.
use Rattle.std.proofs.Common.{◌≡◌, true, false, refl, sym, ◌∙◌, inl, inr}
use Rattle.publisher_hub.proofs.Subscribed.Vacancies.{admitted_with, took_place, vacant_after}
use Rattle.publisher_hub.proofs.hub.Hub.admit_at.Goals as goal

pub returns-then-not-is_vacant-clause-ok : goal.returns-then-not-is_vacant-clause-ok
returns-then-not-is_vacant-clause-ok g c =
    inr (
      λ vacant. let is : true ≡ false = sym (c.is_vacant.ensures.1 (vacant_after g.F.Feed.meaning g.F.Feed.does c.args.place c.args.self.now c.may_subscribe.new.self c.in_ok-may_subscribe.ensures.seen vacant))
          ∙ c.if-not-is_vacant.true in cc,
      admitted_with g.F.Feed.meaning g.F.Feed.does c.args.name c.args.on_full c.args.feed c.args.ticket c.args.most c.append.result
          c.args.due.now.items c.may_subscribe.new.due.items c.append.new.due.items c.may_subscribe.new.due
          c.args.self.now c.may_subscribe.new.self c.append.new.self
          c.in_ok-may_subscribe.ensures.seen c.in_ok-may_subscribe.ensures.can c.in_ok-may_subscribe.ensures.nothing_due c.append.ensures.appends,
    )

pub returns-clause-ok : goal.returns-clause-ok
returns-clause-ok g c =
    inl (
      refl,
      took_place g.F.Feed.meaning g.F.Feed.does c.args.place c.args.name c.args.on_full c.args.feed c.args.ticket c.args.most
          c.args.due.now.items c.may_subscribe.new.due.items c.put_at.new.due.items c.may_subscribe.new.due
          c.args.self.now c.may_subscribe.new.self c.put_at.new.self
          c.in_ok-may_subscribe.ensures.seen c.in_ok-may_subscribe.ensures.can (c.is_vacant.ensures.0 c.if-not-is_vacant.false)
          c.in_ok-may_subscribe.ensures.nothing_due c.put_at.ensures.puts,
    )
