use Rattle.std.proofs.Common.{◌≡◌, [], ◌++◌, true, None, List, length, ap, sym, subst, ◌∙◌}
use Rattle.std.proofs.lemmas.List.Elements.{All-rest, All-same}
use Rattle.feed_core.specs.Feed.{DoesCall, end_of}
use Rattle.publisher_hub.specs.Subscribing.{Admits, Refuses}
use Rattle.publisher_hub.specs.declared.work.Work.{Work}
use Rattle.lines_demo.specs.Prelude.{Refusal, desk_after_demand}
use Rattle.lines_demo.specs.Script.Session.{numbers_of}
use Rattle.lines_demo.specs.Script.State.{SessionState}
use Rattle.lines_demo.specs.Script.Subscribing.{USUAL_LIVE, desk_at_start}
use Rattle.commands.specs.declared.reply.Reply.TheVariants.{Name, Refused}
use Rattle.lines_demo.proofs.Sessions.Inside.{state_inside}
use Rattle.lines_demo.proofs.Sessions.Subscribing.{AnswersSub, refused, finds_nobody, gets_no_buffer, admitted, admitted_starts_nothing, all_back, few_are_woken, nobody, one_back, one_fewer, room_after}
use Rattle.lines_demo.proofs.script.session.Session.subscribe.Given.{Over}
use Rattle.lines_demo.proofs.script.session.Session.subscribe.Goals as goal

-- ---- the publisher refused

-- what the refusal leaves, with whom it woke
refused_then : (g : Over) (c : goal.After-push_all-arg-in-Err-1 g)
    → AnswersSub (state_inside c.self.inside) c.args.name c.args.number (Refused c.in-Err.refusal) c.may_subscribe.new.self (length c.self.inside.stock.items) (c.self.inside.woken ++ numbers_of c.may_subscribe.new.due.items)
refused_then g c =
    refused c.self.inside.hub (length c.self.inside.stock.items) c.self.inside.woken c.self.inside.beginning c.args.name c.args.number c.self.invariant.2
    (ap (λ (s : SessionState). s.beginning.is_over) c.self.view_is ∙ c.requires.begun) c.may_subscribe.new.self c.may_subscribe.new.due.items c.in-Err.refusal c.may_subscribe.ensures.sound
    (subst (λ (d : List (Work Unit)). Refuses end_of DoesCall c.args.name USUAL_LIVE c.in-Err.refusal d c.may_subscribe.new.due.items c.self.inside.hub c.may_subscribe.new.self) c.self.invariant.3 c.in-Err.ensures.refusals)

pub push_all-requires : goal.push_all-requires
push_all-requires g c = record { room = room_after (state_inside c.self.inside) c.args.name c.args.number (Refused c.in-Err.refusal) c.may_subscribe.new.self (length c.self.inside.stock.items) c.self.inside.woken c.may_subscribe.new.due.items (refused_then g c) }

-- the same, once they are woken
refused_at_last : (g : Over) (c : goal.After-push_all g)
    → AnswersSub (state_inside c.self.inside) c.args.name c.args.number (Refused c.in-Err.refusal) c.may_subscribe.new.self (length c.self.inside.stock.items) c.push_all.new.self
refused_at_last g c = rw c.push_all.ensures.woken (
    refused c.self.inside.hub (length c.self.inside.stock.items) c.self.inside.woken c.self.inside.beginning c.args.name c.args.number c.self.invariant.2
    (ap (λ (s : SessionState). s.beginning.is_over) c.self.view_is ∙ c.requires.begun) c.may_subscribe.new.self c.may_subscribe.new.due.items c.in-Err.refusal c.may_subscribe.ensures.sound
    (subst (λ (d : List (Work Unit)). Refuses end_of DoesCall c.args.name USUAL_LIVE c.in-Err.refusal d c.may_subscribe.new.due.items c.self.inside.hub c.may_subscribe.new.self) c.self.invariant.3 c.in-Err.ensures.refusals))

pub invariant_of-self : goal.invariant_of-self
invariant_of-self g c = (c.self.invariant.0, c.self.invariant.1, (refused_at_last g c).session, c.push_all.ensures.nothing_due)

pub returns-in-Err : goal.returns-in-Err
returns-in-Err g c = rw (← c.self.view_is) (refused_at_last g c).replies

-- ---- nobody is left

-- what an empty stock leaves
nobody_left : (g : Over) (c : goal.In_default-pop_front g)
    → AnswersSub (state_inside c.self.inside) c.args.name c.args.number (Refused Refusal.TooMany) c.may_subscribe.new.self (length c.pop_front.new.self.items) c.self.inside.woken
nobody_left g c =
    rw (← c.in_default-pop_front.ensures.items) (
    finds_nobody c.self.inside.hub (length c.self.inside.stock.items) c.self.inside.woken c.self.inside.beginning c.args.name c.args.number c.self.invariant.2
    (ap (λ (s : SessionState). s.beginning.is_over) c.self.view_is ∙ c.requires.begun) c.may_subscribe.new.self c.may_subscribe.new.due c.in_default.ensures.seen c.in_default.ensures.can c.may_subscribe.ensures.sound
    (nobody c.self.inside.stock.items c.pop_front.new.self.items c.in_default-pop_front.ensures.items c.in_default-pop_front.ensures.rest))

pub invariant_of-self-in_default-pop_front : goal.invariant_of-self-in_default-pop_front
invariant_of-self-in_default-pop_front g c = (
  All-same (λ b. (g.B.Listener.told b ≡ []) × (g.B.Listener.replied b ≡ [])) _ _ (sym c.in_default-pop_front.ensures.items) c.self.invariant.0,
  All-same (λ b. g.B.Listener.is_steady b ≡ true) _ _ (sym c.in_default-pop_front.ensures.items) c.self.invariant.1,
  (nobody_left g c).session,
  c.in_default.ensures.nothing_due ∙ c.self.invariant.3,
)

pub returns-in_default-pop_front : goal.returns-in_default-pop_front
returns-in_default-pop_front g c = rw (← c.self.view_is) (nobody_left g c).replies

-- ---- the next one subscribes

pub push-requires : goal.push-requires
push-requires g c = record {
  room =
      few_are_woken c.self.inside.hub (length c.self.inside.stock.items) c.self.inside.woken c.self.inside.beginning c.args.name c.args.number c.self.invariant.2
      (ap (λ (s : SessionState). s.beginning.is_over) c.self.view_is ∙ c.requires.begun) c.may_subscribe.new.self c.may_subscribe.new.due c.in_default.ensures.seen c.in_default.ensures.can c.may_subscribe.ensures.sound;
}

-- what it has requested
requested : (g : Over) (c : goal.After-push g)
    → c.in-Ok.desk ≡ desk_after_demand c.args.number (desk_at_start c.self.inside.beginning.order c.may_subscribe.new.self.capacity)
requested g c = c.in-Ok.ensures.ok ∙ ap (λ n. desk_after_demand c.args.number (desk_at_start c.self.inside.beginning.order n)) c.capacity.ensures

-- the publisher added it, while nothing was due
added : (g : Over) (c : goal.After-push g)
    → Admits end_of DoesCall c.args.name c.in-Ok.desk None USUAL_LIVE c.in_ok-entry-in-Ok.entry [] c.admit.new.due.items c.may_subscribe.new.self c.admit.new.self
added g c =
    subst (λ (d : List (Work Unit)). Admits end_of DoesCall c.args.name c.in-Ok.desk None USUAL_LIVE c.in_ok-entry-in-Ok.entry d c.admit.new.due.items c.may_subscribe.new.self c.admit.new.self)
    (c.in_default.ensures.nothing_due ∙ c.self.invariant.3) c.in_ok-entry-in-Ok.ensures.ok

-- what the new one leaves
subscribed : (g : Over) (c : goal.After-push g)
    → AnswersSub (state_inside c.self.inside) c.args.name c.args.number (Name c.args.name) c.admit.new.self (length c.pop_front.new.self.items) c.push.new.self
subscribed g c =
    let left = one_fewer c.in-Some.subscriber c.self.inside.stock.items c.pop_front.new.self.items c.in-Some.ensures.items in
    rw (c.push.ensures, left.1) (
    admitted c.self.inside.hub (length c.self.inside.stock.items) c.self.inside.woken c.self.inside.beginning c.args.name c.args.number c.self.invariant.2
    (ap (λ (s : SessionState). s.beginning.is_over) c.self.view_is ∙ c.requires.begun) c.may_subscribe.new.self c.may_subscribe.new.due c.in_default.ensures.seen c.in_default.ensures.can c.may_subscribe.ensures.sound
    c.admit.new.self c.in_ok-entry-in-Ok.entry c.in-Ok.desk c.admit.new.due.items left.0 (requested g c) (added g c) c.admit.ensures.sound)

pub invariant_of-self-in-Ok : goal.invariant_of-self-in-Ok
invariant_of-self-in-Ok g c = (
  All-rest (λ b. (g.B.Listener.told b ≡ []) × (g.B.Listener.replied b ≡ [])) _ _ _ c.in-Some.ensures.items c.self.invariant.0,
  All-rest (λ b. g.B.Listener.is_steady b ≡ true) _ _ _ c.in-Some.ensures.items c.self.invariant.1,
  (subscribed g c).session,
  admitted_starts_nothing c.self.inside.hub (length c.self.inside.stock.items) c.self.inside.woken c.self.inside.beginning c.args.name c.args.number c.self.invariant.2
      (ap (λ (s : SessionState). s.beginning.is_over) c.self.view_is ∙ c.requires.begun) c.may_subscribe.new.self c.may_subscribe.new.due c.in_default.ensures.seen c.in_default.ensures.can c.may_subscribe.ensures.sound
      c.admit.new.self c.in_ok-entry-in-Ok.entry c.in-Ok.desk c.admit.new.due.items (requested g c) (added g c),
)

pub returns-in_ok-entry-in-Ok : goal.returns-in_ok-entry-in-Ok
returns-in_ok-entry-in-Ok g c = rw (← c.self.view_is) (subscribed g c).replies

-- ---- memory is refused for its buffer

-- what is left where it comes back to the stock
no_buffer : (g : Over) (c : goal.After-push_back_reserved g)
    → AnswersSub (state_inside c.self.inside) c.args.name c.args.number (Refused Refusal.NoMemory) c.may_subscribe.new.self (length c.push_back_reserved.new.self.items) c.self.inside.woken
no_buffer g c =
    let left = one_fewer c.in-Some.subscriber c.self.inside.stock.items c.pop_front.new.self.items c.in-Some.ensures.items in
    rw (one_back c.in-Some.subscriber c.in-Err-new_desk.subscriber c.self.inside.stock.items c.pop_front.new.self.items c.push_back_reserved.new.self.items c.in-Some.ensures.items c.push_back_reserved.ensures.items) (
    gets_no_buffer c.self.inside.hub (length c.self.inside.stock.items) c.self.inside.woken c.self.inside.beginning c.args.name c.args.number c.self.invariant.2
    (ap (λ (s : SessionState). s.beginning.is_over) c.self.view_is ∙ c.requires.begun) c.may_subscribe.new.self c.may_subscribe.new.due c.in_default.ensures.seen c.in_default.ensures.can c.may_subscribe.ensures.sound
    left.0)

pub invariant_of-self-in-Err-new_desk : goal.invariant_of-self-in-Err-new_desk
invariant_of-self-in-Err-new_desk g c =
    let back = λ (P : g.row.B.Denot → Type 0).
    all_back P c.in-Some.subscriber c.in-Err-new_desk.subscriber c.self.inside.stock.items c.pop_front.new.self.items c.push_back_reserved.new.self.items c.in-Some.ensures.items c.in-Err-new_desk.ensures.back c.push_back_reserved.ensures.items in (
      back (λ b. (g.B.Listener.told b ≡ []) × (g.B.Listener.replied b ≡ [])) c.self.invariant.0,
      back (λ b. g.B.Listener.is_steady b ≡ true) c.self.invariant.1,
      (no_buffer g c).session,
      ◌∙◌ {A = List (Work Unit)} c.in_default.ensures.nothing_due c.self.invariant.3,
    )

pub returns-in-Err-new_desk : goal.returns-in-Err-new_desk
returns-in-Err-new_desk g c = rw (← c.self.view_is) (no_buffer g c).replies
