use Rattle.std.proofs.Common.{◌≡◌, ◌∷◌, [], List, length, refl, sym, ap, subst, ◌∙◌, append_assoc, append-nil, arith, rules}
use Rattle.std.specs.Vec.Iter.{into_iter_items}
use Rattle.std.proofs.lemmas.List.{length-append}
use Rattle.publisher.specs.Leaving.{ClosesAll}
use Rattle.publisher.proofs.LeftLanes.LeavingRounds.{closes_none, more_held, more_lane, more_missing, more_reclaimed}
use Rattle.publisher.proofs.finishing.close.close_all.Goals as goal
use Rattle.publisher.proofs.finishing.close.close_all.Goals.{in-Lane, in-Held, in-Missing, in-Reclaimed}

nothing_left : {X : Type 0} (l : List X) → length l ≡ 0 → l ≡ []
nothing_left [] none = refl
nothing_left (x ∷ xs) none = absurd (omega arith)

pub loop-found-init : goal.loop-found-init
loop-found-init g c =
    let gives = c.into_iter-found-iterator.ensures.into_iter_gives in
    let same : into_iter_items c.into_iter-found-iterator.result ≡ c.args.founds.items = gives.0 in (
      refl,
      search rules,
      closes_none g.B.Listener.told g.B.Listener.replied c.args.lanes.items c.args.held.items
          c.requires.empty.0 c.requires.empty.1,
      refl,
      rw same c.requires.room.0,
      rw same c.requires.room.1,
    )

pub loop-found-preserved : goal.loop-found-preserved
loop-found-preserved g c =
    let at = c.loop-found in
    let found = c.in-Some.found in
    let steps : into_iter_items at.found-iterator ≡ found ∷ into_iter_items c.next.new.self = c.in-Some.ensures.steps.0 in
    let told = g.B.Listener.told in (
      append_assoc at.yielded (found ∷ []) _ ∙ rw (← steps) at.invariant.0,
      let was = at.invariant.1 in
          let gone = c.in-Some.ensures.steps.1 in
          let short = ap length steps in
          omega arith,
      elim c.match-close_one.branch [
        | in-Lane w ↦ rw (w.lanes-is, w.held-is, w.first-is, w.push_reserved.ensures.items)
            (more_lane told g.B.Listener.replied at.yielded at.number at.lanes.items at.held.items
            at.first at.invariant.2 at.invariant.3 found w.in-Lane.left w.in-Lane.ensures)
        | in-Held w ↦ rw (w.lanes-is, w.held-is, w.push_reserved-in-Held.ensures.items)
            (more_held told g.B.Listener.replied at.yielded at.number at.lanes.items at.held.items
            at.first at.invariant.2 at.invariant.3 found w.in-Held.name c.match-close_one.first
            (λ none. rw (w.first-is, w.or-first.ensures, none) refl)
            (λ first some. rw (w.first-is, w.or-first.ensures, some) refl) w.in-Held.ensures)
        | in-Missing w ↦ rw (w.lanes-is, w.held-is)
            (more_missing told g.B.Listener.replied at.yielded at.number at.lanes.items at.held.items
            at.first at.invariant.2 at.invariant.3 found w.in-Missing.name c.match-close_one.first
            (λ none. rw (w.first-is, w.or-first-in-Missing.ensures, none) refl)
            (λ first some. rw (w.first-is, w.or-first-in-Missing.ensures, some) refl) w.in-Missing.ensures)
        | in-Reclaimed w ↦ rw (w.lanes-is, w.held-is, w.first-is)
            (more_reclaimed told g.B.Listener.replied at.yielded at.number at.lanes.items at.held.items
            at.first at.invariant.2 at.invariant.3 found w.in-Reclaimed.ensures)
      ],
      let many = length-append at.yielded (found ∷ []) in
          let same = at.invariant.3 in
          omega arith,
      elim c.match-close_one.branch [
        | in-Lane w ↦ rw (w.lanes-is, w.push_reserved.ensures.capacity) at.invariant.4
        | in-Held w ↦ rw w.lanes-is at.invariant.4
        | in-Missing w ↦ rw w.lanes-is at.invariant.4
        | in-Reclaimed w ↦ rw w.lanes-is at.invariant.4
      ],
      elim c.match-close_one.branch [
        | in-Lane w ↦ rw w.held-is at.invariant.5
        | in-Held w ↦ rw (w.held-is, w.push_reserved-in-Held.ensures.capacity) at.invariant.5
        | in-Missing w ↦ rw w.held-is at.invariant.5
        | in-Reclaimed w ↦ rw w.held-is at.invariant.5
      ],
    )

pub returns : goal.returns
returns g c =
    let at = c.loop-found in
    let none = c.in-None.ensures.steps in
    let empty : into_iter_items at.found-iterator ≡ [] = nothing_left _ (sym at.invariant.1 ∙ none.0) in
    let all : at.yielded ≡ c.args.founds.items = sym (append-nil at.yielded) ∙ rw empty at at.invariant.0
    ∙ c.into_iter-found-iterator.ensures.into_iter_gives.0 in
    let number : at.number ≡ length c.args.founds.items = at.invariant.3 ∙ ap length all in
    subst (λ n. ClosesAll g.B.Listener.told g.B.Listener.replied c.args.founds.items n at.lanes.items
    at.held.items at.first) number
    (subst (λ founds. ClosesAll g.B.Listener.told g.B.Listener.replied founds at.number at.lanes.items
    at.held.items at.first) all at.invariant.2)
