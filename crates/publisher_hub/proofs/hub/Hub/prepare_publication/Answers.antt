-- If memory is refused before the looks, nothing has changed; after them all that was taken is still there.
use Rattle.std.proofs.Common.{◌≡◌, ◌∙◌, Result, Ok, Err, OnErr, OnOk, true, false, is_err, refl, rules, subst, sym, inl}
use Rattle.publisher_hub.specs.Hub.{hub_of}
use Rattle.publisher_hub.specs.Offering.{item_of}
use Rattle.publisher_hub.specs.Publishing.{CanPublish}
use Rattle.publisher_hub.proofs.Subscribed.AfterLooks.{each_untouched}
use Rattle.publisher_hub.proofs.PartialRounds.Progress.{same_some}
use Rattle.publisher_hub.proofs.Subscribed.Readiness.{on_err}
use Rattle.publisher_hub.proofs.hub.Hub.prepare_publication.Goals as goal

-- an Ok has nothing to say on an error, nor an Err on an Ok
no_error : {A E : Type 0} (r : Result A E) (P : Type 0) → is_err r ≡ false → OnErr r P
no_error (Ok x) P off = tt
no_error (Err e) P off = cc

no_answer : {A E : Type 0} (r : Result A E) (P : Type 0) → is_err r ≡ true → OnOk r P
no_answer (Ok x) P on = cc
no_answer (Err e) P on = tt

pub returns-in_err-reserve-clause-looked : goal.returns-in_err-reserve-clause-looked
returns-in_err-reserve-clause-looked g c = record {
  rest = refl;
  entries = each_untouched c.args.self.now.next (hub_of g.F.Feed.meaning c.args.self.now).entries (λ k entry at. (c.requires.sound.entries k entry at).here);
}

pub returns-in_err-begin-clause-looked : goal.returns-in_err-begin-clause-looked
returns-in_err-begin-clause-looked g c = record {
  rest = refl;
  entries = each_untouched c.args.self.now.next (hub_of g.F.Feed.meaning c.args.self.now).entries (λ k entry at. (c.requires.sound.entries k entry at).here);
}

pub returns-else-is_err-clause-ready : goal.returns-else-is_err-clause-ready
returns-else-is_err-clause-ready g c =
    subst (λ hub. OnOk c.prepare_live-prepared.result (CanPublish (item_of c.args.stamp c.args.text.now) hub c.reserve.new.self)) (sym c.prepare_live-prepared.ensures.rest) (search rules)

pub returns-in_err-reserve-clause-exact : goal.returns-in_err-reserve-clause-exact
returns-in_err-reserve-clause-exact g c =
    on_err c.from_residual.result _ (record { as_long = refl; each = λ k x y at at'. inl (same_some (sym at' ∙ at)) })

pub returns-in_err-reserve-clause-sound : goal.returns-in_err-reserve-clause-sound
returns-in_err-reserve-clause-sound g c = c.requires.sound

pub returns-in_err-begin-clause-exact : goal.returns-in_err-begin-clause-exact
returns-in_err-begin-clause-exact g c =
    on_err c.from_residual-in_err-begin.result _ (record { as_long = refl; each = λ k x y at at'. inl (same_some (sym at' ∙ at)) })

pub returns-in_err-begin-clause-sound : goal.returns-in_err-begin-clause-sound
returns-in_err-begin-clause-sound g c = c.requires.sound

pub returns-then-is_err-clause-ok : goal.returns-then-is_err-clause-ok
returns-then-is_err-clause-ok g c = c.prepare_live-prepared.ensures.ok

pub returns-then-is_err-clause-exact : goal.returns-then-is_err-clause-exact
returns-then-is_err-clause-exact g c = c.prepare_live-prepared.ensures.exact

pub returns-then-is_err-clause-looked : goal.returns-then-is_err-clause-looked
returns-then-is_err-clause-looked g c = c.prepare_live-prepared.ensures.looked

pub returns-then-is_err-clause-sound : goal.returns-then-is_err-clause-sound
returns-then-is_err-clause-sound g c = c.prepare_live-prepared.ensures.sound

pub returns-then-is_err-clause-due : goal.returns-then-is_err-clause-due
returns-then-is_err-clause-due g c = c.reserve.ensures.items

pub returns-else-is_err-clause-ok : goal.returns-else-is_err-clause-ok
returns-else-is_err-clause-ok g c = c.prepare_live-prepared.ensures.ok

pub returns-else-is_err-clause-exact : goal.returns-else-is_err-clause-exact
returns-else-is_err-clause-exact g c = c.prepare_live-prepared.ensures.exact

pub returns-else-is_err-clause-looked : goal.returns-else-is_err-clause-looked
returns-else-is_err-clause-looked g c = c.prepare_live-prepared.ensures.looked

pub returns-else-is_err-clause-sound : goal.returns-else-is_err-clause-sound
returns-else-is_err-clause-sound g c = c.prepare_live-prepared.ensures.sound

pub returns-else-is_err-clause-due : goal.returns-else-is_err-clause-due
returns-else-is_err-clause-due g c = c.reserve.ensures.items

pub returns-then-is_err-clause-ready : goal.returns-then-is_err-clause-ready
returns-then-is_err-clause-ready g c = no_answer c.prepare_live-prepared.result _ (sym c.is_err.ensures.value ∙ c.if-is_err.true)

pub returns-then-is_err-clause-no_share : goal.returns-then-is_err-clause-no_share
returns-then-is_err-clause-no_share g c = on_err c.prepare_live-prepared.result _ c.drop_shares.ensures.shares

pub returns-else-is_err-clause-no_share : goal.returns-else-is_err-clause-no_share
returns-else-is_err-clause-no_share g c = no_error c.prepare_live-prepared.result _ (sym c.is_err.ensures.value ∙ c.if-is_err.false)
