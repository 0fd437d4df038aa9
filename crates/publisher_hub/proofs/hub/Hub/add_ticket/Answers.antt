-- A closed Hub answers no ticket; what an open Hub answers is of the count of its opening ticket.
use Rattle.std.proofs.Common.{Result, Ok, Err, OnErr, Option, ap, refl}
use Rattle.close_count.specs.declared.opening.Opening.{Opening}
use Rattle.publisher_hub.proofs.hub.Hub.add_ticket.Goals as goal

-- what holds after a refusal, if no refusal was made
refused : {A E : Type 0} {P Q : Type 0} (r : Result A E) → (P → Q) → OnErr r P → OnErr r Q
refused (Ok x) more so = tt
refused (Err e) more so = more so

pub returns-then-is_some-clause-closed : goal.returns-then-is_some-clause-closed
returns-then-is_some-clause-closed g c closed = (refl, refl)

pub returns-then-is_some-clause-refusals : goal.returns-then-is_some-clause-refusals
returns-then-is_some-clause-refusals g c = tt

pub returns-then-is_some-clause-rest : goal.returns-then-is_some-clause-rest
returns-then-is_some-clause-rest g c = refl

pub returns-then-is_some-clause-sound : goal.returns-then-is_some-clause-sound
returns-then-is_some-clause-sound g c = c.requires.sound

pub returns-then-is_some-clause-keeps : goal.returns-then-is_some-clause-keeps
returns-then-is_some-clause-keeps g c name most due can = can

pub returns-clause-ok : goal.returns-clause-ok
returns-clause-ok g c unclosed = c.one_more.ensures.ok

pub returns-clause-refusals : goal.returns-clause-refusals
returns-clause-refusals g c = c.one_more.ensures.refusals

pub returns-clause-unchanged : goal.returns-clause-unchanged
returns-clause-unchanged g c =
    refused c.one_more.result (λ same. ap (λ (opening : Option Opening). record c.args.self.now { opening = opening }) same) c.one_more.ensures.unchanged

pub returns-clause-rest : goal.returns-clause-rest
returns-clause-rest g c = refl

pub returns-clause-keeps : goal.returns-clause-keeps
returns-clause-keeps g c name most due can = record {
  due_place = can.due_place;
  place = record { entry_place = can.place.entry_place; number_place = can.place.number_place; few_live = can.place.few_live; few_entries = can.place.few_entries };
  ready = can.ready;
  unnamed = can.unnamed;
}
