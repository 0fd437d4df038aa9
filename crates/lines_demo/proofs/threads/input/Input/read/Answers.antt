use Rattle.std.proofs.Common.{◌≡◌, true, false, length, sym, inl, rules}
use Rattle.std.specs.List.{list_any}
use Rattle.lines_demo.specs.Prelude.{capacity_of}
use Rattle.lines_demo.specs.Threads.Input.{would_block}
use Rattle.std.proofs.lemmas.Result.{err_from_is_err_and}
use Rattle.lines_demo.proofs.Inputs.Checked.{line_refused, sources_refused, blocking_refused, input_passes}
use Rattle.lines_demo.proofs.threads.input.Input.read.Goals as goal

pub returns-in_err-publications : goal.returns-in_err-publications
returns-in_err-publications c =
    let failed = err_from_is_err_and c.from_residual.result c.from_residual.ensures.1 in
    rw (failed.1, failed.2) (line_refused c.args.plan.now c.args.bytes.now c.in_err-publications.field-0.0 c.in_err-publications.ensures.refusals)

pub returns-in_err-sources : goal.returns-in_err-sources
returns-in_err-sources c =
    let failed = err_from_is_err_and c.from_residual-in_err-sources.result c.from_residual-in_err-sources.ensures.1 in
    let refused = rw c.as_slice.ensures.value at c.in_err-sources.ensures.refusals in
    rw (failed.1, failed.2) (sources_refused c.args.plan.now c.args.bytes.now c.in_ok-publications.publications.items c.in_err-sources.field-0.0 c.in_ok-publications.ensures.ok refused)

pub returns-then-would_block : goal.returns-then-would_block
returns-then-would_block c =
    let known = rw c.as_slice.ensures.value at c.in_ok-sources.ensures.ok in
    let few = rw known.0 at known.1 in
    let blocks : list_any (would_block (capacity_of c.args.plan.now.capacity) (length c.in_ok-publications.publications.items)) c.args.plan.now.subscribers ≡ true = search rules in
    inl (sym (blocking_refused c.args.plan.now c.args.bytes.now c.in_ok-publications.publications.items c.in_ok-publications.ensures.ok few blocks))

pub returns : goal.returns
returns c =
    let known = rw c.as_slice.ensures.value at c.in_ok-sources.ensures.ok in
    let few = rw known.0 at known.1 in
    let passes : list_any (would_block (capacity_of c.args.plan.now.capacity) (length c.in_ok-publications.publications.items)) c.args.plan.now.subscribers ≡ false = search rules in
    inl (rw known.0 (sym (input_passes c.args.plan.now c.args.bytes.now c.in_ok-publications.publications.items c.in_ok-publications.ensures.ok few passes)))
