use Rattle.std.proofs.Common.{◌<◌, length, rules}
use Rattle.lines_demo.specs.Threads.Input.{AddsLine}
use Rattle.lines_demo.proofs.Inputs.Lines.{SpellsFirst, spells_none, spells_first, spells_more, spells_all, refused_line}
use Rattle.lines_demo.proofs.Scripts.Lines.{lines_split}
use Rattle.commands.proofs.Writers.{empty_is}
use Rattle.lines_demo.proofs.threads.input.parse_publications.Goals as goal

pub loop-rest-init : goal.loop-rest-init
loop-rest-init c = rw c.new-publications.ensures.items (spells_none c.args.bytes.now)

pub loop-rest-preserved : goal.loop-rest-preserved
loop-rest-preserved c =
    let bytes = c.args.bytes.now in
    let line = c.split_line.result.0.now in
    let rest = c.split_line.result.1.now in
    let some : 0 < length c.loop-rest.rest.now = search rules in
    let adds : AddsLine c.strip_return.result.now c.loop-rest.publications.items c.push_line.new.publications.items = c.in_default.ensures.ok in
    let first : SpellsFirst bytes c.loop-rest.publications.items line rest =
    spells_first bytes c.loop-rest.rest.now line rest c.loop-rest.publications.items c.loop-rest.invariant (lines_split c.loop-rest.rest.now line rest some c.split_line.ensures.line c.split_line.ensures.rest) in
    spells_more bytes line c.strip_return.result.now rest c.loop-rest.publications.items c.push_line.new.publications.items first c.strip_return.ensures adds

pub returns-in-Err-clause-refusals : goal.returns-in-Err-clause-refusals
returns-in-Err-clause-refusals c =
    let bytes = c.args.bytes.now in
    let line = c.split_line.result.0.now in
    let rest = c.split_line.result.1.now in
    let some : 0 < length c.loop-rest.rest.now = search rules in
    let first : SpellsFirst bytes c.loop-rest.publications.items line rest =
    spells_first bytes c.loop-rest.rest.now line rest c.loop-rest.publications.items c.loop-rest.invariant (lines_split c.loop-rest.rest.now line rest some c.split_line.ensures.line c.split_line.ensures.rest) in
    refused_line bytes line c.strip_return.result.now rest c.loop-rest.publications.items c.in-Err.refusal first c.strip_return.ensures c.in-Err.ensures.refusals

pub returns-clause-ok : goal.returns-clause-ok
returns-clause-ok c = spells_all c.args.bytes.now c.loop-rest.rest.now _ c.loop-rest.invariant (empty_is _ c.loop-rest-test.ensures)
