-- Two names are equal if their bytes are.
use Rattle.std.proofs.Common.{◌≡◌, true, false, ◌<◌, ◌≤◌, length, refl, sym, ap, ◌∙◌, arith}
use Rattle.std.specs.Cmp.Lexicographic.{other_text, same_text}
use Rattle.std.proofs.lemmas.Option.{slice_get_read, slice_get_within}
use Rattle.publisher_hub.specs.declared.entry.Entry.{Entry}
use Rattle.publisher_hub.proofs.PartialRounds.Progress.{same_some}
use Rattle.publisher_hub.proofs.hub.look.is_named.Goals as goal

pub returns-in-Some-clause-yes : goal.returns-in-Some-clause-yes
returns-in-Some-clause-yes g c is =
    let equal : c.eq.result ≡ true = is in
    let lookup = c.in-Some.ensures.lookup in
    let at = slice_get_read c.args.entries.now _ c.args.number c.in-Some.entry.now refl lookup.3.0 lookup.1 in
    (c.in-Some.entry.now, (at, same_text c.in-Some.entry.now.name c.args.name (sym equal ∙ c.eq.ensures)))

pub returns-in-Some-clause-no : goal.returns-in-Some-clause-no
returns-in-Some-clause-no g c is entry there named =
    let other : c.eq.result ≡ false = is in
    let lookup = c.in-Some.ensures.lookup in
    let at = slice_get_read c.args.entries.now _ c.args.number c.in-Some.entry.now refl lookup.3.0 lookup.1 in
    let same : c.in-Some.entry.now ≡ entry = same_some (sym at ∙ there) in
    other_text c.in-Some.entry.now.name c.args.name (sym other ∙ c.eq.ensures) (ap (λ (e : Entry g.row.F.Denot). e.name) same ∙ named)

pub returns-in-None-clause-no : goal.returns-in-None-clause-no
returns-in-None-clause-no g c is entry there named =
    let past : length c.args.entries.now ≤ c.args.number = c.in-None.ensures.lookup.3 in
    let within : c.args.number < length c.args.entries.now = slice_get_within c.args.entries.now c.args.number entry there in
    absurd (omega arith)
