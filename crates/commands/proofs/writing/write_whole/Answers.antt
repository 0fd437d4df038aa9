use Rattle.std.proofs.Common.{◌≡◌, [], ◌++◌, ◌∙◌, refl, ap}
use Rattle.std.proofs.lemmas.List.{append-nil, take_rest}
use Rattle.std.proofs.KnownBytes.{Appends-nil}
use Rattle.commands.proofs.Writers.{appends_kept, writes_all, writes_prefix, writes_more, empty_is}
use Rattle.commands.proofs.writing.write_whole.Goals as goal
use Rattle.commands.proofs.writing.write_whole.Goals.{in-Ok, in-Err+else-ne}

pub loop-init : goal.loop-init
loop-init g c = ([], Appends-nil (g.W.Write.contents c.args.writer.now), refl)

pub returns-then-is_empty : goal.returns-then-is_empty
returns-then-is_empty g c =
    let i = c.loop.invariant in
    let all : c.args.bytes.now ≡ i.0 = i.2 ∙ ap (λ rest. i.0 ++ rest) (empty_is c.loop.rest.now c.if-is_empty.ensures) ∙ append-nil i.0 in
    rw all (writes_all _ _ i.0 i.1)

pub returns-in-Ok-eq0 : goal.returns-in-Ok-eq0
returns-in-Ok-eq0 g c =
    let i = c.loop.invariant in
    let more = writes_more _ _ _ c.in-Ok-eq0.field-0 i.0 c.loop.rest.now c.args.bytes.now i.1 i.2 c.in-Ok-eq0.ensures.bytes in
    writes_prefix _ _ more.0 _ _ more.1 more.2

pub returns-then-ne : goal.returns-then-ne
returns-then-ne g c =
    let i = c.loop.invariant in
    writes_prefix _ _ i.0 c.loop.rest.now _ (appends_kept _ _ _ i.0 i.1 c.in-Err.ensures.bytes) i.2

pub loop-preserved : goal.loop-preserved
loop-preserved g c =
    let i = c.loop.invariant in
    elim c.match-write.branch [
      | in-Ok w ↦
          let more = writes_more _ _ _ w.in-Ok.count i.0 c.loop.rest.now c.args.bytes.now i.1 i.2 w.in-Ok.ensures.bytes in
          let left = take_rest c.loop.rest.now w.in-Ok.count in
          (more.0, more.1, rw (w.rest-is, left) more.2)
      | in-Err+else-ne w ↦ (i.0, appends_kept _ _ _ i.0 i.1 w.in-Err.ensures.bytes, rw w.rest-is i.2)
    ]

pub returns : goal.returns
returns g c = let i = c.loop.invariant in writes_prefix _ _ i.0 _ _ i.1 i.2
