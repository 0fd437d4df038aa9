use Rattle.std.proofs.Common.{refl}
use Rattle.lines_demo.proofs.script.turn_lines.make_next.Goals as goal

pub returns : goal.returns
returns c =
    rw (c.in_ok-push.ensures.items, c.in_ok-extend_from_slice-3.ensures.items, c.in_ok-extend_from_slice-2.ensures.items, c.in_ok-extend_from_slice.ensures.items, c.clear.ensures.items, c.as_bytes.ensures) refl
