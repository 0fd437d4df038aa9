-- What comes out of a queue.
use Rattle.std.specs.Prelude.{Option, None, Some, List, [], ◌∷◌}

-- what comes out first of what waits and of the last value, and what is left of both
abbrev pub takes : {T : Type 0} → List T → Option T → Option T × (List T × Option T)
takes [] last = (last, ([], None))
takes (first ∷ waiting) last = (Some first, (waiting, last))
