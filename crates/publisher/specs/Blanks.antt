-- What a publisher's ledgers and its history are opened with.
use Rattle.std.specs.Prelude.{◌≡◌, ℕ}
use Rattle.atomic_table.specs.Seated.{TableId}
use Rattle.std.specs.declared.sync.ledger.Blank.{Blank}
use Rattle.publisher.specs.declared.ledgers.BlankPair.{BlankPair}
use Rattle.publisher.specs.declared.state.TheConstants.{PARTS}

-- the blank of a ledger with this name, with as many parts as a publisher's ledger has
abbrev pub IsBlankOf : Blank → ℕ → Type 0
IsBlankOf blank name = (blank.name ≡ name) × (blank.parts ≡ PARTS)

-- the blanks of a publisher's two ledgers, which have these names, and of its history, which has this table
abbrev pub AreBlanksOf : BlankPair → ℕ → ℕ → TableId → Type 0
AreBlanksOf pair publications drops history = IsBlankOf pair.publications publications
    × (IsBlankOf pair.drops drops × (pair.history ≡ history))
