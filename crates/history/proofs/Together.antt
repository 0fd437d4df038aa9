-- What a seat is that has met another one, and that has parted from it.
use Rattle.std.proofs.Common.{◌≡◌, ℕ, true, false, List, [], ◌∷◌, sym, ap, ◌∙◌, subst}
use Rattle.atomic_table.specs.Table.{Me, Splits}
use Rattle.history.specs.declared.rule.Entry.{Entry}
use Rattle.history.specs.declared.rule.View.{View}
use Rattle.history.specs.History.{keeper, writer, after_making, made_source, writer_part, keeper_part, together, returned}
use Rattle.history.proofs.Moves.{Holds, makes}

-- who is writer and keeper at once
abbrev pub both : List Entry → ℕ → List ℕ → ℕ → List (List ℕ) → View
both log made back source sent = record { keeps = true; log = log; made = made; back = back; writes = true; source = source; sent = sent; claims = false; seen = [] }

pub makes_as : (by : ℕ) (me : Me (Unit {0}) View) → me ≡ (keeper me.0.log me.0.made me.0.back, []) → Splits Holds by me.0 (after_making me.0) (made_source me.0)
makes_as by me is = subst (λ (x : Me (Unit {0}) View). Splits Holds by x.0 (after_making x.0) (made_source x.0)) (sym is) (makes by me.0.log me.0.made me.0.back)

-- a writer that took in the keeper's part
pub joined_is : (self pass given joined : Me (Unit {0}) View) → self ≡ (keeper self.0.log self.0.made self.0.back, []) → pass ≡ (writer pass.0.source pass.0.sent, [])
    → given ≡ (keeper_part self.0, []) → joined ≡ (together pass.0 given.0, pass.1)
    → joined ≡ (both self.0.log self.0.made self.0.back pass.0.source pass.0.sent, [])
joined_is self pass given joined s p g j =
    let g' : given ≡ (keeper self.0.log self.0.made self.0.back, []) = g ∙ ap (λ (x : Me (Unit {0}) View). (keeper_part x.0, [])) s in
    j ∙ (λ i. (together (p i).0 (g' i).0, (p i).1))

pub is_keeper : (me after : Me (Unit {0}) View) (log : List Entry) (made : ℕ) (back : List ℕ) (source : ℕ) (sent : List (List ℕ)) → after ≡ (both log made back source sent, []) → me ≡ (keeper_part after.0, []) → me ≡ (keeper log made back, [])
is_keeper me after log made back source sent a is = is ∙ ap (λ (x : Me (Unit {0}) View). (keeper_part x.0, [])) a

pub is_writer : (me after : Me (Unit {0}) View) (log : List Entry) (made : ℕ) (back : List ℕ) (source : ℕ) (sent : List (List ℕ)) → after ≡ (both log made back source sent, []) → me ≡ (writer_part after.0, after.1) → me ≡ (writer source sent, [])
is_writer me after log made back source sent a is = is ∙ ap (λ (x : Me (Unit {0}) View). (writer_part x.0, x.1)) a

pub is_returned : (me joined : Me (Unit {0}) View) (log : List Entry) (made : ℕ) (back : List ℕ) (source : ℕ) (sent : List (List ℕ)) → joined ≡ (both log made back source sent, []) → me ≡ (returned joined.0, joined.1) → me ≡ (keeper log made (source ∷ back), [])
is_returned me joined log made back source sent j is = is ∙ ap (λ (x : Me (Unit {0}) View). (returned x.0, x.1)) j

pub keeper_itself : (me : Me (Unit {0}) View) (log : List Entry) (made : ℕ) (back : List ℕ) → me ≡ (keeper log made back, []) → me ≡ (keeper me.0.log me.0.made me.0.back, [])
keeper_itself me log made back is = is ∙ ap (λ (x : Me (Unit {0}) View). (keeper x.0.log x.0.made x.0.back, [])) (sym is)

pub writer_itself : (me : Me (Unit {0}) View) (source : ℕ) (sent : List (List ℕ)) → me ≡ (writer source sent, []) → me ≡ (writer me.0.source me.0.sent, [])
writer_itself me source sent is = is ∙ ap (λ (x : Me (Unit {0}) View). (writer x.0.source x.0.sent, [])) (sym is)
