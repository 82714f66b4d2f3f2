use Rattle.std.proofs.Common.{◌≡◌, ℕ, ◌-◌, ◌<◌, List, [], ◌∷◌, length, get_or, take, drop, ℤ, Ok, refl, ap, ◌∙◌, subst, to_z-of_z, rules, w32, SFits, to_z, of_z}
use Rattle.std.proofs.lemmas.List.{take_rest}
use Rattle.rules.specs.declared.state.State.{State}
use Rattle.workload.specs.Format.{WrongByte, signed, state_of}
use Rattle.workload.specs.Reads.{wrong, sound}
use Rattle.workload.proofs.read.Rest.record.Goals as goal

-- the state that is made of the bytes, once its operand is stored
made : (bs : List ℕ) (z : ℤ) → SFits w32 z → z ≡ signed (get_or bs 2 0) (get_or bs 3 0) (get_or bs 4 0) (get_or bs 5 0)
    → ◌≡◌ {A = State} (record { item = get_or bs 0 0; code = get_or bs 1 0; operand = to_z w32 (of_z w32 z); arc_count = get_or bs 6 0; arcs = get_or bs 7 0 ∷ get_or bs 8 0 ∷ get_or bs 9 0 ∷ get_or bs 10 0 ∷ [] }) (state_of bs)
made bs z f e =
    ap (λ (y : ℤ). record { item = get_or bs 0 0; code = get_or bs 1 0; operand = y; arc_count = get_or bs 6 0; arcs = get_or bs 7 0 ∷ get_or bs 8 0 ∷ get_or bs 9 0 ∷ get_or bs 10 0 ∷ [] })
    (to_z-of_z f ∙ e)

pub returns-in-Some : goal.returns-in-Some
returns-in-Some c =
    let l = c.args.limits in
    let k = c.in-Some.k in
    let h = c.in-Some.ensures in
    let e = made c.args.self.now.bytes.now c.from_be_bytes.result (search rules) c.from_be_bytes.ensures in (
      refl,
      rw c.place.ensures (wrong k c.in-len11-up.len_at_least
          (subst (λ (s : State). WrongByte l.items l.codes l.states s k) e h.1)
          (subst (λ (s : State). (q : ℕ) → q < k → WrongByte l.items l.codes l.states s q → ⊥) e h.2) refl),
    )

pub returns : goal.returns
returns c =
    let bs = c.args.self.now.bytes.now in
    let l = c.args.limits in
    let e = made bs c.from_be_bytes.result (search rules) c.from_be_bytes.ensures in (
      refl,
      sound c.in-len11-up.len_at_least (subst (λ (s : State). (k : ℕ) → WrongByte l.items l.codes l.states s k → ⊥) e c.in_default-wrong_byte.ensures)
          (ap (λ (s : State). Ok (s, take (length bs - 11) (drop 11 bs))) e ∙ ap (λ (r : List ℕ). Ok (state_of bs, r)) (take_rest bs 11)),
    )
