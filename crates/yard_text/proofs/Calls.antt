-- One call more, for the loops that read begin lines and steps, and the calls of a whole input.
use Rattle.std.proofs.Common.{◌≡◌, ℕ, ◌+◌, ◌<◌, ◌≤◌, List, [], ◌∷◌, ◌++◌, length, map, get_or, drop, sym, refl, ap, ◌∙◌, subst, arith, add-one, append_assoc, append-nil, inl, inr, ℤ}
use Rattle.std.proofs.lemmas.List.{drop_more}
use Rattle.std.specs.Char.{digit_value}
use Rattle.table.specs.declared.answer.Call.{Call}
use Rattle.table.specs.declared.answer.Call.TheVariants.{Begin, Step}
use Rattle.yard_text.specs.Input.{Line, NoLine, Begins, NoDigit, step_at, collects, Asks}
use Rattle.yard_text.specs.Input.Begins.{three, cut_short, line}
use Rattle.yard_text.specs.Reading.{AddsSteps}

-- begins that go on from the place p at the bytes `left` complete the calls
abbrev pub Joins : List ℕ → List Call → ℕ → List ℕ → Type 0
Joins bs calls p left = (cs : List Call) (end : List ℕ) → Begins p left cs end → Begins 0 bs (calls ++ cs) end

-- the begins so far, where they end
joins_end : (bs left : List ℕ) (calls : List Call) (p : ℕ) → Joins bs calls p left → Begins p left [] left → Begins 0 bs calls left
joins_end bs left calls p j b = subst (λ l. Begins 0 bs l left) (append-nil calls) (j [] left b)

-- the begins where no line follows, and where there are three
pub joins_short : (bs left : List ℕ) (calls : List Call) (p : ℕ) → p < 3 → Joins bs calls p left → NoLine left → Begins 0 bs calls left
joins_short bs left calls p lt j none = joins_end bs left calls p j (cut_short p left lt none)

pub joins_three : (bs left : List ℕ) (calls : List Call) (p : ℕ) → p ≡ 3 → Joins bs calls p left → Begins 0 bs calls left
joins_three bs left calls p e j = joins_end bs left calls p j (subst (λ q. Begins q left [] left) (sym e) (three left))

-- one line more
pub joins_more
    : (bs left front rest : List ℕ) (calls new : List Call) (p t : ℕ) (a : ℤ) → p < 3 → Joins bs calls p left → left ≡ front ++ rest → Line front t a
    → new ≡ calls ++ Begin p t a ∷ [] → Joins bs new (p + 1) rest
joins_more bs left front rest calls new p t a lt j cut l e = λ cs end b.
    let next = subst (λ q. Begins q rest cs end) (add-one p) b in
    let whole = j (Begin p t a ∷ cs) end (line p left front rest end t a cs lt cut l next) in
    subst (λ x. Begins 0 bs x end) (sym (append_assoc calls (Begin p t a ∷ []) cs) ∙ ap (λ x. x ++ cs) (sym e)) whole

-- steps that go on at the bytes `left` are all the steps
abbrev pub GoesOn : List ℕ → List Call → List ℕ → List Call → Type 0
GoesOn bs old left calls = (new : List Call) → AddsSteps left calls new → AddsSteps bs old new

-- no step, where no digit stands first
pub no_steps : (bs : List ℕ) (old : List Call) → NoDigit bs → AddsSteps bs old old
no_steps bs old none = record {
  steps = [];
  front = record { rest = bs; bytes = refl; digits = tt; whole = none };
  added = sym (append-nil old);
}

-- what begins with a byte that is no digit
pub no_digit_at : (bs : List ℕ) (i : ℕ) → i < length bs → 10 ≤ digit_value (get_or bs i 0) → NoDigit (drop i bs)
no_digit_at bs i lt le = subst NoDigit (sym (drop_more bs i 0 lt)) le

-- one step more
pub steps_more
    : (bs : List ℕ) (old calls new : List Call) (i p : ℕ) → GoesOn bs old (drop i bs) calls → i < length bs → digit_value (get_or bs i 0) ≡ p → p < 10
    → new ≡ calls ++ Step p ∷ [] → GoesOn bs old (drop (i + 1) bs) new
steps_more bs old calls new i p g lt d small n = λ all s.
    let byte = get_or bs i 0 in
    g all (record {
      steps = byte ∷ s.steps;
      front = record {
        rest = s.front.rest;
        bytes = drop_more bs i 0 lt ∙ ap (λ l. byte ∷ l) s.front.bytes;
        digits = (subst (λ x. x < 10) (sym d) small, s.front.digits);
        whole = s.front.whole;
      };
      added = s.added ∙ ap (λ l. l ++ map step_at s.steps) (n ∙ ap (λ q. calls ++ Step q ∷ []) (sym d)) ∙ append_assoc calls (step_at byte ∷ []) (map step_at s.steps);
    })

-- no more than three begins
begins_length : {p : ℕ} {bs : List ℕ} {cs : List Call} {end : List ℕ} → Begins p bs cs end → length cs + p ≤ 3
begins_length (three bs) = omega arith
begins_length (cut_short p bs lt none) = omega arith
begins_length (line p bs front rest end t a cs lt e l b) = let h = begins_length b in omega arith

-- an input with steps, and one with fewer begin lines
pub asks_steps
    : (bs : List ℕ) (begins calls new : List Call) (rest : List ℕ) → Begins 0 bs begins rest → length begins ≡ 3 → AddsSteps rest begins calls
    → new ≡ calls ++ collects → Asks bs new
asks_steps bs begins calls new rest b full s e = record {
  begins = begins;
  rest = rest;
  steps = s.steps;
  lines = b;
  turns = inl (full, s.front);
  calls = e ∙ ap (λ l. l ++ collects) s.added ∙ append_assoc begins (map step_at s.steps) collects;
}

pub asks_no_steps : (bs : List ℕ) (begins new : List Call) (rest : List ℕ) → Begins 0 bs begins rest → ¬ (length begins ≡ 3) → new ≡ begins ++ collects → Asks bs new
asks_no_steps bs begins new rest b few e = let most = begins_length b in record {
  begins = begins;
  rest = rest;
  steps = [];
  lines = b;
  turns = inr (omega arith, refl);
  calls = e;
}
