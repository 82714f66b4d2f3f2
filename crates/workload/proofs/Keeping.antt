-- What an answer says, by its cases.
use Rattle.std.proofs.Common.{Some, None, Option, MatchOption}

pub by_cases : {X : Type 0} (r : Option X) {A B : Type 0} {P Q : X → Type 0} → MatchOption r A P → (A → B) → ((x : X) → P x → Q x) → MatchOption r B Q
by_cases None h f g = f h
by_cases (Some x) h f g = g x h
