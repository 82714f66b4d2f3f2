-- The course of the listing: what each job's record is after each of its steps.
use Rattle.std.proofs.Common.{◌≡◌, ℕ, suc, ◌≤◌, Bool, true, false, List, [], ◌∷◌, take, ℤ, pos, refl, inl, arith}
use Rattle.std.specs.Prelude.{reverse}
use Rattle.std.proofs.Math.Option.{none, some}
use Rattle.model.specs.Journal.{Reached, new}
use Rattle.model.specs.Table.{Job, MayGo, new_job, ended, released, worked, locked, gone, finished, Table}
use Rattle.model.specs.Table.{releases, works, locks, goes, closes, finishes}
use Rattle.model.specs.Workload.{self}
use Rattle.model.proofs.Job.{clash}
use Rattle.examples.specs.Listing.{listing_workload, at_first, listing, listing_events}
use Rattle.examples.proofs.Facts.{below_root, first_root, second_named, second_root, third_named, third_root}
use Rattle.examples.proofs.Facts.{unheld_stays, named_stays, root_stays, one_goes, root_goes, names_one, names_two}
use Rattle.examples.proofs.Turns.{tallies, each, items, job, seats, table, but_zero, but_one, but_two, wants_root, wants_named}
use Rattle.examples.proofs.Turns.{nobody, done_one}
use Rattle.examples.proofs.Turns.{Does, first_begins, second_begins, third_begins, first_steps, second_steps, third_steps}
use Rattle.examples.proofs.Turns.{first_collects, second_collects, third_collects, on}

abbrev nothing : ℕ → Bool
nothing x = false

-- the tallies after the first work of the first job, and after that of the third
abbrev added : List ℤ
added = pos 0 ∷ pos 10 ∷ pos 0 ∷ []

abbrev pub at_end : List ℤ
at_end = pos 0 ∷ pos 10 ∷ pos 7 ∷ []

-- ---- the records

-- the first job, at the place 0
abbrev first_0 : Job
first_0 = new_job 0 (pos 10)

abbrev first_1 : Job
first_1 = job 0 0 false (pos 10) (items true false false) (items true false false) nothing

abbrev first_2 : Job
first_2 = job 0 0 false (pos 10) (items true true false) (items true true false) nothing

abbrev first_3 : Job
first_3 = job 0 0 true (pos 0) (items true true false) (items true true false) nothing

abbrev first_4 : Job
first_4 = job 0 1 false (pos 0) (items true true false) (items true true false) (items false true false)

abbrev first_5 : Job
first_5 = job 0 1 false (pos 0) (items true false false) (items true true false) (items false true false)

abbrev first_6 : Job
first_6 = job 0 1 false (pos 0) (items true false true) (items true true true) (items false true false)

abbrev first_7 : Job
first_7 = job 0 1 false (pos 0) (items false false true) (items true true true) (items false true false)

abbrev first_8 : Job
first_8 = job 0 1 true (pos 7) (items false false true) (items true true true) (items false true false)

abbrev first_9 : Job
first_9 = job 0 1 true (pos 7) (items false false false) (items true true true) (items false true false)

-- the second, at the place 1
abbrev second_0 : Job
second_0 = new_job 1 (pos 0)

abbrev second_1 : Job
second_1 = job 1 0 false (pos 0) (items false true false) (items false true false) nothing

abbrev second_2 : Job
second_2 = job 1 0 true (pos 10) (items false true false) (items false true false) nothing

abbrev second_3 : Job
second_3 = job 1 0 true (pos 10) (items false false false) (items false true false) nothing

-- the third, at the place 2
abbrev third_0 : Job
third_0 = new_job 2 (pos 7)

abbrev third_1 : Job
third_1 = job 2 0 false (pos 7) (items false false true) (items false false true) nothing

abbrev third_2 : Job
third_2 = job 2 0 true (pos 0) (items false false true) (items false false true) nothing

abbrev third_3 : Job
third_3 = job 2 0 true (pos 0) (items false false false) (items false false true) nothing

-- ---- what stays, and which held item is the lowest

module _ (J : Job) where
  -- nothing may go where none of the first three items may, and no other is held
  stay
      : ¬ MayGo listing_workload J 0 → ¬ MayGo listing_workload J 1 → ¬ MayGo listing_workload J 2
      → ((x : ℕ) → J.held (suc (suc (suc x))) ≡ false) → (x : ℕ) → ¬ MayGo listing_workload J x
  stay a b c d = each (λ x. ¬ MayGo listing_workload J x) a b c (λ x. unheld_stays J (suc (suc (suc x))) (d x))

  least_one : J.held 0 ≡ false → (x : ℕ) → J.held x ≡ true → 1 ≤ x
  least_one e =
      each (λ x. J.held x ≡ true → 1 ≤ x) (λ h. absurd (clash h e)) (λ h. omega arith) (λ h. omega arith)
      (λ x h. omega arith)

  least_two : J.held 0 ≡ false → J.held 1 ≡ false → (x : ℕ) → J.held x ≡ true → 2 ≤ x
  least_two e f =
      each (λ x. J.held x ≡ true → 2 ≤ x) (λ h. absurd (clash h e)) (λ h. absurd (clash h f)) (λ h. omega arith)
      (λ x h. omega arith)

-- ---- the first job, until it has let the item 1 go

-- the others have only begun
abbrev early : List ℤ → Job → Table ℤ
early vs J = table vs (some J) (some second_0) (some third_0)

first_turn_1 : Does (early at_first first_0) first_0 (locked 0) at_first first_1
first_turn_1 =
    locks 0 (items true false false) (items true false false) (λ x. unheld_stays first_0 x refl) refl refl
    (wants_root first_0 0 first_root (below_root 1) refl)
    (nobody at_first (some first_0) (some second_0) (some third_0) 0 refl refl refl)
    (refl, but_zero first_0.held (items true false false) refl refl (λ x. refl))
    (refl, but_zero first_0.ever_locked (items true false false) refl refl (λ x. refl))

first_turn_2 : Does (early at_first first_1) first_1 (locked 1) at_first first_2
first_turn_2 =
    locks 1 (items true true false) (items true true false)
    (stay first_1 (root_stays first_1 refl refl refl) (unheld_stays first_1 1 refl) (unheld_stays first_1 2 refl) (λ x. refl))
    refl refl (wants_named first_1 first_root (below_root 1) refl refl)
    (nobody at_first (some first_1) (some second_0) (some third_0) 1 refl refl refl)
    (refl, but_one first_1.held (items true true false) refl refl (λ x. refl))
    (refl, but_one first_1.ever_locked (items true true false) refl refl (λ x. refl))

first_turn_3 : Does (early at_first first_2) first_2 (worked 1) added first_3
first_turn_3 =
    works added (pos 0)
    (stay first_2 (root_stays first_2 refl refl refl) (named_stays first_2 1 names_one refl)
    (unheld_stays first_2 2 refl) (λ x. refl))
    refl refl (inl (record { found = pos 0; there = refl; value = refl; register = refl }))

first_turn_4 : Does (early added first_3) first_3 (gone 1) added first_4
first_turn_4 =
    goes 1 (items false true false)
    (stay first_3 (root_stays first_3 refl refl refl) (named_stays first_3 1 names_one refl)
    (unheld_stays first_3 2 refl) (λ x. refl))
    refl refl done_one

first_turn_5 : Does (early added first_4) first_4 (released 1) added first_5
first_turn_5 =
    releases 1 (items true false false) (
      one_goes first_4 refl refl,
      each (λ x. MayGo listing_workload first_4 x → 1 ≤ x) (λ g. absurd (root_stays first_4 refl refl refl g)) (λ g. omega arith)
          (λ g. omega arith) (λ x g. omega arith),
    )
    (refl, but_one first_4.held (items true false false) refl refl (λ x. refl))

-- ---- the second job, from its begin to its end

abbrev while_second : Job → Table ℤ
while_second J = table added (some first_5) (some J) (some third_0)

second_turn_1 : Does (while_second second_0) second_0 (locked 1) added second_1
second_turn_1 =
    locks 1 (items false true false) (items false true false) (λ x. unheld_stays second_0 x refl) refl refl
    (wants_root second_0 1 second_root self refl) (nobody added (some first_5) (some second_0) (some third_0) 1 refl refl refl)
    (refl, but_one second_0.held (items false true false) refl refl (λ x. refl))
    (refl, but_one second_0.ever_locked (items false true false) refl refl (λ x. refl))

second_turn_2 : Does (while_second second_1) second_1 (worked 1) added second_2
second_turn_2 =
    works added (pos 10)
    (stay second_1 (unheld_stays second_1 0 refl) (named_stays second_1 1 second_named refl)
    (unheld_stays second_1 2 refl) (λ x. refl))
    refl refl (inl (record { found = pos 10; there = refl; value = refl; register = refl }))

second_turn_3 : Does (while_second second_2) second_2 (released 1) added second_3
second_turn_3 =
    closes 1 (items false false false)
    (stay second_2 (unheld_stays second_2 0 refl) (named_stays second_2 1 second_named refl)
    (unheld_stays second_2 2 refl) (λ x. refl))
    refl refl (refl, least_one second_2 refl)
    (refl, but_one second_2.held (items false false false) refl refl (λ x. refl))

second_turn_4 : Does (while_second second_3) second_3 finished added (ended second_3)
second_turn_4 =
    finishes
    (stay second_3 (unheld_stays second_3 0 refl) (unheld_stays second_3 1 refl)
    (unheld_stays second_3 2 refl) (λ x. refl)) refl refl
    (each (λ x. second_3.held x ≡ false) refl refl refl (λ x. refl))

-- ---- the third job, from its begin to its end

abbrev while_third : List ℤ → Job → Table ℤ
while_third vs J = table vs (some first_5) (some (ended second_3)) (some J)

third_turn_1 : Does (while_third added third_0) third_0 (locked 2) added third_1
third_turn_1 =
    locks 2 (items false false true) (items false false true) (λ x. unheld_stays third_0 x refl) refl refl
    (wants_root third_0 2 third_root self refl)
    (nobody added (some first_5) (some (ended second_3)) (some third_0) 2 refl refl refl)
    (refl, but_two third_0.held (items false false true) refl refl (λ x. refl))
    (refl, but_two third_0.ever_locked (items false false true) refl refl (λ x. refl))

third_turn_2 : Does (while_third added third_1) third_1 (worked 2) at_end third_2
third_turn_2 =
    works at_end (pos 0)
    (stay third_1 (unheld_stays third_1 0 refl) (unheld_stays third_1 1 refl)
    (named_stays third_1 2 third_named refl) (λ x. refl))
    refl refl (inl (record { found = pos 0; there = refl; value = refl; register = refl }))

third_turn_3 : Does (while_third at_end third_2) third_2 (released 2) at_end third_3
third_turn_3 =
    closes 2 (items false false false)
    (stay third_2 (unheld_stays third_2 0 refl) (unheld_stays third_2 1 refl)
    (named_stays third_2 2 third_named refl) (λ x. refl))
    refl refl (refl, least_two third_2 refl refl)
    (refl, but_two third_2.held (items false false false) refl refl (λ x. refl))

third_turn_4 : Does (while_third at_end third_3) third_3 finished at_end (ended third_3)
third_turn_4 =
    finishes
    (stay third_3 (unheld_stays third_3 0 refl) (unheld_stays third_3 1 refl) (unheld_stays third_3 2 refl) (λ x. refl)) refl refl
    (each (λ x. third_3.held x ≡ false) refl refl refl (λ x. refl))

-- ---- the first job, from there on

-- the others are finished
abbrev late : Job → Table ℤ
late J = table at_end (some J) (some (ended second_3)) (some (ended third_3))

first_turn_6 : Does (late first_5) first_5 (locked 2) at_end first_6
first_turn_6 =
    locks 2 (items true false true) (items true true true)
    (stay first_5 (root_stays first_5 refl refl refl) (unheld_stays first_5 1 refl) (unheld_stays first_5 2 refl) (λ x. refl))
    refl refl (wants_named first_5 first_root (below_root 2) refl refl)
    (nobody at_end (some first_5) (some (ended second_3)) (some (ended third_3)) 2 refl refl refl)
    (refl, but_two first_5.held (items true false true) refl refl (λ x. refl))
    (refl, but_two first_5.ever_locked (items true true true) refl refl (λ x. refl))

first_turn_7 : Does (late first_6) first_6 (released 0) at_end first_7
first_turn_7 =
    releases 0 (items false false true) (root_goes first_6 refl refl refl refl, λ x g. omega arith)
    (refl, but_zero first_6.held (items false false true) refl refl (λ x. refl))

first_turn_8 : Does (late first_7) first_7 (worked 2) at_end first_8
first_turn_8 =
    works at_end (pos 7)
    (stay first_7 (unheld_stays first_7 0 refl) (unheld_stays first_7 1 refl) (named_stays first_7 2 names_two refl) (λ x. refl))
    refl refl (inl (record { found = pos 7; there = refl; value = refl; register = refl }))

first_turn_9 : Does (late first_8) first_8 (released 2) at_end first_9
first_turn_9 =
    closes 2 (items false false false)
    (stay first_8 (unheld_stays first_8 0 refl) (unheld_stays first_8 1 refl) (named_stays first_8 2 names_two refl) (λ x. refl))
    refl refl (refl, least_two first_8 refl refl)
    (refl, but_two first_8.held (items false false false) refl refl (λ x. refl))

first_turn_10 : Does (late first_9) first_9 finished at_end (ended first_9)
first_turn_10 =
    finishes
    (stay first_9 (unheld_stays first_9 0 refl) (unheld_stays first_9 1 refl) (unheld_stays first_9 2 refl) (λ x. refl)) refl refl
    (each (λ x. first_9.held x ≡ false) refl refl refl (λ x. refl))

-- ---- all calls, one after the other

-- the first k calls of the listing lead to the table m
abbrev Comes : ℕ → Table ℤ → Type 0
Comes k m = Reached listing_workload tallies at_first (reverse (take k listing)) m

untouched : Comes 0 (table at_first none none none)
untouched =
    new (table at_first none none none)
    (record { values = refl; empty = each (λ p. seats none none none p ≡ none) refl refl refl (λ p. refl) })

all_begun : Comes 3 (early at_first first_0)
all_begun =
    let one = on untouched (first_begins at_first 0 (pos 10) (omega arith) (omega arith) none none) in
    let two = on one (second_begins at_first 1 (pos 0) (omega arith) (omega arith) (some first_0) none) in
    on two (third_begins at_first 2 (pos 7) (omega arith) (omega arith) (some first_0) (some second_0))

first_pauses : Comes 8 (early added first_5)
first_pauses =
    let y = some second_0 in
    let z = some third_0 in
    let one = on all_begun (first_steps at_first at_first first_0 first_1 (locked 0) refl y z first_turn_1) in
    let two = on one (first_steps at_first at_first first_1 first_2 (locked 1) refl y z first_turn_2) in
    let three = on two (first_steps at_first added first_2 first_3 (worked 1) refl y z first_turn_3) in
    let four = on three (first_steps added added first_3 first_4 (gone 1) refl y z first_turn_4) in
    on four (first_steps added added first_4 first_5 (released 1) refl y z first_turn_5)

second_ends : Comes 12 (while_third added third_0)
second_ends =
    let y = some first_5 in
    let z = some third_0 in
    let one = on first_pauses (second_steps added added second_0 second_1 (locked 1) refl y z second_turn_1) in
    let two = on one (second_steps added added second_1 second_2 (worked 1) refl y z second_turn_2) in
    let three = on two (second_steps added added second_2 second_3 (released 1) refl y z second_turn_3) in
    on three (second_steps added added second_3 (ended second_3) finished refl y z second_turn_4)

third_ends : Comes 16 (late first_5)
third_ends =
    let y = some first_5 in
    let z = some (ended second_3) in
    let one = on second_ends (third_steps added added third_0 third_1 (locked 2) refl y z third_turn_1) in
    let two = on one (third_steps added at_end third_1 third_2 (worked 2) refl y z third_turn_2) in
    let three = on two (third_steps at_end at_end third_2 third_3 (released 2) refl y z third_turn_3) in
    on three (third_steps at_end at_end third_3 (ended third_3) finished refl y z third_turn_4)

first_ends : Comes 21 (late (ended first_9))
first_ends =
    let y = some (ended second_3) in
    let z = some (ended third_3) in
    let one = on third_ends (first_steps at_end at_end first_5 first_6 (locked 2) refl y z first_turn_6) in
    let two = on one (first_steps at_end at_end first_6 first_7 (released 0) refl y z first_turn_7) in
    let three = on two (first_steps at_end at_end first_7 first_8 (worked 2) refl y z first_turn_8) in
    let four = on three (first_steps at_end at_end first_8 first_9 (released 2) refl y z first_turn_9) in
    on four (first_steps at_end at_end first_9 (ended first_9) finished refl y z first_turn_10)

-- the table at the end: its places are empty again
abbrev pub emptied : Table ℤ
emptied = table at_end none none none

pub listing_reached : Reached listing_workload tallies at_first listing_events emptied
listing_reached =
    let one = on first_ends (first_collects at_end (ended first_9) refl refl (some (ended second_3)) (some (ended third_3))) in
    let two = on one (second_collects at_end (ended second_3) refl refl none (some (ended third_3))) in
    on two (third_collects at_end (ended third_3) refl refl none none)
