-- What reading the small files answers.
use Rattle.std.proofs.Common.{◌≡◌, ◌⊎◌, ℕ, List, [], length, drop, vec_items, Ok, Err, Result, refl, ap, ◌∙◌, inl, inr, arith, length-drop}
use Rattle.std.specs.Prelude.{Some}
use mathlib.Core.HLevel.{⊥_prop}
use mathlib.Core.List.{is_set as list_set}
use mathlib.Core.Logic.{∥∥₁_elim}
use native.Mathlib.Nat.{ℕ_set}
use lib.IntN.{ℤ_set}
use Rattle.workload.specs.declared.definition.Workload.{Workload}
use Rattle.workload.specs.declared.fault.Fault.{Fault}
use Rattle.workload.specs.declared.fault.Fault.TheVariants.{Memory, Missing, Tail}
use Rattle.workload.specs.declared.file.NoteSpan.{NoteSpan}
use Rattle.workload.specs.Files.{Filled, NotRead}
use Rattle.workload.specs.Numbers.{numbered}
use Rattle.workload.specs.Reads.{Contents, Refused}
use Rattle.workload.specs.Small.{small_contents, small_file}
use Rattle.workload.specs.Types.{all_states}
use Rattle.workload.proofs.Files.{accepted_once, accepted_refused}
use Rattle.workload.proofs.Once.{file_only}
use Rattle.workload.proofs.Parts.{same_err}
use Rattle.workload.proofs.Small.{small_files}
use Rattle.examples.specs.Files.{MayRead, IsSmall, RefusedWith, FileAnswers}

-- what the file of a workload and a note holds
abbrev contents : Workload → List ℕ → Contents
contents w note =
    record { parents = vec_items w.parents; codes = w.code_count; types = all_states (vec_items w.types); note = note }

contents_set : IsSet Contents
contents_set = hlevel (ℕ_set, ℤ_set, list_set)

-- ---- bytes with a first fault

-- no workload is filled by them
not_filled : (bs : List ℕ) (f : Fault) (w : Workload) (s : NoteSpan) → Refused bs f → ¬ Filled bs w s
not_filled bs f w s r h = ∥∥₁_elim w.lawful ⊥_prop (λ l. accepted_refused bs (contents w h.0) f (h.1, l, h.2) r)

-- and they are refused for that fault
tells_first : (bs : List ℕ) (f g : Fault) → Refused bs f → NotRead bs g → g ≡ f
tells_first bs f g r (inl h) = same_err g f (file_only (length bs) bs (Err g) (Err f) h r)
tells_first bs f g r (inr h) = absurd (accepted_refused bs h.1.0 f h.1.1 r)

refused_with
    : (bs : List ℕ) (f : Fault) (number place : ℕ) → Refused bs f → numbered f ≡ Some (number, place)
    → RefusedWith bs number place
refused_with bs f number place e n = record { first = f; is_first = e; refused = refused }
  where
    refused
        : (before after : Workload) (r : Result NoteSpan Fault) → MayRead bs before after r
        → (g : Fault) × (r ≡ Err g) × (numbered g ≡ Some (number, place))
    refused before after (Ok s) h = absurd (not_filled bs f after s e h)
    refused before after (Err g) h = (g, refl, ap numbered (tells_first bs f g e h.1) ∙ n)

-- ---- the whole file

holds_small : (w : Workload) (s : NoteSpan) (h : Filled small_file w s) → contents w h.0 ≡ small_contents
holds_small w s h =
    ∥∥₁_elim w.lawful (contents_set (contents w h.0) small_contents)
    (λ l. accepted_once small_file (contents w h.0) small_contents (h.1, l, h.2) small_files.whole)

is_small : (w : Workload) (s : NoteSpan) → Filled small_file w s → IsSmall w
is_small w s h =
    let e = holds_small w s h in
    record {
      parents = ap (λ (x : Contents). x.parents) e;
      codes = ap (λ (x : Contents). x.codes) e;
      types = ap (λ (x : Contents). x.types) e;
    }

-- its note ends the file and is empty
at_end : (w : Workload) (s : NoteSpan) → Filled small_file w s → s ≡ record { place = 23; length = 0 }
at_end w s h =
    let none : drop s.place small_file ≡ [] = h.3.1 ∙ ap (λ (x : Contents). x.note) (holds_small w s h) in
    let left = length-drop s.place small_file in
    let place : s.place ≡ 23 = omega (arith, h.3.0, ap length none, left) in
    let size : s.length ≡ 0 = omega (arith, h.3.0, place) in
    λ i. record { place = place i; length = size i }

wants_memory : (f : Fault) → NotRead small_file f → f ≡ Memory
wants_memory f (inl h) = absurd (accepted_refused small_file small_contents f small_files.whole h)
wants_memory f (inr h) = h.0

pub file_answers_lem : FileAnswers
file_answers_lem =
    record {
      whole = small_files.whole;
      reads = reads;
      short = refused_with _ (Missing 22) 1 22 small_files.short refl;
      longer = λ b. refused_with _ (Tail 23) 7 23 (small_files.longer b) refl;
    }
  where
    reads
        : (before after : Workload) (r : Result NoteSpan Fault) → MayRead small_file before after r
        → ((r ≡ Ok (record { place = 23; length = 0 })) × IsSmall after) ⊎ (r ≡ Err Memory)
    reads before after (Ok s) h = inl (ap Ok (at_end after s h), is_small after s h)
    reads before after (Err f) h = inr (ap Err (wants_memory f h.1))
