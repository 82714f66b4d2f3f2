-- What is written is read again, and what was read is written again.
use Rattle.std.proofs.Common.{◌≡◌, ℕ, ◌+◌, ◌≤◌, List, length, take, drop, Ok, Err, vec_items, Result, sym, refl, ap, ◌∙◌, subst, inl, inr, arith, length-drop, MatchResult}
use Rattle.std.proofs.lemmas.List.{take_all, drop-take, length-take-le}
use Rattle.workload.specs.declared.definition.Workload.{Workload}
use Rattle.workload.specs.declared.fault.Fault.{Fault}
use Rattle.workload.specs.declared.file.NoteSpan.{NoteSpan}
use Rattle.workload.specs.Files.{Filled, NotRead, file_of}
use Rattle.workload.specs.Reads.{Accepted, Contents}
use Rattle.workload.specs.Types.{all_states}
use Rattle.workload.proofs.Files.{accepted_once, accepted_refused}
use Rattle.writing.specs.declared.refusal.WriteRefusal.{WriteRefusal}
use Rattle.writing.specs.declared.refusal.WriteRefusal.TheVariants.{NoteTooLong, BufferTooShort}
use Rattle.writing.specs.Files.{Again, Copied, Same, Written}
use Rattle.writing.proofs.Kept.{lawful}

-- what the file of a workload and a note holds
contents : Workload → List ℕ → Contents
contents w note = record { parents = vec_items w.parents; codes = w.code_count; types = all_states (vec_items w.types); note = note }

holds : (bs : List ℕ) (w : Workload) (note : List ℕ) → bs ≡ file_of w note → length note ≤ 1000 → Accepted bs (contents w note)
unfolding contents
holds bs w note e l = (e, lawful w, l)

-- two workloads whose files are the same are the same, and so are the notes
same_file : (bs : List ℕ) (v w : Workload) (note text : List ℕ) → bs ≡ file_of v note → length note ≤ 1000 → bs ≡ file_of w text → length text ≤ 1000 → contents v note ≡ contents w text
same_file bs v w note text d k e l = accepted_once bs (contents v note) (contents w text) (holds bs v note d k) (holds bs w text e l)

same_workload : (v w : Workload) (note text : List ℕ) → contents v note ≡ contents w text → Same v w
unfolding contents
same_workload v w note text e = record { parents = ap (λ (x : Contents). x.parents) e; codes = ap (λ (x : Contents). x.codes) e; types = ap (λ (x : Contents). x.types) e }

same_note : (v w : Workload) (note text : List ℕ) → contents v note ≡ contents w text → note ≡ text
unfolding contents
same_note v w note text e = ap (λ (x : Contents). x.note) e

-- what reading the first n bytes answers, where these are the file of w and its note
pub again
    : (w : Workload) (note bytes : List ℕ) (n : ℕ) (before after : Workload) (r : Result NoteSpan Fault)
    → n ≤ length bytes → take n bytes ≡ file_of w note → length note ≤ 1000
    → MatchResult r (λ s. Filled (take n bytes) after s) (λ f. (after ≡ before) × NotRead (take n bytes) f) → Again w note bytes before after r
again w note bytes n before after (Ok s) m e l h =
    let d = same_file (take n bytes) w after note h.0 e l h.1 h.2 in
    let end : s.place + s.length ≡ n = h.3.0 ∙ length-take-le n bytes m in (
      same_workload w after note h.0 d,
      record {
        end = h.3.0 ∙ ap length e;
        text = sym (drop-take s.place s.length bytes) ∙ ap (λ (z : ℕ). drop s.place (take z bytes)) end ∙ h.3.1 ∙ sym (same_note w after note h.0 d);
      },
    )
again w note bytes n before after (Err f) m e l (kept, inl refused) = absurd (accepted_refused (take n bytes) (contents w note) f (holds (take n bytes) w note e l) refused)
again w note bytes n before after (Err f) m e l (kept, inr memory) = (memory.0, kept)

-- the note that the span of a file picks
picked : (file : List ℕ) (w : Workload) (s : NoteSpan) (text : List ℕ) (h : Filled file w s) → text ≡ take s.length (drop s.place file) → text ≡ h.0
picked file w s text h e = e ∙ take_all s.length (drop s.place file) (omega (arith, length-drop s.place file, h.3.0)) ∙ h.3.1

-- a note that is short enough leaves only the buffer to be too short
written_copied : (file note old new : List ℕ) (r : Result ℕ WriteRefusal) → length note ≤ 1000 → Written file note old new r → Copied file old new r
written_copied file note old new (Ok n) l h = h.1
written_copied file note old new (Err NoteTooLong) l h = absurd (omega (arith, h.0))
written_copied file note old new (Err BufferTooShort) l h = (refl, h.1, h.2)

-- what writing the workload of a file answers, with the note of that file
pub copied
    : (file : List ℕ) (w : Workload) (s : NoteSpan) (text old new : List ℕ) (r : Result ℕ WriteRefusal) → Filled file w s
    → text ≡ take s.length (drop s.place file) → Written (file_of w text) text old new r → Copied file old new r
copied file w s text old new r h t p =
    let e = picked file w s text h t in
    let made : file_of w text ≡ file = ap (file_of w) e ∙ sym h.1 in
    written_copied file text old new r (omega (arith, h.2, ap length e)) (subst (λ (bs : List ℕ). Written bs text old new r) made p)
