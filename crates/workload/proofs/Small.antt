-- The small files.
use Rattle.std.proofs.Common.{ℕ, List, [], ◌∷◌, Ok, refl, arith}
use mir.Facts.{sfits_lit}
use Rattle.workload.specs.declared.fault.Fault.TheVariants.{Missing, Tail}
use Rattle.workload.specs.Encoding.{type_bytes}
use Rattle.rules.specs.Lawful.{Lawful}
use Rattle.rules.proofs.Fine.{FineType}
use Rattle.workload.specs.Reads as reads
use Rattle.workload.specs.Reads.{Parents, Several, TypePart, goes, stops, trailing}
use Rattle.workload.specs.Small.{SmallFiles, small_state}
use Rattle.workload.proofs.Encodes.{parents_complete, several_complete, type_complete}
use Rattle.workload.proofs.Files.{header_complete}
use Rattle.workload.proofs.Starting.{lone_fine, lone_lawful, one_rooted}

fine : FineType 1 4 (small_state ∷ [])
fine = lone_fine 4 small_state (omega arith) (omega arith) refl refl (sfits_lit tt)

lawful : Lawful (255 ∷ []) 4 ((small_state ∷ []) ∷ [])
lawful = lone_lawful 4 small_state (omega arith, omega arith) fine

-- the file up to the note
types_read : (end : ℕ) (rest : List ℕ) → Several (TypePart 1 4 end) 1 (1 ∷ 0 ∷ 1 ∷ 0 ∷ 0 ∷ 0 ∷ 5 ∷ 0 ∷ 0 ∷ 0 ∷ 0 ∷ 0 ∷ rest) (Ok ((small_state ∷ []) ∷ [], rest))
types_read end rest = several_complete (TypePart 1 4 end) type_bytes (FineType 1 4) (type_complete 1 4 end) ((small_state ∷ []) ∷ []) rest (fine, tt)

parents_read : (end : ℕ) (rest : List ℕ) → Parents 1 end (255 ∷ rest) (Ok (255 ∷ [], rest))
parents_read end rest = parents_complete end (255 ∷ []) rest one_rooted

pub small_files : SmallFiles
small_files = record {
  whole = (refl, lawful, omega arith);
  short = goes (record { items = 1; types = 1; codes = 4 }) _ (header_complete 22 1 1 4 _ (omega arith, omega arith) (omega arith, omega arith) (omega arith, omega arith))
      (goes (255 ∷ []) _ (parents_read 22 _) (goes ((small_state ∷ []) ∷ []) (0 ∷ []) (types_read 22 (0 ∷ [])) (stops (Missing 22) (reads.Note.missing (omega arith) refl) refl)));
  longer = λ b. goes (record { items = 1; types = 1; codes = 4 }) _ (header_complete 24 1 1 4 _ (omega arith, omega arith) (omega arith, omega arith) (omega arith, omega arith))
      (goes (255 ∷ []) _ (parents_read 24 _) (goes ((small_state ∷ []) ∷ []) (0 ∷ 0 ∷ b ∷ []) (types_read 24 (0 ∷ 0 ∷ b ∷ [])) (stops (Tail 23) (trailing (omega arith) (omega arith) (omega arith) refl) refl)));
}
