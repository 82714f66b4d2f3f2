-- All that the program prints.
use Rattle.std.specs.Prelude.{◌≡◌, ℕ, ◌≤◌, List, [], ◌∷◌, ◌++◌, filter_map, map, replicate, zip, length, Some, ℤ, pos}
use Rattle.kinds.specs.declared.kind.Kind as kinds
use Rattle.table.specs.Answers.{EndsWell}
use Rattle.table.specs.declared.answer.Answer.{Answer}
use Rattle.table.specs.declared.answer.Call.{Call}
use Rattle.table.specs.declared.rows.Outcome.{Outcome}
use Rattle.workload.specs.Files.{file_of}
use Rattle.workload.specs.Numbers.{numbered}
use Rattle.workload.specs.Reads.{Refused}
use Rattle.workload.specs.View.{view}
use Rattle.workload.specs.declared.definition.Workload.{Workload}
use Rattle.workload.specs.declared.fault.Fault.{Fault}
use Rattle.yard_text.specs.Input.{Asks}
use Rattle.yard_text.specs.Words.{line_bytes, word_of_end, word_of_turn}
use Rattle.yard_text.specs.declared.word.Word.{Word}
use Rattle.yard_text.specs.declared.word.Word.TheVariants.{File, Shown}

-- the words of the first line, in the order of the calls; those of the second; and those of the third
abbrev pub turn_words : List Call → List Answer → List Word
turn_words cs ys = filter_map (λ p. word_of_turn p.0 p.1) (zip cs ys)

abbrev pub end_words : List Call → List Answer → List Word
end_words cs ys = filter_map (λ p. word_of_end p.0 p.1) (zip cs ys)

abbrev pub shown_words : List ℤ → List Word
shown_words numbers = map Shown numbers

abbrev pub three_lines : List Call → Outcome → List ℕ
three_lines cs o =
    line_bytes (turn_words cs o.answers.items) ++ (line_bytes (end_words cs o.answers.items) ++ line_bytes (shown_words o.shown.items))

-- one word, the number and place of the fault
abbrev pub refused_line : Fault → List ℕ → Type 0
refused_line f text = (n : ℕ) × (p : ℕ) × (numbered f ≡ Some (n, p)) × (text ≡ line_bytes (File n p ∷ []))

-- a tally of 0 for each item of the workload
abbrev pub zeros : Workload → List ℤ
zeros w = replicate (view w).items (pos 0)

-- `tally` has the ghost members of the kind of tallies.
module _ {K : Type 0} (tally : kinds.Ghosts K ℤ) where
  -- The calls that the input asks for come to an outcome over these tallies, and its lines are printed.
  pub record RunsTo (w : Workload) (input text : List ℕ) : Type 0 where
    pub calls : List Call
    pub outcome : Outcome
    pub asks : Asks input calls
    pub ends : EndsWell tally w (zeros w) calls outcome
    pub lines : text ≡ three_lines calls outcome

  -- A file that is refused is told by its first fault; otherwise the workload of the file is run.
  pub data Prints (file input text : List ℕ) : Type 0 where
    refuses : (f : Fault) → Refused file f → refused_line f text → Prints file input text
    runs : (w : Workload) (note : List ℕ) → file ≡ file_of w note → length note ≤ 1000 → RunsTo w input text → Prints file input text
