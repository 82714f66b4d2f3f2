-- The words that the program prints, byte by byte, and which call and answer gives which word.
use Rattle.std.specs.Prelude.{ℕ, List, [], ◌∷◌, ◌++◌, Some, None, codes, decimal, Option}
use Rattle.std.specs.Fmt.{signed_decimal}
use Rattle.jobs.specs.declared.record.StepAnswer.{StepAnswer}
use Rattle.jobs.specs.declared.record.StepAnswer.TheVariants as tells
use Rattle.table.specs.declared.answer.Call.{Call}
use Rattle.table.specs.declared.answer.Call.TheVariants as calls
use Rattle.table.specs.declared.answer.Answer.{Answer}
use Rattle.table.specs.declared.answer.Answer.TheVariants as answers
use Rattle.table.specs.Numbers.{number}
use Rattle.yard_text.specs.declared.word.Word.{Word}
use Rattle.yard_text.specs.declared.word.Word.TheVariants.{Told, Refused, Register, Dash, Shown, File}

-- what a step told: a letter, and the item or state; of a wait also the holder's place, after a dot
abbrev pub told_bytes : StepAnswer → List ℕ
told_bytes (tells.Released d) = codes "R" ++ decimal d
told_bytes (tells.Worked d) = codes "W" ++ decimal d
told_bytes (tells.Locked d) = codes "L" ++ decimal d
told_bytes (tells.Waiting d q) = codes "X" ++ (decimal d ++ (codes "." ++ decimal q))
told_bytes (tells.Gone s) = codes "G" ++ decimal s
told_bytes tells.Finished = codes "F"

abbrev pub word_bytes : Word → List ℕ
word_bytes (Told p a) = decimal p ++ told_bytes a
word_bytes (Refused p n) = decimal p ++ (codes "N" ++ decimal n)
word_bytes (Register x) = signed_decimal x
word_bytes Dash = codes "-"
word_bytes (Shown x) = signed_decimal x
word_bytes (File n p) = codes "N" ++ (decimal n ++ (codes "." ++ decimal p))

-- words after another one, each after a blank
abbrev pub further : List Word → List ℕ
further [] = []
further (w ∷ ws) = codes " " ++ (word_bytes w ++ further ws)

-- words with one blank between them
abbrev pub parted : List Word → List ℕ
parted [] = []
parted (w ∷ ws) = word_bytes w ++ further ws

abbrev pub line_bytes : List Word → List ℕ
line_bytes ws = parted ws ++ codes "\n"

-- what a begin's answer, a step's and a collect's are told by, at the place p
abbrev pub begin_word : ℕ → Answer → Option Word
begin_word p (answers.Refused e) = Some (Refused p (number e))
begin_word p answers.Began = None
begin_word p (answers.Stepped a) = None
begin_word p (answers.Collected x) = None
begin_word p answers.Left = None

abbrev pub step_word : ℕ → Answer → Option Word
step_word p (answers.Stepped a) = Some (Told p a)
step_word p (answers.Refused e) = Some (Refused p (number e))
step_word p answers.Began = None
step_word p (answers.Collected x) = None
step_word p answers.Left = None

abbrev pub collect_word : Answer → Word
collect_word (answers.Collected x) = Register x
collect_word (answers.Refused e) = Dash
collect_word answers.Began = Dash
collect_word (answers.Stepped a) = Dash
collect_word answers.Left = Dash

-- in the first line each step has a word, and each refused begin
abbrev pub word_of_turn : Call → Answer → Option Word
word_of_turn (calls.Begin p t a) x = begin_word p x
word_of_turn (calls.Step p) x = step_word p x
word_of_turn (calls.Collect p) x = None
word_of_turn (calls.Leave p) x = None

-- and in the second each collect
abbrev pub word_of_end : Call → Answer → Option Word
word_of_end (calls.Begin p t a) x = None
word_of_end (calls.Step p) x = None
word_of_end (calls.Collect p) x = Some (collect_word x)
word_of_end (calls.Leave p) x = None
