-- The numbers by which refusals to write are told.
use Rattle.std.specs.Prelude.{ℕ}
use Rattle.writing.specs.declared.refusal.WriteRefusal.{WriteRefusal}
use Rattle.writing.specs.declared.refusal.WriteRefusal.TheVariants.{NoteTooLong, BufferTooShort}

abbrev pub write_number : WriteRefusal → ℕ
write_number NoteTooLong = 7
write_number BufferTooShort = 9
