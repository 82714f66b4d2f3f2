use Rattle.std.proofs.Common.{refl, inl, inr, arith}
use Rattle.workload.specs.Files.{contents_of}
use Rattle.workload.proofs.Files.{note_spans}
use Rattle.workload.proofs.Parts.{handed}
use Rattle.workload.proofs.file.load.Goals as goal

pub returns-in_err-parts : goal.returns-in_err-parts
returns-in_err-parts c = rw (handed _ _ c.from_residual.ensures.1) (inl c.in_err-parts.ensures)

pub returns-in_err-workload : goal.returns-in_err-workload
returns-in_err-workload c = rw (handed _ _ c.from_residual-in_err-workload.ensures.1) (inr (refl, (contents_of c.in_ok-parts.parts c.survey.new.types, c.in_ok-parts.ensures)))

pub of_parts-requires : goal.of_parts-requires
of_parts-requires c = rw c.as_slice.ensures c.in_ok-parts.ensures.1

pub overflow_sub-span : goal.overflow_sub-span
overflow_sub-span c = (note_spans c.args.file.now (contents_of c.in_ok-parts.parts c.survey.new.types) c.in_ok-parts.ensures).0

pub returns : goal.returns
returns c =
    let a = c.in_ok-parts.ensures in
    let w = c.in_ok-workload.ensures in
    let d = note_spans c.args.file.now (contents_of c.in_ok-parts.parts c.survey.new.types) a in
    (c.in_ok-parts.parts.note.now, rw (w.0, w.1, w.2, c.as_slice.ensures) a.0, a.2, (omega (arith, d.0), d.1))
