use Rattle.std.proofs.Common.{arith}
use Rattle.writing.proofs.Sizes.{records_length}
use Rattle.writing.proofs.file.type_length.Goals as goal

pub returns-clause-value : goal.returns-clause-value
returns-clause-value c = omega (arith, records_length c.args.states.now c.requires.packed)
