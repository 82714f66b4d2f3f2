-- The trait's ghost members as the model's kind.
use Rattle.model.specs.Table as model
use Rattle.kinds.specs.declared.kind.Kind.{Ghosts}

-- K is `T.Kind` for a type parameter T: Kind
abbrev pub view : {Self V : Type 0} → Ghosts Self V → model.Kind V
view K = record { codes = K.CODES; act = K.acted }
