-- What a command is run with, but for the types.
use Rattle.std.specs.Prelude.{List}
use Rattle.jr_types.specs.declared.TypeDef.{TypeDef}
use Rattle.jcr_law.specs.State.{Call}
use Rattle.jcr_past.specs.declared.call.Call.{Call as Lent}

-- what a command is run with, with the types
abbrev pub called : List TypeDef → Lent → Call
called types c = record { types = types; who = c.who; base = c.base; state = c.state }
