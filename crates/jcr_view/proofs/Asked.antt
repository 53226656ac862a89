-- A command that reads the whole tree asks for it.
use Rattle.std.proofs.Common.{◌≡◌, true, [], ◌∷◌, refl}
use Rattle.jr_tree.specs.declared.shared.Who.{Who}
use Rattle.jr_part.specs.Parts.{Knowledge}
use Rattle.jr_part.specs.declared.need.Need.TheVariants as need
use Rattle.jr_overlay.specs.Overlays.{Changed}
use Rattle.jcr_trans.specs.declared.command.Command.{Command}
use Rattle.jcr_trans.specs.declared.command.Command.TheVariants as command
use Rattle.jcr_view.specs.Needs.{needs_of}
use Rattle.jcr_read.specs.Reading.{reads_all}

pub all_asked : (who : Who) (k : Knowledge) (c : Changed) (command : Command) → reads_all command ≡ true → needs_of who k c command ≡ need.All ∷ []
all_asked who k c (command.ById id) reads = refl
all_asked who k c (command.Refs p) reads = refl
all_asked who k c (command.Versions p) reads = refl
all_asked who k c _ reads = cc
