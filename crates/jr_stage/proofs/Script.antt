-- What the rows share.
use Rattle.std.proofs.Common.{ℕ, List, [], ◌∷◌, pos}
use Rattle.std.specs.Prelude.{codes, reverse}
use Rattle.jr_value.specs.declared.value.Property.{Property}
use Rattle.jr_value.specs.declared.value.Property.TheVariants.{Single}
use Rattle.jr_value.specs.declared.value.Value.TheVariants as value
use Rattle.jr_rev.specs.declared.revision.Revision.{Revision}
use Rattle.jr_rev.specs.Vectors.{Entries, start, with_entry}
use Rattle.jr_tree.specs.declared.edit.Write.{Write}
use Rattle.jr_tree.specs.declared.edit.Write.TheVariants.{Here, Put}
use Rattle.oak_clash.specs.declared.mark.MarkAt.{MarkAt}
use Rattle.oak_clash.specs.declared.mark.Mark.TheVariants as mark
use Rattle.oak_machine.specs.declared.event.Event.{Event}
use Rattle.oak_machine.specs.declared.event.Event.TheVariants as event
use Rattle.jcr_trans.specs.declared.command.Command.{Command}
use Rattle.jcr_trans.specs.declared.command.Command.TheVariants as command
use Rattle.jr_script.specs.declared.script.Entry.{Entry}
use Rattle.jr_stage.specs.Parts.{Part, by_entry, to_end}

abbrev pub a : List (List ℕ)
a = codes "a" ∷ []

abbrev pub b : List (List ℕ)
b = codes "b" ∷ []

abbrev pub p : List ℕ
p = codes "p"

abbrev pub number : ℕ → Property
number n = Single (value.Long (pos n))

abbrev pub set : List (List ℕ) → ℕ → Command
set path n = command.Set path p (number n)

abbrev pub get : Command
get = command.Get (codes "a" ∷ codes "p" ∷ [])

-- revisions of cluster node 1, and the vector at each
abbrev pub at : ℕ → Revision
at t = record { time = t; counter = 0; cluster = 1 }

abbrev pub vector : ℕ → Entries
vector t = with_entry (start 1) (at t)

abbrev pub type_name : List ℕ
type_name = codes "jcr:primaryType"

abbrev pub node_type : Property
node_type = Single (value.Name (codes "nt:unstructured"))

-- a draw of s at a time, from a base
abbrev pub draw : ℕ → ℕ → ℕ → List Write → List MarkAt → Event
draw t s base ws ms = event.Draw (record { revision = at t; session = s; base = vector base; edit = record { writes = ws }; marks = ms })

-- /a and /b are added
abbrev pub add_both : List Write
add_both = Here a ∷ Put a type_name node_type ∷ Here b ∷ Put b type_name node_type ∷ []

abbrev pub marks_of_both : List MarkAt
marks_of_both =
    record { path = []; mark = mark.Touch }
    ∷ record { path = a; mark = mark.Exists }
    ∷ record { path = a; mark = mark.Prop type_name }
    ∷ record { path = b; mark = mark.Exists }
    ∷ record { path = b; mark = mark.Prop type_name }
    ∷ []

-- p of /a and of /b is set
abbrev pub set_both : ℕ → List Write
set_both n = Put a p (number n) ∷ Put b p (number n) ∷ []

abbrev pub marks_of_set : List MarkAt
marks_of_set = record { path = a; mark = mark.Prop p } ∷ record { path = b; mark = mark.Prop p } ∷ []

-- the parts of a row, their events in their order
abbrev pub part : Entry → List Event → Part
part e events = record { rule = by_entry e; events = reverse events }

abbrev pub closing : ℕ → List Event → Part
closing s events = record { rule = to_end s; events = reverse events }
