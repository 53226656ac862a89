-- Members of lists, marks at paths, and documents in order.
use Rattle.std.specs.Prelude.{◌≡◌, true, ◌⊎◌, List, [], ◌∷◌, Option, None, Some}
use Rattle.std.specs.List.{flat_map}
use Rattle.jr_path.specs.declared.path.Path.{Path}
use Rattle.jr_path.specs.declared.path.DocId.TheVariants as id
use Rattle.jr_tree.specs.declared.edit.Write.{Write}
use Rattle.oak_clash.specs.declared.mark.Mark.{Mark}
use Rattle.oak_clash.specs.declared.mark.MarkAt.{MarkAt}
use Rattle.oak_doc.specs.declared.document.Document.{Document}
use Rattle.oak_machine.specs.Laws.{is_of_item}
use Rattle.oak_machine.specs.Marks.{marks_of_write}
use Rattle.core_read.specs.Writes.{IsOrderedDocument}

-- x is one of the xs
abbrev pub In : {X : Type 0} → X → List X → Type 0
In x [] = ⊥
In x (y ∷ ys) = (x ≡ y) ⊎ In x ys

-- no two of the xs are the same
abbrev pub Once : {X : Type 0} → List X → Type 0
Once [] = Unit {0}
Once (x ∷ xs) = (In x xs → ⊥) × Once xs

-- a mark at a path
abbrev pub mark_at : Path → Mark → MarkAt
mark_at p m = record { path = p; mark = m }

-- the marks of kind Exists and Prop are just those for which a write is the cause
abbrev pub NamesItems : List MarkAt → List Write → Type 0
NamesItems ms ws =
    (m : MarkAt) → is_of_item m ≡ true → (In m ms → In m (flat_map marks_of_write ws))
    × (In m (flat_map marks_of_write ws) → In m ms)

-- the document of the node at p, where there is one, has its id, and its properties in the order of
-- their names
abbrev pub AreOrdered : Path → Option Document → Type 0
AreOrdered p None = Unit {0}
AreOrdered p (Some d) = (d.id ≡ id.Node p) × IsOrderedDocument d
