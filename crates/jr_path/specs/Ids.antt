-- The texts and the store order of document ids.
use Rattle.std.specs.Prelude.{ℕ, false, Option, None, Some, List, [], ◌∷◌, ◌++◌, length, codes}
use Rattle.std.specs.declared.cmp.Ordering.{Ordering}
use Rattle.std.specs.Fmt.{decimal, radix_digits}
use Rattle.std.specs.List.{flat_map}
use Rattle.std.specs.Ordering.{nat_cmp, on, then_cmp}
use Rattle.jr_path.specs.Names.{name_cmp, path_cmp}
use Rattle.jr_path.specs.declared.path.Path.{Path}
use Rattle.jr_path.specs.declared.path.DocId.{DocId}
use Rattle.jr_path.specs.declared.path.DocId.TheVariants.{Node, Prev, Settings}

-- each name after a `/`
abbrev pub joined : Path → List ℕ
joined = flat_map (λ name. codes "/" ++ name)

-- `/`, or each name after a `/`
abbrev pub path_text : Path → List ℕ
path_text [] = codes "/"
path_text (n ∷ ns) = joined (n ∷ ns)

-- `depth:path`, `p<hexadecimal>:path`, or `settings`
abbrev pub id_text : DocId → List ℕ
id_text (Node p) = decimal (length p) ++ codes ":" ++ path_text p
id_text (Prev n p) = codes "p" ++ radix_digits 16 false n ++ codes ":" ++ path_text p
id_text Settings = codes "settings"

-- nodes, then previous documents, then the settings
abbrev pub rank_of : DocId → ℕ
rank_of (Node p) = 0
rank_of (Prev n p) = 1
rank_of Settings = 2

-- of a node's document
abbrev pub depth_of : DocId → ℕ
depth_of (Node p) = length p
depth_of _ = 0

-- the path's text behind the root, of a node's document
abbrev pub text_of : DocId → List ℕ
text_of (Node p) = joined p
text_of _ = []

-- the path of a document's node; of the settings the root
abbrev pub names_of : DocId → Path
names_of (Node p) = p
names_of (Prev n p) = p
names_of Settings = []

-- the path of a node's document
abbrev pub node_path : DocId → Option Path
node_path (Node p) = Some p
node_path _ = None

-- a previous document's number, and 0 of each other document
abbrev pub number_of : DocId → ℕ
number_of (Prev n p) = n
number_of _ = 0

-- nodes' documents by depth, then by the bytes of the path's text; previous documents in path order, then
-- by number. (Names hold no `/`, so paths of one text are equal; path order decides for all others.)
abbrev pub id_cmp : DocId → DocId → Ordering
id_cmp = then_cmp (on rank_of nat_cmp) (then_cmp (on depth_of nat_cmp) (then_cmp (on text_of name_cmp) (then_cmp (on names_of path_cmp) (on number_of nat_cmp))))

-- the same for two nodes' documents
abbrev pub node_cmp : Path → Path → Ordering
node_cmp = then_cmp (on length nat_cmp) (then_cmp (on joined name_cmp) path_cmp)
