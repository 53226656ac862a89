-- Which marks clash, and what two commits meet at.
use Rattle.std.specs.Prelude.{◌≡◌, Bool, true, false, cond, ◌&&◌, List, [], ◌∷◌, Option, None, Some, map}
use Rattle.std.specs.Option.{option_map}
use Rattle.std.specs.Ordering.{eq_by_cmp, is_lt}
use Rattle.std.specs.Map.{keys_of}
use Rattle.std.specs.BTreeMap.{insert_entry}
use Rattle.std.specs.List.{filter, fold, list_any}
use Rattle.jr_path.specs.Names.{name_cmp, path_cmp}
use Rattle.jr_path.specs.declared.path.Path.{Path}
use Rattle.jr_path.specs.declared.path.Item.{Item}
use Rattle.oak_clash.specs.declared.mark.Mark.{Mark}
use Rattle.oak_clash.specs.declared.mark.Mark.TheVariants.{Exists, Guard, Touch, Prop}
use Rattle.oak_clash.specs.declared.mark.MarkAt.{MarkAt}

-- at one path: Exists and Guard clash with every mark, Touch with those two, Prop with Prop of its name
abbrev pub clash : Mark → Mark → Bool
clash Exists b = true
clash Guard b = true
clash Touch Exists = true
clash Touch Guard = true
clash Touch Touch = false
clash Touch (Prop n) = false
clash (Prop m) Exists = true
clash (Prop m) Guard = true
clash (Prop m) Touch = false
clash (Prop m) (Prop n) = eq_by_cmp name_cmp m n

-- Exists, Guard, Touch, and then Prop by name
abbrev pub is_earlier : Mark → Mark → Bool
is_earlier Exists Exists = false
is_earlier Exists b = true
is_earlier Guard Exists = false
is_earlier Guard Guard = false
is_earlier Guard b = true
is_earlier Touch (Prop n) = true
is_earlier Touch b = false
is_earlier (Prop m) (Prop n) = is_lt (name_cmp m n)
is_earlier (Prop m) b = false

-- the earlier of a mark and one that may be there
abbrev pub earlier_of : Mark → Option Mark → Mark
earlier_of m None = m
earlier_of m (Some n) = cond (is_earlier n m) n m

-- the first of some marks in that order
abbrev pub first_mark : List Mark → Option Mark
first_mark [] = None
first_mark (m ∷ ms) = Some (earlier_of m (first_mark ms))

-- the marks at a path
abbrev pub marks_at : Path → List MarkAt → List Mark
marks_at p ms = map (λ m. m.mark) (filter (λ m. eq_by_cmp path_cmp p m.path) ms)

-- the item that a mark at a path is of
abbrev pub marked_item : Path → Mark → Item
marked_item p Exists = record { path = p; name = None }
marked_item p Guard = record { path = p; name = None }
marked_item p Touch = record { path = p; name = None }
marked_item p (Prop n) = record { path = p; name = Some n }

-- the item of the first of the marks that clashes at the path with one of the others
abbrev pub met_at : Path → List MarkAt → List MarkAt → Option Item
met_at p ms os = option_map (marked_item p) (first_mark (filter (λ m. list_any (clash m) (marks_at p os)) (marks_at p ms)))

-- the marks meet those of another commit in the item
abbrev pub Meets : List MarkAt → List MarkAt → Item → Type 0
Meets ms os item = met_at item.path ms os ≡ Some item

-- two commits clash: marks of them clash at some path
abbrev pub clashing : List MarkAt → List MarkAt → Bool
clashing ms os = list_any (λ m. list_any (λ o. eq_by_cmp path_cmp m.path o.path && clash m.mark o.mark) os) ms

-- the names that two paths begin with
abbrev pub common : Path → Path → Path
common [] q = []
common (m ∷ p) [] = []
common (m ∷ p) (n ∷ q) = cond (eq_by_cmp name_cmp m n) (m ∷ common p q) []

-- the deepest node that is each marked node or an ancestor of it; the root where none is marked
abbrev pub commit_root : List MarkAt → Path
commit_root [] = []
commit_root (m ∷ []) = m.path
commit_root (m ∷ n ∷ ms) = common m.path (commit_root (n ∷ ms))

-- the marked nodes, each once, in path order
abbrev pub marked_paths : List MarkAt → List Path
marked_paths ms = keys_of (fold (λ es m. insert_entry path_cmp es m.path true) [] ms)
