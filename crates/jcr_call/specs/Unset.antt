-- Properties that writes unset, as a set of items.
use Rattle.std.specs.Prelude.{◌≡◌, Bool, List, Some}
use Rattle.std.specs.BTreeSet.{BTreeSet, contains}
use Rattle.std.specs.List.{list_any}
use Rattle.jr_path.specs.declared.name.Name.{Name}
use Rattle.jr_path.specs.declared.path.Item.{Item}
use Rattle.jr_path.specs.declared.path.Path.{Path}
use Rattle.jr_tree.specs.declared.edit.Write.{Write}
use Rattle.jr_tree.specs.Edits.{is_unset_of, item_cmp}

-- the property of that name of the node at a path is among the items
abbrev pub has_property : BTreeSet Item → Path → Name → Bool
has_property items p n = contains item_cmp items (record { path = p; name = Some n })

-- the set has the properties that the writes unset
abbrev pub AreUnset : List Write → BTreeSet Item → Type 0
AreUnset ws unset = (p : Path) (n : Name) → has_property unset p n ≡ list_any (is_unset_of p n) ws
