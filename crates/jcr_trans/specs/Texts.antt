-- The reply text of an answer: `ok`, `ok` and a JSON value, or `no`, a number and a JSON list.
use Rattle.std.specs.Prelude.{ℕ, List, [], ◌∷◌, ◌++◌, codes, map}
use Rattle.std.specs.Fmt.{decimal}
use Rattle.serde_json.specs.Data.{Data, Items, Members, null, number, string, array, object, unsigned, no_members, member}
use Rattle.serde_json.specs.View.{items_of}
use Rattle.serde_json.specs.Written.{compact_text}
use Rattle.jr_path.specs.Ids.{path_text}
use Rattle.jr_path.specs.Names.{item_path}
use Rattle.jr_path.specs.declared.name.Name.{Name}
use Rattle.jr_path.specs.declared.path.Item.{Item}
use Rattle.jr_json.specs.Json.{property_data}
use Rattle.jr_value.specs.Words.{kind_text}
use Rattle.jr_value.specs.declared.value.Property.{Property}
use Rattle.jr_rev.specs.Texts.{revision_text, vector_text}
use Rattle.jr_tree.specs.declared.shared.Datum.{Datum}
use Rattle.jr_tree.specs.declared.shared.Datum.TheVariants as datum
use Rattle.jcr_trans.specs.Answers.{Answer, Done, ShowsProperty, ShowsNames, ShowsRevision, ShowsVector, ShowsNothing, ShowsProperties, ShowsText, ShowsItems, Refused, memory_refused}

-- names, as texts
abbrev pub name_items : List Name → Items
name_items ns = items_of (map string ns)

-- properties, each at its name
abbrev pub property_members : List (Name × Property) → Members
property_members [] = no_members
property_members (p ∷ ps) = member p.0 (property_data p.1) (property_members ps)

-- items, as the texts of their paths
abbrev pub item_texts : List Item → Items
item_texts is = items_of (map (λ i. string (path_text (item_path i))) is)

-- the JSON of what a refusal names
abbrev pub datum_data : Datum → Data
datum_data (datum.Path p) = string (path_text p)
datum_data (datum.Item i) = string (path_text (item_path i))
datum_data (datum.Name n) = string n
datum_data (datum.Text t) = string t
datum_data (datum.Number n) = number (unsigned n)
datum_data (datum.Kind k) = string (kind_text k)
datum_data (datum.Revision r) = string (revision_text r)
datum_data datum.Null = null

-- the JSON of each thing that a refusal names, in order
abbrev pub datum_items : List Datum → Items
datum_items ds = items_of (map datum_data ds)

-- `ok` and a JSON value
abbrev pub ok_text : Data → List ℕ
ok_text d = codes "ok " ++ compact_text d

-- the text that replies to a command: `ok`, `ok` and the JSON of what is shown, or `no` with the
-- refusal's number and the list of what it names
abbrev pub answer_text : Answer → List ℕ
answer_text Done = codes "ok"
answer_text (ShowsProperty p) = ok_text (property_data p)
answer_text (ShowsNames ns) = ok_text (array (name_items ns))
answer_text (ShowsRevision r) = ok_text (string (revision_text r))
answer_text (ShowsVector v) = ok_text (string (vector_text v))
answer_text ShowsNothing = ok_text null
answer_text (ShowsProperties ps) = ok_text (object (property_members ps))
answer_text (ShowsText t) = ok_text (string t)
answer_text (ShowsItems is) = ok_text (array (item_texts is))
answer_text (Refused n ds) = codes "no " ++ decimal n ++ codes " " ++ compact_text (array (datum_items ds))

-- the reply where memory was refused
abbrev pub memory_text : List ℕ
memory_text = answer_text memory_refused
