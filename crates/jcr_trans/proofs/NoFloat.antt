-- The JSON of names and of what a refusal names has no float, so the text that is written for it is the compact one.
use Rattle.std.proofs.Common.{◌≡◌, Bool, false, ◌||◌, List, [], ◌∷◌, refl, ap, ◌∙◌}
use Rattle.serde_json.specs.Data.{array, object}
use Rattle.serde_json.specs.Written.{has_float}
use Rattle.jr_path.specs.declared.name.Name.{Name}
use Rattle.jr_path.specs.declared.path.Item.{Item}
use Rattle.jr_value.specs.declared.value.Property.{Property}
use Rattle.jr_json.proofs.NoFloat.{property_plain}
use Rattle.jr_tree.specs.declared.shared.Datum.{Datum}
use Rattle.jr_tree.specs.declared.shared.Datum.TheVariants as datum
use Rattle.jcr_trans.specs.Texts.{datum_data, datum_items, item_texts, name_items, property_members}

none_of : (a b : Bool) → a ≡ false → b ≡ false → (a || b) ≡ false
none_of a b p q = ap (λ (x : Bool). x || b) p ∙ q

pub names_plain : (ns : List Name) → has_float (array (name_items ns)) ≡ false
names_plain [] = refl
names_plain (n ∷ ns) = names_plain ns

pub items_plain : (is : List Item) → has_float (array (item_texts is)) ≡ false
items_plain [] = refl
items_plain (i ∷ is) = items_plain is

pub properties_plain : (ps : List (Name × Property)) → has_float (object (property_members ps)) ≡ false
properties_plain [] = refl
properties_plain (p ∷ ps) = none_of _ _ (property_plain p.1) (properties_plain ps)

part_plain : (d : Datum) → has_float (datum_data d) ≡ false
part_plain (datum.Path p) = refl
part_plain (datum.Item i) = refl
part_plain (datum.Name n) = refl
part_plain (datum.Text t) = refl
part_plain (datum.Number n) = refl
part_plain (datum.Kind k) = refl
part_plain (datum.Revision r) = refl
part_plain datum.Null = refl

pub parts_plain : (ds : List Datum) → has_float (array (datum_items ds)) ≡ false
parts_plain [] = refl
parts_plain (d ∷ ds) = none_of _ _ (part_plain d) (parts_plain ds)
