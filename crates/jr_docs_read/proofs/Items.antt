-- The items of arrays, and vectors without a text.
use Rattle.std.proofs.Common.{◌≡◌, ◌<◌, ℕ, zero, suc, List, [], ◌∷◌, length, get_or, None, Some, refl, sym, ap, subst, ◌∙◌, arith}
use Rattle.std.specs.Prelude.{map}
use Rattle.std.proofs.lemmas.List.Elements.{All-nil}
use Rattle.serde_json.specs.Data.{Data, array, string}
use Rattle.serde_json.specs.View.{items_of, view}
use Rattle.serde_json.specs.declared.value.Value.{Value}
use Rattle.jr_docs.specs.Documents.{collision_data, pin_data, prev_data, vector_field}
use Rattle.jr_docs.specs.Members.{unless_empty}
use Rattle.jr_docs_read.specs.Ranges.{IsVectorInRange}
use Rattle.jr_path.specs.Ids.{id_text, path_text}
use Rattle.jr_path.specs.Names.{item_path}
use Rattle.jr_path.specs.declared.path.DocId.TheVariants.{Prev}
use Rattle.jr_path.specs.declared.path.Item.{Item}
use Rattle.jr_path.specs.declared.path.Path.{Path}
use Rattle.jr_rev.specs.declared.revision.Revision.{Revision}
use Rattle.jr_rev.specs.declared.vector.Pin.{Pin}
use Rattle.jr_rev.proofs.OneVector.{one_vector, vector_text_is}
use Rattle.jr_rev.specs.Grammar.{FitsFields, IsVectorText}
use Rattle.jr_rev.specs.Texts.{revision_text, vector_text}
use Rattle.jr_rev.specs.Vectors.{Entries, no_entries}
use Rattle.oak_doc.specs.declared.document.PrevEntry.{PrevEntry}

-- arrays of the same items
pub same_items : (xs ys : List Data) → array (items_of xs) ≡ array (items_of ys) → xs ≡ ys
same_items [] [] e = refl
same_items [] (y ∷ ys) e = cc
same_items (x ∷ xs) [] e = cc
same_items (x ∷ xs) (y ∷ ys) e = let rest : array (items_of xs) ≡ array (items_of ys) = cc in let same = same_items xs ys rest in cc

length_of_map : {X Y : Type 0} (f : X → Y) (xs : List X) → length (map f xs) ≡ length xs
length_of_map f [] = refl
length_of_map f (x ∷ xs) = ap suc (length_of_map f xs)

-- an array has as many items as are shown
pub shown_length : (ds : List Data) (items : List Value) → array (items_of ds) ≡ array (items_of (map view items)) → length items ≡ length ds
shown_length ds items e = sym (length_of_map view items) ∙ ap length (sym (same_items ds (map view items) e))

-- what there is of a list that isn't empty
pub filled : {X : Type 0} (of_value : List X → Data) (xs : List X) (d : Data) → Some d ≡ unless_empty of_value xs → of_value xs ≡ d
filled of_value [] d e = cc
filled of_value (x ∷ xs) d e = cc

-- of an empty list there is nothing
pub unfilled : {X : Type 0} (of_value : List X → Data) (xs : List X) → None ≡ unless_empty of_value xs → [] ≡ xs
unfilled of_value [] e = refl
unfilled of_value (x ∷ xs) e = cc

pub pin_length : (p : Pin) (items : List Value) → pin_data p ≡ array (items_of (map view items)) → length items ≡ 2
pin_length p items e = shown_length (string (vector_text p.base) ∷ string (vector_text p.sweep) ∷ []) items e

pub collision_length : (c : Revision × Item) (items : List Value) → collision_data c ≡ array (items_of (map view items)) → length items ≡ 2
collision_length c items e = shown_length (string (revision_text c.0) ∷ string (path_text (item_path c.1)) ∷ []) items e

pub prev_length : (p : Path) (x : PrevEntry) (items : List Value) → prev_data p x ≡ array (items_of (map view items)) → length items ≡ 3
prev_length p x items e = shown_length (string (id_text (Prev x.number p)) ∷ string (revision_text x.high) ∷ string (revision_text x.low) ∷ []) items e

pub mapped_length : {X Y Z : Type 0} (f : X → Z) (g : Y → Z) (xs : List X) (ys : List Y) → map f xs ≡ map g ys → length xs ≡ length ys
mapped_length f g xs ys e = sym (length_of_map f xs) ∙ (ap length e ∙ length_of_map g ys)

-- two lists of one image have one image at each place
pub mapped_at : {X Y Z : Type 0} (f : X → Z) (g : Y → Z) (xs : List X) (ys : List Y) (k : ℕ) (x : X) (y : Y) → map f xs ≡ map g ys → k < length ys → f (get_or xs k x) ≡ g (get_or ys k y)
mapped_at f g [] [] k x y e h = absurd (omega (arith, h))
mapped_at f g [] (w ∷ ys) k x y e h = cc
mapped_at f g (v ∷ xs) [] k x y e h = cc
mapped_at f g (v ∷ xs) (w ∷ ys) zero x y e h = cc
mapped_at f g (v ∷ xs) (w ∷ ys) (suc k) x y e h = let rest : map f xs ≡ map g ys = cc in mapped_at f g xs ys k x y rest (omega (arith, h))

no_text : (t : List ℕ) → None ≡ unless_empty string t → t ≡ []
no_text [] e = refl
no_text (c ∷ t) e = cc

-- a vector without a text has no entry
pub no_vector : (v : Entries) → IsVectorInRange v → None ≡ vector_field v → no_entries ≡ v
no_vector v h e =
    let none : vector_text v ≡ [] = no_text (vector_text v) e in
    one_vector [] no_entries v (vector_text_is no_entries (record { eight = refl; stands = refl }) (All-nil FitsFields)) (subst (λ (t : List ℕ). IsVectorText t v) none (vector_text_is v h.vector h.fits))

-- an entry that stands for none
abbrev pub no_listed : PrevEntry
no_listed = record { number = 0; high = record { time = 0; counter = 0; cluster = 0 }; low = record { time = 0; counter = 0; cluster = 0 } }
