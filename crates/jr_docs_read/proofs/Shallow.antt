-- The JSON of a document nests four deep at most.
use Rattle.std.proofs.Common.{◌≤◌, ℕ, suc, max, List, [], ◌∷◌, Option, None, Some, arith}
use Rattle.std.specs.Prelude.{map}
use Rattle.std.specs.declared.cmp.Ordering.{Ordering}
use Rattle.std.specs.declared.cmp.Ordering.TheVariants.{Less, Equal, Greater}
use Rattle.std.specs.Fmt.{decimal}
use Rattle.std.specs.List.{AllByRecursion}
use Rattle.std.specs.Option.{option_map_or}
use Rattle.std.specs.Ordering.{nat_cmp, match_ordering}
use Rattle.std.specs.Cmp.Lexicographic.{slice_cmp}
use Rattle.serde_json.specs.Data.{Data, Members, no_members, member, put, boolean, string, depth, items_depth, members_depth}
use Rattle.serde_json.specs.Read.{max_depth}
use Rattle.serde_json.specs.View.{items_of}
use Rattle.jr_json.specs.Json.{value_data}
use Rattle.jr_path.specs.declared.name.Name.{Name}
use Rattle.jr_path.specs.declared.path.Path.{Path}
use Rattle.jr_path.specs.declared.path.DocId.{DocId}
use Rattle.jr_path.specs.declared.path.DocId.TheVariants.{Node, Prev, Settings}
use Rattle.jr_rev.specs.declared.revision.Revision.{Revision}
use Rattle.jr_rev.specs.Vectors.{Entries}
use Rattle.jr_rev.specs.Texts.{revision_text, vector_text}
use Rattle.jr_value.specs.declared.value.Value.{Value}
use Rattle.jr_value.specs.declared.value.Value.TheVariants as value
use Rattle.jr_value.specs.declared.value.Property.{Property}
use Rattle.jr_value.specs.declared.value.Property.TheVariants.{Single, Many}
use Rattle.oak_doc.specs.declared.document.Document.{Document}
use Rattle.oak_doc.specs.declared.document.PrevEntry.{PrevEntry}
use Rattle.jr_docs.specs.Members.{Field, map_data, members_of_map, put_all, put_field, put_fields, unless_empty}
use Rattle.jr_docs.specs.Documents.{collision_data, commit_data, document_data, fields_at, fields_of, listed_data, note_data, number_data, pin_data, prev_data, property_field, sweep_field, held_data}

both : (a b n : ℕ) → a ≤ n → b ≤ n → max a b ≤ n
both a b n h k = omega arith

left : (a b n : ℕ) → max a b ≤ n → a ≤ n
left a b n h = omega arith

right : (a b n : ℕ) → max a b ≤ n → b ≤ n
right a b n h = omega arith

put_shallow : (n : ℕ) (k : List ℕ) (d : Data) (ms : Members) → depth d ≤ n → members_depth ms ≤ n → members_depth (put k d ms) ≤ n
put_shallow n k d no_members h g = both (depth d) 0 n h g
put_shallow n k d (member l e ms) h g = by (slice_cmp nat_cmp k l) (put_shallow n k d ms h)
  where
    by : (o : Ordering) → (members_depth ms ≤ n → members_depth (put k d ms) ≤ n) → members_depth (match_ordering o (member k d (member l e ms)) (member l d ms) (member l e (put k d ms))) ≤ n
    by Less rest = both (depth d) (max (depth e) (members_depth ms)) n h g
    by Equal rest = both (depth d) (members_depth ms) n h (right (depth e) (members_depth ms) n g)
    by Greater rest = both (depth e) (members_depth (put k d ms)) n (left (depth e) (members_depth ms) n g) (rest (right (depth e) (members_depth ms) n g))

entries_shallow : (n : ℕ) {K V : Type 0} (text : K → List ℕ) (of_value : V → Data) → ((v : V) → depth (of_value v) ≤ n) → (ms : Members) → members_depth ms ≤ n → (es : List (K × V)) → members_depth (put_all ms (members_of_map text of_value es)) ≤ n
entries_shallow n text of_value shallow ms h [] = h
entries_shallow n text of_value shallow ms h (e ∷ es) = entries_shallow n text of_value shallow (put (text e.0) (of_value e.1) ms) (put_shallow n (text e.0) (of_value e.1) ms (shallow e.1) h) es

under : (a n : ℕ) → a ≤ n → suc a ≤ suc n
under a n h = omega arith

map_shallow : {K V : Type 0} (text : K → List ℕ) (of_value : V → Data) → ((v : V) → depth (of_value v) ≤ 2) → (es : List (K × V)) → depth (map_data text of_value es) ≤ 3
map_shallow text of_value shallow es = under (members_depth (put_all no_members (members_of_map text of_value es))) 2 (entries_shallow 2 text of_value shallow no_members (omega arith) es)

-- a field nests three deep at most
abbrev IsShallow : Option Data → Type 0
IsShallow None = Unit {0}
IsShallow (Some d) = depth d ≤ 3

field_shallow : (ms : Members) (k : List ℕ) (o : Option Data) → members_depth ms ≤ 3 → IsShallow o → members_depth (option_map_or (λ d. put k d ms) o ms) ≤ 3
field_shallow ms k None h p = h
field_shallow ms k (Some d) h p = put_shallow 3 k d ms p h

fields_shallow : (ms : Members) (fs : List Field) → members_depth ms ≤ 3 → AllByRecursion (λ f. IsShallow f.1) fs → members_depth (put_fields ms fs) ≤ 3
fields_shallow ms [] h all = h
fields_shallow ms (f ∷ fs) h all = fields_shallow (put_field ms f) fs (field_shallow ms f.0 f.1 h all.0) all.1

unless_shallow : {X : Type 0} (of_value : List X → Data) → ((xs : List X) → depth (of_value xs) ≤ 3) → (xs : List X) → IsShallow (unless_empty of_value xs)
unless_shallow of_value shallow [] = tt
unless_shallow of_value shallow (x ∷ xs) = shallow (x ∷ xs)

kind_shallow : (x : Value) → depth (value_data x) ≤ 1
kind_shallow (value.Str t) = omega arith
kind_shallow (value.Binary bytes) = omega arith
kind_shallow (value.Long n) = omega arith
kind_shallow (value.Date n) = omega arith
kind_shallow (value.Boolean b) = omega arith
kind_shallow (value.Name n) = omega arith
kind_shallow (value.Path p) = omega arith
kind_shallow (value.Reference id) = omega arith
kind_shallow (value.WeakReference id) = omega arith
kind_shallow (value.Uri t) = omega arith

kinds_shallow : (xs : List Value) → items_depth (items_of (map value_data xs)) ≤ 1
kinds_shallow [] = omega arith
kinds_shallow (x ∷ xs) = both (depth (value_data x)) (items_depth (items_of (map value_data xs))) 1 (kind_shallow x) (kinds_shallow xs)

more : (a m n : ℕ) → a ≤ m → m ≤ n → a ≤ n
more a m n h k = omega arith

value_shallow : (x : Option Property) → depth (held_data x) ≤ 2
value_shallow None = omega arith
value_shallow (Some (Single x)) = more (depth (value_data x)) 1 2 (kind_shallow x) (omega arith)
value_shallow (Some (Many k [])) = omega arith
value_shallow (Some (Many k (x ∷ xs))) = under (items_depth (items_of (map value_data (x ∷ xs)))) 1 (kinds_shallow (x ∷ xs))

listed_shallow : (p : Path) (es : List PrevEntry) → items_depth (items_of (map (prev_data p) es)) ≤ 1
listed_shallow p [] = omega arith
listed_shallow p (e ∷ es) = both (depth (prev_data p e)) (items_depth (items_of (map (prev_data p) es))) 1 (omega arith) (listed_shallow p es)

list_shallow : (p : Path) (es : List PrevEntry) → depth (listed_data p es) ≤ 3
list_shallow p es = more (suc (items_depth (items_of (map (prev_data p) es)))) 2 3 (under (items_depth (items_of (map (prev_data p) es))) 1 (listed_shallow p es)) (omega arith)

props_shallow : (ps : List (Name × List (Revision × Option Property))) → AllByRecursion (λ f. IsShallow f.1) (map property_field ps)
props_shallow [] = tt
props_shallow (p ∷ ps) = (unless_shallow (map_data revision_text held_data) (map_shallow revision_text held_data value_shallow) p.1, props_shallow ps)

sweep_shallow : (p : Path) (v : Entries) → IsShallow (sweep_field p v)
sweep_shallow [] v = unless_shallow string (λ t. omega arith) (vector_text v)
sweep_shallow (n ∷ p) v = tt

at_shallow : (id : DocId) (d : Document) → AllByRecursion (λ f. IsShallow f.1) (fields_at id d)
at_shallow (Node p) d = (
  unless_shallow (map_data revision_text boolean) (map_shallow revision_text boolean (λ b. omega arith)) d.deleted,
  (
    unless_shallow (map_data revision_text number_data) (map_shallow revision_text number_data (λ n. omega arith)) d.commit_root,
    (
      unless_shallow (map_data revision_text commit_data) (map_shallow revision_text commit_data (λ u. omega arith)) d.revisions,
      (
        unless_shallow (map_data revision_text collision_data) (map_shallow revision_text collision_data (λ c. omega arith)) d.collisions,
        (
          unless_shallow (map_data revision_text note_data) (map_shallow revision_text note_data (λ u. omega arith)) d.touched,
          (
            unless_shallow (map_data revision_text note_data) (map_shallow revision_text note_data (λ u. omega arith)) d.guard,
            (
              unless_shallow string (λ t. omega arith) (vector_text d.last_rev),
              (
                sweep_shallow p d.sweep_rev,
                (
                  unless_shallow (listed_data p) (list_shallow p) d.prev,
                  props_shallow d.props,
                ),
              ),
            ),
          ),
        ),
      ),
    ),
  ),
)
at_shallow (Prev n p) d = (unless_shallow (map_data revision_text number_data) (map_shallow revision_text number_data (λ n. omega arith)) d.commit_root, props_shallow d.props)
at_shallow Settings d =
    (omega arith, (map_shallow (λ t. t) pin_data (λ p. omega arith) d.checkpoints, (map_shallow decimal pin_data (λ p. omega arith) d.readers, tt)))

pub document_shallow : (d : Document) → depth (document_data d) ≤ max_depth
document_shallow d = more (suc (members_depth (put_fields no_members (fields_of d)))) 4 127
    (under (members_depth (put_fields no_members (fields_of d))) 3 (fields_shallow no_members (fields_of d) (omega arith) (omega arith, (omega arith, at_shallow d.id d)))) (omega arith)
