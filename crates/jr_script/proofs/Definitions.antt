-- JSON defines one type at most.
use Rattle.std.proofs.Common.{◌≡◌, ◌∙◌, ℕ, zero, suc, arith, Bool, false, cond, List, [], ◌∷◌, Option, Some, None, ap, bytes_eq, codes, refl, sym}
use Rattle.std.specs.Str.{IsAscii, chars, is_utf8}
use Rattle.std.proofs.lemmas.Bool.{and_parts}
use Rattle.std.proofs.lemmas.Str.{chars-IsAscii}
use Rattle.serde_json.specs.Data.{Data, Items, null, boolean, number, string, array, object, no_items, item}
use Rattle.serde_json.specs.Find.{get}
use Rattle.jr_path.specs.Grammar.{IsName}
use Rattle.jr_path.specs.Named.{is_formed, is_name}
use Rattle.jr_path.specs.declared.name.Name.{Name}
use Rattle.jr_path.proofs.Named.{name_passes}
use Rattle.jr_value.specs.Words.{all_kinds, kind_named}
use Rattle.jr_value.specs.declared.value.Kind.{Kind}
use Rattle.jr_value.specs.declared.value.Kind.TheVariants as kind
use Rattle.jr_value.specs.declared.value.Property.{Property}
use Rattle.jr_value.specs.declared.value.Property.TheVariants.{Single, Many}
use Rattle.jr_value.specs.declared.value.Value.{Value}
use Rattle.jr_json.proofs.Unique.{property_one}
use Rattle.jr_defs.specs.Reading.{AreDefaultsJson, AreRead, IsChildJson, IsFlagJson, IsItemNameJson, IsKindJson, IsListJson, IsNameJson, IsOpvJson, IsOr, IsPropJson, IsSomeNameJson, IsTextJson, IsThere, IsTypeJson}
use Rattle.jr_types.specs.Attributes.{opv_text}
use Rattle.jr_types.specs.declared.OnParentVersion.{OnParentVersion}
use Rattle.jr_types.specs.declared.OnParentVersion.TheVariants as opv
use Rattle.jr_args.specs.Trees.{json_text_in}
use mathlib.Core.Bool.{false≢true}

-- at most one thing is read from JSON
abbrev IsOne : {X : Type 0} → (Data → X → Type 0) → Type 0
IsOne {X} R = (d : Data) (x y : X) → R d x → R d y → x ≡ y

one_or : {X : Type 0} (left : X) (R : Data → X → Type 0) → IsOne R → (o : Option Data) (x y : X) → IsOr left R o x → IsOr left R o y → x ≡ y
one_or left R one None x y h g = h ∙ sym g
one_or left R one (Some d) x y h g = one d x y h g

one_there : {X : Type 0} (R : Data → X → Type 0) → IsOne R → (o : Option Data) (x y : X) → IsThere R o x → IsThere R o y → x ≡ y
one_there R one None x y h g = absurd h
one_there R one (Some d) x y h g = one d x y h g

-- ---- flags, names and words

abbrev flag_in : Data → Bool
flag_in (boolean b) = b
flag_in d = false

one_flag : IsOne IsFlagJson
one_flag d x y h g = ap flag_in (sym h ∙ g)

one_name : IsOne IsNameJson
one_name d x y h g = ap json_text_in (sym h.0 ∙ g.0)

star_is_none : IsName (codes "*") → ⊥
unfolding is_name
star_is_none h =
    let named = and_parts (is_utf8 (codes "*")) _ (name_passes (codes "*") h) in
    let formed = and_parts (is_formed (chars (codes "*"))) _ named.1 in
    false≢true (ap is_formed (sym (chars-IsAscii (codes "*") ascii)) ∙ formed.0)
  where
    ascii : IsAscii (codes "*")
    ascii zero = omega arith
    ascii (suc i) = omega arith

star_or_name : {A : Type 0} (d : Data) (n : Name) → d ≡ string (codes "*") → IsNameJson d n → A
star_or_name d n h g = absurd (star_is_none (rw (ap json_text_in (sym h ∙ g.0)) g.1))

one_item_name : IsOne IsItemNameJson
one_item_name d None None h g = refl
one_item_name d None (Some n) h g = star_or_name d n h g
one_item_name d (Some n) None h g = star_or_name d n g h
one_item_name d (Some n) (Some m) h g = ap Some (one_name d n m h g)

one_some_name : IsOne IsSomeNameJson
one_some_name d None y h g = absurd h
one_some_name d (Some n) None h g = absurd g
one_some_name d (Some n) (Some m) h g = ap Some (one_name d n m h g)

one_text : IsOne IsTextJson
one_text d x y h g = ap json_text_in (sym h ∙ g)

kind_back : (d : Data) (k : Option Kind) → IsKindJson d k → kind_named all_kinds (json_text_in d) ≡ k
kind_back d None h = ap (λ d. kind_named all_kinds (json_text_in d)) h
kind_back d (Some k) h = ap (λ d. kind_named all_kinds (json_text_in d)) h ∙ named k
  where
    named : (k : Kind) → kind_named all_kinds (json_text_in (string (Rattle.jr_value.specs.Words.kind_text k))) ≡ Some k
    named kind.Str = refl
    named kind.Binary = refl
    named kind.Long = refl
    named kind.Date = refl
    named kind.Boolean = refl
    named kind.Name = refl
    named kind.Path = refl
    named kind.Reference = refl
    named kind.WeakReference = refl
    named kind.Uri = refl

one_kind : IsOne IsKindJson
one_kind d x y h g = sym (kind_back d x h) ∙ kind_back d y g

abbrev opv_named : List ℕ → OnParentVersion
opv_named w = cond (bytes_eq w (codes "COPY")) opv.Copy
    (cond (bytes_eq w (codes "VERSION")) opv.Version
    (cond (bytes_eq w (codes "INITIALIZE")) opv.Initialize
    (cond (bytes_eq w (codes "COMPUTE")) opv.Compute
    (cond (bytes_eq w (codes "IGNORE")) opv.Ignore opv.Abort))))

opv_back : (o : OnParentVersion) → opv_named (opv_text o) ≡ o
opv_back opv.Copy = refl
opv_back opv.Version = refl
opv_back opv.Initialize = refl
opv_back opv.Compute = refl
opv_back opv.Ignore = refl
opv_back opv.Abort = refl

one_opv : IsOne IsOpvJson
one_opv d x y h g = sym (opv_back x) ∙ ap (λ d. opv_named (json_text_in d)) (sym h ∙ g) ∙ opv_back y

-- ---- lists

one_each : {X : Type 0} (R : Data → X → Type 0) → IsOne R → (ds : Items) (xs ys : List X) → AreRead R ds xs → AreRead R ds ys → xs ≡ ys
one_each R one no_items [] [] h g = refl
one_each R one no_items [] (y ∷ ys) h g = absurd g
one_each R one no_items (x ∷ xs) ys h g = absurd h
one_each R one (item d ds) [] ys h g = absurd h
one_each R one (item d ds) (x ∷ xs) [] h g = absurd g
one_each R one (item d ds) (x ∷ xs) (y ∷ ys) h g = (λ i. one d x y h.0 g.0 i ∷ one_each R one ds xs ys h.1 g.1 i)

one_list : {X : Type 0} (R : Data → X → Type 0) → IsOne R → IsOne (IsListJson R)
one_list R one null xs ys h g = absurd h
one_list R one (boolean b) xs ys h g = absurd h
one_list R one (number n) xs ys h g = absurd h
one_list R one (string t) xs ys h g = absurd h
one_list R one (array ds) xs ys h g = one_each R one ds xs ys h g
one_list R one (object ms) xs ys h g = absurd h

abbrev values_in : Property → List Value
values_in (Single x) = x ∷ []
values_in (Many k xs) = xs

no_values : (d : Data) (y : Value) (ys : List Value) → d ≡ array no_items → AreDefaultsJson d (y ∷ ys) → ⊥
no_values d y ys h g = (rw h at g).1

one_defaults : IsOne AreDefaultsJson
one_defaults d [] [] h g = refl
one_defaults d [] (y ∷ ys) h g = absurd (no_values d y ys h g)
one_defaults d (x ∷ xs) [] h g = absurd (no_values d x xs g h)
one_defaults (array ds) (x ∷ xs) (y ∷ ys) h g = ap values_in (property_one (array ds) (Many h.0 (x ∷ xs)) (Many g.0 (y ∷ ys)) h.1 g.1)
one_defaults null (x ∷ xs) (y ∷ ys) h g = absurd h
one_defaults (boolean b) (x ∷ xs) (y ∷ ys) h g = absurd h
one_defaults (number n) (x ∷ xs) (y ∷ ys) h g = absurd h
one_defaults (string t) (x ∷ xs) (y ∷ ys) h g = absurd h
one_defaults (object ms) (x ∷ xs) (y ∷ ys) h g = absurd h

-- ---- definitions

one_prop : IsOne IsPropJson
one_prop d x y h g = (λ i. record {
  name = one_there IsItemNameJson one_item_name (get (codes "name") d) x.name y.name h.name g.name i;
  kind = one_or None IsKindJson one_kind (get (codes "type") d) x.kind y.kind h.kind g.kind i;
  mandatory = one_or false IsFlagJson one_flag (get (codes "mandatory") d) x.mandatory y.mandatory h.mandatory g.mandatory i;
  autocreated = one_or false IsFlagJson one_flag (get (codes "autocreated") d) x.autocreated y.autocreated h.autocreated g.autocreated i;
  protected = one_or false IsFlagJson one_flag (get (codes "protected") d) x.protected y.protected h.protected g.protected i;
  multiple = one_or false IsFlagJson one_flag (get (codes "multiple") d) x.multiple y.multiple h.multiple g.multiple i;
  defaults = one_or [] AreDefaultsJson one_defaults (get (codes "defaults") d) x.defaults y.defaults h.defaults g.defaults i;
  constraints = one_or [] (IsListJson IsTextJson) (one_list IsTextJson one_text) (get (codes "constraints") d) x.constraints y.constraints h.constraints g.constraints i;
  opv = one_or opv.Copy IsOpvJson one_opv (get (codes "opv") d) x.opv y.opv h.opv g.opv i;
})

one_child : IsOne IsChildJson
one_child d x y h g = (λ i. record {
  name = one_there IsItemNameJson one_item_name (get (codes "name") d) x.name y.name h.name g.name i;
  types = one_or _ (IsListJson IsNameJson) (one_list IsNameJson one_name) (get (codes "types") d) x.types y.types h.types g.types i;
  default_type = one_or None IsSomeNameJson one_some_name (get (codes "default") d) x.default_type y.default_type h.default_type g.default_type i;
  mandatory = one_or false IsFlagJson one_flag (get (codes "mandatory") d) x.mandatory y.mandatory h.mandatory g.mandatory i;
  autocreated = one_or false IsFlagJson one_flag (get (codes "autocreated") d) x.autocreated y.autocreated h.autocreated g.autocreated i;
  protected = one_or false IsFlagJson one_flag (get (codes "protected") d) x.protected y.protected h.protected g.protected i;
  opv = one_or opv.Copy IsOpvJson one_opv (get (codes "opv") d) x.opv y.opv h.opv g.opv i;
})

pub one_type : IsOne IsTypeJson
one_type d x y h g = (λ i. record {
  name = one_there IsNameJson one_name (get (codes "name") d) x.name y.name h.name g.name i;
  supertypes = one_or [] (IsListJson IsNameJson) (one_list IsNameJson one_name) (get (codes "supertypes") d) x.supertypes y.supertypes h.supertypes g.supertypes i;
  is_abstract = one_or false IsFlagJson one_flag (get (codes "abstract") d) x.is_abstract y.is_abstract h.is_abstract g.is_abstract i;
  mixin = one_or false IsFlagJson one_flag (get (codes "mixin") d) x.mixin y.mixin h.mixin g.mixin i;
  orderable = one_or false IsFlagJson one_flag (get (codes "orderable") d) x.orderable y.orderable h.orderable g.orderable i;
  primary_item = one_or None IsSomeNameJson one_some_name (get (codes "primaryItem") d) x.primary_item y.primary_item h.primary_item g.primary_item i;
  props = one_or [] (IsListJson IsPropJson) (one_list IsPropJson one_prop) (get (codes "props") d) x.props y.props h.props g.props i;
  children = one_or [] (IsListJson IsChildJson) (one_list IsChildJson one_child) (get (codes "children") d) x.children y.children h.children g.children i;
})
