-- Readings have one outcome at most.
use Rattle.std.proofs.Common.{◌≡◌, ◌∙◌, ℕ, ◌+◌, ◌++◌, Bool, true, false, List, [], ◌∷◌, Option, Some, None, ap, bytes_eq, codes, sym, subst}
use Rattle.std.specs.BTreeMap.{insert_entry}
use Rattle.serde_json.specs.Data.{Data, Items, Members, null, boolean, number, string, array, object, no_items, item, no_members, member}
use Rattle.serde_json.specs.Find.{as_str, get}
use Rattle.jr_path.proofs.Pieces.{names_from_all, one_path}
use Rattle.jr_path.specs.Names.{name_cmp}
use Rattle.jr_path.specs.Paths.{IsPath}
use Rattle.jr_path.specs.declared.name.Name.{Name}
use Rattle.jr_path.specs.declared.path.Path.{Path}
use Rattle.jr_args.specs.Outcomes.{Outcome, Means, Breaks, HasOneOutcome, Reading, Then, guard, is, judged, onward, under}
use Rattle.jr_args.specs.Commands.{argument, command_named, called_of, command_of, command_listed, name_argument, name_if_any, name_if_any_at, named_of, path_at}
use Rattle.jr_args.specs.Trees.{below_of, children_of, chosen_reading, entry_of, items_in, list_of, map_of, members_in, mixin_of, mixins_of, node_of, nodes_of, optional_of, properties_read, some_name_of, json_text_in, tree_of, type_of, variables_of}
use Rattle.jr_args.specs.Values.{name_of, path_of, property_read, value_of}
use Rattle.jr_args.specs.Words.{fit_kinds, kinds_of, word_named}
use Rattle.jr_args.specs.declared.fault.Step.{Step}
use Rattle.jr_args.specs.declared.fault.Step.TheVariants.{Key, Index}
use Rattle.jr_args.specs.declared.word.Word.{Word}
use Rattle.jr_args.specs.declared.word.Word.TheVariants as word
use Rattle.jr_json.proofs.Unique.{property_one}
use Rattle.jr_json.specs.Reading.{IsValueJson}
use Rattle.jr_value.specs.declared.value.Property.{Property}
use Rattle.jr_value.specs.declared.value.Property.TheVariants.{Single, Many}
use Rattle.jr_value.specs.declared.value.Value.{Value}
use mathlib.Core.Bool.{false≢true}

pub one_is : {X : Type 0} (o : Outcome X) → HasOneOutcome (is o)
one_is o p q h g = h ∙ sym g

pub one_guard : (b : Bool) (rule : ℕ) → HasOneOutcome (guard b rule)
one_guard true rule = one_is (Means tt)
one_guard false rule = one_is (Breaks rule [])

one_onward : {X Y : Type 0} (f : X → Reading Y) → ((x : X) → HasOneOutcome (f x)) → (first : Outcome X) → HasOneOutcome (onward f first)
one_onward f each (Means x) = each x
one_onward f each (Breaks rule steps) = one_is (Breaks rule steps)

pub one_then : {X Y : Type 0} (M : Reading X) (f : X → Reading Y) → HasOneOutcome M → ((x : X) → HasOneOutcome (f x)) → HasOneOutcome (Then M f)
one_then M f one each p q h g =
    let same = one g.first h.first g.is_first h.is_first in
    one_onward f each h.first p q h.rest (subst (λ o. onward f o q) same g.rest)

abbrev means : {X : Type 0} → Outcome X → Bool
means (Means x) = true
means (Breaks rule steps) = false

abbrev deeper : {X : Type 0} → Step → Outcome X → Outcome X
deeper step (Means x) = Means x
deeper step (Breaks rule steps) = Breaks rule (step ∷ steps)

pub one_under : {X : Type 0} (step : Step) (M : Reading X) → HasOneOutcome M → HasOneOutcome (under step M)
one_under step M one (Means x) (Means y) h g = one (Means x) (Means y) h g
one_under step M one (Means x) (Breaks rule steps) h g = absurd (false≢true (sym (ap means (one (Means x) (Breaks rule g.0) h g.2))))
one_under step M one (Breaks rule steps) (Means y) h g = absurd (false≢true (ap means (one (Breaks rule h.0) (Means y) h.2 g)))
one_under step M one (Breaks rule steps) (Breaks broken more) h g =
    ap (Breaks rule) h.1 ∙ ap (deeper step) (one (Breaks rule h.0) (Breaks broken g.0) h.2 g.2) ∙ sym (ap (Breaks broken) g.1)

pub one_judged : {X : Type 0} (Good : X → Type 0) (rule : ℕ) → ((x y : X) → Good x → Good y → x ≡ y) → HasOneOutcome (judged Good rule)
one_judged Good rule one (Means x) (Means y) h g = ap Means (one x y h g)
one_judged Good rule one (Means x) (Breaks broken steps) h g = absurd (g.2 x h)
one_judged Good rule one (Breaks broken steps) (Means y) h g = absurd (h.2 y g)
one_judged Good rule one (Breaks broken steps) (Breaks other more) h g = (λ i. Breaks ((h.0 ∙ sym g.0) i) ((h.1 ∙ sym g.1) i))

-- ---- names, paths and values

one_name : (text : List ℕ) → HasOneOutcome (name_of text)
one_name text = one_judged _ 6 (λ n m h g. h.1 ∙ sym g.1)

one_path_of : (text : List ℕ) → HasOneOutcome (path_of text)
one_path_of text = one_judged (IsPath text) 6 (λ p q h g. one_path p q (names_from_all p h.are_names) (names_from_all q g.are_names) (sym h.spelled ∙ g.spelled))

one_property_of : (d : Data) → HasOneOutcome (property_read d)
one_property_of d = one_judged _ 7 (property_one d)

abbrev single : Value → Property → Value
single other (Single x) = x
single other (Many k xs) = other

one_value_of : (d : Data) → HasOneOutcome (value_of d)
one_value_of d = one_judged (IsValueJson d) 7 (λ x y h g. ap (single x) (property_one d (Single x) (Single y) h g))

one_some_name : (text : List ℕ) → HasOneOutcome (some_name_of text)
one_some_name text = one_then _ _ (one_name text) (λ n. one_is (Means (Some n)))

-- ---- lists and maps

pub one_list : {X : Type 0} (M : Data → Reading X) → ((d : Data) → HasOneOutcome (M d)) → (i : ℕ) (ds : Items) → HasOneOutcome (list_of M i ds)
one_list M each i no_items = one_is (Means [])
one_list M each i (item d ds) = one_then _ _ (one_under (Index i) (M d) (each d)) (λ x. one_then _ _ (one_list M each (i + 1) ds) (λ xs. one_is (Means (x ∷ xs))))

one_entry : {X : Type 0} (M : Data → Reading X) → ((d : Data) → HasOneOutcome (M d)) → (key : List ℕ) (d : Data) → HasOneOutcome (entry_of M key d)
one_entry M each key d = one_then _ _ (one_name key) (λ name. one_then _ _ (each d) (λ x. one_is (Means (name, x))))

one_map : {X : Type 0} (M : Data → Reading X) → ((d : Data) → HasOneOutcome (M d)) → (map : List (Name × X)) (ms : Members) → HasOneOutcome (map_of M map ms)
one_map M each map no_members = one_is (Means map)
one_map M each map (member key d ms) = one_then _ _ (one_under (Key key) (entry_of M key d) (one_entry M each key d)) (λ e. one_map M each (insert_entry name_cmp map e.0 e.1) ms)

pub one_optional : {X : Type 0} (key : List ℕ) (none : X) (M : Data → Reading X) → ((d : Data) → HasOneOutcome (M d)) → (d : Option Data) → HasOneOutcome (optional_of key none M d)
one_optional key none M each None = one_is (Means none)
one_optional key none M each (Some d) = one_under (Key key) (M d) (each d)

one_mixins : (d : Data) → HasOneOutcome (mixins_of d)
one_mixins d = one_list mixin_of (λ e. one_name (json_text_in e)) 0 (items_in d)

one_props : (d : Data) → HasOneOutcome (properties_read d)
one_props d = one_map property_read one_property_of [] (members_in d)

one_variables : (d : Data) → HasOneOutcome (variables_of d)
one_variables d = one_map value_of one_value_of [] (members_in d)

-- ---- trees

one_node : (path : Path) (d : Data) → HasOneOutcome (node_of path d)
one_node path d =
    one_then _ _ (one_optional (codes "type") None type_of (λ e. one_some_name (json_text_in e)) (get (codes "type") d)) (λ type.
    one_then _ _ (one_optional (codes "mixins") [] mixins_of one_mixins (get (codes "mixins") d)) (λ mixins.
    one_then _ _ (one_optional (codes "props") [] properties_read one_props (get (codes "props") d)) (λ props. one_is _)))

one_chosen : {X : Type 0} (b : Bool) (M N : Reading X) → HasOneOutcome M → HasOneOutcome N → HasOneOutcome (chosen_reading b M N)
one_chosen true M N m n = m
one_chosen false M N m n = n

mutual
  one_tree : (path : Path) (d : Data) → HasOneOutcome (tree_of path d)
  one_tree path null = one_is (Means [])
  one_tree path (boolean b) = one_is (Means [])
  one_tree path (number n) = one_is (Means [])
  one_tree path (string t) = one_is (Means [])
  one_tree path (array ds) = one_is (Means [])
  one_tree path (object ms) = one_then _ _ (one_node path (object ms)) (λ node. one_then _ _ (one_nodes path ms) (λ nodes. one_is (Means (node ∷ nodes))))

  one_nodes : (path : Path) (ms : Members) → HasOneOutcome (nodes_of path ms)
  one_nodes path no_members = one_is (Means [])
  one_nodes path (member key d ms) = one_chosen (bytes_eq key (codes "nodes")) (under (Key key) (below_of path d)) (nodes_of path ms) (one_under (Key key) (below_of path d) (one_below path d)) (one_nodes path ms)

  one_below : (path : Path) (d : Data) → HasOneOutcome (below_of path d)
  one_below path null = one_is (Means [])
  one_below path (boolean b) = one_is (Means [])
  one_below path (number n) = one_is (Means [])
  one_below path (string t) = one_is (Means [])
  one_below path (array ds) = one_is (Means [])
  one_below path (object ms) = one_children path ms

  one_children : (path : Path) (ms : Members) → HasOneOutcome (children_of path ms)
  one_children path no_members = one_is (Means [])
  one_children path (member key d ms) =
      one_then _ _ (one_under (Key key) (Then (name_of key) (λ name. tree_of (path ++ name ∷ []) d)) (one_then _ _ (one_name key) (λ name. one_tree (path ++ name ∷ []) d))) (λ xs.
      one_then _ _ (one_children path ms) (λ ys. one_is (Means (xs ++ ys))))

-- ---- commands

one_path_at : (i : ℕ) (ds : Items) → HasOneOutcome (path_at i ds)
one_path_at i ds = one_under (Index (i + 1)) _ (one_path_of _)

one_name_at : (i : ℕ) (ds : Items) → HasOneOutcome (name_argument i ds)
one_name_at i ds = one_under (Index (i + 1)) _ (one_name _)

one_if_any : (t : Option (List ℕ)) → HasOneOutcome (name_if_any t)
one_if_any None = one_is (Means None)
one_if_any (Some text) = one_some_name text

one_if_any_at : (i : ℕ) (ds : Items) → HasOneOutcome (name_if_any_at i ds)
one_if_any_at i ds = one_under (Index (i + 1)) _ (one_if_any _)

one_call : (w : Word) (ds : Items) → HasOneOutcome (command_named w ds)
one_call (word.Bare w) ds = one_is _
one_call (word.OnPath w) ds = one_then _ _ (one_path_at 0 ds) (λ path. one_is _)
one_call (word.OnText w) ds = one_is _
one_call (word.OnName w) ds = one_then _ _ (one_path_at 0 ds) (λ path. one_then _ _ (one_name_at 1 ds) (λ name. one_is _))
one_call (word.OnNode w) ds = one_is _
one_call word.Add ds = one_then _ _ (one_path_at 0 ds) (λ path. one_then _ _ (one_if_any_at 1 ds) (λ type. one_is _))
one_call word.Tree ds = one_then _ _ (one_path_at 0 ds) (λ path. one_then _ _ (one_under (Index 2) _ (one_tree [] (argument 1 ds))) (λ nodes. one_is _))
one_call word.Set ds = one_then _ _ (one_path_at 0 ds) (λ path. one_then _ _ (one_name_at 1 ds) (λ name. one_then _ _ (one_under (Index 3) _ (one_property_of (argument 2 ds))) (λ x. one_is _)))
one_call word.Move ds = one_then _ _ (one_path_at 0 ds) (λ path. one_then _ _ (one_path_at 1 ds) (λ target. one_is _))
one_call word.Refresh ds = one_is _
one_call word.Lock ds = one_then _ _ (one_path_at 0 ds) (λ path. one_is _)
one_call word.Restore ds = one_then _ _ (one_path_at 0 ds) (λ path. one_is _)
one_call word.Label ds = one_then _ _ (one_path_at 0 ds) (λ path. one_then _ _ (one_name_at 2 ds) (λ label. one_is _))
one_call word.Observe ds = one_then _ _ (one_path_at 0 ds) (λ path. one_is _)
one_call word.Query ds = one_then _ _ (one_under (Index 2) _ (one_variables (argument 1 ds))) (λ variables. one_is _)
one_call word.OrderBefore ds = one_then _ _ (one_path_at 0 ds) (λ path. one_then _ _ (one_if_any_at 1 ds) (λ name. one_is _))

one_named : (w : Option Word) (ds : Items) → HasOneOutcome (named_of w ds)
one_named None ds = one_is (Breaks 5 [])
one_named (Some w) ds = one_then _ _ (one_guard (fit_kinds (kinds_of w) ds) 5) (λ u. one_call w ds)

one_called : (t : Option (List ℕ)) (ds : Items) → HasOneOutcome (called_of t ds)
one_called None ds = one_is (Breaks 5 [])
one_called (Some text) ds = one_named (word_named text) ds

one_listed : (ds : Items) → HasOneOutcome (command_listed ds)
one_listed no_items = one_is (Breaks 5 [])
one_listed (item d ds) = one_called (as_str d) ds

pub one_command : (d : Data) → HasOneOutcome (command_of d)
one_command null = one_is (Breaks 5 [])
one_command (boolean b) = one_is (Breaks 5 [])
one_command (number n) = one_is (Breaks 5 [])
one_command (string t) = one_is (Breaks 5 [])
one_command (array ds) = one_listed ds
one_command (object ms) = one_is (Breaks 5 [])
