-- The properties of a frozen node, and of a node that is brought to it.
use Rattle.std.proofs.Common.{◌≡◌, Bool, true, false, cond, Some, None, Option, List, [], ◌∷◌, refl, sym, ap, ◌∙◌, subst}
use Rattle.std.specs.Prelude.{◌&&◌, is_some, not}
use Rattle.std.specs.Ordering.{eq_by_cmp}
use Rattle.std.specs.Option.{option_and_then, option_or}
use Rattle.std.specs.List.{fold, list_all}
use Rattle.std.specs.Map.{lookup}
use Rattle.std.specs.BTreeMap.{is_at, insert_entry}
use Rattle.std.specs.FinMap.{is_sorted}
use Rattle.std.proofs.lemmas.Cmp.{eq_by_cmp_equiv, nat_list_cmp_total}
use Rattle.std.proofs.lemmas.Bool.{and_from, and_parts, and_right, not_from_false, or_parts}
use Rattle.std.specs.Cmp.{IsEquivalence}
use Rattle.jr_path.specs.Names.{name_cmp}
use Rattle.jr_path.specs.declared.name.Name.{Name}
use Rattle.jr_path.proofs.Maps.{lookup-insert_entry, name_exact}
use Rattle.jr_value.specs.declared.value.Property.{Property}
use Rattle.jr_value.specs.declared.value.Property.TheVariants.{Single}
use Rattle.jr_value.specs.declared.value.Value.TheVariants as value
use Rattle.jr_tree.specs.declared.tree.Node.{Node}
use Rattle.jr_items.specs.Names.{frozen_mixin_types, frozen_primary_type, frozen_type, frozen_uuid, mixin_types, primary_type, uuid}
use Rattle.jr_items.specs.Items.{property_of, same_name}
use Rattle.jr_types.specs.declared.TypeDef.{TypeDef}
use Rattle.jcr_frozen.specs.declared.attributes.Asked.TheVariants as asked
use Rattle.jcr_frozen.specs.declared.frozen.Share.TheVariants as share
use Rattle.jcr_frozen.specs.Attributes.{property_has}
use Rattle.jcr_frozen.specs.Frozen.{frozen_copy, frozen_props, is_copied, is_frozen_name, is_type_property, is_unkept, share_of, with_optional_property}
use Rattle.basics.proofs.Orders.{equal_of}
use Rattle.basics.proofs.Options.{where_some}
use Rattle.jcr_restore.specs.Restored.{brought_props, left_props, with_frozen, with_frozen_identifier, with_types}
use Rattle.jcr_restore.specs.BroughtBack.{unkept_property}
use Rattle.jcr_restore.proofs.Folded.{found_folded, if_passed}

abbrev Props : Type 0
Props = List (Name × Property)

abbrev at : Props → Name → Option Property
at props n = lookup (is_at (name_cmp n)) props

pub or_none : {X : Type 0} (o : Option X) → option_or o None ≡ o
or_none None = refl
or_none (Some x) = refl

or_itself : {X : Type 0} (o : Option X) → option_or o o ≡ o
or_itself None = refl
or_itself (Some x) = refl

in_front : {X : Type 0} (a b c : Option X) → a ≡ b → option_or a c ≡ option_or b c
in_front {X} a b c h = ap (λ (o : Option X). option_or o c) h

all_true : {X : Type 0} (xs : List X) → list_all (λ x. true) xs ≡ true
all_true [] = refl
all_true (x ∷ xs) = all_true xs

-- one property more, if there is one, stands before the others of its name
told : (props : Props) (m : Name) (o : Option Property) (n : Name) → at (with_optional_property props m o) n ≡ option_or (cond (same_name n m) o None) (at props n)
told props m None n = by (same_name n m)
  where
    by : (b : Bool) → at props n ≡ option_or (cond b None None) (at props n)
    by true = refl
    by false = refl
told props m (Some x) n = lookup-insert_entry name_cmp nat_list_cmp_total n m x props ∙ by (same_name n m)
  where
    by : (b : Bool) → cond b (Some x) (at props n) ≡ option_or (cond b (Some x) None) (at props n)
    by true = refl
    by false = refl

-- what is found of the properties that pass a test, put one by one before others
passed : (test : Name × Property → Bool) (n : Name) (es : Props) (u : Props) → is_sorted name_cmp es ≡ true
    → at (fold (λ u e. cond (test e) (insert_entry name_cmp u e.0 e.1) u) u es) n ≡ option_or (if_passed test (λ e. e.1) n (at es n)) (at u n)
passed test n es u sorted =
    found_folded name_cmp name_cmp nat_list_cmp_total nat_list_cmp_total name_exact test (λ m. m) (λ e. e.1) n n (λ e. true) (λ e h. refl) es u sorted (all_true es)

-- the properties that a frozen node copies
copied : (types : List TypeDef) (node : Node) (n : Name) → is_sorted name_cmp node.props ≡ true
    → at (share_of share.Copied types node) n ≡ if_passed (λ e. is_copied types node e.0 e.1) (λ e. e.1) n (property_of node n)
copied types node n sorted = passed (λ e. is_copied types node e.0 e.1) n node.props [] sorted ∙ or_none _

names : IsEquivalence (eq_by_cmp name_cmp)
names = eq_by_cmp_equiv nat_list_cmp_total

apart : (n m : Name) → same_name m n ≡ false → same_name n m ≡ false
apart n m h = names.symm n m ∙ h

-- what a frozen node has for itself stands before what it copies
frozen_at : (types : List TypeDef) (node : Node) (n : Name) → is_sorted name_cmp node.props ≡ true
    → property_of (frozen_copy types node) n
    ≡ option_or (cond (same_name n frozen_uuid) (property_of node uuid) None)
    (option_or (cond (same_name n frozen_mixin_types) (property_of node mixin_types) None)
    (option_or (cond (same_name n frozen_primary_type) (property_of node primary_type) None)
    (cond (same_name n primary_type) (Some (Single (value.Name frozen_type))) (if_passed (λ e. is_copied types node e.0 e.1) (λ e. e.1) n (property_of node n)))))
frozen_at types node n sorted =
    told _ frozen_uuid (property_of node uuid) n
    ∙ ap (option_or (cond (same_name n frozen_uuid) (property_of node uuid) None))
    (told _ frozen_mixin_types (property_of node mixin_types) n
    ∙ ap (option_or (cond (same_name n frozen_mixin_types) (property_of node mixin_types) None))
    (told _ frozen_primary_type (property_of node primary_type) n
    ∙ ap (option_or (cond (same_name n frozen_primary_type) (property_of node primary_type) None))
    (lookup-insert_entry name_cmp nat_list_cmp_total n primary_type _ _
    ∙ ap (cond (same_name n primary_type) (Some (Single (value.Name frozen_type)))) (copied types node n sorted))))

-- the name is none of those that a frozen node has for itself
record IsOrdinary (n : Name) : Type 0 where
  primary : same_name n primary_type ≡ false
  mixins : same_name n mixin_types ≡ false
  told_primary : same_name n frozen_primary_type ≡ false
  told_mixins : same_name n frozen_mixin_types ≡ false
  told_uuid : same_name n frozen_uuid ≡ false

ordinary : (n : Name) → is_frozen_name n ≡ false → IsOrdinary n
ordinary n h =
    let a = or_parts _ _ h in
    let b = or_parts _ _ a.0 in
    let c = or_parts _ _ b.0 in
    let d = or_parts _ _ c.0 in
    record {
      primary = apart n primary_type d.0;
      mixins = apart n mixin_types d.1;
      told_primary = apart n frozen_primary_type c.1;
      told_mixins = apart n frozen_mixin_types b.1;
      told_uuid = apart n frozen_uuid a.1;
    }

-- a property of another name is copied, where a version keeps it
frozen_other : (types : List TypeDef) (node : Node) (n : Name) → is_sorted name_cmp node.props ≡ true → is_frozen_name n ≡ false
    → property_of (frozen_copy types node) n ≡ if_passed (λ e. is_copied types node e.0 e.1) (λ e. e.1) n (property_of node n)
frozen_other types node n sorted h =
    let o = ordinary n h in
    frozen_at types node n sorted ∙ rw (o.told_uuid, o.told_mixins, o.told_primary, o.primary) refl

-- the frozen node tells the node's type
frozen_primary : (types : List TypeDef) (node : Node) → is_sorted name_cmp node.props ≡ true → property_of (frozen_copy types node) frozen_primary_type ≡ property_of node primary_type
frozen_primary types node sorted = frozen_at types node frozen_primary_type sorted ∙ (ap (option_or (property_of node primary_type)) (none_passed (property_of node frozen_primary_type)) ∙ or_none _)
  where
    none_passed : (o : Option Property) → if_passed (λ e. is_copied types node e.0 e.1) (λ e. e.1) frozen_primary_type o ≡ None
    none_passed None = refl
    none_passed (Some x) = refl

-- and its mixins
frozen_mixins : (types : List TypeDef) (node : Node) → is_sorted name_cmp node.props ≡ true → property_of (frozen_copy types node) frozen_mixin_types ≡ property_of node mixin_types
frozen_mixins types node sorted = frozen_at types node frozen_mixin_types sorted ∙ (ap (option_or (property_of node mixin_types)) (none_passed (property_of node frozen_mixin_types)) ∙ or_none _)
  where
    none_passed : (o : Option Property) → if_passed (λ e. is_copied types node e.0 e.1) (λ e. e.1) frozen_mixin_types o ≡ None
    none_passed None = refl
    none_passed (Some x) = refl

-- and its identifier
frozen_id : (types : List TypeDef) (node : Node) → is_sorted name_cmp node.props ≡ true → property_of (frozen_copy types node) frozen_uuid ≡ property_of node uuid
frozen_id types node sorted = frozen_at types node frozen_uuid sorted ∙ (ap (option_or (property_of node uuid)) (none_passed (property_of node frozen_uuid)) ∙ or_none _)
  where
    none_passed : (o : Option Property) → if_passed (λ e. is_copied types node e.0 e.1) (λ e. e.1) frozen_uuid o ≡ None
    none_passed None = refl
    none_passed (Some x) = refl

-- ---- a node that is brought to a frozen node

turned : {X : Type 0} (b : Bool) (x y : X) → cond b y x ≡ cond (not b) x y
turned true x y = refl
turned false x y = refl

-- what a restore leaves of a node
left_is : (types : List TypeDef) (o : Option Node) (n : Name) → ((node : Node) → o ≡ Some node → is_sorted name_cmp node.props ≡ true)
    → at (left_props types o) n ≡ option_and_then (unkept_property types n) o
left_is types None n sorted = refl
left_is types (Some node) n sorted = passed (λ e. is_unkept types node e.0 e.1) n node.props [] (sorted node refl) ∙ or_none _

-- the properties of the frozen node stand before those that are left
put_frozen : (frozen : Node) (u : Props) (n : Name) → is_sorted name_cmp frozen.props ≡ true
    → at (fold with_frozen u frozen.props) n ≡ option_or (if_passed (λ e. not (is_frozen_name e.0)) (λ e. e.1) n (property_of frozen n)) (at u n)
put_frozen frozen u n sorted =
    ap (λ (f : Props → Name × Property → Props). at (fold f u frozen.props) n) (λ i u e. turned (is_frozen_name e.0) (insert_entry name_cmp u e.0 e.1) u i)
    ∙ passed (λ e. not (is_frozen_name e.0)) n frozen.props u sorted

-- the type and the mixins that a frozen node tells stand before the others
types_at : (frozen : Node) (u : Props) (n : Name)
    → at (with_types frozen u) n
    ≡ option_or (cond (same_name n mixin_types) (property_of frozen frozen_mixin_types) None)
    (option_or (cond (same_name n primary_type) (property_of frozen frozen_primary_type) None) (at u n))
types_at frozen u n =
    told _ mixin_types (property_of frozen frozen_mixin_types) n
    ∙ ap (option_or (cond (same_name n mixin_types) (property_of frozen frozen_mixin_types) None)) (told u primary_type (property_of frozen frozen_primary_type) n)

-- what a node that is made has of its identifier
abbrev made_uuid : Option Node → Name → Node → Option Property
made_uuid None n frozen = cond (same_name n uuid) (property_of frozen frozen_uuid) None
made_uuid (Some node) n frozen = None

identifier_at : (frozen : Node) (o : Option Node) (u : Props) (n : Name) → at (with_frozen_identifier frozen o u) n ≡ option_or (made_uuid o n frozen) (at u n)
identifier_at frozen None u n = told u uuid (property_of frozen frozen_uuid) n
identifier_at frozen (Some node) u n = refl

-- what a node has at a name, when it is brought to a frozen node
brought_at : (types : List TypeDef) (o : Option Node) (frozen : Node) (n : Name) → ((node : Node) → o ≡ Some node → is_sorted name_cmp node.props ≡ true) → is_sorted name_cmp frozen.props ≡ true
    → at (brought_props types o frozen) n
    ≡ option_or (made_uuid o n frozen)
    (option_or (cond (same_name n mixin_types) (property_of frozen frozen_mixin_types) None)
    (option_or (cond (same_name n primary_type) (property_of frozen frozen_primary_type) None)
    (option_or (if_passed (λ e. not (is_frozen_name e.0)) (λ e. e.1) n (property_of frozen n)) (option_and_then (unkept_property types n) o))))
brought_at types o frozen n sorted sorted' =
    identifier_at frozen o _ n
    ∙ ap (option_or (made_uuid o n frozen))
    (types_at frozen _ n
    ∙ ap (λ r. option_or (cond (same_name n mixin_types) (property_of frozen frozen_mixin_types) None) (option_or (cond (same_name n primary_type) (property_of frozen frozen_primary_type) None) r))
    (put_frozen frozen (left_props types o) n sorted' ∙ ap (option_or (if_passed (λ e. not (is_frozen_name e.0)) (λ e. e.1) n (property_of frozen n))) (left_is types o n sorted)))

-- ---- a node that is brought to the frozen node of what it was

false_from_not : (b : Bool) → not b ≡ true → b ≡ false
false_from_not true h = sym h
false_from_not false h = refl

-- a node as it was, the node that a restore finds, if any, and the frozen node that it is brought to
pub record OneNode (types : List TypeDef) (was : Node) (o : Option Node) (frozen : Node) : Type 0 where
  pub was_sorted : is_sorted name_cmp was.props ≡ true
  pub found_sorted : (node : Node) → o ≡ Some node → is_sorted name_cmp node.props ≡ true
  pub frozen_sorted : is_sorted name_cmp frozen.props ≡ true
  pub frozen_is : frozen.props ≡ frozen_props types was

module _ (types : List TypeDef) (was : Node) (o : Option Node) (frozen : Node) (one : OneNode types was o frozen) where
  same_at : (n : Name) → property_of frozen n ≡ property_of (frozen_copy types was) n
  same_at n = ap (λ (props : Props). at props n) one.frozen_is

  -- a property of an ordinary name stands as it was copied, or else as it is left
  ordinary_back : (n : Name) → is_frozen_name n ≡ false
      → at (brought_props types o frozen) n
      ≡ option_or (made_uuid o n frozen) (option_or (if_passed (λ e. is_copied types was e.0 e.1) (λ e. e.1) n (property_of was n)) (option_and_then (unkept_property types n) o))
  ordinary_back n h =
      let names = ordinary n h in
      let other : property_of frozen n ≡ if_passed (λ e. is_copied types was e.0 e.1) (λ e. e.1) n (property_of was n) = same_at n ∙ frozen_other types was n one.was_sorted h in
      brought_at types o frozen n one.found_sorted one.frozen_sorted
      ∙ (rw (names.mixins, names.primary) refl
      ∙ ap (λ (r : Option Property). option_or (made_uuid o n frozen) (option_or r (option_and_then (unkept_property types n) o)))
      (through (property_of frozen n) ∙ other))
    where
      through : (r : Option Property) → if_passed (λ e. not (is_frozen_name e.0)) (λ e. e.1) n r ≡ r
      through None = refl
      through (Some x) = rw h refl

  -- a node that is made gets the identifier that it had, or none
  made_back : (n : Name) → option_or (made_uuid o n frozen) (property_of was n) ≡ property_of was n
  made_back n = by o
    where
      named : (b : Bool) → same_name n uuid ≡ b → option_or (cond b (property_of frozen frozen_uuid) None) (property_of was n) ≡ property_of was n
      named false h = refl
      named true h =
          let is : n ≡ uuid = name_exact n uuid (equal_of _ h) in
          let id : property_of frozen frozen_uuid ≡ property_of was uuid = same_at frozen_uuid ∙ frozen_id types was one.was_sorted in
          ap (λ (r : Option Property). option_or r (property_of was n)) id
          ∙ subst (λ (m : Name). option_or (property_of was uuid) (property_of was m) ≡ property_of was m) (sym is) (or_itself (property_of was uuid))

      by : (o : Option Node) → option_or (made_uuid o n frozen) (property_of was n) ≡ property_of was n
      by None = named _ refl
      by (Some node) = refl

  -- a property that the version keeps is as it was
  pub kept_back : (n : Name) (x : Property) → is_frozen_name n ≡ false → property_of was n ≡ Some x → property_has asked.Kept types was n x ≡ true
      → at (brought_props types o frozen) n ≡ property_of was n
  kept_back n x h is kept = ordinary_back n h ∙ (ap (option_or (made_uuid o n frozen)) inner ∙ made_back n)
    where
      inner : option_or (if_passed (λ e. is_copied types was e.0 e.1) (λ e. e.1) n (property_of was n)) (option_and_then (unkept_property types n) o) ≡ property_of was n
      inner =
          ap (λ (r : Option Property). option_or (if_passed (λ e. is_copied types was e.0 e.1) (λ e. e.1) n r) (option_and_then (unkept_property types n) o)) is
          ∙ (ap (λ b. option_or (cond b (Some x) None) (option_and_then (unkept_property types n) o)) (and_from _ _ (not_from_false _ h) kept) ∙ sym is)

  -- nothing but the types is brought to the names of types
  no_types : (n : Name) → is_type_property n ≡ true → option_and_then (unkept_property types n) o ≡ None
  no_types n h = by o
    where
      none : (node : Node) (r : Option Property) → option_and_then (λ x. cond (is_unkept types node n x) (Some x) None) r ≡ None
      none node None = refl
      none node (Some x) = ap (λ b. cond (not b && not (property_has asked.Kept types node n x)) (Some x) None) h

      by : (o : Option Node) → option_and_then (unkept_property types n) o ≡ None
      by None = refl
      by (Some node) = none node (property_of node n)

  hidden : (n : Name) (r : Option Property) → is_frozen_name n ≡ true → if_passed (λ e. not (is_frozen_name e.0)) (λ e. e.1) n r ≡ None
  hidden n None h = refl
  hidden n (Some x) h = ap (λ b. cond (not b) (Some x) None) h

  not_made : (n : Name) → same_name n uuid ≡ false → made_uuid o n frozen ≡ None
  not_made n h = by o
    where
      by : (o : Option Node) → made_uuid o n frozen ≡ None
      by None = ap (λ b. cond b (property_of frozen frozen_uuid) None) h
      by (Some node) = refl

  -- under the name of a type stands what the frozen node tells
  type_back : (n : Name) (r : Option Property) → is_type_property n ≡ true → is_frozen_name n ≡ true
      → option_or r (option_or (if_passed (λ e. not (is_frozen_name e.0)) (λ e. e.1) n (property_of frozen n)) (option_and_then (unkept_property types n) o)) ≡ r
  type_back n r h k =
      ap (λ (s : Option Property). option_or r (option_or s (option_and_then (unkept_property types n) o))) (hidden n (property_of frozen n) k)
      ∙ (ap (option_or r) (no_types n h) ∙ or_none r)

  -- the primary type is as it was
  pub primary_back : at (brought_props types o frozen) primary_type ≡ property_of was primary_type
  primary_back =
      brought_at types o frozen primary_type one.found_sorted one.frozen_sorted
      ∙ (in_front _ _ _ (not_made primary_type refl)
      ∙ (type_back primary_type (property_of frozen frozen_primary_type) refl refl
      ∙ (same_at frozen_primary_type ∙ frozen_primary types was one.was_sorted)))

  -- the mixins are as they were
  pub mixins_back : at (brought_props types o frozen) mixin_types ≡ property_of was mixin_types
  mixins_back =
      brought_at types o frozen mixin_types one.found_sorted one.frozen_sorted
      ∙ (in_front _ _ _ (not_made mixin_types refl)
      ∙ (type_back mixin_types (property_of frozen frozen_mixin_types) refl refl
      ∙ (same_at frozen_mixin_types ∙ frozen_mixins types was one.was_sorted)))

  -- the identifier of a node that is made is as it was
  pub identifier_back : (x : Property) → o ≡ None → property_of was uuid ≡ Some x → at (brought_props types o frozen) uuid ≡ property_of was uuid
  identifier_back x none is =
      ordinary_back uuid refl
      ∙ (in_front _ _ _ made ∙ sym is)
    where
      made : made_uuid o uuid frozen ≡ Some x
      made =
          ap (λ (o : Option Node). made_uuid o uuid frozen) none
          ∙ (same_at frozen_uuid ∙ (frozen_id types was one.was_sorted ∙ is))

  -- a property that the version doesn't keep, and that is left as it was, is as it was
  pub left_back : (n : Name) → option_and_then (unkept_property types n) o ≡ property_of was n → property_of was n ≡ unkept_property types n was
      → at (brought_props types o frozen) n ≡ property_of was n
  left_back n left unkept = by (same_name primary_type n) (same_name mixin_types n) refl refl
    where
      -- nothing of the name is copied
      none_copied : (r : Option Property) → r ≡ option_and_then (λ x. cond (is_unkept types was n x) (Some x) None) r → if_passed (λ e. is_copied types was e.0 e.1) (λ e. e.1) n r ≡ None
      none_copied None h = refl
      none_copied (Some x) h =
          let passes : is_unkept types was n x ≡ true = where_some _ x (sym (ap is_some h)) in
          let lost : property_has asked.Kept types was n x ≡ false = false_from_not _ (and_parts _ _ passes).1 in
          ap (λ b. cond b (Some x) None) (and_right (not (is_frozen_name n)) _ lost)

      other : (b : Bool) → is_frozen_name n ≡ b → same_name primary_type n ≡ false → same_name mixin_types n ≡ false → at (brought_props types o frozen) n ≡ property_of was n
      other false h p m =
          ordinary_back n h
          ∙ (ap (λ (r : Option Property). option_or (made_uuid o n frozen) (option_or r (option_and_then (unkept_property types n) o))) (none_copied (property_of was n) unkept)
          ∙ (ap (option_or (made_uuid o n frozen)) left ∙ made_back n))
      other true h p m =
          brought_at types o frozen n one.found_sorted one.frozen_sorted
          ∙ (rw (apart n mixin_types m, apart n primary_type p) refl
          ∙ (ap (λ (r : Option Property). option_or (made_uuid o n frozen) (option_or r (option_and_then (unkept_property types n) o))) (hidden n (property_of frozen n) h)
          ∙ (ap (option_or (made_uuid o n frozen)) left ∙ made_back n)))

      by : (p m : Bool) → same_name primary_type n ≡ p → same_name mixin_types n ≡ m → at (brought_props types o frozen) n ≡ property_of was n
      by true m h k = subst (λ (m : Name). at (brought_props types o frozen) m ≡ property_of was m) (name_exact primary_type n (equal_of _ h)) primary_back
      by false true h k = subst (λ (m : Name). at (brought_props types o frozen) m ≡ property_of was m) (name_exact mixin_types n (equal_of _ k)) mixins_back
      by false false h k = other (is_frozen_name n) refl h k
