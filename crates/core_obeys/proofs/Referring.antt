-- References of trees, and tidy runs.
use Rattle.std.proofs.Common.{◌≡◌, inl, inr, ℕ, Bool, true, false, cond, ◌&&◌, ◌||◌, ◌==◌, Some, None, Option, List, [], ◌∷◌, refl, sym, ap, ◌∙◌, subst, is_some, arith}
use Rattle.std.specs.Prelude.{codes, option_and_then}
use Rattle.std.specs.Option.{option_map_or}
use Rattle.std.specs.List.{list_all, list_any}
use Rattle.std.specs.Map.{lookup, keys_of}
use Rattle.std.specs.BTreeMap.{is_at}
use Rattle.std.specs.Ordering.{eq_by_cmp}
use Rattle.std.proofs.lemmas.Bool.Decides.{nat_tests}
use mathlib.Core.Bool.{false≢true}
use Rattle.jr_path.specs.Names.{name_cmp, path_cmp}
use Rattle.jr_path.specs.declared.name.Name.{Name}
use Rattle.jr_path.specs.declared.path.Path.{Path}
use Rattle.jr_value.specs.declared.value.Property.{Property}
use Rattle.jr_value.specs.declared.value.Property.TheVariants.{Single}
use Rattle.jr_value.specs.declared.value.Value.TheVariants as value
use Rattle.jr_value.specs.Values.{same_bytes}
use Rattle.jr_tree.specs.Trees.{Nodes, node_at, first_revision, typed_node, initial_tree}
use Rattle.jr_tree.proofs.Pointwise.{same_path}
use Rattle.jr_tree.proofs.Proper.{same_name}
use Rattle.jr_items.specs.Names.{uuid, primary_type}
use Rattle.jr_items.specs.Items.{one_text}
use Rattle.jcr_ref.specs.References.{ReferencesOk, references_at, target_of, is_target, uuid_text}
use Rattle.oak_clash.specs.declared.mark.Mark.{Mark}
use Rattle.oak_clash.specs.declared.mark.Mark.TheVariants.{Exists, Guard, Touch, Prop}
use Rattle.oak_clash.specs.declared.mark.MarkAt.{MarkAt}
use Rattle.jcr_marks.proofs.Membership.{Has, IsIn}
use Rattle.oak_machine.specs.History.{Begin, begin_tree}
use Rattle.core_obeys.specs.Tidy.{BeginsTidy, HasDistinctIds, is_node_mark, is_node_marked}
use Rattle.core_obeys.proofs.Views.{view_of}
use Rattle.core_obeys.proofs.Clash.{IsStrong}
use Rattle.core_obeys.proofs.Steps.{IsWhole}
use Rattle.core_obeys.proofs.Locks.{true_or_false}
use Rattle.core_obeys.proofs.References.{refers, is_named, IsTarget, Refer, AreDistinct}
use Rattle.core_obeys.proofs.MarksOf.{in_keys, found_some}
use Rattle.core_obeys.proofs.Covering.{found}
use Rattle.core_obeys.proofs.Free.{any_of}

both : (a b : Bool) → a ≡ true → b ≡ true → (a && b) ≡ true
both true b h k = k
both false b h k = absurd (false≢true h)

first : (a b : Bool) → (a && b) ≡ true → a ≡ true
first true b h = refl
first false b h = h

second : (a b : Bool) → (a && b) ≡ true → b ≡ true
second true b h = h
second false b h = absurd (false≢true h)

same_itself : (a : ℕ) → (a == a) ≡ true
same_itself a = grind (arith, nat_tests)

same_number : (a b : ℕ) → (a == b) ≡ true → a ≡ b
same_number a b h = grind (arith, nat_tests)

-- ---- each of a list

all_of : (test : ℕ → Bool) (ks : List ℕ) → ((k : ℕ) → list_any (λ j. j == k) ks ≡ true → test k ≡ true) → list_all test ks ≡ true
all_of test [] each = refl
all_of test (k ∷ ks) each = both _ _ (each k (head (k == k) (same_itself k))) (all_of test ks (λ j h. each j (tail (k == j) h)))
  where
    head : (b : Bool) → b ≡ true → (b || list_any (λ j. j == k) ks) ≡ true
    head true e = refl
    head false e = absurd (false≢true e)

    tail : {c : Bool} (b : Bool) → c ≡ true → (b || c) ≡ true
    tail true e = refl
    tail false e = e

one_of_all : (test : ℕ → Bool) (ks : List ℕ) → list_all test ks ≡ true → (k : ℕ) → list_any (λ j. j == k) ks ≡ true → test k ≡ true
one_of_all test [] h k i = absurd (false≢true i)
one_of_all test (j ∷ ks) h k i = by (j == k) refl i (λ l. one_of_all test ks (second _ _ h) k l)
  where
    by : (b : Bool) → (j == k) ≡ b → (b || list_any (λ j. j == k) ks) ≡ true → (list_any (λ j. j == k) ks ≡ true → test k ≡ true) → test k ≡ true
    by true e l rest = ap test (sym (same_number j k e)) ∙ first (test j) _ h
    by false e l rest = rest l

-- ---- references of a tree

target_there : (t : Nodes) → IsWhole (view_of t) → (id : ℕ) (q : Path) → IsTarget (view_of t) id q → is_some (target_of t id) ≡ true
target_there t whole id q is =
    let there : is_some (node_at t q) ≡ true = elim (true_or_false (is_some (node_at t q))) [ inl e ↦ e | inr e ↦ absurd (false≢true (sym (ap (is_named id) (whole.bare q uuid e)) ∙ is)) ] in
    ap is_some (found_some (is_target t id) (keys_of t) q (in_keys t q there) is).1

pub references_ok : (t : Nodes) → IsWhole (view_of t) → Refer (view_of t) → ReferencesOk t
references_ok t whole refer p n thawed = all_of (λ id. is_some (target_of t id)) (references_at t p n) (λ id i. let it = refer p n id (i, thawed) in target_there t whole id it.0 it.1)

target_is : (o : Option Path) → is_some o ≡ true → (q : Path) × (o ≡ Some q)
target_is None h = absurd (false≢true h)
target_is (Some q) h = (q, refl)

pub refer_of : (t : Nodes) → ReferencesOk t → Refer (view_of t)
refer_of t ok p n id r =
    let it = target_is (target_of t id) (one_of_all (λ id. is_some (target_of t id)) (references_at t p n) (ok p n r.1) id r.0) in
    (it.0, found (is_target t id) (keys_of t) it.0 it.1)

-- ---- the initial tree has no reference

none_named : (name : List ℕ) (n : Name) (id : ℕ) → refers id (lookup (is_at (name_cmp n)) (typed_node (Some first_revision) name).props) ≡ false
none_named name n id = elim (eq_by_cmp name_cmp n primary_type) as (λ b. refers id (cond b (Some (Single (value.Name name))) None) ≡ false) [ true ↦ refl | false ↦ refl ]

none_of_three : (x y z : List ℕ) (n : Name) (id : ℕ) (a b c : Bool) → refers id (option_and_then (λ node. lookup (is_at (name_cmp n)) node.props) (cond a (Some (typed_node (Some first_revision) x)) (cond b (Some (typed_node (Some first_revision) y)) (cond c (Some (typed_node (Some first_revision) z)) None)))) ≡ false
none_of_three x y z n id true b c = none_named x n id
none_of_three x y z n id false true c = none_named y n id
none_of_three x y z n id false false true = none_named z n id
none_of_three x y z n id false false false = refl

initial_refers : Refer (view_of initial_tree)
initial_refers p n id r = absurd (false≢true (sym (none_of_three (codes "nt:unstructured") (codes "rep:system") (codes "rep:versionStorage") n id
    (eq_by_cmp path_cmp p []) (eq_by_cmp path_cmp p (codes "jcr:system" ∷ [])) (eq_by_cmp path_cmp p (codes "jcr:system" ∷ codes "jcr:versionStorage" ∷ []))) ∙ r.0))

-- the references of what a tidy journal begins with name nodes
pub first_refers : (begin : Begin) → BeginsTidy begin → Refer (view_of (begin_tree begin))
first_refers None tidy = initial_refers
first_refers (Some s) tidy = refer_of s.tree tidy

-- ---- tidy edits

named_text : (id : ℕ) (o : Option Property) → is_named id o ≡ true → one_text o ≡ Some (uuid_text id)
named_text id o h = by (one_text o) h
  where
    by : (t : Option (List ℕ)) → option_map_or (same_bytes (uuid_text id)) t false ≡ true → t ≡ Some (uuid_text id)
    by None k = absurd (false≢true k)
    by (Some u) k = ap Some (sym (same_name (uuid_text id) u k))

pub distinct_of : (t : Nodes) → HasDistinctIds t → AreDistinct (view_of t)
distinct_of t distinct id p q h k = distinct p q (uuid_text id) (named_text id _ h) (named_text id _ k)

pub strong_of : (p : Path) (ms : List MarkAt) → is_node_marked p ms ≡ true → IsStrong p ms
strong_of p ms h =
    let it = any_of (λ (m : MarkAt). eq_by_cmp path_cmp p m.path && is_node_mark m.mark) ms h in
    by it.0.path it.0.mark it.1 (first _ _ it.2) (second _ _ it.2)
  where
    by : (q : Path) (m : Mark) → IsIn (record { path = q; mark = m }) ms → eq_by_cmp path_cmp p q ≡ true → is_node_mark m ≡ true → IsStrong p ms
    by q Exists i e k = inl (subst (λ (r : Path). Has r Exists ms) (sym (same_path p q e)) i)
    by q Guard i e k = inr (subst (λ (r : Path). Has r Guard ms) (sym (same_path p q e)) i)
    by q Touch i e k = absurd (false≢true k)
    by q (Prop n) i e k = absurd (false≢true k)
