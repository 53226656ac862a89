-- What the commands read of a view.
use Rattle.std.proofs.Common.{◌≡◌, List, Option, Some, None, [], ◌∷◌, refl, ap, ◌∙◌}
use Rattle.std.specs.Prelude.{Result, Ok, is_none, is_some, option_and_then, unwrap_or}
use Rattle.std.specs.Map.{lookup}
use Rattle.std.specs.BTreeMap.{is_at}
use Rattle.jr_path.specs.Names.{is_under, last_name, path_cmp}
use Rattle.jr_path.specs.declared.name.Name.{Name}
use Rattle.jr_path.specs.declared.path.Path.{Path}
use Rattle.jr_value.specs.declared.value.Property.{Property}
use Rattle.jr_tree.specs.Trees.{Nodes}
use Rattle.jr_tree.specs.declared.shared.Refusal.{Refusal}
use Rattle.jr_tree.specs.declared.tree.Node.{Node}
use Rattle.jr_items.specs.Items.{first_some, property_of}
use Rattle.jr_items.specs.Refusals.{no_item, own_item_rule, own_rule, taken, when}
use Rattle.jr_types.specs.declared.TypeDef.{TypeDef}
use Rattle.jr_part.specs.Parts.{ChildNames}
use Rattle.jr_overlay.specs.Drafts.{Steps, drafted}
use Rattle.jr_overlay.specs.Overlays.{View}
use Rattle.jr_overlay.specs.Views.{all_gone, all_moved}
use Rattle.jcr_write.specs.Places.{above, of_node, path_refusal, putting, unless_refused, with_property, without_property}
use Rattle.jcr_write.specs.Writes.{above_ordered, ends_refusal, is_kept_below, is_root, move_made, moved_limit, order_made, parent_ordered, remove_made, reordered, set_made, set_refusal, unset_made, unset_refusal}

-- what stands at p after steps, by what the view has there
abbrev after : Steps → Path → Option Node → Option Node
after steps p node = unwrap_or (lookup (is_at (path_cmp p)) steps) node

pub set_reads : (types : List TypeDef) (u w : View) (steps : Steps) (p : Path) (n : Name)
    (x : Property) → u.node p ≡ w.node p
    → set_made types u steps p n x ≡ set_made types w steps p n x
set_reads types u w steps p n x h =
    ap (λ (o : Option Node). putting steps p (unless_refused (path_refusal p) (of_node p (after steps p o) (λ node. unless_refused (set_refusal types p n x node) (Ok (with_property node n x)))))) h

pub unset_reads : (types : List TypeDef) (u w : View) (steps : Steps) (p : Path) (n : Name)
    → u.node p ≡ w.node p → unset_made types u steps p n ≡ unset_made types w steps p n
unset_reads types u w steps p n h =
    ap (λ (o : Option Node). putting steps p (unless_refused (path_refusal p) (of_node p (after steps p o) (λ node. unless_refused (unset_refusal types p n node (property_of node n)) (Ok (without_property node n)))))) h

-- three or four things that a result hangs on
alike : {A B C D : Type 0} (f : A → B → C → D) (a x : A) (b y : B) (c z : C) → a ≡ x → b ≡ y → c ≡ z
    → f a b c ≡ f x y z
alike f a x b y c z p q r =
    ap (λ v. f v b c) p ∙ (ap (λ v. f x v c) q ∙ ap (λ v. f x y v) r)

alike4 : {A B C D E : Type 0} (f : A → B → C → D → E) (a x : A) (b y : B) (c z : C) (d v : D)
    → a ≡ x → b ≡ y → c ≡ z → d ≡ v → f a b c d ≡ f x y z v
alike4 f a x b y c z d v p q r s =
    alike (λ i j k. f i j k d) a x b y c z p q r ∙ ap (λ k. f x y z k) s

-- a removal, by what it reads
abbrev removing : List TypeDef → Steps → Path → Option Node → Option Node → Nodes
    → Result Steps Refusal
removing types steps p a b ns = unless_refused (first_some (path_refusal p
    ∷ when (is_none (after steps p a)) (no_item p) ∷ is_root p
    ∷ option_and_then (λ n. when (is_kept_below types (after steps (above p) b) n (after steps p a))
    (own_item_rule (above p) n)) (last_name p) ∷ [])) (Ok (all_gone steps ns))

pub remove_reads : (types : List TypeDef) (u w : View) (steps : Steps) (p : Path)
    → u.node p ≡ w.node p → u.node (above p) ≡ w.node (above p) → u.below p ≡ w.below p
    → remove_made types u steps p ≡ remove_made types w steps p
remove_reads types u w steps p = alike (removing types steps p) (u.node p) (w.node p)
    (u.node (above p)) (w.node (above p)) (u.below p) (w.below p)

-- a move, by what it reads
abbrev moving : Steps → Path → Path → Option Node → Option Node → Option Node → Nodes
    → Result Steps Refusal
moving steps p q a b c ns = unless_refused (first_some (ends_refusal p q
    ∷ first_some (when (is_none (after steps p a)) (no_item p)
    ∷ when (is_none (after steps (above q) b)) (no_item (above q))
    ∷ when (is_some (after steps q c)) (taken q) ∷ when (is_under q p) (own_rule q) ∷ [])
    ∷ moved_limit p q ns ∷ [])) (Ok (all_moved p q steps ns))

pub move_reads : (u w : View) (steps : Steps) (p q : Path) → u.node p ≡ w.node p
    → u.node (above q) ≡ w.node (above q) → u.node q ≡ w.node q → u.below p ≡ w.below p
    → move_made u steps p q ≡ move_made w steps p q
move_reads u w steps p q = alike4 (moving steps p q) (u.node p) (w.node p)
    (u.node (above q)) (w.node (above q)) (u.node q) (w.node q) (u.below p) (w.below p)

parent_reads : (types : List TypeDef) (u w : View) (p : Path) (n : Name) (before : Option Name)
    (node : Option Node) → u.children p ≡ w.children p
    → parent_ordered types u p n before node ≡ parent_ordered types w p n before node
parent_reads types u w p n before None e = refl
parent_reads types u w p n before (Some node) e =
    ap (λ (names : ChildNames). reordered types p names n before node) e

above_reads : (types : List TypeDef) (u w : View) (steps : Steps) (p : Path) (before o : Option Name)
    → u.node (above p) ≡ w.node (above p) → u.children (above p) ≡ w.children (above p)
    → above_ordered types u steps p before o ≡ above_ordered types w steps p before o
above_reads types u w steps p before None f e = refl
above_reads types u w steps p before (Some n) f e =
    ap (λ (q : Option Node). parent_ordered types u (above p) n before (after steps (above p) q)) f
    ∙ parent_reads types u w (above p) n before (drafted w steps (above p)) e

pub order_reads : (types : List TypeDef) (u w : View) (steps : Steps) (p : Path)
    (before : Option Name) → u.node p ≡ w.node p → u.node (above p) ≡ w.node (above p)
    → u.children (above p) ≡ w.children (above p)
    → order_made types u steps p before ≡ order_made types w steps p before
order_reads types u w steps p before h f e =
    ap (λ (o : Option Node). putting steps (above p) (unless_refused (first_some (path_refusal p ∷ is_root p ∷ when (is_none (after steps p o)) (no_item p) ∷ [])) (above_ordered types u steps p before (last_name p)))) h
    ∙ ap (λ (r : Result Node Refusal). putting steps (above p) (unless_refused (first_some (path_refusal p ∷ is_root p ∷ when (is_none (after steps p (w.node p))) (no_item p) ∷ [])) r))
    (above_reads types u w steps p before (last_name p) f e)
