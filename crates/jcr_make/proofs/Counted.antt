-- The node that becomes versionable, its identifier, and what counts for its history.
use Rattle.std.proofs.Common.{◌≡◌, inl, inr, ℕ, Bool, true, false, cond, Option, None, Some, List, [], ◌∷◌, ◌++◌, refl, sym, ap, ◌∙◌, subst}
use Rattle.std.specs.Prelude.{IfOk, Result, Ok, map}
use Rattle.std.specs.BTreeMap.{insert_entry}
use Rattle.std.specs.Option.{IfSome, option_and_then, option_map_or, unwrap_or}
use Rattle.std.specs.Ordering.{eq_by_cmp, is_eq}
use Rattle.std.proofs.lemmas.Cmp.{nat_list_cmp_total, tied_itself}
use Rattle.std.proofs.lemmas.Option.{none-some}
use Rattle.jr_path.specs.Ids.{path_text}
use Rattle.jr_path.specs.Named.{is_name}
use Rattle.jr_path.specs.Names.{name_cmp, path_cmp}
use Rattle.jr_path.specs.declared.name.Name.{Name}
use Rattle.jr_path.specs.declared.path.Path.{Path}
use Rattle.jr_path.proofs.Maps.{lookup-insert_entry, path_total}
use Rattle.jr_value.specs.declared.value.Property.{Property}
use Rattle.jr_value.specs.declared.value.Value.{Value}
use Rattle.jr_value.specs.declared.value.Value.TheVariants as value
use Rattle.jr_tree.specs.declared.shared.Refusal.{Refusal}
use Rattle.jr_tree.specs.declared.shared.Who.{Who}
use Rattle.jr_tree.specs.declared.tree.Node.{Node}
use Rattle.jr_tree.specs.Trees.{Nodes, node_at, property_at}
use Rattle.jr_tree.proofs.Pointwise.{same_path}
use Rattle.jr_items.specs.Items.{many_names, one_text, property_of}
use Rattle.jr_items.specs.Names.{mixin_types, uuid, version_storage}
use Rattle.jr_types.specs.declared.TypeDef.{TypeDef}
use Rattle.jr_overlay.specs.Drafts.{Steps, drafted}
use Rattle.jr_overlay.specs.Overlays.{View}
use Rattle.jcr_ref.specs.Histories.{version_history_of, root_of}
use Rattle.jcr_write.specs.Places.{of_node, path_refusal, unless_refused}
use Rattle.jcr_fill.specs.Filled.{next_text}
use Rattle.jcr_fill.specs.Kept.{IsOwnOrNext, IsPutWith}
use Rattle.jcr_fill.specs.Makings.{Making}
use Rattle.jcr_fill.proofs.Touched.{unless_holds}
use Rattle.jcr_mixin.specs.Commands.{lists_mixin, with_mixins}
use Rattle.jcr_mixin.specs.Histories.{counting, due_history, history_by, mixed, mixin_refusal, mixing, named_history, own_text, place_mixing, with_history, with_seen}

-- ---- the node that gets a mixin

-- a mixin leaves the identifier
pub mixed_uuid : (node : Node) (n : Name) → property_of (mixed node n) uuid ≡ property_of node uuid
mixed_uuid node n = by (map value.Name (many_names (property_of node mixin_types)))
  where
    by : (xs : List Value) → property_of (with_mixins node (xs ++ value.Name n ∷ [])) uuid ≡ property_of node uuid
    by [] = lookup-insert_entry name_cmp nat_list_cmp_total uuid mixin_types _ node.props
    by (x ∷ xs) = lookup-insert_entry name_cmp nat_list_cmp_total uuid mixin_types _ node.props

-- what the node that is seen at p becomes by a mixin
abbrev pub IsMixingAt : View → Steps → Path → Name → Node → Type 0
IsMixingAt view steps p n x = (node : Node) × (drafted view steps p ≡ Some node) × (x ≡ mixed node n)

pub placed : (types : List TypeDef) (view : View) (steps : Steps) (p : Path) (n : Name) → IfOk (place_mixing types view steps p n) (λ found. IfSome found (IsMixingAt view steps p n))
placed types view steps p n =
    unless_holds (λ found. IfSome found (IsMixingAt view steps p n)) (path_refusal p) (of_node p (drafted view steps p) then) (by (drafted view steps p) refl)
  where
    then : Node → Result (Option Node) Refusal
    then node = unless_refused (mixin_refusal types p node n) (Ok (mixing node n))

    at : (node : Node) → drafted view steps p ≡ Some node → (b : Bool) → IfSome (cond b None (Some (mixed node n))) (IsMixingAt view steps p n)
    at node e true = tt
    at node e false = (node, e, refl)

    by : (o : Option Node) → drafted view steps p ≡ o → IfOk (of_node p o then) (λ found. IfSome found (IsMixingAt view steps p n))
    by None e = tt
    by (Some node) e = unless_holds (λ found. IfSome found (IsMixingAt view steps p n)) (mixin_refusal types p node n) (Ok (mixing node n)) (at node e (lists_mixin node n))

-- the node that was put is drafted
pub put_drafted : (who : Who) (ids : ℕ) (old : Option Property) (view : View) (p : Path) (m : Making) → (put : IsPutWith who ids old p m) → drafted view m.steps p ≡ Some put.0
put_drafted who ids old view p m put = ap (λ (o : Option (Option Node)). unwrap_or o (view.node p)) put.1

-- ---- the identifier of the node once it was put

-- where the history of a node stands, by the identifier that it has
abbrev pub own_history : Option Node → Option Path
own_history node = option_and_then history_by (own_text node)

-- what holds of the history that is due holds of the one by the text of the node's identifier
of_due : (o : Option (List ℕ)) (next : List ℕ) (H : Path → Type 0) → IfSome (history_by (unwrap_or o next)) H → IfSome (option_and_then history_by o) H
of_due None next H h = tt
of_due (Some id) next H h = h

-- and so it does once the node was put
own_due : (who : Who) (ids : ℕ) (old new : Option Property) (H : Path → Type 0) → IsOwnOrNext who ids old new
    → IfSome (history_by (unwrap_or (one_text old) (next_text who ids))) H → IfSome (option_and_then history_by (one_text new)) H
own_due who ids (Some x) new H own due =
    subst (λ (o : Option Property). IfSome (option_and_then history_by (one_text o)) H) (sym own) (of_due (one_text (Some x)) (next_text who ids) H due)
own_due who ids None new H (inl own) due = subst (λ (o : Option Property). IfSome (option_and_then history_by (one_text o)) H) (sym own) tt
own_due who ids None new H (inr own) due = subst (λ (o : Option Property). IfSome (option_and_then history_by (one_text o)) H) (sym own) due

pub mixed_due : (who : Who) (view : View) (p : Path) (n : Name) (m l : Making) (x : Node) (H : Path → Type 0) → IsMixingAt view m.steps p n x → IsPutWith who m.ids (property_of x uuid) p l
    → IfSome (due_history who m.ids (drafted view m.steps p)) H → IfSome (own_history (drafted view l.steps p)) H
mixed_due who view p n m l x H is put due =
    subst (λ (o : Option Node). IfSome (own_history o) H) (sym (put_drafted who m.ids (property_of x uuid) view p l put))
    (own_due who m.ids (property_of x uuid) (property_of put.0 uuid) H put.2
    (subst (λ (o : Option Property). IfSome (history_by (unwrap_or (one_text o) (next_text who m.ids))) H)
    (sym (ap (λ (y : Node). property_of y uuid) is.2 ∙ mixed_uuid is.0 n))
    (subst (λ (o : Option Node). IfSome (due_history who m.ids o) H) is.1 due)))

-- ---- what counts

-- among what counts the node at p is the one that is seen
seen_here : (view : View) (steps : Steps) (p : Path) → node_at (with_seen view steps p []) p ≡ drafted view steps p
seen_here view steps p = by (drafted view steps p)
  where
    by : (o : Option Node) → node_at (option_map_or (λ node. insert_entry path_cmp [] p node) o []) p ≡ o
    by None = refl
    by (Some x) = lookup-insert_entry path_cmp path_total p p x [] ∙ ap (λ b. cond b (Some x) None) (ap is_eq (tied_itself path_total p))

seen_more : (view : View) (steps : Steps) (p q : Path) (nodes : Nodes) → node_at nodes p ≡ drafted view steps p → node_at (with_seen view steps q nodes) p ≡ drafted view steps p
seen_more view steps p q nodes h = by (drafted view steps q) refl
  where
    put : (x : Node) → drafted view steps q ≡ Some x → (b : Bool) → eq_by_cmp path_cmp p q ≡ b → cond b (Some x) (node_at nodes p) ≡ drafted view steps p
    put x e true same = sym e ∙ ap (drafted view steps) (sym (same_path p q same))
    put x e false same = h

    by : (o : Option Node) → drafted view steps q ≡ o → node_at (option_map_or (λ node. insert_entry path_cmp nodes q node) o nodes) p ≡ drafted view steps p
    by None e = h
    by (Some x) e = lookup-insert_entry path_cmp path_total p q x nodes ∙ put x e (eq_by_cmp path_cmp p q) refl

pub counted : (view : View) (steps : Steps) (p : Path) → node_at (counting view steps p) p ≡ drafted view steps p
counted view steps p = by (named_history (with_seen view steps p []) p)
  where
    by : (o : Option Path) → node_at (option_map_or (with_history view steps (with_seen view steps p [])) o (with_seen view steps p [])) p ≡ drafted view steps p
    by None = seen_here view steps p
    by (Some h) = seen_more view steps p (root_of h) (with_seen view steps h (with_seen view steps p [])) (seen_more view steps p h (with_seen view steps p []) (seen_here view steps p))

-- the place of the history by the identifier of the node among them
pub named_own : (nodes : Nodes) (p : Path) (node : Option Node) → node_at nodes p ≡ node → named_history nodes p ≡ own_history node
named_own nodes p node e = ap own_history e

pub first_named : (view : View) (steps : Steps) (p : Path) → named_history (with_seen view steps p []) p ≡ own_history (drafted view steps p)
first_named view steps p = named_own (with_seen view steps p []) p (drafted view steps p) (seen_here view steps p)

-- it is the place where the history is looked for
pub named_is : (nodes : Nodes) (p h : Path) → named_history nodes p ≡ Some h → version_history_of nodes p ≡ h
named_is nodes p h e = by (one_text (property_at nodes p uuid)) e
  where
    at : (id : List ℕ) (b : Bool) → cond b (Some (version_storage ++ id ∷ [])) None ≡ Some h → version_storage ++ id ∷ [] ≡ h
    at id true e = ap (λ (o : Option Path). unwrap_or o h) e
    at id false e = absurd (none-some h e)

    by : (o : Option (List ℕ)) → option_and_then history_by o ≡ Some h → version_storage ++ unwrap_or o (path_text p) ∷ [] ≡ h
    by None e = absurd (none-some h e)
    by (Some id) e = at id (is_name id) e
