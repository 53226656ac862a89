-- What the commands leave as it was: what was made at other places than theirs, those below, and histories.
use Rattle.std.proofs.Common.{◌≡◌, ℕ, ◌+◌, Bool, true, false, cond, Option, None, Some, List, [], ◌∷◌, ◌++◌, refl, sym, ap, ◌∙◌, subst, is_some}
use Rattle.std.specs.Prelude.{◌||◌, IfOk, Result, Ok, Err}
use Rattle.std.specs.List.{All, AllByRecursion, fold, list_any}
use Rattle.std.specs.Map.{keys_of, set_value}
use Rattle.std.specs.BTreeMap.{insert_entry, is_at}
use Rattle.std.specs.Option.{IfSome, option_map_or, unwrap_or}
use Rattle.std.proofs.lemmas.Bool.{or_right}
use Rattle.std.proofs.lemmas.List.Elements.{All-head, All-nil, All-tail}
use Rattle.std.proofs.lemmas.Map.{keys-set_value}
use Rattle.std.proofs.lemmas.Map.Views.{All-keys-insert_entry}
use Rattle.std.proofs.lemmas.Result.{IfOk-at_ok}
use Rattle.jr_path.specs.Named.{is_name}
use Rattle.jr_path.specs.Names.{is_under, name_cmp, path_cmp}
use Rattle.jr_path.specs.declared.name.Name.{Name}
use Rattle.jr_path.specs.declared.path.Path.{Path}
use Rattle.jr_value.specs.declared.value.Property.{Property}
use Rattle.jr_tree.specs.declared.edit.Write.{Write}
use Rattle.jr_tree.specs.declared.edit.Write.TheVariants.{Here, Put}
use Rattle.jr_tree.specs.declared.shared.Refusal.{Refusal}
use Rattle.jr_tree.specs.declared.shared.Who.{Who}
use Rattle.jr_tree.specs.declared.tree.Node.{Node}
use Rattle.jr_tree.specs.Edits.{applied, is_same_item, last_writes, with_node_write, with_property_write}
use Rattle.jr_tree.specs.Trees.{Nodes, node_at, node_of_type}
use Rattle.jr_items.specs.Items.{child_path, is_empty, property_of, same_name}
use Rattle.jr_items.specs.Names.{root_version, uuid, version_labels, version_storage, versionable}
use Rattle.jr_items.specs.Refusals.{in_system, limit_refusal}
use Rattle.jr_types.specs.declared.TypeDef.{TypeDef}
use Rattle.jr_overlay.specs.Drafts.{Steps, drafted, with_step}
use Rattle.jr_overlay.specs.Overlays.{View}
use Rattle.jr_overlay.specs.Views.{step_at}
use Rattle.jcr_ref.specs.Drawn.{too_many_ids}
use Rattle.jcr_ref.specs.Histories.{begun, has_history, history_drawn, version_history_of, history_writes, joined_history, root_of}
use Rattle.jcr_trans.specs.declared.command.TreeNode.{TreeNode}
use Rattle.jcr_write.specs.Places.{path_refusal, putting}
use Rattle.jcr_write.specs.Writes.{node_set}
use Rattle.jcr_fill.specs.Filled.{next_text}
use Rattle.jcr_fill.specs.Kept.{IsAsBefore, IsPutWith}
use Rattle.jcr_fill.specs.Makings.{Making, completed, making}
use Rattle.jcr_fill.specs.Steps.{and_then, each}
use Rattle.jcr_fill.proofs.Touched.{all_have, below_apart, completed_apart, completed_here, each_holds, put_apart, then_holds, unless_holds}
use Rattle.jcr_make.specs.Commands.{add_made, chosen_type, completed_new}
use Rattle.jcr_mixin.specs.Commands.{completed_node, node_retyped, type_made}
use Rattle.jcr_mixin.specs.Histories.{all_put, begun_among, begun_by, counting, due_history, history_by, history_put, limited_history, mixin_given, mixin_made, named_history, own_text, place_mixing, with_history, with_seen}
use Rattle.jcr_make.specs.Subtrees.{furnished, limited, makes_histories, makes_history, part_added, part_at, part_node, tree_made, with_part, with_set, with_sets}
use Rattle.jcr_make.proofs.Counted.{IsMixingAt, counted, first_named, mixed_due, named_is, named_own, own_history, placed}

-- ---- one of two, and one of many

-- whichever of two comes
if_holds : {A : Type 0} (J : A → Type 0) (b : Bool) (x y : Result A Refusal) → IfOk x J → IfOk y J → IfOk (cond b x y) J
if_holds J true x y h k = h
if_holds J false x y h k = k

-- what follows where a test passes one of these follows for each that it passes
pub any_has : {X : Type 0} (test : X → Bool) (C : Type 0) (P : X → Type 0) → ((x : X) → (test x ≡ true → C) → P x) → (xs : List X) → (list_any test xs ≡ true → C) → AllByRecursion P xs
any_has test C P f [] h = tt
any_has test C P f (x ∷ xs) h =
    (f x (λ e. h (ap (λ b. b || list_any test xs) e)), any_has test C P f xs (λ e. h (or_right (test x) (list_any test xs) e)))

-- ---- the nodes that a history writes

module _ (r : Path) where
  -- r is neither this path nor below
  abbrev IsApart : Path → Type 0
  IsApart q = is_under r q ≡ false

  -- a write that adds an item at a path that r is apart from
  abbrev AddsApart : Write → Type 0
  AddsApart (Here p) = IsApart p
  AddsApart (Put p n x) = IsApart p
  AddsApart _ = ⊥

  last_apart : (ws : List Write) → AllByRecursion AddsApart ws → AllByRecursion AddsApart (last_writes ws)
  last_apart [] h = tt
  last_apart (w ∷ ws) h = by (list_any (is_same_item w) ws) (last_apart ws h.1)
    where
      by : (b : Bool) → AllByRecursion AddsApart (last_writes ws) → AllByRecursion AddsApart (cond b (last_writes ws) (w ∷ last_writes ws))
      by true rest = rest
      by false rest = (h.0, rest)

  node_apart : (w : Write) → AddsApart w → (t : Nodes) → All IsApart (keys_of t) → All IsApart (keys_of (with_node_write None t w))
  node_apart (Here p) h t a = All-keys-insert_entry path_cmp p _ IsApart t a h
  node_apart (Put p n x) h t a = a
  node_apart _ h t a = absurd h

  nodes_apart : (ws : List Write) → AllByRecursion AddsApart ws → (t : Nodes) → All IsApart (keys_of t) → All IsApart (keys_of (fold (with_node_write None) t ws))
  nodes_apart [] h t a = a
  nodes_apart (w ∷ ws) h t a = nodes_apart ws h.1 (with_node_write None t w) (node_apart w h.0 t a)

  property_apart : (w : Write) → AddsApart w → (t : Nodes) → All IsApart (keys_of t) → All IsApart (keys_of (with_property_write t w))
  property_apart (Here p) h t a = a
  property_apart (Put p n x) h t a = by (node_at t p)
    where
      by : (o : Option Node) → All IsApart (keys_of (option_map_or (λ node. set_value (is_at (path_cmp p)) t (record node { props = insert_entry name_cmp node.props n x })) o t))
      by None = a
      by (Some node) = subst (All IsApart) (sym (keys-set_value (is_at (path_cmp p)) t (record node { props = insert_entry name_cmp node.props n x }))) a
  property_apart _ h t a = absurd h

  properties_apart : (ws : List Write) → AllByRecursion AddsApart ws → (t : Nodes) → All IsApart (keys_of t) → All IsApart (keys_of (fold with_property_write t ws))
  properties_apart [] h t a = a
  properties_apart (w ∷ ws) h t a = properties_apart ws h.1 (with_property_write t w) (property_apart w h.0 t a)

  applied_apart : (t : Nodes) (ws : List Write) → All IsApart (keys_of t) → AllByRecursion AddsApart ws → All IsApart (keys_of (applied None t ws))
  applied_apart t ws a h = properties_apart (last_writes ws) (last_apart ws h) (fold (with_node_write None) t (last_writes ws)) (nodes_apart (last_writes ws) (last_apart ws h) t a)

  -- the writes of a history are at the node, and at or below the history
  history_adds : (nodes : Nodes) (who : Who) (p : Path) → IsApart p → IsApart (version_history_of nodes p) → AllByRecursion AddsApart (history_writes nodes p who)
  history_adds nodes who p here there = by (has_history nodes p)
    where
      root : IsApart (root_of (version_history_of nodes p))
      root = below_apart r (version_history_of nodes p) (root_version ∷ []) there

      labels : IsApart (child_path (version_history_of nodes p) version_labels)
      labels = below_apart r (version_history_of nodes p) (version_labels ∷ []) there

      by : (b : Bool) → AllByRecursion AddsApart (cond b (joined_history nodes p (version_history_of nodes p)) (begun p (version_history_of nodes p) who))
      by true = (here, (here, (here, tt)))
      by false = (there, (there, (there, (root, (root, (root, (labels, (labels, (here, (here, (here, tt)))))))))))

  seen_apart : (view : View) (steps : Steps) (q : Path) (nodes : Nodes) → All IsApart (keys_of nodes) → IsApart q → All IsApart (keys_of (with_seen view steps q nodes))
  seen_apart view steps q nodes a here = by (drafted view steps q)
    where
      by : (o : Option Node) → All IsApart (keys_of (option_map_or (λ node. insert_entry path_cmp nodes q node) o nodes))
      by None = a
      by (Some x) = All-keys-insert_entry path_cmp q x IsApart nodes a here

  counting_apart : (view : View) (steps : Steps) (p : Path) → IsApart p → IfSome (own_history (drafted view steps p)) IsApart → All IsApart (keys_of (counting view steps p))
  counting_apart view steps p here there =
      by (named_history (with_seen view steps p []) p) (subst (λ (o : Option Path). IfSome o IsApart) (sym (first_named view steps p)) there)
    where
      first : All IsApart (keys_of (with_seen view steps p []))
      first = seen_apart view steps p [] (All-nil IsApart) here

      by : (o : Option Path) → IfSome o IsApart → All IsApart (keys_of (option_map_or (with_history view steps (with_seen view steps p [])) o (with_seen view steps p [])))
      by None h = first
      by (Some q) h = seen_apart view steps (root_of q) (with_seen view steps q (with_seen view steps p [])) (seen_apart view steps q (with_seen view steps p []) first h) (below_apart r q (root_version ∷ []) h)

  module _ (start : Option (Option Node)) where
    -- what was made at r is this
    abbrev Stays : Making → Type 0
    Stays m = step_at m.steps r ≡ start

    put_stays : (nodes : Nodes) → All IsApart (keys_of nodes) → (steps : Steps) → step_at steps r ≡ start → step_at (all_put steps nodes) r ≡ start
    put_stays [] a steps is = is
    put_stays (e ∷ es) a steps is =
        put_stays es (All-tail IsApart e.0 (keys_of es) a) (with_step steps e.0 (Some e.1))
        (put_apart steps e.0 r (Some e.1) (All-head IsApart e.0 (keys_of es) a) ∙ is)

    -- ---- a history that begins

    begun_stays : (n : Name) (who : Who) (view : View) (p : Path) (l : Making) → Stays l → IsApart p
        → (same_name versionable n ≡ true → IfSome (own_history (drafted view l.steps p)) IsApart) → IfOk (begun_by n who view p l) Stays
    begun_stays n who view p l is here there = by (same_name versionable n) refl
      where
        nodes : Nodes
        nodes = counting view l.steps p

        among : IfSome (own_history (drafted view l.steps p)) IsApart → (o : Option Path) → named_history nodes p ≡ o → IfSome o IsApart → IfOk (cond (is_some o) (limited_history nodes who p l) (Ok l)) Stays
        among own None e h = is
        among own (Some q) e h = unless_holds Stays (too_many_ids (l.ids + history_drawn nodes p)) (Ok (history_put nodes who p l))
            (put_stays (applied None nodes (history_writes nodes p (record who { ids = l.ids })))
            (applied_apart nodes (history_writes nodes p (record who { ids = l.ids })) (counting_apart view l.steps p here own)
            (history_adds nodes (record who { ids = l.ids }) p here (ap (λ x. is_under r x) (named_is nodes p q e) ∙ h)))
            l.steps is)

        by : (b : Bool) → same_name versionable n ≡ b → IfOk (cond b (begun_among nodes who p l) (Ok l)) Stays
        by false e = is
        by true e = among (there e) (named_history nodes p) refl
            (subst (λ (o : Option Path). IfSome o IsApart) (sym (named_own nodes p (drafted view l.steps p) (counted view l.steps p))) (there e))

    -- ---- the commands

    add_stays : (types : List TypeDef) (who : Who) (view : View) (p : Path) (named : Option Name) (m : Making) → Stays m → IsApart p → IfOk (add_made types who view p named m) Stays
    add_stays types who view p named m is here =
        unless_holds Stays (path_refusal p) (and_then (chosen_type types view m.steps p named) (completed_new types who view p m))
        (then_holds Stays (chosen_type types view m.steps p named) (completed_new types who view p m) (λ n e. completed_apart types who view r start 65 p (node_of_type n) m here is))

    type_stays : (types : List TypeDef) (who : Who) (view : View) (p : Path) (n : Name) (m : Making) → Stays m → IsApart p → IfOk (type_made types who view p n m) Stays
    type_stays types who view p n m is here =
        then_holds Stays (node_retyped types view m.steps p n) (completed_node types who view p m) (λ node e. completed_apart types who view r start 65 p node m here is)

    mixin_stays : (types : List TypeDef) (who : Who) (view : View) (p : Path) (n : Name) (m : Making) → Stays m → IsApart p
        → (same_name versionable n ≡ true → IfSome (due_history who m.ids (drafted view m.steps p)) IsApart) → IfOk (mixin_made types who view p n m) Stays
    mixin_stays types who view p n m is here there =
        then_holds Stays (place_mixing types view m.steps p n) (mixin_given types who view p n m)
        (λ o e. given o (IfOk-at_ok (λ found. IfSome found (IsMixingAt view m.steps p n)) e (placed types view m.steps p n)))
      where
        given : (o : Option Node) → IfSome o (IsMixingAt view m.steps p n) → IfOk (mixin_given types who view p n m o) Stays
        given None h = is
        given (Some x) h = then_holds Stays (completed 65 types who view p x m) (begun_by n who view p)
            (λ l e. begun_stays n who view p l (IfOk-at_ok Stays e (completed_apart types who view r start 65 p x m here is)) here
            (λ versioned. mixed_due who view p n m l x IsApart h (IfOk-at_ok (IsPutWith who m.ids (property_of x uuid) p) e (completed_here 65 types who view p x m)) (there versioned)))

    set_stays : (types : List TypeDef) (view : View) (p : Path) (x : Name × Property) (steps : Steps) → IsApart p → step_at steps r ≡ start → IfOk (with_set types view p x steps) (λ s. step_at s r ≡ start)
    set_stays types view p x steps here is = by (node_set types view steps p x.0 x.1)
      where
        by : (due : Result Node Refusal) → IfOk (putting steps p due) (λ s. step_at s r ≡ start)
        by (Ok node) = put_apart steps p r (Some node) here ∙ is
        by (Err e) = tt

    sets_stay : (types : List TypeDef) (view : View) (p : Path) (props : List (Name × Property)) (m : Making) → IsApart p → Stays m → IfOk (with_sets types view p props m) Stays
    sets_stay types view p props m here is = then_holds Stays (each (with_set types view p) props m.steps) (λ s. Ok (making s m.ids))
        (λ s e. IfOk-at_ok (λ s. step_at s r ≡ start) e
        (each_holds (λ s. step_at s r ≡ start) (with_set types view p) props
        (all_have (λ x. (s : Steps) → step_at s r ≡ start → IfOk (with_set types view p x s) (λ s. step_at s r ≡ start)) (λ x s h. set_stays types view p x s here h) props)
        m.steps is))

    -- where r isn't below the histories it is apart from each
    stored_apart : IsApart version_storage → (id : List ℕ) → IfSome (history_by id) IsApart
    stored_apart stored id = by (is_name id)
      where
        by : (b : Bool) → IfSome (cond b (Some (version_storage ++ id ∷ [])) None) IsApart
        by true = below_apart r version_storage (id ∷ []) stored
        by false = tt

    furnished_stays : (types : List TypeDef) (who : Who) (view : View) (p : Path) (part : TreeNode) (m : Making) → IsApart p → (makes_history part ≡ true → IsApart version_storage) → Stays m → IfOk (furnished types who view p part m) Stays
    furnished_stays types who view p part m here stored is =
        then_holds Stays (each (mixin_made types who view p) part.mixins m) (with_sets types view p part.props)
        (λ l e. sets_stay types view p part.props l here (IfOk-at_ok Stays e
        (each_holds Stays (mixin_made types who view p) part.mixins
        (any_has (same_name versionable) (IsApart version_storage) (λ n. (s : Making) → Stays s → IfOk (mixin_made types who view p n s) Stays)
        (λ n h s i. mixin_stays types who view p n s i here (λ versioned. stored_apart (h versioned) (unwrap_or (own_text (drafted view s.steps p)) (next_text who s.ids))))
        part.mixins stored)
        m is)))

    part_stays : (types : List TypeDef) (who : Who) (view : View) (p : Path) (part : TreeNode) (m : Making) → IsApart p → (makes_history part ≡ true → IsApart version_storage) → Stays m → IfOk (part_at types who view p part m) Stays
    part_stays types who view p part m here stored is = then_holds Stays (part_node types who view p part m) (furnished types who view p part)
        (λ l e. furnished_stays types who view p part l here stored (IfOk-at_ok Stays e
        (if_holds Stays (is_empty part.path) (add_made types who view p part.node_type m) (part_added types who view p part.node_type m)
        (add_stays types who view p part.node_type m is here)
        (unless_holds Stays (in_system p) (and_then (chosen_type types view m.steps p part.node_type) (limited types who view p m))
        (then_holds Stays (chosen_type types view m.steps p part.node_type) (limited types who view p m)
        (λ n e. unless_holds Stays (limit_refusal p) (completed_new types who view p m n) (completed_apart types who view r start 65 p (node_of_type n) m here is)))))))

    tree_stays : (types : List TypeDef) (who : Who) (view : View) (p : Path) (parts : List TreeNode) (m : Making) → IsApart p → (makes_histories parts ≡ true → IsApart version_storage) → Stays m → IfOk (tree_made types who view p parts m) Stays
    tree_stays types who view p parts m here stored is = each_holds Stays (with_part types who view p) parts
        (any_has makes_history (IsApart version_storage) (λ part. (s : Making) → Stays s → IfOk (with_part types who view p part s) Stays)
        (λ part h s i. part_stays types who view (p ++ part.path) part s (below_apart r p part.path here) h i) parts stored)
        m is

-- ---- what was made before is as it was

pub add_elsewhere : (types : List TypeDef) (who : Who) (view : View) (p : Path) (named : Option Name) (m : Making) (q : Path) → is_under q p ≡ false → IfOk (add_made types who view p named m) (IsAsBefore q m)
add_elsewhere types who view p named m q apart = add_stays q (step_at m.steps q) types who view p named m refl apart

pub type_elsewhere : (types : List TypeDef) (who : Who) (view : View) (p : Path) (n : Name) (m : Making) (q : Path) → is_under q p ≡ false → IfOk (type_made types who view p n m) (IsAsBefore q m)
type_elsewhere types who view p n m q apart = type_stays q (step_at m.steps q) types who view p n m refl apart

pub mixin_elsewhere : (types : List TypeDef) (who : Who) (view : View) (p : Path) (n : Name) (m : Making) (q : Path) → is_under q p ≡ false
    → (same_name versionable n ≡ true → IfSome (due_history who m.ids (drafted view m.steps p)) (λ h. is_under q h ≡ false)) → IfOk (mixin_made types who view p n m) (IsAsBefore q m)
mixin_elsewhere types who view p n m q apart history = mixin_stays q (step_at m.steps q) types who view p n m refl apart history

pub tree_elsewhere : (types : List TypeDef) (who : Who) (view : View) (p : Path) (parts : List TreeNode) (m : Making) (q : Path) → is_under q p ≡ false
    → (makes_histories parts ≡ true → is_under q version_storage ≡ false) → IfOk (tree_made types who view p parts m) (IsAsBefore q m)
tree_elsewhere types who view p parts m q apart stored = tree_stays q (step_at m.steps q) types who view p parts m apart stored refl
