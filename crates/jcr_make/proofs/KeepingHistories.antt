-- A history that begins keeps a tree a tree, where the version storage is there.
use Rattle.std.proofs.Common.{◌≡◌, ◌⊎◌, inl, inr, ◌+◌, ◌++◌, Bool, true, false, cond, List, [], ◌∷◌, Option, None, Some, is_some, refl, sym, ap, ◌∙◌, subst}
use Rattle.std.specs.Prelude.{Ok}
use Rattle.std.specs.Option.{option_map_or, option_or, unwrap_or}
use Rattle.std.specs.Ordering.{eq_by_cmp, is_eq}
use Rattle.std.specs.BTreeMap.{insert_entry}
use Rattle.std.specs.FinMap.{is_sorted}
use Rattle.std.proofs.lemmas.Bool.{false≢true}
use Rattle.std.proofs.lemmas.Cmp.{tied_itself}
use Rattle.jr_path.specs.Names.{parent_of, path_cmp}
use Rattle.jr_path.specs.declared.name.Name.{Name}
use Rattle.jr_path.specs.declared.path.Path.{Path}
use Rattle.jr_path.proofs.Maps.{lookup-insert_entry, path_total}
use Rattle.jr_path.proofs.Parts.{parent_of-child}
use Rattle.jr_tree.specs.declared.edit.Write.{Write}
use Rattle.jr_tree.specs.declared.shared.Who.{Who}
use Rattle.jr_tree.specs.declared.tree.Node.{Node}
use Rattle.jr_tree.specs.Edits.{applied}
use Rattle.jr_tree.specs.Items.{has_after}
use Rattle.jr_tree.specs.Trees.{IsTree, Nodes, node_at}
use Rattle.jr_tree.proofs.AtPath.{order-applied}
use Rattle.jr_tree.proofs.EditLaw.{IsOrderly, Orderly-applied, has_applied}
use Rattle.jr_tree.proofs.Entries.{sorted_insert}
use Rattle.jr_tree.proofs.Pointwise.{same_path}
use Rattle.jr_items.specs.Items.{same_name}
use Rattle.jr_items.specs.Names.{root_version, version_labels, version_storage, versionable}
use Rattle.jr_overlay.specs.Drafts.{Steps, drafted}
use Rattle.jr_overlay.specs.Overlays.{View, whole_view}
use Rattle.jr_overlay.specs.Views.{KeepTree}
use Rattle.jr_overlay.proofs.KeptTrees.{names_after, parent_after}
use Rattle.jcr_ref.specs.Drawn.{too_many_ids}
use Rattle.jcr_ref.specs.Histories.{begun, has_history, history_drawn, version_history_of, history_writes, joined_history, labels_of, root_of}
use Rattle.jcr_ref.specs.References.{identifier_of}
use Rattle.jcr_write.proofs.Keeping.{passed}
use Rattle.jcr_fill.specs.Makings.{Making}
use Rattle.jcr_fill.proofs.Fills.{ok_same}
use Rattle.jcr_mixin.specs.Histories.{all_put, begun_among, begun_by, counting, history_put, limited_history, named_history, with_history, with_seen}
use Rattle.jcr_make.proofs.PutNodes.{all_put_keeps, stays_by_put, there_by_put}

-- nodes in order of their paths, each as it is seen
pub record AreSeen (view : View) (steps : Steps) (nodes : Nodes) : Type 0 where
  pub order : is_sorted path_cmp nodes ≡ true
  pub seen : (q : Path) (node : Node) → node_at nodes q ≡ Some node → drafted view steps q ≡ Some node

none_seen : (view : View) (steps : Steps) → AreSeen view steps []
none_seen view steps = record { order = refl; seen = λ q node h. absurd (false≢true (ap is_some h)) }

one_more_seen : (view : View) (steps : Steps) (p : Path) (nodes : Nodes) → AreSeen view steps nodes → AreSeen view steps (with_seen view steps p nodes)
one_more_seen view steps p nodes are = by (drafted view steps p) refl
  where
    by : (o : Option Node) → drafted view steps p ≡ o → AreSeen view steps (option_map_or (λ node. insert_entry path_cmp nodes p node) o nodes)
    by None here = are
    by (Some new) here = record {
      order = sorted_insert path_cmp path_total p new nodes are.order;
      seen = λ q node h. at q node (eq_by_cmp path_cmp q p) refl (sym (lookup-insert_entry path_cmp path_total q p new nodes) ∙ h);
    }
      where
        at : (q : Path) (node : Node) (b : Bool) → eq_by_cmp path_cmp q p ≡ b → cond b (Some new) (node_at nodes q) ≡ Some node → drafted view steps q ≡ Some node
        at q node true same h = ap (drafted view steps) (same_path q p same) ∙ (here ∙ h)
        at q node false same h = are.seen q node h

counting_seen : (view : View) (steps : Steps) (p : Path) → AreSeen view steps (counting view steps p)
counting_seen view steps p = by (named_history (with_seen view steps p []) p)
  where
    one : AreSeen view steps (with_seen view steps p [])
    one = one_more_seen view steps p [] (none_seen view steps)

    by : (o : Option Path) → AreSeen view steps (option_map_or (with_history view steps (with_seen view steps p [])) o (with_seen view steps p []))
    by None = one
    by (Some h) = one_more_seen view steps (root_of h) (with_seen view steps h (with_seen view steps p [])) (one_more_seen view steps h (with_seen view steps p []) one)

-- the last write of a node at the beginning of a history, as it is the history, its root version or its labels
abbrev come_if : Bool → Option Bool
come_if b = cond b (Some true) None

abbrev begun_at : (history root labels : Bool) → Option Bool
begun_at a b c = option_or (option_or (option_or (option_or (option_or (option_or (come_if c) None) None) (come_if b)) None) None) (come_if a)

-- a node is there after the beginning of a history only as one of its three, or as one that was there
comes : (q h p : Path) (t : Nodes) (who : Who) → has_after t (begun p h who) q ≡ true
    → (q ≡ h) ⊎ ((q ≡ root_of h) ⊎ ((q ≡ labels_of h) ⊎ (is_some (node_at t q) ≡ true)))
comes q h p t who is = by (eq_by_cmp path_cmp q h) (eq_by_cmp path_cmp q (root_of h)) (eq_by_cmp path_cmp q (labels_of h)) refl refl refl is
  where
    by : (a b c : Bool) → eq_by_cmp path_cmp q h ≡ a → eq_by_cmp path_cmp q (root_of h) ≡ b → eq_by_cmp path_cmp q (labels_of h) ≡ c
        → unwrap_or (begun_at a b c) (is_some (node_at t q)) ≡ true
        → (q ≡ h) ⊎ ((q ≡ root_of h) ⊎ ((q ≡ labels_of h) ⊎ (is_some (node_at t q) ≡ true)))
    by true b c e f g k = inl (same_path q h e)
    by false true c e f g k = inr (inl (same_path q (root_of h) f))
    by false false true e f g k = inr (inr (inl (same_path q (labels_of h) g)))
    by false false false e f g k = inr (inr (inr k))

-- its own node is there
begins : (h p : Path) (t : Nodes) (who : Who) → has_after t (begun p h who) h ≡ true
begins h p t who = by (eq_by_cmp path_cmp h h) (eq_by_cmp path_cmp h (root_of h)) (eq_by_cmp path_cmp h (labels_of h)) (ap is_eq (tied_itself path_total h))
  where
    by : (a b c : Bool) → a ≡ true → unwrap_or (begun_at a b c) (is_some (node_at t h)) ≡ true
    by true true true e = refl
    by true true false e = refl
    by true false true e = refl
    by true false false e = refl
    by false b c e = absurd (false≢true e)

-- the path above a child is the one that it was made of
one_above : (p q : Path) (n : Name) → parent_of (p ++ n ∷ []) ≡ Some q → p ≡ q
one_above p q n e = ap (λ (o : Option Path). unwrap_or o p) (sym (parent_of-child p n) ∙ e)

module _ (v : Nodes) (steps : Steps) (tree : IsTree v) (keep : KeepTree (whole_view v) steps) (stored : is_some (drafted (whole_view v) steps version_storage) ≡ true)
    (nodes : Nodes) (are : AreSeen (whole_view v) steps nodes) (who : Who) (p : Path) where
  abbrev made : Nodes
  made = applied None nodes (history_writes nodes p who)

  abbrev later : Path → Type 0
  later q = is_some (drafted (whole_view v) (all_put steps made) q) ≡ true

  order_made : is_sorted path_cmp made ≡ true
  order_made = order-applied None nodes (history_writes nodes p who) are.order

  names_made : (q : Path) → IsOrderly (node_at made q)
  names_made = Orderly-applied None nodes (history_writes nodes p who) are.order (λ q node h. names_after v steps tree keep q node (are.seen q node h))

  stays : (q : Path) → is_some (drafted (whole_view v) steps q) ≡ true → later q
  stays = stays_by_put (whole_view v) steps made order_made

  -- the node above one that was seen
  above_seen : (x y : Path) → is_some (node_at nodes x) ≡ true → parent_of x ≡ Some y → later y
  above_seen x y there up = by (node_at nodes x) refl there
    where
      by : (o : Option Node) → node_at nodes x ≡ o → is_some o ≡ true → later y
      by None e h = absurd (false≢true h)
      by (Some node) e h = stays y (parent_after v steps tree keep x y (ap is_some (are.seen x node e)) up)

  abbrev own : Path
  own = version_history_of nodes p

  parents_made : (x y : Path) → is_some (node_at made x) ≡ true → parent_of x ≡ Some y → later y
  parents_made x y there up = by (has_history nodes p) refl (sym (has_applied None nodes (history_writes nodes p who) are.order x) ∙ there)
    where
      by : (b : Bool) → has_history nodes p ≡ b → has_after nodes (cond b (joined_history nodes p own) (begun p own who)) x ≡ true → later y
      by true e h = above_seen x y h up
      by false e h = elim (comes x own p nodes who h) [
        | inl is ↦ stays y (subst (λ (q : Path). is_some (drafted (whole_view v) steps q) ≡ true)
            (one_above version_storage y (identifier_of nodes p) (ap parent_of (sym is) ∙ up)) stored)
        | inr (inl is) ↦ subst later (one_above own y root_version (ap parent_of (sym is) ∙ up)) new
        | inr (inr (inl is)) ↦ subst later (one_above own y version_labels (ap parent_of (sym is) ∙ up)) new
        | inr (inr (inr is)) ↦ above_seen x y is up
      ]
        where
          new : later own
          new = there_by_put (whole_view v) steps made order_made own
              (has_applied None nodes (history_writes nodes p who) are.order own
              ∙ (ap (λ (c : Bool). has_after nodes (cond c (joined_history nodes p own) (begun p own who)) own) e ∙ begins own p nodes who))

  pub history_keeps : KeepTree (whole_view v) (all_put steps made)
  history_keeps = all_put_keeps v steps made keep order_made names_made parents_made

-- what a history's beginning makes, where it makes something
begun_of : (nodes : Nodes) (who : Who) (p : Path) (m new : Making) (P : Steps → Type 0) → begun_among nodes who p m ≡ Ok new
    → P m.steps → P (history_put nodes who p m).steps → P new.steps
begun_of nodes who p m new P h idle put = by (is_some (named_history nodes p)) h
  where
    by : (b : Bool) → cond b (limited_history nodes who p m) (Ok m) ≡ Ok new → P new.steps
    by false e = subst (λ (k : Making). P k.steps) (sym (ok_same e)) idle
    by true e = subst (λ (k : Making). P k.steps)
        (sym (ok_same (passed (too_many_ids (m.ids + history_drawn nodes p)) (Ok (history_put nodes who p m)) new e).1)) put

pub begun_keeps : (n : Name) (who : Who) (v : Nodes) (p : Path) (m new : Making) → IsTree v → KeepTree (whole_view v) m.steps
    → is_some (drafted (whole_view v) m.steps version_storage) ≡ true → begun_by n who (whole_view v) p m ≡ Ok new → KeepTree (whole_view v) new.steps
begun_keeps n who v p m new tree keep stored h = by (same_name versionable n) h
  where
    by : (b : Bool) → cond b (begun_among (counting (whole_view v) m.steps p) who p m) (Ok m) ≡ Ok new → KeepTree (whole_view v) new.steps
    by false e = subst (λ (k : Making). KeepTree (whole_view v) k.steps) (sym (ok_same e)) keep
    by true e = begun_of (counting (whole_view v) m.steps p) who p m new (λ s. KeepTree (whole_view v) s) e keep
        (history_keeps v m.steps tree keep stored (counting (whole_view v) m.steps p) (counting_seen (whole_view v) m.steps p) (record who { ids = m.ids }) p)

-- and takes no node away
pub begun_stays : (n : Name) (who : Who) (view : View) (p q : Path) (m new : Making) → begun_by n who view p m ≡ Ok new
    → is_some (drafted view m.steps q) ≡ true → is_some (drafted view new.steps q) ≡ true
begun_stays n who view p q m new h there = by (same_name versionable n) h
  where
    nodes : Nodes
    nodes = counting view m.steps p

    writes : List Write
    writes = history_writes nodes p (record who { ids = m.ids })

    by : (b : Bool) → cond b (begun_among nodes who p m) (Ok m) ≡ Ok new → is_some (drafted view new.steps q) ≡ true
    by false e = ap (λ (k : Making). is_some (drafted view k.steps q)) (ok_same e) ∙ there
    by true e = begun_of nodes who p m new (λ s. is_some (drafted view s q) ≡ true) e there
        (stays_by_put view m.steps (applied None nodes writes) (order-applied None nodes writes (counting_seen view m.steps p).order) q there)
