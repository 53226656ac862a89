-- An edit that is proper at its base, merged with edits of which it is independent: it is proper there too, and each item is as the last edit that writes it left it.
use Rattle.std.proofs.Common.{◌≡◌, inl, inr, Bool, true, false, cond, ◌&&◌, Some, None, Option, List, [], ◌∷◌, refl, sym, ap, ◌∙◌, is_some}
use Rattle.std.specs.Prelude.{is_none, not}
use Rattle.std.specs.Cmp.{tied_itself}
use Rattle.std.specs.Option.{option_and_then, option_map, option_map_or, option_or, unwrap_or}
use Rattle.std.specs.Ordering.{is_eq, eq_by_cmp}
use Rattle.std.specs.Map.{lookup}
use Rattle.std.specs.BTreeMap.{is_at}
use Rattle.std.specs.List.{list_any, list_all}
use Rattle.std.proofs.lemmas.Cmp.{nat_list_cmp_total}
use mathlib.Core.Bool.{false≢true}
use Rattle.jr_path.specs.Names.{name_cmp, path_cmp}
use Rattle.jr_path.specs.declared.name.Name.{Name}
use Rattle.jr_path.specs.declared.path.Path.{Path}
use Rattle.jr_path.proofs.Maps.{name_exact, path_total}
use Rattle.jr_value.specs.declared.value.Property.{Property}
use Rattle.jr_value.specs.Values.{same_property}
use Rattle.jr_rev.specs.declared.revision.Revision.{Revision}
use Rattle.jr_rev.specs.Revisions.{revision_cmp, is_before, is_at_most}
use Rattle.jr_rev.proofs.Order.{revision_total}
use Rattle.jr_tree.specs.declared.tree.Node.{Node}
use Rattle.jr_tree.specs.declared.edit.Write.{Write}
use Rattle.jr_tree.specs.declared.edit.Write.TheVariants.{Here, Gone, Put, Unset}
use Rattle.jr_tree.specs.Trees.{Nodes, born_at, node_at, property_at, IsTree}
use Rattle.jr_tree.proofs.Undated.{Tree-alike, undated-applied}
use Rattle.jr_tree.specs.Edits.{applied, is_change, is_emptied, is_unset_of, properties_at, IsProper}
use Rattle.oak_machine.specs.declared.event.Start.{Start}
use Rattle.oak_machine.specs.History.{Past}
use Rattle.jr_tree.specs.Items.{here_of, put_of, written, Fits}
use Rattle.core_read.specs.Commits.{Sight, last, last_entry}
use Rattle.core_read.specs.Told.{IsIn}
use Rattle.jr_tree.proofs.AtPath.{order-applied}
use Rattle.jr_tree.proofs.EditLaw.{Orderly-applied, born_applied, has_applied, property_fitted}
use Rattle.core_read.proofs.Entries.{both, first, second, same_lists}
use Rattle.core_read.proofs.Falling.{not_both}
use Rattle.core_read.proofs.Latest.{IsLast, IsLastEntry, only, only_entry, last_moved, moved, same_revision, at_most_itself, not_before}
use Rattle.jr_tree.proofs.Proper.{gone_writes, proper_fits}
use Rattle.core_keep.specs.From.{falling_from, tree_from}
use Rattle.core_keep.proofs.From.{TellsFrom, dated}
use Rattle.core_begun.specs.Told.{edit_since, IsClosedSince, IsToldSince}
use Rattle.core_begun.proofs.Course.{tells_since}
use Rattle.core_merge.specs.Independent.{writes_property, writes_node, AreIndependent}
use Rattle.core_merge.proofs.Seen.{last_entry_seen, edit_seen, from_seen, last_seen, write_seen}

-- ---- writes of an edit

some_or : {X : Type 0} (a b : Option X) → is_some b ≡ true → is_some (option_or a b) ≡ true
some_or None b h = h
some_or (Some x) b h = refl

or_some : {X : Type 0} (a b : Option X) → is_some a ≡ true → is_some (option_or a b) ≡ true
or_some None b h = absurd (false≢true h)
or_some (Some x) b h = refl

-- an item of one of the writes is written
is_written : {X : Type 0} (f : Write → Option X) (w : Write) (ws : List Write) → IsIn w ws → is_some (f w) ≡ true → is_some (written f ws) ≡ true
is_written f w [] i h = absurd i
is_written f w (x ∷ ws) i h = elim i [ inl e ↦ some_or (written f ws) (f x) (ap (λ (y : Write). is_some (f y)) e ∙ h) | inr j ↦ or_some (written f ws) (f x) (is_written f w ws j h) ]

-- a test that agrees with one that all pass
all_alike : (f g : Write → Bool) (ws : List Write) → ((w : Write) → IsIn w ws → g w ≡ f w) → list_all f ws ≡ true → list_all g ws ≡ true
all_alike f g [] same h = refl
all_alike f g (w ∷ ws) same h = both _ _ (same w (inl refl) ∙ first _ _ h) (all_alike f g ws (λ x i. same x (inr i)) (second _ _ h))

passes : {X : Type 0} (b : Bool) (x : X) → b ≡ true → is_some (cond b (Some x) None) ≡ true
passes true x h = refl
passes false x h = absurd (false≢true h)

same_path : (p : Path) → eq_by_cmp path_cmp p p ≡ true
same_path p = ap is_eq (tied_itself path_total p)

same_name : (n : Name) → eq_by_cmp name_cmp n n ≡ true
same_name n = ap is_eq (tied_itself nat_list_cmp_total n)

same_item : (p : Path) (n : Name) → (eq_by_cmp path_cmp p p && eq_by_cmp name_cmp n n) ≡ true
same_item p n = both _ _ (same_path p) (same_name n)

node_of_here : (p : Path) (ws : List Write) → IsIn (Here p) ws → writes_node p ws ≡ true
node_of_here p ws i = is_written (here_of p) (Here p) ws i (passes _ true (same_path p))

node_of_gone : (p : Path) (ws : List Write) → IsIn (Gone p) ws → writes_node p ws ≡ true
node_of_gone p ws i = is_written (here_of p) (Gone p) ws i (passes _ false (same_path p))

property_of_put : (p : Path) (n : Name) (x : Property) (ws : List Write) → IsIn (Put p n x) ws → writes_property p n ws ≡ true
property_of_put p n x ws i = is_written (put_of p n) (Put p n x) ws i (passes _ (Some x) (same_item p n))

property_of_unset : (p : Path) (n : Name) (ws : List Write) → IsIn (Unset p n) ws → writes_property p n ws ≡ true
property_of_unset p n ws i = is_written (put_of p n) (Unset p n) ws i (passes _ None (same_item p n))

none_of : {X : Type 0} (o : Option X) → is_some o ≡ false → o ≡ None
none_of None h = refl
none_of (Some x) h = absurd (false≢true (sym h))

none_alike : {X : Type 0} (a b : Option X) → is_some a ≡ is_some b → is_none a ≡ is_none b
none_alike None None h = refl
none_alike None (Some y) h = absurd (false≢true h)
none_alike (Some x) None h = absurd (false≢true (sym h))
none_alike (Some x) (Some y) h = refl

or_last : {X : Type 0} (a b : Option X) (c : X) → unwrap_or a (unwrap_or b c) ≡ unwrap_or (option_or a b) c
or_last None b c = refl
or_last (Some x) b c = refl

-- ---- one revision more

-- what is last with a revision more, which is the greatest of those that have something where it has
last_more : {X : Type 0} (g h : Revision → Option X) (r : Revision) (w : Option X) → ((q : Revision) → h q ≡ cond (eq_by_cmp revision_cmp q r) w (g q)) → g r ≡ None
    → (is_some w ≡ true → (q : Revision) → is_some (g q) ≡ true → is_at_most q r ≡ true) → (o : Option X) → IsLast g o → IsLast h (option_or w o)
last_more g h r (Some x) with_r none greatest o l = (r, with_r r ∙ ap (λ b. cond b (Some x) (g r)) (ap is_eq (tied_itself revision_total r)), λ q k. by q (eq_by_cmp revision_cmp q r) refl (sym (ap is_some (with_r q)) ∙ k))
  where
    by : (q : Revision) (b : Bool) → eq_by_cmp revision_cmp q r ≡ b → is_some (cond b (Some x) (g q)) ≡ true → is_at_most q r ≡ true
    by q true e k = at_most_itself q r (same_revision q r e)
    by q false e k = greatest refl q k
last_more g h r None with_r none greatest o l = last_moved g h (λ q. with_r q ∙ by q (eq_by_cmp revision_cmp q r) refl) o l
  where
    by : (q : Revision) (b : Bool) → eq_by_cmp revision_cmp q r ≡ b → cond b None (g q) ≡ g q
    by q false e = refl
    by q true e = sym (ap g (same_revision q r e) ∙ none)

-- the same, with the revision
last_entry_more : {X : Type 0} (g h : Revision → Option X) (r : Revision) (w : Option X) → ((q : Revision) → h q ≡ cond (eq_by_cmp revision_cmp q r) w (g q)) → g r ≡ None
    → (is_some w ≡ true → (q : Revision) → is_some (g q) ≡ true → is_at_most q r ≡ true) → (o : Option (Revision × X)) → IsLastEntry g o → IsLastEntry h (option_or (option_map (λ x. (r, x)) w) o)
last_entry_more g h r (Some x) with_r none greatest o l = (with_r r ∙ ap (λ b. cond b (Some x) (g r)) (ap is_eq (tied_itself revision_total r)), λ q k. by q (eq_by_cmp revision_cmp q r) refl (sym (ap is_some (with_r q)) ∙ k))
  where
    by : (q : Revision) (b : Bool) → eq_by_cmp revision_cmp q r ≡ b → is_some (cond b (Some x) (g q)) ≡ true → is_at_most q r ≡ true
    by q true e k = at_most_itself q r (same_revision q r e)
    by q false e k = greatest refl q k
last_entry_more g h r None with_r none greatest o l = moved g h (λ q. with_r q ∙ by q (eq_by_cmp revision_cmp q r) refl) o l
  where
    by : (q : Revision) (b : Bool) → eq_by_cmp revision_cmp q r ≡ b → cond b None (g q) ≡ g q
    by q false e = refl
    by q true e = sym (ap g (same_revision q r e) ∙ none)

-- ---- an edit on a tree that has what s sees; it is proper on the tree of its base, which sees less
module _ (start : Start) (first_tree : IsTree start.tree) (past : Past) (told : IsToldSince start past) (s base : Sight) (closed : IsClosedSince past base) (ws : List Write) (t : Nodes) (tells : TellsFrom start.tree t s (falling_from past))
    (wider : (o : Revision) → base o ≡ true → s o ≡ true)
    (apart : (o : Revision) (us : List Write) → edit_since past o ≡ Some us → s o ≡ true → base o ≡ false → AreIndependent ws us)
    (proper : IsProper (tree_from start.tree base (falling_from past)) ws) where
  abbrev before : Nodes
  before = tree_from start.tree base (falling_from past)

  at_base : TellsFrom start.tree before base (falling_from past)
  at_base = tells_since start past first_tree told base closed

  -- what no edit of which it is independent writes is as at the base
  same_last : {X : Type 0} (f : Write → Option X) → ((us : List Write) → AreIndependent ws us → is_some (written f us) ≡ false) → last f s (falling_from past) ≡ last f base (falling_from past)
  same_last f silent = only (write_seen f past s) (write_seen f past base) (λ q. by q (s q) refl (base q) refl (edit_since past q) refl) _ _ (last_seen f past s) (last_seen f past base)
    where
      by : (q : Revision) (a : Bool) → s q ≡ a → (b : Bool) → base q ≡ b → (o : Option (List Write)) → edit_since past q ≡ o → option_and_then (written f) (cond a o None) ≡ option_and_then (written f) (cond b o None)
      by q true h true k o l = refl
      by q false h false k o l = refl
      by q false h true k o l = absurd (false≢true (sym h ∙ wider q k))
      by q true h false k None l = refl
      by q true h false k (Some us) l = none_of _ (silent us (apart q us l h k))

  same_node : (p : Path) → ((us : List Write) → AreIndependent ws us → writes_node p us ≡ false) → is_some (node_at t p) ≡ is_some (node_at before p)
  same_node p silent = tells.node p ∙ (ap (λ o. unwrap_or o (is_some (node_at start.tree p))) (same_last (here_of p) silent) ∙ sym (at_base.node p))

  same_prop : (p : Path) (n : Name) → ((us : List Write) → AreIndependent ws us → writes_property p n us ≡ false) → property_at t p n ≡ property_at before p n
  same_prop p n silent = tells.prop p n ∙ (ap (λ o. unwrap_or o (property_at start.tree p n)) (same_last (put_of p n) silent) ∙ sym (at_base.prop p n))

  fits_base : Fits before ws
  fits_base = proper_fits before ws at_base.order proper

  pub fits : Fits t ws
  fits = record {
    once = proper.once;
    put = λ p n x h. ap (unwrap_or (written (here_of p) ws)) (same_node p (λ us i. i.of_property p n (ap is_some h))) ∙ fits_base.put p n x h;
    gone = λ p n g h. fits_base.gone p n g (sym (ap is_some (same_prop p n (λ us i. i.of_node p n (gone_writes p ws g)))) ∙ h);
  }

  same_node_after : (p : Path) → writes_node p ws ≡ true → is_some (node_at (applied None t ws) p) ≡ is_some (node_at (applied None before ws) p)
  same_node_after p m = has_applied None t ws tells.order p ∙ (ap (unwrap_or (written (here_of p) ws)) (same_node p (λ us i. i.nodes p m)) ∙ sym (has_applied None before ws at_base.order p))

  same_prop_after : (p : Path) (n : Name) → writes_property p n ws ≡ true → property_at (applied None t ws) p n ≡ property_at (applied None before ws) p n
  same_prop_after p n m =
      property_fitted None t ws tells.order tells.orderly fits p n
      ∙ (ap (unwrap_or (written (put_of p n) ws)) (same_prop p n (λ us i. i.properties p n m)) ∙ sym (property_fitted None before ws at_base.order at_base.orderly fits_base p n))

  -- the node that it removes has the properties that it has at the base
  same_properties : (p : Path) → writes_node p ws ≡ true → properties_at t p ≡ properties_at before p
  same_properties p m = by (node_at t p) refl (node_at before p) refl (same_node p (λ us i. i.nodes p m)) (λ n. same_prop p n (λ us i. i.of_node p n m))
    where
      by : (a : Option Node) → node_at t p ≡ a → (b : Option Node) → node_at before p ≡ b → is_some a ≡ is_some b
          → ((n : Name) → option_and_then (λ (node : Node). lookup (is_at (name_cmp n)) node.props) a ≡ option_and_then (λ (node : Node). lookup (is_at (name_cmp n)) node.props) b)
          → option_map_or (λ (node : Node). node.props) a [] ≡ option_map_or (λ (node : Node). node.props) b []
      by None h None k same each = refl
      by None h (Some y) k same each = absurd (false≢true same)
      by (Some x) h None k same each = absurd (false≢true (sym same))
      by (Some x) h (Some y) k same each = same_lists name_cmp nat_list_cmp_total name_exact x.props y.props (tells.orderly p x h) (at_base.orderly p y k) each

  same_change : (w : Write) → IsIn w ws → is_change t (applied None t ws) w ≡ is_change before (applied None before ws) w
  same_change (Here p) i =
      let m : writes_node p ws ≡ true = node_of_here p ws i in
      ap (λ b. b && is_some (node_at (applied None t ws) p)) (none_alike _ _ (same_node p (λ us d. d.nodes p m))) ∙ ap (λ b. is_none (node_at before p) && b) (same_node_after p m)
  same_change (Gone p) i =
      let m : writes_node p ws ≡ true = node_of_gone p ws i in
      ap (λ b. b && is_none (node_at (applied None t ws) p)) (same_node p (λ us d. d.nodes p m)) ∙ ap (λ b. is_some (node_at before p) && b) (none_alike _ _ (same_node_after p m))
  same_change (Put p n x) i =
      let m : writes_property p n ws ≡ true = property_of_put p n x ws i in
      ap (λ (o : Option Property). not (option_map_or (same_property x) o false) && option_map_or (same_property x) (property_at (applied None t ws) p n) false) (same_prop p n (λ us d. d.properties p n m))
      ∙ ap (λ (o : Option Property). not (option_map_or (same_property x) (property_at before p n) false) && option_map_or (same_property x) o false) (same_prop_after p n m)
  same_change (Unset p n) i =
      let m : writes_property p n ws ≡ true = property_of_unset p n ws i in
      ap (λ (o : Option Property). is_some o && is_none (property_at (applied None t ws) p n)) (same_prop p n (λ us d. d.properties p n m))
      ∙ ap (λ (o : Option Property). is_some (property_at before p n) && is_none o) (same_prop_after p n m)

  same_emptied : (w : Write) → IsIn w ws → is_emptied t ws w ≡ is_emptied before ws w
  same_emptied (Here p) i = refl
  same_emptied (Gone p) i = ap (λ (es : List (Name × Property)). list_all (λ e. list_any (is_unset_of p e.0) ws) es) (same_properties p (node_of_gone p ws i))
  same_emptied (Put p n x) i = refl
  same_emptied (Unset p n) i = refl

  pub proper_there : (born : Option Revision) → IsTree (applied born t ws) → IsProper t ws
  proper_there born tree = record {
    tree = Tree-alike (applied born t ws) (applied None t ws) (undated-applied born t ws ∙ sym (undated-applied None t ws)) tree;
    once = proper.once;
    changing = all_alike (is_change before (applied None before ws)) (is_change t (applied None t ws)) ws same_change proper.changing;
    emptied = all_alike (is_emptied before ws) (is_emptied t ws) ws same_emptied proper.emptied;
  }

  -- ---- what is seen with the edit too, which is that of r
  module _ (later : Past) (wide : Sight) (r : Revision)
      (with_r : (q : Revision) → edit_seen later wide q ≡ cond (eq_by_cmp revision_cmp q r) (Some ws) (edit_seen past s q))
      (not_yet : edit_seen past s r ≡ None)
      (rises : (q : Revision) → base q ≡ true → is_before q r ≡ true) where
    greatest : {X : Type 0} (f : Write → Option X) → ((us : List Write) → AreIndependent ws us → is_some (written f ws) ≡ true → is_some (written f us) ≡ false)
        → is_some (written f ws) ≡ true → (q : Revision) → is_some (write_seen f past s q) ≡ true → is_at_most q r ≡ true
    greatest f silent m q h = from_seen f past s q _ refl (λ o. is_some o ≡ true → is_at_most q r ≡ true) (λ k. absurd (false≢true k)) (λ us e seen k. by us e seen k (is_before r q) refl (base q) refl) h
      where
        by : (us : List Write) → edit_since past q ≡ Some us → s q ≡ true → is_some (written f us) ≡ true → (b : Bool) → is_before r q ≡ b → (c : Bool) → base q ≡ c → is_at_most q r ≡ true
        by us e seen k false l c o = not_before r q l
        by us e seen k true l true o = absurd (false≢true (sym (not_both r q l) ∙ rises q o))
        by us e seen k true l false o = absurd (false≢true (sym (silent us (apart q us e seen o) m) ∙ k))

    last_with : {X : Type 0} (f : Write → Option X) → ((us : List Write) → AreIndependent ws us → is_some (written f ws) ≡ true → is_some (written f us) ≡ false) → last f wide (falling_from later) ≡ option_or (written f ws) (last f s (falling_from past))
    last_with f silent = only (write_seen f later wide) (write_seen f later wide) (λ q. refl) _ _ (last_seen f later wide)
        (last_more (write_seen f past s) (write_seen f later wide) r (written f ws) (λ q. ap (option_and_then (written f)) (with_r q) ∙ by q (eq_by_cmp revision_cmp q r)) (ap (option_and_then (written f)) not_yet) (greatest f silent) _ (last_seen f past s))
      where
        by : (q : Revision) (b : Bool) → option_and_then (written f) (cond b (Some ws) (edit_seen past s q)) ≡ cond b (written f ws) (write_seen f past s q)
        by q true = refl
        by q false = refl

    last_entry_with : {X : Type 0} (f : Write → Option X) → ((us : List Write) → AreIndependent ws us → is_some (written f ws) ≡ true → is_some (written f us) ≡ false) → last_entry f wide (falling_from later) ≡ option_or (option_map (λ x. (r, x)) (written f ws)) (last_entry f s (falling_from past))
    last_entry_with f silent = only_entry (write_seen f later wide) (write_seen f later wide) (λ q. refl) _ _ (last_entry_seen f later wide)
        (last_entry_more (write_seen f past s) (write_seen f later wide) r (written f ws) (λ q. ap (option_and_then (written f)) (with_r q) ∙ by q (eq_by_cmp revision_cmp q r)) (ap (option_and_then (written f)) not_yet) (greatest f silent) _ (last_entry_seen f past s))
      where
        by : (q : Revision) (b : Bool) → option_and_then (written f) (cond b (Some ws) (edit_seen past s q)) ≡ cond b (written f ws) (write_seen f past s q)
        by q true = refl
        by q false = refl

    pub tells_with : TellsFrom start.tree (applied (Some r) t ws) wide (falling_from later)
    tells_with = record {
      order = order-applied (Some r) t ws tells.order;
      orderly = Orderly-applied (Some r) t ws tells.order tells.orderly;
      node = λ p. has_applied (Some r) t ws tells.order p ∙ (ap (unwrap_or (written (here_of p) ws)) (tells.node p) ∙ (or_last (written (here_of p) ws) (last (here_of p) s (falling_from past)) (is_some (node_at start.tree p)) ∙ ap (λ o. unwrap_or o (is_some (node_at start.tree p))) (sym (last_with (here_of p) (λ us i m. i.nodes p m)))));
      prop = λ p n. property_fitted (Some r) t ws tells.order tells.orderly fits p n ∙ (ap (unwrap_or (written (put_of p n) ws)) (tells.prop p n) ∙ (or_last (written (put_of p n) ws) (last (put_of p n) s (falling_from past)) (property_at start.tree p n) ∙ ap (λ o. unwrap_or o (property_at start.tree p n)) (sym (last_with (put_of p n) (λ us i m. i.properties p n m)))));
      born = λ p. born_applied (Some r) t ws tells.order p
          ∙ (dated r (written (here_of p) ws) (is_some (node_at t p)) (born_at t p) (born_at start.tree p) (last_entry (here_of p) s (falling_from past)) (tells.born p)
          ∙ (ap (λ b. cond b (option_or (option_map (λ (e : Revision × Bool). e.0) (option_or (option_map (λ x. (r, x)) (written (here_of p) ws)) (last_entry (here_of p) s (falling_from past)))) (born_at start.tree p)) None) (sym (has_applied (Some r) t ws tells.order p))
          ∙ ap (λ (o : Option (Revision × Bool)). cond (is_some (node_at (applied (Some r) t ws) p)) (option_or (option_map (λ (e : Revision × Bool). e.0) o) (born_at start.tree p)) None) (sym (last_entry_with (here_of p) (λ us i m. i.nodes p m)))));
    }
