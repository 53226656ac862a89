-- The trees at two vectors, at a path of which nothing is told.
use Rattle.std.proofs.Common.{◌≡◌, ◌⊎◌, inl, inr, ℕ, Bool, true, false, cond, ◌&&◌, ◌||◌, Option, Some, None, List, [], ◌∷◌, is_some, refl, sym, ap, subst, ◌∙◌}
use Rattle.std.specs.Prelude.{Contains}
use Rattle.std.specs.Option.{option_map, option_map_or, option_or}
use Rattle.std.specs.Ordering.{eq_by_cmp, is_eq}
use Rattle.std.specs.List.{fold}
use Rattle.std.specs.Map.{lookup, remove_entry}
use Rattle.std.specs.BTreeMap.{is_at, insert_entry}
use Rattle.std.proofs.lemmas.Bool.{false≢true, both_ways, false_from_ne_true}
use Rattle.std.proofs.lemmas.Cmp.{tied_itself}
use Rattle.std.proofs.lemmas.Map.Views.{Contains-keys_from_lookup}
use Rattle.jr_path.specs.Names.{name_cmp, path_cmp}
use Rattle.jr_path.specs.declared.name.Name.{Name}
use Rattle.jr_path.specs.declared.path.Path.{Path}
use Rattle.jr_path.proofs.Maps.{lookup-insert_entry, path_total}
use Rattle.jr_rev.specs.declared.revision.Revision.{Revision}
use Rattle.jr_rev.specs.declared.vector.RevVec.{RevVec}
use Rattle.jr_rev.specs.Vectors.{is_below, sees}
use Rattle.jr_rev.proofs.Bounds.{below_seen}
use Rattle.jr_value.specs.declared.value.Property.{Property}
use Rattle.jr_tree.specs.declared.tree.Node.{Node}
use Rattle.jr_tree.specs.declared.edit.Write.{Write}
use Rattle.jr_tree.specs.declared.edit.Write.TheVariants.{Here, Gone, Put, Unset}
use Rattle.jr_tree.specs.Edits.{applied, item_of, is_same_item, last_writes}
use Rattle.jr_tree.specs.Items.{here_of, put_of, written}
use Rattle.jr_tree.specs.Merging.{is_touched}
use Rattle.jr_tree.specs.Trees.{Nodes, node_at}
use Rattle.jr_tree.proofs.AtPath.{InOrder, come, filled, node_at-applied, order-applied, props_of}
use Rattle.jr_tree.proofs.Pointwise.{same_path}
use Rattle.oak_clash.specs.declared.mark.Mark.TheVariants.{Exists, Prop}
use Rattle.oak_clash.specs.declared.mark.MarkAt.{MarkAt}
use Rattle.oak_clash.specs.Clashes.{marked_paths}
use Rattle.oak_machine.specs.declared.event.Draw.{Draw}
use Rattle.oak_machine.specs.declared.event.Start.{Start}
use Rattle.oak_machine.specs.History.{Begin, IsBegun, Past}
use Rattle.oak_machine.specs.Commits.{committed_edits, draw_of, marks_of, tree_at}
use Rattle.oak_node.specs.declared.pending.Note.{Note}
use Rattle.core_read.specs.Commits.{Commits, Each, Sight}
use Rattle.core_read.specs.Told.{Covers, IsIn}
use Rattle.core_keep.specs.From.{falling_from, tree_from}
use Rattle.core_begun.specs.Told.{edit_since, start_in, IsToldSince}
use Rattle.core_keep.proofs.From.{tree_onto}
use Rattle.core_begun.proofs.Sound.{each_edit}
use Rattle.core_nodes.specs.Nodes.{TellsSince}

-- ---- two sights

order_of : (b : Nodes) → InOrder b → (s : Sight) (es : Commits) → InOrder (tree_from b s es)
order_of b order s [] = order
order_of b order s (e ∷ es) = by (order_of b order s es) (s e.0)
  where
    by : InOrder (tree_from b s es) → (c : Bool) → InOrder (cond c (applied (Some e.0) (tree_from b s es) e.1) (tree_from b s es))
    by order true = order-applied (Some e.0) (tree_from b s es) e.1 order
    by order false = order

-- a write of another node
come_other : (born : Option Revision) (p : Path) (o : Option Node) (w : Write) → eq_by_cmp path_cmp p (item_of w).path ≡ false → come born p o w ≡ o
come_other born p o (Here q) h = ap (λ (b : Bool). cond b (Some (record { props = props_of o; born = born })) o) h
come_other born p o (Gone q) h = ap (λ (b : Bool). cond b None o) h
come_other born p o (Put q m x) h = refl
come_other born p o (Unset q m) h = refl

fill_other : (p : Path) (o : Option Node) (w : Write) → eq_by_cmp path_cmp p (item_of w).path ≡ false → filled p o w ≡ o
fill_other p o (Here q) h = refl
fill_other p o (Gone q) h = refl
fill_other p o (Put q m x) h = ap (λ (b : Bool). cond b (option_map {T = Node} (λ node. record node { props = insert_entry name_cmp node.props m x }) o) o) h
fill_other p o (Unset q m) h = ap (λ (b : Bool). cond b (option_map {T = Node} (λ node. record node { props = remove_entry (is_at (name_cmp m)) node.props }) o) o) h

-- neither of two tests holds
neither : (a b : Bool) → (a || b) ≡ false → (a ≡ false) × (b ≡ false)
neither false b h = (refl, h)
neither true b h = absurd (false≢true (sym h))

fold_other : (f : Option Node → Write → Option Node) (p : Path) (o : Option Node) (ws : List Write) → ((x : Option Node) (w : Write) → eq_by_cmp path_cmp p (item_of w).path ≡ false → f x w ≡ x) → is_touched ws p ≡ false → fold f o ws ≡ o
fold_other f p o [] each h = refl
fold_other f p o (w ∷ ws) each h =
    let parts = neither (eq_by_cmp path_cmp p (item_of w).path) (is_touched ws p) h in
    ap (λ (x : Option Node). fold f x ws) (each o w parts.0) ∙ fold_other f p o ws each parts.1

-- an edit that writes nothing at p leaves the node there
untouched : (born : Option Revision) (t : Nodes) (ws : List Write) (p : Path) → InOrder t → is_touched (last_writes ws) p ≡ false → node_at (applied born t ws) p ≡ node_at t p
untouched born t ws p order h =
    let us : List Write = last_writes ws in
    node_at-applied born p t ws order
    ∙ (fold_other (filled p) p (fold (come born p) (node_at t p) us) us (λ x w e. fill_other p x w e) h
    ∙ fold_other (come born p) p (node_at t p) us (λ x w e. come_other born p x w e) h)

-- the sights agree on each edit, or it writes nothing at p
abbrev AgreesAt : Sight → Sight → Path → Revision × List Write → Type 0
AgreesAt s t p e = (s e.0 ≡ t e.0) ⊎ (is_touched (last_writes e.1) p ≡ false)

module _ (first : Nodes) (order : InOrder first) (s t : Sight) (p : Path) where
  -- of a sight the node at p, behind an edit or without it
  abbrev With : Sight → Revision × List Write → Commits → Bool → Type 0
  With x e es b = node_at (cond b (applied (Some e.0) (tree_from first x es) e.1) (tree_from first x es)) p ≡ node_at (tree_from first x es) p

  same_at : (es : Commits) → Each (AgreesAt s t p) es → node_at (tree_from first s es) p ≡ node_at (tree_from first t es) p
  same_at [] h = refl
  same_at (e ∷ es) h = by (same_at es h.1) h.0
    where
      one : (x : Sight) → is_touched (last_writes e.1) p ≡ false → (b : Bool) → With x e es b
      one x clear true = untouched (Some e.0) (tree_from first x es) e.1 p (order_of first order x es) clear
      one x clear false = refl

      alike : node_at (tree_from first s es) p ≡ node_at (tree_from first t es) p → (b : Bool)
          → node_at (cond b (applied (Some e.0) (tree_from first s es) e.1) (tree_from first s es)) p
          ≡ node_at (cond b (applied (Some e.0) (tree_from first t es) e.1) (tree_from first t es)) p
      alike rest true =
          node_at-applied (Some e.0) p (tree_from first s es) e.1 (order_of first order s es)
          ∙ (ap (λ (o : Option Node). fold (filled p) (fold (come (Some e.0) p) o (last_writes e.1)) (last_writes e.1)) rest
          ∙ sym (node_at-applied (Some e.0) p (tree_from first t es) e.1 (order_of first order t es)))
      alike rest false = rest

      by : node_at (tree_from first s es) p ≡ node_at (tree_from first t es) p → AgreesAt s t p e
          → node_at (tree_from first s (e ∷ es)) p ≡ node_at (tree_from first t (e ∷ es)) p
      by rest (inl same) =
          ap (λ (b : Bool). node_at (cond b (applied (Some e.0) (tree_from first s es) e.1) (tree_from first s es)) p) same
          ∙ alike rest (t e.0)
      by rest (inr clear) = one s clear (s e.0) ∙ (rest ∙ sym (one t clear (t e.0)))

-- ---- what an edit writes at a path is marked

either_true : (a b : Bool) → (a || b) ≡ true → (a ≡ true) ⊎ (b ≡ true)
either_true true b h = inl refl
either_true false b h = inr h

second_true : (a b : Bool) → b ≡ true → (a || b) ≡ true
second_true true b h = refl
second_true false b h = h

first_true : (a b : Bool) → a ≡ true → (a || b) ≡ true
first_true true b h = refl
first_true false b h = absurd (false≢true h)

-- of the last writes one is at p only where one of the writes is
touched_last : (p : Path) (ws : List Write) → is_touched (last_writes ws) p ≡ true → is_touched ws p ≡ true
touched_last p [] h = h
touched_last p (w ∷ ws) h = by (touched_last p ws) (Rattle.std.specs.List.list_any (is_same_item w) ws) h
  where
    by : (is_touched (last_writes ws) p ≡ true → is_touched ws p ≡ true) → (b : Bool) → is_touched (cond b (last_writes ws) (w ∷ last_writes ws)) p ≡ true → is_touched (w ∷ ws) p ≡ true
    by rest true i = second_true (eq_by_cmp path_cmp p (item_of w).path) (is_touched ws p) (rest i)
    by rest false i =
        elim (either_true (eq_by_cmp path_cmp p (item_of w).path) (is_touched (last_writes ws) p) i) [
          | inl a ↦ first_true (eq_by_cmp path_cmp p (item_of w).path) (is_touched ws p) a
          | inr b ↦ second_true (eq_by_cmp path_cmp p (item_of w).path) (is_touched ws p) (rest b)
        ]

or_first : {X : Type 0} (a b : Option X) → is_some a ≡ true → is_some (option_or a b) ≡ true
or_first (Some x) b h = refl
or_first None b h = absurd (false≢true h)

or_second : {X : Type 0} (a b : Option X) → is_some b ≡ true → is_some (option_or a b) ≡ true
or_second (Some x) b h = refl
or_second None b h = h

-- an edit writes the node at p, or a property of it
abbrev WritesAt : Path → List Write → Type 0
WritesAt p ws = (is_some (written (here_of p) ws) ≡ true) ⊎ ((n : Name) × (is_some (written (put_of p n) ws) ≡ true))

name_itself : (n : Name) → eq_by_cmp name_cmp n n ≡ true
name_itself n = ap is_eq (tied_itself Rattle.std.proofs.lemmas.Cmp.nat_list_cmp_total n)

write_at : (p : Path) (w : Write) (ws : List Write) → eq_by_cmp path_cmp p (item_of w).path ≡ true → WritesAt p (w ∷ ws)
write_at p (Here q) ws h = inl (or_second (written (here_of p) ws) (here_of p (Here q)) (ap (λ (b : Bool). is_some (cond b (Some true) None)) h))
write_at p (Gone q) ws h = inl (or_second (written (here_of p) ws) (here_of p (Gone q)) (ap (λ (b : Bool). is_some (cond b (Some false) None)) h))
write_at p (Put q n x) ws h =
    inr (n, or_second (written (put_of p n) ws) (put_of p n (Put q n x)) (ap (λ (b : Bool). is_some (cond (b && eq_by_cmp name_cmp n n) (Some (Some x)) None)) h ∙ ap (λ (b : Bool). is_some (cond b (Some (Some x)) None)) (name_itself n)))
write_at p (Unset q n) ws h =
    inr (n, or_second (written (put_of p n) ws) (put_of p n (Unset q n)) (ap (λ (b : Bool). is_some {T = Option Property} (cond (b && eq_by_cmp name_cmp n n) (Some None) None)) h ∙ ap (λ (b : Bool). is_some {T = Option Property} (cond b (Some None) None)) (name_itself n)))

touched_writes : (p : Path) (ws : List Write) → is_touched ws p ≡ true → WritesAt p ws
touched_writes p [] h = absurd (false≢true h)
touched_writes p (w ∷ ws) h = by (touched_writes p ws) (either_true (eq_by_cmp path_cmp p (item_of w).path) (is_touched ws p) h)
  where
    by : (is_touched ws p ≡ true → WritesAt p ws) → (eq_by_cmp path_cmp p (item_of w).path ≡ true) ⊎ (is_touched ws p ≡ true) → WritesAt p (w ∷ ws)
    by rest (inl here) = write_at p w ws here
    by rest (inr there) = more (rest there)
      where
        more : WritesAt p ws → WritesAt p (w ∷ ws)
        more (inl a) = inl (or_first (written (here_of p) ws) (here_of p w) a)
        more (inr b) = inr (b.0, or_first (written (put_of p b.0) ws) (put_of p b.0 w) b.1)

-- a marked path is among those of the marks
marked_from : (p : Path) (ms : List MarkAt) (es : List (Path × Bool)) → (is_some (lookup (is_at (path_cmp p)) es) ≡ true) ⊎ ((m : MarkAt) × IsIn m ms × (m.path ≡ p))
    → is_some (lookup (is_at (path_cmp p)) (fold (λ es m. insert_entry path_cmp es m.path true) es ms)) ≡ true
marked_from p [] es (inl h) = h
marked_from p [] es (inr h) = absurd h.1
marked_from p (m ∷ ms) es h = marked_from p ms (insert_entry path_cmp es m.path true) (by h)
  where
    put : is_some (lookup (is_at (path_cmp p)) (insert_entry path_cmp es m.path true)) ≡ is_some (cond (eq_by_cmp path_cmp p m.path) (Some true) (lookup (is_at (path_cmp p)) es))
    put = ap (λ (o : Option Bool). is_some o) (lookup-insert_entry path_cmp path_total p m.path true es)

    stays : (b : Bool) → is_some (lookup (is_at (path_cmp p)) es) ≡ true → is_some (cond b (Some true) (lookup (is_at (path_cmp p)) es)) ≡ true
    stays true h = refl
    stays false h = h

    one : (k : MarkAt) → (m ≡ k) ⊎ IsIn k ms → k.path ≡ p → (is_some (lookup (is_at (path_cmp p)) (insert_entry path_cmp es m.path true)) ≡ true) ⊎ ((x : MarkAt) × IsIn x ms × (x.path ≡ p))
    one k (inl same) at =
        let path : eq_by_cmp path_cmp p m.path ≡ true = ap (eq_by_cmp path_cmp p) (ap (λ (x : MarkAt). x.path) same ∙ at) ∙ ap is_eq (tied_itself path_total p) in
        inl (put ∙ ap (λ (b : Bool). is_some (cond b (Some true) (lookup (is_at (path_cmp p)) es))) path)
    one k (inr rest) at = inr (k, rest, at)

    by : (is_some (lookup (is_at (path_cmp p)) es) ≡ true) ⊎ ((k : MarkAt) × IsIn k (m ∷ ms) × (k.path ≡ p)) → (is_some (lookup (is_at (path_cmp p)) (insert_entry path_cmp es m.path true)) ≡ true) ⊎ ((x : MarkAt) × IsIn x ms × (x.path ≡ p))
    by (inl there) = inl (put ∙ stays (eq_by_cmp path_cmp p m.path) there)
    by (inr k) = one k.0 k.1 k.2

marked : (p : Path) (m : MarkAt) (ms : List MarkAt) → IsIn m ms → m.path ≡ p → Contains (marked_paths ms) p
marked p m ms there at =
    Contains-keys_from_lookup {eq = λ x y. is_at (path_cmp x) y} (λ x y h. same_path x y h) p (fold (λ es m. insert_entry path_cmp es m.path true) [] ms) (marked_from p ms [] (inr (m, there, at)))

covered : (p : Path) (ms : List MarkAt) (ws : List Write) → Covers ms ws → is_touched (last_writes ws) p ≡ true → Contains (marked_paths ms) p
covered p ms ws covers h = by (touched_writes p ws (touched_last p ws h))
  where
    by : WritesAt p ws → Contains (marked_paths ms) p
    by (inl node) = marked p (record { path = p; mark = Exists }) ms (covers.node p node) refl
    by (inr prop) = marked p (record { path = p; mark = Prop prop.0 }) ms (covers.prop p prop.0 prop.1) refl

-- ---- the tree

module _ (start : Start) (past : Past) (k : ℕ) (old new : RevVec) (notes : List Note) (p : Path) (order : InOrder start.tree)
    (told : IsToldSince start past) (below : is_below old new ≡ true) (tells : TellsSince past k old new notes)
    (silent : (note : Note) → Contains notes note → note.path ≡ p → ⊥) where
  -- an edit that only the greater vector sees writes nothing at the path
  clear : (r : Revision) (ws : List Write) → edit_since past r ≡ Some ws → sees new r ≡ true → sees old r ≡ false
      → is_touched (last_writes ws) p ≡ false
  clear r ws edit seen unseen =
      false_from_ne_true (is_touched (last_writes ws) p)
      (λ h. silent (record { path = p; revision = r }) ((tells r seen unseen).1 p (there h)) refl)
    where
      drawn : (d : Draw) × (draw_of past r ≡ Some d) × (d.edit.writes ≡ ws)
      drawn = told.edits r ws edit

      there : is_touched (last_writes ws) p ≡ true → Contains (marked_paths (marks_of past r)) p
      there h =
          subst (λ (o : Option Draw). Contains (marked_paths (option_map_or (λ d. d.marks) o [])) p) (sym drawn.1)
          (covered p (drawn.0).marks ws
          (subst (λ (us : List Write). Covers (drawn.0).marks us) drawn.2 (told.draws r drawn.0 drawn.1).covers) h)

  agrees : (r : Revision) (ws : List Write) → edit_since past r ≡ Some ws → AgreesAt (sees new) (sees old) p (r, ws)
  agrees r ws edit = by (sees new r) (sees old r) refl refl
    where
      by : (a b : Bool) → sees new r ≡ a → sees old r ≡ b → AgreesAt (sees new) (sees old) p (r, ws)
      by true true a b = inl (a ∙ sym b)
      by false false a b = inl (a ∙ sym b)
      by true false a b = inr (clear r ws edit a b)
      by false true a b = absurd (both_ways (sees new r) a (below_seen old new r below b))

  pub untold : node_at (tree_at (Some start) past new) p ≡ node_at (tree_at (Some start) past old) p
  untold =
      ap (λ (t : Nodes). node_at t p) (sym (tree_onto start.tree (sees new) [] (committed_edits past)))
      ∙ (same_at start.tree order (sees new) (sees old) p (falling_from past) (each_edit past (AgreesAt (sees new) (sees old) p) agrees)
      ∙ ap (λ (t : Nodes). node_at t p) (tree_onto start.tree (sees old) [] (committed_edits past)))

-- from each beginning
pub untold_in : (clusters : ℕ) (begin : Begin) (past : Past) (k : ℕ) (old new : RevVec) (notes : List Note) (p : Path)
    → IsBegun clusters begin → IsToldSince (start_in clusters begin) past → is_below old new ≡ true
    → TellsSince past k old new notes → ((note : Note) → Contains notes note → note.path ≡ p → ⊥)
    → node_at (tree_at begin past new) p ≡ node_at (tree_at begin past old) p
untold_in clusters None past k old new notes p begun told below tells silent =
    untold (start_in clusters None) past k old new notes p refl told below tells silent
untold_in clusters (Some s) past k old new notes p begun told below tells silent =
    untold (start_in clusters (Some s)) past k old new notes p begun.tree.paths told below tells silent
