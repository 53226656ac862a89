-- Entries go to previous documents, documents of absent nodes go, and previous documents come and go that nobody lists.
use Rattle.std.proofs.Common.{◌≡◌, inl, inr, ℕ, take, Bool, true, false, Some, None, Option, List, [], ◌∷◌, ◌++◌, refl, sym, ap, ◌∙◌, subst, is_some}
use Rattle.std.specs.Option.{option_and_then, option_map_or, option_map, option_or, unwrap_or}
use Rattle.std.specs.Ordering.{eq_by_cmp}
use Rattle.std.specs.List.{filter, filter_map, cons_option}
use mathlib.Core.Bool.{false≢true}
use Rattle.jr_path.specs.Names.{path_cmp}
use Rattle.jr_path.specs.declared.name.Name.{Name}
use Rattle.jr_path.specs.declared.path.Path.{Path}
use Rattle.jr_path.specs.declared.path.DocId.TheVariants as id
use Rattle.jr_value.specs.declared.value.Property.{Property}
use Rattle.jr_rev.specs.declared.revision.Revision.{Revision}
use Rattle.jr_rev.specs.Revisions.{is_before}
use Rattle.jr_tree.specs.declared.edit.Write.{Write}
use Rattle.jr_tree.specs.declared.tree.Node.{Node}
use Rattle.jr_tree.specs.Trees.{Nodes, born_at, node_at, property_at}
use Rattle.jr_tree.specs.Items.{put_of, written}
use Rattle.jr_tree.proofs.Pointwise.{same_path}
use Rattle.oak_doc.specs.declared.document.Document.{Document}
use Rattle.oak_doc.specs.declared.document.PrevEntry.{PrevEntry}
use Rattle.oak_doc.specs.Updates.{of_revision, values_of_property}
use Rattle.oak_read.specs.Meaning.{Documents, commit_root_of, main_of, path_of, latest}
use Rattle.oak_read.specs.Shown.{with_previous}
use Rattle.core_read.specs.Commits.{last_entry}
use Rattle.core_read.specs.Holds.{has_revision, root_entry}
use Rattle.core_read.specs.Told.{IsIn}
use Rattle.core_read.proofs.Steps.{same_root}
use Rattle.core_read.proofs.Latest.{before_itself}
use Rattle.core_keep.specs.Standing.{all_at, gone_of, gone_in, values_in, shows_node, shows_value, HasEntryOf}
use Rattle.core_keep.specs.Keeps.{Course, edit_in, is_done, Matches, Keeps, KeepsAt, KeepsItem, KeepsNode, KeepsValue, IsCourse, IsDownward, IsPrevious, Shows}
use Rattle.core_keep.specs.Steps.{IsChangeAt, IsMainAt, IsMoved, IsUnwanted, IsPreviousAt, IsUnlisted}
use Rattle.core_keep.proofs.Item.{is_none, some_of, either_true}
use Rattle.core_keep.proofs.ItemSteps.{item_besides, same_latest}
use Rattle.core_keep.proofs.Named.{previous_in}
use Rattle.core_keep.proofs.Found.{found_append}
use Rattle.core_keep.proofs.Shown.{shown}
use Rattle.core_keep.proofs.AtPath.{listed, gone_split, same_listed, still_said, step_keeps, same_keeps, plain_listed, value_from}
use Rattle.core_keep.proofs.Main.{all_now, at_each}

-- the same entries
same_item : {X Y : Type 0} (f : Write → Option X) (show : Revision × X → Option Y) (begun : Option Y) (c : Course) (es left : List (Revision × X)) → KeepsItem f show begun c es → ((q : Revision) → of_revision left q ≡ of_revision es q) → KeepsItem f show begun c left
same_item f show begun c es left keeps same = item_besides f show begun c es left keeps (λ q. false) (λ q h. absurd (false≢true h)) (λ q h. same q)

or_assoc : {X : Type 0} (a b d : Option X) → option_or a (option_or b d) ≡ option_or (option_or a b) d
or_assoc None b d = refl
or_assoc (Some x) b d = refl

value_of : (o : Option Document) (x y : Document) → o ≡ Some x → o ≡ Some y → x ≡ y
value_of o x y h k = ap (λ o. unwrap_or o x) (sym h ∙ k)

-- ---- the document drops what went to a previous document, and lists it

module _ (ds now : Documents) (c : Course) (keeps : Keeps ds c) (p : Path) (old d : Document) (e : PrevEntry) (x : Document) (is : ds (id.Node p) ≡ Some old) (there : ds (id.Prev e.number p) ≡ Some x) (main : IsMainAt ds now p d) (moved : IsMoved c p old d e x) where
  at : KeepsAt ds c p
  at = keeps p

  all_was : all_at ds p ≡ old ∷ listed ds p (Some old)
  all_was = ap (λ o. option_map_or (with_previous ds p) o []) is

  all_is : all_at now p ≡ d ∷ x ∷ listed ds p (Some old)
  all_is =
      all_now ds now p d main
      ∙ (ap (λ es. d ∷ filter_map (λ e. now (id.Prev e.number p)) es) moved.prev
      ∙ (ap (λ o. d ∷ cons_option o (filter_map (λ e. now (id.Prev e.number p)) old.prev)) (main.previous_here e.number ∙ there)
      ∙ ap (λ l. d ∷ x ∷ l) (same_listed (λ e. now (id.Prev e.number p)) (λ e. ds (id.Prev e.number p)) old.prev (λ f i. main.previous_here f.number))))

  gone_is : (q : Revision) → of_revision (gone_in (all_at now p)) q ≡ of_revision (gone_in (all_at ds p)) q
  gone_is q =
      ap (λ l. of_revision (gone_in l) q) all_is
      ∙ (ap (λ (es : List (Revision × Bool)). of_revision (es ++ (x.deleted ++ gone_in (listed ds p (Some old)))) q) moved.deleted
      ∙ (ap (λ (es : List (Revision × Bool)). of_revision (old.deleted ++ (es ++ gone_in (listed ds p (Some old)))) q) moved.listed.plain
      ∙ sym (ap (λ l. of_revision (gone_in l) q) all_was)))

  pub value_was : (n : Name) (q : Revision) → of_revision (values_in n (all_at ds p)) q ≡ option_or (of_revision (values_of_property old.props n) q) (of_revision (values_in n (listed ds p (Some old))) q)
  value_was n q = ap (λ l. of_revision (values_in n l) q) all_was ∙ found_append (values_of_property old.props n) (values_in n (listed ds p (Some old))) q

  pub value_is : (n : Name) (q : Revision) → of_revision (values_in n (all_at now p)) q ≡ of_revision (values_in n (all_at ds p)) q
  value_is n q =
      let rest : List (Revision × Option Property) = values_in n (listed ds p (Some old)) in
      ap (λ l. of_revision (values_in n l) q) all_is
      ∙ (found_append (values_of_property d.props n) (values_of_property x.props n ++ rest) q
      ∙ (ap (option_or (of_revision (values_of_property d.props n) q)) (found_append (values_of_property x.props n) rest q)
      ∙ (or_assoc (of_revision (values_of_property d.props n) q) (of_revision (values_of_property x.props n) q) (of_revision rest q)
      ∙ (ap (λ o. option_or o (of_revision rest q)) (moved.props n q)
      ∙ sym (ap (λ l. of_revision (values_in n l) q) all_was ∙ found_append (values_of_property old.props n) rest q)))))

  pub said : (y : Path) (r : Revision) (ws : List Write) → edit_in c r ≡ Some ws → c.swept r ≡ false → has_revision (ds (id.Node y)) r ≡ true → has_revision (now (id.Node y)) r ≡ true
  said y r ws e s = by y
    where
      by : (y : Path) → has_revision (ds (id.Node y)) r ≡ true → has_revision (now (id.Node y)) r ≡ true
      by = at_each ds now p d main (λ y o. has_revision (ds (id.Node y)) r ≡ true → has_revision o r ≡ true) (λ h. ap (λ es. is_some (of_revision es r)) moved.revisions ∙ (sym (ap (λ o. has_revision o r) is) ∙ h)) (λ y k h. h)

  pub old_in : IsIn old (all_at ds p)
  old_in = subst (λ l. IsIn old l) (sym all_was) (inl refl)

  -- what moved stood in the document
  pub moved_was : (n : Name) (r : Revision) → is_some (of_revision (values_of_property x.props n) r) ≡ true → is_some (of_revision (values_of_property old.props n) r) ≡ true
  moved_was n r h = sym (ap is_some (moved.props n r)) ∙ by (of_revision (values_of_property d.props n) r)
    where
      by : (o : Option (Option Property)) → is_some (option_or o (of_revision (values_of_property x.props n) r)) ≡ true
      by None = h
      by (Some v) = refl

  -- what stayed too
  pub stayed_was : (n : Name) (r : Revision) → is_some (of_revision (values_of_property d.props n) r) ≡ true → is_some (of_revision (values_of_property old.props n) r) ≡ true
  stayed_was n r h = sym (ap is_some (moved.props n r)) ∙ by (of_revision (values_of_property d.props n) r) h
    where
      by : (o : Option (Option Property)) → is_some o ≡ true → is_some (option_or o (of_revision (values_of_property x.props n) r)) ≡ true
      by None h = absurd (false≢true h)
      by (Some v) h = refl

  pub same_place : (o u : Option ℕ) → o ≡ u → (a b : Document) → main_of a.id ≡ main_of b.id → path_of a.id ≡ path_of b.id → option_map_or (λ depth. id.Node (take depth (path_of a.id))) o (main_of a.id) ≡ option_map_or (λ depth. id.Node (take depth (path_of b.id))) u (main_of b.id)
  same_place o None h a b m k = ap (λ o. option_map_or (λ depth. id.Node (take depth (path_of a.id))) o (main_of a.id)) h ∙ m
  same_place o (Some depth) h a b m k = ap (λ o. option_map_or (λ depth. id.Node (take depth (path_of a.id))) o (main_of a.id)) h ∙ ap (λ (q : Path). id.Node (take depth q)) k

  rooted : (y : Document) → IsIn y (d ∷ x ∷ listed ds p (Some old)) → (r : Revision) (ws : List Write) → edit_in c r ≡ Some ws → c.swept r ≡ false → HasEntryOf r y → has_revision (now (commit_root_of y r)) r ≡ true
  rooted y (inr (inr i)) r ws e s entry =
      let j : IsIn y (all_at ds p) = subst (λ l. IsIn y l) (sym all_was) (inr i) in
      still_said ds now c keeps said p y j r ws e s _ refl (at.rooted y j r ws e s entry)
  rooted y (inl one) r ws e s entry =
      let root : commit_root_of d r ≡ commit_root_of old r = same_root old d p r (at.named old is) moved.named (ap (λ (es : List (Revision × ℕ)). of_revision es r) moved.roots) in
      subst (λ (y : Document). has_revision (now (commit_root_of y r)) r ≡ true) one
      (ap (λ i. has_revision (now i) r) root ∙ still_said ds now c keeps said p old old_in r ws e s _ refl (at.rooted old old_in r ws e s (by (subst (λ (y : Document). HasEntryOf r y) (sym one) entry))))
    where
      by : HasEntryOf r d → HasEntryOf r old
      by (inl h) = inl (sym (ap (λ (es : List (Revision × Bool)). is_some (of_revision es r)) moved.deleted) ∙ h)
      by (inr h) = inr (h.0, stayed_was h.0 r h.1)
  rooted y (inr (inl one)) r ws e s entry = subst (λ (y : Document). has_revision (now (commit_root_of y r)) r ≡ true) one (by (subst (λ (y : Document). HasEntryOf r y) (sym one) entry))
    where
      by : HasEntryOf r x → has_revision (now (commit_root_of x r)) r ≡ true
      by (inl h) = absurd (false≢true (ap (λ (es : List (Revision × Bool)). is_some (of_revision es r)) (sym moved.listed.plain) ∙ h))
      by (inr h) =
          let root : commit_root_of x r ≡ commit_root_of old r = same_place _ _ (moved.noted h.0 r h.1) x old (ap main_of moved.listed.named ∙ sym (ap main_of (at.named old is))) (ap path_of moved.listed.named ∙ sym (ap path_of (at.named old is))) in
          ap (λ i. has_revision (now i) r) root ∙ still_said ds now c keeps said p old old_in r ws e s _ refl (at.rooted old old_in r ws e s (inr (h.0, moved_was h.0 r h.1)))

  previous : (f : PrevEntry) → IsIn f d.prev → (y : Document) → now (id.Prev f.number p) ≡ Some y → IsPrevious c p d f.number y
  previous f i y stands = by (subst (λ l. IsIn f l) moved.prev i)
    where
      by : IsIn f (e ∷ old.prev) → IsPrevious c p d f.number y
      by (inl one) =
          let same : x ≡ y = value_of (ds (id.Prev f.number p)) x y (ap (λ (g : PrevEntry). ds (id.Prev g.number p)) (sym one) ∙ there) (sym (main.previous_here f.number) ∙ stands) in
          subst (λ (f : PrevEntry). IsPrevious c p d f.number y) one (subst (λ (z : Document). IsPrevious c p d e.number z) same moved.listed)
      by (inr j) =
          let g = at.previous old is f j y (sym (main.previous_here f.number) ∙ stands) in
          record {
            named = g.named;
            plain = g.plain;
            done = g.done;
            genuine = g.genuine;
            behind = λ n r h. let k = g.behind n r h in later n r k.0 k.1 k.2 k.3 (of_revision (values_of_property d.props n) k.0) refl;
          }
        where
          later : (n : Name) (r q : Revision) → is_before r q ≡ true → is_done c q ≡ true → is_some (of_revision (values_of_property old.props n) q) ≡ true → (o : Option (Option Property)) → of_revision (values_of_property d.props n) q ≡ o
              → (z : Revision) × (is_before r z ≡ true) × (is_done c z ≡ true) × (is_some (of_revision (values_of_property d.props n) z) ≡ true)
          later n r q before done h (Some v) k = (q, before, done, ap is_some k)
          later n r q before done h None k = further (of_revision (values_of_property x.props n) q) refl
            where
              further : (o : Option (Option Property)) → of_revision (values_of_property x.props n) q ≡ o → (z : Revision) × (is_before r z ≡ true) × (is_done c z ≡ true) × (is_some (of_revision (values_of_property d.props n) z) ≡ true)
              further None m = absurd (false≢true (sym (ap is_some (sym (moved.props n q) ∙ (ap (λ o. option_or o (of_revision (values_of_property x.props n) q)) k ∙ m))) ∙ h))
              further (Some v) m = let g = moved.listed.behind n q (ap is_some m) in (g.0, Rattle.core_keep.proofs.Pruned.before_trans r q g.0 before g.1, g.2, g.3)

  here : KeepsAt now c p
  here = record {
    node = same_item (gone_of p) shows_node (born_at c.tree p) c _ _ at.node gone_is;
    prop = λ n. same_item (put_of p n) shows_value (property_at c.tree p n) c _ _ (at.prop n) (value_is n);
    rooted = λ y i. rooted y (subst (λ l. IsIn y l) all_is i);
    unsaid = λ r e o. ap (λ o. has_revision o r) main.at ∙ (ap (λ es. is_some (of_revision es r)) moved.revisions ∙ (sym (ap (λ o. has_revision o r) is) ∙ at.unsaid r e o));
    no_root = λ r e o f. ap (λ o. root_entry o r) main.at ∙ (ap (λ (es : List (Revision × ℕ)). of_revision es r) moved.roots ∙ (sym (ap (λ o. root_entry o r) is) ∙ at.no_root r e o f));
    named = λ y h. ap (λ (y : Document). y.id) (value_of _ y d h main.at) ∙ moved.named;
    previous = λ y h. subst (λ (y : Document). (f : PrevEntry) → IsIn f y.prev → (z : Document) → now (id.Prev f.number p) ≡ Some z → IsPrevious c p y f.number z) (value_of _ d y main.at h) previous;
  }

  pub moved_keeps : Keeps now c
  moved_keeps = step_keeps ds now c keeps said p main.elsewhere here

-- ---- a previous document that isn't listed comes or goes

module _ (ds now : Documents) (c : Course) (keeps : Keeps ds c) (p : Path) (k : ℕ) (change : IsPreviousAt ds now p k) (unlisted : IsUnlisted ds p k) where
  pub previous_keeps : Keeps now c
  previous_keeps q = same_keeps ds now c keeps (λ x r ws e s h. ap (λ o. has_revision o r) (change.node x) ∙ h) q (change.node q) (λ d e h i. by d e h i (eq_by_cmp path_cmp q p) refl)
    where
      by : (d : Document) (e : PrevEntry) → ds (id.Node q) ≡ Some d → IsIn e d.prev → (b : Bool) → eq_by_cmp path_cmp q p ≡ b → now (id.Prev e.number q) ≡ ds (id.Prev e.number q)
      by d e h i false m = change.elsewhere e.number q m
      by d e h i true m =
          let one : q ≡ p = same_path q p m in
          subst (λ (x : Path). now (id.Prev e.number x) ≡ ds (id.Prev e.number x)) (sym one) (change.other e.number (λ n. unlisted d (ap (λ (x : Path). ds (id.Node x)) (sym one) ∙ h) e i n))

-- documents of no node change
pub others_keep : (ds now : Documents) (c : Course) → Keeps ds c → ((q : Path) → now (id.Node q) ≡ ds (id.Node q)) → ((k : ℕ) (q : Path) → now (id.Prev k q) ≡ ds (id.Prev k q)) → Keeps now c
others_keep ds now c keeps node previous q = same_keeps ds now c keeps (λ x r ws e s h. ap (λ o. has_revision o r) (node x) ∙ h) q (node q) (λ d e h i. previous e.number q)

-- ---- the document of an absent node goes

module _ (ds now : Documents) (c : Course) (keeps : Keeps ds c) (course : IsCourse c) (down : IsDownward c c.bound) (tree : Nodes) (shows : Shows c c.bound tree)
    (p : Path) (old : Document) (is : ds (id.Node p) ≡ Some old) (elsewhere : IsChangeAt ds now p) (gone : now (id.Node p) ≡ None) (unwanted : IsUnwanted c p old) where
  at_old : KeepsAt ds c p
  at_old = keeps p

  was_all : all_at ds p ≡ old ∷ listed ds p (Some old)
  was_all = ap (λ o. option_map_or (with_previous ds p) o []) is

  no_all : all_at now p ≡ []
  no_all = ap (λ o. option_map_or (with_previous now p) o []) gone

  no_previous : gone_in (listed ds p (Some old)) ≡ []
  no_previous = plain_listed ds c p old (λ e i x h. (at_old.previous old is e i x h).plain)

  or_none : {X : Type 0} (o : Option X) → option_or o None ≡ o
  or_none None = refl
  or_none (Some x) = refl

  gone_main : (q : Revision) → of_revision (gone_in (all_at ds p)) q ≡ of_revision old.deleted q
  gone_main q = ap (λ l. of_revision (gone_in l) q) was_all ∙ (gone_split ds p (Some old) q ∙ (ap (λ l. option_or (of_revision old.deleted q) (of_revision l q)) no_previous ∙ or_none (of_revision old.deleted q)))

  no_gone : (q : Revision) → c.bound q ≡ false → of_revision (gone_in (all_at ds p)) q ≡ None
  no_gone q b = is_none _ (λ x h. false≢true (sym b ∙ unwanted.entries q (inl (ap is_some (sym (gone_main q) ∙ h)))))

  -- the node is absent
  node_absent : option_and_then shows_node (latest (filter (λ e. c.bound e.0) (gone_in (all_at ds p)))) ≡ None
  node_absent = ap (option_and_then shows_node) (same_latest c.bound old.deleted (gone_in (all_at ds p)) (λ q b. gone_main q)) ∙ unwanted.absent

  no_node : node_at tree p ≡ None
  no_node = by (node_at tree p) (shows.dated p ∙ ap is_some (shows.node p ∙ (sym (shown shows_node (born_at c.tree p) _ _ at_old.node.last) ∙ node_absent)))
    where
      by : (o : Option Node) → is_some o ≡ false → o ≡ None
      by None h = refl
      by (Some n) h = absurd (false≢true (sym h))

  value_absent : (n : Name) → option_and_then shows_value (latest (filter (λ e. c.bound e.0) (values_in n (all_at ds p)))) ≡ None
  value_absent n = shown shows_value (property_at c.tree p n) _ _ (at_old.prop n).last ∙ (sym (shows.prop p n) ∙ ap (λ (o : Option Node). option_and_then (λ node. Rattle.std.specs.Map.lookup (Rattle.std.specs.BTreeMap.is_at (Rattle.jr_path.specs.Names.name_cmp n)) node.props) o) no_node)

  -- a value that no bound sees stands nowhere
  no_value : (n : Name) (q : Revision) (ws : List Write) → edit_in c q ≡ Some ws → c.bound q ≡ false → of_revision (values_in n (all_at ds p)) q ≡ None
  no_value n q ws e b = is_none _ (λ v h. impossible v h)
    where
      written_there : (v : Option Property) → of_revision (values_in n (all_at ds p)) q ≡ Some v → is_some (written (put_of p n) ws) ≡ true
      written_there v h = ap is_some ((at_old.prop n).genuine q ws v e h)

      in_main : (r : Revision) → is_some (of_revision (values_of_property old.props n) r) ≡ true → is_some (of_revision (values_in n (all_at ds p)) r) ≡ true
      in_main r h = Rattle.core_keep.proofs.Found.among (λ d. values_of_property d.props n) (all_at ds p) old (subst (λ l. IsIn old l) (sym was_all) (inl refl)) r h

      later : (v : Option Property) → of_revision (values_in n (all_at ds p)) q ≡ Some v → (r : Revision) → is_before q r ≡ true → is_done c r ≡ true → is_some (of_revision (values_of_property old.props n) r) ≡ true → (o : Option (List Write)) → edit_in c r ≡ o → ⊥
      later v h r before done stands (Some us) f =
          let w = some_of (of_revision (values_in n (all_at ds p)) r) (in_main r stands) in
          false≢true (sym b ∙ down.prop p n r q us ws f e (ap is_some ((at_old.prop n).genuine r us w.0 f w.1)) (written_there v h) before (unwanted.entries r (inr (n, stands))))
      later v h r before done stands None f = elim (either_true (is_some (edit_in c r)) (c.old r) done) [
        | inl k ↦ false≢true (ap is_some (sym f) ∙ k)
        | inr k ↦ false≢true (sym (before_itself q) ∙ Rattle.core_keep.proofs.Pruned.before_trans q r q before (course.old_first r q ws k e))
      ]

      impossible : (v : Option Property) → of_revision (values_in n (all_at ds p)) q ≡ Some v → ⊥
      impossible v h =
          let f = value_from n (old ∷ listed ds p (Some old)) q v (sym (ap (λ l. of_revision (values_in n l) q) was_all) ∙ h) in
          by f.0 f.1 (ap is_some f.2)
        where
          by : (x : Document) → IsIn x (old ∷ listed ds p (Some old)) → is_some (of_revision (values_of_property x.props n) q) ≡ true → ⊥
          by x (inl one) k = false≢true (sym b ∙ unwanted.entries q (inr (n, ap (λ (y : Document). is_some (of_revision (values_of_property y.props n) q)) one ∙ k)))
          by x (inr i) k =
              let g = previous_in ds p old.prev x i in
              let z = (at_old.previous old is g.0 g.1 x g.2).behind n q k in
              later v h z.0 z.1 z.2 z.3 (edit_in c z.0) refl

  -- nothing stands there, and nothing has to
  emptied : {X Y : Type 0} (f : Write → Option X) (show : Revision × X → Option Y) (begun : Option Y) (es : List (Revision × X)) → KeepsItem f show begun c es
      → ((q : Revision) (ws : List Write) → edit_in c q ≡ Some ws → c.bound q ≡ false → of_revision es q ≡ None) → option_and_then show (latest (filter (λ e. c.bound e.0) es)) ≡ None → KeepsItem f show begun c []
  emptied {X} {Y} f show begun es kept none shows_none = record {
    exact = λ q ws e b. sym (none q ws e b) ∙ kept.exact q ws e b;
    genuine = λ r ws x e h. absurd (false≢true (ap is_some h));
    none_else = λ r e o f. refl;
    last = by (last_entry f c.bound c.commits) kept.last;
  }
    where
      by : (j : Option (Revision × X)) → Matches show begun j (latest (filter (λ e. c.bound e.0) es)) → Matches show begun j None
      by None m = sym shows_none ∙ m
      by (Some e) (inl h) = inr (ap (option_and_then show) (sym h) ∙ shows_none, refl)
      by (Some e) (inr h) = inr (h.0, refl)

  pub said_still : (y : Path) (r : Revision) (ws : List Write) → edit_in c r ≡ Some ws → c.swept r ≡ false → has_revision (ds (id.Node y)) r ≡ true → has_revision (now (id.Node y)) r ≡ true
  said_still y r ws e s h = by (eq_by_cmp path_cmp y p) refl
    where
      by : (b : Bool) → eq_by_cmp path_cmp y p ≡ b → has_revision (now (id.Node y)) r ≡ true
      by false k = ap (λ o. has_revision o r) (elsewhere.node y k) ∙ h
      by true k = absurd (false≢true (sym s ∙ unwanted.statuses r (sym (ap (λ o. has_revision o r) (ap (λ (x : Path). ds (id.Node x)) (same_path y p k) ∙ is)) ∙ h)))

  absent_here : KeepsAt now c p
  absent_here = record {
    node = subst (λ l. KeepsNode c p (gone_in l)) (sym no_all) (emptied (gone_of p) shows_node (born_at c.tree p) _ at_old.node (λ q ws e b. no_gone q b) node_absent);
    prop = λ n. subst (λ l. KeepsValue c p n (values_in n l)) (sym no_all) (emptied (put_of p n) shows_value (property_at c.tree p n) _ (at_old.prop n) (no_value n) (value_absent n));
    rooted = λ x i. absurd (subst (λ l. IsIn x l) no_all i);
    unsaid = λ r e o. ap (λ o. has_revision o r) gone;
    no_root = λ r e o f. ap (λ o. root_entry o r) gone;
    named = λ x h. absurd (false≢true (ap is_some (sym gone ∙ h)));
    previous = λ x h. absurd (false≢true (ap is_some (sym gone ∙ h)));
  }

  pub removed_keeps : Keeps now c
  removed_keeps = step_keeps ds now c keeps said_still p elsewhere absent_here
