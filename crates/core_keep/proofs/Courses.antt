-- What the journal tells goes on: draws, ends, bounds and commits.
use Rattle.std.proofs.Common.{◌≡◌, Bool, true, false, not, ◌||◌, Some, None, Option, List, [], ◌∷◌, refl, sym, ap, ◌∙◌, subst, is_some}
use Rattle.std.specs.Option.{option_map_or, option_map, option_or, unwrap_or}
use Rattle.std.specs.Ordering.{eq_by_cmp}
use mathlib.Core.Bool.{false≢true}
use Rattle.jr_path.specs.declared.name.Name.{Name}
use Rattle.jr_path.specs.declared.path.Path.{Path}
use Rattle.jr_path.specs.declared.path.DocId.TheVariants as id
use Rattle.jr_value.specs.declared.value.Property.{Property}
use Rattle.jr_rev.specs.declared.revision.Revision.{Revision}
use Rattle.jr_rev.specs.Revisions.{revision_cmp}
use Rattle.jr_tree.specs.declared.edit.Write.{Write}
use Rattle.jr_tree.specs.Trees.{born_at, property_at}
use Rattle.jr_tree.specs.Items.{here_of, put_of, written}
use Rattle.oak_doc.specs.declared.document.Document.{Document}
use Rattle.oak_doc.specs.Updates.{of_revision, values_of_property}
use Rattle.oak_read.specs.Meaning.{Documents, commit_root_of}
use Rattle.oak_read.specs.Shown.{with_previous}
use Rattle.core_read.specs.Commits.{Commits, Sight, Fall}
use Rattle.core_read.specs.Holds.{has_revision, here_entry, prop_entry, root_entry, IsUndone}
use Rattle.core_read.specs.Told.{IsIn}
use Rattle.core_read.proofs.Latest.{same_revision}
use Rattle.core_keep.specs.Standing.{all_at, gone_of, gone_in, values_in, shows_node, shows_value, HasEntryOf}
use Rattle.core_keep.specs.Keeps.{Course, edit_in, is_done, Keeps, KeepsAt, IsCourse, IsDownward}
use Rattle.core_keep.proofs.Item.{is_none, not_true}
use Rattle.core_keep.proofs.ItemSteps.{item_flying, item_commit, item_bound}
use Rattle.core_keep.proofs.Named.{previous_in}
use Rattle.core_keep.proofs.AtPath.{gone_entry, listed, gone_split, value_split, plain_listed, value_from}

-- nothing of q stands at a path
pub record IsClean (ds : Documents) (p : Path) (q : Revision) : Type 0 where
  pub gone : of_revision (gone_in (all_at ds p)) q ≡ None
  pub value : (n : Name) → of_revision (values_in n (all_at ds p)) q ≡ None
  pub root : root_entry (ds (id.Node p)) q ≡ None

-- ---- what previous documents have

module _ (ds : Documents) (c : Course) (p : Path) (at : KeepsAt ds c p) where
  all_is : (o : Option Document) → ds (id.Node p) ≡ o → all_at ds p ≡ option_map_or (with_previous ds p) o []
  all_is o e = ap (λ o. option_map_or (with_previous ds p) o []) e

  -- they have nothing of what isn't done
  pub nothing_listed : (q : Revision) → is_done c q ≡ false → (n : Name) → of_revision (values_in n (listed ds p (ds (id.Node p)))) q ≡ None
  nothing_listed q open_ n = is_none _ (λ v h. by v (ds (id.Node p)) refl h)
    where
      by : (v : Option Property) → (o : Option Document) → ds (id.Node p) ≡ o → of_revision (values_in n (listed ds p o)) q ≡ Some v → ⊥
      by v None e h = false≢true (ap is_some h)
      by v (Some d) e h =
          let f = value_from n (listed ds p (Some d)) q v h in
          let g = previous_in ds p d.prev f.0 f.1 in
          false≢true (sym open_ ∙ (at.previous d e g.0 g.1 f.0 g.2).done n q (ap is_some f.2))

  pub no_gone_listed : gone_in (listed ds p (ds (id.Node p))) ≡ []
  no_gone_listed = by (ds (id.Node p)) refl
    where
      by : (o : Option Document) → ds (id.Node p) ≡ o → gone_in (listed ds p o) ≡ []
      by None e = refl
      by (Some d) e = plain_listed ds c p d (λ f i x h. (at.previous d e f i x h).plain)

  or_none : {X : Type 0} (o : Option X) → option_or o None ≡ o
  or_none None = refl
  or_none (Some x) = refl

  -- so of what isn't done just the node's document tells
  pub gone_main : (q : Revision) → of_revision (gone_in (all_at ds p)) q ≡ gone_entry (ds (id.Node p)) q
  gone_main q = gone_split ds p (ds (id.Node p)) q ∙ (ap (λ l. option_or (gone_entry (ds (id.Node p)) q) (of_revision l q)) no_gone_listed ∙ or_none (gone_entry (ds (id.Node p)) q))

  pub value_main : (q : Revision) → is_done c q ≡ false → (n : Name) → of_revision (values_in n (all_at ds p)) q ≡ prop_entry (ds (id.Node p)) n q
  value_main q open_ n = value_split ds p (ds (id.Node p)) n q ∙ (ap (option_or (prop_entry (ds (id.Node p)) n q)) (nothing_listed q open_ n) ∙ or_none (prop_entry (ds (id.Node p)) n q))

  not_maps : (o : Option Document) (q : Revision) → here_entry o q ≡ None → gone_entry o q ≡ None
  not_maps None q h = refl
  not_maps (Some d) q h = by (of_revision d.deleted q) h
    where
      by : (o : Option Bool) → option_map not o ≡ None → o ≡ None
      by None h = refl
      by (Some b) h = absurd (false≢true (sym (ap is_some h)))

  -- what is undone has left nothing
  pub clean_undone : (q : Revision) → is_done c q ≡ false → IsUndone ds q → IsClean ds p q
  clean_undone q open_ undone = record {
    gone = gone_main q ∙ not_maps (ds (id.Node p)) q (undone.node p);
    value = λ n. value_main q open_ n ∙ undone.prop p n;
    root = undone.root p;
  }

  pub clean_else : (q : Revision) → edit_in c q ≡ None → c.old q ≡ false → c.flying q ≡ false → IsClean ds p q
  clean_else q e o f = record { gone = at.node.none_else q e o f; value = λ n. (at.prop n).none_else q e o f; root = at.no_root q e o f }

-- ---- others are in flight

pub flying_keeps : (ds : Documents) (c : Course) → Keeps ds c → (flying : Sight) → ((p : Path) (q : Revision) → edit_in c q ≡ None → c.old q ≡ false → flying q ≡ false → IsClean ds p q) → Keeps ds (record c { flying = flying })
flying_keeps ds c keeps flying clean p =
    let at : KeepsAt ds c p = keeps p in
    record {
      node = item_flying (gone_of p) shows_node (born_at c.tree p) c _ at.node flying (λ q e o f. (clean p q e o f).gone);
      prop = λ n. item_flying (put_of p n) shows_value (property_at c.tree p n) c _ (at.prop n) flying (λ q e o f. (clean p q e o f).value n);
      rooted = at.rooted;
      unsaid = at.unsaid;
      no_root = λ q e o f. (clean p q e o f).root;
      named = at.named;
      previous = λ d h e i x there. let k = at.previous d h e i x there in record { named = k.named; plain = k.plain; done = k.done; genuine = k.genuine; behind = k.behind };
    }

-- ---- bounds rise

pub bound_keeps : (ds : Documents) (c : Course) → Keeps ds c → IsCourse c → (bound swept : Sight) → ((r : Revision) → c.bound r ≡ true → bound r ≡ true) → ((r : Revision) → c.swept r ≡ true → swept r ≡ true)
    → ((r : Revision) → c.flying r ≡ true → edit_in c r ≡ None → bound r ≡ false) → IsDownward c c.bound → Keeps ds (record c { bound = bound; swept = swept })
bound_keeps ds c keeps course bound swept wider more calm down p =
    let at : KeepsAt ds c p = keeps p in
    record {
      node = item_bound (gone_of p) shows_node (born_at c.tree p) c _ at.node course bound swept wider calm (down.node p);
      prop = λ n. item_bound (put_of p n) shows_value (property_at c.tree p n) c _ (at.prop n) course bound swept wider calm (down.prop p n);
      rooted = λ x i r ws e s entry. at.rooted x i r ws e (not_true (c.swept r) (λ h. false≢true (sym s ∙ more r h))) entry;
      unsaid = at.unsaid;
      no_root = at.no_root;
      named = at.named;
      previous = λ d h e i x there.
          let k = at.previous d h e i x there in
          record { named = k.named; plain = k.plain; done = k.done; genuine = k.genuine; behind = k.behind };
    }

-- ---- a commit, of which the status isn't asked yet

-- a sight, and one revision more
abbrev pub with_one : Sight → Revision → Sight
with_one s r q = eq_by_cmp revision_cmp q r || s q

module _ (ds : Documents) (c : Course) (keeps : Keeps ds c) (r : Revision) (ws : List Write) (commits : Commits) (fall : Fall c.commits) (falls : Fall commits) (pending : edit_in c r ≡ None) (unbound : c.bound r ≡ false) (young : c.old r ≡ false)
    (own : of_revision commits r ≡ Some ws) (other : (q : Revision) → eq_by_cmp revision_cmp q r ≡ false → of_revision commits q ≡ edit_in c q)
    (node : (p : Path) → here_entry (ds (id.Node p)) r ≡ written (here_of p) ws) (prop : (p : Path) (n : Name) → prop_entry (ds (id.Node p)) n r ≡ written (put_of p n) ws) where
  open_ : is_done c r ≡ false
  open_ = ap (λ o. is_some o || c.old r) pending ∙ young

  abbrev later : Course
  later = record c { commits = commits; swept = with_one c.swept r }

  -- what r writes of a node, as `_deleted`
  gone_written : (p : Path) (us : List Write) → written (gone_of p) us ≡ option_map not (written (here_of p) us)
  gone_written p [] = refl
  gone_written p (w ∷ us) = ap (λ o. option_or o (option_map not (here_of p w))) (gone_written p us) ∙ by (written (here_of p) us)
    where
      by : (o : Option Bool) → option_or (option_map not o) (option_map not (here_of p w)) ≡ option_map not (option_or o (here_of p w))
      by None = refl
      by (Some b) = refl

  not_not : (o : Option Document) → gone_entry o r ≡ option_map not (here_entry o r)
  not_not None = refl
  not_not (Some d) = by (of_revision d.deleted r)
    where
      by : (o : Option Bool) → o ≡ option_map not (option_map not o)
      by None = refl
      by (Some true) = refl
      by (Some false) = refl

  done_still : (q : Revision) → is_done c q ≡ true → is_done later q ≡ true
  done_still q h = by (eq_by_cmp revision_cmp q r) refl
    where
      by : (b : Bool) → eq_by_cmp revision_cmp q r ≡ b → (is_some (of_revision commits q) || c.old q) ≡ true
      by true k = ap (λ o. is_some o || c.old q) (ap (of_revision commits) (same_revision q r k) ∙ own)
      by false k = ap (λ o. is_some o || c.old q) (other q k) ∙ h

  -- another revision, where it has no edit or isn't swept
  away : (q : Revision) → of_revision commits q ≡ None → (eq_by_cmp revision_cmp q r ≡ false) × (edit_in c q ≡ None)
  away q e =
      let n : eq_by_cmp revision_cmp q r ≡ false = not_true _ (λ k. false≢true (sym (ap is_some (sym (ap (of_revision commits) (same_revision q r k) ∙ own) ∙ e)))) in
      (n, sym (other q n) ∙ e)

  unswept : (q : Revision) → with_one c.swept r q ≡ false → (eq_by_cmp revision_cmp q r ≡ false) × (c.swept q ≡ false)
  unswept q = by (eq_by_cmp revision_cmp q r)
    where
      by : (b : Bool) → (b || c.swept q) ≡ false → (b ≡ false) × (c.swept q ≡ false)
      by true h = absurd (false≢true (sym h))
      by false h = (refl, h)

  pub commit_keeps : Keeps ds later
  commit_keeps p =
      let at : KeepsAt ds c p = keeps p in
      let node_kept = item_commit (gone_of p) shows_node (born_at c.tree p) c _ at.node r ws commits fall falls unbound own other (gone_main ds c p at r ∙ (not_not (ds (id.Node p)) ∙ (ap (option_map not) (node p) ∙ sym (gone_written p ws)))) in
      let prop_kept = λ (n : Name). item_commit (put_of p n) shows_value (property_at c.tree p n) c _ (at.prop n) r ws commits fall falls unbound own other (value_main ds c p at r open_ n ∙ prop p n) in
      record {
        node = record { exact = node_kept.exact; genuine = node_kept.genuine; none_else = node_kept.none_else; last = node_kept.last };
        prop = λ n. record { exact = (prop_kept n).exact; genuine = (prop_kept n).genuine; none_else = (prop_kept n).none_else; last = (prop_kept n).last };
        rooted = λ x i q us e s entry. let u = unswept q s in at.rooted x i q us (sym (other q u.0) ∙ e) u.1 entry;
        unsaid = λ q e o. at.unsaid q (away q e).1 o;
        no_root = λ q e o f. at.no_root q (away q e).1 o f;
        named = at.named;
        previous = λ d h e i x there.
            let k = at.previous d h e i x there in
            record {
              named = k.named;
              plain = k.plain;
              done = λ n q m. done_still q (k.done n q m);
              genuine = λ n q us v f m. k.genuine n q us v (sym (other q (not_true _ (λ one. false≢true (sym open_ ∙ subst (λ (z : Revision). is_done c z ≡ true) (same_revision q r one) (k.done n q (ap is_some m)))))) ∙ f) m;
              behind = λ n q m. let g = k.behind n q m in (g.0, g.1, done_still g.0 g.2, g.3);
            };
      }

-- the status of r is said: it may be asked
pub asked_keeps : (ds : Documents) (c : Course) (r : Revision) → Keeps ds (record c { swept = with_one c.swept r }) → ((p : Path) (x : Document) → IsIn x (all_at ds p) → HasEntryOf r x → has_revision (ds (commit_root_of x r)) r ≡ true) → Keeps ds c
asked_keeps ds c r keeps said p =
    let at : KeepsAt ds (record c { swept = with_one c.swept r }) p = keeps p in
    record {
      node = record { exact = at.node.exact; genuine = at.node.genuine; none_else = at.node.none_else; last = at.node.last };
      prop = λ n. record { exact = (at.prop n).exact; genuine = (at.prop n).genuine; none_else = (at.prop n).none_else; last = (at.prop n).last };
      rooted = λ x i q us e s entry. by x i q us e s entry (eq_by_cmp revision_cmp q r) refl;
      unsaid = at.unsaid;
      no_root = at.no_root;
      named = at.named;
      previous = λ d h e i x there. let k = at.previous d h e i x there in record { named = k.named; plain = k.plain; done = k.done; genuine = k.genuine; behind = k.behind };
    }
  where
    by : (x : Document) → IsIn x (all_at ds p) → (q : Revision) (us : List Write) → edit_in c q ≡ Some us → c.swept q ≡ false → HasEntryOf q x → (b : Bool) → eq_by_cmp revision_cmp q r ≡ b → has_revision (ds (commit_root_of x q)) q ≡ true
    by x i q us e s entry true k = subst (λ (z : Revision). has_revision (ds (commit_root_of x z)) z ≡ true) (sym (same_revision q r k)) (said p x i (subst (λ (z : Revision). HasEntryOf z x) (same_revision q r k) entry))
    by x i q us e s entry false k = (keeps p).rooted x i q us e (ap (λ b. b || c.swept q) k ∙ s) entry
