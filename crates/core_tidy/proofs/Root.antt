-- The root's document is never garbage: no edit takes the root away.
use Rattle.std.proofs.Common.{◌≡◌, inl, inr, Bool, true, false, cond, not, ◌&&◌, Option, Some, None, List, [], ◌∷◌, ◌++◌, is_some, is_none, append-nil, refl, sym, ap, ◌∙◌}
use Rattle.std.specs.List.{filter, list_all}
use Rattle.std.specs.Option.{option_and_then, option_map, option_map_or, option_or}
use Rattle.std.specs.Ordering.{eq_by_cmp}
use mathlib.Core.Bool.{false≢true}
use Rattle.jr_path.specs.Names.{path_cmp}
use Rattle.jr_path.specs.declared.path.DocId.TheVariants as id
use Rattle.jr_path.specs.declared.path.Path.{Path}
use Rattle.jr_rev.specs.declared.revision.Revision.{Revision}
use Rattle.jr_tree.specs.declared.edit.Write.{Write}
use Rattle.jr_tree.specs.declared.edit.Write.TheVariants.{Gone, Here, Put, Unset}
use Rattle.jr_tree.specs.declared.tree.Node.{Node}
use Rattle.jr_tree.specs.Edits.{is_change}
use Rattle.jr_tree.specs.Items.{written}
use Rattle.jr_tree.specs.Trees.{Nodes, born_at, node_at}
use Rattle.jr_tree.proofs.Pointwise.{same_path}
use Rattle.oak_doc.specs.declared.document.Document.{Document}
use Rattle.oak_doc.specs.Updates.{of_revision}
use Rattle.oak_machine.specs.declared.event.Start.{Start}
use Rattle.oak_machine.specs.History.{Past}
use Rattle.oak_read.specs.Meaning.{Documents, latest}
use Rattle.oak_read.specs.Shown.{with_previous}
use Rattle.core_begun.specs.Kept.{IsKeptSince}
use Rattle.core_begun.proofs.Sound.{falls, found}
use Rattle.core_keep.specs.From.{course_from}
use Rattle.core_keep.specs.Keeps.{Course, Matches}
use Rattle.core_keep.specs.Standing.{all_at, gone_in, gone_of, shows_node}
use Rattle.core_keep.specs.Steps.{IsUnwanted}
use Rattle.core_keep.proofs.AtPath.{plain_listed}
use Rattle.core_read.specs.Commits.{last_entry}
use Rattle.core_read.specs.World.{Progress}
use Rattle.core_read.proofs.Latest.{IsLastEntry, last_entry_last, writing}

-- a write that the root is gone changes it to a tree without a root
gone_by : (t u : Nodes) → is_some (node_at u []) ≡ true → (w : Write) → is_change t u w ≡ true → gone_of [] w ≡ Some true → ⊥
gone_by t u root (Here p) change h = by (eq_by_cmp path_cmp [] p) h
  where
    by : (b : Bool) → option_map not (cond b (Some true) None) ≡ Some true → ⊥
    by true k = cc
    by false k = cc
gone_by t u root (Gone p) change h = by (eq_by_cmp path_cmp [] p) refl h
  where
    both : (a b : Bool) → (a && b) ≡ true → b ≡ true
    both true b k = k
    both false b k = absurd (false≢true k)

    none : (o : Option Node) → is_none o ≡ true → is_some o ≡ true → ⊥
    none None k l = false≢true l
    none (Some n) k l = false≢true k

    by : (b : Bool) → eq_by_cmp path_cmp [] p ≡ b → option_map not (cond b (Some false) None) ≡ Some true → ⊥
    by true k l = none (node_at u p) (both (is_some (node_at t p)) (is_none (node_at u p)) change) (ap (λ (q : Path). is_some (node_at u q)) (sym (same_path [] p k)) ∙ root)
    by false k l = cc
gone_by t u root (Put p n x) change h = cc
gone_by t u root (Unset p n) change h = cc

-- no edit takes the root away
none_gone : (t u : Nodes) → is_some (node_at u []) ≡ true → (ws : List Write) → list_all (is_change t u) ws ≡ true → written (gone_of []) ws ≡ Some true → ⊥
none_gone t u root [] all h = cc
none_gone t u root (w ∷ ws) all h = by (written (gone_of []) ws) refl h (none_gone t u root ws (rest (is_change t u w) (list_all (is_change t u) ws) all))
  where
    first : (a b : Bool) → (a && b) ≡ true → a ≡ true
    first true b k = refl
    first false b k = absurd (false≢true k)

    rest : (a b : Bool) → (a && b) ≡ true → b ≡ true
    rest true b k = k
    rest false b k = absurd (false≢true k)

    by : (o : Option Bool) → written (gone_of []) ws ≡ o → option_or o (gone_of [] w) ≡ Some true → (written (gone_of []) ws ≡ Some true → ⊥) → ⊥
    by None is k none = gone_by t u root w (first (is_change t u w) (list_all (is_change t u) ws) all) k
    by (Some b) is k none = none (is ∙ k)

module _ (start : Start) (past : Past) (ds : Documents) (done : Progress) (world : IsKeptSince start ds past done) (old : Document) (there : ds (id.Node []) ≡ Some old) where
  abbrev c : Course
  c = course_from start past

  -- what stands of the root is what its document has
  entries : gone_in (all_at ds []) ≡ old.deleted
  entries =
      ap (λ (o : Option Document). gone_in (option_map_or (with_previous ds []) o [])) there
      ∙ (ap (λ l. old.deleted ++ l) (plain_listed ds c [] old (λ e i x h. ((world.keeps []).previous old there e i x h).plain)) ∙ append-nil old.deleted)

  -- the last write of it that a bound sees isn't that it is gone
  stands : (e : Revision × Bool) → IsLastEntry (λ r. writing (gone_of []) c.bound (of_revision c.commits r) r) (Some e) → shows_node e ≡ None → ⊥
  stands e l none = by (c.bound e.0) (of_revision c.commits e.0) refl l.0
    where
      shown : (b : Bool) → shows_node (e.0, b) ≡ None → b ≡ true
      shown true h = refl
      shown false h = cc

      by : (b : Bool) (o : Option (List Write)) → of_revision c.commits e.0 ≡ o → cond b (option_and_then (written (gone_of [])) o) None ≡ Some e.1 → ⊥
      by false o is h = cc
      by true None is h = cc
      by true (Some ws) is h =
          let sound = world.told.sound e.0 ws (sym (found past e.0) ∙ is) in
          none_gone _ _ sound.ready.proper.tree.root ws sound.ready.proper.changing (h ∙ ap Some (shown e.1 none))

  pub root_wanted : IsUnwanted c [] old → ⊥
  root_wanted unwanted = by (last_entry (gone_of []) c.bound c.commits) (last_entry_last (gone_of []) c.bound c.commits (falls past)) ((world.keeps []).node.last)
    where
      absent : option_and_then shows_node (latest (filter (λ e. c.bound e.0) (gone_in (all_at ds [])))) ≡ None
      absent = ap (λ l. option_and_then shows_node (latest (filter (λ e. c.bound e.0) l))) entries ∙ unwanted.absent

      by : (o : Option (Revision × Bool)) → IsLastEntry (λ r. writing (gone_of []) c.bound (of_revision c.commits r) r) o
          → Matches shows_node (born_at c.tree []) o (latest (filter (λ e. c.bound e.0) (gone_in (all_at ds [])))) → ⊥
      by None l match = false≢true (ap is_some (sym absent ∙ match) ∙ (sym (world.first.dated []) ∙ world.first.tree.root))
      by (Some e) l (inl same) = stands e l (sym (ap (option_and_then shows_node) same) ∙ absent)
      by (Some e) l (inr none) = stands e l none.0
