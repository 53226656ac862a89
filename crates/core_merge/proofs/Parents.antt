-- In the tree that a closed reader sees each node has its parent.
use Rattle.std.proofs.Common.{◌≡◌, ◌⊎◌, inl, inr, Bool, true, false, cond, Some, None, Option, List, [], ◌∷◌, refl, sym, ap, ◌∙◌, subst, is_some}
use Rattle.std.specs.Option.{option_map_or, unwrap_or}
use Rattle.std.specs.Ordering.{eq_by_cmp}
use Rattle.std.specs.List.{list_all}
use mathlib.Core.Bool.{false≢true}
use Rattle.jr_path.specs.Names.{path_cmp, parent_of}
use Rattle.jr_path.specs.declared.path.Path.{Path}
use Rattle.jr_rev.specs.declared.revision.Revision.{Revision}
use Rattle.jr_rev.specs.Revisions.{is_before, is_at_most}
use Rattle.jr_tree.specs.declared.edit.Write.{Write}
use Rattle.jr_tree.specs.Trees.{Nodes, node_at, has_parent, IsTree}
use Rattle.jr_tree.specs.Edits.{applied, IsProper}
use Rattle.jr_tree.proofs.Pointwise.{same_path}
use Rattle.oak_machine.specs.declared.event.Start.{Start}
use Rattle.oak_machine.specs.History.{Past}
use Rattle.oak_machine.specs.Commits.{is_in_base}
use Rattle.jr_tree.specs.Items.{here_of, written}
use Rattle.core_read.specs.Commits.{Sight}
use Rattle.core_read.proofs.Entries.{first, second}
use Rattle.core_read.proofs.Latest.{at_most_both, before_at_most, before_itself, not_before}
use Rattle.jr_tree.proofs.EditLaw.{has_applied}
use Rattle.core_keep.specs.From.{falling_from, tree_from}
use Rattle.core_begun.specs.Told.{edit_since, IsClosedSince, IsToldSince}
use Rattle.core_begun.proofs.Course.{tells_since}
use Rattle.core_merge.specs.Independent.{writes_node, AreMergeable}
use Rattle.core_merge.proofs.Seen.{IsLastWriter, IsUnwritten, there, last_there, left_last, still_there}

-- what all paths of a tree pass, a path that is found passes
found_passes : (test : Path → Bool) (p : Path) (t : Nodes) → list_all (λ e. test e.0) t ≡ true → is_some (node_at t p) ≡ true → test p ≡ true
found_passes test p [] h e = absurd (false≢true e)
found_passes test p (x ∷ t) h e =
    (elim (eq_by_cmp path_cmp p x.0) as (λ b. eq_by_cmp path_cmp p x.0 ≡ b → is_some (cond b (Some x.1) (node_at t p)) ≡ true → test p ≡ true) [
      | true ↦ λ k s. subst (λ (q : Path). test q ≡ true) (sym (same_path p x.0 k)) (first _ _ h)
      | false ↦ λ k s. found_passes test p t (second _ _ h) s
    ]) refl e

pub parent_there : (t : Nodes) → IsTree t → (p q : Path) → parent_of p ≡ Some q → is_some (node_at t p) ≡ true → is_some (node_at t q) ≡ true
parent_there t tree p q up h = sym (ap (λ (o : Option Path). option_map_or (λ q. is_some (node_at t q)) o true) up) ∙ found_passes (has_parent t) p t tree.parents h

not_after : (a b : Revision) → is_before a b ≡ true → is_at_most b a ≡ true → ⊥
not_after a b h k = false≢true (sym (before_itself a) ∙ subst (λ (x : Revision). is_before a x ≡ true) (sym (at_most_both a b (before_at_most a b h) k)) h)

-- what is at most another and isn't that one is before it
before_of : (a b : Revision) → is_at_most a b ≡ true → (a ≡ b → ⊥) → is_before a b ≡ true
before_of a b h apart = by (is_before a b) refl
  where
    by : (c : Bool) → is_before a b ≡ c → c ≡ true
    by true e = refl
    by false e = absurd (apart (at_most_both a b h (not_before a b e)))

-- an edit leaves a node in one way
one_way : (past : Past) (p : Path) (a b : Revision) (ws us : List Write) → a ≡ b → edit_since past a ≡ Some ws → edit_since past b ≡ Some us → written (here_of p) ws ≡ written (here_of p) us
one_way past p a b ws us same e f = ap (λ (o : Option (List Write)). written (here_of p) (unwrap_or o ws)) (sym e ∙ (ap (edit_since past) same ∙ f))

module _ (start : Start) (tree : IsTree start.tree) (past : Past) (told : IsToldSince start past) where
  pub base_closed : (r : Revision) (ws : List Write) → edit_since past r ≡ Some ws → IsClosedSince past (is_in_base past r)
  base_closed r ws e = λ o us f h q k. (told.sound r ws e).ready.closed o us f h q k

  module _ (r : Revision) (ws : List Write) (e : edit_since past r ≡ Some ws) where
    abbrev pub base_tree : Nodes
    base_tree = tree_from start.tree (is_in_base past r) (falling_from past)

    pub proper : IsProper base_tree ws
    proper = (told.sound r ws e).ready.proper

    -- what is there after a commit, on the tree of its base
    pub left_by : (p : Path) → is_some (node_at (applied None base_tree ws) p) ≡ unwrap_or (written (here_of p) ws) (there start past (is_in_base past r) p)
    left_by p = has_applied None base_tree ws (tells_since start past tree told (is_in_base past r) (base_closed r ws e)).order p

    pub parent_left : (p q : Path) → parent_of p ≡ Some q → unwrap_or (written (here_of p) ws) (there start past (is_in_base past r) p) ≡ true → unwrap_or (written (here_of q) ws) (there start past (is_in_base past r) q) ≡ true
    parent_left p q up h = sym (left_by q) ∙ parent_there (applied None base_tree ws) proper.tree p q up (left_by p ∙ h)

  module _ (apart : AreMergeable past) (s : Sight) (closed : IsClosedSince past s) (p q : Path) (up : parent_of p ≡ Some q) (none : there start past s q ≡ false) where
    -- what no commit that is seen writes, none writes that a base of those sees
    unwritten_below : (x : Path) (r : Revision) (ws : List Write) → edit_since past r ≡ Some ws → s r ≡ true → IsUnwritten past s x → IsUnwritten past (is_in_base past r) x
    unwritten_below x r ws e seen free o us f h = free o us f (closed r ws e seen o h)

    -- a commit that is seen and removes the parent doesn't find the node there and leave it
    kept : (gone : IsLastWriter past s q false) → written (here_of p) gone.writes ≡ None → there start past (is_in_base past gone.revision) p ≡ true → ⊥
    kept gone e h =
        let left = parent_left gone.revision gone.writes gone.is p q up (ap (λ o. unwrap_or o (there start past (is_in_base past gone.revision) p)) e ∙ h) in
        false≢true (sym (ap (λ o. unwrap_or o (there start past (is_in_base past gone.revision) q)) gone.wrote) ∙ left)

    no_write : (o : Option Bool) → is_some o ≡ false → o ≡ None
    no_write None h = refl
    no_write (Some b) h = absurd (false≢true (sym h))

    -- ---- a node of the start
    module _ (here : is_some (node_at start.tree p) ≡ true) (free : IsUnwritten past s p) where
      first_parent : is_some (node_at start.tree q) ≡ true
      first_parent = parent_there start.tree tree p q up here

      no_first_orphan : ⊥
      no_first_orphan = elim (left_last past s q start tree told closed false none) [
        | inl gone ↦ kept gone (no_write _ (free gone.revision gone.writes gone.is gone.seen))
            (still_there past (is_in_base past gone.revision) p start tree told (base_closed gone.revision gone.writes gone.is) (unwritten_below p gone.revision gone.writes gone.is gone.seen free) ∙ here)
        | inr still ↦ false≢true (sym none ∙ (still_there past s q start tree told closed still ∙ first_parent))
      ]

    -- ---- a node that a commit added
    module _ (added : IsLastWriter past s p true) where
      -- it stands in the way of a later removal of the parent
      not_later : (gone : IsLastWriter past s q false) → is_before added.revision gone.revision ≡ true → ⊥
      not_later gone later = by (is_in_base past gone.revision added.revision) refl
        where
          in_base : is_in_base past gone.revision added.revision ≡ true → there start past (is_in_base past gone.revision) p ≡ true
          in_base u = last_there past (is_in_base past gone.revision) p start tree told (base_closed gone.revision gone.writes gone.is) true (record {
            revision = added.revision;
            writes = added.writes;
            is = added.is;
            seen = u;
            wrote = added.wrote;
            last = λ x us f h m. added.last x us f (closed gone.revision gone.writes gone.is gone.seen x h) m;
          })

          at : (o : Option Bool) → written (here_of p) gone.writes ≡ o → there start past (is_in_base past gone.revision) p ≡ true → ⊥
          at None e h = kept gone e h
          at (Some b) e h = not_after added.revision gone.revision later (added.last gone.revision gone.writes gone.is gone.seen (ap is_some e))

          by : (b : Bool) → is_in_base past gone.revision added.revision ≡ b → ⊥
          by true u = at (written (here_of p) gone.writes) refl (in_base u)
          by false u =
              let none : writes_node q gone.writes ≡ false = (apart gone.revision added.revision gone.writes added.writes gone.is added.is later u).above p q up (ap is_some added.wrote) in
              false≢true (sym none ∙ ap is_some gone.wrote)

      -- a removal of the parent is the addition, or was before it
      gone_before : (gone : IsLastWriter past s q false) → is_at_most gone.revision added.revision ≡ true
      gone_before gone = by (is_before added.revision gone.revision) refl
        where
          by : (b : Bool) → is_before added.revision gone.revision ≡ b → is_at_most gone.revision added.revision ≡ true
          by true h = absurd (not_later gone h)
          by false h = not_before added.revision gone.revision h

      -- where the addition found the parent, the removal came between, unseen by it
      not_between : written (here_of q) added.writes ≡ None → there start past (is_in_base past added.revision) q ≡ true → (gone : IsLastWriter past s q false) → ⊥
      not_between silent at_base gone = by (is_in_base past added.revision gone.revision) refl
        where
          earlier : is_before gone.revision added.revision ≡ true
          earlier = before_of gone.revision added.revision (gone_before gone) (λ same. false≢true (ap is_some (sym silent) ∙ (ap is_some (sym (one_way past q gone.revision added.revision gone.writes added.writes same gone.is added.is)) ∙ ap is_some gone.wrote)))

          by : (b : Bool) → is_in_base past added.revision gone.revision ≡ b → ⊥
          by false u =
              let none : writes_node q gone.writes ≡ false = (apart added.revision gone.revision added.writes gone.writes added.is gone.is earlier u).below p q up (ap is_some added.wrote) in
              false≢true (sym none ∙ ap is_some gone.wrote)
          by true u =
              let left : there start past (is_in_base past added.revision) q ≡ false = last_there past (is_in_base past added.revision) q start tree told (base_closed added.revision added.writes added.is) false (record {
                revision = gone.revision;
                writes = gone.writes;
                is = gone.is;
                seen = u;
                wrote = gone.wrote;
                last = λ x us f h m. gone.last x us f (closed added.revision added.writes added.is added.seen x h) m;
              }) in
              false≢true (sym left ∙ at_base)

      no_orphan : ⊥
      no_orphan = by (written (here_of q) added.writes) refl (left_last past s q start tree told closed false none)
        where
          left : unwrap_or (written (here_of q) added.writes) (there start past (is_in_base past added.revision) q) ≡ true
          left = parent_left added.revision added.writes added.is p q up (ap (λ o. unwrap_or o (there start past (is_in_base past added.revision) p)) added.wrote)

          true_false : (o : Option Bool) → o ≡ Some true → o ≡ Some false → ⊥
          true_false o h k = false≢true (sym (ap (λ o. unwrap_or o false) k) ∙ ap (λ o. unwrap_or o false) h)

          by : (o : Option Bool) → written (here_of q) added.writes ≡ o → IsLastWriter past s q false ⊎ IsUnwritten past s q → ⊥
          by (Some false) e either = false≢true (sym (ap (λ o. unwrap_or o (there start past (is_in_base past added.revision) q)) e) ∙ left)
          by (Some true) e (inr free) = false≢true (sym (free added.revision added.writes added.is added.seen) ∙ ap is_some e)
          by (Some true) e (inl gone) =
              let same : added.revision ≡ gone.revision = at_most_both added.revision gone.revision (gone.last added.revision added.writes added.is added.seen (ap is_some e)) (gone_before gone) in
              true_false _ e (one_way past q added.revision gone.revision added.writes gone.writes same added.is gone.is ∙ gone.wrote)
          by None e (inl gone) = not_between e (sym (ap (λ o. unwrap_or o (there start past (is_in_base past added.revision) q)) e) ∙ left) gone
          by None e (inr free) =
              let at_base : there start past (is_in_base past added.revision) q ≡ true = sym (ap (λ o. unwrap_or o (there start past (is_in_base past added.revision) q)) e) ∙ left in
              let same : there start past (is_in_base past added.revision) q ≡ is_some (node_at start.tree q) =
              still_there past (is_in_base past added.revision) q start tree told (base_closed added.revision added.writes added.is) (unwritten_below q added.revision added.writes added.is added.seen free) in
              false≢true (sym none ∙ (still_there past s q start tree told closed free ∙ (sym same ∙ at_base)))

  -- the parent of a node that is seen is seen
  pub parent_seen : AreMergeable past → (s : Sight) → IsClosedSince past s → (p q : Path) → parent_of p ≡ Some q → there start past s p ≡ true → there start past s q ≡ true
  parent_seen apart s closed p q up here = by (there start past s q) refl
    where
      by : (b : Bool) → there start past s q ≡ b → b ≡ true
      by true e = refl
      by false e = elim (left_last past s p start tree told closed true here) [
        | inl added ↦ absurd (no_orphan apart s closed p q up e added)
        | inr free ↦ absurd (no_first_orphan apart s closed p q up e (sym (still_there past s p start tree told closed free) ∙ here) free)
      ]
