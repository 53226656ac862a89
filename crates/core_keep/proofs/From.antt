-- Journals that begin with a start: the tree has at each item what its last write writes, or what the start has.
use Rattle.std.proofs.Common.{◌≡◌, Bool, true, false, cond, not, Some, None, Option, List, [], ◌∷◌, refl, sym, ap, ◌∙◌, subst, is_some}
use Rattle.std.specs.Option.{option_map, option_map_or, option_or, unwrap_or}
use Rattle.std.specs.List.{filter, fold}
use mathlib.Core.Bool.{false≢true}
use Rattle.jr_path.specs.declared.name.Name.{Name}
use Rattle.jr_path.specs.declared.path.Path.{Path}
use Rattle.jr_rev.specs.declared.revision.Revision.{Revision}
use Rattle.jr_rev.specs.declared.vector.RevVec.{RevVec}
use Rattle.jr_rev.specs.Vectors.{sees}
use Rattle.jr_tree.specs.declared.edit.Write.{Write}
use Rattle.jr_tree.specs.declared.tree.Node.{Node}
use Rattle.jr_tree.specs.Trees.{Nodes, IsTree, born_at, born_of, node_at, property_at}
use Rattle.jr_tree.specs.Edits.{applied}
use Rattle.jr_tree.specs.Items.{here_of, put_of, written, Fits}
use Rattle.jr_tree.proofs.AtPath.{InOrder, order-applied}
use Rattle.jr_tree.proofs.EditLaw.{IsOrderly, Orderly-all, born_applied, has_applied, property_fitted, Orderly-applied}
use Rattle.jr_tree.proofs.Proper.{proper_fits, gone_writes}
use Rattle.oak_read.specs.Meaning.{Documents, found_node}
use Rattle.oak_machine.specs.declared.event.Start.{Start}
use Rattle.oak_machine.specs.History.{Past}
use Rattle.oak_machine.specs.Commits.{committed_edits, tree_at}
use Rattle.core_read.specs.Commits.{Commits, Sight, last, last_entry, last_by, Each, Closed}
use Rattle.core_read.specs.Holds.{onto}
use Rattle.core_read.proofs.Trees.{Each-map, same_last}
use Rattle.core_keep.specs.Standing.{shows_node}
use Rattle.core_keep.specs.Keeps.{Course, Keeps, IsCourse, IsDownward, IsHeldPair, Shows}
use Rattle.core_keep.specs.From.{tree_from, IsSoundFrom, AreSoundFrom, IsFirst, falling_from, course_from}
use Rattle.core_keep.proofs.Journal.{gone_last, last_value}
use Rattle.core_keep.proofs.Found.{found}

-- the tree has at each item what its last write writes, or what the first one has
pub record TellsFrom (b t : Nodes) (s : Sight) (es : Commits) : Type 0 where
  pub order : InOrder t
  pub orderly : (p : Path) → IsOrderly (node_at t p)
  pub node : (p : Path) → is_some (node_at t p) ≡ unwrap_or (last (here_of p) s es) (is_some (node_at b p))
  pub prop : (p : Path) (n : Name) → property_at t p n ≡ unwrap_or (last (put_of p n) s es) (property_at b p n)
  pub born : (p : Path) → born_at t p ≡ cond (is_some (node_at t p)) (option_or (last_by p s es) (born_at b p)) None

or_last : {X : Type 0} (a b : Option X) (c : X) → unwrap_or a (unwrap_or b c) ≡ unwrap_or (option_or a b) c
or_last None b c = refl
or_last (Some x) b c = refl

unseen : (b t : Nodes) (s : Sight) (e : Revision × List Write) (es : Commits) → s e.0 ≡ false → TellsFrom b t s es → TellsFrom b t s (e ∷ es)
unseen b t s e es h tells = record {
  order = tells.order;
  orderly = tells.orderly;
  node = λ p. tells.node p ∙ ap (λ c. unwrap_or (option_or (cond c (written (here_of p) e.1) None) (last (here_of p) s es)) (is_some (node_at b p))) (sym h);
  prop = λ p n. tells.prop p n ∙ ap (λ c. unwrap_or (option_or (cond c (written (put_of p n) e.1) None) (last (put_of p n) s es)) (property_at b p n)) (sym h);
  born = λ p. tells.born p ∙ ap (λ c. cond (is_some (node_at t p)) (option_or (option_map (λ (f : Revision × Bool). f.0) (option_or (option_map (λ x. (e.0, x)) (cond c (written (here_of p) e.1) None)) (last_entry (here_of p) s es))) (born_at b p)) None) (sym h);
}

-- the edit that writes a node last added it, where it is there
pub dated : (r : Revision) (w : Option Bool) (there : Bool) (before first : Option Revision) (rest : Option (Revision × Bool)) → before ≡ cond there (option_or (option_map (λ (f : Revision × Bool). f.0) rest) first) None
    → cond (unwrap_or w there) (cond (is_some w) (Some r) before) None ≡ cond (unwrap_or w there) (option_or (option_map (λ (f : Revision × Bool). f.0) (option_or (option_map (λ x. (r, x)) w) rest)) first) None
dated r (Some true) there before first rest h = refl
dated r (Some false) there before first rest h = refl
dated r None true before first rest h = h
dated r None false before first rest h = refl

seen : (b t : Nodes) (s : Sight) (e : Revision × List Write) (es : Commits) → s e.0 ≡ true → TellsFrom b t s es → Fits t e.1 → TellsFrom b (applied (Some e.0) t e.1) s (e ∷ es)
seen b t s e es h tells fits = record {
  order = order-applied (Some e.0) t e.1 tells.order;
  orderly = Orderly-applied (Some e.0) t e.1 tells.order tells.orderly;
  node = λ p. has_applied (Some e.0) t e.1 tells.order p ∙ (ap (unwrap_or (written (here_of p) e.1)) (tells.node p) ∙ (or_last (written (here_of p) e.1) (last (here_of p) s es) (is_some (node_at b p))
      ∙ ap (λ c. unwrap_or (option_or (cond c (written (here_of p) e.1) None) (last (here_of p) s es)) (is_some (node_at b p))) (sym h)));
  prop = λ p n. property_fitted (Some e.0) t e.1 tells.order tells.orderly fits p n ∙ (ap (unwrap_or (written (put_of p n) e.1)) (tells.prop p n) ∙ (or_last (written (put_of p n) e.1) (last (put_of p n) s es) (property_at b p n)
      ∙ ap (λ c. unwrap_or (option_or (cond c (written (put_of p n) e.1) None) (last (put_of p n) s es)) (property_at b p n)) (sym h)));
  born = λ p. born_applied (Some e.0) t e.1 tells.order p
      ∙ (dated e.0 (written (here_of p) e.1) (is_some (node_at t p)) (born_at t p) (born_at b p) (last_entry (here_of p) s es) (tells.born p)
      ∙ (ap (λ c. cond c (option_or (option_map (λ (f : Revision × Bool). f.0) (option_or (option_map (λ x. (e.0, x)) (written (here_of p) e.1)) (last_entry (here_of p) s es))) (born_at b p)) None) (sym (has_applied (Some e.0) t e.1 tells.order p))
      ∙ ap (λ c. cond (is_some (node_at (applied (Some e.0) t e.1) p)) (option_or (option_map (λ (f : Revision × Bool). f.0) (option_or (option_map (λ x. (e.0, x)) (cond c (written (here_of p) e.1) None)) (last_entry (here_of p) s es))) (born_at b p)) None) (sym h)));
}

module _ (b : Nodes) (tree : IsTree b) (base : Revision → Sight) where
  -- what fits the tree of the base fits a tree that sees more
  carried : (e : Revision × List Write) (es : Commits) (s : Sight) → IsSoundFrom b base e es → Each (λ o. base e.0 o.0 ≡ true → s o.0 ≡ true) es
      → TellsFrom b (tree_from b (base e.0) es) (base e.0) es → TellsFrom b (tree_from b s es) s es → Fits (tree_from b (base e.0) es) e.1 → Fits (tree_from b s es) e.1
  carried e es s sound wider at_base at_s fits = record {
    once = fits.once;
    put = λ p n x h.
        ap (unwrap_or (written (here_of p) e.1))
        (at_s.node p ∙ (ap (λ o. unwrap_or o (is_some (node_at b p))) (sym (same_last (here_of p) (base e.0) s es wider (Each-map (λ o apart unseen. (apart unseen).prop p n (ap is_some h)) es sound.apart))) ∙ sym (at_base.node p)))
        ∙ fits.put p n x h;
    gone = λ p n g h. fits.gone p n g
        (ap is_some (at_base.prop p n ∙ (ap (λ o. unwrap_or o (property_at b p n)) (same_last (put_of p n) (base e.0) s es wider (Each-map (λ o apart unseen. (apart unseen).below p n (gone_writes p e.1 g)) es sound.apart)) ∙ sym (at_s.prop p n))) ∙ h);
  }

  pub tells_from : (es : Commits) → AreSoundFrom b base es → (s : Sight) → Closed base s es → TellsFrom b (tree_from b s es) s es
  tells_from [] sound s closed = record {
    order = tree.paths;
    orderly = Orderly-all b tree.names;
    node = λ p. refl;
    prop = λ p n. refl;
    born = λ p. by (node_at b p);
  }
    where
      by : (o : Option Node) → born_of o ≡ cond (is_some o) (born_of o) None
      by None = refl
      by (Some node) = refl
  tells_from (e ∷ es) sound s closed =
      let now : TellsFrom b (tree_from b s es) s es = tells_from es sound.1 s closed.1 in
      (elim (s e.0) as (λ c. s e.0 ≡ c → TellsFrom b (cond c (applied (Some e.0) (tree_from b s es) e.1) (tree_from b s es)) s (e ∷ es)) [
        | true ↦ λ h.
            let at_base : TellsFrom b (tree_from b (base e.0) es) (base e.0) es = tells_from es sound.1 (base e.0) sound.0.closed in
            seen b _ s e es h now (carried e es s sound.0 (closed.0 h) at_base now (proper_fits _ e.1 at_base.order sound.0.proper))
        | false ↦ λ h. unseen b _ s e es h now
      ]) refl

-- ---- such a tree shows

pub shows_from : (c : Course) (first : IsFirst c.tree) (s : Sight) (t : Nodes) → TellsFrom c.tree t s c.commits → Shows c s t
shows_from c first s t tells = record {
  orderly = λ p. tells.orderly p;
  node = λ p. tells.born p ∙ (ap (λ d. cond d (option_or (last_by p s c.commits) (born_at c.tree p)) None) (is_there p)
      ∙ (by p (last_entry (here_of p) s c.commits) (is_some (node_at c.tree p)) refl ∙ sym (ap (λ o. option_map_or shows_node o (born_at c.tree p)) (gone_last p s c.commits))));
  dated = λ p. is_there p ∙ (there p (last_entry (here_of p) s c.commits) (is_some (node_at c.tree p)) refl
      ∙ sym (ap is_some (tells.born p ∙ ap (λ d. cond d (option_or (last_by p s c.commits) (born_at c.tree p)) None) (is_there p))));
  prop = λ p n. tells.prop p n ∙ (ap (λ o. unwrap_or o (property_at c.tree p n)) (last_value (put_of p n) s c.commits) ∙ value (property_at c.tree p n) (last_entry (put_of p n) s c.commits));
}
  where
    is_there : (p : Path) → is_some (node_at t p) ≡ unwrap_or (option_map (λ (e : Revision × Bool). e.1) (last_entry (here_of p) s c.commits)) (is_some (node_at c.tree p))
    is_there p = tells.node p ∙ ap (λ o. unwrap_or o (is_some (node_at c.tree p))) (last_value (here_of p) s c.commits)

    none : (o : Option Revision) → is_some o ≡ false → None ≡ o
    none None h = refl
    none (Some x) h = absurd (false≢true (sym h))

    by : (p : Path) (o : Option (Revision × Bool)) (d : Bool) → is_some (node_at c.tree p) ≡ d
        → cond (unwrap_or (option_map (λ (e : Revision × Bool). e.1) o) d) (option_or (option_map (λ (e : Revision × Bool). e.0) o) (born_at c.tree p)) None ≡ option_map_or shows_node (option_map (λ (e : Revision × Bool). (e.0, not e.1)) o) (born_at c.tree p)
    by p None true h = refl
    by p None false h = none (born_at c.tree p) (sym (first.dated p) ∙ h)
    by p (Some (r, true)) d h = refl
    by p (Some (r, false)) d h = refl

    there : (p : Path) (o : Option (Revision × Bool)) (d : Bool) → is_some (node_at c.tree p) ≡ d
        → unwrap_or (option_map (λ (e : Revision × Bool). e.1) o) d ≡ is_some (cond (unwrap_or (option_map (λ (e : Revision × Bool). e.1) o) d) (option_or (option_map (λ (e : Revision × Bool). e.0) o) (born_at c.tree p)) None)
    there p None true h = sym (sym (first.dated p) ∙ h)
    there p None false h = refl
    there p (Some (r, true)) d h = refl
    there p (Some (r, false)) d h = refl

    value : {Y : Type 0} (x : Option Y) (o : Option (Revision × Option Y)) → unwrap_or (option_map (λ (e : Revision × Option Y). e.1) o) x ≡ option_map_or (λ (e : Revision × Option Y). e.1) o x
    value x None = refl
    value x (Some e) = refl

-- ---- a journal with a start

-- the tree of edits that are turned round
pub tree_onto : (b : Nodes) (s : Sight) (done es : Commits) → tree_from b s (onto done es) ≡ fold (λ t e. applied (Some e.0) t e.1) (tree_from b s done) (filter (λ e. s e.0) es)
tree_onto b s done [] = refl
tree_onto b s done (e ∷ es) = tree_onto b s (e ∷ done) es ∙ by (s e.0)
  where
    by : (c : Bool) → fold (λ t e. applied (Some e.0) t e.1) (cond c (applied (Some e.0) (tree_from b s done) e.1) (tree_from b s done)) (filter (λ e. s e.0) es) ≡ fold (λ t e. applied (Some e.0) t e.1) (tree_from b s done) (cond c (e ∷ filter (λ e. s e.0) es) (filter (λ e. s e.0) es))
    by true = refl
    by false = refl

-- documents that keep a journal with a start mean its tree at every pair that is held
pub reading_from : (start : Start) (past : Past) (base : Revision → Sight) (ds : Documents) (v t : RevVec) → IsFirst start.tree → AreSoundFrom start.tree base (falling_from past) → Closed base (sees v) (falling_from past)
    → Keeps ds (course_from start past) → IsCourse (course_from start past) → IsDownward (course_from start past) (course_from start past).bound → IsHeldPair (course_from start past) (sees v) (sees t) → (p : Path) → found_node ds t v p ≡ node_at (tree_at (Some start) past v) p
reading_from start past base ds v t first sound closed keeps course down held p =
    found ds (course_from start past) keeps course down t v held p (tree_at (Some start) past v)
    (shows_from (course_from start past) first (sees v) (tree_at (Some start) past v)
    (subst (λ (tree : Nodes). TellsFrom start.tree tree (sees v) (falling_from past)) (tree_onto start.tree (sees v) [] (committed_edits past)) (tells_from start.tree first.tree base (falling_from past) sound (sees v) closed)))
