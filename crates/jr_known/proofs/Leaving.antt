-- Once what is gone went, the new tree is the one that is left, but at told paths.
use Rattle.std.proofs.Common.{◌≡◌, true, false, Some, None, Option, List, [], is_some, is_none, refl, sym, ap, ◌∙◌, subst}
use Rattle.std.specs.Prelude.{Contains}
use Rattle.std.specs.FinMap.{is_sorted}
use Rattle.std.specs.Option.{option_map_or}
use Rattle.std.proofs.lemmas.Bool.{false≢true}
use Rattle.jr_path.specs.Names.{path_cmp}
use Rattle.jr_path.specs.declared.path.Path.{Path}
use Rattle.jr_tree.specs.declared.edit.Write.{Write}
use Rattle.jr_tree.specs.declared.tree.Node.{Node}
use Rattle.jr_tree.specs.Edits.{IsProper, applied, changes}
use Rattle.jr_tree.specs.Trees.{IsTree, Nodes, node_at}
use Rattle.jr_tree.proofs.ProperChanges.{changes_proper}
use Rattle.jr_part.specs.declared.need.Need.TheVariants as need
use Rattle.jr_part.specs.Parts.{AgreesWith, Knowledge, LacksNothing, known_at}
use Rattle.jr_part.proofs.Whole.{tree_whole}
use Rattle.jr_known.specs.Earlier.{AreKnown, IsEarlierThan, SameButAt}
use Rattle.jr_known.specs.Gone.{gone_nodes, is_gone}
use Rattle.jr_known.proofs.GoneEdit.{edit_is, left, untouched}
use Rattle.jr_known.proofs.GoneNodes.{gone_noted, gone_sorted, gone_within}
use Rattle.jr_known.proofs.LeftTree.{left_tree}

module _ (k fresh : Knowledge) (told : List Path) (known : AreKnown fresh told) (t : Nodes) (now : IsTree t) (agrees : AgreesWith t fresh) where
  abbrev gone : Nodes
  gone = gone_nodes k fresh told

  -- what is known to be gone isn't in the new tree
  goes : (q : Path) → (o : Option (Option Node)) → known_at fresh q ≡ o → option_map_or (λ (answer : Option Node). is_none answer) o false ≡ true → node_at t q ≡ None
  goes q None h is = absurd (false≢true is)
  goes q (Some None) h is = sym (agrees.nodes q None h)
  goes q (Some (Some x)) h is = absurd (false≢true is)

  -- what isn't in the new tree, though it is told, is known to be gone
  is_known_gone : (q : Path) → node_at t q ≡ None → (o : Option (Option Node)) → known_at fresh q ≡ o → is_some o ≡ true → is_gone fresh q ≡ true
  is_known_gone q none None h some = absurd (false≢true some)
  is_known_gone q none (Some answer) h some =
      ap (λ o. option_map_or (λ (a : Option Node). is_none a) o false) h ∙ ap is_none (agrees.nodes q answer h ∙ none)

  module _ (old : Nodes) (tree : IsTree old) (same : SameButAt told old t) (nodes : k.nodes ≡ old) where
    abbrev was : Path → Option Node
    was q = node_at old q

    within : (q : Path) (node : Node) → node_at gone q ≡ Some node → was q ≡ Some node
    within q node h = ap (λ (es : Nodes). node_at es q) (sym nodes) ∙ (gone_within k fresh told q node h).0

    goes_now : (q : Path) → (o : Option Node) → node_at gone q ≡ o → is_some o ≡ true → node_at t q ≡ None
    goes_now q None h is = absurd (false≢true is)
    goes_now q (Some node) h is = goes q (known_at fresh q) refl (gone_within k fresh told q node h).1

    stays : (q : Path) → is_some (was q) ≡ true → node_at gone q ≡ None → (o : Option Node) → node_at t q ≡ o → is_some o ≡ true
    stays q there not None h =
        let untold : Contains told q → ⊥ = λ c.
        false≢true (sym (ap is_some not) ∙ gone_noted k fresh told q c (is_known_gone q h (known_at fresh q) refl (known q c)) (ap (λ (es : Nodes). is_some (node_at es q)) nodes ∙ there)) in
        absurd (false≢true (ap is_some (sym h) ∙ (ap is_some (same q untold) ∙ there)))
    stays q there not (Some x) h = refl

    abbrev writes : List Write
    writes = changes gone []

    proper : IsProper old writes
    proper = subst (λ (ws : List Write). IsProper old ws) (sym (edit_is old gone tree (gone_sorted k fresh told) within))
        (changes_proper old (left old gone) tree
        (left_tree old gone t tree now (λ q is. goes_now q (node_at gone q) refl is) (λ q there not. stays q there not (node_at t q) refl)))

    untold_stay : SameButAt told (applied None old writes) t
    untold_stay q out = same q out ∙ sym (untouched gone old q tree.paths (none (node_at gone q) refl))
      where
        none : (o : Option Node) → node_at gone q ≡ o → o ≡ None
        none None h = refl
        none (Some node) h = absurd (out (gone_within k fresh told q node h).2)

    pub leaves : (new : Knowledge) → (IsProper old writes → AgreesWith (applied None old writes) new) → IsEarlierThan t (record { part = new; told = told })
    leaves new follows = record {
      old = applied None old writes;
      tree = proper.tree;
      agrees = follows proper;
      same = untold_stay;
    }

  pub left_earlier : is_sorted path_cmp k.nodes ≡ true → LacksNothing k need.All → IsEarlierThan t (record { part = k; told = told }) → (ws : List Write) (new : Knowledge) → ws ≡ changes gone []
      → ((o : Nodes) → IsTree o → IsProper o ws → AgreesWith o k → AgreesWith (applied None o ws) new) → IsEarlierThan t (record { part = new; told = told })
  left_earlier sorted nothing e ws new is follows =
      leaves e.old e.tree e.same (tree_whole k sorted nothing e.old e.tree e.agrees) new
      (λ proper. subst (λ (xs : List Write). AgreesWith (applied None e.old xs) new) is (follows e.old e.tree (subst (λ (xs : List Write). IsProper e.old xs) (sym is) proper) e.agrees))
