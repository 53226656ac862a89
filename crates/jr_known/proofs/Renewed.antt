-- What is known of the whole earlier tree becomes the whole of the new one.
use Rattle.std.proofs.Common.{◌≡◌, true, List, [], sym, subst}
use Rattle.std.specs.FinMap.{is_sorted}
use Rattle.std.specs.List.{fold}
use Rattle.jr_path.specs.Names.{path_cmp}
use Rattle.jr_path.specs.declared.path.Path.{Path}
use Rattle.jr_tree.specs.Trees.{IsTree, Nodes}
use Rattle.jr_part.specs.declared.need.Need.TheVariants as need
use Rattle.jr_part.specs.Parts.{AgreesWith, HaveRisingNames, Knowledge, LacksNothing}
use Rattle.jr_part.proofs.Whole.{tree_whole}
use Rattle.jr_known.specs.Earlier.{IsEarlierThan}
use Rattle.jr_known.specs.Renewal.{AreListed, IsRenewedBut, with_list_begun}
use Rattle.jr_known.proofs.Listed.{begun_listed, listed_whole, nothing_lacks}
use Rattle.jr_known.proofs.Renewing.{begun_all, none_left, renewed, starts}

module _ (k begun new : Knowledge) (told : List Path) (begins : begun ≡ fold with_list_begun k told) (sorted : is_sorted path_cmp k.nodes ≡ true) (nothing : LacksNothing k need.All) (t : Nodes) (tree : IsTree t) (e : IsEarlierThan t (record { part = k; told = told })) (renews : IsRenewedBut t told begun → IsRenewedBut t [] new) where
  same : k.nodes ≡ e.old
  same = tree_whole k sorted nothing e.old e.tree e.agrees

  now : IsRenewedBut t [] new
  now =
      let all = begun_all e.old e.tree told k same e.agrees in
      renews (subst (λ (x : Knowledge). IsRenewedBut t told x) (sym begins) (starts told e.old t (fold with_list_begun k told) all.0 all.1 e.same))

  pub renewed_agrees : HaveRisingNames new.lists → AgreesWith t new
  renewed_agrees rising = renewed t new tree rising now

  pub renewed_whole : HaveRisingNames new.lists → (AreListed told begun → AreListed told new) → LacksNothing new need.All
  renewed_whole rising lists =
      let listed : AreListed told begun = subst (λ (x : Knowledge). AreListed told x) (sym begins)
      (begun_listed told k (listed_whole k (subst IsTree (sym same) e.tree) (subst (λ (es : Nodes). AgreesWith es k) (sym same) e.agrees) nothing)) in
      nothing_lacks t tree new (λ p. now.nodes p (none_left p)) (renewed_agrees rising) (lists listed).there
