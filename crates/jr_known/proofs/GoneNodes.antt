-- Which nodes are gone: those that were at told paths where none is now.
use Rattle.std.proofs.Common.{◌≡◌, zero, suc, Bool, true, false, cond, Some, None, Option, List, [], ◌∷◌, is_some, refl, sym, ap, ◌∙◌, subst, arith}
use Rattle.std.specs.Prelude.{Contains}
use Rattle.std.specs.BTreeMap.{insert_entry}
use Rattle.std.specs.FinMap.{is_sorted}
use Rattle.std.specs.List.{fold}
use Rattle.std.specs.Option.{option_map_or}
use Rattle.std.specs.Ordering.{eq_by_cmp}
use Rattle.std.proofs.lemmas.Bool.{false≢true}
use Rattle.std.proofs.lemmas.Cmp.{eq_by_cmp_equiv}
use Rattle.jr_path.specs.Names.{path_cmp}
use Rattle.jr_path.specs.declared.path.Path.{Path}
use Rattle.jr_path.proofs.Maps.{lookup-insert_entry, path_total}
use Rattle.jr_tree.specs.declared.tree.Node.{Node}
use Rattle.jr_tree.specs.Trees.{Nodes, node_at}
use Rattle.jr_tree.proofs.Entries.{sorted_insert}
use Rattle.jr_tree.proofs.Pointwise.{same_path}
use Rattle.jr_part.specs.Parts.{Knowledge}
use Rattle.jr_known.specs.Gone.{gone_nodes, is_gone, with_gone}

module _ (k fresh : Knowledge) where
  -- the nodes with that at p, where it is gone
  abbrev put : Bool → Option Node → Nodes → Path → Nodes
  put b o g p = cond b (option_map_or (λ node. insert_entry path_cmp g p node) o g) g

  -- ---- each was there, and is gone

  abbrev Within : List Path → Nodes → Type 0
  Within told g = (q : Path) (node : Node) → node_at g q ≡ Some node → (node_at k.nodes q ≡ Some node) × (is_gone fresh q ≡ true) × Contains told q

  within_one : (told : List Path) (g : Nodes) (p : Path) → Contains told p → Within told g → Within told (with_gone k fresh g p)
  within_one told g p is was q node h = by (is_gone fresh p) refl (node_at k.nodes p) refl h
    where
      at : (x : Node) → node_at k.nodes p ≡ Some x → is_gone fresh p ≡ true → (b : Bool) → eq_by_cmp path_cmp q p ≡ b → cond b (Some x) (node_at g q) ≡ Some node
          → (node_at k.nodes q ≡ Some node) × (is_gone fresh q ≡ true) × Contains told q
      at x there gone true same h =
          let e : q ≡ p = same_path q p same in
          (ap (node_at k.nodes) e ∙ (there ∙ h), ap (is_gone fresh) e ∙ gone, subst (λ (y : Path). Contains told y) (sym e) is)
      at x there gone false same h = was q node h

      by : (b : Bool) → is_gone fresh p ≡ b → (o : Option Node) → node_at k.nodes p ≡ o → node_at (put b o g p) q ≡ Some node
          → (node_at k.nodes q ≡ Some node) × (is_gone fresh q ≡ true) × Contains told q
      by false gone o there h = was q node h
      by true gone None there h = was q node h
      by true gone (Some x) there h = at x there gone (eq_by_cmp path_cmp q p) refl (sym (lookup-insert_entry path_cmp path_total q p x g) ∙ h)

  within_all : (told ps : List Path) (g : Nodes) → ((q : Path) → Contains ps q → Contains told q) → Within told g → Within told (fold (with_gone k fresh) g ps)
  within_all told [] g among was = was
  within_all told (p ∷ ps) g among was =
      within_all told ps (with_gone k fresh g p) (λ q c. among q (suc c.0, (let within = c.1 in omega arith), c.2))
      (within_one told g p (among p (0, omega arith, refl)) was)

  pub gone_within : (told : List Path) → Within told (gone_nodes k fresh told)
  gone_within told = within_all told told [] (λ q c. c) (λ q node h. absurd (false≢true (ap is_some h)))

  -- ---- each that was there and is gone is one

  kept_one : (g : Nodes) (p q : Path) → is_some (node_at g q) ≡ true → is_some (node_at (with_gone k fresh g p) q) ≡ true
  kept_one g p q h = by (is_gone fresh p) (node_at k.nodes p)
    where
      at : (x : Node) (b : Bool) → is_some (cond b (Some x) (node_at g q)) ≡ true
      at x true = refl
      at x false = h

      by : (b : Bool) (o : Option Node) → is_some (node_at (put b o g p) q) ≡ true
      by false o = h
      by true None = h
      by true (Some x) = ap is_some (lookup-insert_entry path_cmp path_total q p x g) ∙ at x (eq_by_cmp path_cmp q p)

  kept_all : (ps : List Path) (g : Nodes) (q : Path) → is_some (node_at g q) ≡ true → is_some (node_at (fold (with_gone k fresh) g ps) q) ≡ true
  kept_all [] g q h = h
  kept_all (p ∷ ps) g q h = kept_all ps (with_gone k fresh g p) q (kept_one g p q h)

  noted : (g : Nodes) (p : Path) → is_gone fresh p ≡ true → (o : Option Node) → node_at k.nodes p ≡ o → is_some o ≡ true → is_some (node_at (with_gone k fresh g p) p) ≡ true
  noted g p gone None there some = absurd (false≢true some)
  noted g p gone (Some x) there some =
      ap (λ b. is_some (node_at (put b (node_at k.nodes p) g p) p)) gone
      ∙ (ap (λ o. is_some (node_at (put true o g p) p)) there
      ∙ (ap is_some (lookup-insert_entry path_cmp path_total p p x g)
      ∙ ap (λ b. is_some (cond b (Some x) (node_at g p))) ((eq_by_cmp_equiv path_total).refl p)))

  noted_all : (ps : List Path) (g : Nodes) (q : Path) → Contains ps q → is_gone fresh q ≡ true → is_some (node_at k.nodes q) ≡ true → is_some (node_at (fold (with_gone k fresh) g ps) q) ≡ true
  noted_all [] g q c gone there = absurd (let within = c.1 in omega arith)
  noted_all (p ∷ ps) g q (zero, within, is) gone there =
      kept_all ps (with_gone k fresh g p) q (subst (λ (x : Path). is_some (node_at (with_gone k fresh g x) q) ≡ true) (sym is) (noted g q gone (node_at k.nodes q) refl there))
  noted_all (p ∷ ps) g q (suc i, within, is) gone there = noted_all ps (with_gone k fresh g p) q (i, omega arith, is) gone there

  pub gone_noted : (told : List Path) (q : Path) → Contains told q → is_gone fresh q ≡ true → is_some (node_at k.nodes q) ≡ true → is_some (node_at (gone_nodes k fresh told) q) ≡ true
  gone_noted told q c gone there = noted_all told [] q c gone there

  -- ---- they stand in order

  sorted_all : (ps : List Path) (g : Nodes) → is_sorted path_cmp g ≡ true → is_sorted path_cmp (fold (with_gone k fresh) g ps) ≡ true
  sorted_all [] g sorted = sorted
  sorted_all (p ∷ ps) g sorted = sorted_all ps (with_gone k fresh g p) (by (is_gone fresh p) (node_at k.nodes p))
    where
      by : (b : Bool) (o : Option Node) → is_sorted path_cmp (put b o g p) ≡ true
      by false o = sorted
      by true None = sorted
      by true (Some x) = sorted_insert path_cmp path_total p x g sorted

  pub gone_sorted : (told : List Path) → is_sorted path_cmp (gone_nodes k fresh told) ≡ true
  gone_sorted told = sorted_all told [] refl
