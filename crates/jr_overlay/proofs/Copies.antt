-- Trees of copies: what is put behind all others goes to the end.
use Rattle.std.proofs.Common.{◌≡◌, true, [], ◌∷◌, ◌++◌, Option, None, Some, refl, sym, ap, ◌∙◌, append_assoc, append-nil}
use Rattle.std.specs.Option.{option_map}
use Rattle.std.specs.List.{cons_option, filter_map}
use Rattle.std.specs.FinMap.{is_sorted}
use Rattle.std.specs.FinMap.Entries.{below_all}
use Rattle.jr_path.specs.Names.{path_cmp}
use Rattle.jr_path.specs.declared.path.Path.{Path}
use Rattle.jr_path.proofs.Entries.{insert_entry_last}
use Rattle.jr_path.proofs.Maps.{path_total}
use Rattle.jr_tree.specs.declared.tree.Node.{Node}
use Rattle.jr_tree.specs.Trees.{Nodes}
use Rattle.jr_tree.proofs.Entries.{both, first, second, rising}
use Rattle.jr_overlay.specs.declared.overlay.Change.{Change}
use Rattle.jr_overlay.specs.Overlays.{Changed}
use Rattle.jr_overlay.specs.Merging.{with_copy}

-- of each change a node, if there is one
abbrev pub kept : (Change → Option Node) → Changed → Nodes
kept f c = filter_map (λ e. option_map (λ node. (e.0, node)) (f e.1)) c

below_kept : (f : Change → Option Node) (p : Path) (c : Changed) → below_all path_cmp p c ≡ true → below_all path_cmp p (kept f c) ≡ true
below_kept f p [] h = refl
below_kept f p (e ∷ c) h = by (f e.1) (below_kept f p c (second _ _ h))
  where
    by : (o : Option Node) → below_all path_cmp p (kept f c) ≡ true → below_all path_cmp p (cons_option (option_map (λ node. (e.0, node)) o) (kept f c)) ≡ true
    by None rest = rest
    by (Some n) rest = both _ _ (first _ _ h) rest

sorted_kept : (f : Change → Option Node) (c : Changed) → is_sorted path_cmp c ≡ true → is_sorted path_cmp (kept f c) ≡ true
sorted_kept f [] s = refl
sorted_kept f (e ∷ c) s = by (f e.1) (sorted_kept f c (second _ _ s))
  where
    by : (o : Option Node) → is_sorted path_cmp (kept f c) ≡ true → is_sorted path_cmp (cons_option (option_map (λ node. (e.0, node)) o) (kept f c)) ≡ true
    by None rest = rest
    by (Some n) rest = both _ _ (below_kept f e.0 c (first _ _ s)) rest

-- the next node goes to the end
more_at : (old new more all : Nodes) (p : Path) (o : Option Node) → is_sorted path_cmp all ≡ true → old ++ cons_option (option_map (λ node. (p, node)) o) more ≡ all → new ≡ with_copy old p o → new ++ more ≡ all
more_at old new more all p None s so_far put = ap (λ (u : Nodes). u ++ more) put ∙ so_far
more_at old new more all p (Some n) s so_far put =
    ap (λ (u : Nodes). u ++ more) (put ∙ insert_entry_last path_cmp path_total old p n more (rising path_cmp _ (ap (is_sorted path_cmp) so_far ∙ s)))
    ∙ (append_assoc old ((p, n) ∷ []) more ∙ so_far)

-- one change more
pub copy_more : (f : Change → Option Node) (c rest more : Changed) (old new : Nodes) (e : Path × Change) → is_sorted path_cmp c ≡ true → old ++ kept f rest ≡ kept f c → rest ≡ e ∷ more → new ≡ with_copy old e.0 (f e.1) → new ++ kept f more ≡ kept f c
copy_more f c rest more old new e s so_far split put =
    more_at old new (kept f more) (kept f c) e.0 (f e.1) (sorted_kept f c s) (ap (λ (d : Changed). old ++ kept f d) (sym split) ∙ so_far) put

-- all were copied
pub copy_ends : (f : Change → Option Node) (c rest : Changed) (new : Nodes) → new ++ kept f rest ≡ kept f c → rest ≡ [] → new ≡ kept f c
copy_ends f c rest new so_far none = sym (append-nil new) ∙ (ap (λ (d : Changed). new ++ kept f d) (sym none) ∙ so_far)
