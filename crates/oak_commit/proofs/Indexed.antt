-- What stands at the places of each path.
use Rattle.std.proofs.Common.{◌≡◌, ℕ, ◌+◌, ◌<◌, ◌≤◌, Bool, true, false, cond, List, [], ◌∷◌, ◌++◌, length, take, get_or, map, Option, Some, None, refl, sym, ap, ◌∙◌, append-nil, append_assoc, arith, zero, suc}
use Rattle.std.specs.Prelude.{slice_get}
use Rattle.std.specs.Option.{option_map_or, unwrap_or}
use Rattle.std.specs.Ordering.{eq_by_cmp}
use Rattle.std.specs.Map.{keys_of, lookup, set_value}
use Rattle.std.specs.BTreeMap.{is_at, insert_entry}
use Rattle.std.specs.List.{cons_option, flat_map}
use Rattle.std.specs.List.Sorted.{IsStrictlySortedBy}
use Rattle.std.proofs.lemmas.List.{take_more}
use Rattle.std.proofs.lemmas.List.Concat.{flat_map-append, flat_map_single}
use Rattle.std.proofs.lemmas.List.Elements.{filter-append, filter_map-append}
use Rattle.jr_path.specs.Names.{path_cmp}
use Rattle.jr_path.specs.declared.path.Path.{Path}
use Rattle.jr_path.proofs.Maps.{lookup-insert_entry, path_exact, path_total}
use Rattle.jr_path.proofs.Orders.{tested}
use Rattle.jr_rev.specs.declared.revision.Revision.{Revision}
use Rattle.jr_path.specs.declared.path.DocId.{DocId}
use Rattle.jr_path.specs.declared.path.DocId.TheVariants as id
use Rattle.jr_tree.specs.declared.edit.Edit.{Edit}
use Rattle.jr_tree.specs.declared.edit.Write.{Write}
use Rattle.jr_tree.specs.declared.edit.Write.TheVariants.{Here, Gone, Put, Unset}
use Rattle.oak_clash.specs.declared.mark.Mark.{Mark}
use Rattle.oak_clash.specs.declared.mark.MarkAt.{MarkAt}
use Rattle.oak_clash.specs.Clashes.{commit_root, marks_at}
use Rattle.oak_doc.specs.declared.update.Change.{Change}
use Rattle.oak_doc.specs.declared.update.UpdateOp.{UpdateOp}
use Rattle.oak_doc.proofs.Entries.{set_is_insert}
use Rattle.oak_commit.specs.Places.{Finds, IsComputed, Places, items_at, of_path, path_of_write, places_of, with_path_place}
use Rattle.oak_commit.specs.Writing.{entries_at, entry_of, marking_of, rooting, write_op}

get_there : {X : Type 0} (xs : List X) (i : ℕ) (d : X) → i < length xs → slice_get xs i ≡ Some (get_or xs i d)
get_there [] i d h = absurd (omega arith)
get_there (x ∷ xs) zero d h = refl
get_there (x ∷ xs) (suc i) d h = get_there xs i d (omega arith)

get_past : {X : Type 0} (xs : List X) (i : ℕ) → length xs ≤ i → slice_get xs i ≡ None
get_past [] i past = refl
get_past (x ∷ xs) zero past = absurd (omega arith)
get_past (x ∷ xs) (suc i) past = get_past xs i (omega arith)

-- nothing is made of what isn't there
pub nothing_made : {X C : Type 0} (f : X → List C) (xs : List X) (i : ℕ) (cs : List C) → length xs ≤ i → cs ≡ cs ++ option_map_or f (slice_get xs i) []
nothing_made f xs i cs past = sym (ap (λ o. cs ++ option_map_or f o []) (get_past xs i past) ∙ append-nil cs)

module _ {X : Type 0} (all : List X) where
  -- what is made of the items of one more place
  pub made_more : {C : Type 0} (f : X → List C) (ns : List ℕ) (i d : ℕ) (start now next : List C) → i < length ns → now ≡ start ++ flat_map f (items_at all (take i ns)) → next ≡ now ++ option_map_or f (slice_get all (get_or ns i d)) [] → next ≡ start ++ flat_map f (items_at all (take (i + 1) ns))
  made_more {C} f ns i d start now next within so_far more =
      more
      ∙ ap (λ cs. cs ++ option_map_or f (slice_get all (get_or ns i d)) []) so_far
      ∙ append_assoc start (flat_map f (items_at all (take i ns))) (option_map_or f (slice_get all (get_or ns i d)) [])
      ∙ ap (λ cs. start ++ cs) (ap (λ cs. flat_map f (items_at all (take i ns)) ++ cs) (one (slice_get all (get_or ns i d))) ∙ sym (flat_map-append f (items_at all (take i ns)) (cons_option (slice_get all (get_or ns i d)) [])))
      ∙ ap (λ xs. start ++ flat_map f xs) (sym (filter_map-append (slice_get all) (take i ns) (get_or ns i d ∷ [])) ∙ ap (items_at all) (sym (take_more ns i d within)))
    where
      one : (o : Option X) → option_map_or f o [] ≡ flat_map f (cons_option o [])
      one None = refl
      one (Some x) = sym (append-nil (f x))

  -- one more item is found
  pub finds_more : (path : X → Path) (i : ℕ) (x : X) (places new : Places) → i < length all → x ≡ get_or all i x → Finds path all (take i all) places → new ≡ with_path_place places (path x) i → Finds path all (take (i + 1) all) new
  finds_more path i x places new within is finds put p =
      ap (λ m. items_at all (places_of m p)) put
      ∙ ap (λ o. items_at all (unwrap_or o [])) (lookup-insert_entry path_cmp path_total p (path x) (places_of places (path x) ++ i ∷ []) places)
      ∙ by (eq_by_cmp path_cmp p (path x)) refl
      ∙ sym (filter-append (λ y. eq_by_cmp path_cmp p (path y)) (take i all) (x ∷ []))
      ∙ ap (of_path path p) (ap (λ y. take i all ++ y ∷ []) is ∙ sym (take_more all i x within))
    where
      same : eq_by_cmp path_cmp p (path x) ≡ true → p ≡ path x
      same h = (tested path_total path_exact p (path x)).0 h

      by : (b : Bool) → eq_by_cmp path_cmp p (path x) ≡ b → items_at all (unwrap_or (cond b (Some (places_of places (path x) ++ i ∷ [])) (lookup (is_at (path_cmp p)) places)) []) ≡ of_path path p (take i all) ++ cond b (x ∷ []) []
      by true h =
          filter_map-append (slice_get all) (places_of places (path x)) (i ∷ [])
          ∙ ap (λ o. items_at all (places_of places (path x)) ++ cons_option o []) (get_there all i x within ∙ ap Some (sym is))
          ∙ ap (λ ys. ys ++ x ∷ []) (ap (λ q. items_at all (places_of places q)) (sym (same h)) ∙ finds p)
      by false h = finds p ∙ sym (append-nil (of_path path p (take i all)))

-- the mark at one more place is copied
pub copied_more : (marks : List MarkAt) (ns : List ℕ) (i d : ℕ) (now next : List Mark) → i < length ns → now ≡ map (λ m. m.mark) (items_at marks (take i ns)) → next ≡ now ++ option_map_or (λ m. m.mark ∷ []) (slice_get marks (get_or ns i d)) [] → next ≡ map (λ m. m.mark) (items_at marks (take (i + 1) ns))
copied_more marks ns i d now next within so_far more =
    made_more marks (λ m. m.mark ∷ []) ns i d [] now next within (so_far ∙ sym (flat_map_single (λ m. m.mark) (items_at marks (take i ns)))) more
    ∙ flat_map_single (λ m. m.mark) (items_at marks (take (i + 1) ns))

-- a write of another path has no entry at the node at p
other_entry : (r : Revision) (p : Path) (w : Write) → eq_by_cmp path_cmp p (path_of_write w) ≡ false → entry_of r p w ≡ []
other_entry r p (Here q) h = rw h refl
other_entry r p (Gone q) h = rw h refl
other_entry r p (Put q n x) h = rw h refl
other_entry r p (Unset q n) h = rw h refl

-- the entries of an edit at a path are those of its writes of the path
pub entries_of_path : (r : Revision) (p : Path) (ws : List Write) → entries_at r p (of_path path_of_write p ws) ≡ entries_at r p ws
entries_of_path r p [] = refl
entries_of_path r p (w ∷ ws) = by (eq_by_cmp path_cmp p (path_of_write w)) refl (entries_of_path r p ws)
  where
    by : (b : Bool) → eq_by_cmp path_cmp p (path_of_write w) ≡ b → entries_at r p (of_path path_of_write p ws) ≡ entries_at r p ws → entries_at r p (cond b (w ∷ of_path path_of_write p ws) (of_path path_of_write p ws)) ≡ entry_of r p w ++ entries_at r p ws
    by true h rest = ap (λ es. entry_of r p w ++ es) rest
    by false h rest = rw (other_entry r p w h) rest

-- a place that is put at a path that has some
pub put_at_places : (old : Places) (p : Path) (at : ℕ) (known new : List ℕ) (after : Places) → IsStrictlySortedBy path_cmp (keys_of old) → lookup (is_at (path_cmp p)) old ≡ Some known → new ≡ known ++ at ∷ [] → after ≡ set_value (is_at (path_cmp p)) old new → after ≡ with_path_place old p at
put_at_places old p at known new after sorted there put set =
    rw there (set ∙ set_is_insert path_cmp path_total old p known new sorted there ∙ ap (insert_entry path_cmp old p) put)

-- the write of the document of a node, by the places of its path
pub write_is : (r : Revision) (edit : Edit) (ms : List MarkAt) (ids : List DocId) (root p q : Path) (writes marked : Places) (mine : List Mark) (c0 c1 c2 c3 : List Change) → IsComputed edit ms ids root writes marked → q ≡ p → mine ≡ marks_at p ms → c0 ≡ [] → c1 ≡ c0 ++ entries_at r p (items_at edit.writes (places_of writes p)) → c2 ≡ c1 ++ rooting r p root → c3 ≡ c2 ++ flat_map (marking_of r) mine → record { id = id.Node q; create = true; cond = None; changes = c3 } ≡ write_op r edit.writes ms p
write_is r edit ms ids root p q writes marked mine c0 c1 c2 c3 computed same is_mine none entries rooted markings =
    ap {A = Path} {B = UpdateOp} (λ x. record { id = id.Node x; create = true; cond = None; changes = c3 }) same
    ∙ ap {A = List Change} {B = UpdateOp} (λ cs. record { id = id.Node p; create = true; cond = None; changes = cs })
    (markings
    ∙ ap (λ cs. cs ++ flat_map (marking_of r) mine) (rooted ∙ ap (λ cs. cs ++ rooting r p root) (entries ∙ ap (λ cs. cs ++ entries_at r p (items_at edit.writes (places_of writes p))) none))
    ∙ append_assoc (entries_at r p (items_at edit.writes (places_of writes p))) (rooting r p root) (flat_map (marking_of r) mine)
    ∙ ap (λ cs. cs ++ (rooting r p root ++ flat_map (marking_of r) mine)) (ap (entries_at r p) (computed.finds_writes p) ∙ entries_of_path r p edit.writes)
    ∙ ap (λ q'. entries_at r p edit.writes ++ (rooting r p q' ++ flat_map (marking_of r) mine)) computed.is_root
    ∙ ap (λ ks. entries_at r p edit.writes ++ (rooting r p (commit_root ms) ++ flat_map (marking_of r) ks)) is_mine)
