-- The marks that are found write by write are those of the edit.
use Rattle.std.proofs.Common.{◌≡◌, Bool, true, false, cond, ◌&&◌, ◌||◌, Option, None, Some, List, [], ◌∷◌, ◌++◌, refl, sym, ap, ◌∙◌, subst}
use Rattle.std.proofs.lemmas.Bool.{and_parts}
use Rattle.std.proofs.lemmas.List.Folds.{list_any-append}
use Rattle.std.specs.Option.{option_map_or}
use Rattle.std.specs.FinMap.{is_sorted}
use Rattle.std.specs.List.{cons_option, filter, filter_map, flat_map, fold, list_any}
use Rattle.std.specs.Map.{keys_of}
use Rattle.jr_path.specs.Names.{is_under, parent_of, path_cmp}
use Rattle.jr_path.specs.declared.name.Name.{Name}
use Rattle.jr_path.specs.declared.path.Path.{Path}
use Rattle.jr_tree.proofs.Entries.{same_lists}
use Rattle.jr_tree.specs.declared.edit.Write.{Write}
use Rattle.jr_tree.specs.declared.edit.Write.TheVariants.{Here, Gone, Put, Unset}
use Rattle.jr_tree.specs.Trees.{Nodes, subtree_of}
use Rattle.jr_tree.specs.Edits.{applied}
use Rattle.jcr_ref.specs.References.{target_of}
use Rattle.oak_clash.specs.declared.mark.Mark.{Mark}
use Rattle.oak_clash.specs.declared.mark.Mark.TheVariants.{Exists, Guard, Prop, Touch}
use Rattle.oak_clash.specs.declared.mark.MarkAt.{MarkAt}
use Rattle.oak_machine.specs.Marks.{Marked, mark_at_cmp, marks_of_node, with_marks}
use Rattle.jcr_marks.specs.Marks.{is_covered_anew, is_type_name, mark_each, marks_between, marks_of, moved_by, new_references, newly_covered, prop_marks, retyped, retyped_by, stays}
use Rattle.jcr_marks.specs.ByWrite.{covered_below, covers_by, is_cover_name, marks_by, retyped_marks}
use Rattle.jcr_marks.proofs.Stirred.{any_flat, covered_under}
use Rattle.jcr_marks.proofs.Membership.{mark_at_exact}
use Rattle.jcr_marks.proofs.OfWrites.{all_after, at_all, in_order_all, same, total, with_all}

-- ---- lists that have the same marks give the same marks in order

same_marks : (ms os : List MarkAt) → ((q : MarkAt) → list_any (same q) ms ≡ list_any (same q) os) → keys_of (with_all [] ms) ≡ keys_of (with_all [] os)
same_marks ms os each =
    ap keys_of (same_lists mark_at_cmp total mark_at_exact (with_all [] ms) (with_all [] os) (in_order_all [] ms refl) (in_order_all [] os refl)
    (λ q. at_all q [] ms ∙ (ap (λ b. cond b (Some true) None) (each q) ∙ sym (at_all q [] os))))

with_each : (f : Write → List MarkAt) (es : Marked) (ws : List Write) → fold (λ es w. with_marks es (f w)) es ws ≡ with_all es (flat_map f ws)
with_each f es [] = refl
with_each f es (w ∷ ws) = with_each f (with_marks es (f w)) ws ∙ sym (all_after es (f w) (flat_map f ws))

-- ---- whether one of a list passes a test

swap : (a b c d : Bool) → ((a || b) || (c || d)) ≡ ((a || c) || (b || d))
swap true b c d = refl
swap false true true d = refl
swap false true false d = refl
swap false false c d = refl

any_or : {X : Type 0} (f g : X → Bool) (xs : List X) → list_any (λ x. f x || g x) xs ≡ (list_any f xs || list_any g xs)
any_or f g [] = refl
any_or f g (x ∷ xs) = ap (λ b. (f x || g x) || b) (any_or f g xs) ∙ swap (f x) (g x) (list_any f xs) (list_any g xs)

any_filter : {X : Type 0} (test keep : X → Bool) (xs : List X) → list_any test (filter keep xs) ≡ list_any (λ x. keep x && test x) xs
any_filter test keep [] = refl
any_filter test keep (x ∷ xs) = by (keep x) (any_filter test keep xs)
  where
    by : (b : Bool) → list_any test (filter keep xs) ≡ list_any (λ x. keep x && test x) xs → list_any test (cond b (x ∷ filter keep xs) (filter keep xs)) ≡ ((b && test x) || list_any (λ x. keep x && test x) xs)
    by true rest = ap (λ b. test x || b) rest
    by false rest = rest

any_filter_map : {X Y : Type 0} (test : Y → Bool) (f : X → Option Y) (xs : List X) → list_any test (filter_map f xs) ≡ list_any (λ x. option_map_or test (f x) false) xs
any_filter_map test f [] = refl
any_filter_map test f (x ∷ xs) = by (f x) (any_filter_map test f xs)
  where
    by : (o : _) → list_any test (filter_map f xs) ≡ list_any (λ x. option_map_or test (f x) false) xs → list_any test (cons_option o (filter_map f xs)) ≡ (option_map_or test o false || list_any (λ x. option_map_or test (f x) false) xs)
    by None rest = rest
    by (Some y) rest = ap (λ b. test y || b) rest

any_none : {X : Type 0} (xs : List X) → list_any (λ x. false) xs ≡ false
any_none [] = refl
any_none (x ∷ xs) = any_none xs

either_and : (a b c : Bool) → ((a && c) || (b && c)) ≡ ((a || b) && c)
either_and true true true = refl
either_and true true false = refl
either_and true false true = refl
either_and true false false = refl
either_and false b c = refl

any_swapped : {X Y : Type 0} (f : X → Y → Bool) (g : X → Bool) (xs : List X) (ys : List Y) → list_any (λ y. list_any (λ x. f x y && g x) xs) ys ≡ list_any (λ x. list_any (f x) ys && g x) xs
any_swapped f g xs [] = sym (any_none xs)
any_swapped f g xs (y ∷ ys) =
    ap (λ b. list_any (λ x. f x y && g x) xs || b) (any_swapped f g xs ys)
    ∙ (sym (any_or (λ x. f x y && g x) (λ x. list_any (f x) ys && g x) xs) ∙ (λ i. list_any (λ x. either_and (f x y) (list_any (f x) ys) (g x) i) xs))

keys_filter : (keep : Path → Bool) (t : Nodes) → keys_of (filter (λ e. keep e.0) t) ≡ filter keep (keys_of t)
keys_filter keep [] = refl
keys_filter keep (e ∷ t) = by (keep e.0) (keys_filter keep t)
  where
    by : (b : Bool) → keys_of (filter (λ e. keep e.0) t) ≡ filter keep (keys_of t) → ◌≡◌ {A = List Path} (keys_of (cond b (e ∷ filter (λ e. keep e.0) t) (filter (λ e. keep e.0) t))) (cond b (e.0 ∷ filter keep (keys_of t)) (filter keep (keys_of t)))
    by true rest = ap (λ ps. e.0 ∷ ps) rest
    by false rest = rest

-- ---- one mark, among those of an edit and those of its writes

module _ (t u : Nodes) (q : MarkAt) where
  -- it is this mark at that path
  abbrev hit : Mark → Path → Bool
  hit m p = same q (record { path = p; mark = m })

  each_any : (m : Mark) (ps : List Path) → list_any (same q) (mark_each m ps) ≡ list_any (hit m) ps
  each_any m [] = refl
  each_any m (p ∷ ps) = ap (λ b. hit m p || b) (each_any m ps)

  abbrev parent_hit : Path → Bool
  parent_hit p = option_map_or (hit Touch) (parent_of p) false

  abbrev stay_hit : Path → Bool
  stay_hit p = stays t u p && hit Guard p

  abbrev stay_parent : Path → Bool
  stay_parent p = stays t u p && parent_hit p

  abbrev cover_hit : Path → Bool
  cover_hit r = list_any (hit Guard) (covered_below t u r)

  -- what one write is the cause of
  abbrev caused : Write → Bool
  caused w =
      list_any (hit Exists) (moved_by w) || (list_any stay_hit (retyped_by w) || (list_any cover_hit (covers_by w)
      || (list_any parent_hit (moved_by w) || (list_any stay_parent (retyped_by w) || list_any (same q) (prop_marks w)))))

  touched : (o : Option Path) → list_any (same q) (option_map_or (λ r. record { path = r; mark = Touch } ∷ []) o []) ≡ option_map_or (hit Touch) o false
  touched None = refl
  touched (Some r) = or_none (hit Touch r)
    where
      or_none : (b : Bool) → (b || false) ≡ b
      or_none true = refl
      or_none false = refl

  moved_any : (e p c : Bool) → ((e || p) || c) ≡ ((e || false) || (false || ((c || false) || ((p || false) || (false || false)))))
  moved_any true p c = refl
  moved_any false true true = refl
  moved_any false true false = refl
  moved_any false false true = refl
  moved_any false false false = refl

  -- of a node that comes or goes
  of_moved : (p : Path) → list_any (same q) (marks_of_node p ++ mark_each Guard (covered_below t u p))
      ≡ ((hit Exists p || false) || (false || ((cover_hit p || false) || ((parent_hit p || false) || (false || false)))))
  of_moved p =
      list_any-append (same q) (marks_of_node p) (mark_each Guard (covered_below t u p))
      ∙ (ap (λ b. (hit Exists p || b) || list_any (same q) (mark_each Guard (covered_below t u p))) (touched (parent_of p))
      ∙ (ap (λ b. (hit Exists p || parent_hit p) || b) (each_any Guard (covered_below t u p)) ∙ moved_any (hit Exists p) (parent_hit p) (cover_hit p)))

  written_any : (b x y c : Bool) → ((b || (x || y)) || c) ≡ (false || (x || (c || (false || (y || (b || false))))))
  written_any true true y c = refl
  written_any true false true true = refl
  written_any true false true false = refl
  written_any true false false true = refl
  written_any true false false false = refl
  written_any false true y c = refl
  written_any false false true true = refl
  written_any false false true false = refl
  written_any false false false true = refl
  written_any false false false false = refl

  -- of a node whose types are written
  of_types : (ty : Bool) (p : Path) → list_any (same q) (cond ty (retyped_marks t u p) []) ≡ (list_any stay_hit (cond ty (p ∷ []) []) || list_any stay_parent (cond ty (p ∷ []) []))
  of_types false p = refl
  of_types true p = by (stays t u p)
    where
      two : (a b : Bool) → (a || b) ≡ ((a || false) || (b || false))
      two true b = refl
      two false true = refl
      two false false = refl

      by : (s : Bool) → list_any (same q) (cond s (record { path = p; mark = Guard } ∷ option_map_or (λ r. record { path = r; mark = Touch } ∷ []) (parent_of p) []) [])
          ≡ (((s && hit Guard p) || false) || ((s && parent_hit p) || false))
      by true = ap (λ b. hit Guard p || b) (touched (parent_of p)) ∙ two (hit Guard p) (parent_hit p)
      by false = refl

  of_covers : (cn : Bool) (p : Path) → list_any (same q) (cond cn (mark_each Guard (covered_below t u p)) []) ≡ list_any cover_hit (cond cn (p ∷ []) [])
  of_covers false p = refl
  of_covers true p = each_any Guard (covered_below t u p) ∙ or_none (cover_hit p)
    where
      or_none : (b : Bool) → b ≡ (b || false)
      or_none true = refl
      or_none false = refl

  -- of a property that is written
  of_written : (p : Path) (n : Name) → list_any (same q) ((record { path = p; mark = Prop n } ∷ cond (is_type_name n) (retyped_marks t u p) []) ++ cond (is_cover_name n) (mark_each Guard (covered_below t u p)) [])
      ≡ (false || (list_any stay_hit (cond (is_type_name n) (p ∷ []) []) || (list_any cover_hit (cond (is_cover_name n) (p ∷ []) [])
      || (false || (list_any stay_parent (cond (is_type_name n) (p ∷ []) []) || (hit (Prop n) p || false))))))
  of_written p n =
      list_any-append (same q) (record { path = p; mark = Prop n } ∷ cond (is_type_name n) (retyped_marks t u p) []) (cond (is_cover_name n) (mark_each Guard (covered_below t u p)) [])
      ∙ (ap (λ b. (hit (Prop n) p || b) || list_any (same q) (cond (is_cover_name n) (mark_each Guard (covered_below t u p)) [])) (of_types (is_type_name n) p)
      ∙ (ap (λ b. (hit (Prop n) p || (list_any stay_hit (cond (is_type_name n) (p ∷ []) []) || list_any stay_parent (cond (is_type_name n) (p ∷ []) []))) || b) (of_covers (is_cover_name n) p)
      ∙ written_any (hit (Prop n) p) (list_any stay_hit (cond (is_type_name n) (p ∷ []) [])) (list_any stay_parent (cond (is_type_name n) (p ∷ []) [])) (list_any cover_hit (cond (is_cover_name n) (p ∷ []) []))))

  of_write : (w : Write) → list_any (same q) (marks_by t u w) ≡ caused w
  of_write (Here p) = of_moved p
  of_write (Gone p) = of_moved p
  of_write (Put p n x) = of_written p n
  of_write (Unset p n) = of_written p n

  -- what all writes are the cause of
  abbrev all_caused : List Write → Bool
  all_caused ws =
      list_any (hit Exists) (flat_map moved_by ws) || (list_any stay_hit (flat_map retyped_by ws) || (list_any cover_hit (flat_map covers_by ws)
      || (list_any parent_hit (flat_map moved_by ws) || (list_any stay_parent (flat_map retyped_by ws) || list_any (same q) (flat_map prop_marks ws)))))

  abbrev here : {Y : Type 0} → (Y → Bool) → (Write → List Y) → Write → Bool
  here test f w = list_any test (f w)

  split : {Y : Type 0} (test : Y → Bool) (f : Write → List Y) (rest : Write → Bool) (ws : List Write) (all : Bool) → list_any rest ws ≡ all → list_any (λ w. list_any test (f w) || rest w) ws ≡ (list_any test (flat_map f ws) || all)
  split test f rest ws all h = any_or (λ w. list_any test (f w)) rest ws ∙ (ap (λ b. b || list_any rest ws) (sym (any_flat test f ws)) ∙ ap (λ b. list_any test (flat_map f ws) || b) h)

  of_writes : (ws : List Write) → list_any (same q) (flat_map (marks_by t u) ws) ≡ all_caused ws
  of_writes ws =
      any_flat (same q) (marks_by t u) ws
      ∙ ((λ i. list_any (λ w. of_write w i) ws)
      ∙ split (hit Exists) moved_by _ ws _ (split stay_hit retyped_by _ ws _ (split cover_hit covers_by _ ws _ (split parent_hit moved_by _ ws _ (split stay_parent retyped_by _ ws _ (sym (any_flat (same q) prop_marks ws)))))))

  -- ---- and among those of the edit

  abbrev anew : Path → Bool
  anew p = stays t u p && is_covered_anew t u p

  abbrev anew_hit : Path → Bool
  anew_hit p = anew p && hit Guard p

  newly : (ws : List Write) → ((p : Path) → is_covered_anew t u p ≡ true → list_any (is_under p) (flat_map covers_by ws) ≡ true) → list_any (hit Guard) (newly_covered t u) ≡ list_any cover_hit (flat_map covers_by ws)
  newly ws under =
      any_filter (hit Guard) anew (keys_of u)
      ∙ ((λ i. list_any (λ p. below p (anew p) refl i) (keys_of u))
      ∙ (sym (any_swapped is_under anew_hit (keys_of u) (flat_map covers_by ws)) ∙ (λ i. list_any (λ r. sym (each r) i) (flat_map covers_by ws))))
    where
      below : (p : Path) (b : Bool) → anew p ≡ b → (b && hit Guard p) ≡ (list_any (is_under p) (flat_map covers_by ws) && (b && hit Guard p))
      below p true h = sym (ap (λ c. c && hit Guard p) (under p (and_parts _ _ h).1))
      below p false h = never (list_any (is_under p) (flat_map covers_by ws))
        where
          never : (b : Bool) → false ≡ (b && false)
          never true = refl
          never false = refl

      each : (r : Path) → cover_hit r ≡ list_any (λ p. is_under p r && anew_hit p) (keys_of u)
      each r =
          any_filter (hit Guard) anew (keys_of (subtree_of u r))
          ∙ (ap (list_any anew_hit) (keys_filter (λ p. is_under p r) u) ∙ any_filter anew_hit (λ p. is_under p r) (keys_of u))

  order : (e g c p s r w : Bool) → (((e || (g || c)) || ((p || s) || r)) || w) ≡ ((e || (g || (c || (p || (s || w))))) || r)
  order true g c p s r w = refl
  order false true c p s r w = refl
  order false false true p s r w = refl
  order false false false true s r w = refl
  order false false false false true r w = refl
  order false false false false false true true = refl
  order false false false false false true false = refl
  order false false false false false false true = refl
  order false false false false false false false = refl

  of_edit : (ws : List Write) → ((p : Path) → is_covered_anew t u p ≡ true → list_any (is_under p) (flat_map covers_by ws) ≡ true)
      → list_any (same q)
      (mark_each Exists (flat_map moved_by ws)
      ++ mark_each Guard (retyped t u ws ++ newly_covered t u)
      ++ mark_each Touch (filter_map parent_of (flat_map moved_by ws ++ retyped t u ws) ++ filter_map (target_of u) (flat_map (new_references t) ws))
      ++ flat_map prop_marks ws)
      ≡ (all_caused ws || list_any (same q) (mark_each Touch (filter_map (target_of u) (flat_map (new_references t) ws))))
  of_edit ws under =
      list_any-append (same q) (exists ++ guards ++ touches) (flat_map prop_marks ws)
      ∙ (ap (λ b. b || list_any (same q) (flat_map prop_marks ws))
      (list_any-append (same q) (exists ++ guards) touches
      ∙ (ap (λ b. b || list_any (same q) touches) (list_any-append (same q) exists guards ∙ (ap (λ b. b || list_any (same q) guards) (each_any Exists moved) ∙ ap (λ b. list_any (hit Exists) moved || b) guarding))
      ∙ ap (λ b. (list_any (hit Exists) moved || (list_any stay_hit (flat_map retyped_by ws) || list_any cover_hit (flat_map covers_by ws))) || b) touching))
      ∙ order (list_any (hit Exists) moved) (list_any stay_hit (flat_map retyped_by ws)) (list_any cover_hit (flat_map covers_by ws)) (list_any parent_hit moved) (list_any stay_parent (flat_map retyped_by ws)) (list_any (same q) (mark_each Touch targets)) (list_any (same q) (flat_map prop_marks ws)))
    where
      moved : List Path
      moved = flat_map moved_by ws

      types : List Path
      types = retyped t u ws

      targets : List Path
      targets = filter_map (target_of u) (flat_map (new_references t) ws)

      exists : List MarkAt
      exists = mark_each Exists moved

      guards : List MarkAt
      guards = mark_each Guard (types ++ newly_covered t u)

      touches : List MarkAt
      touches = mark_each Touch (filter_map parent_of (moved ++ types) ++ targets)

      guarding : list_any (same q) guards ≡ (list_any stay_hit (flat_map retyped_by ws) || list_any cover_hit (flat_map covers_by ws))
      guarding =
          each_any Guard (types ++ newly_covered t u)
          ∙ (list_any-append (hit Guard) types (newly_covered t u)
          ∙ (ap (λ b. b || list_any (hit Guard) (newly_covered t u)) (any_filter (hit Guard) (stays t u) (flat_map retyped_by ws)) ∙ ap (λ b. list_any stay_hit (flat_map retyped_by ws) || b) (newly ws under)))

      touching : list_any (same q) touches ≡ ((list_any parent_hit moved || list_any stay_parent (flat_map retyped_by ws)) || list_any (same q) (mark_each Touch targets))
      touching =
          each_any Touch (filter_map parent_of (moved ++ types) ++ targets)
          ∙ (list_any-append (hit Touch) (filter_map parent_of (moved ++ types)) targets
          ∙ (ap (λ b. list_any (hit Touch) (filter_map parent_of (moved ++ types)) || b) (sym (each_any Touch targets))
          ∙ ap (λ b. b || list_any (same q) (mark_each Touch targets))
          (any_filter_map (hit Touch) parent_of (moved ++ types) ∙ (list_any-append parent_hit moved types ∙ ap (λ b. list_any parent_hit moved || b) (any_filter parent_hit (stays t u) (flat_map retyped_by ws))))))

-- the marks that are found are those of the edit
pub marks_found : (t : Nodes) (ws : List Write) (u : Nodes) (found : Marked) → is_sorted path_cmp t ≡ true → u ≡ applied None t ws
    → found ≡ with_marks (fold (λ es w. with_marks es (marks_by t u w)) [] ws) (mark_each Touch (filter_map (target_of u) (flat_map (new_references t) ws))) → keys_of found ≡ marks_of t ws
marks_found t ws u found sorted is made =
    ap keys_of (made ∙ (ap (λ es. with_all es targets) (with_each (marks_by t u) [] ws) ∙ sym (all_after [] (flat_map (marks_by t u) ws) targets)))
    ∙ (same_marks (flat_map (marks_by t u) ws ++ targets) _
    (λ q. list_any-append (same q) (flat_map (marks_by t u) ws) targets
    ∙ (ap (λ b. b || list_any (same q) targets) (of_writes t u q ws)
    ∙ sym (of_edit t u q ws (subst (λ (v : Nodes). (p : Path) → is_covered_anew t v p ≡ true → list_any (is_under p) (flat_map covers_by ws) ≡ true) (sym is) (covered_under t ws sorted)))))
    ∙ ap (λ (v : Nodes). marks_between t v ws) is)
  where
    targets : List MarkAt
    targets = mark_each Touch (filter_map (target_of u) (flat_map (new_references t) ws))
