-- The rule of node types beside the others, and what it says of the tree.
use Rattle.std.proofs.Common.{◌≡◌, ℕ, ◌+◌, Bool, true, false, cond, List, [], ◌∷◌, ◌++◌, Option, None, Some, length, map, ◌&&◌, refl, sym, ap, ◌∙◌, subst, is_some, arith}
use Rattle.std.specs.List.{flat_map, list_all}
use Rattle.std.specs.Map.{keys_of, values_of}
use Rattle.std.specs.Option.{option_map, option_or}
use Rattle.std.proofs.lemmas.Bool.{false≢true}
use Rattle.jr_path.specs.declared.path.Path.{Path}
use Rattle.jr_path.specs.declared.path.DocId.{DocId}
use Rattle.jr_path.specs.declared.path.DocId.TheVariants.{Node}
use Rattle.jr_items.specs.Items.{is_empty}
use Rattle.jr_tree.specs.declared.tree.Node.{Node as TreeNode}
use Rattle.jr_tree.specs.Trees.{Nodes, node_at}
use Rattle.jr_types.specs.declared.TypeDef.{TypeDef}
use Rattle.jr_types.specs.Rules.{TypesOk}
use Rattle.jr_rules.specs.Violations.{violations, violations_at, Violation}
use Rattle.jr_rules.proofs.Meeting.{meets_rules}
use Rattle.oak_doc.specs.declared.document.Document.{Document}
use Rattle.oak_store.specs.Tables.{Table, by_id}
use Rattle.oak_sound.specs.Meant.{ById, opened_at, opened_tree, swept}
use Rattle.oak_sound.specs.Sound.{DocumentRule, first_breaking, first_broken, first_broken_of, rules}
use Rattle.oak_open.specs.Opened.{opened}
use Rattle.oak_open.specs.Opening.{Blames, IsOpened}
use Rattle.oak_open.specs.declared.fault.OpenFault.{OpenFault}
use Rattle.oak_open.specs.declared.fault.OpenFault.TheVariants as fault
use Rattle.oak_open.specs.declared.open.Opened.{Opened}
use Rattle.oak_open.proofs.Numbered.{all_keep, ids_stay, keys_by_id, values_by_id}
use Rattle.oak_open.proofs.Shown.{all_shown, found, shown_at}
use Rattle.jr_open.specs.Typed.{IsOpenedWithTypes, first_broken_with_types, keeps_types}

-- one more rule behind others
pub one_rule_more : (rs : List (ℕ × DocumentRule)) (n : ℕ) (rule : DocumentRule) (ds : ById)
    → first_broken_of (rs ++ (n, rule) ∷ []) ds
    ≡ option_or (first_broken_of rs ds) (option_map (λ i. (n, i)) (first_breaking rule [] ds))
one_rule_more [] n rule ds = or_none (option_map (λ i. (n, i)) (first_breaking rule [] ds))
  where
    or_none : (o : Option (ℕ × ℕ)) → option_or o None ≡ o
    or_none None = refl
    or_none (Some x) = refl
one_rule_more (r ∷ rs) n rule ds =
    by (option_map (λ i. (r.0, i)) (first_breaking r.1 [] ds)) (one_rule_more rs n rule ds)
  where
    by : (o : Option (ℕ × ℕ))
        → first_broken_of (rs ++ (n, rule) ∷ []) ds ≡ option_or (first_broken_of rs ds) (option_map (λ i. (n, i)) (first_breaking rule [] ds))
        → option_or o (first_broken_of (rs ++ (n, rule) ∷ []) ds)
        ≡ option_or (option_or o (first_broken_of rs ds)) (option_map (λ i. (n, i)) (first_breaking rule [] ds))
    by None rest = rest
    by (Some x) rest = refl

-- a rule of ids alone is broken at the same place by documents of the same ids
pub same_place : (K : DocId → Bool) (before others ds es : ById) → length before ≡ length others → keys_of ds ≡ keys_of es
    → first_breaking (λ b e. K e.0) before ds ≡ first_breaking (λ b e. K e.0) others es
same_place K before others [] [] size same = refl
same_place K before others [] (e ∷ es) size same = grind arith
same_place K before others (d ∷ ds) [] size same = grind arith
same_place K before others (d ∷ ds) (e ∷ es) size same =
    by (K d.0) refl (same_place K (before ++ d ∷ []) (others ++ e ∷ []) ds es (longer before others d e size) (same_rest same))
  where
    one : d.0 ≡ e.0
    one = cc

    same_rest : d.0 ∷ keys_of ds ≡ e.0 ∷ keys_of es → keys_of ds ≡ keys_of es
    same_rest k = cc

    longer : (xs ys : ById) (x y : DocId × Document) → length xs ≡ length ys → length (xs ++ x ∷ []) ≡ length (ys ++ y ∷ [])
    longer [] [] x y h = refl
    longer [] (z ∷ ys) x y h = absurd (omega (arith, h))
    longer (z ∷ xs) [] x y h = absurd (omega (arith, h))
    longer (z ∷ xs) (w ∷ ys) x y h = let more : length (xs ++ x ∷ []) ≡ length (ys ++ y ∷ []) = longer xs ys x y (omega (arith, h)) in omega arith

    by : (b : Bool) → K d.0 ≡ b
        → first_breaking (λ b e. K e.0) (before ++ d ∷ []) ds ≡ first_breaking (λ b e. K e.0) (others ++ e ∷ []) es
        → first_breaking (λ b e. K e.0) before (d ∷ ds) ≡ first_breaking (λ b e. K e.0) others (e ∷ es)
    by true is rest =
        ap (λ c. cond c (first_breaking (λ b e. K e.0) (before ++ d ∷ []) ds) (Some (length before))) is
        ∙ rest
        ∙ sym (ap (λ c. cond c (first_breaking (λ b e. K e.0) (others ++ e ∷ []) es) (Some (length others))) (sym (ap K one) ∙ is))
    by false is rest =
        ap (λ c. cond c (first_breaking (λ b e. K e.0) (before ++ d ∷ []) ds) (Some (length before))) is
        ∙ ap Some size
        ∙ sym (ap (λ c. cond c (first_breaking (λ b e. K e.0) (others ++ e ∷ []) es) (Some (length others))) (sym (ap K one) ∙ is))

-- the opened documents have the ids of those that are opened
pub same_ids : (clusters sessions : ℕ) (items : List Document)
    → keys_of (by_id (opened clusters sessions (by_id items)).0) ≡ keys_of (by_id items)
same_ids clusters sessions items =
    sym (keys_by_id (opened clusters sessions (by_id items)).0)
    ∙ ids_stay (by_id items) _ sessions _ (values_of (by_id items))
    ∙ ap (map (λ d. d.id)) (values_by_id items)
    ∙ keys_by_id items

empty_is : {X : Type 0} (xs : List X) → is_empty xs ≡ true → xs ≡ []
empty_is [] h = refl
empty_is (x ∷ xs) h = absurd (false≢true h)

-- where each entry of a tree breaks no rule, none is broken
none_listed : (types : List TypeDef) (t es : Nodes) → list_all (λ e. is_empty (violations_at types t e.0)) es ≡ true
    → flat_map (λ e. violations_at types t e.0) es ≡ []
none_listed types t [] h = refl
none_listed types t (e ∷ es) h = by (is_empty (violations_at types t e.0)) refl h (λ all. none_listed types t es all)
  where
    by : (b : Bool) → is_empty (violations_at types t e.0) ≡ b
        → (b && list_all (λ e. is_empty (violations_at types t e.0)) es) ≡ true
        → (list_all (λ e. is_empty (violations_at types t e.0)) es ≡ true → flat_map (λ e. violations_at types t e.0) es ≡ [])
        → flat_map (λ e. violations_at types t e.0) (e ∷ es) ≡ []
    by true is all rest =
        ap (λ (l : List Violation). l ++ flat_map (λ e. violations_at types t e.0) es) (empty_is (violations_at types t e.0) is)
        ∙ rest all
    by false is all rest = absurd (false≢true all)

-- a tree whose documents keep the rule lists no violation
pub none_violated : (clusters : ℕ) (types : List TypeDef) (ds : ById)
    → first_breaking (λ before e. keeps_types types (opened_tree clusters ds) e.0) [] ds ≡ None
    → violations types (opened_tree clusters ds) ≡ []
none_violated clusters types ds none =
    none_listed types tree tree
    (all_shown ds (swept ds) (opened_at clusters ds) (λ e. is_empty (violations_at types tree e.0)) (λ e. keeps_types types tree e.0) each
    (all_keep (λ e. keeps_types types tree e.0) [] ds none))
  where
    tree : Nodes
    tree = opened_tree clusters ds

    each : (q : Path) (d : Document) (x : TreeNode) → keeps_types types tree (Node q) ≡ true
        → found ds (swept ds) (opened_at clusters ds) q ≡ Some x → is_empty (violations_at types tree q) ≡ true
    each q d x keeps is =
        sym (ap (λ b. cond b (is_empty (violations_at types tree q)) true)
        (ap is_some (shown_at ds (swept ds) (opened_at clusters ds) q ∙ is))) ∙ keeps

module _ (clusters sessions : ℕ) (types : List TypeDef) (items : List Document) where
  abbrev type_rule : Nodes → DocumentRule
  type_rule tree = λ before e. keeps_types types tree e.0

  -- the opened table breaks the rule where the documents do
  same_rule : (begun : Opened) → IsOpened clusters sessions (by_id items) begun
      → first_breaking (type_rule begun.tree) [] begun.table.documents
      ≡ first_breaking (type_rule (opened_tree clusters (by_id items))) [] (by_id items)
  same_rule begun is =
      ap (λ tree. first_breaking (type_rule tree) [] begun.table.documents) is.shown
      ∙ ap (λ (table : Table). first_breaking (type_rule (opened_tree clusters (by_id items))) [] table.documents) is.documents
      ∙ same_place (keeps_types types (opened_tree clusters (by_id items))) [] [] _ (by_id items) refl (same_ids clusters sessions items)

  -- of sound documents the six rules say what the sixth says
  sixth_alone : (begun : Opened) → IsOpened clusters sessions (by_id items) begun
      → first_broken_with_types clusters types (by_id items)
      ≡ option_map (λ i. (6, i)) (first_breaking (type_rule begun.tree) [] begun.table.documents)
  sixth_alone begun is =
      one_rule_more (rules clusters (by_id items)) 6 (type_rule (opened_tree clusters (by_id items))) (by_id items)
      ∙ ap (λ o. option_or o (option_map (λ i. (6, i)) (first_breaking (type_rule (opened_tree clusters (by_id items))) [] (by_id items)))) is.sound
      ∙ ap (option_map (λ i. (6, i))) (sym (same_rule begun is))

  -- where the sixth holds too, all is said of what is opened
  pub opened_typed : (begun typed : Opened) → IsOpened clusters sessions (by_id items) begun → typed ≡ begun
      → first_breaking (type_rule begun.tree) [] begun.table.documents ≡ None → IsOpenedWithTypes clusters sessions types (by_id items) typed
  opened_typed begun typed is same none =
      subst (IsOpenedWithTypes clusters sessions types (by_id items)) (sym same) (record {
        opened = is;
        sound = sixth_alone begun is ∙ ap (option_map (λ i. (6, i))) none;
        typed = subst (TypesOk types) (sym is.shown) (meets_rules types (opened_tree clusters (by_id items))
            (none_violated clusters types (by_id items) (sym (same_rule begun is) ∙ none)));
      })

  -- else the sixth is told
  pub sixth_told : (begun : Opened) (fault : OpenFault) → IsOpened clusters sessions (by_id items) begun
      → Blames (option_map (λ i. (6, i)) (first_breaking (type_rule begun.tree) [] begun.table.documents)) fault
      → Blames (first_broken_with_types clusters types (by_id items)) fault
  sixth_told begun fault is blamed = subst (λ broken. Blames broken fault) (sym (sixth_alone begun is)) blamed

-- what breaks one of the five breaks it among the six
pub five_told : (clusters : ℕ) (types : List TypeDef) (ds : ById) (f : OpenFault) → Blames (first_broken clusters ds) f
    → Blames (first_broken_with_types clusters types ds) f
five_told clusters types ds (fault.Unsound rule document) is =
    one_rule_more (rules clusters ds) 6 (λ before e. keeps_types types (opened_tree clusters ds) e.0) ds
    ∙ ap (λ o. option_or o (option_map (λ i. (6, i)) (first_breaking (λ before e. keeps_types types (opened_tree clusters ds) e.0) [] ds))) is
five_told clusters types ds fault.Memory is = is
