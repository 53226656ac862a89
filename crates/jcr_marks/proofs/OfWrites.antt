-- The Exists and Props among the marks of an edit are those of its writes.
use Rattle.std.proofs.Common.{◌≡◌, Bool, true, false, cond, ◌||◌, Some, None, Option, List, [], ◌∷◌, ◌++◌, refl, sym, ap, ◌∙◌}
use Rattle.std.specs.declared.cmp.Ordering.{Ordering}
use Rattle.std.specs.declared.cmp.Ordering.TheVariants.{Less, Equal, Greater}
use Rattle.std.specs.Cmp.{IsTotalOrder, then_total, on_total, nat_cmp_total}
use Rattle.std.specs.FinMap.{is_sorted}
use Rattle.std.specs.List.{filter, filter_map, flat_map, fold, list_any}
use Rattle.std.specs.Map.{keys_of, lookup}
use Rattle.std.specs.BTreeMap.{insert_entry, is_at}
use Rattle.std.specs.Option.{option_map_or}
use Rattle.std.specs.Ordering.{is_eq, eq_by_cmp, ordering_then}
use Rattle.std.proofs.lemmas.Cmp.{nat_list_cmp_total}
use Rattle.std.proofs.lemmas.List.Folds.{list_any-append}
use mathlib.Core.Bool.{false≢true}
use Rattle.jr_path.specs.Names.{path_cmp, parent_of}
use Rattle.jr_path.specs.declared.path.Path.{Path}
use Rattle.jr_path.proofs.Maps.{path_total, lookup-insert_entry}
use Rattle.jr_tree.specs.declared.edit.Write.{Write}
use Rattle.jr_tree.specs.declared.edit.Write.TheVariants.{Here, Gone, Put, Unset}
use Rattle.jr_tree.specs.Trees.{Nodes}
use Rattle.oak_clash.specs.declared.mark.Mark.{Mark}
use Rattle.oak_clash.specs.declared.mark.Mark.TheVariants.{Exists, Guard, Touch, Prop}
use Rattle.oak_clash.specs.declared.mark.MarkAt.{MarkAt}
use Rattle.jr_tree.specs.Edits.{applied}
use Rattle.oak_machine.specs.Laws.{is_of_item, is_of_item_mark}
use Rattle.oak_machine.specs.Marks.{Marked, mark_rank, mark_name, mark_at_cmp, marks_for, marks_of_node, marks_of_write, with_marks}
use Rattle.jcr_ref.specs.References.{target_of}
use Rattle.jcr_marks.specs.Marks.{mark_each, moved_by, prop_marks, retyped, newly_covered, new_references, marks_of}
use Rattle.jr_tree.proofs.Entries.{same_lists, sorted_filter, sorted_insert}
use Rattle.jcr_marks.proofs.Membership.{mark_at_exact}

pub total : IsTotalOrder mark_at_cmp
total = then_total (on_total (λ (m : MarkAt). m.path) path_total) (on_total (λ (m : MarkAt). m.mark) (then_total (on_total mark_rank nat_cmp_total) (on_total mark_name nat_list_cmp_total)))

abbrev pub same : MarkAt → MarkAt → Bool
same = eq_by_cmp mark_at_cmp

exactly : (o : Ordering) → is_eq o ≡ true → o ≡ Equal
exactly Less h = absurd (false≢true h)
exactly Equal h = refl
exactly Greater h = absurd (false≢true h)

same_mark : (a b : MarkAt) → same a b ≡ true → a ≡ b
same_mark a b h = mark_at_exact a b (exactly _ h)

-- ---- a set of marks, as a map in order

abbrev pub IsMap : Marked → Type 0
IsMap es = is_sorted mark_at_cmp es ≡ true

abbrev pub at : MarkAt → Marked → Option Bool
at q es = lookup (is_at (mark_at_cmp q)) es

abbrev pub with_all : Marked → List MarkAt → Marked
with_all es ms = fold (λ es m. insert_entry mark_at_cmp es m true) es ms

pub in_order_all : (es : Marked) (ms : List MarkAt) → IsMap es → IsMap (with_all es ms)
in_order_all es [] h = h
in_order_all es (m ∷ ms) h = in_order_all (insert_entry mark_at_cmp es m true) ms (sorted_insert mark_at_cmp total m true es h)

or_cond : (a b : Bool) (o : Option Bool) → cond a (Some true) (cond b (Some true) o) ≡ cond (b || a) (Some true) o
or_cond true true o = refl
or_cond true false o = refl
or_cond false true o = refl
or_cond false false o = refl

pub at_all : (q : MarkAt) (es : Marked) (ms : List MarkAt) → at q (with_all es ms) ≡ cond (list_any (same q) ms) (Some true) (at q es)
at_all q es [] = refl
at_all q es (m ∷ ms) =
    at_all q (insert_entry mark_at_cmp es m true) ms
    ∙ (ap (cond (list_any (same q) ms) (Some true)) (lookup-insert_entry mark_at_cmp total q m true es)
    ∙ or_cond (list_any (same q) ms) (same q m) (at q es))

-- that of each write, one after another
abbrev with_each : Marked → List Write → Marked
with_each es ws = fold (λ es w. with_marks es (marks_of_write w)) es ws

-- ---- those of items

abbrev items : Marked → Marked
items es = filter (λ e. is_of_item e.0) es

filter_keys : (es : Marked) → filter is_of_item (keys_of es) ≡ keys_of (items es)
filter_keys [] = refl
filter_keys (e ∷ es) = by (is_of_item e.0) (filter_keys es)
  where
    by : (b : Bool) → filter is_of_item (keys_of es) ≡ keys_of (items es) → ◌≡◌ {A = List MarkAt} (cond b (e.0 ∷ filter is_of_item (keys_of es)) (filter is_of_item (keys_of es))) (keys_of (cond b (e ∷ items es) (items es)))
    by true rest = ap (λ ms. e.0 ∷ ms) rest
    by false rest = rest

at_items : (q : MarkAt) (es : Marked) → at q (items es) ≡ cond (is_of_item q) (at q es) None
at_items q [] = by (is_of_item q)
  where
    by : (b : Bool) → ◌≡◌ {A = Option Bool} None (cond b None None)
    by true = refl
    by false = refl
at_items q (e ∷ es) = by (is_of_item e.0) refl (same q e.0) refl (at_items q es)
  where
    by : (t : Bool) → is_of_item e.0 ≡ t → (s : Bool) → same q e.0 ≡ s → at q (items es) ≡ cond (is_of_item q) (at q es) None → at q (cond t (e ∷ items es) (items es)) ≡ cond (is_of_item q) (cond (same q e.0) (Some e.1) (at q es)) None
    by true h true k rest =
        ap (λ b. cond b (Some e.1) (at q (items es))) k
        ∙ (sym (ap (λ b. cond b (Some e.1) None) (ap is_of_item (same_mark q e.0 k) ∙ h)) ∙ ap (λ b. cond (is_of_item q) (cond b (Some e.1) (at q es)) None) (sym k))
    by true h false k rest = ap (λ b. cond b (Some e.1) (at q (items es))) k ∙ (rest ∙ ap (λ b. cond (is_of_item q) (cond b (Some e.1) (at q es)) None) (sym k))
    by false h true k rest =
        let not_item : is_of_item q ≡ false = ap is_of_item (same_mark q e.0 k) ∙ h in
        rest ∙ (ap (λ b. cond b (at q es) None) not_item ∙ sym (ap (λ b. cond b (cond (same q e.0) (Some e.1) (at q es)) None) not_item))
    by false h false k rest = rest ∙ ap (λ b. cond (is_of_item q) (cond b (Some e.1) (at q es)) None) (sym k)

-- lists that have the same items have the same marks of items, in order
same_items : (ms os : List MarkAt) → ((q : MarkAt) → is_of_item q ≡ true → list_any (same q) ms ≡ list_any (same q) os)
    → filter is_of_item (keys_of (with_all [] ms)) ≡ filter is_of_item (keys_of (with_all [] os))
same_items ms os each =
    filter_keys (with_all [] ms)
    ∙ (ap keys_of (same_lists mark_at_cmp total mark_at_exact (items (with_all [] ms)) (items (with_all [] os))
    (sorted_filter mark_at_cmp (λ e. is_of_item e.0) (with_all [] ms) (in_order_all [] ms refl)) (sorted_filter mark_at_cmp (λ e. is_of_item e.0) (with_all [] os) (in_order_all [] os refl))
    (λ q. at_items q (with_all [] ms) ∙ (by q (is_of_item q) refl ∙ sym (at_items q (with_all [] os)))))
    ∙ sym (filter_keys (with_all [] os)))
  where
    by : (q : MarkAt) (b : Bool) → is_of_item q ≡ b → cond (is_of_item q) (at q (with_all [] ms)) None ≡ cond (is_of_item q) (at q (with_all [] os)) None
    by q true h = ap (λ o. cond (is_of_item q) o None) (at_all q [] ms ∙ (ap (λ b. cond b (Some true) None) (each q h) ∙ sym (at_all q [] os)))
    by q false h = ap (λ b. cond b (at q (with_all [] ms)) None) h ∙ sym (ap (λ b. cond b (at q (with_all [] os)) None) h)

pub all_after : (es : Marked) (ms os : List MarkAt) → with_all es (ms ++ os) ≡ with_all (with_all es ms) os
all_after es [] os = refl
all_after es (m ∷ ms) os = all_after (insert_entry mark_at_cmp es m true) ms os

each_is_all : (es : Marked) (ws : List Write) → with_each es ws ≡ with_all es (flat_map marks_of_write ws)
each_is_all es [] = refl
each_is_all es (w ∷ ws) = each_is_all (with_marks es (marks_of_write w)) ws ∙ sym (all_after es (marks_of_write w) (flat_map marks_of_write ws))

-- ---- no Guard and no Touch is of an item

never : (o : Ordering) → is_eq (ordering_then o Less) ≡ false
never Less = refl
never Equal = refl
never Greater = refl

never_greater : (o : Ordering) → is_eq (ordering_then o Greater) ≡ false
never_greater Less = refl
never_greater Equal = refl
never_greater Greater = refl

no_touch : (r p : Path) (m : Mark) → is_of_item_mark m ≡ true → same (record { path = r; mark = m }) (record { path = p; mark = Touch }) ≡ false
no_touch r p Exists h = never (path_cmp r p)
no_touch r p Guard h = absurd (false≢true h)
no_touch r p Touch h = absurd (false≢true h)
no_touch r p (Prop n) h = never_greater (path_cmp r p)

no_guard : (r p : Path) (m : Mark) → is_of_item_mark m ≡ true → same (record { path = r; mark = m }) (record { path = p; mark = Guard }) ≡ false
no_guard r p Exists h = never (path_cmp r p)
no_guard r p Guard h = absurd (false≢true h)
no_guard r p Touch h = absurd (false≢true h)
no_guard r p (Prop n) h = never_greater (path_cmp r p)

none_each : (q : MarkAt) (m : Mark) → ((p : Path) → same q (record { path = p; mark = m }) ≡ false) → (ps : List Path) → list_any (same q) (mark_each m ps) ≡ false
none_each q m no_one [] = refl
none_each q m no_one (p ∷ ps) = ap (λ b. b || list_any (same q) (mark_each m ps)) (no_one p) ∙ none_each q m no_one ps

-- ---- the Exists and Props of writes

moves_node : (x a b c t : Bool) → t ≡ false → (a || b) ≡ c → ((x || a) || b) ≡ ((x || t) || c)
moves_node true a b c t e h = refl
moves_node false a b c t e h = h ∙ ap (λ u. u || c) (sym e)

writes_property : (x a b c : Bool) → (a || b) ≡ c → (a || (x || b)) ≡ (x || c)
writes_property true true b c h = refl
writes_property true false b c h = refl
writes_property false a b c h = h

parent_none : (q : MarkAt) → ((p : Path) → same q (record { path = p; mark = Touch }) ≡ false) → (o : Option Path) → list_any (same q) (option_map_or (λ p. record { path = p; mark = Touch } ∷ []) o []) ≡ false
parent_none q no_one None = refl
parent_none q no_one (Some p) = ap (λ b. b || false) (no_one p)

of_writes : (q : MarkAt) → is_of_item q ≡ true → (ws : List Write) → (list_any (same q) (mark_each Exists (flat_map moved_by ws)) || list_any (same q) (flat_map prop_marks ws)) ≡ list_any (same q) (flat_map marks_of_write ws)
of_writes q item [] = refl
of_writes q item (Here p ∷ ws) =
    moves_node (same q (record { path = p; mark = Exists })) (list_any (same q) (mark_each Exists (flat_map moved_by ws))) (list_any (same q) (flat_map prop_marks ws)) (list_any (same q) (flat_map marks_of_write ws))
    (list_any (same q) (option_map_or (λ p. record { path = p; mark = Touch } ∷ []) (parent_of p) [])) (parent_none q (λ r. no_touch q.path r q.mark item) (parent_of p)) (of_writes q item ws)
    ∙ sym (list_any-append (same q) (marks_of_node p) (flat_map marks_of_write ws))
of_writes q item (Gone p ∷ ws) =
    moves_node (same q (record { path = p; mark = Exists })) (list_any (same q) (mark_each Exists (flat_map moved_by ws))) (list_any (same q) (flat_map prop_marks ws)) (list_any (same q) (flat_map marks_of_write ws))
    (list_any (same q) (option_map_or (λ p. record { path = p; mark = Touch } ∷ []) (parent_of p) [])) (parent_none q (λ r. no_touch q.path r q.mark item) (parent_of p)) (of_writes q item ws)
    ∙ sym (list_any-append (same q) (marks_of_node p) (flat_map marks_of_write ws))
of_writes q item (Put p n x ∷ ws) = writes_property (same q (record { path = p; mark = Prop n })) (list_any (same q) (mark_each Exists (flat_map moved_by ws))) (list_any (same q) (flat_map prop_marks ws)) _ (of_writes q item ws)
of_writes q item (Unset p n ∷ ws) = writes_property (same q (record { path = p; mark = Prop n })) (list_any (same q) (mark_each Exists (flat_map moved_by ws))) (list_any (same q) (flat_map prop_marks ws)) _ (of_writes q item ws)

-- ---- the marks of an edit

four : (e g t p : Bool) → g ≡ false → t ≡ false → (((e || g) || t) || p) ≡ (e || p)
four e g t p h k = ap (λ x. ((e || x) || t) || p) h ∙ (ap (λ x. ((e || false) || x) || p) k ∙ by e)
  where
    by : (e : Bool) → (((e || false) || false) || p) ≡ (e || p)
    by true = refl
    by false = refl

of_parts : (q : MarkAt) → is_of_item q ≡ true → (es gs ts : List Path) (ps : List MarkAt)
    → list_any (same q) (mark_each Exists es ++ mark_each Guard gs ++ mark_each Touch ts ++ ps) ≡ (list_any (same q) (mark_each Exists es) || list_any (same q) ps)
of_parts q item es gs ts ps =
    list_any-append (same q) (mark_each Exists es ++ mark_each Guard gs ++ mark_each Touch ts) ps
    ∙ (ap (λ b. b || list_any (same q) ps) (list_any-append (same q) (mark_each Exists es ++ mark_each Guard gs) (mark_each Touch ts)
    ∙ ap (λ b. b || list_any (same q) (mark_each Touch ts)) (list_any-append (same q) (mark_each Exists es) (mark_each Guard gs)))
    ∙ four (list_any (same q) (mark_each Exists es)) (list_any (same q) (mark_each Guard gs)) (list_any (same q) (mark_each Touch ts)) (list_any (same q) ps)
    (none_each q Guard (λ r. no_guard q.path r q.mark item) gs) (none_each q Touch (λ r. no_touch q.path r q.mark item) ts))

pub items_of_marks : (t u : Nodes) (ws : List Write) → filter is_of_item (marks_of t ws) ≡ filter is_of_item (marks_for u ws)
items_of_marks t u ws =
    let moved = flat_map moved_by ws in
    let types = retyped t (applied None t ws) ws in
    let guarded = types ++ newly_covered t (applied None t ws) in
    let touched = filter_map parent_of (moved ++ types) ++ filter_map (target_of (applied None t ws)) (flat_map (new_references t) ws) in
    same_items (mark_each Exists moved ++ mark_each Guard guarded ++ mark_each Touch touched ++ flat_map prop_marks ws) (flat_map marks_of_write ws)
    (λ q item. of_parts q item moved guarded touched (flat_map prop_marks ws) ∙ of_writes q item ws)
    ∙ ap (λ (es : Marked). filter is_of_item (keys_of es)) (sym (each_is_all [] ws))
