-- What an edit makes of each item: its last write there, or else what was there.
use Rattle.std.proofs.Common.{◌≡◌, Bool, true, false, cond, ◌&&◌, ◌||◌, Some, None, Option, List, [], ◌∷◌, refl, sym, ap, ◌∙◌, subst, is_some}
use Rattle.std.specs.Option.{option_map_or, option_map, option_or, unwrap_or}
use Rattle.std.specs.Ordering.{eq_by_cmp}
use Rattle.std.specs.Map.{lookup, remove_entry}
use Rattle.std.specs.BTreeMap.{is_at, insert_entry}
use Rattle.std.specs.List.{fold, list_any}
use Rattle.std.specs.FinMap.{is_sorted}
use Rattle.std.proofs.lemmas.Cmp.{nat_list_cmp_total}
use mathlib.Core.Bool.{false≢true}
use Rattle.jr_path.specs.Names.{name_cmp, path_cmp}
use Rattle.jr_path.specs.declared.name.Name.{Name}
use Rattle.jr_path.specs.declared.path.Path.{Path}
use Rattle.jr_path.proofs.Maps.{lookup-insert_entry}
use Rattle.jr_rev.specs.declared.revision.Revision.{Revision}
use Rattle.jr_value.specs.declared.value.Property.{Property}
use Rattle.jr_tree.specs.declared.tree.Node.{Node}
use Rattle.jr_tree.specs.declared.edit.Write.{Write}
use Rattle.jr_tree.specs.declared.edit.Write.TheVariants.{Here, Gone, Put, Unset}
use Rattle.jr_tree.specs.Trees.{Nodes, born_of, born_at, has_names_in_order, node_at, property_at}
use Rattle.jr_tree.specs.Edits.{applied, last_writes, is_same_item}
use Rattle.jr_tree.specs.Items.{here_of, put_of, is_gone_of, written, has_after, born_after, property_after, Fits}
use Rattle.jr_tree.proofs.Written.{here_reads, put_reads, written_among, written_last, or_none, none_from}
use Rattle.jr_tree.proofs.Entries.{first, second, sorted_insert, sorted_remove, lookup-remove}
use Rattle.jr_tree.proofs.AtPath.{come, filled, prop_of, props_of, InOrder, node_at-applied}

-- ---- nodes

or_twice : {X : Type 0} (a b : Option X) (c : X) → unwrap_or a (unwrap_or b c) ≡ unwrap_or (option_or a b) c
or_twice None b c = refl
or_twice (Some x) b c = refl

some_stays : {X : Type 0} (o r : Option X) → is_some o ≡ true → option_or o r ≡ o
some_stays None r h = absurd (false≢true h)
some_stays (Some x) r h = refl

-- what the last write of a node makes of the node at a path
abbrev pub stood : Option Revision → Option Node → Option Bool → Option Node
stood born o None = o
stood born o (Some true) = Some (record { props = props_of o; born = born })
stood born o (Some false) = None

stood_has : (born : Option Revision) (o : Option Node) (h : Option Bool) → is_some (stood born o h) ≡ unwrap_or h (is_some o)
stood_has born o None = refl
stood_has born o (Some true) = refl
stood_has born o (Some false) = refl

came : (born : Option Revision) (p : Path) (o : Option Node) (w : Write) → come born p o w ≡ stood born o (here_of p w)
came born p o (Here q) = elim (eq_by_cmp path_cmp p q) as (λ b. cond b (Some (record { props = props_of o; born = born })) o ≡ stood born o (cond b (Some true) None)) [ true ↦ refl | false ↦ refl ]
came born p o (Gone q) = elim (eq_by_cmp path_cmp p q) as (λ b. cond b None o ≡ stood born o (cond b (Some false) None)) [ true ↦ refl | false ↦ refl ]
came born p o (Put q m x) = refl
came born p o (Unset q m) = refl

-- one of two writes of an item counts
stood_once : (born : Option Revision) (o : Option Node) (first second : Option Bool) → (is_some first ≡ true → second ≡ None) → stood born (stood born o first) second ≡ stood born o (option_or second first)
stood_once born o None second h = ap (stood born o) (sym (or_none second))
stood_once born o (Some b) second h = ap (stood born (stood born o (Some b))) (h refl) ∙ ap (λ r. stood born o (option_or r (Some b))) (sym (h refl))

-- the last writes of nodes make of a node what its last write does
pub nodes_written : (born : Option Revision) (p : Path) (o : Option Node) (ws : List Write) → fold (come born p) o (last_writes ws) ≡ stood born o (written (here_of p) ws)
nodes_written born p o [] = refl
nodes_written born p o (w ∷ ws) = by (list_any (is_same_item w) ws) refl (λ o. nodes_written born p o ws)
  where
    among : is_some (here_of p w) ≡ true → list_any (is_same_item w) ws ≡ is_some (written (here_of p) ws)
    among h = written_among (record { path = p; name = None }) (here_of p) (here_reads p) w ws h

    again : (b : Bool) → list_any (is_same_item w) ws ≡ true → is_some (here_of p w) ≡ b → option_or (written (here_of p) ws) (here_of p w) ≡ written (here_of p) ws
    again true e h = some_stays (written (here_of p) ws) (here_of p w) (sym (among h) ∙ e)
    again false e h = ap (option_or (written (here_of p) ws)) (none_from (here_of p w) h) ∙ or_none (written (here_of p) ws)

    by : (b : Bool) → list_any (is_same_item w) ws ≡ b → ((o : Option Node) → fold (come born p) o (last_writes ws) ≡ stood born o (written (here_of p) ws))
        → fold (come born p) o (cond b (last_writes ws) (w ∷ last_writes ws)) ≡ stood born o (option_or (written (here_of p) ws) (here_of p w))
    by true e rest = rest o ∙ ap (stood born o) (sym (again (is_some (here_of p w)) e refl))
    by false e rest =
        rest (come born p o w) ∙ (ap (λ (x : Option Node). stood born x (written (here_of p) ws)) (came born p o w)
        ∙ stood_once born o (here_of p w) (written (here_of p) ws) (λ h. none_from (written (here_of p) ws) (sym (among h) ∙ e)))

filled_has : (p : Path) (o : Option Node) (w : Write) → is_some (filled p o w) ≡ is_some o
filled_has p o (Here q) = refl
filled_has p o (Gone q) = refl
filled_has p o (Put q m x) = by (eq_by_cmp path_cmp p q) o
  where
    by : (b : Bool) (o : Option Node) → is_some (cond b (option_map {T = Node} (λ node. record node { props = insert_entry name_cmp node.props m x }) o) o) ≡ is_some o
    by false o = refl
    by true None = refl
    by true (Some node) = refl
filled_has p o (Unset q m) = by (eq_by_cmp path_cmp p q) o
  where
    by : (b : Bool) (o : Option Node) → is_some (cond b (option_map {T = Node} (λ node. record node { props = remove_entry (is_at (name_cmp m)) node.props }) o) o) ≡ is_some o
    by false o = refl
    by true None = refl
    by true (Some node) = refl

pub fills_has : (p : Path) (o : Option Node) (ws : List Write) → is_some (fold (filled p) o ws) ≡ is_some o
fills_has p o [] = refl
fills_has p o (w ∷ ws) = fills_has p (filled p o w) ws ∙ filled_has p o w

-- ---- properties

-- the names of a node are in order
abbrev pub IsOrderly : Option Node → Type 0
IsOrderly o = (node : Node) → o ≡ Some node → is_sorted name_cmp node.props ≡ true

-- the names of each node of a tree are
pub Orderly-all : (t : Nodes) → has_names_in_order t ≡ true → (p : Path) → IsOrderly (node_at t p)
Orderly-all [] h p = λ node e. absurd (false≢true (ap is_some e))
Orderly-all (e ∷ t) h p = elim (eq_by_cmp path_cmp p e.0) as (λ b. IsOrderly (cond b (Some e.1) (node_at t p))) [ true ↦ one e.1 (first _ _ h) | false ↦ Orderly-all t (second _ _ h) p ]
  where
    one : (node : Node) → is_sorted name_cmp node.props ≡ true → IsOrderly (Some node)
    one node s = λ new is. subst (λ (x : Option Node). option_map_or (λ node. is_sorted name_cmp node.props) x true ≡ true) is s

pub Orderly-come : (born : Option Revision) (p : Path) (o : Option Node) → IsOrderly o → (w : Write) → IsOrderly (come born p o w)
Orderly-come born p o s (Here q) = elim (eq_by_cmp path_cmp p q) as (λ b. IsOrderly (cond b (Some (record { props = props_of o; born = born })) o)) [ true ↦ by o s | false ↦ s ]
  where
    by : (o : Option Node) → IsOrderly o → IsOrderly (Some (record { props = props_of o; born = born }))
    by None s = λ node e. subst (λ (x : Option Node). option_map_or (λ node. is_sorted name_cmp node.props) x true ≡ true) e refl
    by (Some old) s = λ node e. subst (λ (x : Option Node). option_map_or (λ node. is_sorted name_cmp node.props) x true ≡ true) e (s old refl)
Orderly-come born p o s (Gone q) = elim (eq_by_cmp path_cmp p q) as (λ b. IsOrderly (cond b None o)) [ true ↦ (λ node e. absurd (false≢true (ap is_some e))) | false ↦ s ]
Orderly-come born p o s (Put q m x) = s
Orderly-come born p o s (Unset q m) = s

-- a node's names stay in order under a change of its properties that keeps them so
kept_order : (f : Node → Node) → ((node : Node) → is_sorted name_cmp node.props ≡ true → is_sorted name_cmp (f node).props ≡ true) → (b : Bool) (o : Option Node) → IsOrderly o → IsOrderly (cond b (option_map f o) o)
kept_order f keeps false o s = s
kept_order f keeps true None s = s
kept_order f keeps true (Some node) s = λ new e. subst (λ (x : Option Node). option_map_or (λ node. is_sorted name_cmp node.props) x true ≡ true) e (keeps node (s node refl))

pub Orderly-filled : (p : Path) (o : Option Node) → IsOrderly o → (w : Write) → IsOrderly (filled p o w)
Orderly-filled p o s (Here q) = s
Orderly-filled p o s (Gone q) = s
Orderly-filled p o s (Put q m x) = kept_order _ (λ node h. sorted_insert name_cmp nat_list_cmp_total m x node.props h) (eq_by_cmp path_cmp p q) o s
Orderly-filled p o s (Unset q m) = kept_order _ (λ node h. sorted_remove name_cmp (is_at (name_cmp m)) node.props h) (eq_by_cmp path_cmp p q) o s

pub Orderly-comes : (born : Option Revision) (p : Path) (o : Option Node) (ws : List Write) → IsOrderly o → IsOrderly (fold (come born p) o ws)
Orderly-comes born p o [] s = s
Orderly-comes born p o (w ∷ ws) s = Orderly-comes born p (come born p o w) ws (Orderly-come born p o s w)

pub Orderly-fills : (p : Path) (o : Option Node) (ws : List Write) → IsOrderly o → IsOrderly (fold (filled p) o ws)
Orderly-fills p o [] s = s
Orderly-fills p o (w ∷ ws) s = Orderly-fills p (filled p o w) ws (Orderly-filled p o s w)

-- a write of a property counts where the node is there
filled_prop : (p : Path) (n : Name) (o : Option Node) → IsOrderly o → (w : Write) → prop_of n (filled p o w) ≡ cond (is_some o) (unwrap_or (put_of p n w) (prop_of n o)) None
filled_prop p n None s (Here q) = refl
filled_prop p n None s (Gone q) = refl
filled_prop p n None s (Put q m x) = elim (eq_by_cmp path_cmp p q) as (λ b. prop_of n (cond b None None) ≡ None) [ true ↦ refl | false ↦ refl ]
filled_prop p n None s (Unset q m) = elim (eq_by_cmp path_cmp p q) as (λ b. prop_of n (cond b None None) ≡ None) [ true ↦ refl | false ↦ refl ]
filled_prop p n (Some node) s (Here q) = refl
filled_prop p n (Some node) s (Gone q) = refl
filled_prop p n (Some node) s (Put q m x) = by (eq_by_cmp path_cmp p q)
  where
    tail : (c : Bool) (before : Option Property) → cond c (Some x) before ≡ unwrap_or (cond c (Some (Some x)) None) before
    tail true before = refl
    tail false before = refl

    by : (b : Bool) → prop_of n (cond b (Some (record node { props = insert_entry name_cmp node.props m x })) (Some node)) ≡ unwrap_or (cond (b && eq_by_cmp name_cmp n m) (Some (Some x)) None) (lookup (is_at (name_cmp n)) node.props)
    by true = lookup-insert_entry name_cmp nat_list_cmp_total n m x node.props ∙ tail (eq_by_cmp name_cmp n m) _
    by false = refl
filled_prop p n (Some node) s (Unset q m) = by (eq_by_cmp path_cmp p q)
  where
    tail : (c : Bool) (before : Option Property) → cond c None before ≡ unwrap_or (cond c (Some None) None) before
    tail true before = refl
    tail false before = refl

    by : (b : Bool) → prop_of n (cond b (Some (record node { props = remove_entry (is_at (name_cmp m)) node.props })) (Some node)) ≡ unwrap_or (cond (b && eq_by_cmp name_cmp n m) (Some None) None) (lookup (is_at (name_cmp n)) node.props)
    by true = lookup-remove name_cmp nat_list_cmp_total n m node.props (s node refl) ∙ tail (eq_by_cmp name_cmp n m) _
    by false = refl

-- none where there is no node
no_node : (n : Name) (o : Option Node) → prop_of n o ≡ cond (is_some o) (prop_of n o) None
no_node n None = refl
no_node n (Some node) = refl

both_there : {X : Type 0} (b : Bool) (x y : Option (Option X)) (c : Option X) → cond b (unwrap_or x (cond b (unwrap_or y c) None)) None ≡ cond b (unwrap_or (option_or x y) c) None
both_there true x y c = or_twice x y c
both_there false x y c = refl

fills_prop : (p : Path) (n : Name) (o : Option Node) (ws : List Write) → IsOrderly o → prop_of n (fold (filled p) o ws) ≡ cond (is_some o) (unwrap_or (written (put_of p n) ws) (prop_of n o)) None
fills_prop p n o [] s = no_node n o
fills_prop p n o (w ∷ ws) s =
    fills_prop p n (filled p o w) ws (Orderly-filled p o s w)
    ∙ (ap (λ b. cond b (unwrap_or (written (put_of p n) ws) (prop_of n (filled p o w))) None) (filled_has p o w)
    ∙ (ap (λ c. cond (is_some o) (unwrap_or (written (put_of p n) ws) c) None) (filled_prop p n o s w)
    ∙ both_there (is_some o) (written (put_of p n) ws) (put_of p n w) (prop_of n o)))

-- ---- the law

stood_prop : (born : Option Revision) (n : Name) (o : Option Node) (h : Option Bool) (w : Option (Option Property)) → cond (is_some (stood born o h)) (unwrap_or w (prop_of n (stood born o h))) None ≡ cond (unwrap_or h (is_some o)) (unwrap_or w (prop_of n o)) None
stood_prop born n o None w = refl
stood_prop born n None (Some true) w = refl
stood_prop born n (Some node) (Some true) w = refl
stood_prop born n o (Some false) w = refl

stood_born : (born : Option Revision) (o : Option Node) (h : Option Bool) → born_of (stood born o h) ≡ cond (unwrap_or h (is_some o)) (cond (is_some h) born (born_of o)) None
stood_born born None None = refl
stood_born born (Some node) None = refl
stood_born born o (Some true) = refl
stood_born born o (Some false) = refl

-- a write of a property leaves who added the node
pub filled_born : (p : Path) (o : Option Node) (w : Write) → born_of (filled p o w) ≡ born_of o
filled_born p o (Here q) = refl
filled_born p o (Gone q) = refl
filled_born p o (Put q m x) = by (eq_by_cmp path_cmp p q) o
  where
    by : (b : Bool) (o : Option Node) → born_of (cond b (option_map {T = Node} (λ node. record node { props = insert_entry name_cmp node.props m x }) o) o) ≡ born_of o
    by false o = refl
    by true None = refl
    by true (Some node) = refl
filled_born p o (Unset q m) = by (eq_by_cmp path_cmp p q) o
  where
    by : (b : Bool) (o : Option Node) → born_of (cond b (option_map {T = Node} (λ node. record node { props = remove_entry (is_at (name_cmp m)) node.props }) o) o) ≡ born_of o
    by false o = refl
    by true None = refl
    by true (Some node) = refl

pub fills_born : (p : Path) (o : Option Node) (ws : List Write) → born_of (fold (filled p) o ws) ≡ born_of o
fills_born p o [] = refl
fills_born p o (w ∷ ws) = fills_born p (filled p o w) ws ∙ filled_born p o w

-- a node is there after an edit as its last write says, and else as it was
pub has_applied : (born : Option Revision) (t : Nodes) (ws : List Write) → InOrder t → (p : Path) → is_some (node_at (applied born t ws) p) ≡ has_after t ws p
has_applied born t ws s p =
    ap is_some (node_at-applied born p t ws s)
    ∙ (fills_has p _ (last_writes ws) ∙ (ap is_some (nodes_written born p (node_at t p) ws) ∙ stood_has born (node_at t p) (written (here_of p) ws)))

-- a node that is written was added by the edit's revision, and another one as before
pub born_applied : (born : Option Revision) (t : Nodes) (ws : List Write) → InOrder t → (p : Path) → born_at (applied born t ws) p ≡ born_after born t ws p
born_applied born t ws s p =
    ap born_of (node_at-applied born p t ws s)
    ∙ (fills_born p _ (last_writes ws) ∙ (ap born_of (nodes_written born p (node_at t p) ws) ∙ stood_born born (node_at t p) (written (here_of p) ws)))

-- a property of a node that is there is as its last write says, and else as it was
pub property_applied : (born : Option Revision) (t : Nodes) (ws : List Write) → InOrder t → ((p : Path) → IsOrderly (node_at t p)) → (p : Path) (n : Name) → property_at (applied born t ws) p n ≡ property_after t ws p n
property_applied born t ws s orderly p n =
    let stood_is = nodes_written born p (node_at t p) ws in
    ap (prop_of n) (node_at-applied born p t ws s)
    ∙ (fills_prop p n _ (last_writes ws) (Orderly-comes born p (node_at t p) (last_writes ws) (orderly p))
    ∙ (ap (λ (o : Option Node). cond (is_some o) (unwrap_or (written (put_of p n) (last_writes ws)) (prop_of n o)) None) stood_is
    ∙ (ap (λ w. cond (is_some (stood born (node_at t p) (written (here_of p) ws))) (unwrap_or w (prop_of n (stood born (node_at t p) (written (here_of p) ws)))) None) (written_last (record { path = p; name = Some n }) (put_of p n) (put_reads p n) ws)
    ∙ stood_prop born n (node_at t p) (written (here_of p) ws) (written (put_of p n) ws))))

pub Orderly-applied : (born : Option Revision) (t : Nodes) (ws : List Write) → InOrder t → ((p : Path) → IsOrderly (node_at t p)) → (p : Path) → IsOrderly (node_at (applied born t ws) p)
Orderly-applied born t ws s orderly p = subst IsOrderly (sym (node_at-applied born p t ws s)) (Orderly-fills p _ (last_writes ws) (Orderly-comes born p (node_at t p) (last_writes ws) (orderly p)))

-- ---- edits that fit

stays : (there : Bool) (w : Option (Option Property)) (c : Option Property) → ((x : Property) → w ≡ Some (Some x) → there ≡ true) → (there ≡ false → is_some c ≡ true → is_some w ≡ true) → cond there (unwrap_or w c) None ≡ unwrap_or w c
stays true w c put gone = refl
stays false None None put gone = refl
stays false None (Some x) put gone = absurd (false≢true (gone refl refl))
stays false (Some None) c put gone = refl
stays false (Some (Some x)) c put gone = absurd (false≢true (put x refl))

-- where the last write of a node takes it away, a write does
gone_among : (p : Path) (ws : List Write) → written (here_of p) ws ≡ Some false → list_any (is_gone_of p) ws ≡ true
gone_among p [] e = absurd (false≢true (ap is_some e))
gone_among p (w ∷ ws) e =
    (elim (written (here_of p) ws) as (λ o. (o ≡ Some false → list_any (is_gone_of p) ws ≡ true) → option_or o (here_of p w) ≡ Some false → (is_gone_of p w || list_any (is_gone_of p) ws) ≡ true) [
      | None ↦ λ rest s. ap (λ b. b || list_any (is_gone_of p) ws) (by w s)
      | Some b ↦ λ rest s. later (is_gone_of p w) (rest s)
    ]) (gone_among p ws) e
  where
    later : (b : Bool) → list_any (is_gone_of p) ws ≡ true → (b || list_any (is_gone_of p) ws) ≡ true
    later true h = refl
    later false h = h

    by : (w : Write) → here_of p w ≡ Some false → is_gone_of p w ≡ true
    by (Here q) s = (elim (eq_by_cmp path_cmp p q) as (λ b. cond b (Some true) None ≡ Some false → false ≡ true) [ true ↦ λ r. sym (ap (λ o. unwrap_or o true) r) | false ↦ λ r. ap is_some r ]) s
    by (Gone q) s = (elim (eq_by_cmp path_cmp p q) as (λ b. cond b (Some false) None ≡ Some false → b ≡ true) [ true ↦ λ r. refl | false ↦ λ r. ap is_some r ]) s
    by (Put q m x) s = absurd (false≢true (ap is_some s))
    by (Unset q m) s = absurd (false≢true (ap is_some s))

-- where the node isn't there afterwards though it was there, it went
went : (h : Option Bool) (there : Bool) → unwrap_or h there ≡ false → there ≡ true → h ≡ Some false
went None there e f = absurd (false≢true (sym e ∙ f))
went (Some true) there e f = absurd (false≢true (sym e))
went (Some false) there e f = refl

there_with : (n : Name) (o : Option Node) → is_some (prop_of n o) ≡ true → is_some o ≡ true
there_with n None h = absurd (false≢true h)
there_with n (Some node) h = refl

-- an edit that fits a tree makes of each property what its last write says
pub property_fitted : (born : Option Revision) (t : Nodes) (ws : List Write) → InOrder t → ((p : Path) → IsOrderly (node_at t p)) → Fits t ws → (p : Path) (n : Name) → property_at (applied born t ws) p n ≡ unwrap_or (written (put_of p n) ws) (property_at t p n)
property_fitted born t ws s orderly fits p n =
    property_applied born t ws s orderly p n
    ∙ stays (has_after t ws p) (written (put_of p n) ws) (property_at t p n) (fits.put p n)
    (λ out there. fits.gone p n (gone_among p ws (went (written (here_of p) ws) (is_some (node_at t p)) out (there_with n (node_at t p) there))) there)
