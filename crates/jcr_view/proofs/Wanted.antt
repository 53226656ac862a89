-- What lacks of what a command asks for may be loaded, by its place in the list of all that may be.
use Rattle.std.proofs.Common.{◌≡◌, ◌⊎◌, inl, inr, ◌∙◌, ◌++◌, ℕ, zero, suc, ◌≤◌, ◌<◌, Bool, true, false, cond, List, [], ◌∷◌, length, map, Option, Some, is_some, refl, sym, ap, subst, append_assoc, All, Contains, fold, slice_index_or, arith}
use Rattle.std.specs.Prelude.{⊤}
use Rattle.std.proofs.lemmas.List.Elements.{All-contains, All-nil, All-push}
use Rattle.jr_path.specs.declared.path.Path.{Path}
use Rattle.jr_tree.specs.declared.edit.Write.{Write}
use Rattle.jr_tree.specs.declared.edit.Write.TheVariants.{Here, Gone, Put, Unset}
use Rattle.jr_tree.specs.declared.shared.Who.{Who}
use Rattle.jr_tree.specs.declared.tree.Node.{Node}
use Rattle.jr_tree.specs.Trees.{Nodes, node_at}
use Rattle.jr_part.specs.Parts.{AgreesWith, IsFirstLacking, Knowledge, need_path}
use Rattle.jr_part.specs.declared.need.Need.{Need}
use Rattle.jr_part.specs.declared.need.Need.TheVariants as need
use Rattle.jr_overlay.specs.Overlays.{AreOver, Changed, seen, view_of}
use Rattle.jr_overlay.proofs.Views.{node_at-view}
use Rattle.jcr_trans.specs.declared.command.Command.{Command}
use Rattle.jcr_trans.specs.declared.command.Command.TheVariants as command
use Rattle.jcr_write.specs.Places.{above}
use Rattle.jcr_mixin.specs.Histories.{due_history}
use Rattle.jcr_view.specs.Needs.{and_again, and_node, ends_at, needs_of, needs_to_rebase}
use Rattle.jcr_view.specs.Parts.{IsPartOf}
use Rattle.jcr_view.specs.Rounds.{loadable, nodes_at, one_path, paths_named, unknown_of}
use Rattle.jcr_view.proofs.RoundsEnd.{In, IsNamed, all_held, asked_in, in_nodes_at, there_in}

-- ---- one of a list, by its place

pub contains : {X : Type 0} (xs : List X) (x : X) → In xs x → Contains xs x
contains [] x h = absurd h
contains (y ∷ ys) x (inl same) = (0, omega arith, sym same)
contains (y ∷ ys) x (inr h) =
    let rest = contains ys x h in
    let within = rest.1 in
    (suc rest.0, omega arith, rest.2)

in_at : {X : Type 0} (xs : List X) (x : X) (k : ℕ) → k < length xs → slice_index_or xs k x ≡ x → In xs x
in_at [] x k within at = absurd (omega arith)
in_at (y ∷ ys) x zero within at = inl (sym at)
in_at (y ∷ ys) x (suc k) within at = inr (in_at ys x k (omega arith) at)

pub is_in : {X : Type 0} (xs : List X) (x : X) → Contains xs x → In xs x
is_in xs x h = in_at xs x h.0 h.1 h.2

in_left : (ps qs : List Path) (p : Path) → In ps p → In (ps ++ qs) p
in_left [] qs p h = absurd h
in_left (r ∷ ps) qs p (inl same) = inl same
in_left (r ∷ ps) qs p (inr h) = inr (in_left ps qs p h)

in_right : (ps qs : List Path) (p : Path) → In qs p → In (ps ++ qs) p
in_right [] qs p h = h
in_right (r ∷ ps) qs p h = inr (in_right ps qs p h)

in_map : (needs : List Need) (n : Need) → In needs n → In (map need_path needs) (need_path n)
in_map [] n h = absurd h
in_map (m ∷ needs) n (inl same) = inl (ap need_path same)
in_map (m ∷ needs) n (inr h) = inr (in_map needs n h)

-- ---- more may be loaded where more paths are named

more_nodes_at : (ps qs : List Path) → ((p : Path) → In ps p → In qs p) → (n : Need) → In (nodes_at ps) n → In (nodes_at qs) n
more_nodes_at [] qs among n h = absurd h
more_nodes_at (p ∷ ps) qs among n (inl same) =
    subst (λ (m : Need). In (nodes_at qs) m) (sym same) (in_nodes_at qs p (among p (inl refl)))
more_nodes_at (p ∷ ps) qs among n (inr h) = more_nodes_at ps qs (λ q is. among q (inr is)) n h

more_loadable : (ps qs : List Path) → ((p : Path) → In ps p → In qs p) → (t : Nodes) (n : Need) → In (loadable ps t) n → In (loadable qs t) n
more_loadable ps qs among [] n h = more_nodes_at ps qs among n h
more_loadable ps qs among (e ∷ t) n (inl same) = inl same
more_loadable ps qs among (e ∷ t) n (inr (inl same)) = inr (inl same)
more_loadable ps qs among (e ∷ t) n (inr (inr h)) = inr (inr (more_loadable ps qs among t n h))

fewer_nodes : (k : Knowledge) (ps qs : List Path) → unknown_of k (nodes_at qs) ≤ unknown_of k (nodes_at (ps ++ qs))
fewer_nodes k [] qs = omega arith
fewer_nodes k (p ∷ ps) qs = let rest = fewer_nodes k ps qs in omega arith

-- no more is unknown where fewer paths are named
pub fewer_paths : (k : Knowledge) (ps qs : List Path) (t : Nodes) → unknown_of k (loadable qs t) ≤ unknown_of k (loadable (ps ++ qs) t)
fewer_paths k ps qs [] = fewer_nodes k ps qs
fewer_paths k ps qs (e ∷ t) = let rest = fewer_paths k ps qs t in omega arith

-- a node of the tree may be loaded, and its children
pub there_loadable : (ps : List Path) (t : Nodes) (p : Path) → is_some (node_at t p) ≡ true
    → Contains (loadable ps t) (need.Node p) × Contains (loadable ps t) (need.Children p)
there_loadable ps t p is =
    let both = there_in ps t p is in
    (contains (loadable ps t) (need.Node p) both.0, contains (loadable ps t) (need.Children p) both.1)

-- ---- what a command asks for

-- the paths named are the same where the same nodes stand
same_paths : (who : Who) (f g : Path → Option Node) → ((p : Path) → f p ≡ g p) → (command : Command)
    → paths_named who f command ≡ paths_named who g command
same_paths who f g same (command.Mixin p n) = ap (λ (o : Option Node). p ∷ one_path (due_history who who.ids o)) (same p)
same_paths who f g same (command.Add p type) = refl
same_paths who f g same (command.Tree p parts) = refl
same_paths who f g same (command.Set p n x) = refl
same_paths who f g same (command.Unset p n) = refl
same_paths who f g same (command.Remove p) = refl
same_paths who f g same (command.Move p q) = refl
same_paths who f g same (command.Unmixin p n) = refl
same_paths who f g same (command.SetType p n) = refl
same_paths who f g same (command.OrderBefore p n) = refl
same_paths who f g same (command.Get p) = refl
same_paths who f g same (command.List p) = refl
same_paths who f g same (command.Props p) = refl
same_paths who f g same (command.Id p) = refl
same_paths who f g same (command.ById id) = refl
same_paths who f g same (command.Refs p) = refl
same_paths who f g same (command.Versions p) = refl
same_paths who f g same _ = refl

-- what lacks of what a command of the view asks for may be loaded
pub asked_loadable : (who : Who) (t view : Nodes) (k : Knowledge) (c : Changed) (ps : List Path) (command : Command)
    → IsPartOf t k c → view_of t c ≡ view → (wanted lacking : Need) → Contains (needs_of who k c command) wanted
    → IsFirstLacking k wanted lacking → Contains (loadable (ps ++ paths_named who (node_at view) command) t) lacking
asked_loadable who t view k c ps command part is wanted lacking asked lacks =
    let here : In (loadable (paths_named who (seen t c) command) t) lacking =
    All-contains (λ (w : Need). (l : Need) → IsFirstLacking k w l → In (loadable (paths_named who (seen t c) command) t) l)
    (needs_of who k c command) wanted (all_held who t c k part.agrees part.over command) asked lacking lacks in
    let same : paths_named who (seen t c) command ≡ paths_named who (node_at view) command =
    same_paths who (seen t c) (node_at view)
    (λ p. sym (node_at-view t c part.tree.paths part.over.paths p) ∙ ap (λ (v : Nodes). node_at v p) is) command in
    contains (loadable (ps ++ paths_named who (node_at view) command) t) lacking
    (more_loadable (paths_named who (node_at view) command) (ps ++ paths_named who (node_at view) command)
    (λ p h. in_right ps (paths_named who (node_at view) command) p h) t lacking
    (subst (λ (qs : List Path). In (loadable qs t) lacking) same here))

module _ (t : Nodes) (k : Knowledge) (agrees : AgreesWith t k) where
  -- what lacks of the whole tree may be loaded, where the root is named
  pub whole_loadable : (ps : List Path) (lacking : Need) → IsFirstLacking k need.All lacking → Contains (loadable (ps ++ [] ∷ []) t) lacking
  whole_loadable ps lacking lacks =
      contains (loadable (ps ++ [] ∷ []) t) lacking
      (asked_in t k agrees (ps ++ [] ∷ []) need.All lacking (in_right ps ([] ∷ []) [] (inl refl)) lacks.asked)

  -- ---- what is asked for before writes are made again

  -- the need is of a path, and not of its children
  abbrev IsOfPath : Need → Type 0
  IsOfPath (need.Node p) = ⊤
  IsOfPath (need.Children p) = ⊥
  IsOfPath (need.Subtree p) = ⊤
  IsOfPath need.All = ⊤

  placed_node : (needs : List Need) (p : Path) → All IsOfPath needs → All IsOfPath (and_node needs p)
  placed_node needs p all = by (ends_at needs p)
    where
      by : (b : Bool) → All IsOfPath (cond b needs (needs ++ need.Node p ∷ []))
      by true = all
      by false = All-push IsOfPath needs (need.Node p) all tt

  placed_write : (needs : List Need) (w : Write) → All IsOfPath needs → All IsOfPath (and_again needs w)
  placed_write needs (Here p) all = placed_node (and_node needs (above p)) p (placed_node needs (above p) all)
  placed_write needs (Gone p) all = All-push IsOfPath needs (need.Subtree p) all tt
  placed_write needs (Put p n x) all = placed_node needs p all
  placed_write needs (Unset p n) all = placed_node needs p all

  placed : (ws : List Write) (needs : List Need) → All IsOfPath needs → All IsOfPath (fold and_again needs ws)
  placed [] needs all = all
  placed (w ∷ ws) needs all = placed ws (and_again needs w) (placed_write needs w all)

  named_of : (ps : List Path) (n : Need) → IsOfPath n → In ps (need_path n) → IsNamed t k agrees ps n
  named_of ps (need.Node p) fits h = h
  named_of ps (need.Children p) fits h = absurd fits
  named_of ps (need.Subtree p) fits h = h
  named_of ps need.All fits h = h

  -- what lacks of what writes made again ask for may be loaded
  pub again_loadable : (ws : List Write) (qs : List Path) (wanted lacking : Need) → Contains (needs_to_rebase ws) wanted
      → IsFirstLacking k wanted lacking → Contains (loadable (map need_path (needs_to_rebase ws) ++ qs) t) lacking
  again_loadable ws qs wanted lacking asked lacks =
      let ps : List Path = map need_path (needs_to_rebase ws) in
      let fits : IsOfPath wanted =
      All-contains IsOfPath (needs_to_rebase ws) wanted (placed ws [] (All-nil IsOfPath)) asked in
      let named : In ps (need_path wanted) = in_map (needs_to_rebase ws) wanted (is_in (needs_to_rebase ws) wanted asked) in
      contains (loadable (ps ++ qs) t) lacking
      (asked_in t k agrees (ps ++ qs) wanted lacking (named_of (ps ++ qs) wanted fits (in_left ps qs (need_path wanted) named)) lacks.asked)
