-- What a session may still have to read: each load is of that, and it falls with each answer.
use Rattle.std.proofs.Common.{◌≡◌, ◌⊎◌, inl, inr, ◌∙◌, ◌++◌, ◌+◌, ◌≤◌, ◌<◌, Bool, true, false, cond, List, [], ◌∷◌, ℕ, suc, length, Option, None, Some, Result, IfOk, IfSome, Contains, is_some, map, refl, sym, ap, subst, append_assoc, arith}
use Rattle.std.specs.Ordering.{eq_by_cmp}
use Rattle.std.proofs.lemmas.Bool.{false≢true}
use Rattle.std.proofs.lemmas.List.Elements.{Contains-append_left, Contains-append_right}
use Rattle.jr_path.specs.Names.{path_cmp}
use Rattle.jr_path.specs.declared.path.Path.{Path}
use Rattle.jr_tree.specs.declared.shared.Who.{Who}
use Rattle.jr_tree.specs.declared.tree.Node.{Node}
use Rattle.jr_tree.specs.Trees.{Nodes, node_at}
use Rattle.jr_known.specs.Earlier.{Earlier}
use Rattle.jr_tree.proofs.Pointwise.{same_path}
use Rattle.jr_part.specs.Parts.{AgreesWith, AsksOf, ChildNames, IsFirstLacking, Knowledge, known_at, knows, need_path, with_children, with_node}
use Rattle.jr_part.specs.declared.need.Need.{Need}
use Rattle.jr_part.specs.declared.need.Need.TheVariants as need
use Rattle.jr_overlay.specs.Overlays.{Changed, change_at, edit_of}
use Rattle.jcr_trans.specs.declared.command.Command.{Command}
use Rattle.jcr_trans.specs.declared.command.Command.TheVariants as command
use Rattle.jcr_view.specs.Needs.{needs_of, needs_to_rebase}
use Rattle.jcr_view.specs.Outcomes.{is_viewed}
use Rattle.jcr_view.specs.Rounds.{is_of_one_node, loadable, nodes_at, paths_named, unknown_of}
use Rattle.jcr_view.proofs.Rounds.{children_keep, children_known, node_keeps, node_known}
use Rattle.jcr_view.proofs.RoundsEnd.{asked_in, fewer, in_nodes_at, known_is, listed_is}
use Rattle.jcr_view.proofs.Wanted.{again_loadable, asked_loadable, contains, fewer_paths, is_in, there_loadable, whole_loadable}
use Rattle.jcr_law.specs.State.{Call}
use Rattle.jcr_held.specs.declared.held.Held.{Held}
use Rattle.jcr_held.specs.Alike.{AreAlike}
use Rattle.jcr_held.specs.Holds.{HasCaughtUpFor, Holds, HoldsView, asks_for}
use Rattle.jcr_held.specs.Looking.{IsLackingOf, IsKnownChild, IsMetFirst, IsNearTouched, touched_paths, with_above}
use Rattle.jcr_held.proofs.OnTheWay.{of_load}
use Rattle.jcr_held.specs.Unread.{IsWanted, asked_paths, base_load, kept_paths, may_load, told_first, unread, waiting}

-- ---- the same is to be read of what is alike

same_kept : (x y : Held) → y.is_kept ≡ x.is_kept → y.pending ≡ x.pending → kept_paths y ≡ kept_paths x
same_kept x y kept pending =
    ap (λ b. cond b (map need_path (needs_to_rebase (edit_of y.pending)) ++ touched_paths y.pending) []) kept
    ∙ ap (λ (c : Changed). cond x.is_kept (map need_path (needs_to_rebase (edit_of c)) ++ touched_paths c) []) pending

base_load_alike : (c : Call) (x y : Held) (m : Command) → y.is_kept ≡ x.is_kept → y.pending ≡ x.pending → base_load c y m ≡ base_load c x m
base_load_alike c x y m kept pending = ap (λ (ps : List Path). loadable (ps ++ asked_paths c m) c.base) (same_kept x y kept pending)

may_load_alike : (c : Call) (x y : Held) (m : Command) → AreAlike x y → may_load c y m ≡ may_load c x m
may_load_alike c x y m a =
    ap (λ (e : Option Earlier). told_first e (base_load c y m)) a.earlier
    ∙ ap (told_first x.earlier) (base_load_alike c x y m a.is_kept a.pending)

pub unread_alike : (c : Call) (x y : Held) (m : Command) → AreAlike x y → unread c y m ≡ unread c x m
unread_alike c x y m a =
    ap (λ (ns : List Need). unknown_of y.part ns + waiting y.earlier (base_load c y m)) (may_load_alike c x y m a)
    ∙ ap (λ (k : Knowledge). unknown_of k (may_load c x m) + waiting y.earlier (base_load c y m)) a.part
    ∙ ap (λ (e : Option Earlier). unknown_of x.part (may_load c x m) + waiting e (base_load c y m)) a.earlier
    ∙ ap (λ (ns : List Need). unknown_of x.part (may_load c x m) + waiting x.earlier ns) (base_load_alike c x y m a.is_kept a.pending)

pub wanted_alike : (c : Call) (x y : Held) (m : Command) (n : Need) → AreAlike x y → IsWanted c x m n → IsWanted c y m n
wanted_alike c x y m n a wanted = record {
  may = subst (λ (ns : List Need). Contains ns n) (sym (may_load_alike c x y m a)) wanted.may;
  unknown_is = ap (λ (k : Knowledge). knows k n) a.part ∙ wanted.unknown_is;
}

pub no_more_alike : (c : Call) (x y : Held) (m : Command) → AreAlike x y → unread c y m ≤ unread c x m
no_more_alike c x y m a = let same = unread_alike c x y m a in omega arith

-- no more is named where fewer paths are
shorter_nodes : (ps qs : List Path) → length (nodes_at qs) ≤ length (nodes_at (ps ++ qs))
shorter_nodes [] qs = omega arith
shorter_nodes (p ∷ ps) qs = let rest = shorter_nodes ps qs in omega arith

shorter_paths : (ps qs : List Path) (t : Nodes) → length (loadable qs t) ≤ length (loadable (ps ++ qs) t)
shorter_paths ps qs [] = shorter_nodes ps qs
shorter_paths ps qs (e ∷ t) = let rest = shorter_paths ps qs t in omega arith

-- no more is to be read where fewer paths are named
no_more_named : (k : Knowledge) (e : Option Earlier) (ps qs : List Path) (t : Nodes)
    → unknown_of k (told_first e (loadable qs t)) + waiting e (loadable qs t)
    ≤ unknown_of k (told_first e (loadable (ps ++ qs) t)) + waiting e (loadable (ps ++ qs) t)
no_more_named k None ps qs t = let less = fewer_paths k ps qs t in omega arith
no_more_named k (Some e) ps qs t = let less = shorter_paths ps qs t in omega arith

-- no more is to be read where nothing is kept then
pub no_more_settled : (c : Call) (x : Held) (pending : Changed) (m : Command)
    → unread c (record x { pending = pending; is_kept = false }) m ≤ unread c x m
no_more_settled c x pending m = no_more_named x.part x.earlier (kept_paths x) (asked_paths c m) c.base

-- ---- the earlier tree goes

-- no more is unknown than is named
unknown_most : (k : Knowledge) (ns : List Need) → unknown_of k ns ≤ length ns
unknown_most k [] = omega arith
unknown_most k (n ∷ ns) = by (knows k n) (unknown_most k ns)
  where
    by : (b : Bool) → unknown_of k ns ≤ length ns → cond b 0 1 + unknown_of k ns ≤ suc (length ns)
    by true rest = omega arith
    by false rest = omega arith

no_more_gone : (k more : Knowledge) (e : Option Earlier) (ns : List Need) → is_some e ≡ true
    → unknown_of more ns + 0 ≤ unknown_of k (told_first e ns) + waiting e ns
no_more_gone k more None ns is = absurd (false≢true is)
no_more_gone k more (Some e) ns is = let most = unknown_most more ns in omega arith

-- no more is to be read once what is known was made of the earlier tree
pub no_more_renewed : (c : Call) (x : Held) (more : Knowledge) (e : Option Earlier) (m : Command) → is_some x.earlier ≡ true → e ≡ None
    → unread c (record x { part = more; earlier = e }) m ≤ unread c x m
no_more_renewed c x more e m is gone =
    subst (λ (o : Option Earlier). unread c (record x { part = more; earlier = o }) m ≤ unread c x m) (sym gone)
    (no_more_gone x.part more x.earlier (base_load c x m) is)

no_more_left : (k : Knowledge) (e : Option Earlier) (ns : List Need) → unknown_of k ns + 0 ≤ unknown_of k (told_first e ns) + waiting e ns
no_more_left k None ns = omega arith
no_more_left k (Some e) ns = let most = unknown_most k ns in omega arith

-- no more is to be read where the earlier tree is only let go
pub no_more_without : (c : Call) (x : Held) (e : Option Earlier) (m : Command) → e ≡ None
    → unread c (record x { earlier = e }) m ≤ unread c x m
no_more_without c x e m gone =
    subst (λ (o : Option Earlier). unread c (record x { earlier = o }) m ≤ unread c x m) (sym gone)
    (no_more_left x.part x.earlier (base_load c x m))

-- ---- less is to be read once an answer is put

less_by : (a b rest : ℕ) → a + 1 ≤ b → a + rest < b + rest
less_by a b rest h = omega arith

pub node_read : (c : Call) (x : Held) (m : Command) (p : Path) (node : Option Node) → IsWanted c x m (need.Node p)
    → unread c (record x { part = with_node x.part p node }) m < unread c x m
node_read c x m p node wanted =
    let less : unknown_of (with_node x.part p node) (may_load c x m) + 1 ≤ unknown_of x.part (may_load c x m) =
    fewer x.part (with_node x.part p node) (λ n h. node_keeps x.part p node n h) (may_load c x m) (need.Node p)
    (is_in (may_load c x m) (need.Node p) wanted.may) wanted.unknown_is (node_known x.part p node) in
    less_by (unknown_of (with_node x.part p node) (may_load c x m)) (unknown_of x.part (may_load c x m)) (waiting x.earlier (base_load c x m)) less

pub children_read : (c : Call) (x : Held) (m : Command) (p : Path) (names : ChildNames) → IsWanted c x m (need.Children p)
    → unread c (record x { part = with_children x.part p names }) m < unread c x m
children_read c x m p names wanted =
    let less : unknown_of (with_children x.part p names) (may_load c x m) + 1 ≤ unknown_of x.part (may_load c x m) =
    fewer x.part (with_children x.part p names) (λ n h. children_keep x.part p names n h) (may_load c x m) (need.Children p)
    (is_in (may_load c x m) (need.Children p) wanted.may) wanted.unknown_is (children_known x.part p names) in
    less_by (unknown_of (with_children x.part p names) (may_load c x m)) (unknown_of x.part (may_load c x m)) (waiting x.earlier (base_load c x m)) less

-- ---- what is known is of the tree at the base

part_agrees : (c : Call) (x : Held) → Holds c x → AgreesWith c.base x.part
part_agrees c x h = by x.is_kept h.view
  where
    by : (b : Bool) → HoldsView c x.part x.pending b → AgreesWith c.base x.part
    by true v = v.0.agrees
    by false v = v.0.agrees

-- ---- what lacks of what is asked for is wanted

view_of_held : (c : Call) (x : Held) → x.is_kept ≡ false → Holds c x → HoldsView c x.part x.pending false
view_of_held c x settled h = subst (λ (b : Bool). HoldsView c x.part x.pending b) settled h.view

in_one : {X : Type 0} (x y : X) → Contains (x ∷ []) y → y ≡ x
in_one x y h = by (is_in (x ∷ []) y h)
  where
    by : (y ≡ x) ⊎ ⊥ → y ≡ x
    by (inl same) = same
    by (inr h) = absurd h

module _ (c : Call) (x : Held) (h : Holds c x) (n wanted : Need) (lacks : IsFirstLacking x.part wanted n) where
  -- what may be loaded before a command that isn't a split
  abbrev plain_load : Command → List Need
  plain_load m = loadable (kept_paths x ++ cond (is_viewed m) (paths_named c.who (node_at c.state.view) m) ([] ∷ [])) c.base

  viewed_may : (m : Command) → x.is_kept ≡ false → is_viewed m ≡ true → Contains (needs_of x.who x.part x.pending m) wanted
      → Contains (plain_load m) n
  viewed_may m settled viewed asked =
      let v = view_of_held c x settled h in
      subst (λ b. Contains (loadable (kept_paths x ++ cond b (paths_named c.who (node_at c.state.view) m) ([] ∷ [])) c.base) n) (sym viewed)
      (subst (λ (w : Who). Contains (loadable (kept_paths x ++ paths_named w (node_at c.state.view) m) c.base) n) h.who
      (asked_loadable x.who c.base c.state.view x.part x.pending (kept_paths x) m v.0 v.1 wanted n asked lacks))

  whole_may : (m : Command) → is_viewed m ≡ false → Contains (need.All ∷ []) wanted → Contains (plain_load m) n
  whole_may m viewed asked =
      subst (λ b. Contains (loadable (kept_paths x ++ cond b (paths_named c.who (node_at c.state.view) m) ([] ∷ [])) c.base) n) (sym viewed)
      (whole_loadable c.base x.part (part_agrees c x h) (kept_paths x) n
      (subst (λ (w : Need). IsFirstLacking x.part w n) (in_one need.All wanted asked) lacks))

  either_may : (m : Command) → x.is_kept ≡ false
      → Contains (cond (is_viewed m) (needs_of x.who x.part x.pending m) (need.All ∷ [])) wanted → Contains (plain_load m) n
  either_may m settled asked = by (is_viewed m) refl asked
    where
      by : (b : Bool) → is_viewed m ≡ b → Contains (cond b (needs_of x.who x.part x.pending m) (need.All ∷ [])) wanted → Contains (plain_load m) n
      by true viewed asked = viewed_may m settled viewed asked
      by false viewed asked = whole_may m viewed asked

  -- before a split its node
  split_may : (p : Path) → Contains (need.Node p ∷ []) wanted → Contains (base_load c x (command.Split p)) n
  split_may p asked =
      let paths : List Path = kept_paths x ++ p ∷ [] in
      let named : Contains paths p = Contains-append_right (kept_paths x) (p ∷ []) p (0, omega arith, refl) in
      contains (loadable paths c.base) n
      (asked_in c.base x.part (part_agrees c x h) paths (need.Node p) n (is_in paths p named)
      (subst (λ (w : Need). AsksOf x.part w n) (in_one (need.Node p) wanted asked) lacks.asked))

  asked_may : (m : Command) → x.is_kept ≡ false → Contains (asks_for x m) wanted → Contains (base_load c x m) n
  asked_may command.Head settled asked = absurd (is_in [] wanted asked)
  asked_may (command.Refresh keep) settled asked = absurd (is_in [] wanted asked)
  asked_may (command.Attach id) settled asked = absurd (is_in [] wanted asked)
  asked_may command.Detach settled asked = absurd (is_in [] wanted asked)
  asked_may (command.Observe p deep mask) settled asked = absurd (is_in [] wanted asked)
  asked_may command.Events settled asked = absurd (is_in [] wanted asked)
  asked_may (command.Split p) settled asked = split_may p asked
  asked_may m settled asked = either_may m settled asked

  kept_may : (m : Command) → x.is_kept ≡ true → Contains (needs_to_rebase (edit_of x.pending)) wanted → Contains (base_load c x m) n
  kept_may m kept asked =
      let again : List Path = map need_path (needs_to_rebase (edit_of x.pending)) in
      let all : List Path = again ++ touched_paths x.pending in
      subst (λ b. Contains (loadable (cond b all [] ++ asked_paths c m) c.base) n) (sym kept)
      (subst (λ (ps : List Path). Contains (loadable ps c.base) n) (sym (append_assoc again (touched_paths x.pending) (asked_paths c m)))
      (again_loadable c.base x.part (part_agrees c x h) (edit_of x.pending) (touched_paths x.pending ++ asked_paths c m) wanted n asked lacks))

-- where no earlier tree is held, what may be loaded of the tree at the base is next
base_next : (c : Call) (x : Held) (n : Need) (m : Command) → x.earlier ≡ None → Contains (base_load c x m) n → Contains (may_load c x m) n
base_next c x n m none may = subst (λ (e : Option Earlier). Contains (told_first e (base_load c x m)) n) (sym none) may

caught_may : (c : Call) (x : Held) (needs : List Need) (wanted n : Need) (m : Command) → HasCaughtUpFor x needs → Contains needs wanted
    → Contains (base_load c x m) n → Contains (may_load c x m) n
caught_may c x needs wanted n m (inl none) asked may = base_next c x n m none may
caught_may c x needs wanted n m (inr empty) asked may =
    absurd (is_in [] wanted (subst (λ (ns : List Need). Contains ns wanted) empty asked))

-- what lacks of what the command asks for is wanted
pub asked_wanted : (c : Call) (x y : Held) (m : Command) (needs : List Need) (n : Need) → AreAlike x y → x.is_kept ≡ false → needs ≡ asks_for x m
    → HasCaughtUpFor x (asks_for x m) → Holds c x → IsLackingOf y.part needs n → IsWanted c y m n
asked_wanted c x y m needs n a settled is caught h lacking =
    let lacks : IsFirstLacking x.part lacking.wanted n = subst (λ (k : Knowledge). IsFirstLacking k lacking.wanted n) a.part lacking.lacks in
    wanted_alike c x y m n a (record {
      may = caught_may c x (asks_for x m) lacking.wanted n m caught (subst (λ (ns : List Need). Contains ns lacking.wanted) is lacking.asked)
          (asked_may c x h n lacking.wanted lacks m settled (subst (λ (ns : List Need). Contains ns lacking.wanted) is lacking.asked));
      unknown_is = lacks.unknown;
    })

-- what lacks of what is to be made again is wanted
pub kept_wanted : (c : Call) (x y : Held) (m : Command) (needs : List Need) (n : Need) → AreAlike x y → x.is_kept ≡ true → needs ≡ needs_to_rebase (edit_of x.pending)
    → HasCaughtUpFor x needs → Holds c x → IsLackingOf y.part needs n → IsWanted c y m n
kept_wanted c x y m needs n a kept is caught h lacking =
    let lacks : IsFirstLacking x.part lacking.wanted n = subst (λ (k : Knowledge). IsFirstLacking k lacking.wanted n) a.part lacking.lacks in
    wanted_alike c x y m n a (record {
      may = caught_may c x needs lacking.wanted n m caught lacking.asked
          (kept_may c x h n lacking.wanted lacks m kept (subst (λ (ns : List Need). Contains ns lacking.wanted) is lacking.asked));
      unknown_is = lacks.unknown;
    })

-- ---- what is met on the way is wanted

touched_in : (c : Changed) (p q : Path) → is_some (change_at c p) ≡ true → Contains (with_above p) q → Contains (touched_paths c) q
touched_in [] p q touched near = absurd (false≢true touched)
touched_in (e ∷ c) p q touched near = by (eq_by_cmp path_cmp p e.0) refl touched (touched_in c p q)
  where
    by : (b : Bool) → eq_by_cmp path_cmp p e.0 ≡ b → is_some (cond b (Some e.1) (change_at c p)) ≡ true
        → (is_some (change_at c p) ≡ true → Contains (with_above p) q → Contains (touched_paths c) q) → Contains (touched_paths (e ∷ c)) q
    by true same touched rest =
        Contains-append_left (with_above e.0) (touched_paths c) q
        (subst (λ (r : Path). Contains (with_above r) q) (same_path p e.0 same) near)
    by false same touched rest = Contains-append_right (with_above e.0) (touched_paths c) q (rest touched near)

module _ (c : Call) (x : Held) (h : Holds c x) (m : Command) where
  listed_may : (q : Path) → IsKnownChild x.part q → Contains (base_load c x m) (need.Node q)
  listed_may q l =
      subst (λ (r : Path). Contains (base_load c x m) (need.Node r)) (sym l.path)
      (there_loadable (kept_paths x ++ asked_paths c m) c.base (l.parent ++ l.name ∷ [])
      (listed_is c.base x.part (part_agrees c x h) l.parent l.name l.lists)).0

  touched_may : (q : Path) → x.is_kept ≡ true → IsNearTouched x.pending q → Contains (base_load c x m) (need.Node q)
  touched_may q kept near =
      let again : List Path = map need_path (needs_to_rebase (edit_of x.pending)) in
      let all : List Path = again ++ touched_paths x.pending in
      let named : Contains (all ++ asked_paths c m) q =
      Contains-append_left all (asked_paths c m) q (Contains-append_right again (touched_paths x.pending) q
      (touched_in x.pending near.below q near.touched near.near)) in
      subst (λ b. Contains (loadable (cond b all [] ++ asked_paths c m) c.base) (need.Node q)) (sym kept)
      (contains (loadable (all ++ asked_paths c m) c.base) (need.Node q)
      (asked_in c.base x.part (part_agrees c x h) (all ++ asked_paths c m) (need.Node q) (need.Node q)
      (is_in (all ++ asked_paths c m) q named) refl))

  met_may : (n : Need) → IsMetFirst x.part x.pending x.is_kept n → Contains (base_load c x m) n
  met_may (need.Node q) met = by met.met
    where
      by : IsKnownChild x.part q ⊎ ((x.is_kept ≡ true) × IsNearTouched x.pending q) → Contains (base_load c x m) (need.Node q)
      by (inl listed) = listed_may q listed
      by (inr near) = touched_may q near.0 near.1
  met_may (need.Children p) met =
      (there_loadable (kept_paths x ++ asked_paths c m) c.base p (known_is c.base x.part (part_agrees c x h) p met.met)).1
  met_may (need.Subtree p) met = absurd met.met
  met_may need.All met = absurd met.met

  met_wanted : (n : Need) → x.earlier ≡ None → IsMetFirst x.part x.pending x.is_kept n → IsWanted c x m n
  met_wanted n none met = record { may = base_next c x n m none (met_may n met); unknown_is = met.unknown }

met_one : (k : Knowledge) (c : Changed) (b : Bool) (n : Need) → IsMetFirst k c b n → is_of_one_node n ≡ true
met_one k c b (need.Node q) met = refl
met_one k c b (need.Children q) met = refl
met_one k c b (need.Subtree q) met = absurd met.met
met_one k c b need.All met = absurd met.met

pub loads_one : {E : Type 0} (k : Knowledge) (c : Changed) (b : Bool) (answer : Result (Option Need) E)
    → IfOk answer (λ load. IfSome load (IsMetFirst k c b)) → IfOk answer (λ load. IfSome load (λ n. is_of_one_node n ≡ true))
loads_one k c b answer h = of_load (IsMetFirst k c b) (λ n. is_of_one_node n ≡ true) (met_one k c b) answer h

pub loads_wanted : {E : Type 0} (c : Call) (x y : Held) (m : Command) → AreAlike x y → x.earlier ≡ None → Holds c x → (answer : Result (Option Need) E)
    → IfOk answer (λ load. IfSome load (IsMetFirst x.part x.pending x.is_kept)) → IfOk answer (λ load. IfSome load (IsWanted c y m))
loads_wanted c x y m a none holds answer h =
    of_load (IsMetFirst x.part x.pending x.is_kept) (IsWanted c y m)
    (λ n met. wanted_alike c x y m n a (met_wanted c x holds m n none met)) answer h

-- ---- what was told to have changed is wanted

node_named : (ps : List Path) (p : Path) → Contains ps p → Contains (nodes_at ps) (need.Node p)
node_named ps p told = contains (nodes_at ps) (need.Node p) (in_nodes_at ps p (is_in ps p told))

pub told_wanted : (c : Call) (x : Held) (m : Command) (e : Earlier) (p : Path) → x.earlier ≡ Some e → Contains e.told p → known_at x.part p ≡ None
    → IsWanted c x m (need.Node p)
told_wanted c x m e p is told unknown = record {
  may = subst (λ (o : Option Earlier). Contains (told_first o (base_load c x m)) (need.Node p)) (sym is) (node_named e.told p told);
  unknown_is = ap is_some unknown;
}
