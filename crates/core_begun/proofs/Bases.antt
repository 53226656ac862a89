-- What a run begins with is seen by every head, base and checkpoint.
use Rattle.std.proofs.Common.{◌≡◌, ℕ, Bool, true, false, cond, Some, None, Option, List, [], ◌∷◌, refl, sym, ap, ◌∙◌, subst, is_some}
use Rattle.std.specs.Prelude.{◌==◌, ◌≤◌, drop, fold, slice_get}
use Rattle.std.specs.List.{range_with_len}
use Rattle.std.specs.Option.{unwrap_or}
use mathlib.Core.Bool.{false≢true}
use Rattle.jr_path.specs.Lists.{Text}
use Rattle.jr_rev.specs.declared.revision.Revision.{Revision}
use Rattle.jr_rev.specs.declared.vector.RevVec.{RevVec}
use Rattle.jr_rev.specs.Revisions.{is_at_most}
use Rattle.jr_rev.specs.Vectors.{raised, sees}
use Rattle.jr_rev.proofs.Order.{at_most_trans}
use Rattle.oak_machine.specs.declared.event.Event.TheVariants as event
use Rattle.oak_machine.specs.History.{Begin, Past, IsBegun, begin_at, begin_of}
use Rattle.oak_machine.specs.Heads.{head_of, last_in, local, published}
use Rattle.oak_machine.specs.Laws.{Starts, Says}
use Rattle.oak_machine.specs.Runs.{AreNodes, IsNode, IsRunOf}
use Rattle.oak_machine.specs.Sessions.{base_of, is_text, last_checkpoint}
use Rattle.core_heads.proofs.AtStart.{begin_sees}
use Rattle.core_heads.proofs.Entries.{raised_sees}
use Rattle.core_heads.proofs.Locals.{head_learned, local_first}
use Rattle.core_heads.proofs.Orders.{same_number}

some_is : (x y : RevVec) → Some x ≡ Some y → x ≡ y
some_is x y h = ap (λ (o : Option RevVec). unwrap_or o x) h

module _ (clusters : ℕ) (sessions : List ℕ) (nodes : AreNodes clusters sessions) (begin : Begin) (starts : Starts) (says : Says) where
  -- it sees all that there was at the beginning
  abbrev pub SeesAll : RevVec → Type 0
  SeesAll v = (o : Revision) → sees (begin_at clusters begin) o ≡ true → sees v o ≡ true

  pub begun_of : (past : Past) → IsRunOf starts says clusters sessions begin past → IsBegun clusters begin
  begun_of [] run = run
  begun_of (e ∷ past) run = begun_of past run.1

  own_seen : IsBegun clusters begin → (past : Past) (k : ℕ) (o : Revision) → sees (begin_at clusters begin) o ≡ true → o.cluster ≡ k → is_at_most o (local begin past k) ≡ true
  own_seen begun past k o seen same =
      at_most_trans o (begin_of begin o.cluster) (local begin past k) (begin_sees clusters begin begun o seen).1
      (subst (λ (j : ℕ). is_at_most (begin_of begin o.cluster) (local begin past j) ≡ true) same (local_first begin past o.cluster))

  head_from : IsBegun clusters begin → (past : Past) (k : ℕ) (o : Revision) → IsNode clusters k → sees (begin_at clusters begin) o ≡ true → sees (last_in clusters begin past k) o ≡ true → sees (head_of clusters begin past k) o ≡ true
  head_from begun past k o node seen last = head_learned clusters begin past k o node.0 last (λ same. own_seen begun past k o seen same)

  raised_all : (m : ℕ) (earlier : Past) (o : Revision) (js : List ℕ) (v : RevVec) → sees v o ≡ true → sees (fold (λ (w : RevVec) (j : ℕ). cond (j == m) w (raised w (published begin earlier j))) v js) o ≡ true
  raised_all m earlier o [] v h = h
  raised_all m earlier o (j ∷ js) v h = raised_all m earlier o js (cond (j == m) v (raised v (published begin earlier j))) (by (j == m))
    where
      by : (c : Bool) → sees (cond c v (raised v (published begin earlier j))) o ≡ true
      by true = h
      by false = raised_sees v (published begin earlier j) o h

  last_sees : (past : Past) → IsRunOf starts says clusters sessions begin past → (k : ℕ) → IsNode clusters k → (o : Revision) → sees (begin_at clusters begin) o ≡ true → sees (last_in clusters begin past k) o ≡ true
  last_sees [] run k node o seen = seen
  last_sees (event.In m v ∷ past) run k node o seen = by (λ j n. last_sees past run.1 j n o seen) (m == k) refl
    where
      by : ((j : ℕ) → IsNode clusters j → sees (last_in clusters begin past j) o ≡ true) → (c : Bool) → (m == k) ≡ c → sees (cond c v (last_in clusters begin past k)) o ≡ true
      by rest false h = rest k node
      by rest true h =
          let node' : IsNode clusters m = subst (λ (j : ℕ). IsNode clusters j) (sym (same_number m k h)) node in
          subst (λ (w : RevVec). sees w o ≡ true) (sym run.0.1.1) (raised_all m (drop run.0.1.0 past) o (range_with_len 1 clusters) (head_of clusters begin past m) (head_from (begun_of past run.1) past m o node' seen (rest m node')))
  last_sees (e ∷ past) run k node o seen = last_sees past run.1 k node o seen

  -- every head sees it
  pub head_sees : (past : Past) → IsRunOf starts says clusters sessions begin past → (k : ℕ) → IsNode clusters k → SeesAll (head_of clusters begin past k)
  head_sees past run k node o seen = head_from (begun_of past run) past k o node seen (last_sees past run k node o seen)

  -- every base and every checkpoint sees it
  pub record AllSee (past : Past) : Type 0 where
    pub bases : (s : ℕ) (v : RevVec) → base_of past s ≡ Some v → SeesAll v
    pub kept : (id : Text) (v : RevVec) → last_checkpoint past id ≡ Some v → SeesAll v

  at_head : (past : Past) → IsRunOf starts says clusters sessions begin past → (s k : ℕ) (v w : RevVec) → slice_get sessions s ≡ Some k → w ≡ head_of clusters begin past k → Some w ≡ Some v → SeesAll v
  at_head past run s k v w of is same = subst (λ (u : RevVec). SeesAll u) (sym is ∙ some_is w v same) (head_sees past run k (nodes.node s k of))

  pub all_see : (past : Past) → IsRunOf starts says clusters sessions begin past → AllSee past
  all_see [] run = record { bases = λ s v h. absurd (false≢true (ap is_some h)); kept = λ id v h. absurd (false≢true (ap is_some h)) }
  all_see (event.Login t w ∷ past) run = by (all_see past run.1)
    where
      by : AllSee past → AllSee (event.Login t w ∷ past)
      by rest = record { bases = λ s v. at s v (t == s); kept = rest.kept }
        where
          at : (s : ℕ) (v : RevVec) (c : Bool) → cond c (Some w) (base_of past s) ≡ Some v → SeesAll v
          at s v true h = at_head past run.1 t run.0.head.0 v w run.0.head.1 run.0.head.2 h
          at s v false h = rest.bases s v h
  all_see (event.Refresh t w ∷ past) run = by (all_see past run.1)
    where
      by : AllSee past → AllSee (event.Refresh t w ∷ past)
      by rest = record { bases = λ s v. at s v (t == s); kept = rest.kept }
        where
          at : (s : ℕ) (v : RevVec) (c : Bool) → cond c (Some w) (base_of past s) ≡ Some v → SeesAll v
          at s v true h = at_head past run.1 t run.0.head.0 v w run.0.head.1 run.0.head.2 h
          at s v false h = rest.bases s v h
  all_see (event.Attach t id ∷ past) run = by (all_see past run.1)
    where
      by : AllSee past → AllSee (event.Attach t id ∷ past)
      by rest = record { bases = λ s v. at s v (t == s); kept = rest.kept }
        where
          at : (s : ℕ) (v : RevVec) (c : Bool) → cond c (last_checkpoint past id) (base_of past s) ≡ Some v → SeesAll v
          at s v true h = rest.kept id v h
          at s v false h = rest.bases s v h
  all_see (event.Checkpoint other w ∷ past) run = by (all_see past run.1)
    where
      by : AllSee past → AllSee (event.Checkpoint other w ∷ past)
      by rest = record { bases = rest.bases; kept = λ id v. at id v (is_text other id) }
        where
          at : (id : Text) (v : RevVec) (c : Bool) → cond c (Some w) (last_checkpoint past id) ≡ Some v → SeesAll v
          at id v true h = subst (λ (u : RevVec). SeesAll u) (some_is w v h) (rest.bases run.0.0 w run.0.1)
          at id v false h = rest.kept id v h
  all_see (e ∷ past) run = by (all_see past run.1)
    where
      by : AllSee past → AllSee (e ∷ past)
      by rest = record { bases = rest.bases; kept = rest.kept }
