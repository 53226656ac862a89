-- A sweep is shown each node's document that is there throughout.
use Rattle.std.proofs.Common.{◌≡◌, ℕ, suc, List, [], ◌∷◌, Some, refl, sym, ap, subst, ◌∙◌, arith}
use Rattle.std.specs.Prelude.{fold}
use Rattle.std.specs.declared.alloc.Global.{Global}
use Rattle.std.specs.declared.cmp.Ordering.{Ordering}
use Rattle.std.specs.declared.cmp.Ordering.TheVariants.{Less, Equal, Greater}
use Rattle.jr_path.specs.Ids.{id_cmp, node_path}
use Rattle.jr_path.specs.declared.path.Path.{Path}
use Rattle.jr_path.specs.declared.path.DocId.{DocId}
use Rattle.jr_path.specs.declared.path.DocId.TheVariants as id
use Rattle.jr_path.proofs.Orders.{id_exact}
use Rattle.jr_rev.specs.declared.revision.Revision.{Revision}
use Rattle.oak_doc.specs.declared.document.Document.{Document}
use Rattle.oak_doc.specs.declared.asks.Ask.TheVariants as ask
use Rattle.oak_doc.specs.declared.asks.Reply.{Reply}
use Rattle.oak_doc.specs.declared.asks.Reply.TheVariants as reply
use Rattle.oak_sweep.specs.Sweeping.{begun, due, fed, node_found, node_passed, sweep_op, target_in}
use Rattle.oak_sweep.specs.Ending.{AllKnow, IsUpTo, MissesNone, WasShown}
use Rattle.oak_sweep.specs.declared.sweeper.Sweeper.{Sweeper}
use Rattle.oak_sweep.specs.declared.sweeper.Step.{Step}
use Rattle.oak_sweep.specs.declared.sweeper.Step.TheVariants as step

shown_behind : (y : DocId) (r : Reply) (rs : List Reply) → WasShown y rs → WasShown y (r ∷ rs)
shown_behind y r rs w = (w.0, (suc w.1.0, omega (arith, w.1.1), w.1.2), w.2)

shown_first : (y : DocId) (d : Document) (rs : List Reply) → d.id ≡ y → WasShown y (reply.Found (Some d) ∷ rs)
shown_first y d rs is = (d, (0, omega arith, refl), is)

module _ (p : Path) (a : Global) (cluster : ℕ) where
  abbrev y : DocId
  y = id.Node p

  abbrev at : Revision → Step → Sweeper
  at t s = record { alloc = a; cluster = cluster; target = t; step = s }

  -- the sweep hasn't come to y
  abbrev IsShort : Step → Type 0
  IsShort step.Root = Unit {0}
  IsShort step.First = Unit {0}
  IsShort (step.Behind q) = id_cmp (id.Node q) (id.Node p) ≡ Less
  IsShort _ = ⊥

  abbrev Shows : List Reply → Type 0
  Shows rs = (t : Revision) (s : Step) → IsShort s → AllKnow (id.Node p) (at t s) rs → (r : Revision) → due (fold fed (at t s) rs) ≡ ask.Update (sweep_op r) → WasShown (id.Node p) rs

  none_due : (t : Revision) (s : Step) → IsShort s → (r : Revision) → due (at t s) ≡ ask.Update (sweep_op r) → ⊥
  none_due t step.Root h r e = cc
  none_due t step.First h r e = cc
  none_due t (step.Behind q) h r e = cc
  none_due t step.Publish h r e = h
  none_due t step.Learn h r e = h
  none_due t step.Done h r e = h

  -- the document that was found is y, or the sweep goes on short of it
  on_found : (t : Revision) (s : Step) (d : Document) (rs : List Reply) → IsUpTo (id.Node p) d → Shows rs → (e : Sweeper) → e ≡ node_passed (at t s) (node_found (Some d)) → AllKnow (id.Node p) e rs → (r : Revision) → due (fold fed e rs) ≡ ask.Update (sweep_op r) → WasShown (id.Node p) (reply.Found (Some d) ∷ rs)
  on_found t s d rs upto go e is know r asks = by d.id refl
    where
      at_node : (q : Path) → d.id ≡ id.Node q → (o : Ordering) → id_cmp (id.Node q) (id.Node p) ≡ o → WasShown (id.Node p) (reply.Found (Some d) ∷ rs)
      at_node q same Less order =
          let goes : e ≡ at t (step.Behind q) = is ∙ ap (λ x. node_passed (at t s) (node_path x)) same in
          shown_behind (id.Node p) (reply.Found (Some d)) rs (go t (step.Behind q) order (subst (λ (e : Sweeper). AllKnow (id.Node p) e rs) goes know) r (ap (λ (e : Sweeper). due (fold fed e rs)) (sym goes) ∙ asks))
      at_node q same Equal order = shown_first (id.Node p) d rs (same ∙ id_exact (id.Node q) (id.Node p) order)
      at_node q same Greater order = absurd (upto (ap (λ x. id_cmp x (id.Node p)) same ∙ order))

      by : (x : DocId) → d.id ≡ x → WasShown (id.Node p) (reply.Found (Some d) ∷ rs)
      by (id.Node q) same = at_node q same (id_cmp (id.Node q) (id.Node p)) refl
      by (id.Prev n q) same = absurd (upto (ap (λ x. id_cmp x (id.Node p)) same))
      by id.Settings same = absurd (upto (ap (λ x. id_cmp x (id.Node p)) same))

  abbrev Goes : Revision → Reply → Type 0
  Goes t x = (t' : Revision) × (s' : Step) × IsShort s' × (fed (at t step.Root) x ≡ at t' s')

  -- the root's document comes, or nothing changes
  root_goes : (t : Revision) (x : Reply) → Goes t x
  root_goes t (reply.Found found) = (target_in cluster found, step.First, tt, refl)
  root_goes t (reply.Updated before) = (t, step.Root, tt, refl)
  root_goes t (reply.Unmet c k) = (t, step.Root, tt, refl)
  root_goes t reply.Absent = (t, step.Root, tt, refl)
  root_goes t reply.NoMemory = (t, step.Root, tt, refl)
  root_goes t reply.Undone = (t, step.Root, tt, refl)
  root_goes t (reply.Removed o) = (t, step.Root, tt, refl)
  root_goes t reply.Finished = (t, step.Root, tt, refl)
  root_goes t reply.Learnt = (t, step.Root, tt, refl)
  root_goes t (reply.Pins head sweep pins) = (t, step.Root, tt, refl)
  root_goes t reply.Gone = (t, step.Root, tt, refl)
  root_goes t reply.Recovered = (t, step.Root, tt, refl)

  shows : (rs : List Reply) → Shows rs
  shows [] t s h know r asks = absurd (none_due t s h r asks)
  shows (x ∷ rs) t step.Root h know r asks =
      let g = root_goes t x in
      shown_behind (id.Node p) x rs (shows rs g.0 g.1 g.2 (subst (λ (e : Sweeper). AllKnow (id.Node p) e rs) g.3 know.1) r (ap (λ (e : Sweeper). due (fold fed e rs)) (sym g.3) ∙ asks))
  shows (x ∷ rs) t step.First h know r asks =
      let k = know.0 tt in
      subst (λ (z : Reply). WasShown (id.Node p) (z ∷ rs)) (sym k.1) (on_found t step.First k.0 rs k.2 (shows rs) (fed (at t step.First) x) (ap (fed (at t step.First)) k.1) know.1 r asks)
  shows (x ∷ rs) t (step.Behind q) h know r asks =
      let k = know.0 h in
      subst (λ (z : Reply). WasShown (id.Node p) (z ∷ rs)) (sym k.1) (on_found t (step.Behind q) k.0 rs k.2 (shows rs) (fed (at t (step.Behind q)) x) (ap (fed (at t (step.Behind q))) k.1) know.1 r asks)
  shows (x ∷ rs) t step.Publish h know r asks = absurd h
  shows (x ∷ rs) t step.Learn h know r asks = absurd h
  shows (x ∷ rs) t step.Done h know r asks = absurd h

pub misses_none : MissesNone
misses_none p a cluster rs know r asks = shows p a cluster rs (begun a cluster).target step.Root tt know r asks
