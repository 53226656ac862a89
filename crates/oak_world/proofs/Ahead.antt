-- The root is ahead of a background write.
use Rattle.std.proofs.Common.{◌≡◌, ◌≢◌, ℕ, zero, suc, ◌+◌, ◌<◌, ◌≤◌, Bool, true, false, cond, inl, inr, List, [], ◌∷◌, ◌++◌, length, length-append, refl, sym, ap, ◌∙◌, arith}
use Rattle.std.specs.Prelude.{◌==◌, nat_lt, slice_get}
use Rattle.std.specs.Option.{option_map_or}
use Rattle.std.specs.declared.alloc.Global.{Global}
use Rattle.std.proofs.lemmas.Bool.{cases_lt, false≢true}
use Rattle.std.specs.Ordering.{eq_by_cmp}
use Rattle.jr_path.specs.Names.{path_cmp}
use Rattle.jr_path.specs.declared.path.Path.{Path}
use Rattle.oak_node.specs.declared.pending.Pending.{Pending}
use Rattle.oak_sync.specs.Publishing.{HasWrittenNothing, stage_of, went_on, write_stage}
use Rattle.oak_sync.specs.declared.back_write.BackWrite.{BackWrite}
use Rattle.oak_sync.specs.declared.stage.Stage.{Stage}
use Rattle.oak_sync.specs.declared.stage.Stage.TheVariants as stage
use Rattle.oak_sync.proofs.Ending.{root_last}
use Rattle.oak_world.specs.Kept.{EndsInRoot}

abbrev stage_at : List Path → ℕ → Stage
stage_at ps w = option_map_or write_stage (slice_get ps w) stage.Done

-- a document is due
not_done : (c : Bool) → cond c stage.Publish stage.Write ≢ stage.Done
not_done true h = cc
not_done false h = cc

still_there : (front : List Path) (w : ℕ) → w ≤ length front → stage_at (front ++ [] ∷ []) w ≢ stage.Done
still_there [] zero le h = not_done true h
still_there [] (suc w) le h = absurd (omega (arith, le))
still_there (p ∷ ps) zero le h = not_done (length p == 0) h
still_there (p ∷ ps) (suc w) le h = still_there ps w (omega (arith, le)) h

pub still_due : (b : BackWrite) → EndsInRoot b → stage_of b ≢ stage.Done
still_due b is done = still_there is.front b.written is.ahead (sym (ap (λ (ps : List Path). stage_at ps b.written) is.paths) ∙ done)

-- the root is the last
at_last : (front : List Path) → stage_at (front ++ [] ∷ []) (length front) ≡ stage.Publish
at_last [] = refl
at_last (p ∷ ps) = at_last ps

-- the root is still ahead behind the document of a node below it
pub goes_ahead : (b : BackWrite) → stage_of b ≡ stage.Write → EndsInRoot b → EndsInRoot (went_on b)
goes_ahead b at is = record { front = is.front; paths = is.paths; ahead = by (nat_lt b.written (length b.paths)) }
  where
    apart : stage.Publish ≢ stage.Write
    apart h = cc

    before : b.written < length is.front
    before = elim (cases_lt b.written (length is.front)) [
      | inl less ↦ less
      | inr past ↦ (let low = is.ahead in
          let same : b.written ≡ length is.front = omega (arith, past, low) in
          absurd (apart (sym (at_last is.front) ∙ (ap (stage_at (is.front ++ [] ∷ [])) (sym same) ∙ (ap (λ (ps : List Path). stage_at ps b.written) (sym is.paths) ∙ at)))))
    ]

    by : (c : Bool) → cond c (b.written + 1) b.written ≤ length is.front
    by true = let less = before in let k : b.written + 1 ≤ length is.front = omega (arith, less) in k
    by false = is.ahead

pub begins_ahead : (a : Global) (n : Pending) (b : BackWrite) → HasWrittenNothing a n b → EndsInRoot b
begins_ahead a n b is =
    let root = root_last n.paths b.paths is.paths in
    let none : b.written ≡ 0 = ap (λ (c : BackWrite). c.written) is.state in
    record { front = root.0; paths = root.1; ahead = omega (arith, none) }

-- a document that is left
pub is_within : (b : BackWrite) → EndsInRoot b → b.written < length b.paths
is_within b is =
    let low = is.ahead in
    let count : length b.paths ≡ length is.front + 1 = ap length is.paths ∙ length-append is.front ([] ∷ []) in
    omega (arith, low, count)

-- below the root
pub below_root : (p : Path) → (length p == 0) ≡ false → eq_by_cmp path_cmp [] p ≡ false
below_root [] h = absurd (false≢true (sym h))
below_root (n ∷ p) h = refl
