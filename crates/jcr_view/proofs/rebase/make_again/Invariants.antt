use Rattle.std.proofs.Common.{◌≡◌, take}
use Rattle.std.specs.List.{fold}
use Rattle.jr_overlay.specs.Overlays.{sighted}
use Rattle.jcr_view.specs.Rebases.{again}
use Rattle.jcr_view.proofs.rebase.make_again.Given as goal

-- the writes so far are made again
abbrev pub invariant-loop-write : goal.invariant-loop-write
invariant-loop-write l = record {
  sight : l.draft.sight ≡ l.initial.draft.sight;
  steps : l.draft.steps ≡ fold (again (sighted l.initial.draft.sight)) l.initial.draft.steps
      (take l.write-index l.writes);
}
