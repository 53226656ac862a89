-- What is due of a committer, by where it stands.
use Rattle.std.proofs.Common.{◌≡◌, Bool, true, false, List, [], ◌∷◌, Option, Some, None, ◌⊎◌, inl, inr, is_some, refl, subst}
use Rattle.jr_path.specs.declared.path.Path.{Path}
use Rattle.jr_rev.specs.declared.revision.Revision.{Revision}
use Rattle.jr_rev.specs.declared.vector.RevVec.{RevVec}
use Rattle.jr_tree.specs.declared.edit.Edit.{Edit}
use Rattle.oak_clash.specs.declared.mark.MarkAt.{MarkAt}
use Rattle.oak_commit.specs.Clashing.{Met}
use Rattle.oak_commit.specs.Committing.{Committing, is_past}
use Rattle.oak_commit.specs.Kept.{undoes}
use Rattle.oak_commit.specs.Stages.{stage_of}
use Rattle.oak_commit.specs.declared.look.Look.{Look}
use Rattle.oak_commit.specs.declared.outcome.CommitEnd.{CommitEnd}
use Rattle.oak_commit.specs.declared.outcome.CommitEnd.TheVariants as end
use Rattle.oak_commit.specs.declared.stage.Stage.{Stage}
use Rattle.oak_commit.specs.declared.stage.Stage.TheVariants as stage

-- a committer of these fields
abbrev committing : Revision → RevVec → Edit → List MarkAt → List Path → List Path → List Path → List Met → Bool → Bool → List Path → Option Look → Option CommitEnd → Bool → Committing
committing r base edit marks ps left written due undoing wants roots looking outcome ended = record {
  revision = r;
  base = base;
  edit = edit;
  marks = marks;
  writer = record { paths = ps; left = left; written = written; due = due; undoing = undoing; wants = wants };
  roots = roots;
  looking = looking;
  outcome = outcome;
  ended = ended;
}

-- a committer as its fields
fields_of : (P : Committing → Type 0) → ((r : Revision) (base : RevVec) (edit : Edit) (marks : List MarkAt) (ps left written : List Path) (due : List Met) (undoing wants : Bool) (roots : List Path) (looking : Option Look) (outcome : Option CommitEnd) (ended : Bool) → P (committing r base edit marks ps left written due undoing wants roots looking outcome ended)) → (c : Committing) → P c
fields_of P f c = f c.revision c.base c.edit c.marks c.writer.paths c.writer.left c.writer.written c.writer.due c.writer.undoing c.writer.wants c.roots c.looking c.outcome c.ended

pub record IsMarkStage (c : Committing) : Type 0 where
  pub going : c.outcome ≡ None
  pub looked : c.looking ≡ None
  pub first : Met
  pub rest : List Met
  pub due : c.writer.due ≡ first ∷ rest

pub record IsWriteStage (c : Committing) : Type 0 where
  pub going : c.outcome ≡ None
  pub looked : c.looking ≡ None
  pub unmet : c.writer.due ≡ []
  pub first : Path
  pub rest : List Path
  pub left : c.writer.left ≡ first ∷ rest

pub record IsLastStage (c : Committing) : Type 0 where
  pub going : c.outcome ≡ None
  pub looked : c.looking ≡ None
  pub unmet : c.writer.due ≡ []
  pub none : c.writer.left ≡ []

-- a previous document is to be asked for
pub record IsLookStage (c : Committing) : Type 0 where
  pub going : c.outcome ≡ None
  pub looking : Look
  pub looked : c.looking ≡ Some looking

pub record IsUndoStage (c : Committing) : Type 0 where
  pub undoing : undoes c.outcome ≡ true
  pub first : Path
  pub rest : List Path
  pub written : c.writer.written ≡ first ∷ rest

-- nothing is to be undone: it is committed, or all is undone
pub record IsFinishStage (c : Committing) : Type 0 where
  pub settled : is_some c.outcome ≡ true
  pub through : (is_past c.outcome ≡ true) ⊎ ((undoes c.outcome ≡ true) × (c.writer.written ≡ []))
  pub unended : c.ended ≡ false

-- what is so of a committer at a stage
abbrev pub StandsAt : Committing → Stage → Type 0
StandsAt c stage.Mark = IsMarkStage c
StandsAt c stage.Write = IsWriteStage c
StandsAt c stage.Look = IsLookStage c
StandsAt c stage.Last = IsLastStage c
StandsAt c stage.Undo = IsUndoStage c
StandsAt c stage.Finish = IsFinishStage c
StandsAt c stage.Done = c.ended ≡ true

pub stands : (c : Committing) → StandsAt c (stage_of c)
stands = fields_of (λ c. StandsAt c (stage_of c)) by
  where
    by : (r : Revision) (base : RevVec) (edit : Edit) (marks : List MarkAt) (ps left written : List Path) (due : List Met) (undoing wants : Bool) (roots : List Path) (looking : Option Look) (outcome : Option CommitEnd) (ended : Bool)
        → StandsAt (committing r base edit marks ps left written due undoing wants roots looking outcome ended) (stage_of (committing r base edit marks ps left written due undoing wants roots looking outcome ended))
    by r base edit marks ps left written due u v roots (Some k) None ended = record { going = refl; looking = k; looked = refl }
    by r base edit marks ps left written (f ∷ fs) u v roots None None ended = record { going = refl; looked = refl; first = f; rest = fs; due = refl }
    by r base edit marks ps (p ∷ left) written [] u v roots None None ended = record { going = refl; looked = refl; unmet = refl; first = p; rest = left; left = refl }
    by r base edit marks ps [] written [] u v roots None None ended = record { going = refl; looked = refl; unmet = refl; none = refl }
    by r base edit marks ps left written due u v roots looking (Some (end.Committed o)) true = refl
    by r base edit marks ps left written due u v roots looking (Some (end.Committed o)) false = record { settled = refl; through = inl refl; unended = refl }
    by r base edit marks ps left (p ∷ written) due u v roots looking (Some (end.Clash i o)) ended = record { undoing = refl; first = p; rest = written; written = refl }
    by r base edit marks ps left [] due u v roots looking (Some (end.Clash i o)) true = refl
    by r base edit marks ps left [] due u v roots looking (Some (end.Clash i o)) false = record { settled = refl; through = inr (refl, refl); unended = refl }
    by r base edit marks ps left (p ∷ written) due u v roots looking (Some end.Memory) ended = record { undoing = refl; first = p; rest = written; written = refl }
    by r base edit marks ps left [] due u v roots looking (Some end.Memory) true = refl
    by r base edit marks ps left [] due u v roots looking (Some end.Memory) false = record { settled = refl; through = inr (refl, refl); unended = refl }

at_stage : (c : Committing) (x : Stage) → stage_of c ≡ x → StandsAt c x
at_stage c x is = subst (StandsAt c) is (stands c)

pub mark_stage : (c : Committing) → stage_of c ≡ stage.Mark → IsMarkStage c
mark_stage c = at_stage c stage.Mark

pub write_stage : (c : Committing) → stage_of c ≡ stage.Write → IsWriteStage c
write_stage c = at_stage c stage.Write

pub last_stage : (c : Committing) → stage_of c ≡ stage.Last → IsLastStage c
last_stage c = at_stage c stage.Last

pub look_stage : (c : Committing) → stage_of c ≡ stage.Look → IsLookStage c
look_stage c = at_stage c stage.Look

pub undo_stage : (c : Committing) → stage_of c ≡ stage.Undo → IsUndoStage c
undo_stage c = at_stage c stage.Undo

pub finish_stage : (c : Committing) → stage_of c ≡ stage.Finish → IsFinishStage c
finish_stage c = at_stage c stage.Finish

pub done_stage : (c : Committing) → stage_of c ≡ stage.Done → c.ended ≡ true
done_stage c = at_stage c stage.Done
