-- The committer at work that a committer is seen as, before its commit point.
use Rattle.std.proofs.Common.{◌≡◌, ℕ, false, Option, None, refl, sym, ap, subst}
use Rattle.oak_commit.specs.Committing.{Committing}
use Rattle.oak_commit.specs.declared.outcome.CommitEnd.{CommitEnd}
use Rattle.core_clash.specs.Sessions.{Running}
use Rattle.oak_world.specs.Worlds.{running_as}

module _ (c : Committing) (going : c.outcome ≡ None) where
  at_outcome : c ≡ record c { outcome = None }
  at_outcome = ap (λ (o : Option CommitEnd). record c { outcome = o }) going

  abbrev pub running_going : ℕ → Running
  running_going s = record {
    draw = record { revision = c.revision; session = s; base = c.base; edit = c.edit; marks = c.marks };
    writer = record c.writer { undoing = false; wants = false };
    committed = false;
  }

  pub going_is : (s : ℕ) → running_as s c ≡ running_going s
  going_is s = subst (λ (d : Committing). running_as s d ≡ record { draw = record { revision = d.revision; session = s; base = d.base; edit = d.edit; marks = d.marks }; writer = record d.writer { undoing = false; wants = false }; committed = false }) (sym at_outcome) refl
