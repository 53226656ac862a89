-- Events of a step that draws nothing, moves no base, and answers nothing.
use Rattle.std.proofs.Common.{◌≡◌, inl, ℕ, Bool, true, false, not, ◌||◌, None, [], ◌∷◌, ◌++◌, refl, sym, ap, ◌∙◌}
use Rattle.std.specs.List.{list_any}
use mathlib.Core.Bool.{false≢true}
use Rattle.jr_path.specs.Lists.{Text}
use Rattle.jr_rev.specs.declared.revision.Revision.{Revision}
use Rattle.jr_rev.specs.declared.vector.RevVec.{RevVec}
use Rattle.oak_machine.specs.declared.event.Event.TheVariants as event
use Rattle.oak_machine.specs.declared.event.StepKind.TheVariants as kind
use Rattle.oak_machine.specs.History.{Past}
use Rattle.oak_machine.specs.Sessions.{drawn_since, is_drawing, since}
use Rattle.oak_port.specs.Ports.{Work, is_by_due}
use Rattle.core_heads.proofs.Passing.{among_same}
use Rattle.jcr_law.specs.Since.{is_pinning, is_unmoved, is_unpinned}
use Rattle.jcr_run.specs.Standing.{HasAwaited, IsOneStep}
use Rattle.jcr_run.proofs.Committing.{own as same_number}
use Rattle.jcr_run.proofs.Turning.{IsQuiet}

pub record IsPlain (s : ℕ) (own : Past) : Type 0 where
  pub quiet : IsQuiet s own
  pub drawn : (q : Past) → drawn_since (own ++ q) s ≡ drawn_since q s
  pub idle : (q : Past) → is_drawing q s ≡ false → is_drawing (own ++ q) s ≡ false
  pub unmoved : (q : Past) → is_unmoved (own ++ q) s ≡ is_unmoved q s
  pub due : is_by_due None own ≡ true
  pub awaited : (q : Past) (w : Work) → HasAwaited q own w
  pub one : IsOneStep own

pub plain_back : (s : ℕ) → IsPlain s (event.Went s kind.Back ∷ [])
plain_back s = record {
  quiet = record { left = λ q. refl; next = λ q. refl; attached = λ q. refl; begins = λ q. refl; calls = refl; draws = λ q. refl; pins = λ q h. h; cursor = λ q h. refl };
  drawn = λ q. refl;
  idle = λ q h. among_same q (event.Went s kind.Back) (λ r. refl) q s ∙ h;
  unmoved = λ q. refl;
  due = refl;
  awaited = λ q w. tt;
  one = inl (event.Went s kind.Back, refl, refl);
}

pub plain_setting : (s : ℕ) → IsPlain s (event.Went s kind.Settings ∷ [])
plain_setting s = record {
  quiet = record { left = λ q. refl; next = λ q. refl; attached = λ q. refl; begins = λ q. refl; calls = refl; draws = λ q. refl; pins = λ q h. h; cursor = λ q h. refl };
  drawn = λ q. refl;
  idle = λ q h. among_same q (event.Went s kind.Settings) (λ r. refl) q s ∙ h;
  unmoved = λ q. refl;
  due = refl;
  awaited = λ q w. tt;
  one = inl (event.Went s kind.Settings, refl, refl);
}

pub plain_pass : (s : ℕ) → IsPlain s (event.Went s kind.Sweep ∷ [])
plain_pass s = record {
  quiet = record { left = λ q. refl; next = λ q. refl; attached = λ q. refl; begins = λ q. refl; calls = refl; draws = λ q. refl; pins = λ q h. h; cursor = λ q h. refl };
  drawn = λ q. refl;
  idle = λ q h. among_same q (event.Went s kind.Sweep) (λ r. refl) q s ∙ h;
  unmoved = λ q. refl;
  due = refl;
  awaited = λ q w. tt;
  one = inl (event.Went s kind.Sweep, refl, refl);
}

pub plain_sweep : (s k : ℕ) (r : Revision) → IsPlain s (event.Sweep k r ∷ [])
plain_sweep s k r = record {
  quiet = record { left = λ q. refl; next = λ q. refl; attached = λ q. refl; begins = λ q. refl; calls = refl; draws = λ q. refl; pins = λ q h. h; cursor = λ q h. refl };
  drawn = λ q. refl;
  idle = λ q h. among_same q (event.Sweep k r) (λ x. refl) q s ∙ h;
  unmoved = λ q. refl;
  due = refl;
  awaited = λ q w. tt;
  one = inl (event.Sweep k r, refl, refl);
}

pub plain_learn : (s : ℕ) → IsPlain s (event.Went s kind.Learn ∷ [])
plain_learn s = record {
  quiet = record { left = λ q. refl; next = λ q. refl; attached = λ q. refl; begins = λ q. refl; calls = refl; draws = λ q. refl; pins = λ q h. h; cursor = λ q h. refl };
  drawn = λ q. refl;
  idle = λ q h. among_same q (event.Went s kind.Learn) (λ r. refl) q s ∙ h;
  unmoved = λ q. refl;
  due = refl;
  awaited = λ q w. tt;
  one = inl (event.Went s kind.Learn, refl, refl);
}

pub plain_out : (s k : ℕ) (r : Revision) → IsPlain s (event.Out k r ∷ [])
plain_out s k r = record {
  quiet = record { left = λ q. refl; next = λ q. refl; attached = λ q. refl; begins = λ q. refl; calls = refl; draws = λ q. refl; pins = λ q h. h; cursor = λ q h. refl };
  drawn = λ q. refl;
  idle = λ q h. among_same q (event.Out k r) (λ x. refl) q s ∙ h;
  unmoved = λ q. refl;
  due = refl;
  awaited = λ q w. tt;
  one = inl (event.Out k r, refl, refl);
}

pub plain_in : (s k : ℕ) (v : RevVec) → IsPlain s (event.In k v ∷ [])
plain_in s k v = record {
  quiet = record { left = λ q. refl; next = λ q. refl; attached = λ q. refl; begins = λ q. refl; calls = refl; draws = λ q. refl; pins = λ q h. h; cursor = λ q h. refl };
  drawn = λ q. refl;
  idle = λ q h. among_same q (event.In k v) (λ x. refl) q s ∙ h;
  unmoved = λ q. refl;
  due = refl;
  awaited = λ q w. tt;
  one = inl (event.In k v, refl, refl);
}

pub plain_checkpoint : (s : ℕ) (id : Text) (v : RevVec) → IsPlain s (event.Checkpoint id v ∷ [])
plain_checkpoint s id v = record {
  quiet = record { left = λ q. refl; next = λ q. refl; attached = λ q. refl; begins = λ q. refl; calls = refl; draws = λ q. refl; pins = λ q h. h; cursor = λ q h. refl };
  drawn = λ q. refl;
  idle = λ q h. among_same q (event.Checkpoint id v) (λ x. refl) q s ∙ h;
  unmoved = λ q. refl;
  due = refl;
  awaited = λ q w. tt;
  one = inl (event.Checkpoint id v, refl, refl);
}

pub plain_release : (s : ℕ) (id : Text) → IsPlain s (event.Release id ∷ [])
plain_release s id = record {
  quiet = record { left = λ q. refl; next = λ q. refl; attached = λ q. refl; begins = λ q. refl; calls = refl; draws = λ q. refl; pins = λ q h. h; cursor = λ q h. refl };
  drawn = λ q. refl;
  idle = λ q h. among_same q (event.Release id) (λ x. refl) q s ∙ h;
  unmoved = λ q. refl;
  due = refl;
  awaited = λ q w. tt;
  one = inl (event.Release id, refl, refl);
}

-- such a step pins the cursor
pinned_by : (q : Past) (s : ℕ) → is_unpinned (event.Went s kind.Pin ∷ q) s ≡ false
pinned_by q s = ap (λ (b : Bool). not (b || list_any (is_pinning s) (since q s))) (same_number s)

pub plain_pin : (s : ℕ) → IsPlain s (event.Went s kind.Pin ∷ [])
plain_pin s = record {
  quiet = record {
    left = λ q. refl;
    next = λ q. refl;
    attached = λ q. refl;
    begins = λ q. refl;
    calls = refl;
    draws = λ q. refl;
    pins = λ q h. absurd (false≢true (sym (pinned_by q s) ∙ h));
    cursor = λ q h. absurd (false≢true (sym (pinned_by q s) ∙ h));
  };
  drawn = λ q. refl;
  idle = λ q h. among_same q (event.Went s kind.Pin) (λ r. refl) q s ∙ h;
  unmoved = λ q. refl;
  due = refl;
  awaited = λ q w. tt;
  one = inl (event.Went s kind.Pin, refl, refl);
}
