-- The nearest versionable node is the one that its test finds.
use Rattle.std.proofs.Common.{◌≡◌, Bool, true, false, cond, ◌&&◌, Option, None, Some, is_some, List, [], ◌∷◌, refl, sym, ap, subst, ◌∙◌}
use Rattle.std.proofs.lemmas.Bool.{false≢true}
use Rattle.std.specs.List.{find}
use Rattle.std.specs.Option.{unwrap_or, option_and_then}
use Rattle.jr_path.specs.declared.path.Path.{Path}
use Rattle.jr_tree.specs.Trees.{Nodes, property_at}
use Rattle.jr_items.specs.Names.{is_checked_out, versionable}
use Rattle.jr_items.specs.Items.{has_mixin, is_flag, upward}
use Rattle.jcr_lock.specs.Locks.{frozen_by}

found : (test : Path → Bool) (ps : List Path) (a : Path) → find test ps ≡ Some a → test a ≡ true
found test [] a h = absurd (false≢true (ap is_some h))
found test (p ∷ ps) a h =
    (elim (test p) as (λ b. test p ≡ b → cond b (Some p) (find test ps) ≡ Some a → test a ≡ true) [
      | true ↦ λ e k. subst (λ (q : Path). test q ≡ true) (ap (λ (o : Option Path). unwrap_or o p) k) e
      | false ↦ λ e k. found test ps a k
    ]) refl h

-- what was found is versionable, so its flag decides
pub frozen_found : (t : Nodes) (p a : Path) (mixin : _) → mixin ≡ versionable → Some a ≡ find (has_mixin t mixin) (upward p) → frozen_by t p ≡ cond (is_flag false (property_at t a is_checked_out)) (Some a) None
frozen_found t p a mixin is h =
    let found_is : find (has_mixin t versionable) (upward p) ≡ Some a = sym (subst (λ (m : _). Some a ≡ find (has_mixin t m) (upward p)) is h) in
    ap (λ (o : Option Path). option_and_then (λ q. cond (has_mixin t versionable q && is_flag false (property_at t q is_checked_out)) (Some q) None) o) found_is
    ∙ ap (λ b. cond (b && is_flag false (property_at t a is_checked_out)) (Some a) None) (found (has_mixin t versionable) (upward p) a found_is)
