-- Where the documents are written, by what a writer has written.
use Rattle.std.proofs.Common.{◌≡◌, Bool, true, false, cond, not, ◌&&◌, ◌||◌, List, [], ◌∷◌, ◌++◌, refl, sym, ap, subst, ◌∙◌}
use Rattle.std.specs.Ordering.{eq_by_cmp}
use Rattle.std.specs.List.{list_any}
use Rattle.jr_path.specs.Names.{path_cmp}
use Rattle.jr_path.specs.declared.path.Path.{Path}
use Rattle.jr_rev.specs.declared.revision.Revision.{Revision}
use Rattle.jr_rev.specs.Revisions.{is_same}
use Rattle.jr_tree.specs.declared.edit.Write.{Write}
use Rattle.oak_commit.specs.Clashing.{Writer}
use Rattle.oak_read.specs.Meaning.{Documents}
use Rattle.core_read.specs.Committing.{IsPartly}
use Rattle.core_clash.specs.Views.{In}
use Rattle.core_clash.specs.Core.{with_writer}
use Rattle.core_clash.proofs.Basics.{any_from, any_of, is_path_self, same_path}

-- whether p is one of some paths
abbrev pub is_among : List Path → Path → Bool
is_among ps p = list_any (eq_by_cmp path_cmp p) ps

pub partly_same : (ds : Documents) (r : Revision) (ws : List Write) (root : Path) (f g : Path → Bool) → ((p : Path) → f p ≡ g p) → IsPartly ds r ws root f → IsPartly ds r ws root g
partly_same ds r ws root f g same part = record { written_ = λ p h. part.written_ p (same p ∙ h); left = λ p h. part.left p (same p ∙ h) }

or_swap : (a b c : Bool) → (a || (b || c)) ≡ (b || (a || c))
or_swap true true c = refl
or_swap true false c = refl
or_swap false b c = refl

or_end : (a : Bool) → (a || false) ≡ a
or_end true = refl
or_end false = refl

-- one path more
pub among_more : (ps : List Path) (p q : Path) → is_among (ps ++ p ∷ []) q ≡ (eq_by_cmp path_cmp q p || is_among ps q)
among_more [] p q = refl
among_more (x ∷ ps) p q = ap (λ b. eq_by_cmp path_cmp q x || b) (among_more ps p q) ∙ or_swap (eq_by_cmp path_cmp q x) (eq_by_cmp path_cmp q p) (is_among ps q)

pub among_in : (ps : List Path) (p : Path) → In p ps → is_among ps p ≡ true
among_in ps p h = any_of (eq_by_cmp path_cmp p) p ps h (is_path_self p)

pub in_among : (ps : List Path) (p : Path) → is_among ps p ≡ true → In p ps
in_among ps p h = let x = any_from (eq_by_cmp path_cmp p) ps h in subst (λ (q : Path). In q ps) (sym (same_path p x.0 x.2)) x.1

pub not_among : (ps : List Path) (p : Path) → (In p ps → ⊥) → is_among ps p ≡ false
not_among ps p none = by (is_among ps p) refl
  where
    by : (b : Bool) → is_among ps p ≡ b → b ≡ false
    by false h = refl
    by true h = absurd (none (in_among ps p h))

-- without the first of them, which stands once
pub among_less : (ps : List Path) (p q : Path) → (In p ps → ⊥) → (not (eq_by_cmp path_cmp q p) && (eq_by_cmp path_cmp q p || is_among ps q)) ≡ is_among ps q
among_less ps p q none = by (eq_by_cmp path_cmp q p) refl
  where
    by : (b : Bool) → eq_by_cmp path_cmp q p ≡ b → (not b && (b || is_among ps q)) ≡ is_among ps q
    by false h = refl
    by true h = sym (subst (λ (x : Path). is_among ps x ≡ false) (sym (same_path q p h)) (not_among ps p none))

-- one writer's progress is changed
pub progress_with : (writers : Revision → Writer) (r : Revision) (w : Writer) (f : Path → Bool) → ((p : Path) → f p ≡ is_among w.written p) → (q : Revision) (p : Path) → cond (is_same q r) (f p) (is_among (writers q).written p) ≡ is_among (with_writer writers r w q).written p
progress_with writers r w f same q p = by (is_same q r)
  where
    by : (b : Bool) → cond b (f p) (is_among (writers q).written p) ≡ is_among (cond b w (writers q)).written p
    by true = same p
    by false = refl
