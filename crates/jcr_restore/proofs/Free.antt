-- What is found where a test holds, and the first of two refusals.
use Rattle.std.proofs.Common.{◌≡◌, Option, None, [], ◌∷◌}
use Rattle.std.specs.Prelude.{IfErr, Result, Ok, Err}
use Rattle.jr_path.specs.declared.path.Path.{Path}
use Rattle.jr_tree.specs.declared.shared.Refusal.{Refusal}
use Rattle.jr_items.specs.Items.{first_some}
use Rattle.jr_items.specs.Refusals.{IsTheRefusal}
pub use Rattle.jcr_frozen.proofs.Found.{none_of, some_of}
pub use Rattle.jcr_frozen.proofs.Refused.{first_of_two, none_of_two, second_of_two}
pub use Rattle.jcr_version.proofs.Due.{first_refused, own_due, own_refused}

pub second_err : (result : Result Path Refusal) (a b : Option Refusal) → a ≡ None → IfErr result (IsTheRefusal b) → IfErr result (IsTheRefusal (first_some (a ∷ b ∷ [])))
second_err (Ok path) a b h is = is
second_err (Err r) a b h is = second_of_two a b r h is
