-- What a command that commits is run on, as the law has it.
use Rattle.std.specs.Prelude.{◌≡◌, ℕ, Bool, IsTrue, List}
use Rattle.jr_tree.specs.declared.edit.Write.{Write}
use Rattle.jr_tree.specs.Trees.{IsTree}
use Rattle.jcr_plan.specs.declared.causes.Assured.{Assured}
use Rattle.jcr_plan.specs.Checked.{refusal_by}
use Rattle.jcr_plan.specs.Refusals.{plan_refusal}
use Rattle.jcr_law.specs.Proper.{is_proper}
use Rattle.jcr_law.specs.State.{Call}
use Rattle.jcr_call.specs.declared.footing.Footing.{Footing}

-- what is lent is what the call has
pub record IsOn (f : Footing) (c : Call) : Type 0 where
  pub types : f.types.now ≡ c.types
  pub who : f.who.now ≡ c.who
  pub base : f.base.now ≡ c.base
  pub tokens : f.tokens.now ≡ c.state.tokens

-- an edit that is checked by what is assured is refused for what it would be on the whole tree
abbrev pub RefusesAlike : Assured → Call → Type 0
RefusesAlike assured c = (tokens : List (List ℕ)) (ws : List Write)
    → refusal_by assured c.types c.base tokens ws ≡ plan_refusal c.types c.base tokens ws

-- what is known of the tree holds: it is one, and an edit that is checked by it is refused alike
pub record IsAsKnown (f : Footing) (c : Call) : Type 0 where
  pub tree : IsTrue f.is_tree → IsTree c.base
  pub alike : RefusesAlike f.assured c

-- whether writes are proper on the tree there is b, where what is known of it holds
abbrev pub IsProperOn : Footing → List Write → Bool → Type 0
IsProperOn f ws b = (IsTrue f.is_tree → IsTree f.base.now) → is_proper f.base.now ws ≡ b
