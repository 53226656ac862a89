use Rattle.std.proofs.Common.{ap, subst, ◌∙◌, List, ℕ, Option, Some}
use Rattle.std.specs.Prelude.{IfOk}
use Rattle.serde_json.specs.Data.{Data}
use Rattle.serde_json.specs.View.{view}
use Rattle.jr_value.specs.Texts.{IsFound}
use Rattle.jr_json.specs.Reading.{IsMember}
use Rattle.jr_json.proofs.reading.member.Goals as goal

pub returns-in-Some : goal.returns-in-Some
returns-in-Some c =
    subst (λ (m : Option (List ℕ × Data)). IfOk c.named.result (IsFound (IsMember m))) (ap (λ (tag : List ℕ). Some (tag, view c.in-Some.content.now)) c.as_str.ensures.value ∙ c.in-Some.ensures) c.named.ensures
