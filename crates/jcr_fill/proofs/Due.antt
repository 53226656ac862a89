-- Which answer or refusal is due, from what was asked and made before.
use Rattle.std.proofs.Common.{◌≡◌, Option, None, Some, sym, ap, ◌∙◌}
use Rattle.std.specs.Prelude.{IfOk, IfErr, OnOk, Result, Ok, Err}
use Rattle.jr_path.specs.declared.path.Path.{Path}
use Rattle.jr_tree.specs.declared.shared.Refusal.{Refusal}
use Rattle.jr_tree.specs.declared.tree.Node.{Node}
use Rattle.jr_overlay.specs.Drafts.{Steps, with_step}
use Rattle.jcr_write.specs.Places.{IsDueRefusal, of_node, unless_refused}
use Rattle.jcr_fill.specs.Steps.{and_then}

-- what is due comes, where nothing is refused
pub passed_ok : {T A : Type 0} (result : Result T Refusal) (o : Option Refusal)
    (due : Result A Refusal) (a : A) → o ≡ None → OnOk result (due ≡ Ok a)
    → OnOk result (unless_refused o due ≡ Ok a)
passed_ok (Ok x) o due a h is = ap (λ (p : Option Refusal). unless_refused p due) h ∙ is
passed_ok (Err r) o due a h is = is

pub passed_err : {T A : Type 0} (result : Result T Refusal) (o : Option Refusal)
    (due : Result A Refusal) → o ≡ None → IfErr result (IsDueRefusal due)
    → IfErr result (IsDueRefusal (unless_refused o due))
passed_err (Ok x) o due h is = is
passed_err (Err r) o due h is = λ m. ap (λ (p : Option Refusal). unless_refused p due) h ∙ is m

-- the same for a value that is answered
pub passed_value : {A B : Type 0} (result : Result A Refusal) (o : Option Refusal)
    (due : Result B Refusal) (of : A → B) → o ≡ None → IfOk result (λ x. due ≡ Ok (of x))
    → IfOk result (λ x. unless_refused o due ≡ Ok (of x))
passed_value (Ok x) o due of h is = ap (λ (p : Option Refusal). unless_refused p due) h ∙ is
passed_value (Err r) o due of h is = is

-- what follows comes, where what was first came
pub after_ok : {T A B : Type 0} (result : Result T Refusal) (first : Result A Refusal)
    (next : A → Result B Refusal) (a : A) (b : B) → first ≡ Ok a → OnOk result (next a ≡ Ok b)
    → OnOk result (and_then first next ≡ Ok b)
after_ok (Ok x) first next a b h is = ap (λ (r : Result _ Refusal). and_then r next) h ∙ is
after_ok (Err r) first next a b h is = is

pub after_err : {T A B : Type 0} (result : Result T Refusal) (first : Result A Refusal)
    (next : A → Result B Refusal) (a : A) → first ≡ Ok a → IfErr result (IsDueRefusal (next a))
    → IfErr result (IsDueRefusal (and_then first next))
after_err (Ok x) first next a h is = is
after_err (Err r) first next a h is = λ m. ap (λ (q : Result _ Refusal). and_then q next) h ∙ is m

-- what was first is refused
pub first_err : {A B : Type 0} (first : Result A Refusal) (next : A → Result B Refusal)
    (r : Refusal) → IsDueRefusal first r → IsDueRefusal (and_then first next) r
first_err first next r is m = ap (λ (q : Result _ Refusal). and_then q next) (is m)

-- a node that was made is put
pub put_after : {T : Type 0} (result : Result T Refusal) (first : Result Node Refusal)
    (steps new : Steps) (p : Path) (node : Node) → first ≡ Ok node
    → OnOk result (new ≡ with_step steps p (Some node))
    → OnOk result (and_then first (λ n. Ok (with_step steps p (Some n))) ≡ Ok new)
put_after (Ok x) first steps new p node h is =
    ap (λ (r : Result Node Refusal). and_then r (λ n. Ok (with_step steps p (Some n)))) h ∙ ap Ok (sym is)
put_after (Err r) first steps new p node h is = is

-- what follows of a node that is there
pub of_node_is : {A : Type 0} (p : Path) (o : Option Node) (node : Node) (then : Node → Result A Refusal)
    → Some node ≡ o → of_node p o then ≡ then node
of_node_is p o node then h = ap (λ (n : Option Node). of_node p n then) (sym h)
