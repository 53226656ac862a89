-- Which answer or refusal is due, from what was asked before.
use Rattle.std.proofs.Common.{◌≡◌, Bool, Option, None, Some, List, [], ◌∷◌, ◌++◌, true, false, refl, sym, ap, subst, ◌∙◌}
use Rattle.std.specs.Option.{option_or}
use Rattle.std.specs.Result.{is_ok}
use Rattle.std.proofs.lemmas.Bool.{false≢true}
use Rattle.jr_overlay.specs.Overlays.{View}
use Rattle.std.specs.Prelude.{IfOk, IfErr, OnOk, Result, Ok, Err}
use Rattle.std.proofs.lemmas.Option.{none-some}
use Rattle.jr_tree.specs.declared.shared.Refusal.{Refusal}
use Rattle.jr_tree.specs.declared.tree.Node.{Node}
use Rattle.jr_path.specs.declared.path.Path.{Path}
use Rattle.jr_items.proofs.FirstRefusal.{first_some-append}
use Rattle.jr_items.specs.Items.{first_some}
use Rattle.jr_items.specs.Refusals.{IsOrMemory, IsTheRefusal, out_of_memory, when}
use Rattle.jr_overlay.specs.Drafts.{Steps, drafted, with_step}
use Rattle.jcr_write.specs.Places.{IsDueRefusal, at_place, of_node, path_refusal, node_placed, putting, unless_refused}

-- the first of several comes
pub first_here : (a : Option Refusal) (rest : List (Option Refusal)) (r : Refusal)
    → IsTheRefusal a r → IsTheRefusal (first_some (a ∷ rest)) r
first_here (Some x) rest r due = due
first_here None rest r due = λ m. absurd (none-some r (due m))

-- a later one comes, where the first doesn't
pub first_later : (a : Option Refusal) (rest : List (Option Refusal)) (r : Refusal)
    → a ≡ None → IsTheRefusal (first_some rest) r → IsTheRefusal (first_some (a ∷ rest)) r
first_later None rest r h due = due
first_later (Some x) rest r h due = absurd (none-some x (sym h))

-- none comes
pub first_none : (a : Option Refusal) (rest : List (Option Refusal))
    → a ≡ None → first_some rest ≡ None → first_some (a ∷ rest) ≡ None
first_none None rest h k = k
first_none (Some x) rest h k = h

-- the last of several comes
pub last_result : {T : Type 0} (result : Result T Refusal) (a b : Option Refusal) → a ≡ None
    → IfErr result (IsTheRefusal b) → IfErr result (IsTheRefusal (first_some (a ∷ b ∷ [])))
last_result (Ok x) a b h due = due
last_result (Err r) a b h due = first_later a (b ∷ []) r h (first_here b [] r due)

pub last_none : {T : Type 0} (result : Result T Refusal) (a b : Option Refusal) → a ≡ None
    → OnOk result (b ≡ None) → OnOk result (first_some (a ∷ b ∷ []) ≡ None)
last_none (Ok x) a b h is = first_none a (b ∷ []) h (first_none b [] is refl)
last_none (Err r) a b h is = is

-- the rest of several
pub rest_result : {T : Type 0} (result : Result T Refusal) (a : Option Refusal)
    (rest : List (Option Refusal)) → a ≡ None → IfErr result (IsTheRefusal (first_some rest))
    → IfErr result (IsTheRefusal (first_some (a ∷ rest)))
rest_result (Ok x) a rest h due = due
rest_result (Err r) a rest h due = first_later a rest r h due

pub rest_none : {T : Type 0} (result : Result T Refusal) (a : Option Refusal)
    (rest : List (Option Refusal)) → a ≡ None → OnOk result (first_some rest ≡ None)
    → OnOk result (first_some (a ∷ rest) ≡ None)
rest_none (Ok x) a rest h is = first_none a rest h is
rest_none (Err r) a rest h is = is

-- the first ones come, whatever is asked behind them
pub ahead_result : (xs ys : List (Option Refusal)) (r : Refusal) → IsTheRefusal (first_some xs) r
    → IsTheRefusal (first_some (xs ++ ys)) r
ahead_result xs ys r due =
    λ m. first_some-append xs ys ∙ ap (λ o. option_or o (first_some ys)) (due m)

-- those behind first ones that pass
behind : (xs ys : List (Option Refusal)) → first_some xs ≡ None
    → first_some ys ≡ first_some (xs ++ ys)
behind xs ys h = sym (first_some-append xs ys ∙ ap (λ o. option_or o (first_some ys)) h)

pub behind_none : {T : Type 0} (result : Result T Refusal) (xs ys : List (Option Refusal))
    → first_some xs ≡ None → OnOk result (first_some ys ≡ None)
    → OnOk result (first_some (xs ++ ys) ≡ None)
behind_none result xs ys h is = subst (λ o. OnOk result (o ≡ None)) (behind xs ys h) is

pub behind_result : {T : Type 0} (result : Result T Refusal) (xs ys : List (Option Refusal))
    → first_some xs ≡ None → IfErr result (IsTheRefusal (first_some ys))
    → IfErr result (IsTheRefusal (first_some (xs ++ ys)))
behind_result result xs ys h is = subst (λ o. IfErr result (IsTheRefusal o)) (behind xs ys h) is

-- where a test holds, a cause is refused
pub when_due : (b : Bool) (cause r : Refusal) → b ≡ true → IsOrMemory cause r
    → IsTheRefusal (when b cause) r
when_due true cause r h is = λ m. ap Some (sym (is m))
when_due false cause r h is = absurd (false≢true h)

pub when_none : (b : Bool) (cause : Refusal) → b ≡ false → when b cause ≡ None
when_none true cause h = absurd (false≢true (sym h))
when_none false cause h = refl

-- a refusal comes before what is due
pub refused_due : {A : Type 0} (o : Option Refusal) (due : Result A Refusal) (r : Refusal)
    → IsTheRefusal o r → IsDueRefusal (unless_refused o due) r
refused_due o due r is m = ap (λ (x : Option Refusal). unless_refused x due) (is m)

-- what is due comes, where nothing is refused
pub passed_ok : {A : Type 0} (o : Option Refusal) (due : Result A Refusal) (a : A) → o ≡ None
    → due ≡ Ok a → unless_refused o due ≡ Ok a
passed_ok o due a h is = subst (λ (x : Option Refusal). unless_refused x due ≡ Ok a) (sym h) is

pub passed_err : {A : Type 0} (o : Option Refusal) (due : Result A Refusal) (r : Refusal)
    → o ≡ None → IsDueRefusal due r → IsDueRefusal (unless_refused o due) r
passed_err o due r h is =
    subst (λ (x : Option Refusal). IsDueRefusal (unless_refused x due) r) (sym h) is

pub passed_result : {T A : Type 0} (result : Result T Refusal) (o : Option Refusal)
    (due : Result A Refusal) → o ≡ None → IfErr result (IsDueRefusal due)
    → IfErr result (IsDueRefusal (unless_refused o due))
passed_result (Ok x) o due h is = is
passed_result (Err r) o due h is = passed_err o due r h is

-- where memory is refused anything is due
pub memory_due : {A : Type 0} (due : Result A Refusal) (r : Refusal) → r ≡ out_of_memory
    → IsDueRefusal due r
memory_due due r h m = absurd (m h)

-- the step that puts a node that was made
pub put_ok : (steps : Steps) (p : Path) (due : Result Node Refusal) (node : Node)
    → due ≡ Ok node → putting steps p due ≡ Ok (with_step steps p (Some node))
put_ok steps p due node h = ap (putting steps p) h

pub put_err : (steps : Steps) (p : Path) (due : Result Node Refusal) (r : Refusal)
    → IsDueRefusal due r → IsDueRefusal (putting steps p due) r
put_err steps p due r h m = ap (putting steps p) (h m)

-- putting the node comes to the step, or want of memory
pub put_result : {T : Type 0} (result : Result T Refusal) (new steps : Steps) (p : Path)
    (due : Result Node Refusal) (node : Node) → due ≡ Ok node
    → OnOk result (new ≡ with_step steps p (Some node)) → OnOk result (putting steps p due ≡ Ok new)
put_result (Ok x) new steps p due node h is = ap (putting steps p) h ∙ ap Ok (sym is)
put_result (Err r) new steps p due node h is = is

pub memory_result : {T A : Type 0} (result : Result T Refusal) (due : Result A Refusal)
    → IfErr result (λ r. r ≡ out_of_memory) → IfErr result (IsDueRefusal due)
memory_result (Ok x) due is = is
memory_result (Err r) due is = memory_due due r is

-- what was made is what is due, where nothing is refused
pub made_ok : {A E : Type 0} (result : Result A Refusal) (made : Result A E) (o : Option Refusal)
    (a : A) → o ≡ None → IfOk made (λ x. x ≡ a) → IfOk result (λ x. made ≡ Ok x)
    → IfOk result (λ x. unless_refused o (Ok a) ≡ Ok x)
made_ok (Err r) made o a h is same = same
made_ok (Ok x) (Err e) o a h is same = absurd (false≢true (ap is_ok same))
made_ok (Ok x) (Ok y) o a h is same =
    passed_ok o (Ok a) x h (ap Ok (sym is) ∙ ap (λ (r : Result _ _). elim r [ Ok z ↦ Ok z | Err e ↦ Ok a ]) same)

-- what follows of the node at a place
found : {A : Type 0} (o : Option Refusal) (n : Option Node) (p : Path) (node : Node)
    (then : Node → Result A Refusal) → unless_refused o (of_node p n Ok) ≡ Ok node
    → unless_refused o (of_node p n then) ≡ then node
found None (Some x) p node then h =
    ap (λ (r : Result Node Refusal). elim r [ Ok y ↦ then y | Err e ↦ then node ]) h
found None None p node then h = absurd (false≢true (ap is_ok h))
found (Some r) n p node then h = absurd (false≢true (ap is_ok h))

unfound : {A : Type 0} (o : Option Refusal) (n : Option Node) (p : Path) (r : Refusal)
    (then : Node → Result A Refusal) → unless_refused o (of_node p n Ok) ≡ Err r
    → unless_refused o (of_node p n then) ≡ Err r
unfound None (Some x) p r then h = absurd (false≢true (sym (ap is_ok h)))
unfound None None p r then h =
    ap (λ (x : Result Node Refusal). elim x [ Ok y ↦ then y | Err e ↦ Err e ]) h
unfound (Some s) n p r then h =
    ap (λ (x : Result Node Refusal). elim x [ Ok y ↦ then y | Err e ↦ Err e ]) h

pub at_place_is : {A : Type 0} (view : View) (steps : Steps) (p : Path) (node : Node)
    (then : Node → Result A Refusal) → node_placed view steps p ≡ Ok node
    → at_place view steps p then ≡ then node
at_place_is view steps p node then h = found (path_refusal p) (drafted view steps p) p node then h

pub found_ok : {A : Type 0} (result : Result A Refusal) (view : View) (steps : Steps) (p : Path)
    (node : Node) (then : Node → Result A Refusal) → node_placed view steps p ≡ Ok node
    → IfOk result (λ x. then node ≡ Ok x) → IfOk result (λ x. at_place view steps p then ≡ Ok x)
found_ok (Ok x) view steps p node then h is =
    found (path_refusal p) (drafted view steps p) p node then h ∙ is
found_ok (Err r) view steps p node then h is = is

pub found_err : {A : Type 0} (result : Result A Refusal) (view : View) (steps : Steps) (p : Path)
    (node : Node) (then : Node → Result A Refusal) → node_placed view steps p ≡ Ok node
    → IfErr result (IsDueRefusal (then node)) → IfErr result (IsDueRefusal (at_place view steps p then))
found_err (Ok x) view steps p node then h is = is
found_err (Err r) view steps p node then h is =
    λ m. found (path_refusal p) (drafted view steps p) p node then h ∙ is m

pub place_err : {A : Type 0} (view : View) (steps : Steps) (p : Path) (r : Refusal)
    (then : Node → Result A Refusal) → IsDueRefusal (node_placed view steps p) r
    → IsDueRefusal (at_place view steps p then) r
place_err view steps p r then is m =
    unfound (path_refusal p) (drafted view steps p) p r then (is m)

-- of a path that was found
pub at_path : {T : Type 0} (result : Result T Refusal) (f : Path → Option Refusal) (p q : Path)
    → p ≡ q → IfErr result (IsTheRefusal (f p)) → IfErr result (IsTheRefusal (f q))
at_path result f p q h is = subst (λ (x : Path). IfErr result (IsTheRefusal (f x))) h is

pub passed_ok_result : {A : Type 0} (result : Result A Refusal) (o : Option Refusal)
    (due : Result A Refusal) → o ≡ None → IfOk result (λ x. due ≡ Ok x)
    → IfOk result (λ x. unless_refused o due ≡ Ok x)
passed_ok_result (Ok x) o due h is = passed_ok o due x h is
passed_ok_result (Err r) o due h is = is

-- of what is due at a path that was found
pub due_at : {X A : Type 0} (result : Result A Refusal) (f : X → Result A Refusal) (x y : X) → x ≡ y
    → IfOk result (λ a. f x ≡ Ok a) → IfOk result (λ a. f y ≡ Ok a)
due_at result f x y h is = subst (λ z. IfOk result (λ a. f z ≡ Ok a)) h is

pub due_err_at : {X A : Type 0} (result : Result A Refusal) (f : X → Result A Refusal) (x y : X)
    → x ≡ y → IfErr result (IsDueRefusal (f x)) → IfErr result (IsDueRefusal (f y))
due_err_at result f x y h is = subst (λ z. IfErr result (IsDueRefusal (f z))) h is
