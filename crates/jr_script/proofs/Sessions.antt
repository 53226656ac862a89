-- Lists and objects by their views, and the guards on them.
use Rattle.std.proofs.Common.{◌≡◌, ◌∙◌, ℕ, ◌<◌, ◌≤◌, suc, true, false, List, [], ◌∷◌, Result, Ok, Err, Option, Some, None, Bool, not, Bor, option_map, Global, String, codes, inl, inr, is_some, ap, arith, le-leb, leb, length, refl, sym, subst}
use Rattle.std.proofs.lemmas.Bool.Decides.{leb_tells}
use Rattle.std.specs.BTreeMap.{BTreeMap}
use Rattle.std.specs.declared.vec.Vec.{Vec}
use Rattle.serde_json.specs.Data.{Data, Items, Members, array, object}
use Rattle.serde_json.specs.Events.{items_len}
use Rattle.serde_json.specs.Find.{get}
use Rattle.serde_json.specs.View.{items_view, members_view, view}
use Rattle.serde_json.specs.declared.value.Value as json
use Rattle.serde_json.proofs.Views.{view-Array, view-Object}
use Rattle.jr_args.specs.declared.fault.Fault.{Fault}
use Rattle.jr_args.specs.declared.fault.Fault.TheVariants as fault
use Rattle.std.specs.Result.{IsErrAnd}
use Rattle.jr_args.specs.Outcomes.{Answers, Reading, Then}
use Rattle.jr_args.specs.Trees.{list_of, optional_of}
use Rattle.jr_args.proofs.Readings.{exits, fails, passes}
use Rattle.jr_script.specs.declared.script.Entry.{Entry}
use Rattle.jr_script.specs.declared.script.Script.{Script}
use Rattle.jr_script.specs.declared.script.TextFault.{TextFault}
use Rattle.jcr_trans.specs.declared.command.SessionScript.{SessionScript}
use Rattle.jr_script.specs.Scripts.{are_keys, counted_of, few_of, schedule_of, script_in, script_of, script_over, session_in, session_of, where_read}
use Rattle.jr_script.specs.Types.{Types}
use Rattle.jr_types.specs.declared.TypeDef.{TypeDef}

-- ---- lists of at most so many items

pub as_many : (vs : List json.Value) → items_len (items_view vs) ≡ length vs
as_many [] = refl
as_many (v ∷ vs) = ap suc (as_many vs)

too_much : (a b : ℕ) → b < a → leb a b ≡ false
too_much a b h = elim (leb_tells a b) [ inl p ↦ absurd (omega (arith, p.1, h)) | inr p ↦ p.0 ]

pub too_many : {X : Type 0} (most rule : ℕ) (M : Data → Reading X) (vs : List json.Value) (e : Fault) → most < length vs → e ≡ fault.Bad rule [] → Answers (counted_of most rule M (items_view vs)) (Err e)
too_many most rule M vs e many same = fails _ rule _ e (ap (λ n. leb n most) (as_many vs) ∙ too_much _ _ many) same

pub few_enough : {X : Type 0} (most rule : ℕ) (M : Data → Reading X) (vs : List json.Value) (r : Result (List X) Fault) → length vs ≤ most → Answers (list_of M 0 (items_view vs)) r → Answers (counted_of most rule M (items_view vs)) r
few_enough most rule M vs r few h = passes _ rule _ r (ap (λ n. leb n most) (as_many vs) ∙ le-leb _ _ few) h

pub list_view : (j : json.Value) (v : Vec json.Value Global) (vs : List json.Value) → j ≡ json.Array v → vs ≡ v.items → view j ≡ array (items_view vs)
list_view j v vs is same = ap view is ∙ (view-Array v ∙ ap (λ (xs : List json.Value). array (items_view xs)) (sym same))

pub few_listed : {X : Type 0} (most rule : ℕ) (M : Data → Reading X) (d : Data) (ds : Items) (r : Result (List X) Fault) → d ≡ array ds → Answers (counted_of most rule M ds) r → Answers (few_of most rule M d) r
few_listed most rule M d ds r is h = subst (λ (x : Data). Answers (few_of most rule M x) r) (sym is) h

-- the schedule of as many sessions as were read
pub schedule_read : (n : ℕ) (ss : List SessionScript) (o : Option Data) (r : Result (List Entry) Fault) → n ≡ length ss → Answers (optional_of (codes "schedule") [] (schedule_of n) o) r → Answers (optional_of (codes "schedule") [] (schedule_of (length ss)) o) r
schedule_read n ss o r same h = subst (λ (k : ℕ). Answers (optional_of (codes "schedule") [] (schedule_of k) o) r) same h

-- the same where `?` hands its fault on
pub schedule_exits : {X : Type 0} (n : ℕ) (ss : List SessionScript) (o : Option Data) (f : List Entry → Reading X) (e : Fault) (r : Result X Fault) → n ≡ length ss → IsErrAnd r (λ broken. broken ≡ e)
    → Answers (optional_of (codes "schedule") [] (schedule_of n) o) (Err e) → Answers (Then (optional_of (codes "schedule") [] (schedule_of (length ss)) o) f) r
schedule_exits n ss o f e r same is h = exits _ f e r is (schedule_read n ss o (Err e) same h)

-- ---- guards of objects, by what these are seen as

pub object_view : (j : json.Value) (m : BTreeMap (String Global) json.Value) → j ≡ json.Object m → view j ≡ object (members_view m.entries)
object_view j m is = ap view is ∙ view-Object m

pub session_keys : (clusters : ℕ) (d : Data) (ms : Members) (e : Fault) → d ≡ object ms → are_keys (codes "cluster" ∷ codes "commands" ∷ []) ms ≡ false → e ≡ fault.Bad 4 [] → Answers (session_of clusters d) (Err e)
session_keys clusters d ms e is bad same = subst (λ x. Answers (session_of clusters x) (Err e)) (sym is) (fails _ 4 _ e bad same)

pub session_goes : (clusters : ℕ) (d : Data) (ms : Members) (r : Result SessionScript Fault) → d ≡ object ms → are_keys (codes "cluster" ∷ codes "commands" ∷ []) ms ≡ true → Answers (session_in clusters d) r → Answers (session_of clusters d) r
session_goes clusters d ms r is good h = subst (λ x. Answers (session_of clusters x) r) (sym is) (passes _ 4 _ r good (subst (λ x. Answers (session_in clusters x) r) is h))

pub script_keys : (d : Data) (ms : Members) (e : Fault) → d ≡ object ms → are_keys (codes "clusters" ∷ codes "types" ∷ codes "sessions" ∷ codes "schedule" ∷ []) ms ≡ false → e ≡ fault.Bad 2 [] → Answers (script_of d) (Err e)
script_keys d ms e is bad same = subst (λ x. Answers (script_of x) (Err e)) (sym is) (fails _ 2 _ e bad same)

-- whether a member is there
pub there : (o : Option (Bor json.Value)) (r : Option Data) (b none : Bool) → option_map (λ v. view v.now) o ≡ r → is_some o ≡ not none → none ≡ b → is_some r ≡ not b
there None r b none p q e = ap is_some (sym p) ∙ q ∙ ap not e
there (Some x) r b none p q e = ap is_some (sym p) ∙ q ∙ ap not e

pub no_sessions : (d : Data) (ms : Members) (e : Fault) → d ≡ object ms → are_keys (codes "clusters" ∷ codes "types" ∷ codes "sessions" ∷ codes "schedule" ∷ []) ms ≡ true → is_some (get (codes "sessions") d) ≡ false → e ≡ fault.Bad 2 []
    → Answers (script_of d) (Err e)
no_sessions d ms e is good none same =
    subst (λ x. Answers (script_of x) (Err e)) (sym is) (passes _ 2 _ (Err e) good (fails _ 2 _ e (subst (λ x. is_some (get (codes "sessions") x) ≡ false) is none) same))

pub script_goes : (d : Data) (ms : Members) (r : Result (Result Script TextFault) Fault) → d ≡ object ms → are_keys (codes "clusters" ∷ codes "types" ∷ codes "sessions" ∷ codes "schedule" ∷ []) ms ≡ true → is_some (get (codes "sessions") d) ≡ true
    → Answers (script_in d) r → Answers (script_of d) r
script_goes d ms r is good has h =
    subst (λ x. Answers (script_of x) r) (sym is) (passes _ 2 _ r good (passes _ 2 _ r (subst (λ x. is_some (get (codes "sessions") x) ≡ true) is has) (subst (λ x. Answers (script_in x) r) is h)))

-- ---- types that are read

pub over_goes : (d : Data) (clusters : ℕ) (given : Types) (types : List TypeDef) (r : Result (Result Script TextFault) Fault) → given ≡ Ok types → Answers (script_over d clusters types) r → Answers (where_read (script_over d clusters) given) r
over_goes d clusters given types r is h = subst (λ (t : Types). Answers (where_read (script_over d clusters) t) r) (sym is) h
