-- Types that are added one after another.
use Rattle.std.proofs.Common.{◌≡◌, ◌∙◌, ℕ, ◌+◌, ◌<◌, ◌≤◌, List, [], ◌++◌, Some, Ok, Err, Result, add-one, ap, drop, drop-cons, get_or, length, refl, sym, subst}
use Rattle.std.proofs.lemmas.List.{drop_all}
use Rattle.std.proofs.lemmas.Option.{none-some}
use Rattle.serde_json.specs.Data.{Data, no_items, item}
use Rattle.serde_json.specs.View.{items_view, view}
use Rattle.serde_json.specs.declared.value.Value as json
use Rattle.jr_builtin.specs.Builtin.{builtin}
use Rattle.jr_defs.specs.Reading.{IsTypeJson}
use Rattle.jr_types.specs.Registered.{IsTypeFault}
use Rattle.jr_types.specs.Rules.{type_fault}
use Rattle.jr_types.specs.declared.TypeDef.{TypeDef}
use Rattle.jr_types.specs.declared.adding.TypeFault.{TypeFault}
use Rattle.jr_types.specs.declared.adding.TypeFault.TheVariants.{BadType}
use Rattle.jr_cnd.specs.Meaning.{IsMeaning}
use Rattle.cnd_print.specs.Printable.{KeepRules}
use Rattle.jr_cnd.specs.declared.cnd.Cnd.{Cnd}
use Rattle.jr_args.specs.declared.fault.Fault.{Fault}
use Rattle.jr_args.specs.declared.fault.Fault.TheVariants as fault
use Rattle.jr_args.specs.declared.fault.Step.TheVariants.{Index}
use Rattle.jr_args.specs.Outcomes.{Answers, Breaks, IsRaised, Means, Outcome, is}
use Rattle.jr_args.proofs.Readings.{raised}
use Rattle.jr_script.specs.Types.{Types, added, with_type, written_of}
use Rattle.jr_script.proofs.Definitions.{one_type}

-- the JSON defines a type that breaks a rule of the registry
pub bad_type : (types : List TypeDef) (d : Data) (t : TypeDef) (f : TypeFault) (rule : ℕ) (e : Fault) → IsTypeJson d t → IsTypeFault (type_fault types t) f → f ≡ BadType rule → e ≡ fault.Bad 9 [] → Answers (with_type types d) (Err e)
bad_type types d t f rule e is bad broken same =
    let told : type_fault types t ≡ Some rule = subst (IsTypeFault (type_fault types t)) broken bad in
    subst (λ e. Answers (with_type types d) (Err e)) (sym same)
    (refl, refl, λ more good. none-some rule (sym (sym told ∙ (ap (type_fault types) (one_type d t good.0 is good.1) ∙ good.2))))

-- ---- a list

-- so many items are added, and what the rest comes to over these types the whole does
pub record AreAddedTo (first : List TypeDef) (vs : List json.Value) (i : ℕ) (types : List TypeDef) : Type 0 where
  pub next : (o : Outcome (List TypeDef)) → added types i (items_view (drop i vs)) o → added first 0 (items_view vs) o

rest_more : (vs : List json.Value) (i : ℕ) (v : json.Value) → i < length vs → v ≡ get_or vs i v → items_view (drop i vs) ≡ item (view v) (items_view (drop (i + 1) vs))
rest_more vs i v within is = rw (drop-cons vs i v within, ← is, add-one) refl

rest_all : (vs : List json.Value) (i : ℕ) → length vs ≤ i → items_view (drop i vs) ≡ no_items
rest_all vs i past = rw (drop_all i vs past) refl

pub added_more : (first : List TypeDef) (vs : List json.Value) (i : ℕ) (types more : List TypeDef) (v : json.Value) → AreAddedTo first vs i types → i < length vs → v ≡ get_or vs i v → with_type types (view v) (Means more)
    → AreAddedTo first vs (i + 1) more
added_more first vs i types more v to within at good = record {
  next = λ o h. to.next o (rw (rest_more vs i v within at) (record { first = Means more; is_first = good; rest = h }));
}

pub added_stop : (first : List TypeDef) (vs : List json.Value) (i : ℕ) (types : List TypeDef) (v : json.Value) (below above : Fault) → AreAddedTo first vs i types → i < length vs → v ≡ get_or vs i v
    → IsRaised (Index i) below above → Answers (with_type types (view v)) (Err below) → Answers (added first 0 (items_view vs)) (Err above)
added_stop first vs i types v below (fault.Bad rule steps) to within at up bad =
    let here = raised (Index i) (with_type types (view v)) below (fault.Bad rule steps) up bad in
    to.next (Breaks rule steps) (rw (rest_more vs i v within at) (record { first = Breaks rule steps; is_first = here; rest = refl }))
added_stop first vs i types v below fault.Memory to within at up bad = tt

pub added_all : (first : List TypeDef) (vs : List json.Value) (i : ℕ) (types : List TypeDef) → AreAddedTo first vs i types → length vs ≤ i → added first 0 (items_view vs) (Means types)
added_all first vs i types to past = to.next (Means types) (rw (rest_all vs i past) refl)

-- ---- definitions that keep the rules

-- what is left keeps the rules over the types so far, and with it they are all
pub record AreLeft (first all types rest : List TypeDef) : Type 0 where
  pub rules : KeepRules types rest
  pub whole : types ++ rest ≡ first ++ all

pub defined_types : (text : List ℕ) (cnd : Cnd) (r : Result Types Fault) → IsMeaning text (Ok cnd) → Answers (is (Means (Ok (builtin ++ cnd.definitions)))) r → Answers (written_of text) r
defined_types text cnd (Ok types) h g = subst (λ o. written_of text o) (sym g) (cnd, h, refl)
defined_types text cnd (Err (fault.Bad rule steps)) h g = let e : Breaks rule steps ≡ Means (Ok (builtin ++ cnd.definitions)) = g in absurd (cc)
defined_types text cnd (Err fault.Memory) h g = tt
