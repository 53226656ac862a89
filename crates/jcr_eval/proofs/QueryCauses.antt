-- The causes of a reply to a query, decided of what its text was read as.
use Rattle.std.proofs.Common.{◌≡◌, ◌≢◌, ℕ, Bool, false, List, Option, None, Some, refl, sym, ap, subst, ◌∙◌}
use Rattle.std.specs.Prelude.{◌↔◌, IfOk, IsTrue, OnOk, Result, Ok, Err, bytes_eq, is_none, map}
use Rattle.std.specs.List.{find}
use Rattle.std.proofs.lemmas.Result.{IfOk-weaker}
use Rattle.std.proofs.lemmas.Slice.Eq.{bytes_eq-Decides}
use Rattle.jr_path.specs.declared.name.Name.{Name}
use Rattle.jr_path.specs.Lists.{Text}
use Rattle.jr_tree.specs.Trees.{Nodes}
use Rattle.jr_types.specs.declared.TypeDef.{TypeDef}
use Rattle.jr_types.specs.Types.{subtypes, type_named}
use Rattle.jr_value.specs.declared.value.Value.{Value}
use Rattle.jr_value.specs.declared.value.Kind.{Kind}
use Rattle.jr_items.specs.Refusals.{no_query, no_type, wrong_kind}
use Rattle.oak_machine.specs.History.{History}
use Rattle.sql_parse.specs.Answers.{AreSame}
use Rattle.sql_parse.specs.Grammar.{IsParsed}
use Rattle.sql_query.specs.Trees.{AskedQuery, asked_of}
use Rattle.sql_pieces.specs.declared.fault.SqlFault.{SqlFault}
use Rattle.sql_pieces.specs.declared.fault.SqlFault.TheVariants as fault
use Rattle.sql_query.specs.declared.query.Query.{Query}
use Rattle.sql_parse.proofs.OneQuery.{one_answer}
use Rattle.sql_eval.specs.declared.row.Row.{Row}
use Rattle.sql_eval.specs.RowTexts.{rows_data}
use Rattle.sql_eval.specs.Rows.{AreRows}
use Rattle.sql_eval.proofs.SameQuery.{rows_same}
use Rattle.jcr_trans.specs.Texts.{ok_text}
use Rattle.jcr_law.specs.declared.law.JcrLaw.{JcrLaw}
use Rattle.jcr_law.specs.Law.{no_text}
use Rattle.jcr_law.specs.Queries.{QueryAnswers, cast, rows, unknown_selector, untyped, wrong}
use Rattle.jcr_law.specs.State.{Call, call_of}
use Rattle.jcr_call.specs.Reading.{AnswersFor, AnswersQuery, AnswersRead, ShowsRows}
use Rattle.jcr_call.proofs.QueryRead.{of_read}
use Rattle.jcr_eval.specs.Asked.{IsReadSo, refuses_fault}
use Rattle.jcr_past.specs.Shown.{is_refusal}
use Rattle.jcr_eval.specs.TaskCauses.{QueryCause}

-- a query's text is answered in one way
abbrev pub AreOne : Type 0
AreOne = (text : List ℕ) (vars : List (List ℕ × Value)) (a b : Result Query SqlFault)
    → IsParsed text vars a → IsParsed text vars b → AreSame a b

module _ (c : Call) (query : List ℕ) (vars : List (List ℕ × Value)) where
  same_query : (q r : Query) (text : List ℕ) → asked_of q ≡ asked_of r
      → AnswersQuery c.types c.base q text → AnswersQuery c.types c.base r text
  same_query q r text same h =
      by (unknown_selector c.types r)
      (sym (ap (λ (a : AskedQuery). find (λ n. is_none (type_named c.types n)) a.types) same)) h
    where
      by : (o : Option Name) → o ≡ unknown_selector c.types q → AnswersQuery c.types c.base q text
          → AnswersFor o c.types c.base r text
      by (Some n) is a = subst (λ (o : Option Name). AnswersFor o c.types c.base q text) (sym is) a
      by None is a =
          let s : ShowsRows c.types c.base q text =
          subst (λ (o : Option Name). AnswersFor o c.types c.base q text) (sym is) a in (
            s.0,
            rows_same q r same (map (subtypes c.types) r.types) c.base s.0
                (subst (λ (ts : List Name). AreRows q (map (subtypes c.types) ts) c.base s.0)
                (ap (λ (a' : AskedQuery). a'.types) same) s.1),
            s.2,
          )

  read_query : (q : Query) (p : Result Query SqlFault) (text : List ℕ) → p ≢ Err fault.Memory
      → AreSame (Ok q) p → AnswersQuery c.types c.base q text → AnswersRead c.types c.base p text
  read_query q (Ok r) text read same h = same_query q r text same h
  read_query q (Err (fault.InvalidQuery n)) text read same h = absurd same
  read_query q (Err (fault.Cast k l)) text read same h = absurd same
  read_query q (Err fault.Memory) text read same h = absurd (read refl)

  read_wrong : (m : ℕ) (p : Result Query SqlFault) → p ≢ Err fault.Memory
      → AreSame (Err (fault.InvalidQuery m)) p → AnswersRead c.types c.base p (no_text (no_query m))
  read_wrong m (Ok r) read same = absurd same
  read_wrong m (Err (fault.InvalidQuery n)) read same = ap (λ k. no_text (no_query k)) same
  read_wrong m (Err (fault.Cast k l)) read same = absurd same
  read_wrong m (Err fault.Memory) read same = absurd (read refl)

  read_cast : (asked given : Kind) (p : Result Query SqlFault) → p ≢ Err fault.Memory
      → AreSame (Err (fault.Cast asked given)) p
      → AnswersRead c.types c.base p (no_text (wrong_kind asked given))
  read_cast asked given (Ok r) read same = absurd same
  read_cast asked given (Err (fault.InvalidQuery n)) read same = absurd same
  read_cast asked given (Err (fault.Cast k l)) read same =
      λ i. no_text (wrong_kind (same.0 i) (same.1 i))
  read_cast asked given (Err fault.Memory) read same = absurd (read refl)

  untyped_query : (q : Query) (n : Name) → unknown_selector c.types q ≡ Some n
      → AnswersQuery c.types c.base q (no_text (no_type n))
  untyped_query q n is =
      subst (λ (o : Option Name). AnswersFor o c.types c.base q (no_text (no_type n))) (sym is) refl

  rows_query : (q : Query) (rs : List Row) → unknown_selector c.types q ≡ None
      → AreRows q (map (subtypes c.types) q.types) c.base rs
      → AnswersQuery c.types c.base q (ok_text (rows_data rs))
  rows_query q rs is are =
      subst (λ (o : Option Name). AnswersFor o c.types c.base q (ok_text (rows_data rs))) (sym is)
      (rs, are, refl)

  -- what a query answers was read
  pub read_of : AreOne → (p : Result Query SqlFault) (text : List ℕ) → IsParsed query vars p
      → p ≢ Err fault.Memory → QueryAnswers c query vars text → AnswersRead c.types c.base p text
  read_of one p text parsed read (wrong offset is) =
      read_wrong offset p read (one query vars (Err (fault.InvalidQuery offset)) p is parsed)
  read_of one p text parsed read (cast asked given is) =
      read_cast asked given p read (one query vars (Err (fault.Cast asked given)) p is parsed)
  read_of one p text parsed read (untyped q n is unknown) =
      read_query q p _ read (one query vars (Ok q) p is parsed) (untyped_query q n unknown)
  read_of one p text parsed read (rows q rs is known are) =
      read_query q p _ read (one query vars (Ok q) p is parsed) (rows_query q rs known are)

-- the causes where the session has a base, and where it has none
pub query_said : (law : JcrLaw) (h : History) (s : ℕ) (query : Text) (vars : List (Name × Value))
    (text : List ℕ) (b : Bool) (c : Call)
    → call_of law h.begin h.past s ≡ Some c → IsReadSo c.types c.base query vars text b
    → IsTrue b ↔ QueryCause law h s query vars text
query_said law h s query vars text b c is reads = (
  λ t. (c, text, is, of_read c query vars reads.0 text reads.1 (reads.2.0 t), refl),
  λ cause.
      let same : cause.0 ≡ c =
      ap (λ (o : Option Call). elim o [ Some x ↦ x | None ↦ c ]) (sym cause.2 ∙ is) in
      reads.2.1 (read_of c query vars one_answer reads.0 text reads.1 reads.3
      (subst (λ (d : Call). QueryAnswers d query vars text) same
      (subst (QueryAnswers cause.0 query vars) (sym cause.4) cause.3))),
)

pub query_unsaid : (law : JcrLaw) (h : History) (s : ℕ) (query : Text) (vars : List (Name × Value))
    (text : List ℕ)
    → call_of law h.begin h.past s ≡ None → IsTrue false ↔ QueryCause law h s query vars text
query_unsaid law h s query vars text none =
    (λ t. cc, λ cause. let e : None ≡ Some cause.0 = sym none ∙ cause.2 in cc)

-- whether a text is what a query answers, by the rows, or by the type that nobody registered
pub rows_said : {E : Type 0} (types : List TypeDef) (tree : Nodes) (q : Query) (text : List ℕ)
    (rs : List Row) (r : Result Bool E)
    → ((q : Query) (sets : List (List Name)) (t : Nodes) (a b : List Row) → AreRows q sets t a
    → AreRows q sets t b → a ≡ b)
    → AreRows q (map (subtypes types) q.types) tree rs
    → IfOk r (λ b. b ≡ bytes_eq text (ok_text (rows_data rs)))
    → IfOk r (λ b. IsTrue b ↔ ShowsRows types tree q text)
rows_said types tree q text rs r one are ok = IfOk-weaker r _ _ (λ b is. (
  λ t. (rs, are, (bytes_eq-Decides text (ok_text (rows_data rs))).0 (sym is ∙ t)),
  λ s. is ∙ (bytes_eq-Decides text (ok_text (rows_data rs))).1
      (s.2 ∙ ap (λ xs. ok_text (rows_data xs))
      (one q (map (subtypes types) q.types) tree s.0 rs s.1 are)),
)) ok

pub type_said : {E : Type 0} (types : List TypeDef) (tree : Nodes) (q : Query) (text : List ℕ)
    (n : Name) (r : Result Bool E)
    → Some n ≡ unknown_selector types q → IfOk r (λ b. b ≡ is_refusal text (no_type n))
    → IfOk r (λ b. IsTrue b ↔ AnswersQuery types tree q text)
type_said types tree q text n r found ok =
    IfOk-weaker r _ _
    (λ b is. subst (λ (o : Option Name). IsTrue b ↔ AnswersFor o types tree q text) found (
      λ t. (bytes_eq-Decides text (no_text (no_type n))).0 (sym is ∙ t),
      λ s. is ∙ (bytes_eq-Decides text (no_text (no_type n))).1 s,
    )) ok

pub none_said : {E : Type 0} (types : List TypeDef) (tree : Nodes) (q : Query) (text : List ℕ)
    (r : Result Bool E)
    → None ≡ unknown_selector types q → IfOk r (λ b. IsTrue b ↔ ShowsRows types tree q text)
    → IfOk r (λ b. IsTrue b ↔ AnswersQuery types tree q text)
none_said types tree q text r none ok =
    IfOk-weaker r _ _
    (λ b is. subst (λ (o : Option Name). IsTrue b ↔ AnswersFor o types tree q text) none is) ok

-- what is known where a query's text was read as a query, or as none
pub query_read : {E : Type 0} (types : List TypeDef) (tree : Nodes) (query : List ℕ)
    (vars : List (Name × Value)) (text : List ℕ) (p : Result Query SqlFault) (q : Query)
    (r : Result Bool E)
    → p ≡ Ok q → IsParsed query vars p → IfOk r (λ b. IsTrue b ↔ AnswersQuery types tree q text)
    → IfOk r (IsReadSo types tree query vars text)
query_read types tree query vars text p q r is parsed ok =
    IfOk-weaker r _ _ (λ b said. (Ok q, subst (IsParsed query vars) is parsed, said, (λ e. cc))) ok

fault_said : (text : List ℕ) (types : List TypeDef) (tree : Nodes) (f : SqlFault) (b : Bool)
    → b ≡ refuses_fault text f → f ≢ fault.Memory → IsTrue b ↔ AnswersRead types tree (Err f) text
fault_said text types tree (fault.InvalidQuery n) b is read = (
  λ t. (bytes_eq-Decides text (no_text (no_query n))).0 (sym is ∙ t),
  λ s. is ∙ (bytes_eq-Decides text (no_text (no_query n))).1 s,
)
fault_said text types tree (fault.Cast k l) b is read = (
  λ t. (bytes_eq-Decides text (no_text (wrong_kind k l))).0 (sym is ∙ t),
  λ s. is ∙ (bytes_eq-Decides text (no_text (wrong_kind k l))).1 s,
)
fault_said text types tree fault.Memory b is read = absurd (read refl)

same_fault : (p : Result Query SqlFault) (f g : SqlFault) → p ≡ Err f → p ≡ Err g → f ≡ g
same_fault p f g h k = let e : Err f ≡ Err g = sym h ∙ k in cc

pub fault_read : {E : Type 0} (types : List TypeDef) (tree : Nodes) (query : List ℕ)
    (vars : List (Name × Value)) (text : List ℕ) (p : Result Query SqlFault) (f : SqlFault)
    (r : Result Bool E)
    → p ≡ Err f → IsParsed query vars p → IfOk r (λ b. b ≡ refuses_fault text f)
    → OnOk r (f ≢ fault.Memory) → IfOk r (IsReadSo types tree query vars text)
fault_read types tree query vars text p f (Ok b) is parsed said read = (
  Err f,
  subst (IsParsed query vars) is parsed,
  fault_said text types tree f b said read,
  (λ e. read (same_fault (Err f) f fault.Memory refl e)),
)
fault_read types tree query vars text p f (Err e) is parsed said read = tt
