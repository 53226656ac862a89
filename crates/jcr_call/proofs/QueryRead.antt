-- What a query answers, by what its text was read as.
use Rattle.std.proofs.Common.{◌≡◌, ℕ, List, Option, None, Some, refl, sym, subst, String}
use Rattle.std.specs.Prelude.{IfOk, Result, Ok, Err, string_bytes}
use Rattle.std.specs.declared.alloc.Global.{Global}
use Rattle.std.proofs.lemmas.Result.{IfOk-weaker}
use Rattle.jr_path.specs.declared.name.Name.{Name}
use Rattle.jr_value.specs.declared.value.Value.{Value}
use Rattle.jr_tree.specs.Trees.{Nodes}
use Rattle.jr_types.specs.declared.TypeDef.{TypeDef}
use Rattle.sql_parse.specs.Grammar.{IsParsed}
use Rattle.sql_pieces.specs.declared.fault.SqlFault.{SqlFault}
use Rattle.sql_pieces.specs.declared.fault.SqlFault.TheVariants as fault
use Rattle.sql_query.specs.declared.query.Query.{Query}
use Rattle.jcr_law.specs.Queries.{QueryAnswers, cast, rows, unknown_selector, untyped, wrong}
use Rattle.jcr_law.specs.State.{Call}
use Rattle.jcr_call.specs.Reading.{AnswersFor, AnswersQuery, AnswersRead}

module _ (c : Call) (query : List ℕ) (vars : List (List ℕ × Value)) where
  of_query : (q : Query) (text : List ℕ) → IsParsed query vars (Ok q) → AnswersQuery c.types c.base q text → QueryAnswers c query vars text
  of_query q text parsed h = by (unknown_selector c.types q) refl h
    where
      by : (o : Option Name) → unknown_selector c.types q ≡ o → AnswersFor o c.types c.base q text → QueryAnswers c query vars text
      by (Some n) is a = subst (QueryAnswers c query vars) (sym a) (untyped q n parsed is)
      by None is a = subst (QueryAnswers c query vars) (sym a.2) (rows q a.0 parsed is a.1)

  -- what was read is answered so
  pub of_read : (p : Result Query SqlFault) (text : List ℕ) → IsParsed query vars p → AnswersRead c.types c.base p text → QueryAnswers c query vars text
  of_read (Ok q) text parsed h = of_query q text parsed h
  of_read (Err (fault.InvalidQuery offset)) text parsed h = subst (QueryAnswers c query vars) (sym h) (wrong offset parsed)
  of_read (Err (fault.Cast asked given)) text parsed h = subst (QueryAnswers c query vars) (sym h) (cast asked given parsed)
  of_read (Err fault.Memory) text parsed h = absurd h

-- a text that answers what was read answers the query
pub answered : {E : Type 0} (c : Call) (query : List ℕ) (vars : List (List ℕ × Value)) (types : List TypeDef) (tree : Nodes) (p was : Result Query SqlFault) (r : Result (String Global) E)
    → types ≡ c.types → tree ≡ c.base → was ≡ p → IsParsed query vars was
    → IfOk r (λ reply. AnswersRead types tree p (string_bytes reply)) → IfOk r (λ reply. QueryAnswers c query vars (string_bytes reply))
answered c query vars types tree p was r same at is parsed ok = IfOk-weaker r _ _ (λ reply h.
    of_read c query vars p (string_bytes reply) (subst (IsParsed query vars) is parsed)
    (subst (λ (t : Nodes). AnswersRead c.types t p (string_bytes reply)) at
    (subst (λ (ts : List TypeDef). AnswersRead ts tree p (string_bytes reply)) same h))) ok
