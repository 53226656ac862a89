-- A text is answered in one way.
use Rattle.std.proofs.Common.{◌≡◌, ◌≢◌, ℕ, List, length, refl, sym, ap, subst, ◌∙◌}
use Rattle.std.specs.Prelude.{Option, None, Some, Result, Ok, Err, unwrap_or}
use Rattle.jr_value.specs.declared.value.Kind.{Kind}
use Rattle.jr_value.specs.declared.value.Value.{Value}
use Rattle.sql_parse.specs.Answers.{AreSame}
use Rattle.sql_parse.specs.Grammar.{IsAnswer, IsParsed, query_at, start}
use Rattle.sql_pieces.specs.Pieces.{IsReadAsSql}
use Rattle.sql_pieces.specs.Reading.{Read, State}
use Rattle.sql_query.specs.Trees.{AskedQuery, asked_of}
use Rattle.sql_pieces.specs.declared.fault.SqlFault.{SqlFault}
use Rattle.sql_pieces.specs.declared.fault.SqlFault.TheVariants as fault
use Rattle.sql_pieces.specs.declared.piece.Placed.{Placed}
use Rattle.sql_query.specs.declared.query.Query.{Query}
use Rattle.sql_pieces.proofs.OneSaid.{read_one}

-- what is read is one
read_same : (x y : AskedQuery × State) (r : Read AskedQuery) → r ≡ Ok x → r ≡ Ok y → x ≡ y
read_same x y r h g = let e : Ok x ≡ Ok y = sym h ∙ g in cc

fault_same : (m n : ℕ) (r : Read AskedQuery) → r ≡ Err m → r ≡ Err n → m ≡ n
fault_same m n r h g = let e : Err m ≡ Err n = sym h ∙ g in cc

not_both : {A : Type 0} (x : AskedQuery × State) (n : ℕ) (r : Read AskedQuery) → r ≡ Ok x → r ≡ Err n → A
not_both x n r h g = let e : Ok x ≡ Err n = sym h ∙ g in cc

cast_same : {A : Type 0} (k : Kind) (s t : State) → s ≡ t → s.refused ≡ None → t.refused ≡ Some k → A
cast_same k s t e h g = let e : None ≡ Some k = sym h ∙ (ap (λ (x : State). x.refused) e ∙ g) in cc

kinds_same : (k l : Kind) (s t : State) → s ≡ t → s.refused ≡ Some k → t.refused ≡ Some l → k ≡ l
kinds_same k l s t e h g = ap (λ (o : Option Kind). unwrap_or o k) (sym h ∙ (ap (λ (x : State). x.refused) e ∙ g))

answers_same : (pieces : List Placed) (stop : ℕ) (a b : Result Query SqlFault) → IsAnswer pieces stop a → IsAnswer pieces stop b → AreSame a b
answers_same pieces stop (Err fault.Memory) b h g = tt
answers_same pieces stop (Ok p) (Ok q) h g = ap (λ (x : AskedQuery × State). x.0) (read_same (asked_of p, h.0) (asked_of q, g.0) (query_at (start pieces stop)) h.1 g.1)
answers_same pieces stop (Ok p) (Err (fault.InvalidQuery n)) h g = not_both (asked_of p, h.0) n (query_at (start pieces stop)) h.1 g
answers_same pieces stop (Ok p) (Err (fault.Cast k found)) h g =
    cast_same k h.0 g.2 (ap (λ (x : AskedQuery × State). x.1) (read_same (asked_of p, h.0) (g.1, g.2) (query_at (start pieces stop)) h.1 g.3)) h.2 g.4
answers_same pieces stop (Ok p) (Err fault.Memory) h g = tt
answers_same pieces stop (Err (fault.InvalidQuery m)) (Ok q) h g = not_both (asked_of q, g.0) m (query_at (start pieces stop)) g.1 h
answers_same pieces stop (Err (fault.InvalidQuery m)) (Err (fault.InvalidQuery n)) h g = fault_same m n (query_at (start pieces stop)) h g
answers_same pieces stop (Err (fault.InvalidQuery m)) (Err (fault.Cast k found)) h g = not_both (g.1, g.2) m (query_at (start pieces stop)) g.3 h
answers_same pieces stop (Err (fault.InvalidQuery m)) (Err fault.Memory) h g = tt
answers_same pieces stop (Err (fault.Cast k found)) (Ok q) h g =
    cast_same k g.0 h.2 (ap (λ (x : AskedQuery × State). x.1) (read_same (asked_of q, g.0) (h.1, h.2) (query_at (start pieces stop)) g.1 h.3)) g.2 h.4
answers_same pieces stop (Err (fault.Cast k found)) (Err (fault.InvalidQuery n)) h g = not_both (h.1, h.2) n (query_at (start pieces stop)) h.3 g
answers_same pieces stop (Err (fault.Cast k found)) (Err (fault.Cast l other)) h g =
    (kinds_same k l h.2 g.2 (ap (λ (x : AskedQuery × State). x.1) (read_same (h.1, h.2) (g.1, g.2) (query_at (start pieces stop)) h.3 g.3)) h.4 g.4, h.0 ∙ sym g.0)
answers_same pieces stop (Err (fault.Cast k found)) (Err fault.Memory) h g = tt

-- what a text says, where memory was not refused
said_so : (text : List ℕ) (vars : List (List ℕ × Value)) (a : Result Query SqlFault) → a ≢ Err fault.Memory → IsParsed text vars a → (pieces : List Placed) × IsReadAsSql text vars pieces × IsAnswer pieces (length text) a
said_so text vars (Ok q) other h = h
said_so text vars (Err (fault.InvalidQuery n)) other h = h
said_so text vars (Err (fault.Cast k found)) other h = h
said_so text vars (Err fault.Memory) other h = absurd (other refl)

same_or_memory : (a b : Result Query SqlFault) → (a ≢ Err fault.Memory → b ≢ Err fault.Memory → AreSame a b) → AreSame a b
same_or_memory (Err fault.Memory) b h = tt
same_or_memory (Ok p) (Ok q) h = h (λ e. cc) (λ e. cc)
same_or_memory (Ok p) (Err (fault.InvalidQuery n)) h = h (λ e. cc) (λ e. cc)
same_or_memory (Ok p) (Err (fault.Cast k found)) h = h (λ e. cc) (λ e. cc)
same_or_memory (Ok p) (Err fault.Memory) h = tt
same_or_memory (Err (fault.InvalidQuery m)) (Ok q) h = h (λ e. cc) (λ e. cc)
same_or_memory (Err (fault.InvalidQuery m)) (Err (fault.InvalidQuery n)) h = h (λ e. cc) (λ e. cc)
same_or_memory (Err (fault.InvalidQuery m)) (Err (fault.Cast k found)) h = h (λ e. cc) (λ e. cc)
same_or_memory (Err (fault.InvalidQuery m)) (Err fault.Memory) h = tt
same_or_memory (Err (fault.Cast k found)) (Ok q) h = h (λ e. cc) (λ e. cc)
same_or_memory (Err (fault.Cast k found)) (Err (fault.InvalidQuery n)) h = h (λ e. cc) (λ e. cc)
same_or_memory (Err (fault.Cast k found)) (Err (fault.Cast l other)) h = h (λ e. cc) (λ e. cc)
same_or_memory (Err (fault.Cast k found)) (Err fault.Memory) h = tt

pub one_answer : (text : List ℕ) (vars : List (List ℕ × Value)) (a b : Result Query SqlFault) → IsParsed text vars a → IsParsed text vars b → AreSame a b
one_answer text vars a b h g = same_or_memory a b (λ here there.
    let p = said_so text vars a here h in
    let q = said_so text vars b there g in
    answers_same q.0 (length text) a b (subst (λ (ps : List Placed). IsAnswer ps (length text) a) (read_one text vars p.0 q.0 p.1 q.1) p.2) q.2)
