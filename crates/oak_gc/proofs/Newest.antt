-- What is older than the newest of some entries.
use Rattle.std.proofs.Common.{◌≡◌, Bool, true, false, ◌&&◌, ◌||◌, List, ◌∷◌, ◌++◌, Option, refl, sym, ap, ◌∙◌}
use Rattle.std.proofs.lemmas.List.Folds.{list_any-append}
use Rattle.std.specs.List.{list_all, list_any}
use Rattle.std.specs.Map.{keys_of}
use Rattle.jr_rev.specs.declared.revision.Revision.{Revision}
use Rattle.jr_rev.specs.declared.vector.RevVec.{RevVec}
use Rattle.jr_rev.specs.Revisions.{is_before}
use Rattle.jr_rev.specs.Vectors.{sees}
use Rattle.oak_gc.specs.Garbage.{is_superseded}
use Rattle.oak_gc.specs.Newest.{is_older}
use Rattle.oak_gc.proofs.Keys.{by_revision}

either_first : (a b c : Bool) → ((a || b) || c) ≡ (a || (b || c))
either_first true b c = refl
either_first false b c = refl

-- one more entry counts with the newest, and no more with those that are left
pub counted_with : {X : Type 0} (test : Revision → Bool) (older now whole : Bool) (e : Revision × X) (before rest : List (Revision × X))
    → now ≡ (older || test e.0) → before ≡ e ∷ rest → (older || list_any test (keys_of before)) ≡ whole → (now || list_any test (keys_of rest)) ≡ whole
counted_with test older now whole e before rest more first is =
    ap (λ b. b || list_any test (keys_of rest)) more
    ∙ either_first older (test e.0) (list_any test (keys_of rest))
    ∙ ap (λ es. older || list_any test (keys_of es)) (sym first)
    ∙ is

-- one more passes, so those that are left decide
pub passed_one : {X : Type 0} (test : X → Bool) (passes whole : Bool) (x : X) (before rest : List X)
    → passes ≡ test x → passes ≡ true → before ≡ x ∷ rest → list_all test before ≡ whole → list_all test rest ≡ whole
passed_one test passes whole x before rest asked holds first is =
    ap (λ b. b && list_all test rest) (sym holds ∙ asked) ∙ ap (list_all test) (sym first) ∙ is

-- one fails, so not all pass
pub failed_one : {X : Type 0} (test : X → Bool) (passes whole : Bool) (x : X) (before rest : List X)
    → passes ≡ test x → passes ≡ false → before ≡ x ∷ rest → list_all test before ≡ whole → false ≡ whole
failed_one test passes whole x before rest asked fails first is =
    ap (λ b. b && list_all test rest) (sym fails ∙ asked) ∙ ap (list_all test) (sym first) ∙ is

-- the same of entries by their revisions
pub passed_with : {X : Type 0} (test : Revision → Bool) (passes whole : Bool) (e : Revision × X) (before rest : List (Revision × X))
    → passes ≡ test e.0 → passes ≡ true → before ≡ e ∷ rest → list_all test (keys_of before) ≡ whole → list_all test (keys_of rest) ≡ whole
passed_with test passes whole e before rest asked holds first is =
    passed_one test passes whole e.0 (keys_of before) (keys_of rest) asked holds (ap (λ es. keys_of es) first) is

pub failed_with : {X : Type 0} (test : Revision → Bool) (passes whole : Bool) (e : Revision × X) (before rest : List (Revision × X))
    → passes ≡ test e.0 → passes ≡ false → before ≡ e ∷ rest → list_all test (keys_of before) ≡ whole → false ≡ whole
failed_with test passes whole e before rest asked fails first is =
    failed_one test passes whole e.0 (keys_of before) (keys_of rest) asked fails (ap (λ es. keys_of es) first) is

-- the statuses are seen, so the properties decide
pub statuses_seen : {X : Type 0} (test : Revision → Bool) (seen rest all : Bool) (es : List (Revision × X))
    → seen ≡ list_all test (keys_of es) → seen ≡ true → rest ≡ all → rest ≡ (list_all (λ e. test e.0) es && all)
statuses_seen test seen rest all es asked holds is =
    is ∙ ap (λ b. b && all) (sym holds ∙ asked ∙ by_revision test es)

-- a status is not seen, so not all is garbage
pub status_unseen : {X : Type 0} (test : Revision → Bool) (seen all : Bool) (es : List (Revision × X))
    → seen ≡ list_all test (keys_of es) → seen ≡ false → false ≡ (list_all (λ e. test e.0) es && all)
status_unseen test seen all es asked fails = ap (λ b. b && all) (sym fails ∙ asked ∙ by_revision test es)

-- what is older than the newest of two lists' entries is superseded among both
pub superseded_by : (m t : RevVec) (rs qs : List Revision) (r : Revision) (found newest : Option Revision) (asked : Bool)
    → is_older r found ≡ list_any (λ q. is_before r q && sees m q && sees t q) rs
    → is_older r newest ≡ (is_older r found || list_any (λ q. is_before r q && sees m q && sees t q) qs)
    → asked ≡ (sees m r && is_older r newest) → asked ≡ is_superseded m t (rs ++ qs) r
superseded_by m t rs qs r found newest asked one two is =
    is ∙ ap (λ b. sees m r && b)
    (two ∙ ap (λ b. b || list_any (λ q. is_before r q && sees m q && sees t q) qs) one
    ∙ sym (list_any-append (λ q. is_before r q && sees m q && sees t q) rs qs))
