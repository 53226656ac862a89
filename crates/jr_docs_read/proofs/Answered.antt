-- What is read, and how a fault is handed on.
use Rattle.std.proofs.Common.{◌≡◌, refl, sym, subst}
use Rattle.std.specs.Prelude.{Result, Ok, Err}
use Rattle.jr_docs_read.specs.Reading.{Obtains}
use Rattle.jr_docs_read.specs.declared.fault.DocFault.{DocFault}
use Rattle.jr_docs_read.specs.declared.fault.DocFault.TheVariants.{Memory, NotADocument}

-- what is read where reading is known to answer something
pub read_as : {T E : Type 0} (r : Result T E) (x y : T) → r ≡ Ok x → r ≡ Ok y → x ≡ y
read_as r x y h k = cc

pub no_fault : {T E : Type 0} (r : Result T E) (x : T) (e : E) → r ≡ Ok x → r ≡ Err e → ⊥
no_fault r x e h k = cc

-- want of memory may always be answered
pub by_memory : {T : Type 0} (P : T → Type 0) (e : DocFault) → e ≡ Memory → Obtains P (Err e)
by_memory P e is = subst (λ (f : DocFault). Obtains P (Err f)) (sym is) tt

-- a fault that is handed on
pub handed : {T U : Type 0} (P : T → Type 0) (Q : U → Type 0) (e : DocFault) → Obtains P (Err e) → Obtains Q (Err e)
handed P Q NotADocument h = absurd h
handed P Q Memory h = tt

-- what is obtained has what follows from it
pub weaker : {T : Type 0} (P Q : T → Type 0) (r : Result T DocFault) → ((x : T) → P x → Q x) → Obtains P r → Obtains Q r
weaker P Q (Ok x) f h = f x h
weaker P Q (Err NotADocument) f h = absurd h
weaker P Q (Err Memory) f h = tt

-- what may not be refused is only for want of memory
pub memory_only : {T : Type 0} (P : T → Type 0) (e : DocFault) → Obtains P (Err e) → e ≡ Memory
memory_only P NotADocument h = absurd h
memory_only P Memory h = refl
