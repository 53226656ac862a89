-- What the words of the command line mean: the words spell a row of a table.
use Rattle.std.specs.Prelude.{◌≡◌, ◌⊎◌, ◌≢◌, ◌≤◌, ◌<◌, ◌^◌, ℕ, Bool, true, false, is_some, ⊤, List, [], ◌∷◌, ◌++◌, map, Option, Some, None, IsTrue, IsSome, bytes_eq, codes, length, slice_index}
use Rattle.std.specs.List.{AllByRecursion, IsDistinct, find}
use Rattle.std.specs.Map.{keys_of, lookup}
use Rattle.std.specs.Str.Parse.{IsNumeral, digits_value}
use Rattle.repo_top.specs.declared.words.Given.{Given}
use Rattle.repo_top.specs.declared.words.Given.TheVariants as given
use Rattle.repo_top.specs.declared.words.Row.{Row}
use Rattle.repo_top.specs.declared.words.Takes.{Takes}
use Rattle.repo_top.specs.declared.words.Takes.TheVariants as takes
use Rattle.repo_top.specs.declared.words.Words.{Words}
use Rattle.repo_top.specs.declared.words.Verb.{Verb}
use Rattle.repo_top.specs.declared.words.Verb.TheVariants as verb
use Rattle.repo_top.specs.declared.words.Words.TheVariants.{Gen, Run, Steps, Types}
use Rattle.repo_top.specs.declared.words.WordOption.{WordOption}

-- an option of a command: its name, what it takes, and whether it has to be given
pub record RowOption : Type 0 where
  pub name : List ℕ
  pub takes : Takes
  pub required : Bool

-- a row of a table: the word of a command, the command and its options
pub record TableRow : Type 0 where
  pub command : List ℕ
  pub verb : Verb
  pub options : List RowOption

-- the option and the row that the code's tables hold
abbrev pub row_option : WordOption → RowOption
row_option o = record { name = o.name.now; takes = o.takes; required = o.required }

-- a row of the table of words, without where its parts lie in memory
abbrev pub table_row : Row → TableRow
table_row r =
    record { command = r.command.now; verb = r.verb; options = map row_option r.options.now }

-- 1 to 20 decimal digits spell a number
pub record IsNumber (digits : List ℕ) (n : ℕ) : Type 0 where
  pub decimal : IsNumeral 10 digits
  pub short : length digits ≤ 20
  pub value : n ≡ digits_value 10 digits

-- the word of an option: two dashes (45) and its name, with `=` (61) and a value behind it or not
abbrev pub option_word : List ℕ → Option (List ℕ) → List ℕ
option_word name None = 45 ∷ (45 ∷ name)
option_word name (Some value) = 45 ∷ (45 ∷ (name ++ (61 ∷ value)))

-- how an option is given by the value in its word and by the words behind it, which go on with the
-- rest: a flag has no value, and a number's digits are the value or the next word
abbrev pub IsGivenBy : Given → Option (List ℕ) → List (List ℕ) → List (List ℕ) → Type 0
IsGivenBy given.Flag None words rest = words ≡ rest
IsGivenBy given.Flag (Some value) words rest = ⊥
IsGivenBy (given.Number n) None words rest =
    (digits : List ℕ) × IsNumber digits n × (words ≡ digits ∷ rest)
IsGivenBy (given.Number n) (Some value) words rest = IsNumber value n × (words ≡ rest)

-- words begin with an option that is given so, and go on with the rest
abbrev pub Begins : List ℕ → Given → List (List ℕ) → List (List ℕ) → Type 0
Begins name given words rest =
    (value : Option (List ℕ)) × (behind : List (List ℕ)) × (words ≡ option_word name value ∷ behind)
    × IsGivenBy given value behind rest

-- what an option takes: a flag, or a number in its range
abbrev pub FitsOption : Takes → Given → Type 0
FitsOption takes.Nothing given.Flag = ⊤
FitsOption (takes.Number least most) (given.Number n) = (least ≤ n) × (n ≤ most)
FitsOption _ _ = ⊥

-- a name has no `=` (61)
abbrev pub HasNoEquals : List ℕ → Type 0
HasNoEquals name = (k : ℕ) → k < length name → slice_index name k ≢ 61

-- an option may be given so: one of the options has this name, and takes this
pub record IsOption (options : List RowOption) (name : List ℕ) (given : Given) : Type 0 where
  pub option : RowOption
  pub named : find (λ o. bytes_eq o.name name) options ≡ Some option
  pub plain : HasNoEquals name
  pub fits : FitsOption option.takes given

-- words are options as they are given, one after the other
abbrev pub AreGiven : List RowOption → List (List ℕ × Given) → List (List ℕ) → Type 0
AreGiven options [] words = words ≡ []
AreGiven options (g ∷ more) words =
    (rest : List (List ℕ)) × IsOption options g.0 g.1 × Begins g.0 g.1 words rest
    × AreGiven options more rest

-- words are options: in any order, none twice, the required ones among them
pub record AreOptions (options : List RowOption) (given : List (List ℕ × Given))
    (words : List (List ℕ)) : Type 0 where
  pub each : AreGiven options given words
  pub once : IsDistinct bytes_eq (keys_of given)
  pub needed : AllByRecursion
      (λ o. IsTrue o.required → IsSome (lookup (bytes_eq o.name) given)) options

-- words spell a row of a table: its command, and then options of it
pub record IsRow (table : List TableRow) (row : TableRow) (given : List (List ℕ × Given))
    (words : List (List ℕ)) : Type 0 where
  pub rest : List (List ℕ)
  pub command : words ≡ row.command ∷ rest
  pub first : find (λ r. bytes_eq r.command row.command) table ≡ Some row
  pub options : AreOptions row.options given rest

-- ---- the table

-- the documents are printed behind the replies
abbrev pub documents_option : RowOption
documents_option = record { name = codes "documents"; takes = takes.Nothing; required = false }

-- the row of `steps`
abbrev pub steps_row : TableRow
steps_row = record {
  command = codes "steps";
  verb = verb.Steps;
  options = documents_option ∷ [];
}

-- the row of `types`, which has no options
abbrev pub types_row : TableRow
types_row = record { command = codes "types"; verb = verb.Types; options = [] }

-- the number of worker threads: 1 to 16
abbrev pub workers_option : RowOption
workers_option = record { name = codes "workers"; takes = takes.Number 1 16; required = true }

-- the row of `run`
abbrev pub run_row : TableRow
run_row = record {
  command = codes "run";
  verb = verb.Run;
  options = workers_option ∷ documents_option ∷ [];
}

-- the seed of a script that is made: any number below 2 ^ 64
abbrev pub seed_option : RowOption
seed_option = record {
  name = codes "seed";
  takes = takes.Number 0 18446744073709551615;
  required = true;
}

-- the number of its sessions: 1 to 64
abbrev pub sessions_option : RowOption
sessions_option = record { name = codes "sessions"; takes = takes.Number 1 64; required = true }

-- the script that was made is run
abbrev pub run_option : RowOption
run_option = record { name = codes "run"; takes = takes.Nothing; required = false }

-- the row of `gen`
abbrev pub gen_row : TableRow
gen_row = record {
  command = codes "gen";
  verb = verb.Gen;
  options = seed_option ∷ sessions_option ∷ run_option ∷ [];
}

-- the row of a command
abbrev pub verb_row : Verb → TableRow
verb_row verb.Steps = steps_row
verb_row verb.Types = types_row
verb_row verb.Run = run_row
verb_row verb.Gen = gen_row

-- the table
abbrev pub rows : List TableRow
rows = steps_row ∷ types_row ∷ run_row ∷ gen_row ∷ []

-- ---- meanings

-- an option of this name is given, as this number
abbrev pub GivesNumber : List (List ℕ × Given) → List ℕ → ℕ → Type 0
GivesNumber all name n = lookup (bytes_eq name) all ≡ Some (given.Number n)

-- an option of this name is given
abbrev pub is_given : List (List ℕ × Given) → List ℕ → Bool
is_given all name = is_some (lookup (bytes_eq name) all)

-- what a command means with its options as they are given
abbrev pub MakesMeaning : Verb → List (List ℕ × Given) → Words → Type 0
MakesMeaning verb.Steps all meaning = meaning ≡ Steps (is_given all (codes "documents"))
MakesMeaning verb.Types all meaning = meaning ≡ Types
MakesMeaning verb.Run all (Run workers documents) =
    GivesNumber all (codes "workers") workers × (documents ≡ is_given all (codes "documents"))
MakesMeaning verb.Run all _ = ⊥
MakesMeaning verb.Gen all (Gen seed sessions runs) =
    GivesNumber all (codes "seed") seed
    × GivesNumber all (codes "sessions") sessions
    × (runs ≡ is_given all (codes "run"))
MakesMeaning verb.Gen all _ = ⊥

-- words have this meaning: they spell a row, and the options that they give make the meaning
abbrev pub WordsMean : List (List ℕ) → Words → Type 0
WordsMean words meaning =
    (row : TableRow) × (given : List (List ℕ × Given)) × IsRow rows row given words
    × MakesMeaning row.verb given meaning

-- words have a meaning
abbrev pub HasMeaning : List (List ℕ) → Type 0
HasMeaning words = (meaning : Words) × WordsMean words meaning

-- the numbers in a meaning are in their ranges
abbrev pub IsInRange : Words → Type 0
IsInRange (Run workers documents) = (1 ≤ workers) × (workers ≤ 16)
IsInRange (Gen seed sessions runs) = (seed < 2 ^ 64) × (1 ≤ sessions) × (sessions ≤ 64)
IsInRange _ = ⊤

-- words are options of a command
abbrev pub SpellOptions : List RowOption → List (List ℕ) → Type 0
SpellOptions options words = (given : List (List ℕ × Given)) × AreOptions options given words

-- an option takes a number, and has to be given
abbrev pub IsNumberNeeded : RowOption → Type 0
IsNumberNeeded option = (option.required ≡ true)
    × ((least : ℕ) × (most : ℕ) × (option.takes ≡ takes.Number least most))

-- the option of this name takes a number, and has to be given
abbrev pub IsRequiredNumber : List RowOption → List ℕ → Type 0
IsRequiredNumber options name = (option : RowOption)
    × (find (λ o. bytes_eq o.name name) options ≡ Some option) × IsNumberNeeded option

-- an option with a number, as one word or two
abbrev pub IsNumberOption : List ℕ → List ℕ → List (List ℕ) → Type 0
IsNumberOption name digits words =
    (words ≡ option_word name None ∷ (digits ∷ []))
    ⊎ (words ≡ option_word name (Some digits) ∷ [])

-- the word `--documents` where the documents are asked for, and else no word
abbrev pub documents_words : Bool → List (List ℕ)
documents_words false = []
documents_words true = option_word (codes "documents") None ∷ []

-- words are some and others, in either order
abbrev pub AreBoth : List (List ℕ) → List (List ℕ) → List (List ℕ) → Type 0
AreBoth some others words = (words ≡ some ++ others) ⊎ (words ≡ others ++ some)

-- the words of `run`: a number of workers, 1 to 16, and the word `--documents` where the documents
-- are asked for
pub record AreRunWords (words : List (List ℕ)) (workers : ℕ) (documents : Bool) : Type 0 where
  pub some : 1 ≤ workers
  pub few : workers ≤ 16
  pub digits : List ℕ
  pub number : IsNumber digits workers
  pub option : List (List ℕ)
  pub workers_are : IsNumberOption (codes "workers") digits option
  pub options : List (List ℕ)
  pub both : AreBoth option (documents_words documents) options
  pub words_are : words ≡ codes "run" ∷ options

-- words spell options as they are given, one after the other
abbrev pub AreSpelled : List (List ℕ × Given) → List (List ℕ) → Type 0
AreSpelled [] words = words ≡ []
AreSpelled (g ∷ more) words =
    (rest : List (List ℕ)) × Begins g.0 g.1 words rest × AreSpelled more rest

-- an option of `gen`: the flag `--run`, or the seed or the number of sessions in its range
abbrev pub IsGenOption : List ℕ → Given → Type 0
IsGenOption name given.Flag = name ≡ codes "run"
IsGenOption name (given.Number n) =
    ((name ≡ codes "seed") × (n < 2 ^ 64))
    ⊎ ((name ≡ codes "sessions") × (1 ≤ n) × (n ≤ 64))

-- the words of `gen`: the seed and the number of sessions, and the flag where the script is run; in
-- any order, none twice, and nothing else
pub record AreGenWords (words : List (List ℕ)) (seed sessions : ℕ) (runs : Bool) : Type 0 where
  pub all : List (List ℕ × Given)
  pub each : AllByRecursion (λ g. IsGenOption g.0 g.1) all
  pub once : IsDistinct bytes_eq (keys_of all)
  pub seed_is : GivesNumber all (codes "seed") seed
  pub sessions_are : GivesNumber all (codes "sessions") sessions
  pub run_is : runs ≡ is_given all (codes "run")
  pub options : List (List ℕ)
  pub spelled : AreSpelled all options
  pub words_are : words ≡ codes "gen" ∷ options
