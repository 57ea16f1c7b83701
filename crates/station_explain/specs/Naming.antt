-- Which fault a text names.
use Rattle.std.specs.Prelude.{◌≡◌, ◌≢◌, ◌⊎◌, ◌++◌, ℕ, List, IsTrue, IsFalse, codes}
use Rattle.std.specs.Prelude.{All, Any, Contains, ◌≤◌, length}
use Rattle.std.specs.Borrow.{Bor}
use Rattle.std.specs.Char.{is_ascii_digit}
use Rattle.std.specs.Str.{str_eq_ignore_ascii_case}
use Rattle.station_explain.specs.Table.{Explanation}

-- The text has no such part.
abbrev pub Lacks : List ℕ → List ℕ → Type 0
Lacks part text = (before after : List ℕ) → text ≢ before ++ (part ++ after)

-- What stands before the last such part of a text, and what stands after it.
pub record SplitsAtLast (part text before after : List ℕ) : Type 0 where
  pub whole : text ≡ before ++ (part ++ after)
  pub last : Lacks part after

-- What stands before the first such part of a text, and what stands after it.
pub record SplitsAtFirst (part text before after : List ℕ) : Type 0 where
  pub whole : text ≡ before ++ (part ++ after)
  pub first : (earlier rest : List ℕ) → text ≡ earlier ++ (part ++ rest)
      → length before ≤ length earlier

-- A line up to its first point, which stands in a number with decimals, or the whole of it where
-- it has none.
abbrev pub IsBeforePoint : List ℕ → List ℕ → Type 0
IsBeforePoint line told = (Lacks (codes ".") line × (told ≡ line))
    ⊎ ((after : List ℕ) × SplitsAtFirst (codes ".") line told after)

-- The fault that a line tells of, with the numbers that it carries: what stands after the line's
-- last ": ", or the whole of it where it has none.
abbrev pub IsFaultIn : List ℕ → List ℕ → Type 0
IsFaultIn line fault = (Lacks (codes ": ") line × (fault ≡ line))
    ⊎ ((before : List ℕ) × SplitsAtLast (codes ": ") line before fault)

-- All its characters are digits, where it has any: a blank at the end of a line is passed over, as
-- a number is.
abbrev pub IsNumber : List ℕ → Type 0
IsNumber word = All (λ c. IsTrue (is_ascii_digit c)) word

-- A fault without the last number that it carries: the last word is left out where it is a number.
abbrev pub LeavesNumber : List ℕ → List ℕ → Type 0
LeavesNumber fault left = (Lacks (codes " ") fault × (left ≡ fault))
    ⊎ ((before : List ℕ) × (word : List ℕ) × SplitsAtLast (codes " ") fault before word
    × ((IsNumber word × (left ≡ before)) ⊎ (¬ (IsNumber word) × (left ≡ fault))))

-- A line, or a part of it, has this name of a fault, which carries two numbers at most.
abbrev pub Names : List ℕ → List ℕ → Type 0
Names line name = (told : List ℕ) × (fault : List ℕ) × (left : List ℕ) × IsBeforePoint line told
    × IsFaultIn told fault × LeavesNumber fault left × LeavesNumber left name

-- The fault has this name, written just so.
abbrev pub HasName : List ℕ → Explanation → Type 0
HasName name e = Any (λ n. n.now ≡ name) e.names.now

-- The fault has this name, capitals and small letters alike.
abbrev pub HasNameInAnyCase : List ℕ → Explanation → Type 0
HasNameInAnyCase name e = Any (λ n. IsTrue (str_eq_ignore_ascii_case n.now name)) e.names.now

-- The fault has no such name, written just so.
abbrev pub LacksName : List ℕ → Explanation → Type 0
LacksName name e = All (λ n. n.now ≢ name) e.names.now

-- The fault has no such name, capitals and small letters alike.
abbrev pub LacksNameInAnyCase : List ℕ → Explanation → Type 0
LacksNameInAnyCase name e = All (λ n. IsFalse (str_eq_ignore_ascii_case n.now name)) e.names.now

-- No fault of the table has this name, written just so.
abbrev pub IsNoName : List (Bor (List Explanation)) → List ℕ → Type 0
IsNoName table name = All (λ g. All (LacksName name) g.now) table

-- No fault of the table has this name, capitals and small letters alike.
abbrev pub IsNoNameInAnyCase : List (Bor (List Explanation)) → List ℕ → Type 0
IsNoNameInAnyCase table name = All (λ g. All (LacksNameInAnyCase name) g.now) table

-- The fault that a name means: one of the table that has it, written just so; where none has, one
-- that has it with capitals and small letters alike.
pub record IsMeant (table : List (Bor (List Explanation))) (name : List ℕ) (e : Explanation)
    : Type 0 where
  pub listed : Any (λ g. Contains g.now e) table
  pub named : HasName name e ⊎ (IsNoName table name × HasNameInAnyCase name e)
