-- The text of a sheet within its limits is far shorter than a sheet may be.
use Rattle.std.specs.Prelude.{if◌then◌else◌, codes}
use Rattle.std.proofs.Common.{◌≡◌, ℕ, suc, ◌+◌, ◌*◌, ◌<◌, ◌≤◌, ◌^◌, Bool, true, false, List, []}
use Rattle.std.proofs.Common.{◌∷◌, ◌++◌, map, length, All, ℤ, pos, negsuc, refl, ap, ◌∙◌, arith}
use Rattle.std.proofs.Common.{length-append, ◌==◌}
use Rattle.std.specs.Fmt.{decimal, signed_decimal}
use Rattle.std.proofs.lemmas.Fmt.{length-decimal-le_wide}
use Rattle.std.proofs.lemmas.Int.{ints}
use Rattle.std.proofs.lemmas.List.Elements.{All-head, All-tail}
use Rattle.csv.specs.Writing.{default_writer, escaped, field_text, fields_text, is_blank}
use Rattle.csv.specs.Writing.{needs_quotes, quoted, row_text}
use Rattle.adjust_kernel.specs.Names.{IsName}
use Rattle.adjust_kernel.specs.Sheets.{IsDirection, IsOrientation, IsRow, IsSetNumber, IsSheet}
use Rattle.adjust_kernel.specs.Sheets.{SheetValue}
use Rattle.adjust_kernel.specs.Within.{IsWithin}
use Rattle.adjust_kernel.specs.declared.bounds.TheConstants.{LARGEST_ANGLE, LARGEST_TURN}
use Rattle.adjust_kernel.specs.declared.row.Direction.{Direction}
use Rattle.adjust_kernel.specs.declared.row.Orientation.{Orientation}
use Rattle.adjust_kernel.specs.declared.row.Row.{Row}
use Rattle.sheet_format.specs.Rows.{obs_fields, set_fields, sheet_fields, target_fields}
use Rattle.sheet_format.specs.Texts.{rows_text, sheet_text, version_for}
use Rattle.sheet_format.specs.Versions.{version_text}
use Rattle.sheet_format.specs.declared.reading.TheConstants.{LONGEST_SHEET}
use Rattle.sheet_format.specs.declared.version.Version.{Version}
use Rattle.sheet_format.specs.declared.version.Version.TheVariants as version
use Rattle.sheet_format.proofs.TextRows.{rows_text-append}

-- A field in quotes is at most twice as long, and two quotes.
escaped-more : (b : Bool) (q c : ℕ) (rest : List ℕ) (n : ℕ) → length rest ≤ 2 * n
    → length (if b then q ∷ c ∷ rest else c ∷ rest) ≤ 2 * (n + 1)
escaped-more true q c rest n h = omega (arith, h)
escaped-more false q c rest n h = omega (arith, h)

length-escaped : (field : List ℕ) → length (escaped default_writer field) ≤ 2 * length field
unfolding escaped
length-escaped [] = omega arith
length-escaped (c ∷ rest) = let h = escaped-more (c == 34) 34 c (escaped default_writer rest)
    (length rest) (length-escaped rest) in omega (arith, h)

-- The text of a field is at most twice as long as the field, and two quotes.
pub length-field : (field : List ℕ) → length (field_text default_writer field)
    ≤ 2 * length field + 2
length-field field = by (needs_quotes default_writer field)
  where
    by : (b : Bool) → length (if b then quoted default_writer field else field)
        ≤ 2 * length field + 2
    by true = omega (
      arith,
      length-append (escaped default_writer field) (34 ∷ []),
      length-escaped field,
    )
    by false = omega arith

-- The text of a row of five fields.
joined-length : (a b c d e : List ℕ) → length
    ((a ++ (44 ∷ (b ++ (44 ∷ (c ++ (44 ∷ (d ++ (44 ∷ (e ++ []))))))))) ++ (10 ∷ []))
    ≡ length a + length b + length c + length d + length e + 5
joined-length a b c d e =
    let five = e ++ [] in
    let four = d ++ (44 ∷ five) in
    let three = c ++ (44 ∷ four) in
    let two = b ++ (44 ∷ three) in
    let one = a ++ (44 ∷ two) in
    omega (
      arith,
      length-append e [],
      length-append d (44 ∷ five),
      length-append c (44 ∷ four),
      length-append b (44 ∷ three),
      length-append a (44 ∷ two),
      length-append one (10 ∷ []),
    )

length-row : (a b c d e : List ℕ) → length (row_text default_writer (a ∷ b ∷ c ∷ d ∷ e ∷ []))
    ≤ 2 * (length a + length b + length c + length d + length e) + 15
unfolding fields_text is_blank
length-row a b c d e =
    let joined = joined-length (field_text default_writer a) (field_text default_writer b)
    (field_text default_writer c) (field_text default_writer d) (field_text default_writer e) in
    omega (
      arith,
      joined,
      length-field a,
      length-field b,
      length-field c,
      length-field d,
      length-field e,
    )

-- Numbers are short.
decimal-short : (k n : ℕ) → 0 < k → n < 10 ^ k → n < 10 ^ 64 → length (decimal n) ≤ k
decimal-short = length-decimal-le_wide

angle-short : (z : ℤ) → IsWithin LARGEST_ANGLE z → length (signed_decimal z) ≤ 23
angle-short (pos n) h =
    let small : n < 10 ^ 22 = omega (arith, ints, h.high) in
    let short = decimal-short 22 n (omega arith) small (omega (arith, small)) in
    omega (arith, short)
angle-short (negsuc n) h =
    let small : suc n < 10 ^ 22 = omega (arith, ints, h.low) in
    let short = decimal-short 22 (suc n) (omega arith) small (omega (arith, small)) in
    omega (arith, short)

turn-short : (z : ℤ) → IsWithin LARGEST_TURN z → length (signed_decimal z) ≤ 2
turn-short (pos n) h =
    let small : n < 10 ^ 1 = omega (arith, ints, h.high) in
    let short = decimal-short 1 n (omega arith) small (omega (arith, small)) in
    omega (arith, short)
turn-short (negsuc n) h =
    let small : suc n < 10 ^ 1 = omega (arith, ints, h.low) in
    let short = decimal-short 1 (suc n) (omega arith) small (omega (arith, small)) in
    omega (arith, short)

set-short : (n : ℕ) → IsSetNumber n → length (decimal n) ≤ 4
set-short n h = decimal-short 4 n (omega arith) (omega (arith, h.1)) (omega (arith, h.1))

version-short : (v : Version) → length (version_text v) ≡ 1
version-short version.One = refl
version-short version.Two = refl

-- The text of a row has at most 128 bytes.
abbrev pub IsShort : List (List ℕ) → Type 0
IsShort row = length (row_text default_writer row) ≤ 128

sheet-short : (v : Version) (name : List ℕ) (d : ℕ) → IsName name → d < 10 ^ 13
    → IsShort (sheet_fields v name d)
sheet-short v name d named small =
    let digits = decimal-short 13 d (omega arith) small (omega (arith, small)) in
    omega (
      arith,
      length-row (codes "sheet") (version_text v) name (decimal d) [],
      version-short v,
      named.short,
      digits,
    )

target-short : (d : Direction) → IsDirection d → IsShort (target_fields d)
target-short d ok = omega (
  arith,
  length-row (codes "target") [] d.name (signed_decimal d.value) [],
  ok.name.short,
  angle-short d.value ok.value,
)

set-row-short : (o : Orientation) → IsOrientation o → IsShort (set_fields o)
set-row-short o ok = omega (
  arith,
  length-row (codes "set") (decimal o.set) []
      (signed_decimal o.value) [],
  set-short o.set ok.set,
  angle-short o.value ok.value,
)

obs-short : (r : Row) → IsRow r → IsShort (obs_fields r)
obs-short r ok =
    let value = decimal-short 8 r.value (omega arith) (omega (arith, ok.value))
    (omega (arith, ok.value)) in
    omega (
      arith,
      length-row (codes "obs") (decimal r.set) r.target (decimal r.value)
          (signed_decimal r.turn),
      set-short r.set ok.set,
      ok.target.short,
      value,
      turn-short r.turn ok.turn,
    )

-- Where the row of each entry is short, the rows have at most 128 bytes for each entry.
pub entries-short : {X : Type 0} (P : X → Type 0) (f : X → List (List ℕ))
    → ((x : X) → P x → IsShort (f x)) → (xs : List X) → All P xs
    → length (rows_text (map f xs)) ≤ length xs * 128
entries-short P f short [] ok = omega arith
entries-short P f short (x ∷ xs) ok =
    omega (
      arith,
      length-append (row_text default_writer (f x)) (rows_text (map f xs)),
      short x (All-head P x xs ok),
      entries-short P f short xs (All-tail P x xs ok),
    )

-- The text of a sheet is no longer than that of any sheet may be.
pub text-short : (s : SheetValue) → IsSheet s → length (sheet_text s) ≤ LONGEST_SHEET
text-short s ok =
    let first = sheet_fields (version_for s) s.name s.denominator in
    let targets = map target_fields s.directions in
    let sets = map set_fields s.orientations in
    let obs = map obs_fields s.rows in
    let parts : length (rows_text (targets ++ (sets ++ obs))) ≡ length (rows_text targets)
    + (length (rows_text sets) + length (rows_text obs)) =
    ap length (rows_text-append targets (sets ++ obs))
    ∙ length-append (rows_text targets) (rows_text (sets ++ obs))
    ∙ ap (λ (n : ℕ). length (rows_text targets) + n) (ap length (rows_text-append sets obs)
    ∙ length-append (rows_text sets) (rows_text obs)) in
    omega (
      arith,
      length-append (row_text default_writer first) (rows_text (targets ++ (sets ++ obs))),
      parts,
      sheet-short (version_for s) s.name s.denominator ok.name (omega (arith, ok.denominator.1)),
      entries-short IsDirection target_fields target-short s.directions ok.directions.each,
      entries-short IsOrientation set_fields set-row-short s.orientations ok.orientations.each,
      entries-short IsRow obs_fields obs-short s.rows ok.rows.each,
      ok.directions.few,
      ok.orientations.few,
      ok.rows.few,
    )
