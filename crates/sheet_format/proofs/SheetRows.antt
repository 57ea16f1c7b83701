-- The rows of a sheet within its limits have no fault, and are read as that sheet.
use Rattle.std.specs.Prelude.{if◌then◌else◌, ◌-◌}
use Rattle.std.proofs.Common.{◌≡◌, ℕ, ◌+◌, ◌<◌, ◌≤◌, ◌^◌, Bool, true, false, List, [], ◌∷◌, ◌++◌}
use Rattle.std.proofs.Common.{map, length, Some, None, All, refl, subst, arith, ◌==◌, length-append}
use Rattle.std.proofs.Common.{append_assoc}
use Rattle.std.proofs.lemmas.Bool.{lt-ltb}
use Rattle.std.proofs.lemmas.List.{append-nil}
use Rattle.std.proofs.lemmas.List.Elements.{All-head, All-tail}
use Rattle.adjust_kernel.specs.Sheets.{IsRow}
use Rattle.adjust_kernel.specs.declared.bounds.TheConstants.{LARGEST_SET_NUMBER, LARGEST_TURN}
use Rattle.adjust_kernel.specs.declared.bounds.TheConstants.{MOST_ROWS, MOST_SETS, MOST_TARGETS}
use Rattle.adjust_kernel.specs.declared.bounds.TheConstants.{TURN}
use Rattle.adjust_kernel.specs.declared.row.Direction.{Direction}
use Rattle.adjust_kernel.specs.declared.row.Orientation.{Orientation}
use Rattle.adjust_kernel.specs.declared.row.Row.{Row}
use Rattle.sheet_format.specs.Drafts.{DraftValue, blank, said_by_draft, with_row}
use Rattle.sheet_format.specs.Faults.{row_fault}
use Rattle.sheet_format.specs.RowTypes.{may_follow}
use Rattle.sheet_format.specs.Rows.{obs_fields, set_fields, sheet_fields, target_fields}
use Rattle.sheet_format.specs.Versions.{largest_angle, largest_denominator, version_of}
use Rattle.sheet_format.specs.Versions.{version_text}
use Rattle.sheet_format.specs.declared.entry.Header.{Header}
use Rattle.sheet_format.specs.declared.row_type.RowType.TheVariants as row_type
use Rattle.sheet_format.specs.declared.version.Version.{Version}
use Rattle.sheet_format.specs.declared.version.Version.TheVariants as version
use Rattle.sheet_format.proofs.DraftRows.{IsDirectionOf, IsVersionedHeader, IsOrientationOf}
use Rattle.sheet_format.proofs.FirstFaults.{HasRead, read-more}
use Rattle.sheet_format.proofs.NameTests.{name-test}
use Rattle.sheet_format.proofs.Ranges.{angle-fits, natural-again, natural-within, number-again}
use Rattle.sheet_format.proofs.Ranges.{turn-fits, within-test}

-- The draft of a first row and of these entries.
abbrev pub draft : Header → List Direction → List Orientation → List Row → DraftValue
draft h ds os rs = record { header = Some h; directions = ds; orientations = os; rows = rs }

-- The first row.
version-again : (v : Version) → version_of (version_text v) ≡ Some v
version-again version.One = refl
version-again version.Two = refl

denominator-small : (v : Version) (n : ℕ) → n ≤ largest_denominator v → n < 2 ^ 127
denominator-small version.One n h = omega (arith, h)
denominator-small version.Two n h = omega (arith, h)

-- The first row of a sheet has no fault, and adds the sheet's header to the blank draft.
pub sheet-row-clean : (h : Header) → IsVersionedHeader (Some h)
    → (row_fault (said_by_draft blank) (sheet_fields h.version h.name h.denominator) ≡ None)
    × (draft h [] [] [] ≡ with_row blank (sheet_fields h.version h.name h.denominator))
unfolding row_fault with_row
sheet-row-clean h ok =
    let d = natural-again h.denominator (denominator-small h.version h.denominator ok.2) in (
      rw (
        version-again h.version,
        name-test h.name ok.0,
        d.form,
        d.value,
        natural-within 1 (largest_denominator h.version) h.denominator ok.1 ok.2,
      ) refl,
      rw (version-again h.version, d.value) refl,
    )

-- The row of a target, after the first row or other targets.
target-follows : (a : Bool) → may_follow (if a then Some row_type.Sheet else Some row_type.Target)
    row_type.Target ≡ true
target-follows true = refl
target-follows false = refl

target-row-clean : (h : Header) (ds : List Direction) (x : Direction) → IsDirectionOf h.version x
    → length ds < MOST_TARGETS
    → (row_fault (said_by_draft (draft h ds [] [])) (target_fields x) ≡ None)
    × (draft h (ds ++ (x ∷ [])) [] [] ≡ with_row (draft h ds [] []) (target_fields x))
unfolding row_fault with_row
target-row-clean h ds x ok room =
    let within = within-test (largest_angle h.version) x.value ok.1 in
    let n = number-again (largest_angle h.version) x.value (angle-fits h.version) within in (
      rw (
        target-follows (length ds == 0),
        name-test x.name ok.0,
        n.form,
        n.value,
        within,
        lt-ltb (length ds) MOST_TARGETS room,
      ) refl,
      rw n.value refl,
    )

-- The rows of a sheet's targets are read, and their directions join the draft.
pub targets-read : (all : List (List (List ℕ))) (h : Header) (ds xs : List Direction)
    (rest : List (List (List ℕ))) → HasRead all (draft h ds [] []) (map target_fields xs ++ rest)
    → All (IsDirectionOf h.version) xs → length ds + length xs ≤ MOST_TARGETS
    → HasRead all (draft h (ds ++ xs) [] []) rest
targets-read all h ds [] rest read ok room = rw (append-nil ds) read
targets-read all h ds (x ∷ xs) rest read ok room =
    let (none, same) = target-row-clean h ds x (All-head (IsDirectionOf h.version) x xs ok)
    (omega (arith, room)) in
    let next = read-more all (draft h ds [] []) (draft h (ds ++ (x ∷ [])) [] []) (target_fields x)
    (map target_fields xs ++ rest) read none same in
    subst (λ (ys : List Direction). HasRead all (draft h ys [] []) rest)
    (append_assoc ds (x ∷ []) xs)
    (targets-read all h (ds ++ (x ∷ [])) xs rest next (All-tail (IsDirectionOf h.version) x xs ok)
    (omega (arith, room, length-append ds (x ∷ []))))

-- The row of a set, after targets or other sets.
set-follows : (a b : Bool) → b ≡ false → may_follow
    (if a then (if b then Some row_type.Sheet else Some row_type.Target) else Some row_type.Set)
    row_type.Set ≡ true
set-follows true true e = cc e
set-follows true false e = refl
set-follows false b e = refl

set-row-clean : (h : Header) (ds : List Direction) (os : List Orientation) (x : Orientation)
    → (length ds == 0) ≡ false → IsOrientationOf h.version x → length os < MOST_SETS
    → (row_fault (said_by_draft (draft h ds os [])) (set_fields x) ≡ None)
    × (draft h ds (os ++ (x ∷ [])) [] ≡ with_row (draft h ds os []) (set_fields x))
unfolding row_fault with_row
set-row-clean h ds os x targets ok room =
    let within = within-test (largest_angle h.version) x.value ok.1 in
    let n = number-again (largest_angle h.version) x.value (angle-fits h.version) within in
    let s = natural-again x.set (omega (arith, ok.0.1)) in (
      rw (
        set-follows (length os == 0) (length ds == 0) targets,
        s.form,
        s.value,
        n.form,
        n.value,
        natural-within 1 LARGEST_SET_NUMBER x.set ok.0.0 ok.0.1,
        within,
        lt-ltb (length os) MOST_SETS room,
      ) refl,
      rw (s.value, n.value) refl,
    )

-- The rows of its sets are read after those of the targets, and their orientations join it.
pub sets-read : (all : List (List (List ℕ))) (h : Header) (ds : List Direction)
    (os xs : List Orientation) (rest : List (List (List ℕ))) → (length ds == 0) ≡ false
    → HasRead all (draft h ds os []) (map set_fields xs ++ rest)
    → All (IsOrientationOf h.version) xs → length os + length xs ≤ MOST_SETS
    → HasRead all (draft h ds (os ++ xs) []) rest
sets-read all h ds os [] rest targets read ok room = rw (append-nil os) read
sets-read all h ds os (x ∷ xs) rest targets read ok room =
    let (none, same) = set-row-clean h ds os x targets
    (All-head (IsOrientationOf h.version) x xs ok) (omega (arith, room)) in
    let next = read-more all (draft h ds os []) (draft h ds (os ++ (x ∷ [])) []) (set_fields x)
    (map set_fields xs ++ rest) read none same in
    subst (λ (ys : List Orientation). HasRead all (draft h ds ys []) rest)
    (append_assoc os (x ∷ []) xs)
    (sets-read all h ds (os ++ (x ∷ [])) xs rest targets next
    (All-tail (IsOrientationOf h.version) x xs ok)
    (omega (arith, room, length-append os (x ∷ []))))

-- The row of an observation, after sets or other observations.
obs-follows : (a b c : Bool) → b ≡ false → may_follow
    (if a then (if b then (if c then Some row_type.Sheet else Some row_type.Target)
    else Some row_type.Set) else Some row_type.Obs) row_type.Obs ≡ true
obs-follows true true c e = cc e
obs-follows true false c e = refl
obs-follows false b c e = refl

obs-row-clean : (h : Header) (ds : List Direction) (os : List Orientation) (rs : List Row) (x : Row)
    → (length os == 0) ≡ false → IsRow x → length rs < MOST_ROWS
    → (row_fault (said_by_draft (draft h ds os rs)) (obs_fields x) ≡ None)
    × (draft h ds os (rs ++ (x ∷ [])) ≡ with_row (draft h ds os rs) (obs_fields x))
unfolding row_fault with_row
obs-row-clean h ds os rs x sets ok room =
    let within = within-test LARGEST_TURN x.turn ok.turn in
    let k = number-again LARGEST_TURN x.turn turn-fits within in
    let s = natural-again x.set (omega (arith, ok.set.1)) in
    let p = natural-again x.value (omega (arith, ok.value)) in (
      rw (
        obs-follows (length rs == 0) (length os == 0) (length ds == 0) sets,
        name-test x.target ok.target,
        s.form,
        s.value,
        p.form,
        p.value,
        k.form,
        k.value,
        natural-within 1 LARGEST_SET_NUMBER x.set ok.set.0 ok.set.1,
        natural-within 0 (TURN - 1) x.value (omega arith) (omega (arith, ok.value)),
        within,
        lt-ltb (length rs) MOST_ROWS room,
      ) refl,
      rw (s.value, p.value, k.value) refl,
    )

-- The rows of its observations are read last, and then none is left.
pub obs-read : (all : List (List (List ℕ))) (h : Header) (ds : List Direction)
    (os : List Orientation) (rs xs : List Row) → (length os == 0) ≡ false
    → HasRead all (draft h ds os rs) (map obs_fields xs)
    → All IsRow xs → length rs + length xs ≤ MOST_ROWS → HasRead all (draft h ds os (rs ++ xs)) []
obs-read all h ds os rs [] sets read ok room = rw (append-nil rs) read
obs-read all h ds os rs (x ∷ xs) sets read ok room =
    let (none, same) = obs-row-clean h ds os rs x sets (All-head IsRow x xs ok)
    (omega (arith, room)) in
    let next = read-more all (draft h ds os rs) (draft h ds os (rs ++ (x ∷ []))) (obs_fields x)
    (map obs_fields xs) read none same in
    subst (λ (ys : List Row). HasRead all (draft h ds os ys) []) (append_assoc rs (x ∷ []) xs)
    (obs-read all h ds os (rs ++ (x ∷ [])) xs sets next (All-tail IsRow x xs ok)
    (omega (arith, room, length-append rs (x ∷ []))))
