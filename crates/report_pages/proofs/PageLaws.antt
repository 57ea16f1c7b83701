-- Laws of lines and pages.
use Rattle.std.proofs.Common.{◌≡◌, ◌∙◌, ℕ, ◌≤◌, ◌<◌, ◌+◌, ◌-◌, Bool, true, false, List, [], ◌∷◌}
use Rattle.std.proofs.Common.{◌++◌, ap, append_assoc, arith, length, refl, sym}
use Rattle.std.proofs.Common.{map, nat_lt, take, Bor, Some, None}
use Rattle.std.proofs.lemmas.List.{append-nil, length-append, length-take}
use Rattle.std.proofs.lemmas.List.Elements.{All-nil, All-cons}
use Rattle.std.specs.Prelude.{◌==◌, ◌&&◌, ◌||◌, cond, if◌then◌else◌, nat_le}
use Rattle.std.specs.List.{All, concat, flat_map, onto_first}
use Rattle.report_pages.specs.Lines.{begins_empty, lines, is_empty}
use Rattle.report_pages.specs.Pages.{Pages, begins_page, down_to, fewest_from, head}
use Rattle.report_pages.specs.Pages.{left_after, on_pages}
use Rattle.report_pages.specs.Pages.{repeated, with_line}
use Rattle.report_pages.specs.declared.head.TheConstants.{LINES_OF_HEAD}
use Rattle.report_pages.specs.declared.lines.TheConstants.{LINE_FEED}

-- The lines of all pages.
abbrev pub all_lines : Pages → List (List ℕ)
all_lines pages = pages.first ++ flat_map (λ page. page) pages.further

-- One line more is before all of them.
all_with : (begins : Bool) (line : List ℕ) (pages : Pages)
    → all_lines (with_line begins line pages) ≡ line ∷ all_lines pages
all_with true line pages = refl
all_with false line pages = refl

-- No line is lost.
pub all_of : (room left : ℕ) (after : Bool) (ls : List (List ℕ))
    → all_lines (on_pages room left after ls) ≡ ls
all_of room left after [] = refl
all_of room left after (line ∷ more) =
    let begins = begins_page left after line more in
    all_with begins line (on_pages room (left_after begins room left) (is_empty line) more)
    ∙ ap (λ (ls : List (List ℕ)). line ∷ ls)
    (all_of room (left_after begins room left) (is_empty line) more)

-- A byte before the first line.
onto-concat : (byte : ℕ) (ls : List (List ℕ)) → concat (onto_first byte ls) ≡ byte ∷ concat ls
onto-concat byte [] = refl
onto-concat byte (line ∷ more) = refl

-- A byte before lines, whether it ends one or not.
by_end : (ends : Bool) (byte : ℕ) (ls : List (List ℕ))
    → concat (if ends then (byte ∷ []) ∷ ls else onto_first byte ls) ≡ byte ∷ concat ls
by_end true byte ls = refl
by_end false byte ls = onto-concat byte ls

-- The lines of a text are the text.
pub concat-lines : (text : List ℕ) → concat (lines text) ≡ text
concat-lines [] = refl
concat-lines (byte ∷ text) =
    by_end (byte == LINE_FEED) byte (lines text)
    ∙ ap (λ (t : List ℕ). byte ∷ t) (concat-lines text)

-- Where all lines to come have room, no page begins.
none_begins : (left : ℕ) (after : Bool) (line : List ℕ) (more : List (List ℕ))
    → length more + 1 ≤ left → begins_page left after line more ≡ false
none_begins left after line more h =
    let any_left : (left == 0) ≡ false = grind arith in
    let room : nat_le left (length more) ≡ false = grind arith in
    rw (any_left, room) (by_few (nat_lt left (fewest_from after line (begins_empty more))))
  where
    by_few : (few : Bool) → (false || (few && false)) ≡ false
    by_few true = refl
    by_few false = refl

-- Lines that have room stand on the one page.
pub one_page : (room left : ℕ) (after : Bool) (ls : List (List ℕ)) → length ls ≤ left
    → on_pages room left after ls ≡ record { first = ls; further = [] }
one_page room left after [] h = refl
one_page room left after (line ∷ more) h =
    ap (λ (b : Bool). with_line b line
    (on_pages room (left_after b room left) (is_empty line) more))
    (none_begins left after line more (omega (arith, h)))
    ∙ ap (with_line false line)
    (one_page room (left - 1) (is_empty line) more (omega (arith, h)))

-- A page begins where no line is left.
some_left : (left : ℕ) (after : Bool) (line : List ℕ) (more : List (List ℕ))
    → begins_page left after line more ≡ false → 1 ≤ left
some_left left after line more = by_none (left == 0) _ refl
  where
    by_none : (none t : Bool) → (left == 0) ≡ none → (none || t) ≡ false → 1 ≤ left
    by_none true t is e = absurd (omega (arith, ap {B = ℕ} (λ (b : Bool). if b then 1 else 0) e))
    by_none false t is e = grind arith

-- A page that has begun keeps to the lines that are left on it, with one line more.
first_with : (begins : Bool) (room left : ℕ) (line : List ℕ) (pages : Pages)
    → (begins ≡ false → 1 ≤ left) → length pages.first ≤ left_after begins room left
    → length (with_line begins line pages).first ≤ left
first_with true room left line pages some h = omega arith
first_with false room left line pages some h = omega (arith, h, some refl)

-- A page that has begun keeps to the lines that are left on it.
pub first_fits : (room left : ℕ) (after : Bool) (ls : List (List ℕ))
    → length (on_pages room left after ls).first ≤ left
first_fits room left after [] = omega arith
first_fits room left after (line ∷ more) =
    let begins = begins_page left after line more in
    first_with begins room left line
    (on_pages room (left_after begins room left) (is_empty line) more)
    (some_left left after line more)
    (first_fits room (left_after begins room left) (is_empty line) more)

-- So do the further ones, with one line more.
further_with : (begins : Bool) (room left : ℕ) (line : List ℕ) (pages : Pages) → 1 ≤ room
    → length pages.first ≤ left_after begins room left
    → All (λ (page : List (List ℕ)). length page ≤ room) pages.further
    → All (λ (page : List (List ℕ)). length page ≤ room) (with_line begins line pages).further
further_with true room left line pages some h all =
    All-cons (λ (page : List (List ℕ)). length page ≤ room) (line ∷ pages.first) pages.further
    (omega (arith, h, some)) all
further_with false room left line pages some h all = all

-- The further pages keep to the lines for which they have room.
pub further_fit : (room left : ℕ) (after : Bool) (ls : List (List ℕ)) → 1 ≤ room
    → All (λ (page : List (List ℕ)). length page ≤ room) (on_pages room left after ls).further
further_fit room left after [] some = All-nil (λ (page : List (List ℕ)). length page ≤ room)
further_fit room left after (line ∷ more) some =
    let begins = begins_page left after line more in
    let next = left_after begins room left in
    further_with begins room left line (on_pages room next (is_empty line) more) some
    (first_fits room next (is_empty line) more) (further_fit room next (is_empty line) more some)

-- The lines down to a place among the first nine are at most nine.
few_down_to : (n m : ℕ) (ls : List (List ℕ)) (less : Bool) → nat_lt n m ≡ less → m ≤ 9
    → length (down_to (cond less (Some n) None) ls) ≤ 9
few_down_to n m ls true is few =
    let within : n < m = grind arith in
    omega (arith, length-take (n + 1) ls, within, few)
few_down_to n m ls false is few = omega arith

-- A head has at most nine lines.
pub head_few : (label : List ℕ) (ls : List (List ℕ)) → length (head label ls) ≤ 9
head_few label ls =
    few_down_to _ (length (take LINES_OF_HEAD ls)) ls _ refl
    (omega (arith, length-take LINES_OF_HEAD ls))

-- What repeats a head has at most one line more.
pub repeated_few : (hs : List (List ℕ)) → length (repeated hs) ≤ length hs + 1
repeated_few [] = omega arith
repeated_few (line ∷ more) = omega (arith, length-append (line ∷ more) ((LINE_FEED ∷ []) ∷ []))

-- Lines with one more after them.
concat-snoc : (hs : List (List ℕ)) (x : List ℕ) → concat (hs ++ (x ∷ [])) ≡ concat hs ++ x
concat-snoc [] x = append-nil x
concat-snoc (line ∷ more) x =
    ap (λ (t : List ℕ). line ++ t) (concat-snoc more x) ∙ sym (append_assoc line (concat more) x)

-- The text that repeats a head: its lines, and a line feed.
pub repeated_text : (hs : List (Bor (List ℕ))) → 0 < length hs
    → concat (repeated (map (λ (l : Bor (List ℕ)). l.now) hs))
    ≡ concat (map (λ (l : Bor (List ℕ)). l.now) hs) ++ (LINE_FEED ∷ [])
repeated_text [] some = absurd (omega (arith, some))
repeated_text (line ∷ more) some =
    concat-snoc (map (λ (l : Bor (List ℕ)). l.now) (line ∷ more)) (LINE_FEED ∷ [])
