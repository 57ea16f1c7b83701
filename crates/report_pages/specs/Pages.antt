-- A report in pages: each has at most 60 lines, and each but the first begins with a form feed, the
-- head of the report down to the line of its station, and an empty line.
use Rattle.std.specs.Prelude.{ℕ, ◌+◌, ◌-◌, ◌==◌, Bool, true, false, ◌&&◌, ◌||◌, not, nat_lt, nat_eq}
use Rattle.std.specs.Prelude.{List, [], ◌∷◌, ◌++◌, length, take, if◌then◌else◌}
use Rattle.std.specs.Prelude.{nat_le, Option, Some, None}
use Rattle.std.specs.List.{concat, flat_map, position, slice_split, starts_with}
use Rattle.report_pages.specs.Lines.{begins_empty, first_byte, is_empty, lines}
use Rattle.report_pages.specs.declared.lines.TheConstants.{BLANK, LINE_FEED}
use Rattle.report_pages.specs.declared.head.TheConstants.{LINES_OF_HEAD}
use Rattle.report_pages.specs.declared.pages.TheConstants.{FORM_FEED, LINES_OF_PAGE}
use Rattle.report_pages.specs.declared.pages.TheConstants.{LINES_OF_COLUMNS, LINES_OF_SECTION}

-- the lines down to one of a place; none where there is no place
abbrev pub down_to : Option ℕ → List (List ℕ) → List (List ℕ)
down_to None lines = []
down_to (Some place) lines = take (place + 1) lines

-- The head: the lines down to the first that begins with this label, which has to be one of the
-- first nine.
abbrev pub head : List ℕ → List (List ℕ) → List (List ℕ)
head label lines =
    down_to (position (λ line. starts_with nat_eq line label) (take LINES_OF_HEAD lines)) lines

-- What each further page repeats: the head, where there is one, and an empty line.
abbrev pub repeated : List (List ℕ) → List (List ℕ)
repeated [] = []
repeated (line ∷ more) = (line ∷ more) ++ ((LINE_FEED ∷ []) ∷ [])

-- A line after an empty one begins a section, if it begins with no blank: it is its title.
abbrev pub begins_section : Bool → List ℕ → Bool
begins_section after_empty line =
    after_empty && (not (is_empty line) && not (first_byte line == BLANK))

-- A line between two empty ones stands alone, as the titles of columns do above their rows.
abbrev pub stands_alone : Bool → List ℕ → Bool → Bool
stands_alone after_empty line before_empty = after_empty && (not (is_empty line) && before_empty)

-- How many lines have to be left on a page for a line to stand there, if so many are to come: for a
-- title and for titles of columns so many that a row may follow them.
abbrev pub fewest_from : Bool → List ℕ → Bool → ℕ
fewest_from after_empty line before_empty =
    if begins_section after_empty line then LINES_OF_SECTION
    else (if stands_alone after_empty line before_empty then LINES_OF_COLUMNS else 1)

-- Whether a page begins at a line before these, where so many lines are left on the page before: no
-- line is left, or too few would stand there, and the report does not end there.
abbrev pub begins_page : ℕ → Bool → List ℕ → List (List ℕ) → Bool
begins_page left after_empty line more =
    (left == 0)
    || (nat_lt left (fewest_from after_empty line (begins_empty more)) && nat_le left (length more))

-- The lines of a page that has begun, and those of each further one.
pub record Pages : Type 0 where
  pub first : List (List ℕ)
  pub further : List (List (List ℕ))

-- Pages with one line more before them, at which a page begins, or not.
abbrev pub with_line : Bool → List ℕ → Pages → Pages
with_line true line pages = record { first = []; further = (line ∷ pages.first) ∷ pages.further }
with_line false line pages = record { first = line ∷ pages.first; further = pages.further }

-- How many lines are left on a page after a line, where on each further page there is room for so
-- many.
abbrev pub left_after : Bool → ℕ → ℕ → ℕ
left_after begins room left = (if begins then room else left) - 1

-- Lines, page by page.
abbrev pub on_pages : ℕ → ℕ → Bool → List (List ℕ) → Pages
on_pages room left after_empty [] = record { first = []; further = [] }
on_pages room left after_empty (line ∷ more) =
    with_line (begins_page left after_empty line more) line
    (on_pages room (left_after (begins_page left after_empty line more) room left)
    (is_empty line) more)

-- The text of pages, each further one of which begins with this.
abbrev pub text_of : List ℕ → Pages → List ℕ
text_of start pages = concat pages.first ++ flat_map (λ page. start ++ concat page) pages.further

-- The pages of a report, whose head ends with the first line that begins with this label.
abbrev pub pages_of : List ℕ → List (List ℕ) → Pages
pages_of label lines =
    on_pages (LINES_OF_PAGE - length (repeated (head label lines))) LINES_OF_PAGE false lines

-- A report as its pages.
abbrev pub report_on_pages : List ℕ → List ℕ → List ℕ
report_on_pages label report =
    text_of (FORM_FEED ∷ concat (repeated (head label (lines report))))
    (pages_of label (lines report))

-- Reports as their pages, each report but the first after a form feed.
abbrev pub reports_on_pages : List ℕ → Bool → List (List ℕ) → List ℕ
reports_on_pages label further [] = []
reports_on_pages label further (report ∷ more) =
    (if further then FORM_FEED ∷ [] else [])
    ++ (report_on_pages label report ++ reports_on_pages label true more)

-- A text of reports, each but the first of which begins with a form feed, as their pages.
abbrev pub paged : List ℕ → List ℕ → List ℕ
paged label text = reports_on_pages label false (slice_split (λ byte. byte == FORM_FEED) text)
