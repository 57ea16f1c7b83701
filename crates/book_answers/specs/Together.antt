-- How the texts of the stations of a file make one text.
use Rattle.std.specs.Prelude.{◌==◌, ℕ, Bool, true, false, List, [], ◌∷◌, ◌++◌, codes}
use Rattle.std.specs.Prelude.{if◌then◌else◌}
use Rattle.book_answers.specs.declared.arrangement.Arrangement.{Arrangement}
use Rattle.book_answers.specs.declared.arrangement.Arrangement.TheVariants.{Lines, Pages, Rows}
use Rattle.book_answers.specs.declared.arrangement.Arrangement.TheVariants.{NamedDifferences}
use Rattle.book_answers.specs.declared.arrangement.Arrangement.TheVariants.{NamedDirections}
use Rattle.csv.specs.Machine.{line_feed}
use Rattle.list_rows.specs.RowPieces.{cell_text}
use Rattle.row_forms.specs.declared.form.RowForm.TheVariants.{Commas, Semicolons}

-- The byte that begins a page, a form feed.
abbrev pub form_feed : ℕ
form_feed = 12

-- What stands after the first line of a text.
unfoldable pub after_line : List ℕ → List ℕ
after_line [] = []
after_line (byte ∷ text) = if byte == line_feed then text else after_line text

-- A text with a front before each of its lines; `starts` is whether a line starts where it does.
unfoldable pub behind : Bool → List ℕ → List ℕ → List ℕ
behind starts front [] = []
behind starts front (byte ∷ text) =
    (if starts then front else []) ++ (byte ∷ behind (byte == line_feed) front text)

-- What stands before the texts: titles, where rows stand behind the name of their station.
abbrev pub head : Arrangement → List ℕ
head (NamedDirections Commas) = codes "station,target,direction\n"
head (NamedDirections Semicolons) = codes "station;target;direction\n"
head (NamedDifferences Commas) =
    codes "station,target,stated,least squares,difference,from the median\n"
head (NamedDifferences Semicolons) =
    codes "station;target;stated;least squares;difference;from the median\n"
head arrangement = []

-- What a station adds, the first or one after it, of its name and its own text: that text, as a
-- page, which begins with a form feed; as rows, without its titles where these stand already; as a
-- line; or each of its rows behind the cell of its name, without its titles.
abbrev pub piece : Arrangement → Bool → List ℕ × List ℕ → List ℕ
piece Pages true own = own.1
piece Pages false own = form_feed ∷ own.1
piece Rows true own = own.1
piece Rows false own = after_line own.1
piece Lines first own = own.1
piece (NamedDifferences form) first own = behind true (cell_text form own.0) (after_line own.1)
piece (NamedDirections form) first own = behind true (cell_text form own.0) own.1

-- What stations add, one after another; `first` is whether they begin with the first.
unfoldable pub pieces : Arrangement → Bool → List (List ℕ × List ℕ) → List ℕ
pieces arrangement first [] = []
pieces arrangement first (own ∷ others) =
    piece arrangement first own ++ pieces arrangement false others

-- The one text of stations, by their names and their own texts.
abbrev pub together : Arrangement → List (List ℕ × List ℕ) → List ℕ
together arrangement texts = head arrangement ++ pieces arrangement true texts
