-- What is known where rows are asked for.
use Rattle.std.proofs.Common.{◌≡◌, codes, true}
use Rattle.clap.specs.declared.parser.matches.Found.{Found}
use Rattle.command_line.specs.Stated.{StatesFlag, StatesForm}
use Rattle.command_line.specs.declared.request.ListForm.{ListForm}
use Rattle.command_line.specs.declared.request.ListForm.TheVariants.{Rows}
use Rattle.row_forms.specs.declared.form.RowForm.{RowForm}

-- Where rows are asked for, their flag stands.
pub rows-stated : (found : Found) (listed : ListForm) (form : RowForm) → listed ≡ Rows form
    → StatesForm found listed → StatesFlag found (codes "csv") true
rows-stated found listed form is states = (rw is at states).0
