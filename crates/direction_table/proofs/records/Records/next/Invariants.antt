use Rattle.std.proofs.Common.{◌≡◌, [], drop}
use Rattle.csv.specs.Machine.{next_record}
use Rattle.csv.specs.Records.{fields_of, partial_of}
use Rattle.csv.specs.declared.parser.State.TheVariants as st
use Rattle.row_forms.specs.ByteSteps.{config_with, state_of}
use Rattle.direction_table.proofs.records.Records.next.Given as goal

abbrev pub invariant-loop-at : goal.invariant-loop-at
invariant-loop-at l = (next_record (config_with l.self.separator) st.StartRecord [] [] l.text
    ≡ next_record (config_with l.self.separator) (state_of l.place) (fields_of l.row)
    l.self.field.items (drop l.at l.text))
    × (partial_of l.row ≡ [])
    × (l.self.separator ≡ l.fn.self.separator)
