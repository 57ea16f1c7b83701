-- Memory that ran out after a copy was made.
use Rattle.std.proofs.Common.{List, ℕ, Ok, Err, inl, refl}
use Rattle.byte_ends.specs.Source.{ReaderChange}
use Rattle.changed_lines.specs.declared.change.Change.{Change}
use Rattle.changed_lines.specs.declared.fault.ChangeFault.TheVariants.{Memory}
use Rattle.station_change.specs.Answers.{IsChangeAnswer}
use Rattle.station_change.specs.declared.fault.PrintFault.TheVariants as fault

-- That it ran out may be answered in the place of a copy.
pub out_of_memory : (cs : List Change) (gsi : ReaderChange) (copy : List ℕ)
    → IsChangeAnswer cs gsi (Ok copy) → IsChangeAnswer cs gsi (Err (fault.Change Memory))
out_of_memory cs gsi copy h = record {
  answers = record {
    given = h.answers.given;
    by_reads = h.answers.by_reads;
    so = λ left may. inl refl;
  };
  reader = h.reader.unfailed;
}
