use Rattle.std.proofs.Common.{◌≡◌, ℕ, List, [], Ok, Err, refl, subst, ◌∙◌, ap, inl, inr}
use Rattle.std.specs.Prelude.{codes}
use Rattle.byte_ends.specs.Writers.{writer_change}
use Rattle.set_marks.specs.declared.fault.MarkFault.TheVariants.{Memory}
use Rattle.set_marks.specs.declared.recognized.Recognized.{Recognized}
use Rattle.set_marks.specs.declared.refused.Refused.TheVariants.{File}
use Rattle.job_statements.specs.Numbers.{said_in}
use Rattle.station_check.specs.RunEndings.{WritesOrFails}
use Rattle.station_mark.specs.FaultTexts.{unmarked, untold}
use Rattle.station_mark.specs.Notes.{notes_text, stations_text}
use Rattle.station_mark.specs.Runs.{notes_in}
use Rattle.station_mark.specs.declared.fault.PrintFault.TheVariants.{Mark, Write}
use Rattle.station_mark.proofs.Givings.{in_order, out_of_memory}
use Rattle.station_mark.proofs.Telling.{told}
use Rattle.station_mark.proofs.runs.run_mark.Goals as goal

pub returns-in-Err : goal.returns-in-Err
returns-in-Err g c = (
  c.in-Err.ensures.0,
  elim c.refuse_marking.ensures.text [
    | inl text ↦ record {
      answer = Err (unmarked c.in-Err.refused);
      so = record {
        marking = Err c.in-Err.refused;
        answers = c.in-Err.ensures.1;
        printed = (refl, refl);
      };
      exits = c.refuse_marking.ensures.status;
      reports = text;
    }
    | inr line ↦ record {
      answer = Err (untold (Mark Memory));
      so = record {
        marking = Err (File Memory);
        answers = out_of_memory c.args.beginnings (said_in c.args.stated) _ c.in-Err.ensures.1.bytes
            c.in-Err.ensures.1.reads;
        printed = (refl, refl);
      };
      exits = c.refuse_marking.ensures.status;
      reports = line;
    }
  ],
)

pub returns-in_default : goal.returns-in_default
returns-in_default g c = (
  c.in-Ok.ensures.0,
  record {
    answer = Err (untold (Mark Memory));
    so = record {
      marking = Err (File Memory);
      answers = out_of_memory c.args.beginnings (said_in c.args.stated) _ c.in-Ok.ensures.1.bytes
          c.in-Ok.ensures.1.reads;
      printed = (refl, refl);
    };
    exits = c.refuse.ensures.status;
    reports = c.refuse.ensures.line;
  },
)

pub returns-in-Ok-write_copy : goal.returns-in-Ok-write_copy
returns-in-Ok-write_copy g c =
    let file = c.in-Ok.file in
    let err = writer_change g.E.Sink c.args.err.now
    c.tell.new.err in
    let notes : c.deref-in-Ok-write_copy.result.now ≡ notes_in file =
    c.deref-in-Ok-write_copy.ensures.value
    ∙ (c.in-Ok-notes_text.ensures
    ∙ ap (λ (stations : List Recognized). notes_text stations) c.deref.ensures.value) in
    let written = subst (λ (text : List ℕ). WritesOrFails text err) notes c.tell.ensures.notes in (
      c.in-Ok.ensures.0,
      record {
        answer = Ok file;
        so = record {
          marking = Ok file;
          answers = c.in-Ok.ensures.1;
          printed = (
            refl,
            record {
              got = rw (c.deref-2.ensures.value, c.deref-3.ensures.value) at
                  c.in-Ok-write_copy.ensures.ok;
              unfailed = c.in-Ok-write_copy.ensures.failed;
            },
            c.in-Ok-write_copy.ensures.flushed,
          );
        };
        exits = c.tell.ensures.status;
        reports = told (stations_text [] file.marked.stations.items) 110
            (codes "ote: compare this with the field book\n") err written;
      },
    )

pub returns : goal.returns
returns g c = (
  c.in-Ok.ensures.0,
  record {
    answer = Err (untold Write);
    so = record {
      marking = Ok c.in-Ok.file;
      answers = c.in-Ok.ensures.1;
      printed = (
        refl,
        record {
          got = rw (c.deref-2.ensures.value, c.deref-3.ensures.value) at
              c.in-Err-write_copy.ensures.cut_short;
          call_failed = c.in-Err-write_copy.ensures.failed;
        },
      );
    };
    exits = c.refuse-in-Err-write_copy.ensures.status;
    reports = c.refuse-in-Err-write_copy.ensures.line;
  },
)

pub write_copy-requires : goal.write_copy-requires
write_copy-requires g c =
    rw (c.deref-2.ensures.value, c.deref-3.ensures.value)
    (in_order c.args.beginnings (said_in c.args.stated) _ c.in-Ok.file c.in-Ok.ensures.1)
