use Rattle.std.proofs.Common.{◌≡◌, refl, rules, Ok, Err}
use Rattle.station_compare.specs.Refusals.{unhinted}
use Rattle.instrument_reports.proofs.Kept.{retold}
use Rattle.station_compare.specs.declared.fault.CompareFault.TheVariants.{Memory, Write}
use Rattle.instrument_reports.proofs.station.write_told.Goals as goal

pub returns-in_err-text : goal.returns-in_err-text
returns-in_err-text g c =
    let told = rw c.in_err-text.was at c.told_of-answer.ensures in (
      c.told_of-answer.result.1,
      record {
        answer = Err c.in_err-text.field-0.0;
        tells = retold told (λ left may so. so) (λ l. l);
        printed = (search rules, refl);
      },
    )

pub returns : goal.returns
returns g c =
    let told = rw c.in_ok-text.was at c.told_of-answer.ensures in (
      c.told_of-answer.result.1,
      record {
        answer = Ok c.in_ok-text.text.items;
        tells = retold told (λ left may so. so) (λ l. l);
        printed = (record { got = search rules; unfailed = search rules }, search rules);
      },
    )

pub returns-in_err-write_whole : goal.returns-in_err-write_whole
returns-in_err-write_whole g c =
    let told = rw c.in_ok-text.was at c.told_of-answer.ensures in
    let is_its : c.from_residual-in_err-write_whole.result ≡ Err (unhinted Write) = search rules in
    rw is_its (
      c.told_of-answer.result.1,
      record {
        answer = Ok c.in_ok-text.text.items;
        tells = retold told (λ left may so. so) (λ l. l);
        printed = (refl, record { got = search rules; call_failed = search rules });
      },
    )

pub returns-in_err-printed : goal.returns-in_err-printed
returns-in_err-printed g c =
    let told = rw c.in_ok-text.was at c.told_of-answer.ensures in
    let is_its : c.from_residual-in_err-printed.result ≡ Err (unhinted Memory) = search rules in
    rw is_its (
      c.told_of-answer.result.1,
      record {
        answer = Err (unhinted Memory);
        tells = retold told (λ left may so. (tt, refl)) (λ l. l.unfailed);
        printed = (refl, refl);
      },
    )
