-- What is told, when no word comes any more.
use Rattle.std.proofs.Common.{◌≡◌, Option, Some, None, [], ap, refl, sym, Bool}
use Rattle.std.proofs.Math.Bool.{or-false}
use Rattle.instrument_words.specs.Onto.{onto, instrument_onto}
use Rattle.instrument_words.specs.Instrument.{ContentsValue, InstrumentValue}

-- Where no content comes, all is told.
none_more : (told : Option ContentsValue) → told ≡ onto told []
none_more None = refl
none_more (Some told) = ap (λ (b : Bool). Some (let t : ContentsValue = record {
  first = told.first;
  last = told.last;
  varies = b;
} in t)) (sym (or-false told.varies))

-- And where no block comes.
pub all_told : (r : InstrumentValue) → r ≡ instrument_onto r []
all_told r = λ i. record {
  serial_number = none_more r.serial_number i;
  instrument_type = none_more r.instrument_type i;
  date = none_more r.date i;
  time_format_1 = none_more r.time_format_1 i;
  time_format_2 = none_more r.time_format_2 i;
}
