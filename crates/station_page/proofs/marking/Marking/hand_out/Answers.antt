use Rattle.std.proofs.Common.{inl, inr, refl, rules}
use Rattle.station_page.specs.Texts.{bytes_in}
use Rattle.station_page.proofs.marking.Marking.hand_out.Goals as goal

pub returns-in-Ok-clause-copy : goal.returns-in-Ok-clause-copy
returns-in-Ok-clause-copy c = record {
  shows = inl (record {
    beginnings = c.in-Some.beginnings;
    are_beginnings = c.in-Some.ensures.stated;
    copy = bytes_in c.in-Ok.copy;
    text = c.in-Ok.text.items;
    marks = c.in-Ok.ensures.marks;
    status = c.hand_out_copy-status.result;
    hands_copy_out = search rules;
    hands_text_out = search rules;
  });
  leaves = search rules;
}

pub returns-in-Err-Wrong-clause-copy : goal.returns-in-Err-Wrong-clause-copy
returns-in-Err-Wrong-clause-copy c = record {
  shows = inr (inr (record {
    none = λ beginnings stated begun.
        c.in-Err-Wrong.ensures.wrong c.in-Err-Wrong.field-0-is stated;
    status = refl;
    no_copy = refl;
    none_told = refl;
  }));
  leaves = search rules;
}
