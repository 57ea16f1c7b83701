use Rattle.report_rows.proofs.text.push_titles.Goals as goal

pub returns : goal.returns
returns g c form =
    rw (
      c.as_slice.ensures,
      c.as_slice-2.ensures,
      c.as_slice-3.ensures,
      c.as_slice-4.ensures,
      c.as_slice-5.ensures,
      c.as_slice-6.ensures,
      c.as_slice-7.ensures,
      c.as_slice-8.ensures,
      c.as_slice-9.ensures,
      c.as_slice-10.ensures,
      c.as_slice-11.ensures,
      c.as_slice-12.ensures,
      c.as_slice-13.ensures,
    ) at (c.write_row.ensures form)
