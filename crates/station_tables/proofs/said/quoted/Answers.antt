use Rattle.std.proofs.Common.{◌≡◌, ◌∙◌, ◌++◌, ◌∷◌, ◌==◌, List, ℕ, [], ap, false, get_or, rules, sym, true}
use Rattle.std.specs.Prelude.{if◌then◌else◌}
use Rattle.std.proofs.lemmas.List.{append-nil, drop_all}
use Rattle.station_tables.proofs.QuoteLaws.{all_put, one_more}
use Rattle.station_tables.specs.Said.{doubled}
use Rattle.station_tables.proofs.said.quoted.Goals as goal
use Rattle.station_tables.proofs.said.quoted.Goals.{then-byte-eq-QUOTE, else-byte-eq-QUOTE}

pub bytes-preserved : goal.bytes-preserved
bytes-preserved c =
    let name = c.bytes-byte-items.result.now in
    let put : c.if-byte-eq-QUOTE.quoted.items
    ≡ c.bytes.quoted.items ++ (if get_or name c.bytes.byte-index 0 == 34 then 34 ∷ [] else []) =
    elim c.if-byte-eq-QUOTE.branch [
      | then-byte-eq-QUOTE w ↦
          let yes : (get_or name c.bytes.byte-index 0 == 34) ≡ true = search rules in
          rw (w.quoted-is, yes) (search rules)
      | else-byte-eq-QUOTE w ↦
          let no : (get_or name c.bytes.byte-index 0 == 34) ≡ false = search rules in
          rw (w.quoted-is, no) (sym (append-nil c.bytes.quoted.items))
    ] in
    record {
      whole = one_more name c.bytes.quoted.items c.if-byte-eq-QUOTE.quoted.items
          c.try_push-in-bytes.new.self.items _ c.bytes.byte-index (search rules) put (search rules)
          c.bytes.invariant.whole;
      room = search rules;
    }

pub returns : goal.returns
returns c =
    let none = drop_all c.bytes.byte-index c.bytes-byte-items.result.now (search rules) in
    let all = all_put c.bytes.quoted.items _ (rw none at c.bytes.invariant.whole) in
    let pushed : c.try_push-2.new.self.items ≡ c.bytes.quoted.items ++ (34 ∷ []) = search rules in
    pushed ∙ ap (λ (t : List ℕ). t ++ (34 ∷ [])) all
    ∙ ap (λ (n : List ℕ). 34 ∷ (doubled n ++ (34 ∷ []))) c.bytes-byte-items.ensures.value
