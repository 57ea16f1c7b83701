use Rattle.std.proofs.Common.{◌≡◌, List, ℕ, Err, take, subst, ◌∙◌, arith, rules}
use Rattle.byte_ends.proofs.Coming.{through_so}
use Rattle.gsi_file.specs.Finding.{FindsLine, IsFound}
use Rattle.gsi_file.specs.ToCome.{IsFileFault}
use Rattle.gsi_file.specs.Window.{unused}
use Rattle.gsi_file.proofs.FaultsToCome.{fault_to_come}
use Rattle.gsi_file.proofs.lines.Lines.find_block.Goals as goal

pub returns-in_err-shape-clause-through : goal.returns-in_err-shape-clause-through
returns-in_err-shape-clause-through g c =
    let self = c.args.self.now in
    let f = c.in-Some.found in
    let kind = c.in_err-shape.field-0.0 in
    let found : IsFound self.room c.find_line.new.buffer f =
    rw c.in-Some.is at c.in_ok-found.ensures.found in
    let fault : IsFileFault (take f.line_length c.find_line.new.buffer) kind =
    subst (λ (line : List ℕ). IsFileFault line kind) (c.line.ensures
    ∙ c.set_line.ensures.line) c.in_err-shape.ensures.fault in
    let is_its : c.from_residual-in_err-shape.result ≡ Err kind = search rules in
    rw is_its (through_so _ _ _ c.in_ok-found.ensures.through
    (λ before after finds.
    let next : FindsLine before after self.room (unused self.window) c.find_line.new.buffer
    f.line_length f.used f.room f.last = rw (c.in-Some.is, c.drop_line.ensures.buffer) at finds in
    fault_to_come self.state self.count self.room f.room (unused self.window)
    c.find_line.new.buffer (unused c.set_line.new.self) before after f kind c.requires
    (omega (arith, self.counted, found.takes)) next fault))
