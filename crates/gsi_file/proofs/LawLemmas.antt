-- The lemmas of the laws, by the names of the laws: what proofs of other crates cite.
use Rattle.std.proofs.Common.{◌≡◌, ◌⊎◌, ℕ, List}
use Rattle.gsi_word.specs.Blocks.{GsiBlock, IsBlock}
use Rattle.gsi_word.proofs.LawLemmas as line
use Rattle.gsi_file.specs.ToCome.{IsFileFault}
use Rattle.gsi_file.specs.declared.file_fault.FileKind.{FileKind}
use Rattle.gsi_file.proofs.LineFaultLaws.{one_kind, no_kind, block_or_kind}

-- A line has one fault at most.
pub one_fault : (line : List ℕ) (a b : FileKind)
    → IsFileFault line a → IsFileFault line b → a ≡ b
one_fault = one_kind line.one_fault

-- A line that is a block has no fault.
pub no_fault_in_a_block : (line : List ℕ) (fault : FileKind) (block : GsiBlock)
    → IsFileFault line fault → ¬ IsBlock line block
no_fault_in_a_block = no_kind line.no_fault_in_a_block

-- Each line is a block or has a fault.
pub block_or_fault : (line : List ℕ)
    → ((block : GsiBlock) × IsBlock line block) ⊎ ((fault : FileKind) × IsFileFault line fault)
block_or_fault = block_or_kind line.block_or_fault
