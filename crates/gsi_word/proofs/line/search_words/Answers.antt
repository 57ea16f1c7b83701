use Rattle.gsi_word.proofs.BlockLaws.{first_index}
use Rattle.gsi_word.proofs.line.search_words.Goals as goal

pub index_of-requires : goal.index_of-requires
index_of-requires c = first_index c.width_of-width.result c.in-Ok.field-0
    c.word_bytes-bytes.result.now c.in-Ok.ensures.kept
