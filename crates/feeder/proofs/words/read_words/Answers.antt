use Rattle.std.proofs.Common.{◌+◌, refl}
use Rattle.feeder.proofs.Steps.{slice_part, words_read}
use Rattle.feeder.proofs.words.read_words.Goals as goal

pub returns : goal.returns
returns c =
    let bytes = c.args.bytes.now in
    let h = c.args.header.now in
    rw c.ok_or.ensures.value
    (words_read bytes _ h c.words_of.result (slice_part bytes 11 (11 + h.predicates) 11 h.predicates refl refl) c.requires.head c.requires.before c.words_of.ensures)
