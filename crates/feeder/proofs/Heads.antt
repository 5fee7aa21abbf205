-- A header made from eleven bytes has them as its code.
use Rattle.std.proofs.Common.{◌≡◌, ℕ, ◌+◌, ◌*◌, ◌<◌, List, [], ◌∷◌, length, get_or, ap, ◌∙◌}
use Rattle.codec.proofs.Coding.{spelled_all}
use Rattle.model.proofs.Words.{word_made}
use Rattle.model.specs.Literals.{word_bytes}
use Rattle.feeder.specs.declared.header.BookKind.{BookKind}
use Rattle.feeder.specs.declared.header.PlantKind.{PlantKind}
use Rattle.feeder.specs.Headers.{book_byte, header_bytes, plant_byte}

pub header_made : (p : PlantKind) (b : BookKind) (bs : List ℕ) (first : ℕ) → length bs ≡ 11 → get_or bs 0 0 ≡ 1 → plant_byte p ≡ get_or bs 1 0
    → book_byte b ≡ get_or bs 5 0 → get_or bs 10 0 < 256 → first ≡ get_or bs 9 0 * 256 + get_or bs 10 0
    → header_bytes
    (record {
      plant = p;
      objects = get_or bs 2 0;
      predicates = get_or bs 3 0;
      rows = get_or bs 4 0;
      book = b;
      rules = get_or bs 6 0;
      goal = get_or bs 7 0;
      limit = get_or bs 8 0;
      first = first;
    })
    ≡ bs
header_made p b bs first l v e f s n =
    let w : word_bytes first ≡ get_or bs 9 0 ∷ (get_or bs 10 0 ∷ []) = ap word_bytes n ∙ word_made (get_or bs 9 0) (get_or bs 10 0) s in
    let all = spelled_all 11 bs l in
    cc
