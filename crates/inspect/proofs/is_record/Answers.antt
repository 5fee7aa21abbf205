-- The front of the buffer is the record, and the test compares it with the bytes.
use Rattle.std.proofs.Common.{◌≡◌, ℕ, ◌≤◌, List, length, take, drop, replicate, Ok, Decides, ap, ◌∙◌, subst, sym, arith}
use Rattle.codec.specs.Codes.{answered, held}
use Rattle.feeder.specs.declared.refusal.WriteRefusal.TheVariants.{Short}
use Rattle.feeder.specs.Records.{encode}
use Rattle.std.proofs.lemmas.Bool.{cond-true, le-leb}
use Rattle.std.proofs.lemmas.Bool.Decides.{Decides-eqb}
use Rattle.std.proofs.lemmas.List.{take_at}
use Rattle.std.proofs.lemmas.Slice.Eq.{slice_eq-Decides}
use Rattle.inspect.proofs.is_record.Goals as goal

-- a text that fits into a buffer is the front that is answered
front : (text out after : List ℕ) (n : ℕ) → length text ≤ length out → Ok n ≡ answered Short text out → after ≡ held text out → take n after ≡ text
front text out after n room q h =
    let fits = le-leb (length text) (length out) room in
    let same : Ok n ≡ Ok (length text) = q ∙ cond-true _ _ _ fits in
    let e : n ≡ length text = cc in
    ap (take n) (h ∙ cond-true _ _ _ fits) ∙ take_at text (drop (length text) out) n (omega arith)

pub returns : goal.returns
returns c =
    let written = c.write.ensures in
    subst (λ (t : List ℕ). Decides c.eq.result (t ≡ c.args.bytes.now))
    (front (encode c.args.feeder.now) (replicate 2915 0) _ _ written.bound (sym c.unwrap-length.ensures ∙ written.answers) written.after)
    (slice_eq-Decides Decides-eqb _ _ _ c.eq.ensures)
