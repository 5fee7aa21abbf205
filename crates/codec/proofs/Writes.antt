-- Writing one text after another into a buffer leaves the joined text, and behind it what the buffer held.
use Rattle.std.proofs.Common.{◌≡◌, ℕ, ◌+◌, ◌<◌, ◌≤◌, List, [], ◌∷◌, ◌++◌, length, take, drop, set, sym, refl, ap, ◌∙◌, add-zero, add-one, arith, length-append, take-append-drop}
use lib.Seq.{paste}
use Rattle.std.proofs.lemmas.List.Edits.{paste_all, paste-paste, length-paste}
use Rattle.std.proofs.lemmas.List.{set_split}
use Rattle.std.specs.Prelude.{Option, Some, None}
use Rattle.codec.specs.Codes.{written}
use base.Fml.{GName}
use Rattle.codec.specs.Writing.{Wrote, WroteFrom}
use Rattle.codec.specs.declared.writer.Writer.{Writer}

pub as_paste : (out : List ℕ) (at : ℕ) (text : List ℕ) → paste out at text (length text) ≡ written out at text
as_paste out at text = paste_all out at text (length text) refl

pub written_none : (out : List ℕ) (at : ℕ) → out ≡ written out at []
written_none out at = sym (take-append-drop at out) ∙ ap (λ (k : ℕ). take at out ++ drop k out) (sym (add-zero at))

pub written_more : (out : List ℕ) (at : ℕ) (a b : List ℕ) → at ≤ length out → written (written out at a) (at + length a) b ≡ written out at (a ++ b)
written_more out at a b h =
    let l : length a + length b ≡ length (a ++ b) = sym (length-append a b) in
    sym (as_paste (written out at a) (at + length a) b)
    ∙ ap (λ (o : List ℕ). paste o (at + length a) b (length b)) (sym (as_paste out at a))
    ∙ paste-paste out at a b (length a) (length b) refl refl h
    ∙ ap (λ (n : ℕ). paste out at (a ++ b) n) l
    ∙ as_paste out at (a ++ b)

pub length_written : (out : List ℕ) (at : ℕ) (a : List ℕ) → at + length a ≤ length out → length (written out at a) ≡ length out
length_written out at a h = ap length (sym (as_paste out at a)) ∙ length-paste out at a (length a) h (omega arith)

pub written_byte : (out : List ℕ) (i b : ℕ) → i < length out → set out i b ≡ written out i (b ∷ [])
written_byte out i b h = set_split out i b h ∙ ap (λ (n : ℕ). take i out ++ (b ∷ drop n out)) (sym (add-one i))

-- what is written behind a text joins it
pub wrote_more : (name : GName) (out : List ℕ) (at : ℕ) (mid after : Writer) (a b : List ℕ) (r : Option (Unit {0})) → WroteFrom name out at a mid (Some tt)
    → Wrote mid b after r → WroteFrom name out at (a ++ b) after r
wrote_more name out at mid after a b (Some _) u v =
    let k : at + length a ≤ length out = omega (arith, u.2, u.3) in
    let l : length mid.out.now ≡ length out = ap length u.1 ∙ length_written out at a k in (
      v.0 ∙ u.0,
      v.1
          ∙ ap (λ (o : List ℕ). written o mid.at b) u.1
          ∙ ap (λ (n : ℕ). written (written out at a) n b) u.2
          ∙ written_more out at a b (omega (arith, k)),
      omega (arith, u.2, v.2, length-append a b),
      omega (arith, v.3, l),
    )
wrote_more name out at mid after a b None u v =
    let k : at + length a ≤ length out = omega (arith, u.2, u.3) in
    let l : length mid.out.now ≡ length out = ap length u.1 ∙ length_written out at a k in
    (v.0 ∙ u.0, omega (arith, v.1, l, u.2, length-append a b))
