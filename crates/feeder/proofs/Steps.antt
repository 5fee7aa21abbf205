-- One step of reading: what is found in a part passes its check, and where nothing is found the check fails, since the
-- header and the vocabulary of a record are the only ones.
use Rattle.std.proofs.Common.{◌≡◌, ℕ, ◌+◌, ◌-◌, List, take, drop, Bool, true, false, Some, None, Option, sym, refl, ap, ◌∙◌, subst, arith}
use Rattle.model.specs.declared.vocabulary.Vocabulary.{Vocabulary}
use Rattle.feeder.specs.declared.header.Header.{Header}
use Rattle.feeder.specs.declared.refusal.ReadRefusal.{ReadRefusal}
use Rattle.feeder.specs.declared.refusal.ReadRefusal.TheVariants.{Predicates}
use Rattle.feeder.specs.Records.{arity_bytes}
use Rattle.feeder.specs.Refusals.{read_number}
use Rattle.feeder.specs.Verdicts.{Check, Found, HasHeader, HasWith, HasWords, PartRead, Passed, Refused, Step, SuitWords, part, words_part}
use Rattle.feeder.proofs.Checks.{passed_more}
use Rattle.feeder.proofs.Known.{header_one, words_one}
use Rattle.std.specs.Option.{ok_or}
use Rattle.std.specs.Bool.{then_some}
use Rattle.std.proofs.lemmas.Bool.{false≢true}

-- a slice of the record, as the code cuts it and as the definitions have it
pub slice_part : (bytes : List ℕ) (a b from size : ℕ) → a ≡ from → b ≡ from + size → take (b - a) (drop a bytes) ≡ part from size bytes
slice_part bytes a b from size e f =
    let n : b - a ≡ size = omega arith in
    ap (λ (k : ℕ). take k (drop a bytes)) n ∙ ap (λ (k : ℕ). take size (drop k bytes)) e

-- the answer of reading a part, at the part as the definitions have it
pub read_same : {A : Type 0} (Suits : A → Type 0) (code : A → List ℕ) (a b : List ℕ) (r : Option A) → a ≡ b → PartRead Suits code a r → PartRead Suits code b r
read_same Suits code a b r e p = subst (λ (t : List ℕ). PartRead Suits code t r) e p

pub words_refused : (bytes : List ℕ) (h : Header) → HasHeader bytes h → Passed 5 bytes → ((v : Vocabulary) → HasWords bytes h v → ⊥)
    → Refused Predicates bytes
words_refused bytes h head p none =
    record {
      before = p;
      fails = λ k. none k.1 (subst (λ (g : Header). HasWords bytes g k.1) (header_one bytes k.0 h k.2 head) k.3);
    }

pub none_with : {A : Type 0} (bytes : List ℕ) (h : Header) (v : Vocabulary) (Has : Header → Vocabulary → A → Type 0)
    → HasHeader bytes h → HasWords bytes h v → ((x : A) → Has h v x → ⊥) → HasWith bytes Has → ⊥
none_with bytes h v Has head words none k =
    let e : k.0 ≡ h = header_one bytes k.0 h k.3 head in
    let w : HasWords bytes h k.1 = subst (λ (g : Header). HasWords bytes g k.1) e k.4 in
    let x : Has h k.1 k.2 = subst (λ (g : Header). Has g k.1 k.2) e k.5 in
    none k.2 (subst (λ (u : Vocabulary). Has h u k.2) (words_one bytes h k.1 v w words) x)

-- Reading a part: its check passes where a value is found in it, and else fails.
pub step_read : {A : Type 0} (bytes : List ℕ) (h : Header) (v : Vocabulary) (Suits : Header → Vocabulary → A → Type 0) (code : A → List ℕ)
    (part : Header → List ℕ) (e : ReadRefusal) (o : Option A)
    → (HasWith bytes (λ h v. Found (Suits h v) code (part h)) → Check e bytes)
    → (Check e bytes → HasWith bytes (λ h v. Found (Suits h v) code (part h)))
    → HasHeader bytes h → HasWords bytes h v → Passed (read_number e) bytes → PartRead (Suits h v) code (part h) o
    → Step bytes (Found (Suits h v) code (part h)) (read_number e + 1) (ok_or o e)
step_read bytes h v Suits code part e (Some x) into out head words before p =
    (p, passed_more bytes e before (into (h, v, x, head, words, p)))
step_read bytes h v Suits code part e None into out head words before p =
    record { before = before; fails = λ k. none_with bytes h v (λ h v. Found (Suits h v) code (part h)) head words p (out k) }

-- a value made of a part's bytes and then tested: where the test fails, none is found
pub part_tested : {A : Type 0} (Suits : A → Type 0) (code : A → List ℕ) (bytes : List ℕ) (b : Bool) (x : A) → code x ≡ bytes
    → (b ≡ true → Suits x) → ((y : A) → Found Suits code bytes y → b ≡ true) → PartRead Suits code bytes (then_some b x)
part_tested Suits code bytes true x e met only = record { suits = met refl; same = sym e }
part_tested Suits code bytes false x e met only = λ y f. false≢true (only y f)

-- reading the vocabulary: its check passes where one is found, and else fails
pub words_read : (bytes part : List ℕ) (h : Header) (o : Option Vocabulary) → part ≡ words_part h bytes → HasHeader bytes h → Passed 5 bytes
    → PartRead (SuitWords h) arity_bytes part o → Step bytes (HasWords bytes h) 6 (ok_or o Predicates)
words_read bytes part h (Some v) e head before p =
    let w : HasWords bytes h v = read_same (SuitWords h) arity_bytes part (words_part h bytes) (Some v) e p in
    (w, passed_more bytes Predicates before (h, v, head, w))
words_read bytes part h None e head before p =
    words_refused bytes h head before (read_same (SuitWords h) arity_bytes part (words_part h bytes) None e p)
