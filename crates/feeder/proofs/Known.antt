-- The parts of a record are known by their bytes: at most one header, one vocabulary and so on has them.
use Rattle.std.proofs.Common.{◌≡◌, ℕ, ◌/◌, ◌%◌, ◌<◌, Bool, true, false, List, [], ◌∷◌, ◌++◌, length, sym, refl, ap, ◌∙◌, arith, rules}
use Rattle.codec.proofs.Coding.{known_list}
use Rattle.std.specs.List.{list_all}
use Rattle.model.proofs.Vocabularies.{same_vocabulary}
use Rattle.model.specs.Ascents.{fact_numbers}
use Rattle.model.specs.declared.fact.Fact.{Fact}
use Rattle.model.specs.declared.fact.Literal.{Literal}
use Rattle.model.specs.declared.vocabulary.Arity.{Arity}
use Rattle.model.specs.declared.vocabulary.Vocabulary.{Vocabulary}
use Rattle.model.specs.contracts.fact.LiteralCoded3.TheImpl.Laws as literal
use Rattle.model.specs.contracts.vocabulary.ArityCoded1.TheImpl.Laws as arity
use Rattle.model.specs.Facts.{arity_byte}
use Rattle.model.specs.Literals.{fact_bytes, literal_bytes, word_bytes}
use Rattle.std.specs.List.{flat_map}
use Rattle.std.specs.Bool.{then_some}
use Rattle.std.proofs.lemmas.Bool.{false≢true}
use Rattle.codec.specs.Codes.{Decoded}
use Rattle.std.proofs.lemmas.List.Folds.{list_all-map}
use Rattle.feeder.specs.declared.header.Header.{Header}
use Rattle.feeder.specs.Headers.{header_bytes}
use Rattle.feeder.specs.Records.{arity_bytes}
use Rattle.feeder.specs.Verdicts.{HasHeader, HasWords}

-- a test that everything passes
pub all_any : {A : Type 0} (xs : List A) → list_all (λ _. true) xs ≡ true
all_any [] = refl
all_any (x ∷ xs) = all_any xs

-- a list of values that a record can always hold is known by its codes
pub known_plain : {A : Type 0} (code : A → List ℕ) (size : ℕ) → ((x : A) → length (code x) ≡ size) → 0 < size
    → ((x y : A) → code x ≡ code y → x ≡ y) → (xs ys : List A) → flat_map code xs ≡ flat_map code ys → xs ≡ ys
known_plain code size fixed z one xs ys e =
    known_list code (λ _. true) size fixed z (λ x y p q c. one x y c) xs ys (all_any xs) (all_any ys) e

-- more than the law says: one that a record cannot hold is known too
pub header_known : (x y : Header) → header_bytes x ≡ header_bytes y → x ≡ y
header_known x y e = search rules

pub arities_known : (xs ys : List Arity) → flat_map (λ a. arity_byte a ∷ []) xs ≡ flat_map (λ a. arity_byte a ∷ []) ys → xs ≡ ys
arities_known = known_plain (λ a. arity_byte a ∷ []) 1 arity.fixed-law (omega arith) (λ x y e. arity.one-law x y refl refl e)

pub words_known : (v w : Vocabulary) → v.objects ≡ w.objects → arity_bytes v ≡ arity_bytes w → v ≡ w
words_known v w o e =
    same_vocabulary v w o (arities_known v.arities w.arities e)

pub header_one : (bytes : List ℕ) (h k : Header) → HasHeader bytes h → HasHeader bytes k → h ≡ k
header_one bytes h k x y = header_known h k (sym x.same ∙ y.same)

pub words_one : (bytes : List ℕ) (h : Header) (v w : Vocabulary) → HasWords bytes h v → HasWords bytes h w → v ≡ w
words_one bytes h v w x y = words_known v w (x.suits.objects ∙ sym y.suits.objects) (sym x.same ∙ y.same)

pub literals_known : (xs ys : List Literal) → flat_map literal_bytes xs ≡ flat_map literal_bytes ys → xs ≡ ys
literals_known = known_plain literal_bytes 3 literal.fixed-law (omega arith) (λ x y e. literal.one-law x y refl refl e)

pub word_known : (x y : ℕ) → word_bytes x ≡ word_bytes y → x ≡ y
word_known x y e =
    let h : x / 256 ≡ y / 256 = cc in
    let l : x % 256 ≡ y % 256 = cc in
    omega arith

pub words_list_known : (xs ys : List ℕ) → flat_map word_bytes xs ≡ flat_map word_bytes ys → xs ≡ ys
words_list_known = known_plain word_bytes 2 (λ n. refl) (omega arith) word_known

-- facts and their numbers have the same bytes
pub fact_codes : (facts : List Fact) → flat_map fact_bytes facts ≡ flat_map word_bytes (fact_numbers facts)
fact_codes [] = refl
fact_codes (f ∷ facts) = ap (λ (t : List ℕ). fact_bytes f ++ t) (fact_codes facts)

-- numbers as facts
pub as_facts : List ℕ → List Fact
as_facts [] = []
as_facts (n ∷ ns) = record { number = n } ∷ as_facts ns

pub as_facts_few : (ns : List ℕ) → length (as_facts ns) ≡ length ns
unfolding as_facts
as_facts_few [] = refl
as_facts_few (n ∷ ns) = omega (arith, as_facts_few ns)

pub as_facts_codes : (ns : List ℕ) → flat_map fact_bytes (as_facts ns) ≡ flat_map word_bytes ns
unfolding as_facts
as_facts_codes [] = refl
as_facts_codes (n ∷ ns) = ap (λ (t : List ℕ). word_bytes n ++ t) (as_facts_codes ns)

-- a test of facts by their numbers
pub all_numbers : (test : ℕ → Bool) (facts : List Fact) → list_all test (fact_numbers facts) ≡ list_all (λ f. test f.number) facts
all_numbers test facts = list_all-map test (λ (f : Fact). f.number) facts

-- a value made of its bytes and then tested
pub decoded_tested : {A : Type 0} (code : A → List ℕ) (proper : A → Bool) → ((x y : A) → code x ≡ code y → x ≡ y)
    → (bytes : List ℕ) (b : Bool) (x : A) → code x ≡ bytes → b ≡ proper x → Decoded code proper bytes (then_some b x)
decoded_tested code proper one bytes true x e p = (e, sym p)
decoded_tested code proper one bytes false x e p =
    λ y q k. false≢true (p ∙ ap proper (one x y (e ∙ sym k)) ∙ q)
